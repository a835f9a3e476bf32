-- The bytes of a name, and what was made of a text.
use Rattle.std.specs.Prelude.{◌≡◌, ℕ, false, List, take, Ok, Err, Result}
use Rattle.words.specs.Names.{is_name}
use Rattle.words.specs.declared.name.Name.{Name}

abbrev pub name_bytes : Name → List ℕ
name_bytes n = take n.length n.bytes

-- A name is made of a text just if it is one.
abbrev pub NamedBy : {E : Type 0} → List ℕ → Result Name E → Type 0
NamedBy bs (Ok n) = name_bytes n ≡ bs
NamedBy bs (Err e) = is_name bs ≡ false
