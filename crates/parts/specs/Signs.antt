-- The signs, as they are written.
use Rattle.std.specs.Prelude.{ℕ, List, codes}
use Rattle.parts.specs.declared.part.Unary.{Unary}
use Rattle.parts.specs.declared.part.Unary.TheVariants.{Not, Next, Finally, Globally}
use Rattle.parts.specs.declared.part.Binary.{Binary}
use Rattle.parts.specs.declared.part.Binary.TheVariants.{Join, Until}
use Rattle.parts.specs.declared.part.Junction.TheVariants.{And, Or}

abbrev pub unary_sign : Unary → List ℕ
unary_sign Not = codes "!"
unary_sign Next = codes "X"
unary_sign Finally = codes "F"
unary_sign Globally = codes "G"

abbrev pub binary_sign : Binary → List ℕ
binary_sign (Join And) = codes "&"
binary_sign (Join Or) = codes "|"
binary_sign Until = codes "U"
