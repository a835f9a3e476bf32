-- What a roster has.
use Rattle.std.specs.Prelude.{◌≡◌, ℕ, List, map, Some, None, Ok, Err, vec_items, Result}
use Rattle.holds.specs.Cases.{Hold, Cases, first_case}
use Rattle.words.specs.declared.name.Name.{Name}
use Rattle.roster.specs.Faults.{answered}
use Rattle.roster.specs.declared.fault.SheetFault.{SheetFault}
use Rattle.words.specs.Named.{name_bytes}
use Rattle.roster.specs.Entries.{Entries, Owned}
use Rattle.roster.specs.declared.roster.Post.{Post}
use Rattle.roster.specs.declared.roster.Signal.{Signal}
use Rattle.roster.specs.declared.roster.Roster.{Roster}

abbrev pub post_name : Post → List ℕ
post_name p = name_bytes p.name

abbrev pub owned : Signal → Owned
owned s = record { name = name_bytes s.name; owner = s.owner }

abbrev pub entries : Roster → Entries
entries r = record { posts = map post_name (vec_items r.posts); signals = map owned (vec_items r.signals) }

-- What a judged text leads to: what is wanted, where no test fits; else the fault of the first that fits.
abbrev pub Judged : {A : Type 0} → Cases Hold → Entries → Entries → Result A SheetFault → Type 0
Judged ts want got (Ok u) = (first_case ts ≡ None) × (got ≡ want)
Judged ts want got (Err f) = first_case ts ≡ Some (answered f)

-- The name that a text is, where no test fits.
abbrev pub NamedFresh : Cases Hold → List ℕ → Result Name SheetFault → Type 0
NamedFresh ts text (Ok n) = (first_case ts ≡ None) × (name_bytes n ≡ text)
NamedFresh ts text (Err f) = first_case ts ≡ Some (answered f)
