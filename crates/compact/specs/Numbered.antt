-- Parts that are being numbered by the walk, and written in its order.
use Rattle.std.specs.Prelude.{◌≡◌, ℕ, ◌<◌, ◌≤◌, List, length, Some, None, Option, slice_index_or}
use Rattle.temporal.specs.Formula.{Formula}
use Rattle.temporal.specs.Parts.{In, Distinct, Whole}
use Rattle.parts.specs.Places.{formula, formulas, OperandsFirst, Stands}
use Rattle.parts.specs.declared.part.Part.{Part}

-- Of the table ps those parts are written to qs that have a number in ns.
pub record Numbered (ps : List Part) (ns : List (Option ℕ)) (qs : List Part) : Type 0 where
  pub long : length ps ≤ length ns
  pub ordered : OperandsFirst qs
  pub distinct : Distinct (formulas qs)
  pub whole : Whole (formulas qs)
  pub within : (g : Formula) → In g (formulas qs) → In g (formulas ps)
  pub number : (k n : ℕ) → k < length ps → slice_index_or ns k None ≡ Some n → Stands qs (formula ps k) n
  pub none : (k : ℕ) → k < length ps → slice_index_or ns k None ≡ None → In (formula ps k) (formulas qs) → ⊥
