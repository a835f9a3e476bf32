-- What a pass over the parts of a table has made so far.
use Rattle.std.specs.Prelude.{ℕ, ◌<◌, List, slice_index}
use Rattle.temporal.specs.Formula.{Formula}
use Rattle.temporal.specs.Formula.Op.{and, or}
use Rattle.temporal.specs.Shorten.{negˢ, joinˢ}
use Rattle.parts.specs.Places.{op, formula, Stands}
use Rattle.parts.specs.declared.part.Unary.{Unary}
use Rattle.parts.specs.declared.part.Unary.TheVariants.{Not, Next, Finally, Globally}
use Rattle.parts.specs.declared.part.Binary.{Binary}
use Rattle.parts.specs.declared.part.Binary.TheVariants.{Join, Until}
use Rattle.parts.specs.declared.part.Part.{Part}

-- What a rewriting made of the first n parts: each image stands in the table.
abbrev pub Imaged : (Formula → Formula) → List Part → List ℕ → ℕ → Type 0
Imaged to ps images n = (k : ℕ) → k < n → Stands ps (to (formula ps k)) (slice_index images k)

-- What a step makes of a sign: whole is the formula, x and y what its operands a and b became.
abbrev pub stepped_one : Unary → Formula → Formula → Formula → Formula
stepped_one Not whole a x = negˢ x
stepped_one Next whole a x = a
stepped_one Finally whole a x = joinˢ or x whole
stepped_one Globally whole a x = joinˢ and x whole

abbrev pub stepped_two : Binary → Formula → Formula → Formula → Formula
stepped_two (Join o) whole x y = joinˢ (op o) x y
stepped_two Until whole x y = joinˢ or y (joinˢ and x whole)
