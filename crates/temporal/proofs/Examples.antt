-- The worked examples, by computation.
use Rattle.std.proofs.Common.{◌≡◌, ℕ, Bool, true, false, List, [], ◌∷◌, refl, ap, ◌∙◌}
use native.Mathlib.Decide.{ℕ_discrete}
use Rattle.temporal.specs.Shorten.{negˢ, joinˢ}
use Rattle.temporal.specs.Formula.Op.{and}
use Rattle.temporal.specs.Formula.Formula.{const, globally}
use Rattle.temporal.specs.Progress.{step, reads, through}
use Rattle.temporal.proofs.Shortening.{unit_left}
use Rattle.temporal.specs.Examples.{WorkedExamples}

-- `true & G true` is `G true`, at every tick.
always : (x : ℕ → Bool) → step (reads x) (globally (const true)) ≡ globally (const true)
always x = unit_left and (globally (const true))

stays : (xs : List (ℕ → Bool)) → through xs (globally (const true)) ≡ globally (const true)
stays [] = refl
stays (x ∷ xs) = ap (through xs) (always x) ∙ stays xs

pub worked_examples : WorkedExamples
unfolding negˢ joinˢ ℕ_discrete
worked_examples = (
  λ b. (refl, refl),
  refl,
  refl,
  elim [ true ↦ refl | false ↦ refl ],
  λ a b. refl,
  λ b. refl,
  λ b c. refl,
  refl,
  refl,
  elim [ true ↦ λ b. refl | false ↦ λ b. refl ],
  stays,
)
