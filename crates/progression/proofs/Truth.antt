-- Steps by rows and closings by what is known keep the meaning.
use Rattle.std.proofs.Common.{◌≡◌, ℕ, suc, Bool, T, ◌⊎◌, ◌↔◌, Some, None, Option, sym, refl, subst, inl, inr}
use mathlib.Core.Logic.Iff
use Rattle.temporal.specs.Formula.{Run, Holds}
use Rattle.temporal.specs.Formula.Formula.{const, reading}
use Rattle.temporal.proofs.Meaning.{stepping_keeps_meaning, closing_keeps_meaning}
use Rattle.progression.specs.Readings.{reading_or, known_at, assigned, closed_by, ReadingsKeepMeaning}

true_of : (r : Run) (p s t : ℕ) (o : Option Bool) → ((b : Bool) → o ≡ Some b → r s p ≡ b) → Holds r (reading_or p s o) t ↔ T (r s p)
true_of r p s t (Some b) h = subst (λ x. T b ↔ T x) (sym (h b refl)) Iff.rfl
true_of r p s t None h = Iff.rfl

closes : (p s : ℕ) (o : Option Bool) → ((b : Bool) × (reading_or p s o ≡ const b)) ⊎ (reading_or p s o ≡ reading p s)
closes p s (Some b) = inl (b, refl)
closes p s None = inr refl

pub readings_keep_meaning : ReadingsKeepMeaning
readings_keep_meaning = (
  λ r t row h f. stepping_keeps_meaning r (assigned t row) t (λ p. true_of r p t (suc t) (known_at row p) (h p)) f,
  λ r t known h f. closing_keeps_meaning r (closed_by known) t (λ p s. true_of r p s t (known p s) (h p s)) f,
  λ known p s. closes p s (known p s),
)
