-- A rule takes over a formula.
use Rattle.std.specs.Prelude.{◌≡◌, ℕ, Some, None, Ok, Err, Result}
use Rattle.temporal.specs.Formula.{Formula}
use Rattle.compact.specs.Compacts.{formula_of}
use Rattle.rule.specs.Rules.{misfit}
use Rattle.rule.specs.declared.misfit.Misfit.{Misfit}
use Rattle.rule.specs.declared.rule.Rule.{Rule}

-- The formula of a rule.
abbrev pub rule_formula : Rule → Formula
rule_formula r = formula_of r.formula

-- The rule became the formula over n signals; or it is no rule, and nothing changed.
abbrev pub Ruled : {A : Type 0} → Rule → Rule → ℕ → Formula → Result A Misfit → Type 0
Ruled r s n f (Ok u) = (misfit n f ≡ None) × (rule_formula s ≡ f) × (s.signals ≡ n)
Ruled r s n f (Err e) = (misfit n f ≡ Some e) × (s ≡ r)
