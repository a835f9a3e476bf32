-- What a rule is, over n signals: shortened, without open readings, its signals below n, of at most 64 parts.
use Rattle.std.specs.Prelude.{◌≡◌, ℕ, ◌<◌, Bool, true, false, cond, ◌↔◌, List, length, Some, None, Option, nat_lt}
use Rattle.std.specs.List.{list_all}
use Rattle.temporal.specs.Formula.{Formula}
use Rattle.temporal.specs.Formula.Formula.{const, signal, reading, neg, join, next, finally, globally, until}
use Rattle.temporal.specs.Obligation.{Closed}
use Rattle.temporal.specs.Parts.{Part as PartOf, parts}
use Rattle.parts.specs.declared.part.Part.{Part}
use Rattle.parts.specs.declared.part.Part.TheVariants.{Const, Signal, Open, One, Two}
use Rattle.rule.specs.declared.misfit.Misfit.{Misfit}
use Rattle.rule.specs.declared.misfit.Misfit.TheVariants.{Signals, Parts, Leaf}

-- A part that may stand in a rule over n signals.
abbrev pub plain : ℕ → Formula → Bool
plain n (const b) = true
plain n (signal p) = nat_lt p n
plain n (reading p s) = false
plain n (neg f) = true
plain n (join o f g) = true
plain n (next f) = true
plain n (finally f) = true
plain n (globally f) = true
plain n (until f g) = true

-- The same, seen from the part.
abbrev pub plain_part : ℕ → Part → Bool
plain_part n (Const b) = true
plain_part n (Signal p) = nat_lt p n
plain_part n (Open p s) = false
plain_part n (One u a) = true
plain_part n (Two b x y) = true

abbrev pub all_plain : ℕ → List Formula → Bool
all_plain n fs = list_all (plain n) fs

-- Why a formula is no rule over n signals: the first that fits.
abbrev pub misfit : ℕ → Formula → Option Misfit
misfit n f = cond (nat_lt 32 n) (Some Signals) (cond (nat_lt 64 (length (parts f))) (Some Parts) (cond (all_plain n (parts f)) None (Some Leaf)))

-- That all parts are plain says that nothing is open and that every signal is below n.
abbrev pub PlainMeans : Type 0
PlainMeans =
    (n : ℕ) (f : Formula) → (all_plain n (parts f) ≡ true) ↔ (Closed f × ((p : ℕ) → PartOf (signal p) f → p < n))
