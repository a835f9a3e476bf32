-- The earliest open tick of a formula.
use Rattle.std.specs.Prelude.{◌≡◌, ℕ, ◌≤◌, min, Some, None, Option}
use Rattle.temporal.specs.Formula.{Formula}
use Rattle.temporal.specs.Formula.Formula.{const, signal, reading, neg, join, next, finally, globally, until}
use Rattle.temporal.specs.Obligation.{Open, Closed}

-- The earlier of two ticks, each of which may be missing.
abbrev pub earlier : Option ℕ → Option ℕ → Option ℕ
earlier None o = o
earlier (Some a) None = Some a
earlier (Some a) (Some b) = Some (min a b)

abbrev pub earliest : Formula → Option ℕ
earliest (const b) = None
earliest (signal p) = None
earliest (reading p s) = Some s
earliest (neg f) = earliest f
earliest (join o f g) = earlier (earliest f) (earliest g)
earliest (next f) = earliest f
earliest (finally f) = earliest f
earliest (globally f) = earliest f
earliest (until f g) = earlier (earliest f) (earliest g)

-- Without one nothing is open; else some reading is open at it, and none earlier.
abbrev pub EarliestIsFirst : Type 0
EarliestIsFirst =
    (f : Formula) → (earliest f ≡ None → Closed f)
    × ((e : ℕ) → earliest f ≡ Some e → ((p : ℕ) × Open p e f) × ((q d : ℕ) → Open q d f → e ≤ d))
