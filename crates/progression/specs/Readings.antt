-- What is known of the signals, and what it makes of a signal or an open reading.
use Rattle.std.specs.Prelude.{◌≡◌, ℕ, suc, Bool, ◌↔◌, List, Some, None, Option, slice_index_or}
use Rattle.temporal.specs.Formula.{Formula, Run, Holds}
use Rattle.temporal.specs.Progress.{step, close, Closes}
use Rattle.temporal.specs.Formula.Formula.{const, reading}

-- A signal of a row: on, off or not known; one past its end is not known.
abbrev pub known_at : List (Option Bool) → ℕ → Option Bool
known_at row p = slice_index_or row p None

-- Signal p at tick t: its value where it is known, else the open reading.
abbrev pub reading_or : ℕ → ℕ → Option Bool → Formula
reading_or p t (Some b) = const b
reading_or p t None = reading p t

-- What a step at tick t makes of each signal.
abbrev pub assigned : ℕ → List (Option Bool) → ℕ → Formula
assigned t row p = reading_or p t (known_at row p)

-- What closing makes of each open reading.
abbrev pub closed_by : (ℕ → ℕ → Option Bool) → ℕ → ℕ → Formula
closed_by known p s = reading_or p s (known p s)

-- What is known is true of the run.
abbrev pub RowAgrees : Run → ℕ → List (Option Bool) → Type 0
RowAgrees r t row = (p : ℕ) (b : Bool) → known_at row p ≡ Some b → r t p ≡ b

abbrev pub KnownAgrees : Run → (ℕ → ℕ → Option Bool) → Type 0
KnownAgrees r known = (p s : ℕ) (b : Bool) → known p s ≡ Some b → r s p ≡ b

-- A step by a row and a closing by what is known keep the meaning, on every run of which they are true; and a closing makes
-- a constant of an open reading or leaves it.
abbrev pub ReadingsKeepMeaning : Type 0
ReadingsKeepMeaning =
    ((r : Run) (t : ℕ) (row : List (Option Bool)) → RowAgrees r t row → (f : Formula) → Holds r (step (assigned t row) f) (suc t) ↔ Holds r f t)
    × ((r : Run) (t : ℕ) (known : ℕ → ℕ → Option Bool) → KnownAgrees r known → (f : Formula) → Holds r (close (closed_by known) f) t ↔ Holds r f t)
    × ((known : ℕ → ℕ → Option Bool) → Closes (closed_by known))
