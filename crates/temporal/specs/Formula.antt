-- A formula, and what it means on an endless run.
use Rattle.std.specs.Prelude.{ℕ, suc, ◌<◌, ◌≤◌, Bool, false, T, ◌⊎◌}

pub data Op : Type 0 where
  and or : Op
  deriving Discrete as Op-discrete

-- `reading p s` is the open reading p@s: what signal p was at tick s.
-- `next`, `finally`, `globally` and `until` are the time signs X, F, G and U.
pub data Formula : Type 0 where
  const : Bool → Formula
  signal : ℕ → Formula
  reading : ℕ → ℕ → Formula
  neg : Formula → Formula
  join : Op → Formula → Formula → Formula
  next finally globally : Formula → Formula
  until : Formula → Formula → Formula
  deriving Discrete as Formula-discrete

-- The formula `false`.
abbrev pub never : Formula
never = const false

-- An endless run: which signals are on, by tick, then by signal.
abbrev pub Run : Type 0
Run = ℕ → ℕ → Bool

abbrev pub Both : Op → Type 0 → Type 0 → Type 0
Both and A B = A × B
Both or A B = A ⊎ B

-- The formula holds on the run at tick t.
abbrev pub Holds : Run → Formula → ℕ → Type 0
Holds r (const b) t = T b
Holds r (signal p) t = T (r t p)
Holds r (reading p s) t = T (r s p)
Holds r (neg f) t = Holds r f t → ⊥
Holds r (join o f g) t = Both o (Holds r f t) (Holds r g t)
Holds r (next f) t = Holds r f (suc t)
Holds r (finally f) t = (u : ℕ) × (t ≤ u) × Holds r f u
Holds r (globally f) t = (u : ℕ) → t ≤ u → Holds r f u
Holds r (until f g) t =
    (u : ℕ) × (t ≤ u) × Holds r g u × ((v : ℕ) → t ≤ v → v < u → Holds r f v)
