-- Progression by one tick, and the closing of open readings.
use Rattle.std.specs.Prelude.{◌≡◌, ℕ, Bool, ◌⊎◌, List, [], ◌∷◌}
use Rattle.temporal.specs.Formula.{Formula}
use Rattle.temporal.specs.Formula.Op.{and, or}
use Rattle.temporal.specs.Formula.Formula.{const, signal, reading, neg, join, next, finally, globally, until}
use Rattle.temporal.specs.Shorten.{negˢ, joinˢ}

-- One step: the signal p becomes σ p, what is said of now is rewritten, what is said of later stays.
abbrev pub step : (ℕ → Formula) → Formula → Formula
step σ (const b) = const b
step σ (signal p) = σ p
step σ (reading p s) = reading p s
step σ (neg f) = negˢ (step σ f)
step σ (join o f g) = joinˢ o (step σ f) (step σ g)
step σ (next f) = f
step σ (finally f) = joinˢ or (step σ f) (finally f)
step σ (globally f) = joinˢ and (step σ f) (globally f)
step σ (until f g) = joinˢ or (step σ g) (joinˢ and (step σ f) (until f g))

-- Closing: each open reading p@s that stands beneath no time sign becomes ρ p s.
abbrev pub close : (ℕ → ℕ → Formula) → Formula → Formula
close ρ (const b) = const b
close ρ (signal p) = signal p
close ρ (reading p s) = ρ p s
close ρ (neg f) = negˢ (close ρ f)
close ρ (join o f g) = joinˢ o (close ρ f) (close ρ g)
close ρ (next f) = next f
close ρ (finally f) = finally f
close ρ (globally f) = globally f
close ρ (until f g) = until f g

-- ρ makes a constant of an open reading, or leaves it.
abbrev pub Closes : (ℕ → ℕ → Formula) → Type 0
Closes ρ = (p s : ℕ) → ((b : Bool) × (ρ p s ≡ const b)) ⊎ (ρ p s ≡ reading p s)

-- What one reading of every signal makes of a signal.
abbrev pub reads : (ℕ → Bool) → ℕ → Formula
reads a p = const (a p)

-- Progression through readings of every signal, the earliest first.
abbrev pub through : List (ℕ → Bool) → Formula → Formula
through [] f = f
through (x ∷ xs) f = through xs (step (reads x) f)
