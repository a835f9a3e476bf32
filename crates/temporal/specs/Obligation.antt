-- What it takes to be an obligation for a tick.
use Rattle.std.specs.Prelude.{◌≡◌, ℕ, ◌<◌, ◌⊎◌}
use Rattle.temporal.specs.Formula.{Formula}
use Rattle.temporal.specs.Formula.Formula.{const, signal, reading, neg, join, next, finally, globally, until}
use Rattle.temporal.specs.Shorten.{negˢ, joinˢ, nextˢ, finallyˢ, globallyˢ, untilˢ, shorten}

-- The open reading p@e stands in the formula.
abbrev pub Open : ℕ → ℕ → Formula → Type 0
Open p e (const b) = ⊥
Open p e (signal q) = ⊥
Open p e (reading q s) = (q ≡ p) × (s ≡ e)
Open p e (neg f) = Open p e f
Open p e (join o f g) = Open p e f ⊎ Open p e g
Open p e (next f) = Open p e f
Open p e (finally f) = Open p e f
Open p e (globally f) = Open p e f
Open p e (until f g) = Open p e f ⊎ Open p e g

-- No open reading stands in the formula.
abbrev pub Closed : Formula → Type 0
Closed f = (p e : ℕ) → Open p e f → ⊥

-- No open reading stands beneath a time sign.
abbrev pub Clear : Formula → Type 0
Clear (const b) = Unit {0}
Clear (signal q) = Unit {0}
Clear (reading q s) = Unit {0}
Clear (neg f) = Clear f
Clear (join o f g) = Clear f × Clear g
Clear (next f) = Closed f
Clear (finally f) = Closed f
Clear (globally f) = Closed f
Clear (until f g) = Closed f × Closed g

-- To shorten it again changes nothing.
abbrev pub Shortened : Formula → Type 0
Shortened f = shorten f ≡ f

-- An obligation for tick s: shortened, its open readings before s, none beneath a time sign.
pub record Obligation (s : ℕ) (f : Formula) : Type 0 where
  pub shortened : Shortened f
  pub before : (p e : ℕ) → Open p e f → e < s
  pub clear : Clear f

-- No open reading.
abbrev pub Never : ℕ → ℕ → Type 0
Never p e = ⊥

-- An obligation by recursion, for any bound P on the open readings.
abbrev pub Proper : (ℕ → ℕ → Type 0) → Formula → Type 0
Proper P (const b) = Unit {0}
Proper P (signal p) = Unit {0}
Proper P (reading p s) = P p s
Proper P (neg f) = Proper P f × (negˢ f ≡ neg f)
Proper P (join o f g) = Proper P f × Proper P g × (joinˢ o f g ≡ join o f g)
Proper P (next f) = Proper Never f × (nextˢ f ≡ next f)
Proper P (finally f) = Proper Never f × (finallyˢ f ≡ finally f)
Proper P (globally f) = Proper Never f × (globallyˢ f ≡ globally f)
Proper P (until f g) = Proper Never f × Proper Never g × (untilˢ f g ≡ until f g)
