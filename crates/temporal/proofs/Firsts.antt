-- The earliest open tick is what its name says.
use Rattle.std.proofs.Common.{◌≡◌, ℕ, ◌≤◌, min, ◌⊎◌, Some, None, Option, refl, subst, inl, inr, arith}
use native.Mathlib.Decide.{dec_le}
use Rattle.temporal.specs.Formula.{Formula}
use Rattle.temporal.specs.Formula.Formula.{const, signal, reading, neg, join, next, finally, globally, until}
use Rattle.temporal.specs.Obligation.{Open}
use Rattle.temporal.specs.Earliest.{earlier, earliest, EarliestIsFirst}

-- What an answer says of the open ticks P.
abbrev First : (ℕ → ℕ → Type 0) → Option ℕ → Type 0
First P None = (p e : ℕ) → P p e → ⊥
First P (Some e) = ((p : ℕ) × P p e) × ((q d : ℕ) → P q d → e ≤ d)

first_of_two : (P Q : ℕ → ℕ → Type 0) (a b : Option ℕ) → First P a → First Q b → First (λ p e. P p e ⊎ Q p e) (earlier a b)
first_of_two P Q None None u v = λ p e k. elim k [ inl j ↦ u p e j | inr j ↦ v p e j ]
first_of_two P Q None (Some b) u v =
    ((v.0.0, inr v.0.1), λ q d k. elim k [ inl j ↦ absurd (u q d j) | inr j ↦ v.1 q d j ])
first_of_two P Q (Some a) None u v =
    ((u.0.0, inl u.0.1), λ q d k. elim k [ inl j ↦ u.1 q d j | inr j ↦ absurd (v q d j) ])
first_of_two P Q (Some a) (Some b) u v =
    (some (dec_le a b), λ q d k. elim k [ inl j ↦ (let h = u.1 q d j in omega arith) | inr j ↦ (let h = v.1 q d j in omega arith) ])
  where
    some : Dec (a ≤ b) → (p : ℕ) × (P p (min a b) ⊎ Q p (min a b))
    some (yes h) = (u.0.0, inl (subst (P u.0.0) (let e : a ≡ min a b = omega arith in e) u.0.1))
    some (no h) = (v.0.0, inr (subst (Q v.0.0) (let e : b ≡ min a b = omega arith in e) v.0.1))

first : (f : Formula) → First (λ p e. Open p e f) (earliest f)
first (const b) = λ p e k. k
first (signal q) = λ p e k. k
first (reading q s) = ((q, (refl, refl)), λ p d k. (let e = k.1 in omega arith))
first (neg f) = first f
first (join o f g) = first_of_two (λ p e. Open p e f) (λ p e. Open p e g) (earliest f) (earliest g) (first f) (first g)
first (next f) = first f
first (finally f) = first f
first (globally f) = first f
first (until f g) = first_of_two (λ p e. Open p e f) (λ p e. Open p e g) (earliest f) (earliest g) (first f) (first g)

pub earliest_is_first : EarliestIsFirst
earliest_is_first f =
    (λ e. subst (First (λ p d. Open p d f)) e (first f), λ d e. subst (First (λ p d. Open p d f)) e (first f))
