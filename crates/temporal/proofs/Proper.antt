-- Proper formulas: what keeps them so, and how closing and stepping meet on them.
use Rattle.std.proofs.Common.{◌≡◌, ℕ, sym, refl, ap, ◌∙◌, ap₂, subst₂, inl, inr}
use Rattle.temporal.specs.Formula.{Op, Formula}
use Rattle.temporal.specs.Formula.Op.{and, or}
use Rattle.temporal.specs.Formula.Formula.{const, signal, reading, neg, join, next, finally, globally, until}
use Rattle.temporal.specs.Shorten.{negˢ, joinˢ, nextˢ, finallyˢ, globallyˢ, untilˢ}
use Rattle.temporal.specs.Progress.{step, close}
use Rattle.temporal.specs.Obligation.{Open, Never, Proper}
use Rattle.temporal.proofs.Shortening.{Negated, negated, Joined, joined}
use Rattle.temporal.proofs.Shortening.Negated.{turned, prefixed}
use Rattle.temporal.proofs.Shortening.Joined.{left_unit, right_unit, left_zero, right_zero, alike, begun, kept}
use Rattle.temporal.proofs.Rebuilding.{step_commutes, close_commutes}

-- Fewer open readings are allowed on the left: those that do stand there are all in Q.
pub narrowed : (P Q : ℕ → ℕ → Type 0) (f : Formula) → Proper P f → ((p e : ℕ) → Open p e f → Q p e) → Proper Q f
narrowed P Q (const b) w h = tt
narrowed P Q (signal p) w h = tt
narrowed P Q (reading p s) w h = h p s (refl, refl)
narrowed P Q (neg f) w h = (narrowed P Q f w.0 h, w.1)
narrowed P Q (join o f g) w h =
    (narrowed P Q f w.0 (λ p e k. h p e (inl k)), narrowed P Q g w.1 (λ p e k. h p e (inr k)), w.2)
narrowed P Q (next f) w h = w
narrowed P Q (finally f) w h = w
narrowed P Q (globally f) w h = w
narrowed P Q (until f g) w h = w

pub open_in : (P : ℕ → ℕ → Type 0) (f : Formula) → Proper P f → (p e : ℕ) → Open p e f → P p e
open_in P (const b) w p e k = absurd k
open_in P (signal q) w p e k = absurd k
open_in P (reading q s) w p e k = subst₂ P k.0 k.1 w
open_in P (neg f) w p e k = open_in P f w.0 p e k
open_in P (join o f g) w p e (inl k) = open_in P f w.0 p e k
open_in P (join o f g) w p e (inr k) = open_in P g w.1 p e k
open_in P (next f) w p e k = absurd (open_in Never f w.0 p e k)
open_in P (finally f) w p e k = absurd (open_in Never f w.0 p e k)
open_in P (globally f) w p e k = absurd (open_in Never f w.0 p e k)
open_in P (until f g) w p e (inl k) = absurd (open_in Never f w.0 p e k)
open_in P (until f g) w p e (inr k) = absurd (open_in Never g w.1 p e k)

pub widened : (P Q : ℕ → ℕ → Type 0) → ((p e : ℕ) → P p e → Q p e) → (f : Formula) → Proper P f → Proper Q f
widened P Q h f w = narrowed P Q f w (λ p e k. h p e (open_in P f w p e k))

module _ (P : ℕ → ℕ → Type 0) where
  pub neg_proper : (f : Formula) → Proper P f → Proper P (negˢ f)
  neg_proper f w = go (negated f) refl
    where
      go : {k : Formula} → Negated f k → negˢ f ≡ k → Proper P k
      go (turned b e) q = tt
      go prefixed q = (w, q)

  pub join_proper : (o : Op) (f g : Formula) → Proper P f → Proper P g → Proper P (joinˢ o f g)
  join_proper o f g v w = go (joined o f g) refl
    where
      go : {k : Formula} → Joined o f g k → joinˢ o f g ≡ k → Proper P k
      go (left_unit e) q = w
      go (right_unit e) q = v
      go (left_zero e) q = tt
      go (right_zero e) q = tt
      go (alike e) q = v
      go (begun h e n) q = w
      go (kept a) q = (v, w, q)

  pub next_proper : (f : Formula) → Proper Never f → Proper P (nextˢ f)
  unfolding nextˢ
  next_proper f w = (w, refl)

  pub finally_proper : (f : Formula) → Proper Never f → Proper P (finallyˢ f)
  unfolding finallyˢ
  finally_proper f w = (w, refl)

  pub globally_proper : (f : Formula) → Proper Never f → Proper P (globallyˢ f)
  unfolding globallyˢ
  globally_proper f w = (w, refl)

  pub until_proper : (f g : Formula) → Proper Never f → Proper Never g → Proper P (untilˢ f g)
  unfolding untilˢ
  until_proper f g v w = (v, w, refl)

  from_never : (f : Formula) → Proper Never f → Proper P f
  from_never = widened Never P (λ p e k. absurd k)

  pub step_proper : (σ : ℕ → Formula) → ((p : ℕ) → Proper P (σ p)) → (f : Formula) → Proper P f → Proper P (step σ f)
  step_proper σ h (const b) w = tt
  step_proper σ h (signal p) w = h p
  step_proper σ h (reading p s) w = w
  step_proper σ h (neg f) w = neg_proper (step σ f) (step_proper σ h f w.0)
  step_proper σ h (join o f g) w =
      join_proper o (step σ f) (step σ g) (step_proper σ h f w.0) (step_proper σ h g w.1)
  step_proper σ h (next f) w = from_never f w.0
  step_proper σ h (finally f) w =
      join_proper or (step σ f) (finally f) (step_proper σ h f (from_never f w.0)) w
  step_proper σ h (globally f) w =
      join_proper and (step σ f) (globally f) (step_proper σ h f (from_never f w.0)) w
  step_proper σ h (until f g) w =
      join_proper or (step σ g) (joinˢ and (step σ f) (until f g)) (step_proper σ h g (from_never g w.1))
      (join_proper and (step σ f) (until f g) (step_proper σ h f (from_never f w.0)) w)

-- Closing leaves a proper formula alone where it leaves each of its open readings alone.
pub close_same : (P : ℕ → ℕ → Type 0) (ρ : ℕ → ℕ → Formula) → ((p s : ℕ) → P p s → ρ p s ≡ reading p s)
    → (f : Formula) → Proper P f → close ρ f ≡ f
close_same P ρ h (const b) w = refl
close_same P ρ h (signal p) w = refl
close_same P ρ h (reading p s) w = h p s w
close_same P ρ h (neg f) w = ap negˢ (close_same P ρ h f w.0) ∙ w.1
close_same P ρ h (join o f g) w =
    ap₂ (joinˢ o) (close_same P ρ h f w.0) (close_same P ρ h g w.1) ∙ w.2
close_same P ρ h (next f) w = refl
close_same P ρ h (finally f) w = refl
close_same P ρ h (globally f) w = refl
close_same P ρ h (until f g) w = refl

-- Closing after a step is the step with more known, after closing.
module _ (ρ : ℕ → ℕ → Formula) (σ τ : ℕ → Formula)
    (learns : (p : ℕ) → close ρ (σ p) ≡ τ p) (stays : (p s : ℕ) → step τ (ρ p s) ≡ ρ p s) where
  never_same : (f : Formula) → Proper Never f → close ρ f ≡ f
  never_same = close_same Never ρ (λ p s k. absurd k)

  pub close_step : (P : ℕ → ℕ → Type 0) (f : Formula) → Proper P f → close ρ (step σ f) ≡ step τ (close ρ f)
  close_step P (const b) w = refl
  close_step P (signal p) w = learns p
  close_step P (reading p s) w = sym (stays p s)
  close_step P (neg f) w =
      (close_commutes ρ).with_neg (step σ f) ∙ ap negˢ (close_step P f w.0) ∙ sym ((step_commutes τ).with_neg (close ρ f))
  close_step P (join o f g) w =
      (close_commutes ρ).with_join o (step σ f) (step σ g)
      ∙ ap₂ (joinˢ o) (close_step P f w.0) (close_step P g w.1)
      ∙ sym ((step_commutes τ).with_join o (close ρ f) (close ρ g))
  close_step P (next f) w = never_same f w.0
  close_step P (finally f) w =
      (close_commutes ρ).with_join or (step σ f) (finally f)
      ∙ ap (λ x. joinˢ or x (finally f)) (close_step Never f w.0 ∙ ap (step τ) (never_same f w.0))
  close_step P (globally f) w =
      (close_commutes ρ).with_join and (step σ f) (globally f)
      ∙ ap (λ x. joinˢ and x (globally f)) (close_step Never f w.0 ∙ ap (step τ) (never_same f w.0))
  close_step P (until f g) w =
      (close_commutes ρ).with_join or (step σ g) (joinˢ and (step σ f) (until f g))
      ∙ ap₂ (joinˢ or) (close_step Never g w.1 ∙ ap (step τ) (never_same g w.1))
      ((close_commutes ρ).with_join and (step σ f) (until f g)
      ∙ ap (λ x. joinˢ and x (until f g)) (close_step Never f w.0 ∙ ap (step τ) (never_same f w.0)))
