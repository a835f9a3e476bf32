-- A step by constants brings in no signal and no open reading, shortening no signal.
use Rattle.std.proofs.Common.{◌≡◌, ℕ, Bool, not, ◌⊎◌, refl, ap, ap₂, inl, inr, arith}
use Rattle.temporal.specs.Formula.{Op, Formula}
use Rattle.temporal.specs.Formula.Op.{and, or}
use Rattle.temporal.specs.Formula.Formula.{const, signal, reading, neg, join, next, finally, globally, until}
use Rattle.temporal.specs.Shorten.{zero, negˢ, joinˢ, nextˢ, finallyˢ, globallyˢ, untilˢ, shorten}
use Rattle.temporal.specs.Progress.{step}
use Rattle.temporal.specs.Parts.{Part}
use Rattle.temporal.proofs.Shortening.{Negated, negated, Joined, joined}
use Rattle.temporal.proofs.Shortening.Negated.{turned, prefixed}
use Rattle.temporal.proofs.Shortening.Joined.{left_unit, right_unit, left_zero, right_zero, alike, begun, kept}

-- What shortening can not make.
pub record Bare (x : Formula) : Type 0 where
  pub no_const : (b : Bool) → x ≡ const b → ⊥
  pub no_neg : (f : Formula) → x ≡ neg f → ⊥
  pub no_join : (o : Op) (f g : Formula) → x ≡ join o f g → ⊥

module _ (x : Formula) (bare : Bare x) where
  neg_bare : (f : Formula) → Part x (negˢ f) → Part x f
  neg_bare f = go (negated f)
    where
      go : {k : Formula} → Negated f k → Part x k → Part x f
      go (turned b e) j = absurd (bare.no_const (not b) j)
      go prefixed (inl e) = absurd (bare.no_neg f e)
      go prefixed (inr j) = j

  join_bare : (o : Op) (f g : Formula) → Part x (joinˢ o f g) → Part x f ⊎ Part x g
  join_bare o f g = go (joined o f g)
    where
      go : {k : Formula} → Joined o f g k → Part x k → Part x f ⊎ Part x g
      go (left_unit e) j = inr j
      go (right_unit e) j = inl j
      go (left_zero e) j = absurd (bare.no_const (zero o) j)
      go (right_zero e) j = absurd (bare.no_const (zero o) j)
      go (alike e) j = inl j
      go (begun h e n) j = inr j
      go (kept a) (inl e) = absurd (bare.no_join o f g e)
      go (kept a) (inr j) = j

  pub step_bare : (a : ℕ → Bool) (f : Formula) → Part x (step (λ p. const (a p)) f) → Part x f
  step_bare a (const b) k = k
  step_bare a (signal p) k = absurd (bare.no_const (a p) k)
  step_bare a (reading p s) k = k
  step_bare a (neg f) k = inr (step_bare a f (neg_bare (step (λ p. const (a p)) f) k))
  step_bare a (join o f g) k =
      elim (join_bare o (step (λ p. const (a p)) f) (step (λ p. const (a p)) g) k) [
        | inl j ↦ inr (inl (step_bare a f j))
        | inr j ↦ inr (inr (step_bare a g j))
      ]
  step_bare a (next f) k = inr k
  step_bare a (finally f) k =
      elim (join_bare or (step (λ p. const (a p)) f) (finally f) k) [ inl j ↦ inr (step_bare a f j) | inr j ↦ j ]
  step_bare a (globally f) k =
      elim (join_bare and (step (λ p. const (a p)) f) (globally f) k) [ inl j ↦ inr (step_bare a f j) | inr j ↦ j ]
  step_bare a (until f g) k =
      elim (join_bare or (step (λ p. const (a p)) g) (joinˢ and (step (λ p. const (a p)) f) (until f g)) k) [
        | inl j ↦ inr (inr (step_bare a g j))
        | inr j ↦ elim (join_bare and (step (λ p. const (a p)) f) (until f g) j) [
          | inl i ↦ inr (inl (step_bare a f i))
          | inr i ↦ i
        ]
      ]

pub bare_signal : {p : ℕ} → Bare (signal p)
bare_signal {p} = record {
  no_const = λ b e. (let z : ◌≡◌ {A = ℕ} 0 1 = cc in omega arith);
  no_neg = λ f e. (let z : ◌≡◌ {A = ℕ} 0 1 = cc in omega arith);
  no_join = λ o f g e. (let z : ◌≡◌ {A = ℕ} 0 1 = cc in omega arith);
}

-- Every signal of a shortened formula is one of the formula.
pub shorten_bare : (p : ℕ) (f : Formula) → Part (signal p) (shorten f) → Part (signal p) f
unfolding nextˢ finallyˢ globallyˢ untilˢ
shorten_bare p (const b) k = k
shorten_bare p (signal q) k = k
shorten_bare p (reading q s) k = k
shorten_bare p (neg f) k = inr (shorten_bare p f (neg_bare (signal p) bare_signal (shorten f) k))
shorten_bare p (join o f g) k =
    elim (join_bare (signal p) bare_signal o (shorten f) (shorten g) k) [
      | inl j ↦ inr (inl (shorten_bare p f j))
      | inr j ↦ inr (inr (shorten_bare p g j))
    ]
shorten_bare p (next f) (inl e) = absurd (cc)
shorten_bare p (next f) (inr k) = inr (shorten_bare p f k)
shorten_bare p (finally f) (inl e) = absurd (cc)
shorten_bare p (finally f) (inr k) = inr (shorten_bare p f k)
shorten_bare p (globally f) (inl e) = absurd (cc)
shorten_bare p (globally f) (inr k) = inr (shorten_bare p f k)
shorten_bare p (until f g) (inl e) = absurd (cc)
shorten_bare p (until f g) (inr (inl k)) = inr (inl (shorten_bare p f k))
shorten_bare p (until f g) (inr (inr k)) = inr (inr (shorten_bare p g k))

-- A step depends on what becomes of the signals that are named.
pub step_agree : (σ τ : ℕ → Formula) (f : Formula) → ((p : ℕ) → Part (signal p) f → σ p ≡ τ p) → step σ f ≡ step τ f
step_agree σ τ (const b) h = refl
step_agree σ τ (signal p) h = h p refl
step_agree σ τ (reading p s) h = refl
step_agree σ τ (neg f) h = ap negˢ (step_agree σ τ f (λ p k. h p (inr k)))
step_agree σ τ (join o f g) h =
    ap₂ (joinˢ o) (step_agree σ τ f (λ p k. h p (inr (inl k)))) (step_agree σ τ g (λ p k. h p (inr (inr k))))
step_agree σ τ (next f) h = refl
step_agree σ τ (finally f) h = ap (λ x. joinˢ or x (finally f)) (step_agree σ τ f (λ p k. h p (inr k)))
step_agree σ τ (globally f) h = ap (λ x. joinˢ and x (globally f)) (step_agree σ τ f (λ p k. h p (inr k)))
step_agree σ τ (until f g) h =
    ap₂ (λ y x. joinˢ or y (joinˢ and x (until f g))) (step_agree σ τ g (λ p k. h p (inr (inr k)))) (step_agree σ τ f (λ p k. h p (inr (inl k))))
