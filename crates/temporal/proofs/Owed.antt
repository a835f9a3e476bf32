-- An obligation is a proper formula, and what follows of closing it.
use Rattle.std.proofs.Common.{◌≡◌, ℕ, suc, ◌<◌, Bool, ◌⊎◌, sym, refl, ap, ◌∙◌, subst, ap₂, inl, inr, arith}
use Rattle.temporal.specs.Formula.{Formula}
use Rattle.temporal.specs.Formula.Formula.{const, signal, reading, neg, join, next, finally, globally, until}
use Rattle.temporal.specs.Shorten.{negˢ, joinˢ, nextˢ, finallyˢ, globallyˢ, untilˢ, shorten}
use Rattle.temporal.specs.Progress.{step, close}
use Rattle.temporal.specs.Obligation.{Open, Closed, Clear, Shortened, Never, Proper}
use Rattle.temporal.specs.Laws.{ShortenedIsOwed, ObligationIsProper, ObligationsLast, ClosingMeetsStepping, ClosingLeavesAlone}
use Rattle.temporal.proofs.Proper.{widened, open_in, step_proper, neg_proper, join_proper, next_proper, finally_proper, globally_proper, until_proper, close_same, close_step}

-- Any open reading.
abbrev pub Any : ℕ → ℕ → Type 0
Any p e = Unit {0}

-- What is proper is shortened and has nothing open beneath a time sign ..
pub proper_shortened : (P : ℕ → ℕ → Type 0) (f : Formula) → Proper P f → Shortened f
proper_shortened P (const b) w = refl
proper_shortened P (signal p) w = refl
proper_shortened P (reading p s) w = refl
proper_shortened P (neg f) w = ap negˢ (proper_shortened P f w.0) ∙ w.1
proper_shortened P (join o f g) w =
    ap₂ (joinˢ o) (proper_shortened P f w.0) (proper_shortened P g w.1) ∙ w.2
proper_shortened P (next f) w = ap nextˢ (proper_shortened Never f w.0) ∙ w.1
proper_shortened P (finally f) w = ap finallyˢ (proper_shortened Never f w.0) ∙ w.1
proper_shortened P (globally f) w = ap globallyˢ (proper_shortened Never f w.0) ∙ w.1
proper_shortened P (until f g) w =
    ap₂ untilˢ (proper_shortened Never f w.0) (proper_shortened Never g w.1) ∙ w.2

never_closed : (f : Formula) → Proper Never f → Closed f
never_closed f w = open_in Never f w

pub proper_clear : (P : ℕ → ℕ → Type 0) (f : Formula) → Proper P f → Clear f
proper_clear P (const b) w = tt
proper_clear P (signal p) w = tt
proper_clear P (reading p s) w = tt
proper_clear P (neg f) w = proper_clear P f w.0
proper_clear P (join o f g) w = (proper_clear P f w.0, proper_clear P g w.1)
proper_clear P (next f) w = never_closed f w.0
proper_clear P (finally f) w = never_closed f w.0
proper_clear P (globally f) w = never_closed f w.0
proper_clear P (until f g) w = (never_closed f w.0, never_closed g w.1)

pub closed_clear : (f : Formula) → Closed f → Clear f
closed_clear (const b) h = tt
closed_clear (signal p) h = tt
closed_clear (reading p s) h = tt
closed_clear (neg f) h = closed_clear f h
closed_clear (join o f g) h = (closed_clear f (λ p e k. h p e (inl k)), closed_clear g (λ p e k. h p e (inr k)))
closed_clear (next f) h = h
closed_clear (finally f) h = h
closed_clear (globally f) h = h
closed_clear (until f g) h = (λ p e k. h p e (inl k), λ p e k. h p e (inr k))

-- .. and shortening makes it so, of what has nothing open beneath a time sign.
pub shorten_proper : (P : ℕ → ℕ → Type 0) (f : Formula) → Clear f → ((p e : ℕ) → Open p e f → P p e) → Proper P (shorten f)
shorten_proper P (const b) c h = tt
shorten_proper P (signal p) c h = tt
shorten_proper P (reading p s) c h = h p s (refl, refl)
shorten_proper P (neg f) c h = neg_proper P (shorten f) (shorten_proper P f c h)
shorten_proper P (join o f g) c h =
    join_proper P o (shorten f) (shorten g)
    (shorten_proper P f c.0 (λ p e j. h p e (inl j))) (shorten_proper P g c.1 (λ p e j. h p e (inr j)))
shorten_proper P (next f) c h = next_proper P (shorten f) (shorten_proper Never f (closed_clear f c) c)
shorten_proper P (finally f) c h = finally_proper P (shorten f) (shorten_proper Never f (closed_clear f c) c)
shorten_proper P (globally f) c h = globally_proper P (shorten f) (shorten_proper Never f (closed_clear f c) c)
shorten_proper P (until f g) c h =
    until_proper P (shorten f) (shorten g)
    (shorten_proper Never f (closed_clear f c.0) c.0) (shorten_proper Never g (closed_clear g c.1) c.1)

pub shortened_proper : (P : ℕ → ℕ → Type 0) (f : Formula) → Shortened f → Clear f → ((p e : ℕ) → Open p e f → P p e) → Proper P f
shortened_proper P f s c h = rw s at (shorten_proper P f c h)

pub obligation_is_proper : ObligationIsProper
obligation_is_proper s f = (
  λ o. shortened_proper (λ p e. e < s) f o.shortened o.clear o.before,
  λ w. record {
    shortened = proper_shortened (λ p e. e < s) f w;
    before = open_in (λ p e. e < s) f w;
    clear = proper_clear (λ p e. e < s) f w;
  },
)

pub shortened_is_owed : ShortenedIsOwed
shortened_is_owed f c =
    (obligation_is_proper 0 (shorten f)).1
    (shorten_proper (λ p e. e < 0) f (closed_clear f c) (λ p e k. absurd (c p e k)))

pub closing_leaves_alone : ClosingLeavesAlone
closing_leaves_alone ρ f s c h =
    close_same (λ p e. ρ p e ≡ reading p e) ρ (λ p e k. k) f (shortened_proper (λ p e. ρ p e ≡ reading p e) f s c h)

pub closing_meets_stepping : ClosingMeetsStepping
closing_meets_stepping ρ closes σ f s c =
    let τ : ℕ → Formula = λ p. close ρ (σ p) in
    close_step ρ σ τ (λ p. refl) (λ p e. stays τ (ρ p e) (closes p e)) Any f (shortened_proper Any f s c (λ p e k. tt))
  where
    stays : (τ : ℕ → Formula) {p e : ℕ} (g : Formula) → ((b : Bool) × (g ≡ const b)) ⊎ (g ≡ reading p e) → step τ g ≡ g
    stays τ g (inl w) = ap (step τ) w.1 ∙ sym w.1
    stays τ g (inr q) = ap (step τ) q ∙ sym q

-- A closing keeps a formula proper.
close_proper : (P : ℕ → ℕ → Type 0) (ρ : ℕ → ℕ → Formula) → ((p e : ℕ) → P p e → Proper P (ρ p e)) → (f : Formula) → Proper P f → Proper P (close ρ f)
close_proper P ρ h (const b) w = tt
close_proper P ρ h (signal p) w = tt
close_proper P ρ h (reading p s) w = h p s w
close_proper P ρ h (neg f) w = neg_proper P (close ρ f) (close_proper P ρ h f w.0)
close_proper P ρ h (join o f g) w =
    join_proper P o (close ρ f) (close ρ g) (close_proper P ρ h f w.0) (close_proper P ρ h g w.1)
close_proper P ρ h (next f) w = w
close_proper P ρ h (finally f) w = w
close_proper P ρ h (globally f) w = w
close_proper P ρ h (until f g) w = w

leaf_proper : (P : ℕ → ℕ → Type 0) (p e : ℕ) (g : Formula) → P p e → ((b : Bool) × (g ≡ const b)) ⊎ (g ≡ reading p e) → Proper P g
leaf_proper P p e g k (inl w) = subst (Proper P) (sym w.1) tt
leaf_proper P p e g k (inr q) = subst (Proper P) (sym q) k

pub obligations_last : ObligationsLast
obligations_last s f o =
    let w = (obligation_is_proper s f).0 o in (
      λ σ h. (obligation_is_proper (suc s) (step σ f)).1
          (step_proper (λ p e. e < suc s) σ (λ p. leaf_proper (λ q e. e < suc s) p s (σ p) (omega arith) (h p)) f
          (widened (λ p e. e < s) (λ p e. e < suc s) (λ p e l. (let k : e < suc s = omega arith in k)) f w)),
      λ ρ closes. (obligation_is_proper s (close ρ f)).1
          (close_proper (λ p e. e < s) ρ (λ p e l. leaf_proper (λ q d. d < s) p e (ρ p e) l (closes p e)) f w),
    )
