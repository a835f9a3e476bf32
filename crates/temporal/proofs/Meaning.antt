-- Shortening, a step and a closing keep the meaning.
use Rattle.std.proofs.Common.{◌≡◌, ℕ, suc, ◌<◌, ◌≤◌, Bool, true, false, cond, not, T, eqb, ◌⊎◌, ◌↔◌, List, [], ◌∷◌, sym, ◌∙◌, subst, inl, inr, arith}
use mathlib.Core.Logic.Iff
use native.Mathlib.Decide.{dec_le}
use Rattle.std.proofs.lemmas.Bool.Decides.{nat_tests}
use Rattle.temporal.specs.Formula.{Op, Formula, Run, Both, Holds}
use Rattle.temporal.specs.Formula.Op.{and, or}
use Rattle.temporal.specs.Formula.Formula.{const, signal, reading, neg, join, next, finally, globally, until}
use Rattle.temporal.specs.Shorten.{unit, zero, negˢ, joinˢ, nextˢ, finallyˢ, globallyˢ, untilˢ, shorten}
use Rattle.temporal.specs.Progress.{step, close, reads, through}
use Rattle.temporal.specs.Laws.{Begins, ShorteningKeepsMeaning, SteppingKeepsMeaning, ClosingKeepsMeaning, VerdictOfEveryRun, RunsAbound, TimeSignsAgree}
use Rattle.temporal.proofs.Shortening.{Negated, negated, Joined, joined}
use Rattle.temporal.proofs.Shortening.Negated.{turned, prefixed}
use Rattle.temporal.proofs.Shortening.Joined.{left_unit, right_unit, left_zero, right_zero, alike, begun, kept}

-- The logic of `Both`.
both_iff : (o : Op) {A B C D : Type 0} → A ↔ C → B ↔ D → Both o A B ↔ Both o C D
both_iff and p q = (λ x. (p.0 x.0, q.0 x.1), λ x. (p.1 x.0, q.1 x.1))
both_iff or p q =
    (elim [ inl a ↦ inl (p.0 a) | inr b ↦ inr (q.0 b) ], elim [ inl c ↦ inl (p.1 c) | inr d ↦ inr (q.1 d) ])

both_unit_left : (o : Op) (A : Type 0) → A ↔ Both o (T (unit o)) A
both_unit_left and A = (λ a. (tt, a), λ x. x.1)
both_unit_left or A = (λ a. inr a, elim [ inl e ↦ absurd e | inr a ↦ a ])

both_unit_right : (o : Op) (A : Type 0) → A ↔ Both o A (T (unit o))
both_unit_right and A = (λ a. (a, tt), λ x. x.0)
both_unit_right or A = (λ a. inl a, elim [ inl a ↦ a | inr e ↦ absurd e ])

both_zero_left : (o : Op) (A : Type 0) → T (zero o) ↔ Both o (T (zero o)) A
both_zero_left and A = (λ e. absurd e, λ x. x.0)
both_zero_left or A = (λ a. inl a, λ x. tt)

both_zero_right : (o : Op) (A : Type 0) → T (zero o) ↔ Both o A (T (zero o))
both_zero_right and A = (λ e. absurd e, λ x. x.1)
both_zero_right or A = (λ a. inr a, λ x. tt)

both_twice : (o : Op) (A : Type 0) → A ↔ Both o A A
both_twice and A = (λ a. (a, a), λ x. x.0)
both_twice or A = (λ a. inl a, elim [ inl a ↦ a | inr a ↦ a ])

both_begun : (o : Op) (A B : Type 0) → Both o A B ↔ Both o A (Both o A B)
both_begun and A B = (λ x. (x.0, x), λ x. x.1)
both_begun or A B = (λ x. inr x, elim [ inl a ↦ inl a | inr x ↦ x ])

module _ (r : Run) where
  pub same_meaning : {f g : Formula} → f ≡ g → (t : ℕ) → Holds r f t ↔ Holds r g t
  same_meaning {f} e t = subst (λ g. Holds r f t ↔ Holds r g t) e Iff.rfl

  pub neg_keeps : (f : Formula) (t : ℕ) → Holds r (negˢ f) t ↔ Holds r (neg f) t
  neg_keeps f t = go (negated f)
    where
      flip : (b : Bool) → T (not b) ↔ (T b → ⊥)
      flip true = (λ e _. e, λ n. n tt)
      flip false = (λ _ e. e, λ _. tt)

      not_iff : {A B : Type 0} → A ↔ B → (A → ⊥) ↔ (B → ⊥)
      not_iff e = (λ n b. n (e.1 b), λ n a. n (e.0 a))

      go : {k : Formula} → Negated f k → Holds r k t ↔ Holds r (neg f) t
      go (turned b e) = Iff.trans (flip b) (not_iff (same_meaning (sym e) t))
      go prefixed = Iff.rfl

  pub join_keeps : (o : Op) (f g : Formula) (t : ℕ) → Holds r (joinˢ o f g) t ↔ Holds r (join o f g) t
  join_keeps o f g t = go (joined o f g)
    where
      F : Formula → Type 0
      F h = Holds r h t

      go : {k : Formula} → Joined o f g k → Holds r k t ↔ Both o (Holds r f t) (Holds r g t)
      go (left_unit e) = Iff.trans (both_unit_left o _) (both_iff o (same_meaning (sym e) t) Iff.rfl)
      go (right_unit e) = Iff.trans (both_unit_right o _) (both_iff o Iff.rfl (same_meaning (sym e) t))
      go (left_zero e) = Iff.trans (both_zero_left o (F g)) (both_iff o (same_meaning (sym e) t) Iff.rfl)
      go (right_zero e) = Iff.trans (both_zero_right o (F f)) (both_iff o Iff.rfl (same_meaning (sym e) t))
      go (alike e) = Iff.trans (both_twice o _) (both_iff o Iff.rfl (same_meaning e t))
      go (begun h e n) =
          Iff.trans (same_meaning e t)
          (Iff.trans (both_begun o (F f) (F h)) (both_iff o Iff.rfl (same_meaning (sym e) t)))
      go (kept a) = Iff.rfl

  next_keeps : (f : Formula) (t : ℕ) → Holds r (nextˢ f) t ↔ Holds r (next f) t
  unfolding nextˢ
  next_keeps f t = Iff.rfl

  finally_keeps : (f : Formula) (t : ℕ) → Holds r (finallyˢ f) t ↔ Holds r (finally f) t
  unfolding finallyˢ
  finally_keeps f t = Iff.rfl

  globally_keeps : (f : Formula) (t : ℕ) → Holds r (globallyˢ f) t ↔ Holds r (globally f) t
  unfolding globallyˢ
  globally_keeps f t = Iff.rfl

  until_keeps : (f g : Formula) (t : ℕ) → Holds r (untilˢ f g) t ↔ Holds r (until f g) t
  unfolding untilˢ
  until_keeps f g t = Iff.rfl

pub shortening_keeps_meaning : ShorteningKeepsMeaning
shortening_keeps_meaning r (const b) t = Iff.rfl
shortening_keeps_meaning r (signal p) t = Iff.rfl
shortening_keeps_meaning r (reading p s) t = Iff.rfl
shortening_keeps_meaning r (neg f) t =
    Iff.trans (neg_keeps r (shorten f) t) (Iff.not (shortening_keeps_meaning r f t))
shortening_keeps_meaning r (join o f g) t =
    Iff.trans (join_keeps r o (shorten f) (shorten g) t)
    (both_iff o (shortening_keeps_meaning r f t) (shortening_keeps_meaning r g t))
shortening_keeps_meaning r (next f) t =
    Iff.trans (next_keeps r (shorten f) t) (shortening_keeps_meaning r f (suc t))
shortening_keeps_meaning r (finally f) t = Iff.trans (finally_keeps r (shorten f) t) (
  λ w. (w.0, w.1, (shortening_keeps_meaning r f w.0).0 w.2),
  λ w. (w.0, w.1, (shortening_keeps_meaning r f w.0).1 w.2),
)
shortening_keeps_meaning r (globally f) t = Iff.trans (globally_keeps r (shorten f) t)
    (λ w u h. (shortening_keeps_meaning r f u).0 (w u h), λ w u h. (shortening_keeps_meaning r f u).1 (w u h))
shortening_keeps_meaning r (until f g) t = Iff.trans (until_keeps r (shorten f) (shorten g) t) (
  λ w. (
    w.0,
    w.1,
    (shortening_keeps_meaning r g w.0).0 w.2,
    λ v h k. (shortening_keeps_meaning r f v).0 (w.3 v h k),
  ),
  λ w. (
    w.0,
    w.1,
    (shortening_keeps_meaning r g w.0).1 w.2,
    λ v h k. (shortening_keeps_meaning r f v).1 (w.3 v h k),
  ),
)

-- A time sign, taken apart at its first tick.
finally_here : (P : ℕ → Type 0) (t : ℕ) → (P t ⊎ ((u : ℕ) × (suc t ≤ u) × P u)) ↔ ((u : ℕ) × (t ≤ u) × P u)
finally_here P t = (first, λ w. later w (dec_le (suc t) w.0))
  where
    first : P t ⊎ ((u : ℕ) × (suc t ≤ u) × P u) → (u : ℕ) × (t ≤ u) × P u
    first (inl h) = (t, omega arith, h)
    first (inr w) = (w.0, omega arith, w.2)

    later : (w : (u : ℕ) × (t ≤ u) × P u) → Dec (suc t ≤ w.0) → P t ⊎ ((u : ℕ) × (suc t ≤ u) × P u)
    later w (yes h) = inr (w.0, h, w.2)
    later w (no n) = inl (subst P (let e : w.0 ≡ t = omega arith in e) w.2)

globally_here : (P : ℕ → Type 0) (t : ℕ) → (P t × ((u : ℕ) → suc t ≤ u → P u)) ↔ ((u : ℕ) → t ≤ u → P u)
globally_here P t = (λ w u h. all w u h (dec_le (suc t) u), λ w. (w t (omega arith), λ u h. w u (omega arith)))
  where
    all : P t × ((u : ℕ) → suc t ≤ u → P u) → (u : ℕ) → t ≤ u → Dec (suc t ≤ u) → P u
    all w u h (yes k) = w.1 u k
    all w u h (no n) = subst P (let e : t ≡ u = omega arith in e) w.0

abbrev Until : (ℕ → Type 0) → (ℕ → Type 0) → ℕ → Type 0
Until P Q t = (u : ℕ) × (t ≤ u) × Q u × ((v : ℕ) → t ≤ v → v < u → P v)

until_here : (P Q : ℕ → Type 0) (t : ℕ) → (Q t ⊎ (P t × Until P Q (suc t))) ↔ Until P Q t
until_here P Q t = (first, λ w. later w (dec_le (suc t) w.0))
  where
    before : (u : ℕ) → P t → ((v : ℕ) → suc t ≤ v → v < u → P v) → (v : ℕ) → t ≤ v → v < u → Dec (suc t ≤ v) → P v
    before u p all v h k (yes j) = all v j k
    before u p all v h k (no n) = subst P (let e : t ≡ v = omega arith in e) p

    first : Q t ⊎ (P t × Until P Q (suc t)) → Until P Q t
    first (inl q) = (t, omega arith, q, λ v h k. absurd (omega arith))
    first (inr (p, w)) = (w.0, omega arith, w.2, λ v h k. before w.0 p w.3 v h k (dec_le (suc t) v))

    later : (w : Until P Q t) → Dec (suc t ≤ w.0) → Q t ⊎ (P t × Until P Q (suc t))
    later w (yes h) = inr (w.3 t (omega arith) h, (w.0, h, w.2, λ v j k. w.3 v (omega arith) k))
    later w (no n) = inl (subst Q (let e : w.0 ≡ t = omega arith in e) w.2)

pub stepping_keeps_meaning : SteppingKeepsMeaning
stepping_keeps_meaning r σ t agrees = go
  where
    go : (f : Formula) → Holds r (step σ f) (suc t) ↔ Holds r f t
    go (const b) = Iff.rfl
    go (signal p) = agrees p
    go (reading p s) = Iff.rfl
    go (neg f) = Iff.trans (neg_keeps r (step σ f) (suc t)) (Iff.not (go f))
    go (join o f g) = Iff.trans (join_keeps r o (step σ f) (step σ g) (suc t)) (both_iff o (go f) (go g))
    go (next f) = Iff.rfl
    go (finally f) =
        Iff.trans (join_keeps r or (step σ f) (finally f) (suc t))
        (Iff.trans (both_iff or (go f) Iff.rfl) (finally_here (Holds r f) t))
    go (globally f) =
        Iff.trans (join_keeps r and (step σ f) (globally f) (suc t))
        (Iff.trans (both_iff and (go f) Iff.rfl) (globally_here (Holds r f) t))
    go (until f g) =
        Iff.trans (join_keeps r or (step σ g) (joinˢ and (step σ f) (until f g)) (suc t))
        (Iff.trans
        (both_iff or (go g)
        (Iff.trans (join_keeps r and (step σ f) (until f g) (suc t)) (both_iff and (go f) Iff.rfl)))
        (until_here (Holds r f) (Holds r g) t))

pub closing_keeps_meaning : ClosingKeepsMeaning
closing_keeps_meaning r ρ t agrees = go
  where
    go : (f : Formula) → Holds r (close ρ f) t ↔ Holds r f t
    go (const b) = Iff.rfl
    go (signal p) = Iff.rfl
    go (reading p s) = agrees p s
    go (neg f) = Iff.trans (neg_keeps r (close ρ f) t) (Iff.not (go f))
    go (join o f g) = Iff.trans (join_keeps r o (close ρ f) (close ρ g) t) (both_iff o (go f) (go g))
    go (next f) = Iff.rfl
    go (finally f) = Iff.rfl
    go (globally f) = Iff.rfl
    go (until f g) = Iff.rfl

-- A constant that progression comes to is the truth of the rule on each run that begins so.
pub through_keeps : (r : Run) (v : Bool) (xs : List (ℕ → Bool)) (f : Formula) (t : ℕ)
    → through xs f ≡ const v → Begins r t xs → T v ↔ Holds r f t
through_keeps r v [] f t e b = same_meaning r (sym e) t
through_keeps r v (x ∷ xs) f t e b =
    Iff.trans (through_keeps r v xs (step (reads x) f) (suc t) e b.1)
    (stepping_keeps_meaning r (reads x) t (λ p. same_truth (sym (b.0 p))) f)
  where
    same_truth : {x y : Bool} → x ≡ y → T x ↔ T y
    same_truth {x} e = subst (λ z. T x ↔ T z) e Iff.rfl

pub verdict_of_every_run : VerdictOfEveryRun
verdict_of_every_run xs rule =
    (λ e r b. (through_keeps r true xs rule 0 e b).0 tt, λ e r b. (through_keeps r false xs rule 0 e b).1)

-- A run that begins with the readings from tick t on, and has every other signal off.
recorded : List (ℕ → Bool) → ℕ → Run
recorded [] t u p = false
recorded (x ∷ xs) t u p = cond (eqb u t) (x p) (recorded xs (suc t) u p)

begins_same : (r s : Run) (t : ℕ) (xs : List (ℕ → Bool)) → ((u : ℕ) → t ≤ u → (p : ℕ) → s u p ≡ r u p) → Begins r t xs → Begins s t xs
begins_same r s t [] e b = tt
begins_same r s t (x ∷ xs) e b =
    (λ p. e t (omega arith) p ∙ b.0 p, begins_same r s (suc t) xs (λ u h p. e u (omega arith) p) b.1)

recorded_begins : (xs : List (ℕ → Bool)) (t : ℕ) → Begins (recorded xs t) t xs
unfolding recorded
recorded_begins [] t = tt
recorded_begins (x ∷ xs) t = (
  λ p. let y : eqb t t ≡ true = grind (arith, nat_tests) in simp y,
  begins_same (recorded xs (suc t)) (recorded (x ∷ xs) t) (suc t) xs
      (λ u h p. let n : eqb u t ≡ false = grind (arith, nat_tests) in simp n) (recorded_begins xs (suc t)),
)

pub runs_abound : RunsAbound
runs_abound =
    (λ xs. (recorded xs 0, recorded_begins xs 0), (signal 0, λ t p. true, λ t p. false, tt, λ h. h))

pub time_signs_agree : TimeSignsAgree
time_signs_agree r f t = (
  (λ w. (w.0, w.1, w.2, λ v h k. tt), λ w. (w.0, w.1, w.2)),
  λ g w. w.2 (g w.0 w.1),
  (λ n u h k. n (u, h, k), λ g w. g w.0 w.1 w.2),
)
