-- The walk lists each part once; closing adds none, and a step makes at most two for each.
use Rattle.std.proofs.Common.{◌≡◌, ℕ, ◌*◌, ◌≤◌, Bool, ◌⊎◌, List, [], ◌++◌, map, length, sym, refl, ◌∙◌, subst, inl, inr, arith, length-append}
use lib.ListN.{length-map}
use Rattle.temporal.specs.Formula.{Op, Formula}
use Rattle.temporal.specs.Formula.Op.{and, or}
use Rattle.temporal.specs.Formula.Formula.{const, signal, reading, neg, join, next, finally, globally, until}
use Rattle.temporal.specs.Shorten.{negˢ, joinˢ}
use Rattle.temporal.specs.Progress.{step, close, Closes}
use Rattle.temporal.specs.Obligation.{Never, Proper}
use Rattle.temporal.specs.Parts.{In, Distinct, Part, walk, parts, inner, made}
use Rattle.temporal.specs.Laws.{PartsListed, ClosingAddsNoPart, StepMakesTwo}
use Rattle.temporal.proofs.Shortening.{Negated, negated, Joined, joined}
use Rattle.temporal.proofs.Shortening.Negated.{turned, prefixed}
use Rattle.temporal.proofs.Shortening.Joined.{left_unit, right_unit, left_zero, right_zero, alike, begun, kept}
use Rattle.temporal.proofs.Proper.{widened, close_same}
use Rattle.temporal.proofs.Owed.{Any, shortened_proper}
use Rattle.temporal.proofs.Lists.{in_left, in_right, in_map, in_same, finish_distinct, finish_lists, finish_only, no_longer}

pub part_self : (f : Formula) → Part f f
part_self (const b) = refl
part_self (signal p) = refl
part_self (reading p s) = refl
part_self (neg f) = inl refl
part_self (join o f g) = inl refl
part_self (next f) = inl refl
part_self (finally f) = inl refl
part_self (globally f) = inl refl
part_self (until f g) = inl refl

pub part_same : (g h f : Formula) → g ≡ h → Part h f → Part g f
part_same g h f e k = subst (λ x. Part x f) (sym e) k

-- A part of a part is a part.
pub part_of_part : (g f F : Formula) → Part g f → Part f F → Part g F
part_of_part g f (const b) k e = subst (Part g) e k
part_of_part g f (signal p) k e = subst (Part g) e k
part_of_part g f (reading p s) k e = subst (Part g) e k
part_of_part g f (neg F) k (inl e) = subst (Part g) e k
part_of_part g f (neg F) k (inr j) = inr (part_of_part g f F k j)
part_of_part g f (join o F G) k (inl e) = subst (Part g) e k
part_of_part g f (join o F G) k (inr (inl j)) = inr (inl (part_of_part g f F k j))
part_of_part g f (join o F G) k (inr (inr j)) = inr (inr (part_of_part g f G k j))
part_of_part g f (next F) k (inl e) = subst (Part g) e k
part_of_part g f (next F) k (inr j) = inr (part_of_part g f F k j)
part_of_part g f (finally F) k (inl e) = subst (Part g) e k
part_of_part g f (finally F) k (inr j) = inr (part_of_part g f F k j)
part_of_part g f (globally F) k (inl e) = subst (Part g) e k
part_of_part g f (globally F) k (inr j) = inr (part_of_part g f F k j)
part_of_part g f (until F G) k (inl e) = subst (Part g) e k
part_of_part g f (until F G) k (inr (inl j)) = inr (inl (part_of_part g f F k j))
part_of_part g f (until F G) k (inr (inr j)) = inr (inr (part_of_part g f G k j))

-- The walk.
pub walk_distinct : (f : Formula) (xs : List Formula) → Distinct xs → Distinct (walk f xs)
walk_distinct (const b) xs d = finish_distinct (const b) xs d
walk_distinct (signal p) xs d = finish_distinct (signal p) xs d
walk_distinct (reading p s) xs d = finish_distinct (reading p s) xs d
walk_distinct (neg f) xs d = finish_distinct (neg f) (walk f xs) (walk_distinct f xs d)
walk_distinct (join o f g) xs d =
    finish_distinct (join o f g) (walk g (walk f xs)) (walk_distinct g (walk f xs) (walk_distinct f xs d))
walk_distinct (next f) xs d = finish_distinct (next f) (walk f xs) (walk_distinct f xs d)
walk_distinct (finally f) xs d = finish_distinct (finally f) (walk f xs) (walk_distinct f xs d)
walk_distinct (globally f) xs d = finish_distinct (globally f) (walk f xs) (walk_distinct f xs d)
walk_distinct (until f g) xs d =
    finish_distinct (until f g) (walk g (walk f xs)) (walk_distinct g (walk f xs) (walk_distinct f xs d))

-- Sums, regrouped as the walk goes through one operand or two.
one_up : {A B C D : Type 0} → (B ⊎ C → D) → (A ⊎ B) ⊎ C → A ⊎ D
one_up h (inl (inl a)) = inl a
one_up h (inl (inr b)) = inr (h (inl b))
one_up h (inr c) = inr (h (inr c))

two_up : {A B B' C D D' : Type 0} → (B ⊎ C → D) → (B' ⊎ D → D') → (A ⊎ (B ⊎ B')) ⊎ C → A ⊎ D'
two_up h i (inl (inl a)) = inl a
two_up h i (inl (inr (inl b))) = inr (i (inr (h (inl b))))
two_up h i (inl (inr (inr b))) = inr (i (inl b))
two_up h i (inr c) = inr (i (inr (h (inr c))))

one_down : {A B C D : Type 0} → (D → B ⊎ C) → A ⊎ D → (A ⊎ B) ⊎ C
one_down h (inl a) = inl (inl a)
one_down h (inr d) = elim (h d) [ inl b ↦ inl (inr b) | inr c ↦ inr c ]

two_down : {A B B' C D D' : Type 0} → (D → B ⊎ C) → (D' → B' ⊎ D) → A ⊎ D' → (A ⊎ (B ⊎ B')) ⊎ C
two_down h i (inl a) = inl (inl a)
two_down h i (inr d) =
    elim (i d) [ inl b ↦ inl (inr (inr b)) | inr e ↦ elim (h e) [ inl b ↦ inl (inr (inl b)) | inr c ↦ inr c ] ]

-- The walk lists the parts, keeps what was listed before, and has no more.
module _ (x : Formula) where
  pub walk_lists : (f : Formula) (xs : List Formula) → Part x f ⊎ In x xs → In x (walk f xs)
  walk_lists (const b) xs k = finish_lists (const b) xs x k
  walk_lists (signal p) xs k = finish_lists (signal p) xs x k
  walk_lists (reading p s) xs k = finish_lists (reading p s) xs x k
  walk_lists (neg f) xs k = finish_lists (neg f) (walk f xs) x (one_up (walk_lists f xs) k)
  walk_lists (join o f g) xs k =
      finish_lists (join o f g) (walk g (walk f xs)) x (two_up (walk_lists f xs) (walk_lists g (walk f xs)) k)
  walk_lists (next f) xs k = finish_lists (next f) (walk f xs) x (one_up (walk_lists f xs) k)
  walk_lists (finally f) xs k = finish_lists (finally f) (walk f xs) x (one_up (walk_lists f xs) k)
  walk_lists (globally f) xs k = finish_lists (globally f) (walk f xs) x (one_up (walk_lists f xs) k)
  walk_lists (until f g) xs k =
      finish_lists (until f g) (walk g (walk f xs)) x (two_up (walk_lists f xs) (walk_lists g (walk f xs)) k)

  pub walk_only : (f : Formula) (xs : List Formula) → In x (walk f xs) → Part x f ⊎ In x xs
  walk_only (const b) xs k = finish_only (const b) xs x k
  walk_only (signal p) xs k = finish_only (signal p) xs x k
  walk_only (reading p s) xs k = finish_only (reading p s) xs x k
  walk_only (neg f) xs k = one_down (walk_only f xs) (finish_only (neg f) (walk f xs) x k)
  walk_only (join o f g) xs k =
      two_down (walk_only f xs) (walk_only g (walk f xs)) (finish_only (join o f g) (walk g (walk f xs)) x k)
  walk_only (next f) xs k = one_down (walk_only f xs) (finish_only (next f) (walk f xs) x k)
  walk_only (finally f) xs k = one_down (walk_only f xs) (finish_only (finally f) (walk f xs) x k)
  walk_only (globally f) xs k = one_down (walk_only f xs) (finish_only (globally f) (walk f xs) x k)
  walk_only (until f g) xs k =
      two_down (walk_only f xs) (walk_only g (walk f xs)) (finish_only (until f g) (walk g (walk f xs)) x k)

  pub listed : (f : Formula) → Part x f → In x (parts f)
  listed f k = walk_lists f [] (inl k)

  pub unlisted : (f : Formula) → In x (parts f) → Part x f
  unlisted f k = elim (walk_only f [] k) [ inl j ↦ j | inr z ↦ absurd z ]

pub parts_listed : PartsListed
parts_listed f = (walk_distinct f [] tt, λ g. (unlisted g f, listed g f))

-- Shortening makes one new part at most.
module _ (x : Formula) where
  neg_part : (f : Formula) → Part x (negˢ f) → (x ≡ negˢ f) ⊎ Part x f
  neg_part f = go (negated f) refl
    where
      go : {k : Formula} → Negated f k → k ≡ negˢ f → Part x k → (x ≡ negˢ f) ⊎ Part x f
      go (turned b e) q j = inl (j ∙ q)
      go prefixed q (inl e) = inl (e ∙ q)
      go prefixed q (inr j) = inr j

  join_part : (o : Op) (f g : Formula) → Part x (joinˢ o f g) → (x ≡ joinˢ o f g) ⊎ (Part x f ⊎ Part x g)
  join_part o f g = go (joined o f g) refl
    where
      go : {k : Formula} → Joined o f g k → k ≡ joinˢ o f g → Part x k → (x ≡ joinˢ o f g) ⊎ (Part x f ⊎ Part x g)
      go (left_unit e) q j = inr (inr j)
      go (right_unit e) q j = inr (inl j)
      go (left_zero e) q j = inl (j ∙ q)
      go (right_zero e) q j = inl (j ∙ q)
      go (alike e) q j = inr (inl j)
      go (begun h e n) q j = inr (inr j)
      go (kept a) q (inl e) = inl (e ∙ q)
      go (kept a) q (inr j) = inr j

-- A part of a proper formula is proper.
beneath : (P : ℕ → ℕ → Type 0) (f : Formula) → Proper Never f → Proper P f
beneath P f w = widened Never P (λ p e k. absurd k) f w

pub part_proper : (P : ℕ → ℕ → Type 0) (g f : Formula) → Proper P f → Part g f → Proper P g
part_proper P g (const b) w e = subst (Proper P) (sym e) w
part_proper P g (signal p) w e = subst (Proper P) (sym e) w
part_proper P g (reading p s) w e = subst (Proper P) (sym e) w
part_proper P g (neg f) w (inl e) = subst (Proper P) (sym e) w
part_proper P g (neg f) w (inr j) = part_proper P g f w.0 j
part_proper P g (join o f h) w (inl e) = subst (Proper P) (sym e) w
part_proper P g (join o f h) w (inr (inl j)) = part_proper P g f w.0 j
part_proper P g (join o f h) w (inr (inr j)) = part_proper P g h w.1 j
part_proper P g (next f) w (inl e) = subst (Proper P) (sym e) w
part_proper P g (next f) w (inr j) = beneath P g (part_proper Never g f w.0 j)
part_proper P g (finally f) w (inl e) = subst (Proper P) (sym e) w
part_proper P g (finally f) w (inr j) = beneath P g (part_proper Never g f w.0 j)
part_proper P g (globally f) w (inl e) = subst (Proper P) (sym e) w
part_proper P g (globally f) w (inr j) = beneath P g (part_proper Never g f w.0 j)
part_proper P g (until f h) w (inl e) = subst (Proper P) (sym e) w
part_proper P g (until f h) w (inr (inl j)) = beneath P g (part_proper Never g f w.0 j)
part_proper P g (until f h) w (inr (inr j)) = beneath P g (part_proper Never g h w.1 j)

-- Each part after closing is a part before, closed.
module _ (P : ℕ → ℕ → Type 0) (ρ : ℕ → ℕ → Formula) (leaf : (p s : ℕ) (x : Formula) → Part x (ρ p s) → x ≡ ρ p s)
    (x : Formula) where
  beneath_sign : (f : Formula) → Proper Never f → Part x f → x ≡ close ρ x
  beneath_sign f w k = sym (close_same Never ρ (λ p s z. absurd z) x (part_proper Never x f w k))

  close_part : (f : Formula) → Proper P f → Part x (close ρ f) → (h : Formula) × Part h f × (x ≡ close ρ h)
  close_part (const b) w e = (const b, refl, e)
  close_part (signal p) w e = (signal p, refl, e)
  close_part (reading p s) w k = (reading p s, refl, leaf p s x k)
  close_part (neg f) w k =
      elim (neg_part x (close ρ f) k) [
        | inl e ↦ (neg f, inl refl, e)
        | inr j ↦ (let c = close_part f w.0 j in (c.0, inr c.1, c.2))
      ]
  close_part (join o f g) w k =
      elim (join_part x o (close ρ f) (close ρ g) k) [
        | inl e ↦ (join o f g, inl refl, e)
        | inr (inl j) ↦ (let c = close_part f w.0 j in (c.0, inr (inl c.1), c.2))
        | inr (inr j) ↦ (let c = close_part g w.1 j in (c.0, inr (inr c.1), c.2))
      ]
  close_part (next f) w (inl e) = (next f, inl refl, e)
  close_part (next f) w (inr j) = (x, inr j, beneath_sign f w.0 j)
  close_part (finally f) w (inl e) = (finally f, inl refl, e)
  close_part (finally f) w (inr j) = (x, inr j, beneath_sign f w.0 j)
  close_part (globally f) w (inl e) = (globally f, inl refl, e)
  close_part (globally f) w (inr j) = (x, inr j, beneath_sign f w.0 j)
  close_part (until f g) w (inl e) = (until f g, inl refl, e)
  close_part (until f g) w (inr (inl j)) = (x, inr (inl j), beneath_sign f w.0 j)
  close_part (until f g) w (inr (inr j)) = (x, inr (inr j), beneath_sign g w.1 j)

closes_leaf : (ρ : ℕ → ℕ → Formula) → Closes ρ → (p s : ℕ) (x : Formula) → Part x (ρ p s) → x ≡ ρ p s
closes_leaf ρ closes p s x k = go (ρ p s) (closes p s) k
  where
    go : (g : Formula) → ((b : Bool) × (g ≡ const b)) ⊎ (g ≡ reading p s) → Part x g → x ≡ g
    go g (inl w) k = subst (Part x) w.1 k ∙ sym w.1
    go g (inr q) k = subst (Part x) q k ∙ sym q

pub closing_adds_no_part : ClosingAddsNoPart
closing_adds_no_part ρ closes f s c =
    let w = shortened_proper Any f s c (λ p e k. tt) in
    let fits : length (parts (close ρ f)) ≤ length (map (close ρ) (parts f)) =
    no_longer (parts (close ρ f)) (map (close ρ) (parts f)) (walk_distinct (close ρ f) [] tt)
    (λ g k.
    let c = close_part Any ρ (closes_leaf ρ closes) g f w (unlisted g (close ρ f) k) in
    in_same g (close ρ c.0) (map (close ρ) (parts f)) c.2
    (in_map (close ρ) c.0 (parts f) (listed c.0 f c.1))) in
    omega (arith, length-map (parts f) (close ρ))

-- Each part after a step was a part before, or the step made it of one.
module _ (σ : ℕ → Formula) (leaf : (p : ℕ) (x : Formula) → Part x (σ p) → x ≡ σ p) (x F : Formula) where
  by_step : (f : Formula) → Part f F → x ≡ step σ f → In x (made σ F) ⊎ Part x F
  by_step f k e =
      inl (in_left x (map (step σ) (parts F)) (map (inner σ) (parts F))
      (in_same x (step σ f) (map (step σ) (parts F)) e (in_map (step σ) f (parts F) (listed f F k))))

  by_inner : (f : Formula) → Part f F → x ≡ inner σ f → In x (made σ F) ⊎ Part x F
  by_inner f k e =
      inl (in_right x (map (step σ) (parts F)) (map (inner σ) (parts F))
      (in_same x (inner σ f) (map (inner σ) (parts F)) e (in_map (inner σ) f (parts F) (listed f F k))))

  below : (g f : Formula) → Part g f → Part f F → Part g F
  below g f = part_of_part g f F

  step_part : (f : Formula) → Part f F → Part x (step σ f) → In x (made σ F) ⊎ Part x F
  step_part (const b) k j = by_step (const b) k j
  step_part (signal p) k j = by_step (signal p) k (leaf p x j)
  step_part (reading p s) k j = by_step (reading p s) k j
  step_part (neg f) k j =
      elim (neg_part x (step σ f) j) [
        | inl e ↦ by_step (neg f) k e
        | inr i ↦ step_part f (below f (neg f) (inr (part_self f)) k) i
      ]
  step_part (join o f g) k j =
      elim (join_part x o (step σ f) (step σ g) j) [
        | inl e ↦ by_step (join o f g) k e
        | inr (inl i) ↦ step_part f (below f (join o f g) (inr (inl (part_self f))) k) i
        | inr (inr i) ↦ step_part g (below g (join o f g) (inr (inr (part_self g))) k) i
      ]
  step_part (next f) k j = inr (below x (next f) (inr j) k)
  step_part (finally f) k j =
      elim (join_part x or (step σ f) (finally f) j) [
        | inl e ↦ by_step (finally f) k e
        | inr (inl i) ↦ step_part f (below f (finally f) (inr (part_self f)) k) i
        | inr (inr i) ↦ inr (below x (finally f) i k)
      ]
  step_part (globally f) k j =
      elim (join_part x and (step σ f) (globally f) j) [
        | inl e ↦ by_step (globally f) k e
        | inr (inl i) ↦ step_part f (below f (globally f) (inr (part_self f)) k) i
        | inr (inr i) ↦ inr (below x (globally f) i k)
      ]
  step_part (until f g) k j =
      elim (join_part x or (step σ g) (joinˢ and (step σ f) (until f g)) j) [
        | inl e ↦ by_step (until f g) k e
        | inr (inl i) ↦ step_part g (below g (until f g) (inr (inr (part_self g))) k) i
        | inr (inr i) ↦ elim (join_part x and (step σ f) (until f g) i) [
          | inl e ↦ by_inner (until f g) k e
          | inr (inl l) ↦ step_part f (below f (until f g) (inr (inl (part_self f))) k) l
          | inr (inr l) ↦ inr (below x (until f g) l k)
        ]
      ]

step_trebles : (σ : ℕ → Formula) → ((p : ℕ) (g : Formula) → Part g (σ p) → g ≡ σ p)
    → (f : Formula) → length (made σ f) ≡ 2 * length (parts f) → length (parts (step σ f)) ≤ 3 * length (parts f)
step_trebles σ leaf f two =
    let fits : length (parts (step σ f)) ≤ length (made σ f ++ parts f) =
    no_longer (parts (step σ f)) (made σ f ++ parts f) (walk_distinct (step σ f) [] tt)
    (λ g k. elim (step_part σ leaf g f f (part_self f) (unlisted g (step σ f) k)) [
      | inl j ↦ in_left g (made σ f) (parts f) j
      | inr j ↦ in_right g (made σ f) (parts f) (listed g f j)
    ]) in
    omega (arith, length-append (made σ f) (parts f))

made_two : (σ : ℕ → Formula) (f : Formula) → length (made σ f) ≡ 2 * length (parts f)
made_two σ f =
    let steps = length-map (parts f) (step σ) in
    let inners = length-map (parts f) (inner σ) in
    omega (arith, length-append (map (step σ) (parts f)) (map (inner σ) (parts f)))

pub step_makes_two : StepMakesTwo
step_makes_two σ leaf f =
    (made_two σ f, λ h g k j. step_part σ leaf g f h k j, step_trebles σ leaf f (made_two σ f))
