-- The laws of the formulas in a table.
use Rattle.std.proofs.Common.{◌≡◌, ℕ, ◌+◌, ◌<◌, ◌≤◌, true, false, List, [], ◌∷◌, ◌++◌, length, get_or, take, drop, sym, refl, ap, ◌∙◌, subst, ap₂, arith, take-append-drop, below_more}
use native.Mathlib.Decide.{dec_lt}
use Rattle.std.proofs.lemmas.List.{length_push, get_or_push, get_or_append_left, length-take-le, take_all, take_at, take-take, take_more, get_or-take}
use Rattle.temporal.specs.Formula.{Op, Formula}
use Rattle.temporal.specs.Formula.Op.{and, or}
use Rattle.temporal.specs.Formula.Formula.{const, signal, reading, neg, join, next, finally, globally, until}
use Rattle.temporal.specs.Shorten.{shorten}
use Rattle.temporal.specs.Obligation.{Shortened}
use Rattle.parts.specs.Places.{one, two, node, place, grow, formulas, formula, blank, reach, OperandsFirst, NoneTwice, AllShort, short, Sound, Grown, Stands, Fits}
use Rattle.parts.specs.declared.part.Unary.{Unary}
use Rattle.parts.specs.declared.part.Unary.TheVariants.{Not, Next, Finally, Globally}
use Rattle.parts.specs.declared.part.Binary.{Binary}
use Rattle.parts.specs.declared.part.Binary.TheVariants.{Join, Until}
use Rattle.parts.specs.declared.part.Junction.{Junction}
use Rattle.parts.specs.declared.part.Junction.TheVariants.{And, Or}
use Rattle.parts.specs.declared.part.Part.{Part}
use Rattle.parts.specs.declared.part.Part.TheVariants.{Const, Signal, Open, One, Two}
use Rattle.temporal.proofs.Shortening.{same_true, same_refl}

pub grow_length : (fs : List Formula) (ps : List Part) → length (grow fs ps) ≡ length fs + length ps
grow_length fs [] = omega arith
grow_length fs (p ∷ ps) =
    let h = grow_length (fs ++ (node (place fs) p ∷ [])) ps in let k = length_push fs (node (place fs) p) in omega arith

grow_append : (fs : List Formula) (ps qs : List Part) → grow fs (ps ++ qs) ≡ grow (grow fs ps) qs
grow_append fs [] qs = refl
grow_append fs (p ∷ ps) qs = grow_append (fs ++ (node (place fs) p ∷ [])) ps qs

grow_front : (fs : List Formula) (ps : List Part) (k : ℕ) → k < length fs → place (grow fs ps) k ≡ place fs k
grow_front fs [] k h = refl
grow_front fs (p ∷ ps) k h =
    let e = length_push fs (node (place fs) p) in
    let h' : k < length (fs ++ (node (place fs) p ∷ [])) = omega arith in
    grow_front (fs ++ (node (place fs) p ∷ [])) ps k h' ∙ get_or_append_left fs (node (place fs) p ∷ []) (const false) k h

pub formulas_length : (ps : List Part) → length (formulas ps) ≡ length ps
unfolding formulas
formulas_length ps = let h = grow_length [] ps in omega arith

pub formulas_push : (ps : List Part) (p : Part) → formulas (ps ++ p ∷ []) ≡ formulas ps ++ node (formula ps) p ∷ []
unfolding formulas
formulas_push ps p = grow_append [] ps (p ∷ [])

-- One part more: those before are as they were.
pub push_old : (ps : List Part) (q : Part) (k : ℕ) → k < length ps → formula (ps ++ q ∷ []) k ≡ formula ps k
push_old ps q k h =
    let l = formulas_length ps in
    ap (λ fs. place fs k) (formulas_push ps q) ∙ get_or_append_left (formulas ps) (node (formula ps) q ∷ []) (const false) k (omega arith)

pub push_new : (ps : List Part) (q : Part) → formula (ps ++ q ∷ []) (length ps) ≡ node (formula ps) q
push_new ps q =
    ap (λ fs. place fs (length ps)) (formulas_push ps q)
    ∙ get_or_push (formulas ps) (node (formula ps) q) (const false) (length ps) (formulas_length ps)

-- A part reads the same over formulas that agree below it.
pub node_same : (f g : ℕ → Formula) (i : ℕ) → ((k : ℕ) → k < i → f k ≡ g k) → (p : Part) → reach p ≤ i → node f p ≡ node g p
node_same f g i e (Const b) h = refl
node_same f g i e (Signal p) h = refl
node_same f g i e (Open p s) h = refl
node_same f g i e (One u a) h = ap (one u) (e a (omega arith))
node_same f g i e (Two b x y) h = ap₂ (two b) (e x (omega arith)) (e y (omega arith))

-- A table is a front of another: the formulas of the front are as they were.
pub formula_front : (ps qs : List Part) (k : ℕ) → take (length ps) qs ≡ ps → k < length ps → formula qs k ≡ formula ps k
unfolding formulas
formula_front ps qs k e h =
    let l = grow_length [] ps in
    let cut : qs ≡ ps ++ drop (length ps) qs = sym (take-append-drop (length ps) qs) ∙ ap (λ z. z ++ drop (length ps) qs) e in
    ap (λ z. place (grow [] z) k) cut ∙ ap (λ fs. place fs k) (grow_append [] ps (drop (length ps) qs))
    ∙ grow_front (grow [] ps) (drop (length ps) qs) k (omega arith)

-- The formula at a place is that of its part, over the formulas before it.
pub formula_node : (ps : List Part) (i : ℕ) → OperandsFirst ps → i < length ps → formula ps i ≡ node (formula ps) (get_or ps i blank)
formula_node ps i o h =
    let p : Part = get_or ps i blank in
    let front : List Part = take i ps in
    let len : length front ≡ i = length-take-le i ps (omega arith) in
    let cut : ps ≡ (front ++ p ∷ []) ++ drop (i + 1) ps = whole in
    let more : length (front ++ p ∷ []) ≡ i + 1 = let l = length_push front p in omega arith in
    let up : take (length (front ++ p ∷ [])) ps ≡ front ++ p ∷ [] = ap (take (length (front ++ p ∷ []))) cut ∙ take_at (front ++ p ∷ []) (drop (i + 1) ps) (length (front ++ p ∷ [])) refl in
    let here : formula ps i ≡ formula (front ++ p ∷ []) i = formula_front (front ++ p ∷ []) ps i up (omega arith) in
    let new : formula (front ++ p ∷ []) i ≡ node (formula front) p = ap (λ k. formula (front ++ p ∷ []) k) (sym len) ∙ push_new front p in
    here ∙ new ∙ node_same (formula front) (formula ps) i (λ k l. sym (formula_front front ps k (ap (λ z. take z ps) len) (omega arith))) p (o i h)
  where
    whole : ps ≡ (take i ps ++ get_or ps i blank ∷ []) ++ drop (i + 1) ps
    whole = sym (take-append-drop (i + 1) ps) ∙ ap (λ z. z ++ drop (i + 1) ps) (take_more ps i blank h)

pub formula_part : (ps : List Part) (i : ℕ) → OperandsFirst ps → i < length ps → (p : Part) → get_or ps i blank ≡ p → formula ps i ≡ node (formula ps) p
formula_part ps i o h p e = formula_node ps i o h ∙ ap (node (formula ps)) e

-- What a part is made of can be read off its formula.
pub kind : Formula → ℕ
kind (const b) = 0
kind (signal p) = 1
kind (reading p s) = 2
kind (neg f) = 3
kind (join o f g) = 4
kind (next f) = 3
kind (finally f) = 3
kind (globally f) = 3
kind (until f g) = 4

pub sign : Formula → Unary
sign (const b) = Not
sign (signal p) = Not
sign (reading p s) = Not
sign (neg f) = Not
sign (join o f g) = Not
sign (next f) = Next
sign (finally f) = Finally
sign (globally f) = Globally
sign (until f g) = Not

junction : Op → Junction
junction and = And
junction or = Or

pub sign₂ : Formula → Binary
unfolding junction
sign₂ (const b) = Until
sign₂ (signal p) = Until
sign₂ (reading p s) = Until
sign₂ (neg f) = Until
sign₂ (join o f g) = Join (junction o)
sign₂ (next f) = Until
sign₂ (finally f) = Until
sign₂ (globally f) = Until
sign₂ (until f g) = Until

pub left : Formula → Formula
left (const b) = const b
left (signal p) = signal p
left (reading p s) = reading p s
left (neg f) = f
left (join o f g) = f
left (next f) = f
left (finally f) = f
left (globally f) = f
left (until f g) = f

pub right : Formula → Formula
right (const b) = const b
right (signal p) = signal p
right (reading p s) = reading p s
right (neg f) = f
right (join o f g) = g
right (next f) = f
right (finally f) = f
right (globally f) = f
right (until f g) = g

pub of_one : (u : Unary) (f : Formula) → (kind (one u f) ≡ 3) × (sign (one u f) ≡ u) × (left (one u f) ≡ f)
unfolding kind sign left
of_one Not f = (refl, refl, refl)
of_one Next f = (refl, refl, refl)
of_one Finally f = (refl, refl, refl)
of_one Globally f = (refl, refl, refl)

pub of_two : (b : Binary) (f g : Formula) → (kind (two b f g) ≡ 4) × (sign₂ (two b f g) ≡ b) × (left (two b f g) ≡ f) × (right (two b f g) ≡ g)
unfolding kind sign₂ junction left right
of_two (Join And) f g = (refl, refl, refl, refl)
of_two (Join Or) f g = (refl, refl, refl, refl)
of_two Until f g = (refl, refl, refl, refl)

abbrev pub kindp : Part → ℕ
kindp (Const b) = 0
kindp (Signal p) = 1
kindp (Open p s) = 2
kindp (One u a) = 3
kindp (Two b x y) = 4

pub kind_node : (t : ℕ → Formula) (p : Part) → kind (node t p) ≡ kindp p
unfolding kind
kind_node t (Const b) = refl
kind_node t (Signal p) = refl
kind_node t (Open p s) = refl
kind_node t (One u a) = (of_one u (t a)).0
kind_node t (Two b x y) = (of_two b (t x) (t y)).0

-- Over formulas that are all different, parts with one formula are one part.
module _ (t : ℕ → Formula) (n : ℕ) (apart : (i j : ℕ) → i < n → j < n → t i ≡ t j → i ≡ j) where
  one_same : (u v : Unary) (a b : ℕ) → a < n → b < n → one u (t a) ≡ one v (t b) → One u a ≡ One v b
  one_same u v a b h k e =
      let x = of_one u (t a) in
      let y = of_one v (t b) in
      ap₂ One (sym x.1 ∙ ap sign e ∙ y.1) (apart a b h k (sym x.2 ∙ ap left e ∙ y.2))

  two_same : (u v : Binary) (a b c d : ℕ) → (a < n) × (b < n) → (c < n) × (d < n) → two u (t a) (t b) ≡ two v (t c) (t d) → Two u a b ≡ Two v c d
  two_same u v a b c d h k e =
      let x = of_two u (t a) (t b) in
      let y = of_two v (t c) (t d) in
      let s : u ≡ v = sym x.1 ∙ ap sign₂ e ∙ y.1 in
      let l : a ≡ c = apart a c h.0 k.0 (sym x.2 ∙ ap left e ∙ y.2) in
      let r : b ≡ d = apart b d h.1 k.1 (sym x.3 ∙ ap right e ∙ y.3) in
      cc

  same_kind : (p q : Part) → node t p ≡ node t q → kindp p ≡ kindp q
  same_kind p q e = sym (kind_node t p) ∙ ap kind e ∙ kind_node t q

  pub node_one : (p q : Part) → reach p ≤ n → reach q ≤ n → node t p ≡ node t q → p ≡ q
  node_one p q h k e = go p q h k e (same_kind p q e)
    where
      go : (p q : Part) → reach p ≤ n → reach q ≤ n → node t p ≡ node t q → kindp p ≡ kindp q → p ≡ q
      go (Const b) (Const c) h k e z = let s : b ≡ c = cc in ap Const s
      go (Const b) (Signal p) h k e z = absurd (omega arith)
      go (Const b) (Open p s) h k e z = absurd (omega arith)
      go (Const b) (One u a) h k e z = absurd (omega arith)
      go (Const b) (Two o x y) h k e z = absurd (omega arith)
      go (Signal p) (Const c) h k e z = absurd (omega arith)
      go (Signal p) (Signal q) h k e z = let s : p ≡ q = cc in ap Signal s
      go (Signal p) (Open q s) h k e z = absurd (omega arith)
      go (Signal p) (One u a) h k e z = absurd (omega arith)
      go (Signal p) (Two o x y) h k e z = absurd (omega arith)
      go (Open p s) (Const c) h k e z = absurd (omega arith)
      go (Open p s) (Signal q) h k e z = absurd (omega arith)
      go (Open p s) (Open q r) h k e z = let a : p ≡ q = cc in let b : s ≡ r = cc in ap₂ Open a b
      go (Open p s) (One u a) h k e z = absurd (omega arith)
      go (Open p s) (Two o x y) h k e z = absurd (omega arith)
      go (One u a) (Const c) h k e z = absurd (omega arith)
      go (One u a) (Signal q) h k e z = absurd (omega arith)
      go (One u a) (Open q r) h k e z = absurd (omega arith)
      go (One u a) (One v b) h k e z = one_same u v a b (omega arith) (omega arith) e
      go (One u a) (Two o x y) h k e z = absurd (omega arith)
      go (Two o x y) (Const c) h k e z = absurd (omega arith)
      go (Two o x y) (Signal q) h k e z = absurd (omega arith)
      go (Two o x y) (Open q r) h k e z = absurd (omega arith)
      go (Two o x y) (One v b) h k e z = absurd (omega arith)
      go (Two o x y) (Two r z w) h k e q = two_same o r x y z w (omega arith, omega arith) (omega arith, omega arith) e

-- Places with one formula are one place.
pub apart : (ps : List Part) → NoneTwice ps → (i j : ℕ) → i < length ps → j < length ps → formula ps i ≡ formula ps j → i ≡ j
apart ps n i j h k e = go (dec_lt i j) (dec_lt j i)
  where
    go : Dec (i < j) → Dec (j < i) → i ≡ j
    go (yes l) d = absurd (n i j (l, k) e)
    go (no l) (yes m) = absurd (n j i (m, h) (sym e))
    go (no l) (no m) = omega arith

-- The part at a place is the part of its formula.
pub part_is : (ps : List Part) (i : ℕ) (p : Part) → Sound ps → i < length ps → reach p ≤ length ps → formula ps i ≡ node (formula ps) p → get_or ps i blank ≡ p
part_is ps i p s h b e =
    node_one (formula ps) (length ps) (apart ps s.once) (get_or ps i blank) p (let o = s.ordered i h in omega arith) b
    (sym (formula_node ps i s.ordered h) ∙ e)

pub short_is : (f : Formula) → short f ≡ true → Shortened f
short_is f e = same_true (shorten f) f e

pub is_short : (f : Formula) → Shortened f → short f ≡ true
is_short f e = rw e (same_refl f)

-- A part may be written where its operands are.
pub ordered_push : (ps : List Part) (q : Part) → OperandsFirst ps → reach q ≤ length ps → OperandsFirst (ps ++ q ∷ [])
ordered_push ps q o b i h =
    let l = length_push ps q in
    let P : ℕ → Type 0 = λ k. reach (get_or (ps ++ q ∷ []) k blank) ≤ k in
    below_more P (length ps)
    (λ k lt. subst (λ z. reach z ≤ k) (sym (get_or_append_left ps (q ∷ []) blank k lt)) (o k lt))
    (subst (λ z. reach z ≤ length ps) (sym (get_or_push ps q blank (length ps) refl)) b)
    i (omega arith)

-- A part that no place holds may be written behind the others.
pub sound_push : (ps : List Part) (f : Formula) (q : Part) → Sound ps → Fits ps f q → ((k : ℕ) → k < length ps → get_or ps k blank ≡ q → ⊥) → Sound (ps ++ q ∷ [])
sound_push ps f q s w absent = record { ordered = ordered_push ps q s.ordered w.below; once = twice; short = all }
  where
    twice : NoneTwice (ps ++ q ∷ [])
    twice i j h e = go (dec_lt j (length ps))
      where
        low : i < length ps
        low = omega (arith, h.0, h.1, length_push ps q)

        go : Dec (j < length ps) → ⊥
        go (yes k) = s.once i j (h.0, k) (sym (push_old ps q i low) ∙ e ∙ push_old ps q j k)
        go (no k) =
            let at : j ≡ length ps = omega (arith, h.1, length_push ps q) in
            let fi : formula (ps ++ q ∷ []) i ≡ node (formula ps) (get_or ps i blank) = push_old ps q i low ∙ formula_node ps i s.ordered low in
            let fj : formula (ps ++ q ∷ []) j ≡ node (formula ps) q = ap (formula (ps ++ q ∷ [])) at ∙ push_new ps q in
            absent i low
            (node_one (formula ps) (length ps) (apart ps s.once) (get_or ps i blank) q (let o = s.ordered i low in omega arith) w.below (sym fi ∙ e ∙ fj))

    all : AllShort (ps ++ q ∷ [])
    all i h =
        let l = length_push ps q in
        let P : ℕ → Type 0 = λ k. short (formula (ps ++ q ∷ []) k) ≡ true in
        below_more P (length ps)
        (λ k lt. subst (λ z. short z ≡ true) (sym (push_old ps q k lt)) (s.short k lt))
        (subst (λ z. short z ≡ true) (sym (push_new ps q ∙ w.formula_is)) w.shortened)
        i (omega arith)

-- A table that grows.
pub grown_none : (ps : List Part) → Grown 0 ps ps
grown_none ps = record { front = take_all (length ps) ps (omega arith); more = omega arith; few = omega arith }

pub grown_push : (ps : List Part) (q : Part) → Grown 1 ps (ps ++ q ∷ [])
grown_push ps q =
    let l = length_push ps q in
    record { front = take_at ps (q ∷ []) (length ps) refl; more = omega arith; few = omega arith }

pub grown_on : (m n k : ℕ) (ps qs rs : List Part) → m + n ≤ k → Grown m ps qs → Grown n qs rs → Grown k ps rs
grown_on m n k ps qs rs l u v =
    let a = u.more in
    let b = v.more in
    let c = u.few in
    let d = v.few in
    record {
      front = sym (take-take (length ps) (length qs) rs a) ∙ ap (take (length ps)) v.front ∙ u.front;
      more = omega arith;
      few = omega arith;
    }

pub stands_on : (n : ℕ) (ps qs : List Part) (f : Formula) (i : ℕ) → Grown n ps qs → Stands ps f i → Stands qs f i
stands_on n ps qs f i g s =
    let a = g.more in
    let b = s.inside in
    record { inside = omega arith; formula_is = formula_front ps qs i g.front s.inside ∙ s.formula_is }

-- The first parts of a sound table are one.
pub sound_take : (ps : List Part) (n : ℕ) → n ≤ length ps → Sound ps → Sound (take n ps)
sound_take ps n h s = record {
  ordered = λ i l. subst (λ p. reach p ≤ i) (sym (get_or-take n ps i blank (low i l))) (s.ordered i (in_front i l));
  once = λ i j w e.
      let l : i < length (take n ps) = omega (arith, w.0, w.1) in
      s.once i j (w.0, in_front j w.1) (same_at i l ∙ e ∙ sym (same_at j w.1));
  short = λ i l. subst (λ f. short f ≡ true) (same_at i l) (s.short i (in_front i l));
}
  where
    low : (i : ℕ) → i < length (take n ps) → i < n
    low i l = omega (arith, length-take-le n ps h)

    in_front : (i : ℕ) → i < length (take n ps) → i < length ps
    in_front i l = omega (arith, length-take-le n ps h)

    same_at : (i : ℕ) → i < length (take n ps) → formula ps i ≡ formula (take n ps) i
    same_at i l = formula_front (take n ps) ps i (ap (λ k. take k ps) (length-take-le n ps h)) l
