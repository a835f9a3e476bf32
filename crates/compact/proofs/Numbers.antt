-- The laws of numbering.
use Rattle.std.proofs.Common.{◌≡◌, ℕ, zero, suc, Some, None, Option, ◌<◌, ◌≤◌, true, ◌⊎◌, List, [], ◌∷◌, ◌++◌, length, get_or, replicate, set, sym, refl, ap, ◌∙◌, subst, ap₂, inl, inr, arith, length-set}
use native.Mathlib.Decide.{ℕ_discrete}
use Rattle.std.proofs.lemmas.List.{length_push, get_or-set_same, get_or-set_other, get_or_append_left, get_or-replicate, length-append, length-replicate}
use Rattle.temporal.specs.Formula.{Formula}
use Rattle.temporal.specs.Parts.{In, Distinct, Part as PartOf, Whole, walk}
use Rattle.parts.specs.Places.{one, two, node, place, formula, formulas, blank, reach, short, Sound, OperandsFirst, Grown, Stands}
use Rattle.compact.specs.Numbered.{Numbered}
use Rattle.parts.specs.declared.part.Unary.{Unary}
use Rattle.parts.specs.declared.part.Unary.TheVariants.{Not, Next, Finally, Globally}
use Rattle.parts.specs.declared.part.Binary.{Binary}
use Rattle.parts.specs.declared.part.Binary.TheVariants.{Join, Until}
use Rattle.parts.specs.declared.part.Part.{Part}
use Rattle.parts.specs.declared.part.Part.TheVariants.{Const, Signal, Open, One, Two}
use Rattle.temporal.proofs.Lists.{in_either, in_same, no_longer}
use Rattle.temporal.proofs.Parts.{walk_distinct, walk_only}
use Rattle.temporal.proofs.Order.{under, walk_under, finish_new, not_under, whole_walk, all_listed}
use Rattle.parts.proofs.Places.{formula_node, formula_part, node_same, formulas_length, formulas_push, push_new, apart, grown_none, grown_push, grown_on, stands_on, ordered_push}

some_none : {n : ℕ} → Some n ≡ None → ⊥
some_none e = let z : ◌≡◌ {A = ℕ} 0 1 = cc in omega arith

some_same : {m n : ℕ} → Some m ≡ Some n → m ≡ n
some_same e = cc

-- Membership by place.
in_at : (fs : List Formula) (k : ℕ) → k < length fs → In (place fs k) fs
in_at [] k h = absurd (omega arith)
in_at (f ∷ fs) zero h = inl refl
in_at (f ∷ fs) (suc k) h = inr (in_at fs k (omega arith))

pub in_table : (ps : List Part) (f : Formula) (k : ℕ) → Stands ps f k → In f (formulas ps)
in_table ps f k s =
    let l = formulas_length ps in
    let h = s.inside in
    in_same f (formula ps k) (formulas ps) (sym s.formula_is) (in_at (formulas ps) k (omega arith))

-- The parts of a formula in a table are all in the table.
parts_of_one : (u : Unary) (f x : Formula) → PartOf x (one u f) → (x ≡ one u f) ⊎ PartOf x f
parts_of_one Not f x k = k
parts_of_one Next f x k = k
parts_of_one Finally f x k = k
parts_of_one Globally f x k = k

parts_of_two : (b : Binary) (f g x : Formula) → PartOf x (two b f g) → (x ≡ two b f g) ⊎ (PartOf x f ⊎ PartOf x g)
parts_of_two (Join o) f g x k = k
parts_of_two Until f g x k = k

module _ (ps : List Part) (o : OperandsFirst ps) (x : Formula) where
  in_below : (n i : ℕ) → i < n → i < length ps → PartOf x (formula ps i) → In x (formulas ps)
  in_below zero i l h k = absurd (omega arith)
  in_below (suc n) i l h k = go (λ a. in_below n a) (get_or ps i blank) (o i h) (formula_node ps i o h) (subst (PartOf x) (formula_node ps i o h) k)
    where
      here : (x ≡ formula ps i) → In x (formulas ps)
      here e = in_table ps x i record { inside = h; formula_is = sym e }

      go : ((a : ℕ) → a < n → a < length ps → PartOf x (formula ps a) → In x (formulas ps)) → (p : Part) → reach p ≤ i → formula ps i ≡ node (formula ps) p → PartOf x (node (formula ps) p) → In x (formulas ps)
      go rest (Const b) r e j = here (j ∙ sym e)
      go rest (Signal q) r e j = here (j ∙ sym e)
      go rest (Open q t) r e j = here (j ∙ sym e)
      go rest (One u a) r e j =
          elim (parts_of_one u (formula ps a) x j) [
            | inl q ↦ here (q ∙ sym e)
            | inr w ↦ rest a (omega arith) (omega arith) w
          ]
      go rest (Two b y z) r e j =
          elim (parts_of_two b (formula ps y) (formula ps z) x j) [
            | inl q ↦ here (q ∙ sym e)
            | inr (inl w) ↦ rest y (omega arith) (omega arith) w
            | inr (inr w) ↦ rest z (omega arith) (omega arith) w
          ]

-- Walking one more formula of the table keeps the list within it.
module _ (ps : List Part) (s : Sound ps) (i : ℕ) (h : i < length ps) where
  within_walk : (xs : List Formula) → ((g : Formula) → In g xs → In g (formulas ps)) → (g : Formula) → In g (walk (formula ps i) xs) → In g (formulas ps)
  within_walk xs w g k =
      elim (walk_only g (formula ps i) xs k) [
        | inl j ↦ in_below ps s.ordered g (suc i) i (omega arith) h j
        | inr j ↦ w g j
      ]

  -- A part with no number yet has room.
  pub room : (ns : List (Option ℕ)) (qs : List Part) → Numbered ps ns qs → get_or ns i None ≡ None → length qs < length ps
  room ns qs n e =
      let f = formula ps i in
      let xs = formulas qs in
      let d : Distinct (f ∷ xs) = (n.none i h e, n.distinct) in
      let w : (g : Formula) → In g (f ∷ xs) → In g (formulas ps) = λ g k. elim k [
        | inl q ↦ in_table ps g i record { inside = h; formula_is = sym q }
        | inr j ↦ n.within g j
      ] in
      let l = no_longer (f ∷ xs) (formulas ps) d w in
      omega (arith, formulas_length qs, formulas_length ps)

  -- A number is where the walk ends at once.
  pub old_walk : (ns : List (Option ℕ)) (qs : List Part) (k : ℕ) → Numbered ps ns qs → get_or ns i None ≡ Some k → formulas qs ≡ walk (formula ps i) (formulas qs)
  old_walk ns qs k n e =
      sym (all_listed (formula ps i) (formulas qs) (λ x. n.whole (formula ps i) x (in_table qs (formula ps i) k (n.number i k h e))))

  -- The part itself is written last.
  pub new_walk : (xs ys : List Formula) → (In (formula ps i) xs → ⊥) → ys ≡ under (formula ps i) xs → ys ++ (formula ps i ∷ []) ≡ walk (formula ps i) xs
  new_walk xs ys n e =
      ap (λ z. z ++ (formula ps i ∷ [])) e
      ∙ sym (walk_under (formula ps i) xs ∙ finish_new (formula ps i) (under (formula ps i) xs) (not_under (formula ps i) xs n))

  pub not_walked : (ns : List (Option ℕ)) (qs : List Part) → Numbered ps ns qs → (In (formula ps i) (formulas qs) → ⊥) → get_or ns i None ≡ None
  not_walked ns qs n e = go (get_or ns i None) refl
    where
      go : (o : Option ℕ) → get_or ns i None ≡ o → get_or ns i None ≡ None
      go None q = q
      go (Some k) q = absurd (e (in_table qs (formula ps i) k (n.number i k h q)))

  -- The part is written: ns₀ and qs₀ were there at first, ns and qs once its operands were written.
  pub numbered_push : (ns₀ ns : List (Option ℕ)) (qs₀ qs : List Part) (q : Part) → Numbered ps ns₀ qs₀ → Numbered ps ns qs → get_or ns i None ≡ None
      → reach q ≤ length qs → node (formula qs) q ≡ formula ps i → length ps ≤ 768
      → formulas qs ++ (formula ps i ∷ []) ≡ walk (formula ps i) (formulas qs₀) → Numbered ps (set ns i (Some (length qs))) (qs ++ q ∷ [])
  numbered_push ns₀ ns qs₀ qs q m n e b t few w = record {
    long = let l = length-set ns i (Some (length qs)) in let k = n.long in omega arith;
    ordered = ordered_push qs q n.ordered b;
    distinct = subst Distinct (sym all) (walk_distinct (formula ps i) (formulas qs₀) m.distinct);
    whole = subst Whole (sym all) (whole_walk (formula ps i) (formulas qs₀) m.whole);
    within = λ g k. within_walk (formulas qs₀) m.within g (subst (In g) all k);
    number = λ k m l some. by_place k m l some (ℕ_discrete k i);
    none = λ k l none j. by_none k l none j (ℕ_discrete k i);
  }
    where
      all : formulas (qs ++ q ∷ []) ≡ walk (formula ps i) (formulas qs₀)
      all = formulas_push qs q ∙ ap (λ f. formulas qs ++ f ∷ []) t ∙ w

      low : i < length ns
      low = let k = n.long in omega arith

      here : (k : ℕ) → k ≡ i → get_or (set ns i (Some (length qs))) k None ≡ Some (length qs)
      here k same = ap (λ z. get_or (set ns i (Some (length qs))) z None) same ∙ get_or-set_same ns i (Some (length qs)) None low

      by_place : (k m : ℕ) → k < length ps → get_or (set ns i (Some (length qs))) k None ≡ Some m → Dec (k ≡ i) → Stands (qs ++ q ∷ []) (formula ps k) m
      by_place k m l some (yes same) =
          let at : length qs ≡ m = some_same (sym (here k same) ∙ some) in
          let p = length_push qs q in
          subst (Stands (qs ++ q ∷ []) (formula ps k)) at record {
            inside = omega arith;
            formula_is = push_new qs q ∙ t ∙ ap (formula ps) (sym same);
          }
      by_place k m l some (no ne) =
          stands_on 1 qs (qs ++ q ∷ []) (formula ps k) m (grown_push qs q)
          (n.number k m l (sym (get_or-set_other ns i k (Some (length qs)) None ne) ∙ some))

      by_none : (k : ℕ) → k < length ps → get_or (set ns i (Some (length qs))) k None ≡ None → In (formula ps k) (formulas (qs ++ q ∷ [])) → Dec (k ≡ i) → ⊥
      by_none k l none j (yes same) = some_none (sym (here k same) ∙ none)
      by_none k l none j (no ne) =
          let at = get_or-set_other ns i k (Some (length qs)) None ne in
          elim (in_either (formula ps k) (formulas qs) (node (formula qs) q ∷ []) (subst (In (formula ps k)) (formulas_push qs q) j)) [
            | inl a ↦ n.none k l (sym at ∙ none) a
            | inr (inl a) ↦ ne (apart ps s.once k i l h (a ∙ t))
            | inr (inr a) ↦ a
          ]

-- What the walk of the operands is, by the top sign.
pub under_leaf : (p : Part) → reach p ≡ 0 → (f : ℕ → Formula) (xs : List Formula) → under (node f p) xs ≡ xs
under_leaf (Const b) r f xs = refl
under_leaf (Signal p) r f xs = refl
under_leaf (Open p e) r f xs = refl
under_leaf (One u a) r f xs = absurd (omega arith)
under_leaf (Two b x y) r f xs = absurd (omega arith)

pub under_one : (u : Unary) (f : Formula) (xs : List Formula) → under (one u f) xs ≡ walk f xs
under_one Not f xs = refl
under_one Next f xs = refl
under_one Finally f xs = refl
under_one Globally f xs = refl

pub under_two : (b : Binary) (f g : Formula) (xs : List Formula) → under (two b f g) xs ≡ walk g (walk f xs)
under_two (Join o) f g xs = refl
under_two Until f g xs = refl

-- One call of the walk: what it comes to once the operands are written.
module _ (ps : List Part) (s : Sound ps) (few : length ps ≤ 768) (i : ℕ) (h : i < length ps) (ns₀ : List (Option ℕ)) (qs₀ : List Part)
    (m : Numbered ps ns₀ qs₀) (unseen : get_or ns₀ i None ≡ None) where
  -- the part itself has no number yet
  pub still_none : (ns : List (Option ℕ)) (qs : List Part) → Numbered ps ns qs → formulas qs ≡ under (formula ps i) (formulas qs₀) → get_or ns i None ≡ None
  still_none ns qs n w =
      not_walked ps s i h ns qs n
      (λ k. not_under (formula ps i) (formulas qs₀) (m.none i h unseen) (subst (In (formula ps i)) w k))

  pub written : (ns : List (Option ℕ)) (qs : List Part) (q : Part) → Numbered ps ns qs → Grown 768 qs₀ qs → formulas qs ≡ under (formula ps i) (formulas qs₀)
      → reach q ≤ length qs → node (formula qs) q ≡ formula ps i
      → (r : ℕ) (ms : List (Option ℕ)) (rs : List Part) → r ≡ length qs → ms ≡ set ns i (Some r) → rs ≡ qs ++ q ∷ []
      → Numbered ps ms rs × (formulas rs ≡ walk (formula ps i) (formulas qs₀)) × Stands rs (formula ps i) r × Grown 768 qs₀ rs
  written ns qs q n g w b t r ms rs er em es =
      rw (em, es, er) (
        numbered_push ps s i h ns₀ ns qs₀ qs q m n none b t few last,
        formulas_push qs q ∙ ap (λ f. formulas qs ++ f ∷ []) t ∙ last,
        record { inside = omega (arith, length_push qs q); formula_is = push_new qs q ∙ t },
        record {
          front = (grown_on 768 1 769 qs₀ qs (qs ++ q ∷ []) (omega arith) g (grown_push qs q)).front;
          more = omega (arith, g.more, length_push qs q);
          few = omega (arith, room ps s i h ns qs n none, length_push qs q);
        },
      )
    where
      none : get_or ns i None ≡ None
      none = still_none ns qs n w

      last : formulas qs ++ (formula ps i ∷ []) ≡ walk (formula ps i) (formulas qs₀)
      last = new_walk ps s i h (formulas qs₀) (formulas qs) (m.none i h unseen) w

-- By the top sign: the operands are written, in their order.
module _ (ps : List Part) (s : Sound ps) (i : ℕ) (h : i < length ps) (xs : List Formula) where
  pub walked_one : (u : Unary) (a : ℕ) (ys : List Formula) → get_or ps i blank ≡ One u a → ys ≡ walk (formula ps a) xs → ys ≡ under (formula ps i) xs
  walked_one u a ys e w =
      w ∙ sym (under_one u (formula ps a) xs) ∙ sym (ap (λ f. under f xs) (formula_part ps i s.ordered h (One u a) e))

  pub walked_two : (b : Binary) (x y : ℕ) (ys zs : List Formula) → get_or ps i blank ≡ Two b x y
      → ys ≡ walk (formula ps x) xs → zs ≡ walk (formula ps y) ys → zs ≡ under (formula ps i) xs
  walked_two b x y ys zs e v w =
      w ∙ ap (walk (formula ps y)) v ∙ sym (under_two b (formula ps x) (formula ps y) xs)
      ∙ sym (ap (λ f. under f xs) (formula_part ps i s.ordered h (Two b x y) e))

  leafy : (p : Part) → ((u : Unary) (a : ℕ) → p ≡ One u a → ⊥) → ((b : Binary) (x y : ℕ) → p ≡ Two b x y → ⊥) → reach p ≡ 0
  leafy (Const b) m n = refl
  leafy (Signal p) m n = refl
  leafy (Open p e) m n = refl
  leafy (One u a) m n = absurd (m u a refl)
  leafy (Two b x y) m n = absurd (n b x y refl)

  pub walked_leaf : ((u : Unary) (a : ℕ) → get_or ps i blank ≡ One u a → ⊥) → ((b : Binary) (x y : ℕ) → get_or ps i blank ≡ Two b x y → ⊥)
      → (xs ≡ under (formula ps i) xs) × (reach (get_or ps i blank) ≡ 0)
  walked_leaf m n =
      let r = leafy (get_or ps i blank) m n in
      (sym (ap (λ f. under f xs) (formula_node ps i s.ordered h) ∙ under_leaf (get_or ps i blank) r (formula ps) xs), r)

  -- The part that is written, over the numbers of its operands.
  pub new_one : (qs : List Part) (u : Unary) (a x : ℕ) → get_or ps i blank ≡ One u a → Stands qs (formula ps a) x
      → (reach (One u x) ≤ length qs) × (node (formula qs) (One u x) ≡ formula ps i)
  new_one qs u a x e t =
      (let k = t.inside in omega arith, ap (one u) t.formula_is ∙ sym (formula_part ps i s.ordered h (One u a) e))

  pub new_two : (qs : List Part) (b : Binary) (a c x y : ℕ) → get_or ps i blank ≡ Two b a c → Stands qs (formula ps a) x → Stands qs (formula ps c) y
      → (reach (Two b x y) ≤ length qs) × (node (formula qs) (Two b x y) ≡ formula ps i)
  new_two qs b a c x y e t v =
      (let k = t.inside in let l = v.inside in omega arith, ap₂ (two b) t.formula_is v.formula_is ∙ sym (formula_part ps i s.ordered h (Two b a c) e))

  pub new_leaf : (qs : List Part) → reach (get_or ps i blank) ≡ 0 → (reach (get_or ps i blank) ≤ length qs) × (node (formula qs) (get_or ps i blank) ≡ formula ps i)
  new_leaf qs r =
      (omega arith, node_same (formula qs) (formula ps) 0 (λ k l. absurd (omega arith)) (get_or ps i blank) (omega arith) ∙ sym (formula_node ps i s.ordered h))

-- What is written is a sound table again.
found_at : (f : Formula) (fs : List Formula) → In f fs → (k : ℕ) × (k < length fs) × (place fs k ≡ f)
found_at f [] k = absurd k
found_at f (x ∷ fs) (inl e) = (0, omega arith, sym e)
found_at f (x ∷ fs) (inr j) = let w = found_at f fs j in (suc w.0, (let h = w.1 in omega arith), w.2)

distinct_at : (fs : List Formula) → Distinct fs → (i j : ℕ) → (i < j) × (j < length fs) → place fs i ≡ place fs j → ⊥
distinct_at [] d i j h e = omega (arith, h.1)
distinct_at (f ∷ fs) d zero zero h e = omega (arith, h.0)
distinct_at (f ∷ fs) d zero (suc j) h e =
    let l : j < length fs = omega (arith, h.1) in d.0 (in_same f (place fs j) fs e (in_at fs j l))
distinct_at (f ∷ fs) d (suc i) zero h e = omega (arith, h.0)
distinct_at (f ∷ fs) d (suc i) (suc j) h e = distinct_at fs d.1 i j (omega (arith, h.0), omega (arith, h.1)) e

pub numbered_sound : (ps : List Part) (ns : List (Option ℕ)) (qs : List Part) → Sound ps → Numbered ps ns qs → Sound qs
numbered_sound ps ns qs s n = record {
  ordered = n.ordered;
  once = λ i j h e. distinct_at (formulas qs) n.distinct i j (h.0, (let l = formulas_length qs in omega (arith, h.1))) e;
  short = λ i h.
      let l = formulas_length qs in
      let m = formulas_length ps in
      let w = found_at (formula qs i) (formulas ps) (n.within (formula qs i) (in_at (formulas qs) i (omega arith))) in
      subst (λ f. short f ≡ true) w.2 (s.short w.0 (let k = w.1 in omega arith));
}

-- Before a part is written, and once it is.
pub record Walked (ps : List Part) (i : ℕ) (qs₀ : List Part) (ms : List (Option ℕ)) (rs : List Part) (r : ℕ) : Type 0 where
  pub numbered : Numbered ps ms rs
  pub walked : formulas rs ≡ walk (formula ps i) (formulas qs₀)
  pub stands : Stands rs (formula ps i) r
  pub grown : Grown 768 qs₀ rs

pub record Ready (ps : List Part) (i : ℕ) (qs₀ : List Part) (ns : List (Option ℕ)) (qs : List Part) (q : Part) : Type 0 where
  pub room : length qs < 768
  pub sound : Sound (qs ++ q ∷ [])
  pub after : (r : ℕ) (ms : List (Option ℕ)) (rs : List Part) → r ≡ length qs → ms ≡ set ns i (Some r) → rs ≡ qs ++ q ∷ [] → Walked ps i qs₀ ms rs r

module _ (ps : List Part) (s : Sound ps) (few : length ps ≤ 768) (i : ℕ) (h : i < length ps) (ns₀ : List (Option ℕ)) (qs₀ : List Part)
    (m : Numbered ps ns₀ qs₀) (unseen : get_or ns₀ i None ≡ None) where
  ready : (ns : List (Option ℕ)) (qs : List Part) (q : Part) → Numbered ps ns qs → Grown 768 qs₀ qs → formulas qs ≡ under (formula ps i) (formulas qs₀)
      → (reach q ≤ length qs) × (node (formula qs) q ≡ formula ps i) → Ready ps i qs₀ ns qs q
  ready ns qs q n g w b =
      let all = written ps s few i h ns₀ qs₀ m unseen ns qs q n g w b.0 b.1 in
      record {
        room = omega (arith, room ps s i h ns qs n (still_none ps s few i h ns₀ qs₀ m unseen ns qs n w));
        sound = numbered_sound ps _ _ s (all (length qs) _ _ refl refl refl).0;
        after = λ r ms rs er em es. let z = all r ms rs er em es in record { numbered = z.0; walked = z.1; stands = z.2; grown = z.3 };
      }

  pub one_ready : (u : Unary) (a x : ℕ) (ns : List (Option ℕ)) (qs : List Part) → get_or ps i blank ≡ One u a → Numbered ps ns qs → Grown 768 qs₀ qs
      → formulas qs ≡ walk (formula ps a) (formulas qs₀) → Stands qs (formula ps a) x → Ready ps i qs₀ ns qs (One u x)
  one_ready u a x ns qs e n g w t =
      ready ns qs (One u x) n g (walked_one ps s i h (formulas qs₀) u a (formulas qs) e w) (new_one ps s i h (formulas qs₀) qs u a x e t)

  pub two_ready : (b : Binary) (a c x y : ℕ) (qs₁ : List Part) (ns : List (Option ℕ)) (qs : List Part) → get_or ps i blank ≡ Two b a c → Numbered ps ns qs
      → Grown 768 qs₀ qs₁ → Grown 768 qs₁ qs → formulas qs₁ ≡ walk (formula ps a) (formulas qs₀) → formulas qs ≡ walk (formula ps c) (formulas qs₁)
      → Stands qs₁ (formula ps a) x → Stands qs (formula ps c) y → length qs ≤ 768 → Ready ps i qs₀ ns qs (Two b x y)
  two_ready b a c x y qs₁ ns qs e n g₁ g w₁ w t₁ t l =
      ready ns qs (Two b x y) n
      record {
        front = (grown_on 768 768 1536 qs₀ qs₁ qs (omega arith) g₁ g).front;
        more = omega (arith, g₁.more, g.more);
        few = omega arith;
      }
      (walked_two ps s i h (formulas qs₀) b a c (formulas qs₁) (formulas qs) e w₁ w)
      (new_two ps s i h (formulas qs₀) qs b a c x y e (stands_on 768 qs₁ qs _ x g t₁) t)

  pub leaf_ready : (p : Part) → get_or ps i blank ≡ p → ((u : Unary) (a : ℕ) → get_or ps i blank ≡ One u a → ⊥)
      → ((b : Binary) (x y : ℕ) → get_or ps i blank ≡ Two b x y → ⊥) → Ready ps i qs₀ ns₀ qs₀ p
  leaf_ready p e o t =
      let f = walked_leaf ps s i h (formulas qs₀) o t in
      subst (Ready ps i qs₀ ns₀ qs₀) e
      (ready ns₀ qs₀ (get_or ps i blank) m (grown_on 0 0 768 qs₀ qs₀ qs₀ (omega arith) (grown_none qs₀) (grown_none qs₀)) f.0
      (new_leaf ps s i h (formulas qs₀) qs₀ f.1))

abbrev nowhere : Option ℕ
nowhere = None

-- Nothing is written yet.
pub none_yet : (ps : List Part) (ns more : List (Option ℕ)) (qs : List Part) (n : ℕ) → length ps ≤ length ns → ns ≡ replicate n None → qs ≡ [] → Numbered ps (ns ++ more) qs
unfolding formulas
none_yet ps ns more qs n l e q = rw q record {
  long = omega (arith, length-append ns more);
  ordered = λ i h. absurd (omega arith);
  distinct = tt;
  whole = λ g x k. absurd k;
  within = λ g k. absurd k;
  number = λ k m h some. absurd (some_none (sym some ∙ none_at k (omega arith)));
  none = λ k h e j. j;
}
  where
    none_at : (k : ℕ) → k < length ns → get_or (ns ++ more) k None ≡ None
    none_at k h =
        get_or_append_left ns more None k h ∙ ap (λ ms. get_or ms k None) e
        ∙ get_or-replicate n k nowhere nowhere (omega (arith, ap length e, length-replicate n nowhere))

pub nothing : formulas [] ≡ []
unfolding formulas
nothing = refl
