-- The pieces of a post line.
use Rattle.std.proofs.Common.{◌≡◌, ℕ, ◌+◌, ◌<◌, Bool, true, false, cond, ◌&&◌, eqb, List, [], ◌∷◌, length, get_or, take, drop, is_some, Some, None, codes, Option, Bor, sym, refl, ap, ◌∙◌, subst, arith}
use Rattle.std.specs.Cmp.Lexicographic.{pointwise}
use Rattle.std.specs.Iterator.{Yields}
use Rattle.std.proofs.lemmas.List.{drop_all, drop_more}
use Rattle.std.proofs.lemmas.Iterator.{YieldsList}
use Rattle.std.proofs.lemmas.Iterator.Splits.{YieldsList-from_slice_split}
use Rattle.std.specs.Fn.{CalledAt}
use Rattle.std.specs.Slice.Iter.{split_callee, split_done, split_rest, split_steps}
use denote.Param.Members.{Mut}
use Rattle.std.proofs.lemmas.Iterator.Consumers.{YieldsList-end, YieldsList-turn}
use Rattle.roster.specs.Entries.{begins_with, behind_colon, parted, pieces, post_line}

-- More than two pieces are no post line.
parted_many : (ps : List (List ℕ)) → 2 < length ps → parted ps ≡ None
parted_many [] l = absurd (omega arith)
parted_many (x ∷ []) l = absurd (omega arith)
parted_many (x ∷ (y ∷ [])) l = absurd (omega arith)
parted_many (x ∷ (y ∷ (z ∷ ps))) l = refl

-- Behind the colon stands a space, or not.
and_yes : (t : Bool) → (t && true) ≡ t
and_yes true = refl
and_yes false = refl

behind_test : (x y : List ℕ) (t : Bool) → pointwise eqb (take 1 y) (32 ∷ []) ≡ t → behind_colon x y ≡ cond t (Some (record { name = x; signals = pieces 32 (drop 1 y) })) None
behind_test x [] t e = ap (λ b. cond b (Some (record { name = x; signals = pieces 32 [] })) None) e
behind_test x (b ∷ bs) t e =
    ap (λ u. cond u (Some (record { name = x; signals = pieces 32 bs })) None) (sym (and_yes (eqb b 32)) ∙ e)

-- The piece at a place, before those behind it.
piece_here : (ps : List (List ℕ)) (i : ℕ) (p : List ℕ) → i < length ps → p ≡ get_or ps i p → drop i ps ≡ p ∷ drop (i + 1) ps
piece_here ps i p l e = drop_more ps i p l ∙ ap (λ q. q ∷ drop (i + 1) ps) (sym e)

-- A text that is cut at each byte m.
module _ {F : Type 0} (g : Mut F (Bor ℕ × Unit {0}) Bool) {f : F} (s : _) (m : ℕ) (text : List ℕ) (rest : split_rest s ≡ text) (fresh : split_done s ≡ false) (callee : split_callee s ≡ f) (tells : (x : ℕ) (t : Bool) (q : F) → CalledAt g f x t q → (q ≡ f) × (t ≡ eqb x m)) where
  yields : YieldsList (split_steps g) (λ x. x.now) s (pieces m text)
  yields = YieldsList-from_slice_split g (λ c. eqb c m) text rest fresh callee tells

  pub piece_turn : (xs : List (Bor (List ℕ))) (t : _) → Yields (split_steps g) s xs t → (r : Option (Bor (List ℕ))) (u : _) (x : Bor (List ℕ)) → r ≡ Some x → split_steps g t r u → drop (length xs) (pieces m text) ≡ x.now ∷ drop (length xs + 1) (pieces m text)
  piece_turn xs t y r u x h k =
      let turn = YieldsList-turn yields xs t y r u x h k in piece_here (pieces m text) (length xs) x.now turn.0 turn.1

  pub pieces_end : (xs : List (Bor (List ℕ))) (t : _) → Yields (split_steps g) s xs t → (r : Option (Bor (List ℕ))) (u : _) → r ≡ None → split_steps g t r u → drop (length xs) (pieces m text) ≡ []
  pieces_end xs t y r u h k =
      let all = (YieldsList-end yields xs t y r u h k).1 in drop_all (length xs) (pieces m text) (omega (arith, all))

-- The pieces of a line that begins with `post` and a space, as they come.
line_is : (text : List ℕ) → begins_with (codes "post ") text ≡ true → post_line text ≡ parted (pieces 58 (drop 5 text))
line_is text begun = ap (λ t. cond t (parted (pieces 58 (drop 5 text))) None) begun

module _ {F : Type 0} (g : Mut F (Bor ℕ × Unit {0}) Bool) {f : F} (s : _) (text : List ℕ) (begun : begins_with (codes "post ") text ≡ true) (rest : split_rest s ≡ drop 5 text) (fresh : split_done s ≡ false) (callee : split_callee s ≡ f) (tells : (x : ℕ) (t : Bool) (q : F) → CalledAt g f x t q → (q ≡ f) × (t ≡ eqb x 58)) where
  road : YieldsList (split_steps g) (λ x. x.now) s (pieces 58 (drop 5 text))
  road = yields g s 58 (drop 5 text) rest fresh callee tells

  module _ (a : Bor (List ℕ)) (p : Option (Bor (List ℕ))) (t : _) (first_step : split_steps g s p t) (is_a : p ≡ Some a) where
    first : Yields (split_steps g) s (a ∷ []) t
    first = (t, subst (λ o. split_steps g s o t) is_a first_step, refl)

    pub one_piece : (q : Option (Bor (List ℕ))) (u : _) → split_steps g t q u → q ≡ None → post_line text ≡ None
    one_piece q u step h = line_is text begun ∙ ap parted (sym (YieldsList-end road (a ∷ []) t first q u h step).0)

    module _ (b : Bor (List ℕ)) (q : Option (Bor (List ℕ))) (u : _) (second_step : split_steps g t q u) (is_b : q ≡ Some b) where
      second : Yields (split_steps g) s (a ∷ (b ∷ [])) u
      second = (t, subst (λ o. split_steps g s o t) is_a first_step, (u, subst (λ o. split_steps g t o u) is_b second_step, refl))

      pub more_pieces : (r : Option (Bor (List ℕ))) (v : _) → split_steps g u r v → is_some r ≡ true → post_line text ≡ None
      more_pieces None v step i = absurd (cc)
      more_pieces (Some c) v step i =
          line_is text begun ∙ parted_many (pieces 58 (drop 5 text)) (YieldsList-turn road (a ∷ (b ∷ [])) u second (Some c) v c refl step).0

      two_pieces : (r : Option (Bor (List ℕ))) (v : _) → split_steps g u r v → r ≡ None → post_line text ≡ parted (a.now ∷ (b.now ∷ []))
      two_pieces r v step n = line_is text begun ∙ ap parted (sym (YieldsList-end road (a ∷ (b ∷ [])) u second r v n step).0)

      pub no_space : (r : Option (Bor (List ℕ))) (v : _) → split_steps g u r v → r ≡ None → pointwise eqb (take 1 b.now) (32 ∷ []) ≡ false → post_line text ≡ None
      no_space r v step n o = two_pieces r v step n ∙ behind_test a.now b.now false o

      pub spaced : (r : Option (Bor (List ℕ))) (v : _) → split_steps g u r v → r ≡ None → pointwise eqb (take 1 b.now) (32 ∷ []) ≡ true → (z : List ℕ) → z ≡ drop 1 b.now → post_line text ≡ Some (record { name = a.now; signals = pieces 32 z })
      spaced r v step n o z k =
          two_pieces r v step n ∙ behind_test a.now b.now true o ∙ ap (λ y. Some (record { name = a.now; signals = pieces 32 y })) (sym k)
