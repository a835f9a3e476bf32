-- How far a test passes from the front.
use Rattle.std.proofs.Common.{◌≡◌, ℕ, suc, ◌+◌, Bool, true, false, List, [], ◌∷◌, ◌++◌, length, get_or, take, drop, sym, refl, ap, ◌∙◌, subst, arith}
use Rattle.std.proofs.lemmas.Bool.{and_from, and_parts, cond-true, cond-false, cond_both}
use Rattle.std.specs.List.{list_all, prefix_len}

module _ (p : ℕ → Bool) where
  one_more : (b : ℕ) (bs : List ℕ) → suc (prefix_len p bs) ≡ 1 + prefix_len p bs
  one_more b bs = omega arith

  -- The bytes at the front pass,
  pub front_passes : (bs : List ℕ) → list_all p (take (prefix_len p bs) bs) ≡ true
  front_passes [] = refl
  front_passes (b ∷ bs) =
      cond_both (p b) (1 + prefix_len p bs) 0 (λ k. list_all p (take k (b ∷ bs)) ≡ true)
      (λ t. subst (λ k. list_all p (take k (b ∷ bs)) ≡ true) (one_more b bs) (and_from (p b) _ t (front_passes bs))) (λ t. refl)

  -- the one behind them does not,
  pub front_ends : (bs : List ℕ) → p 0 ≡ false → p (get_or (drop (prefix_len p bs) bs) 0 0) ≡ false
  front_ends [] z = z
  front_ends (b ∷ bs) z =
      cond_both (p b) (1 + prefix_len p bs) 0 (λ k. p (get_or (drop k (b ∷ bs)) 0 0) ≡ false)
      (λ t. subst (λ k. p (get_or (drop k (b ∷ bs)) 0 0) ≡ false) (one_more b bs) (front_ends bs z)) (λ t. t)

  -- and bytes that pass, before one that does not, are the front.
  pub front_append : (r bs : List ℕ) → list_all p r ≡ true → p (get_or bs 0 0) ≡ false → prefix_len p (r ++ bs) ≡ length r
  front_append [] [] h z = refl
  front_append [] (b ∷ bs) h z = cond-false (p b) (1 + prefix_len p bs) 0 z
  front_append (c ∷ r) bs h z =
      let a = and_parts (p c) (list_all p r) h in
      cond-true (p c) (1 + prefix_len p (r ++ bs)) 0 a.0 ∙ sym (one_more c (r ++ bs)) ∙ ap suc (front_append r bs a.1 z)
