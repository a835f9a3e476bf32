-- The words of a text, piece by piece.
use Rattle.std.proofs.Common.{◌≡◌, ℕ, zero, suc, ◌+◌, ◌-◌, ◌≤◌, true, false, eqb, List, [], ◌∷◌, ◌++◌, length, get_or, take, drop, Some, None, Option, sym, refl, ap, ◌∙◌, subst, append_assoc, arith}
use Rattle.std.proofs.lemmas.List.{take_rest}
use Rattle.std.proofs.lemmas.Bool.{both_ways, cond_both, cond-false, cond-true, eqb-true, ne_eqb}
use Rattle.std.specs.List.{AllByRecursion, find, prefix_len, take_while}
use Rattle.std.specs.Option.{option_map}
use Rattle.words.specs.Names.{name_byte}
use Rattle.words.specs.Texts.{arrow, before, goes, piece_of, sign, signs, words_from}
use Rattle.words.specs.declared.word.Connective.TheVariants.{Implies}
use Rattle.words.specs.declared.word.Word.{Word}
use Rattle.words.specs.declared.word.Word.TheVariants.{Infix}

-- What holds of each entry of a list holds of what is listed there.
abbrev Each : (ℕ → Word → Type 0) → List (ℕ × Word) → Type 0
Each P xs = AllByRecursion (λ x. P x.0 x.1) xs

each_listed : (P : ℕ → Word → Type 0) (b : ℕ) (v : Word) (xs : List (ℕ × Word)) → Each P xs → option_map (λ x. x.1) (find (λ x. eqb b x.0) xs) ≡ Some v → P b v
each_listed P b v [] h = λ e. absurd (cc)
each_listed P b v (x ∷ xs) h =
    cond_both (eqb b x.0) (Some x) (find (λ y. eqb b y.0) xs) (λ o. option_map (λ y. y.1) o ≡ Some v → P b v)
    (λ t e. let i : x.1 ≡ v = cc in subst (λ z. P z v) (sym (eqb-true b x.0 t)) (subst (P x.0) i h.0))
    (λ t e. each_listed P b v xs h.1 e)

-- A name byte is no byte that may not stand in a name.
not_name : (b c : ℕ) → name_byte b ≡ true → name_byte c ≡ false → eqb b c ≡ false
not_name b c n h = ne_eqb b c (λ e. both_ways (name_byte b) (ap name_byte e ∙ h) n)

module _ (w : List ℕ → Word) where
  -- Bytes that belong to a word before are passed over.
  pub passed : (k : ℕ) (bs : List ℕ) → words_from w k bs ≡ words_from w 0 (drop k bs)
  passed zero bs = refl
  passed (suc k) [] = refl
  passed (suc k) (b ∷ bs) = passed k bs

  -- The words of a text that begins with a word v of k bytes more.
  abbrev pub Begins : List ℕ → ℕ → ℕ → Word → Type 0
  Begins bs b k v = words_from w 0 (b ∷ bs) ≡ before (v ∷ []) (words_from w 0 (drop k bs))

  begins : (b : ℕ) (bs : List ℕ) (k : ℕ) (v : Word) → eqb b 32 ≡ false → piece_of w b bs ≡ Some (v, k) → Begins bs b k v
  begins b bs k v s e =
      cond-false (eqb b 32) (words_from w 0 bs) _ s
      ∙ ap (λ p. goes p (λ m. words_from w m bs)) e
      ∙ ap (before (v ∷ [])) (passed k bs)

  pub sign_begins : (b : ℕ) (v : Word) → sign b ≡ Some v → (bs : List ℕ) → Begins bs b 0 v
  sign_begins b v =
      each_listed (λ c u. (bs : List ℕ) → Begins bs c 0 u) b v signs
      (λ bs. refl, (λ bs. refl, (λ bs. refl, (λ bs. refl, (λ bs. refl, (λ bs. refl, (λ bs. refl, (λ bs. refl, (λ bs. refl, tt)))))))))

  pub run_begins : (b : ℕ) (bs : List ℕ) → name_byte b ≡ true → Begins bs b (prefix_len name_byte bs) (w (b ∷ take_while name_byte bs))
  run_begins b bs n =
      begins b bs (prefix_len name_byte bs) (w (b ∷ take_while name_byte bs)) (not_name b 32 n refl)
      (cond-false (eqb b 45) (arrow bs) _ (not_name b 45 n refl)
      ∙ cond-true (name_byte b) _ (option_map (λ v. (v, 0)) (sign b)) n)

  before_more : (ws : List Word) (v : Word) (o : Option (List Word)) → before (ws ++ (v ∷ [])) o ≡ before ws (before (v ∷ []) o)
  before_more ws v None = refl
  before_more ws v (Some us) = ap Some (append_assoc ws (v ∷ []) us)

  -- One piece on, where ws stands before it.
  pub cut_arrow : (ws : List Word) (bs : List ℕ) → 2 ≤ length bs → get_or bs 0 0 ≡ 45 → get_or bs 1 0 ≡ 62 → before (ws ++ Infix Implies ∷ []) (words_from w 0 (take (length bs - 2) (drop 2 bs))) ≡ before ws (words_from w 0 bs)
  cut_arrow ws [] l d g = absurd (omega arith)
  cut_arrow ws (b ∷ []) l d g = absurd (omega arith)
  cut_arrow ws (b ∷ (c ∷ bs)) l d g =
      ap (λ z. before (ws ++ Infix Implies ∷ []) (words_from w 0 z)) (take_rest (b ∷ (c ∷ bs)) 2)
      ∙ before_more ws (Infix Implies) (words_from w 0 bs)
      ∙ ap (λ z. before ws (words_from w 0 (z ∷ (62 ∷ bs)))) (sym d)
      ∙ ap (λ z. before ws (words_from w 0 (b ∷ (z ∷ bs)))) (sym g)

  pub cut_sign : (ws : List Word) (v : Word) (bs : List ℕ) → 1 ≤ length bs → sign (get_or bs 0 0) ≡ Some v → before (ws ++ v ∷ []) (words_from w 0 (take (length bs - 1) (drop 1 bs))) ≡ before ws (words_from w 0 bs)
  cut_sign ws v [] l s = absurd (omega arith)
  cut_sign ws v (b ∷ bs) l s =
      ap (λ z. before (ws ++ v ∷ []) (words_from w 0 z)) (take_rest (b ∷ bs) 1)
      ∙ before_more ws v (words_from w 0 bs)
      ∙ ap (before ws) (sym (sign_begins b v s bs))

  -- A byte that is in no word.
  pub cut_foreign : (ws : List Word) (bs : List ℕ) → 1 ≤ length bs → (get_or bs 0 0 ≡ 32 → ⊥) → name_byte (get_or bs 0 0) ≡ false → sign (get_or bs 0 0) ≡ None → (2 ≤ length bs → get_or bs 0 0 ≡ 45 → get_or bs 1 0 ≡ 62 → ⊥) → before ws (words_from w 0 bs) ≡ None
  cut_foreign ws [] l s n g a = absurd (omega arith)
  cut_foreign ws (b ∷ bs) l s n g a =
      ap (before ws) (cond-false (eqb b 32) (words_from w 0 bs) _ (ne_eqb b 32 s) ∙ ap (λ p. goes p (λ m. words_from w m bs)) foreign)
    where
      no_arrow : (cs : List ℕ) → (1 ≤ length cs → b ≡ 45 → get_or cs 0 0 ≡ 62 → ⊥) → eqb b 45 ≡ true → arrow cs ≡ None
      no_arrow [] h t = refl
      no_arrow (c ∷ cs) h t = cond-false (eqb c 62) (Some (Infix Implies, 1)) None (ne_eqb c 62 (h (omega arith) (eqb-true b 45 t)))

      foreign : piece_of w b bs ≡ None
      foreign =
          cond_both (eqb b 45) (arrow bs) _ (λ p. p ≡ None) (no_arrow bs (λ k. a (omega arith)))
          (λ t. cond-false (name_byte b) _ (option_map (λ v. (v, 0)) (sign b)) n ∙ ap (option_map (λ v. (v, 0))) g)

  -- A run has a byte.
  pub run_some : (bs : List ℕ) → 1 ≤ length bs → name_byte (get_or bs 0 0) ≡ true → 1 ≤ prefix_len name_byte bs
  run_some [] l n = absurd (omega arith)
  run_some (b ∷ bs) l n = let c = cond-true (name_byte b) (1 + prefix_len name_byte bs) 0 n in omega arith

  pub cut_run : (ws : List Word) (v : Word) (bs r z : List ℕ) (k : ℕ) → 1 ≤ length bs → name_byte (get_or bs 0 0) ≡ true → k ≡ prefix_len name_byte bs → r ≡ take k bs → z ≡ drop k bs → v ≡ w r → before (ws ++ v ∷ []) (words_from w 0 z) ≡ before ws (words_from w 0 bs)
  cut_run ws v [] r z k l n e f g h = absurd (omega arith)
  cut_run ws v (b ∷ bs) r z k l n e f g h =
      let long : k ≡ suc (prefix_len name_byte bs) = omega (arith, cond-true (name_byte b) (1 + prefix_len name_byte bs) 0 n) in
      ap (λ u. before (ws ++ u ∷ []) (words_from w 0 z)) (h ∙ ap w f)
      ∙ ap (λ u. before (ws ++ w (take k (b ∷ bs)) ∷ []) (words_from w 0 u)) g
      ∙ ap (λ m. before (ws ++ w (take m (b ∷ bs)) ∷ []) (words_from w 0 (drop m (b ∷ bs)))) long
      ∙ before_more ws (w (b ∷ take_while name_byte bs)) (words_from w 0 (drop (prefix_len name_byte bs) bs))
      ∙ ap (before ws) (sym (run_begins b bs n))
