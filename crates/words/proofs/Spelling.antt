-- The words of a text are those that it is cut into.
use Rattle.std.proofs.Common.{◌≡◌, ℕ, zero, suc, true, eqb, List, [], ◌∷◌, ◌++◌, length, take, drop, Some, None, Option, sym, refl, ap, ◌∙◌, subst, take-append-drop}
use lib.Seq.{take-append_seam, drop-append_seam}
use Rattle.std.proofs.lemmas.Bool.{and_from, and_parts, cond_both, eqb-true}
use Rattle.std.specs.List.{list_all, prefix_len, take_while}
use Rattle.std.specs.Option.{option_map}
use Rattle.words.specs.Cuts.{Cuts, done, space, single, dash, run, WordsMean}
use Rattle.words.specs.Names.{name_byte}
use Rattle.words.specs.Texts.{arrow, before, goes, piece_of, sign, word_of, words_from}
use Rattle.words.specs.declared.word.Connective.TheVariants.{Implies}
use Rattle.words.specs.declared.word.Word.{Word}
use Rattle.words.specs.declared.word.Word.TheVariants.{Infix}
use Rattle.words.proofs.Cuts.{run_begins, sign_begins}
use Rattle.words.proofs.Fronts.{front_passes, front_ends, front_append}

-- The words behind a first one.
before_some : (v : Word) (o : Option (List Word)) (ws : List Word) → before (v ∷ []) o ≡ Some ws → (us : List Word) × (o ≡ Some us) × (v ∷ us ≡ ws)
before_some v None ws e = absurd (cc)
before_some v (Some us) ws e = let i : v ∷ us ≡ ws = cc in (us, refl, i)

module _ (w : List ℕ → Word) where
  -- From the words to the cut: what holds of the bytes behind a first byte, and what is to hold of the piece that it begins.
  abbrev Behind : List ℕ → Type 0
  Behind bs = (k : ℕ) (us : List Word) → words_from w k bs ≡ Some us → Cuts w (drop k bs) us

  abbrev Goes : Option (Word × ℕ) → ℕ → List ℕ → Type 0
  Goes p b bs = (ws : List Word) → goes p (λ k. words_from w k bs) ≡ Some ws → Cuts w (b ∷ bs) ws

  from_foreign : (b : ℕ) (bs : List ℕ) → Goes None b bs
  from_foreign b bs ws e = absurd (cc)

  from_found : (v : Word) (k b : ℕ) (bs : List ℕ) → Behind bs → ((us : List Word) → Cuts w (drop k bs) us → Cuts w (b ∷ bs) (v ∷ us)) → Goes (Some (v, k)) b bs
  from_found v k b bs ih f ws e =
      let s = before_some v (words_from w k bs) ws e in subst (Cuts w (b ∷ bs)) s.2 (f s.0 (ih k s.0 s.1))

  from_dash : (bs : List ℕ) → Behind bs → Goes (arrow bs) 45 bs
  from_dash [] ih = from_foreign 45 []
  from_dash (c ∷ bs) ih =
      cond_both (eqb c 62) (Some (Infix Implies, 1)) None (λ p. Goes p 45 (c ∷ bs))
      (λ t. from_found (Infix Implies) 1 45 (c ∷ bs) ih (λ us d. subst (λ z. Cuts w (45 ∷ z ∷ bs) (Infix Implies ∷ us)) (sym (eqb-true c 62 t)) (dash d)))
      (λ t. from_foreign 45 (c ∷ bs))

  from_run : (b : ℕ) (bs : List ℕ) → Behind bs → name_byte b ≡ true → Goes (Some (w (b ∷ take_while name_byte bs), prefix_len name_byte bs)) b bs
  from_run b bs ih n =
      let k = prefix_len name_byte bs in
      let r = take k bs in
      from_found (w (b ∷ r)) k b bs ih
      (λ us d. subst (λ z. Cuts w (b ∷ z) (w (b ∷ r) ∷ us)) (take-append-drop k bs) (run b r (and_from (name_byte b) (list_all name_byte r) n (front_passes name_byte bs)) (front_ends name_byte bs refl) d))

  from_sign : (b : ℕ) (bs : List ℕ) → Behind bs → (o : Option Word) → sign b ≡ o → Goes (option_map (λ v. (v, 0)) o) b bs
  from_sign b bs ih None h = from_foreign b bs
  from_sign b bs ih (Some v) h = from_found v 0 b bs ih (λ us d. single h d)

  from_piece : (b : ℕ) (bs : List ℕ) → Behind bs → Goes (piece_of w b bs) b bs
  from_piece b bs ih =
      cond_both (eqb b 45) (arrow bs) _ (λ p. Goes p b bs)
      (λ t. subst (λ z. Goes (arrow bs) z bs) (sym (eqb-true b 45 t)) (from_dash bs ih))
      (λ _. cond_both (name_byte b) _ (option_map (λ v. (v, 0)) (sign b)) (λ p. Goes p b bs) (from_run b bs ih) (λ _. from_sign b bs ih (sign b) refl))

  from_byte : (b : ℕ) (bs : List ℕ) → Behind bs → (ws : List Word) → words_from w 0 (b ∷ bs) ≡ Some ws → Cuts w (b ∷ bs) ws
  from_byte b bs ih ws =
      cond_both (eqb b 32) (words_from w 0 bs) (goes (piece_of w b bs) (λ k. words_from w k bs)) (λ o. o ≡ Some ws → Cuts w (b ∷ bs) ws)
      (λ t e. subst (λ z. Cuts w (z ∷ bs) ws) (sym (eqb-true b 32 t)) (space (ih 0 ws e)))
      (λ _. from_piece b bs ih ws)

  words_cut : (bs : List ℕ) (k : ℕ) (ws : List Word) → words_from w k bs ≡ Some ws → Cuts w (drop k bs) ws
  words_cut [] zero ws e = let i : [] ≡ ws = cc in subst (Cuts w []) i done
  words_cut [] (suc k) ws e = let i : [] ≡ ws = cc in subst (Cuts w []) i done
  words_cut (b ∷ bs) zero ws e = from_byte b bs (words_cut bs) ws e
  words_cut (b ∷ bs) (suc k) ws e = words_cut bs k ws e

  -- From the cut to the words.
  cut_words : {bs : List ℕ} {ws : List Word} → Cuts w bs ws → words_from w 0 bs ≡ Some ws
  cut_words done = refl
  cut_words (space d) = cut_words d
  cut_words (single {b} {v} {bs} h d) = sign_begins w b v h bs ∙ ap (before (v ∷ [])) (cut_words d)
  cut_words (dash d) = ap (before (Infix Implies ∷ [])) (cut_words d)
  cut_words (run b r {bs} h z d) =
      let a = and_parts (name_byte b) (list_all name_byte r) h in
      run_begins w b (r ++ bs) a.0
      ∙ ap (λ k. before (w (b ∷ take k (r ++ bs)) ∷ []) (words_from w 0 (drop k (r ++ bs)))) (front_append name_byte r bs a.1 z)
      ∙ ap (λ s. before (w (b ∷ s) ∷ []) (words_from w 0 (drop (length r) (r ++ bs)))) (take-append_seam r bs)
      ∙ ap (λ s. before (w (b ∷ r) ∷ []) (words_from w 0 s)) (drop-append_seam r bs)
      ∙ ap (before (w (b ∷ r) ∷ [])) (cut_words d)

pub words_mean : WordsMean
words_mean names bs ws = (words_cut (word_of names) bs 0 ws, cut_words (word_of names))
