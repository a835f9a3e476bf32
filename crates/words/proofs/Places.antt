-- What has names, in the place of the names.
use Rattle.std.proofs.Common.{◌≡◌, ℕ, ◌+◌, Bool, true, cond, not, ◌||◌, ltb, List, [], ◌∷◌, map, length, Some, None, sym, refl, ap, ◌∙◌, arith}
use Rattle.std.proofs.lemmas.Bool.{cond_both, ltb-false}
use Rattle.std.proofs.lemmas.List.{length-map}
use Rattle.std.proofs.lemmas.List.Sums.{prefix_len-le-length}
use Rattle.std.specs.List.{list_any, position, position_or_len}
use Rattle.std.specs.Option.{option_map, unwrap_or}
use Rattle.std.specs.Str.{bytes_eq}
use Rattle.words.specs.Names.{among, is_name, place_of}
use Rattle.words.specs.Texts.{constant_of, word_of}
use Rattle.words.specs.declared.word.Leaf.TheVariants.{Const, Signal}
use Rattle.words.specs.declared.word.Word.TheVariants.{Atom, Stray}

module _ {X : Type 0} (f : X → List ℕ) (t : List ℕ) where
  pub among_map : (xs : List X) → list_any (λ x. bytes_eq t (f x)) xs ≡ among t (map f xs)
  among_map [] = refl
  among_map (x ∷ xs) = ap (λ b. bytes_eq t (f x) || b) (among_map xs)

  place_map : (xs : List X) → position_or_len (λ x. bytes_eq t (f x)) xs ≡ place_of t (map f xs)
  place_map [] = refl
  place_map (x ∷ xs) = ap (λ k. cond (not (bytes_eq t (f x))) (1 + k) 0) (place_map xs)

  pub position_map : (xs : List X) → position (λ x. bytes_eq t (f x)) xs ≡ position (λ n. bytes_eq t n) (map f xs)
  position_map xs =
      ap (λ k. cond (ltb k (length xs)) (Some k) None) (place_map xs)
      ∙ ap (λ n. cond (ltb (place_of t (map f xs)) n) (Some (place_of t (map f xs))) None) (sym (length-map xs f))

-- One past the last, where no element passes.
position_or : {X : Type 0} (p : X → Bool) (xs : List X) → unwrap_or (position p xs) (length xs) ≡ position_or_len p xs
position_or p xs =
    let most = prefix_len-le-length (λ x. not (p x)) xs in
    cond_both (ltb (position_or_len p xs) (length xs)) (Some (position_or_len p xs)) None (λ o. unwrap_or o (length xs) ≡ position_or_len p xs)
    (λ t. refl) (λ t. let least = ltb-false (position_or_len p xs) (length xs) t in omega arith)

-- The word that a name is.
pub word_named : {X : Type 0} (f : X → List ℕ) (xs : List X) (bs : List ℕ) → constant_of bs ≡ None → is_name bs ≡ true → Atom (Signal (unwrap_or (position (λ n. bytes_eq bs n) (map f xs)) (length xs))) ≡ word_of (map f xs) bs
word_named f xs bs c n =
    ap (λ k. Atom (Signal k)) (ap (unwrap_or (position (λ y. bytes_eq bs y) (map f xs))) (sym (length-map xs f)) ∙ position_or (λ y. bytes_eq bs y) (map f xs))
    ∙ ap (λ b. cond b (Atom (Signal (place_of bs (map f xs)))) Stray) (sym n)
    ∙ ap (λ o. unwrap_or (option_map (λ b. Atom (Const b)) o) (cond (is_name bs) (Atom (Signal (place_of bs (map f xs)))) Stray)) (sym c)
