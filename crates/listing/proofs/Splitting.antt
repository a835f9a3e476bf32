-- An input that is split at its first empty line, and a text that is split at its first line end.
use Rattle.std.proofs.Common.{◌≡◌, ℕ, suc, ◌+◌, ◌<◌, ◌≤◌, Bool, true, false, cond, not, ◌&&◌, eqb, ltb, List, [], ◌∷◌, length, get_or, take, drop, Some, None, Option, sym, refl, ap, ◌∙◌, one-add, arith}
use Rattle.std.specs.Iterator.{AlwaysYields}
use Rattle.std.specs.List.{position, position_or_len}
use Rattle.std.specs.Slice.Iter.{windows_rest, windows_size, windows_steps}
use Rattle.std.specs.declared.slice.Windows.{Windows}
use Rattle.std.proofs.lemmas.Iterator.{YieldsList}
use Rattle.std.proofs.lemmas.List.{drop_all, take_all}
use Rattle.std.proofs.lemmas.Bool.{ltb-true, ltb-false}
use Rattle.sheet.specs.Texts.{lines}
use Rattle.listing.specs.Inputs.{before_empty, behind_empty, sheet_part, ticks_part}

-- The place that is answered is the first that passes.
place_some : {A : Type 0} (p : A → Bool) (xs : List A) (i : ℕ) → position p xs ≡ Some i → (position_or_len p xs ≡ i) × (i < length xs)
place_some p xs i = go (ltb (position_or_len p xs) (length xs)) refl
  where
    go : (t : Bool) → ltb (position_or_len p xs) (length xs) ≡ t → cond t (Some (position_or_len p xs)) None ≡ Some i → (position_or_len p xs ≡ i) × (i < length xs)
    go true e h = let k : position_or_len p xs ≡ i = cc in (k, omega (arith, ltb-true _ _ e))
    go false e h = let z : ◌≡◌ {A = ℕ} 0 1 = cc in absurd (omega arith)

place_none : {A : Type 0} (p : A → Bool) (xs : List A) → position p xs ≡ None → length xs ≤ position_or_len p xs
place_none p xs = go (ltb (position_or_len p xs) (length xs)) refl
  where
    go : (t : Bool) → ltb (position_or_len p xs) (length xs) ≡ t → cond {A = Option ℕ} t (Some (position_or_len p xs)) None ≡ None → length xs ≤ position_or_len p xs
    go true e h = let z : ◌≡◌ {A = ℕ} 0 1 = cc in absurd (omega arith)
    go false e h = omega (arith, ltb-false _ _ e)

-- Two neighbours are both line ends.
abbrev pub are_ends : List ℕ → Bool
are_ends p = eqb (length p) 2 && (eqb (get_or p 0 0) 10 && eqb (get_or p 1 0) 10)

-- The neighbours in bytes before which byte c stands, and in all bytes of an input.
abbrev pub pairs_from : ℕ → List ℕ → List (List ℕ)
pairs_from c [] = []
pairs_from c (b ∷ bs) = (c ∷ b ∷ []) ∷ pairs_from b bs

abbrev pub pairs : List ℕ → List (List ℕ)
pairs [] = []
pairs (b ∷ bs) = pairs_from b bs

windows_give : (bs : List ℕ) (s : Windows ℕ) → windows_rest s ≡ bs → windows_size s ≡ 2 → AlwaysYields windows_steps (λ w. w.now) s (pairs bs)
windows_give [] s e z = λ x j p. absurd (omega (arith, ap length e, p.1.0))
windows_give (b ∷ []) s e z = λ x j p. absurd (omega (arith, ap length e, p.1.0))
windows_give (b ∷ c ∷ cs) s e z = (
  (λ j p. absurd (omega (arith, ap length e, p.1.0))),
  λ x j p. (p.1.1 ∙ ap (λ (q : ℕ × List ℕ). take q.0 q.1) (λ i. (z i, e i)), windows_give (c ∷ cs) j (p.1.2 ∙ ap (drop 1) e) (p.0 ∙ z)),
)

pub pairs_of_windows : (bs : List ℕ) (s : Windows ℕ) → windows_rest s ≡ bs → windows_size s ≡ 2 → YieldsList windows_steps (λ w. w.now) s (pairs bs)
pairs_of_windows bs s e z = record { runs = windows_give bs s e z }

-- The place of the first empty line, where byte c stands before the bytes.
empty_at : ℕ → List ℕ → ℕ
empty_at c bs = position_or_len are_ends (pairs_from c bs)

pairs_length : (c : ℕ) (bs : List ℕ) → length (pairs_from c bs) ≡ length bs
pairs_length c [] = refl
pairs_length c (b ∷ bs) = ap suc (pairs_length b bs)

before_is : (c : ℕ) (bs : List ℕ) → take (empty_at c bs) bs ≡ before_empty (eqb c 10) bs
unfolding empty_at
before_is c [] = refl
before_is c (b ∷ bs) = go (eqb c 10 && eqb b 10) (before_is b bs)
  where
    go : (t : Bool) → take (empty_at b bs) bs ≡ before_empty (eqb b 10) bs → take (cond (not t) (1 + empty_at b bs) 0) (b ∷ bs) ≡ cond t [] (b ∷ before_empty (eqb b 10) bs)
    go true h = refl
    go false h = ap (λ n. take n (b ∷ bs)) (one-add (empty_at b bs)) ∙ ap (λ z. b ∷ z) h

behind_is : (c : ℕ) (bs : List ℕ) → drop (empty_at c bs + 1) bs ≡ behind_empty (eqb c 10) bs
unfolding empty_at
behind_is c [] = refl
behind_is c (b ∷ bs) = go (eqb c 10 && eqb b 10) (behind_is b bs)
  where
    go : (t : Bool) → drop (empty_at b bs + 1) bs ≡ behind_empty (eqb b 10) bs → drop (cond (not t) (1 + empty_at b bs) 0 + 1) (b ∷ bs) ≡ cond t bs (behind_empty (eqb b 10) bs)
    go true h = refl
    go false h =
        let s : 1 + empty_at b bs + 1 ≡ suc (empty_at b bs + 1) = omega arith in
        ap (λ n. drop n (b ∷ bs)) s ∙ h

pub no_first : (bs : List ℕ) → length bs < 1 → eqb (get_or bs 0 0) 10 ≡ false
no_first [] l = refl
no_first (b ∷ bs) l = absurd (omega arith)

-- The first byte is no line end, so it belongs to the sheet.
sheet_from : (c : ℕ) (cs z : List ℕ) (t : Bool) → t ≡ false → z ≡ before_empty t cs → c ∷ z ≡ cond t [] (c ∷ before_empty t cs)
sheet_from c cs z true f h = absurd cc
sheet_from c cs z false f h = ap (λ y. c ∷ y) h

ticks_from : (cs z : List ℕ) (t : Bool) → t ≡ false → z ≡ behind_empty t cs → z ≡ cond t cs (behind_empty t cs)
ticks_from cs z true f h = absurd cc
ticks_from cs z false f h = h

pub split_here : (bs : List ℕ) (at : ℕ) → eqb (get_or bs 0 0) 10 ≡ false → position are_ends (pairs bs) ≡ Some at → (take (at + 1) bs ≡ sheet_part bs) × (drop (at + 2) bs ≡ ticks_part bs)
unfolding empty_at
split_here [] at f e = absurd (omega (arith, (place_some are_ends [] at e).1))
split_here (c ∷ cs) at f e =
    let p = place_some are_ends (pairs_from c cs) at e in
    let one : at + 1 ≡ suc at = omega arith in
    let two : at + 2 ≡ suc (at + 1) = omega arith in (
      ap (λ n. take n (c ∷ cs)) one ∙ sheet_from c cs _ (eqb c 10) f (ap (λ n. take n cs) (sym p.0) ∙ before_is c cs),
      ap (λ n. drop n (c ∷ cs)) two ∙ ticks_from cs _ (eqb c 10) f (ap (λ n. drop (n + 1) cs) (sym p.0) ∙ behind_is c cs),
    )

pub split_none : (bs : List ℕ) → eqb (get_or bs 0 0) 10 ≡ false → position are_ends (pairs bs) ≡ None → (bs ≡ sheet_part bs) × ([] ≡ ticks_part bs)
unfolding empty_at
split_none [] f e = (refl, refl)
split_none (c ∷ cs) f e =
    let p = place_none are_ends (pairs_from c cs) e in
    let n = pairs_length c cs in (
      sheet_from c cs _ (eqb c 10) f (sym (take_all _ cs (omega arith)) ∙ before_is c cs),
      ticks_from cs _ (eqb c 10) f (sym (drop_all _ cs (omega arith)) ∙ behind_is c cs),
    )

-- The first line.
abbrev pub is_end : ℕ → Bool
is_end b = eqb b 10

line_to : (bs : List ℕ) → position_or_len is_end bs < length bs → lines bs ≡ take (position_or_len is_end bs) bs ∷ lines (drop (position_or_len is_end bs + 1) bs)
line_to [] l = absurd (omega arith)
line_to (c ∷ cs) l = go (eqb c 10) refl (line_to cs)
  where
    go : (t : Bool) → eqb c 10 ≡ t → (position_or_len is_end cs < length cs → lines cs ≡ take (position_or_len is_end cs) cs ∷ lines (drop (position_or_len is_end cs + 1) cs))
        → lines (c ∷ cs) ≡ take (position_or_len is_end (c ∷ cs)) (c ∷ cs) ∷ lines (drop (position_or_len is_end (c ∷ cs) + 1) (c ∷ cs))
    go true e h = rw e refl
    go false e h =
        let k : 1 + position_or_len is_end cs < suc (length cs) = rw e at l in
        let s : 1 + position_or_len is_end cs + 1 ≡ suc (position_or_len is_end cs + 1) = omega arith in
        rw (e, h (omega arith), s, one-add (position_or_len is_end cs)) refl

line_all : (bs : List ℕ) → 0 < length bs → length bs ≤ position_or_len is_end bs → lines bs ≡ bs ∷ []
line_all [] n l = absurd (omega arith)
line_all (c ∷ cs) n l = go (eqb c 10) refl cs (line_all cs) l
  where
    go : (t : Bool) → eqb c 10 ≡ t → (ds : List ℕ) → (0 < length ds → length ds ≤ position_or_len is_end ds → lines ds ≡ ds ∷ []) → length (c ∷ ds) ≤ position_or_len is_end (c ∷ ds) → lines (c ∷ ds) ≡ (c ∷ ds) ∷ []
    go true e ds h l = let k : suc (length ds) ≤ 0 = rw e at l in absurd (omega arith)
    go false e [] h l = rw e refl
    go false e (d ∷ ds) h l =
        let k : suc (length (d ∷ ds)) ≤ 1 + position_or_len is_end (d ∷ ds) = rw e at l in
        rw (e, h (omega arith) (omega arith)) refl

pub first_line : (bs : List ℕ) (end : ℕ) → position is_end bs ≡ Some end → lines bs ≡ take end bs ∷ lines (drop (end + 1) bs)
first_line bs end e =
    let p = place_some is_end bs end e in
    line_to bs (omega arith) ∙ ap (λ n. take n bs ∷ lines (drop (n + 1) bs)) p.0

pub only_line : (bs : List ℕ) → 0 < length bs → position is_end bs ≡ None → lines bs ≡ bs ∷ []
only_line bs l e = line_all bs l (place_none is_end bs e)
