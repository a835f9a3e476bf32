-- The groups of a line, and their digits.
use Rattle.std.proofs.Common.{◌≡◌, ℕ, suc, ◌+◌, ◌-◌, Option, None, ◌<◌, ◌≤◌, Bool, true, false, cond, not, eqb, leb, ◌⊎◌, List, [], ◌∷◌, map, length, sym, refl, ap, ◌∙◌, inl, inr, arith}
use Rattle.std.specs.List.{concat, count_by, enumerate_from, filter, onto_first}
use Rattle.std.proofs.lemmas.List.{length-append, length-map}
use Rattle.std.proofs.lemmas.List.Sums.{count_by-le-length, sum_by-cons}
use Rattle.std.specs.Iterator.{AlwaysYields}
use Rattle.std.specs.Iterator.Adapters.{zip_first, zip_second}
use Rattle.std.specs.Option.{MatchOption}
use Rattle.std.specs.declared.iter.Zip.{Zip}
use Rattle.std.specs.declared.ops.RangeFrom.{RangeFrom}
use Rattle.std.proofs.lemmas.Iterator.{YieldsList, zips}
use Rattle.std.proofs.lemmas.Bool.{and_parts, eq-eqb, eqb-true, lt-leb, le-leb, ne_eqb, cases_order}
use Rattle.roster.specs.Entries.{Owned}
use Rattle.listing.specs.Ticks.{bits, each_fits, groups, is_group, is_no_space, owned_by}

-- The digits of all groups are the bytes that are no spaces.
onto_concat : (c : ℕ) (ps : List (List ℕ)) → concat (onto_first c ps) ≡ c ∷ concat ps
onto_concat c [] = refl
onto_concat c (p ∷ ps) = refl

pub concat_groups : (line : List ℕ) → concat (groups line) ≡ filter is_no_space line
concat_groups [] = refl
concat_groups (c ∷ cs) = go (eqb c 32) (concat_groups cs)
  where
    go : (t : Bool) → concat (groups cs) ≡ filter is_no_space cs → concat (cond t ([] ∷ groups cs) (onto_first c (groups cs))) ≡ cond (not t) (c ∷ filter is_no_space cs) (filter is_no_space cs)
    go true h = h
    go false h = onto_concat c (groups cs) ∙ ap (λ z. c ∷ z) h

pub bits_kept : (line : List ℕ) → bits line ≡ map (λ b. eqb b 49) (filter is_no_space line)
bits_kept line = ap (map (λ b. eqb b 49)) (concat_groups line)

-- A line has at most one group more than bytes.
onto_length : (c n : ℕ) (ps : List (List ℕ)) → length ps ≤ n → 1 ≤ n → length (onto_first c ps) ≤ n
onto_length c n [] l m = m
onto_length c n (p ∷ ps) l m = l

pub groups_few : (line : List ℕ) → length (groups line) ≤ length line + 1
groups_few [] = omega arith
groups_few (c ∷ cs) = go (eqb c 32) (groups_few cs)
  where
    go : (t : Bool) → length (groups cs) ≤ length cs + 1 → length (cond t ([] ∷ groups cs) (onto_first c (groups cs))) ≤ suc (length cs) + 1
    go true h = omega arith
    go false h = onto_length c (suc (length cs) + 1) (groups cs) (omega arith) (omega arith)

-- Items beside the numbers from k on, which end at the last.
abbrev pub range_steps : RangeFrom ℕ → Option ℕ → RangeFrom ℕ → Type 0
range_steps s r t = MatchOption r ((18446744073709551615 - s.start ≡ 0) × (t ≡ s)) (λ x. (x ≡ s.start) × (t.start ≡ x + 1))

module _ {T A B : Type 0} (others : T → Option A → T → Type 0) (v : A → B) where
  goes_on : (s : Zip (RangeFrom ℕ) T) → (zip_first s).start < 18446744073709551615 → ((j : T) → others (zip_second s) None j → ⊥) → ((u : RangeFrom ℕ) × range_steps (zip_first s) None u) ⊎ ((u : T) × others (zip_second s) None u) → ⊥
  goes_on s l f (inl p) = omega (arith, p.1.0)
  goes_on s l f (inr q) = f q.0 q.1

  beside_numbers : (ys : List B) (k : ℕ) (s : Zip (RangeFrom ℕ) T) → (zip_first s).start ≡ k → k + length ys < 18446744073709551616 → AlwaysYields others v (zip_second s) ys → AlwaysYields (zips range_steps others) {B = ℕ × B} (λ p. (p.0, v p.1)) s (enumerate_from k ys)
  beside_numbers [] k s e l a = λ p j h. a p.1 (zip_second j) h.1
  beside_numbers (y ∷ ys) k s e l a = (
    (λ j h. goes_on s (omega arith) a.0 h),
    λ p j h. let m = a.1 p.1 (zip_second j) h.1 in ((λ i. ((h.0.0 ∙ e) i, m.0 i)), beside_numbers ys (k + 1) j (h.0.1 ∙ ap (λ n. n + 1) (h.0.0 ∙ e)) (omega arith) m.1),
  )

  pub numbered : {ys : List B} (k : ℕ) {s : Zip (RangeFrom ℕ) T} → (zip_first s).start ≡ k → k + length ys < 18446744073709551616 → YieldsList others v (zip_second s) ys → YieldsList {B = ℕ × B} (zips range_steps others) (λ p. (p.0, v p.1)) s (enumerate_from k ys)
  numbered {ys} k {s} e l a = record { runs = beside_numbers ys k s e l a.runs }

-- The signals of the posts from k on.
owned_from : ℕ → List Owned → ℕ
owned_from k ss = count_by (λ s. leb k s.owner) ss

owned_parts : (k : ℕ) (ss : List Owned) → owned_by k ss + owned_from (k + 1) ss ≤ owned_from k ss
unfolding owned_from
owned_parts k [] = omega arith
owned_parts k (s ∷ ss) =
    let h = owned_parts k ss in
    let g = one (cases_order s.owner k) in
    omega (arith, sum_by-cons (λ (o : Owned). cond (eqb o.owner k) 1 0) s ss, sum_by-cons (λ (o : Owned). cond (leb k o.owner) 1 0) s ss, sum_by-cons (λ (o : Owned). cond (leb (k + 1) o.owner) 1 0) s ss)
  where
    one : (s.owner ≡ k) ⊎ ((s.owner < k) ⊎ (k < s.owner)) → cond (eqb s.owner k) 1 0 + cond (leb (k + 1) s.owner) 1 0 ≤ cond (leb k s.owner) 1 0
    one (inl e) = rw (eq-eqb s.owner k e, lt-leb (k + 1) s.owner (omega arith), le-leb k s.owner (omega arith)) (omega arith)
    one (inr (inl m)) = rw (ne_eqb s.owner k (λ e. omega arith), lt-leb (k + 1) s.owner (omega arith), lt-leb k s.owner m) (omega arith)
    one (inr (inr m)) = rw (ne_eqb s.owner k (λ e. omega arith), le-leb (k + 1) s.owner (omega arith), le-leb k s.owner (omega arith)) (omega arith)

digits_few : (ss : List Owned) (k : ℕ) (gs : List (List ℕ)) → each_fits ss k gs ≡ true → length (concat gs) ≤ owned_from k ss
digits_few ss k [] e = omega arith
digits_few ss k (g ∷ gs) e =
    let p = and_parts (is_group (owned_by k ss) g) (each_fits ss (k + 1) gs) e in
    let n = eqb-true (length g) (owned_by k ss) (and_parts (eqb (length g) (owned_by k ss)) _ p.0).0 in
    let h = digits_few ss (k + 1) gs p.1 in
    let a = length-append g (concat gs) in
    let o = owned_parts k ss in
    omega arith

-- A line whose groups fit has at most one digit for each signal.
pub bits_few : (ss : List Owned) (line : List ℕ) → true ≡ each_fits ss 1 (groups line) → length (bits line) ≤ length ss
unfolding owned_from
bits_few ss line e =
    let h = digits_few ss 1 (groups line) (sym e) in
    let o = count_by-le-length (λ (s : Owned). leb 1 s.owner) ss in
    let m = length-map (concat (groups line)) (λ b. eqb b 49) in
    omega arith
