-- The first that fits.
use Rattle.std.proofs.Common.{◌≡◌, ℕ, true, false, [], ◌∷◌, ◌++◌, Some, None, refl, ap, arith}
use Rattle.holds.specs.Cases.{Cases, first_case, NoCase, FirstCaseMeans}

module _ {A : Type 0} where
  no_case : (xs : Cases A) → first_case xs ≡ None → NoCase xs
  no_case [] e = tt
  no_case ((m, true) ∷ xs) e = absurd (cc)
  no_case ((m, false) ∷ xs) e = (refl, no_case xs e)

  case_none : (xs : Cases A) → NoCase xs → first_case xs ≡ None
  case_none [] h = refl
  case_none (x ∷ xs) h = rw h.0 (case_none xs h.1)

  first : (xs : Cases A) (n : A) → first_case xs ≡ Some n → (ys : Cases A) × (zs : Cases A) × (xs ≡ ys ++ ((n, true) ∷ zs)) × NoCase ys
  first [] n e = absurd (cc)
  first ((m, true) ∷ xs) n e = let q : m ≡ n = cc in ([], xs, ap (λ k. (k, true) ∷ xs) q, tt)
  first ((m, false) ∷ xs) n e =
      let w = first xs n e in ((m, false) ∷ w.0, w.1, ap (λ r. (m, false) ∷ r) w.2, (refl, w.3))

  -- Where nothing fits, what comes behind decides; where something fits, it does.
  pub past_fits : (xs ys : Cases A) → first_case xs ≡ None → first_case (xs ++ ys) ≡ first_case ys
  past_fits [] ys e = refl
  past_fits ((m, true) ∷ xs) ys e = absurd (cc)
  past_fits ((m, false) ∷ xs) ys e = past_fits xs ys e

  pub front_fits : (xs ys : Cases A) (n : A) → first_case xs ≡ Some n → first_case (xs ++ ys) ≡ Some n
  front_fits [] ys n e = absurd (cc)
  front_fits ((m, true) ∷ xs) ys n e = e
  front_fits ((m, false) ∷ xs) ys n e = front_fits xs ys n e

  -- Nothing fits among all, so nothing among the first.
  pub none_in_front : (xs ys : Cases A) → first_case (xs ++ ys) ≡ None → first_case xs ≡ None
  none_in_front [] ys e = refl
  none_in_front ((m, true) ∷ xs) ys e = absurd (cc)
  none_in_front ((m, false) ∷ xs) ys e = none_in_front xs ys e

pub first_case_means : (A : Type 0) → FirstCaseMeans A
first_case_means A xs = (no_case xs, case_none xs, first xs)
