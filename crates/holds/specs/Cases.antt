-- What a held call answers with its places on a sheet, and the first case that fits, whatever a case answers.
use Rattle.std.specs.Prelude.{◌≡◌, ℕ, Bool, true, false, cond, List, [], ◌∷◌, ◌++◌, Some, None, Option}

-- What a hold answers: its number and, for a sheet, the line and the word at fault, both from 1.
pub record Hold : Type 0 where
  pub number : ℕ
  pub line : Option ℕ
  pub word : Option ℕ

abbrev pub plain : ℕ → Hold
plain n = record { number = n; line = None; word = None }

abbrev pub on_line : ℕ → ℕ → Hold
on_line n l = record { number = n; line = Some l; word = None }

abbrev pub on_word : ℕ → ℕ → ℕ → Hold
on_word n l w = record { number = n; line = Some l; word = Some w }

abbrev pub Cases : Type 0 → Type 0
Cases A = List (A × Bool)

abbrev pub first_case : {A : Type 0} → Cases A → Option A
first_case [] = None
first_case (x ∷ xs) = cond x.1 (Some x.0) (first_case xs)

-- None of the tests holds.
abbrev pub NoCase : {A : Type 0} → Cases A → Type 0
NoCase [] = Unit {0}
NoCase (x ∷ xs) = (x.1 ≡ false) × NoCase xs

-- Nothing is answered just if nothing fits; and what is answered fits, and nothing before it does.
abbrev pub FirstCaseMeans : Type 0 → Type 0
FirstCaseMeans A =
    (xs : Cases A) → (first_case xs ≡ None → NoCase xs)
    × (NoCase xs → first_case xs ≡ None)
    × ((n : A) → first_case xs ≡ Some n → (ys : Cases A) × (zs : Cases A) × (xs ≡ ys ++ ((n, true) ∷ zs)) × NoCase ys)
