-- The sheet as a whole.
use Rattle.std.proofs.Common.{◌≡◌, ◌≢◌, ℕ, suc, ◌-◌, ◌<◌, ◌≤◌, Bool, true, false, cond, not, ◌||◌, eqb, ltb, List, [], ◌∷◌, ◌++◌, length, get_or, take, Some, Option, sym, refl, ap, ◌∙◌, ⊎_elim, drop-cons, arith}
use Rattle.std.proofs.Math.Seq.{get_or-append_seam}
use Rattle.std.proofs.lemmas.List.{drop_all, length_push, take-append-drop}
use Rattle.std.proofs.lemmas.Bool.{cases_Bool, eq-eqb, eqb-false, le-ltb, lt-ltb, ne_eqb}
use Rattle.std.specs.List.{All}
use Rattle.holds.specs.Cases.{Hold, first_case, plain}
use Rattle.rule.specs.declared.rule.Rule.{Rule}
use Rattle.sheet.specs.Texts.{Draft, after_lines, blank, last_byte, lines, lines_holds, said, sheet_hold}

last_added : (bs : List ℕ) → last_byte (bs ++ 10 ∷ []) ≡ 10
last_added bs =
    let n = length_push bs 10 in
    let k : length (bs ++ 10 ∷ []) - 1 ≡ length bs = omega arith in
    ap (λ i. get_or (bs ++ 10 ∷ []) i 0) k ∙ get_or-append_seam bs 10 [] 0

-- A text whose last byte is 10 is a text with that byte behind it.
last_taken : (bs : List ℕ) → 0 < length bs → last_byte bs ≡ 10 → bs ≡ take (length bs - 1) bs ++ 10 ∷ []
last_taken bs l e =
    let n = length bs - 1 in
    let rest = drop-cons bs n 0 (omega arith) ∙ ap (λ z. get_or bs n 0 ∷ z) (drop_all (suc n) bs (omega arith)) ∙ ap (λ z. z ∷ []) e in
    sym (take-append-drop n bs) ∙ ap (λ z. take n bs ++ z) rest

judge : Bool → List ℕ → Option Hold
judge w bs = cond w (Some (plain 1)) (first_case (lines_holds blank 1 (lines bs)))

module _ (bs : List ℕ) where
  judged : (x y z : Bool) → eqb (length bs) 0 ≡ x → ltb 4096 (length bs) ≡ y → eqb (last_byte bs) 10 ≡ z → sheet_hold bs ≡ judge (x || (y || not z)) bs
  unfolding sheet_hold judge
  judged x y z e f g =
      ap (λ t. judge (t || (ltb 4096 (length bs) || not (eqb (last_byte bs) 10))) bs) e
      ∙ ap (λ t. judge (x || (t || not (eqb (last_byte bs) 10))) bs) f
      ∙ ap (λ t. judge (x || (y || not t)) bs) g

  pub whole_long : 4096 < length bs → sheet_hold bs ≡ Some (plain 1)
  unfolding judge
  whole_long h =
      judged false true (eqb (last_byte bs) 10) (ne_eqb (length bs) 0 (λ e. omega arith)) (lt-ltb 4096 (length bs) h) refl

  empty : eqb (length bs) 0 ≡ true → sheet_hold bs ≡ Some (plain 1)
  unfolding judge
  empty e = judged true (ltb 4096 (length bs)) (eqb (last_byte bs) 10) e refl refl

  pub whole_unended : length bs ≤ 4096 → ((front : List ℕ) → bs ≢ front ++ 10 ∷ []) → sheet_hold bs ≡ Some (plain 1)
  unfolding judge
  whole_unended l h =
      ⊎_elim
      (λ e. empty e)
      (λ e. judged false false false e (le-ltb 4096 (length bs) l)
      (ne_eqb (last_byte bs) 10 (λ q. let n = eqb-false (length bs) 0 e in h (take (length bs - 1) bs) (last_taken bs (omega arith) q))))
      (cases_Bool (eqb (length bs) 0))

  pub whole_good : (rest : List ℕ) → length bs ≤ 4096 → bs ≡ rest ++ 10 ∷ [] → (d : Draft) → d ≡ blank → sheet_hold bs ≡ first_case (lines_holds d 1 (lines bs))
  unfolding judge
  whole_good rest l h d e =
      let n = length_push rest 10 in
      judged false false true (ne_eqb (length bs) 0 (λ q. omega (arith, ap length h))) (le-ltb 4096 (length bs) l) (eq-eqb (last_byte bs) 10 (ap last_byte h ∙ last_added rest))
      ∙ ap (λ z. first_case (lines_holds z 1 (lines bs))) (sym e)

pub said_is : (bs : List ℕ) (d : Draft) → d ≡ blank → after_lines d (lines bs) ≡ said bs
unfolding said
said_is bs d e = ap (λ z. after_lines z (lines bs)) e

pub over_none : (xs : List Rule) (n : ℕ) → length xs ≡ 0 → All (λ r. r.signals ≡ n) xs
over_none xs n h = λ k d l. absurd (omega arith)
