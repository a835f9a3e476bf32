-- One line after the other.
use Rattle.std.proofs.Common.{◌≡◌, ℕ, suc, ◌<◌, Bool, true, false, cond, not, ◌||◌, eqb, List, [], ◌∷◌, ◌++◌, length, drop, drop-cons, is_some, OnOk, Some, None, Ok, Err, Option, Result, sym, refl, ap, ◌∙◌, arith}
use Rattle.std.specs.Iterator.{Yields}
use Rattle.std.specs.List.{onto_first, slice_split}
use Rattle.std.proofs.lemmas.Iterator.{YieldsList}
use Rattle.std.proofs.lemmas.Iterator.Consumers.{YieldsList-end, YieldsList-turn}
use Rattle.std.proofs.lemmas.List.{drop_all, length_push}
use Rattle.std.proofs.lemmas.Bool.{true≢false}
use Rattle.temporal.specs.Formula.{Formula}
use Rattle.holds.specs.Cases.{Hold, first_case, on_line}
use Rattle.holds.proofs.Cases.{first_case_means, front_fits, past_fits}
use Rattle.roster.specs.Entries.{Entries, after_post, post_holds, post_line}
use Rattle.roster.specs.Rosters.{Judged}
use Rattle.roster.specs.declared.fault.SheetFault.{SheetFault}
use Rattle.sheet.specs.Sheets.{Drafted}
use Rattle.sheet.specs.Texts.{Draft, after_line, after_lines, after_rule, is_rule_line, line_holds, lines, lines_holds, rule_holds}

-- A line that is no rule line, where fs are the rules so far.
pub as_post_line : {A : Type 0} (e got : Entries) (fs : List Formula) (ruled : Bool) (l : ℕ) (bs : List ℕ) (r : Result A SheetFault) → Judged (post_holds e ruled l bs) (after_post e bs) got r → ruled ≡ not (eqb (length fs) 0) → is_rule_line bs ≡ false → Drafted (line_holds (record { entries = e; rules = fs }) l bs) (after_line (record { entries = e; rules = fs }) bs) (record { entries = got; rules = fs }) r
as_post_line e got fs ruled l bs r j k b = go r j
  where
    d : Draft
    d = record { entries = e; rules = fs }

    tests : first_case (line_holds d l bs) ≡ first_case (post_holds e ruled l bs)
    tests =
        ap (λ t. first_case (cond t (rule_holds d l (drop 5 bs)) (post_holds e (not (eqb (length fs) 0)) l bs))) b
        ∙ ap (λ t. first_case (post_holds e t l bs)) (sym k)

    after : after_line d bs ≡ record { entries = after_post e bs; rules = fs }
    after = ap (λ t. cond t (after_rule d (drop 5 bs)) (record { entries = after_post e bs; rules = fs })) b

    go : {A : Type 0} (s : Result A SheetFault) → Judged (post_holds e ruled l bs) (after_post e bs) got s → Drafted (line_holds d l bs) (after_line d bs) (record { entries = got; rules = fs }) s
    go (Ok u) h = (tests ∙ h.0, ap (λ z. record { entries = z; rules = fs }) h.1 ∙ sym after)
    go (Err g) h = tests ∙ h

-- Behind the rule line no other line passes.
pub or_off : (a b : Bool) → (a || b) ≡ false → b ≡ false
or_off true b h = absurd (true≢false h)
or_off false b h = h

pub unruled : (e : Entries) (ruled : Bool) (l : ℕ) (bs : List ℕ) → first_case (post_holds e ruled l bs) ≡ None → ruled ≡ false
unruled e ruled l bs h =
    or_off (not (is_some (post_line bs))) ruled ((first_case_means Hold (post_holds e ruled l bs)).0 h).1.0

pub passes_unruled : {A : Type 0} (P : Type 0) (e got : Entries) (ruled : Bool) (l : ℕ) (bs : List ℕ) (r : Result A SheetFault) → Judged (post_holds e ruled l bs) (after_post e bs) got r → (ruled ≡ false → P) → OnOk r P
passes_unruled P e got ruled l bs (Ok u) h k = k (unruled e ruled l bs h.0)
passes_unruled P e got ruled l bs (Err f) h k = tt

-- The lines of a text that ends with a line end are the parts before it.
joins : (c : ℕ) (ps : List (List ℕ)) (b : Bool) (qs : List (List ℕ)) → qs ≡ ps → cond b ([] ∷ qs) (onto_first c qs) ≡ cond b ([] ∷ ps) (onto_first c ps)
joins c ps b qs e = ap (λ z. cond b ([] ∷ z) (onto_first c z)) e

pub lines_split : (bs : List ℕ) → lines (bs ++ 10 ∷ []) ≡ slice_split (λ c. eqb c 10) bs
lines_split [] = refl
lines_split (c ∷ bs) = joins c (slice_split (λ b. eqb b 10) bs) (eqb c 10) (lines (bs ++ 10 ∷ [])) (lines_split bs)

-- The next of the parts that a chain yields; and all of them, where none is left.
pub next_part : {S A B : Type 0} {steps : S → Option A → S → Type 0} {v : A → B} {s : S} {ls : List B} (xs : List A) (t : S) → Yields steps s xs t → (r : Option A) (u : S) (x : A) → r ≡ Some x → steps t r u → YieldsList steps v s ls
    → (length xs < length ls) × (drop (length xs) ls ≡ v x ∷ drop (length (xs ++ x ∷ [])) ls)
next_part {v = v} {ls = ls} xs t y r u x e k road =
    let turn = YieldsList-turn road xs t y r u x e k in
    let size : suc (length xs) ≡ length (xs ++ x ∷ []) = (let n = length_push xs x in omega arith) in
    (turn.0, drop-cons ls (length xs) (v x) turn.0 ∙ ap (λ z. z ∷ drop (suc (length xs)) ls) (sym turn.1) ∙ ap (λ n. v x ∷ drop n ls) size)

pub last_part : {S A B : Type 0} {steps : S → Option A → S → Type 0} {v : A → B} {s : S} {ls : List B} (xs : List A) (t : S) → Yields steps s xs t → (r : Option A) (u : S) → r ≡ None → steps t r u → YieldsList steps v s ls
    → drop (length xs) ls ≡ []
last_part {ls = ls} xs t y r u e k road =
    let end = (YieldsList-end road xs t y r u e k).1 in drop_all (length xs) ls (omega arith)

-- The first of some lines.
module _ (d : Draft) (l : ℕ) (ls : List (List ℕ)) (x : List ℕ) (xs : List (List ℕ)) (split : ls ≡ x ∷ xs) where
  pub line_breaks : (h : Hold) → first_case (line_holds d l x) ≡ Some h → first_case (lines_holds d l ls) ≡ Some h
  line_breaks h e =
      ap (λ z. first_case (lines_holds d l z)) split ∙ front_fits (line_holds d l x) (lines_holds (after_line d x) (suc l) xs) h e

  pub line_passes : (c : Draft) (k : ℕ) → first_case (line_holds d l x) ≡ None → c ≡ after_line d x → k ≡ suc l → first_case (lines_holds c k xs) ≡ first_case (lines_holds d l ls)
  line_passes c k e q n =
      ap (λ z. first_case (lines_holds z k xs)) q
      ∙ ap (λ z. first_case (lines_holds (after_line d x) z xs)) n
      ∙ sym (ap (λ z. first_case (lines_holds d l z)) split ∙ past_fits (line_holds d l x) (lines_holds (after_line d x) (suc l) xs) e)

  pub line_joins : (c : Draft) → c ≡ after_line d x → after_lines c xs ≡ after_lines d ls
  line_joins c q = ap (λ z. after_lines z xs) q ∙ sym (ap (after_lines d) split)

-- Behind the last line.
pub behind : (e : Entries) (fs : List Formula) (l : ℕ) (b : Bool) → eqb (length fs) 0 ≡ b → first_case (lines_holds (record { entries = e; rules = fs }) l []) ≡ cond b (Some (on_line 3 l)) None
behind e fs l b h = ap (λ t. cond t (Some (on_line 3 l)) None) h
