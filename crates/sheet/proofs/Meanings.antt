-- What an accepted sheet means.
use Rattle.std.proofs.Common.{◌≡◌, ℕ, suc, ◌≤◌, Bool, true, false, cond, not, ◌||◌, List, [], ◌∷◌, ◌++◌, length, take, drop, is_some, Some, None, codes, Option, unwrap_or, sym, refl, ap, ◌∙◌, subst, append_assoc, eqb}
use Rattle.std.proofs.lemmas.Slice.Eq.{bytes_eq-Decides}
use Rattle.std.proofs.lemmas.List.{take-append-drop}
use Rattle.std.proofs.lemmas.Bool.{ltb-false, true≢false}
use Rattle.temporal.specs.Formula.{Formula, never}
use Rattle.temporal.specs.Parts.{parts}
use Rattle.temporal.specs.Shorten.{shorten}
use Rattle.holds.specs.Cases.{Hold, first_case}
use Rattle.holds.proofs.Cases.{first_case_means, none_in_front, past_fits}
use Rattle.words.specs.Texts.{words_of}
use Rattle.words.specs.declared.word.Word.{Word}
use Rattle.grammar.specs.Grammar.{Reads}
use Rattle.grammar.specs.Scan.{misplaced}
use Rattle.grammar.proofs.Faults.{misplaced_means}
use Rattle.grammar.proofs.Readings.{raw_means}
use Rattle.roster.specs.Entries.{PostLine, after_post, post_holds, post_line, signal_names}
use Rattle.roster.proofs.Writing.{Says, says_more}
use Rattle.sheet.specs.Texts.{Draft, Meant, after_line, after_lines, after_rule, is_rule_line, line_holds, lines_holds, rule_formula, rule_holds, rule_words}
use Rattle.sheet.proofs.Lines.{or_off, unruled}

-- What a rule line that passed means.
pub record Passed (d : Draft) (text : List ℕ) : Type 0 where
  pub ws : List Word
  pub words_are : words_of (signal_names d.entries) text ≡ Some ws
  pub raw : Formula
  pub reads : Reads 0 ws raw
  pub formula_is : rule_formula (rule_words d.entries text) ≡ shorten raw
  pub small : length (parts (shorten raw)) ≤ 64

some_words : (o : Option (List Word)) → not (is_some o) ≡ false → (ws : List Word) × (o ≡ Some ws)
some_words None e = absurd (true≢false e)
some_words (Some ws) e = (ws, refl)

none_at : (o : Option ℕ) → is_some o ≡ false → o ≡ None
none_at None e = refl
none_at (Some k) e = absurd (true≢false e)

pub passed : (d : Draft) (l : ℕ) (text : List ℕ) → first_case (rule_holds d l text) ≡ None → Passed d text × (not (eqb (length d.rules) 0) ≡ false)
passed d l text e =
    let off = (first_case_means Hold (rule_holds d l text)).0 e in
    let words = off.1.1 in
    let found = some_words (words_of (signal_names d.entries) text) off.0 in
    let ws = rule_words d.entries text in
    let same : ws ≡ found.0 = ap (λ o. unwrap_or o []) found.1 in
    let rule = (misplaced_means ws).0.0 (none_at (misplaced ws) words.1.0) in
    let formula : rule_formula ws ≡ shorten rule.0 = ap (λ o. shorten (unwrap_or o never)) ((raw_means ws rule.0).1 rule.1) in
    let few : length (parts (rule_formula ws)) ≤ 64 = ltb-false 64 (length (parts (rule_formula ws))) words.1.1.1.0 in (
      record {
        ws = found.0;
        words_are = found.1;
        raw = rule.0;
        reads = subst (λ z. Reads 0 z rule.0) same rule.1;
        formula_is = formula;
        small = subst (λ f. length (parts f) ≤ 64) formula few;
      },
      or_off (eqb (length d.entries.posts) 0) (not (eqb (length d.rules) 0)) off.1.0,
    )

-- Behind a rule nothing passes.
ends : (d : Draft) (l : ℕ) (f : Formula) (xs : List (List ℕ)) → d.rules ≡ f ∷ [] → first_case (lines_holds d l xs) ≡ None → xs ≡ []
ends d l f [] r e = refl
ends d l f (x ∷ xs) r e = absurd (go (is_rule_line x) (none_in_front (line_holds d l x) (lines_holds (after_line d x) (suc l) xs) e))
  where
    ruled : not (eqb (length d.rules) 0) ≡ true
    ruled = ap (λ z. not (eqb (length z) 0)) r

    go : (b : Bool) → first_case (cond b (rule_holds d l (drop 5 x)) (post_holds d.entries (not (eqb (length d.rules) 0)) l x)) ≡ None → ⊥
    go true h = true≢false (sym ruled ∙ (passed d l (drop 5 x) h).1)
    go false h = true≢false (sym ruled ∙ unruled d.entries (not (eqb (length d.rules) 0)) l x h)

some_line : (o : Option PostLine) (b : Bool) → (not (is_some o) || b) ≡ false → (p : PostLine) × (o ≡ Some p)
some_line None b h = absurd (true≢false h)
some_line (Some p) b h = (p, refl)

-- The lines before are those of the entries so far.
pub meant : (d : Draft) (l : ℕ) (before xs : List (List ℕ)) → Says d.entries before → d.rules ≡ [] → first_case (lines_holds d l xs) ≡ None → Meant (before ++ xs) (after_lines d xs)
meant d l before [] s r e =
    absurd (true≢false (sym (ap (λ z. eqb (length z) 0) r) ∙ ((first_case_means Hold (lines_holds d l [])).0 e).0))
meant d l before (x ∷ xs) s r e = go (is_rule_line x) refl (meant (after_line d x) (suc l) (before ++ x ∷ []) xs)
  where
    first : first_case (line_holds d l x) ≡ None
    first = none_in_front (line_holds d l x) (lines_holds (after_line d x) (suc l) xs) e

    rest : first_case (lines_holds (after_line d x) (suc l) xs) ≡ None
    rest = sym (past_fits (line_holds d l x) (lines_holds (after_line d x) (suc l) xs) first) ∙ e

    begun : is_rule_line x ≡ true → x ≡ codes "rule " ++ drop 5 x
    begun b =
        sym (take-append-drop 5 x) ∙ ap (λ z. z ++ drop 5 x) ((bytes_eq-Decides (take 5 x) (codes "rule ")).0 b)

    judged : (b : Bool) → is_rule_line x ≡ b → first_case (cond b (rule_holds d l (drop 5 x)) (post_holds d.entries (not (eqb (length d.rules) 0)) l x)) ≡ None
    judged b h =
        ap (λ t. first_case (cond t (rule_holds d l (drop 5 x)) (post_holds d.entries (not (eqb (length d.rules) 0)) l x))) (sym h) ∙ first

    become : (b : Bool) → is_rule_line x ≡ b → after_line d x ≡ cond b (after_rule d (drop 5 x)) (record { entries = after_post d.entries x; rules = d.rules })
    become b h = ap (λ t. cond t (after_rule d (drop 5 x)) (record { entries = after_post d.entries x; rules = d.rules })) h

    go : (b : Bool) → is_rule_line x ≡ b → (Says (after_line d x).entries (before ++ x ∷ []) → (after_line d x).rules ≡ [] → first_case (lines_holds (after_line d x) (suc l) xs) ≡ None → Meant ((before ++ x ∷ []) ++ xs) (after_lines (after_line d x) xs)) → Meant (before ++ (x ∷ xs)) (after_lines (after_line d x) xs)
    go true b on =
        let read = (passed d l (drop 5 x) (judged true b)).0 in
        let g = rule_formula (rule_words d.entries (drop 5 x)) in
        let after : after_line d x ≡ record { entries = d.entries; rules = g ∷ [] } = become true b ∙ ap (λ z. record { entries = d.entries; rules = z ++ g ∷ [] }) r in
        let last = ends (after_line d x) (suc l) g xs (ap (λ z. z.rules) after) rest in
        let final : after_lines (after_line d x) xs ≡ record { entries = d.entries; rules = g ∷ [] } = ap (after_lines (after_line d x)) last ∙ after in
        subst (Meant (before ++ (x ∷ xs))) (sym final) (record {
          text = drop 5 x;
          lines_are = ap (λ z. before ++ (x ∷ z)) last ∙ ap (λ z. before ++ z ∷ []) (begun b) ∙ ap (λ z. z ++ (codes "rule " ++ drop 5 x) ∷ []) s.lines_are;
          ws = read.ws;
          words_are = read.words_are;
          raw = read.raw;
          reads = read.reads;
          rule_is = ap (λ z. z ∷ []) read.formula_is;
          small = read.small;
        })
    go false b on =
        let off = (first_case_means Hold (post_holds d.entries (not (eqb (length d.rules) 0)) l x)).0 (judged false b) in
        let line = some_line (post_line x) (not (eqb (length d.rules) 0)) off.1.0 in
        let after = become false b in
        let says = subst (λ z. Says z.entries (before ++ x ∷ [])) (sym after) (says_more d.entries before x line.0 s line.1) in
        subst (λ z. Meant z (after_lines (after_line d x) xs)) (append_assoc before (x ∷ []) xs) (on says (ap (λ z. z.rules) after ∙ r) rest)
