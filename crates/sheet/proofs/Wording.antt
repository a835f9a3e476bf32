-- The words of a rule, and the rule that they are.
use Rattle.std.proofs.Common.{◌≡◌, ℕ, ◌+◌, ◌≤◌, Bool, true, false, cond, ltb, List, [], ◌∷◌, ◌++◌, length, is_some, Some, None, Ok, Err, Option, Result, unwrap_or, sym, ap, ◌∙◌}
use Rattle.std.proofs.lemmas.Bool.{le-ltb}
use Rattle.temporal.specs.Formula.{never}
use Rattle.temporal.specs.Parts.{parts}
use Rattle.temporal.specs.Shorten.{shorten}
use Rattle.holds.specs.Cases.{Hold, first_case, on_line, on_word}
use Rattle.holds.proofs.Cases.{front_fits, past_fits}
use Rattle.parts.specs.declared.part.Part.{Part}
use Rattle.parts.specs.Places.{formula}
use Rattle.words.specs.declared.word.Word.{Word}
use Rattle.grammar.specs.Scan.{misplaced, unknown}
use Rattle.grammar.proofs.Faults.{misplaced_means}
use Rattle.grammar.proofs.Names.{known_means}
use Rattle.grammar.proofs.Readings.{raw_means}
use Rattle.reader.specs.Answers.{Answers, RuleRead}
use Rattle.reader.specs.declared.misplaced.Misplaced.{Misplaced}
use Rattle.rule.specs.Rules.{all_plain, misfit}
use Rattle.rule.specs.declared.misfit.Misfit.TheVariants.{Signals, Parts, Leaf}
use Rattle.rule.proofs.Ruling.{plain_means}
use Rattle.sheet.specs.Texts.{place_holds, rule_formula, word_number, words_holds}

-- A fault's place is within the words, or at their end.
misplaced_within : (ws : List Word) (k : ℕ) → misplaced ws ≡ Some k → k ≤ length ws
misplaced_within ws k e = (((misplaced_means ws).1 k).0 e).inside

pub fault_within : (ws : List Word) (ps : List Part) (r : Result ℕ Misplaced) (e : Misplaced) → Answers ws ps r → r ≡ Err e → e.word ≤ length ws
fault_within ws ps (Err f) e h q = let w : f ≡ e = cc in misplaced_within ws e.word (h ∙ ap (λ z. Some z.word) w)
fault_within ws ps (Ok t) e h q = absurd (cc)

-- The tests of the words' places, by what the two scans answer.
abbrev placed : ℕ → Option ℕ → Option ℕ → Option Hold
placed l m u =
    first_case ((on_word 9 l (word_number m), is_some m) ∷ (on_word 10 l (word_number u), is_some u) ∷ [])

none_misplaced : (ws : List Word) (ps : List Part) (top : ℕ) → RuleRead ws ps top → misplaced ws ≡ None
none_misplaced ws ps top r = (misplaced_means ws).0.1 (r.raw, r.reads)

pub unknown_fits : (n l : ℕ) (ws : List Word) (k : ℕ) (ps : List Part) (top : ℕ) → RuleRead ws ps top → unknown n ws ≡ Some k → first_case (place_holds n l ws) ≡ Some (on_word 10 l (k + 1))
unknown_fits n l ws k ps top r e =
    ap (λ m. placed l m (unknown n ws)) (none_misplaced ws ps top r) ∙ ap (λ u. placed l None u) e

none_placed : (n l : ℕ) (ws : List Word) (ps : List Part) (top : ℕ) → RuleRead ws ps top → unknown n ws ≡ None → first_case (place_holds n l ws) ≡ None
none_placed n l ws ps top r e =
    ap (λ m. placed l m (unknown n ws)) (none_misplaced ws ps top r) ∙ ap (λ u. placed l None u) e

-- The tests of a rule's words.
module _ (n l : ℕ) (ws : List Word) where
  pub place_fits : ltb 200 (length ws) ≡ false → (h : Hold) → first_case (place_holds n l ws) ≡ Some h → first_case (words_holds n l ws) ≡ Some h
  place_fits s h e =
      ap (λ b. cond b (Some (on_line 8 l)) (first_case (place_holds n l ws ++ (on_line 11 l, ltb 64 (length (parts (rule_formula ws)))) ∷ []))) s
      ∙ front_fits (place_holds n l ws) ((on_line 11 l, ltb 64 (length (parts (rule_formula ws)))) ∷ []) h e

  module _ (short : ltb 200 (length ws) ≡ false) (ps : List Part) (top : ℕ) (read : RuleRead ws ps top) (known : unknown n ws ≡ None) (few : n ≤ 32) where
    pub formula_is : rule_formula ws ≡ formula ps top
    formula_is =
        ap (λ o. shorten (unwrap_or o never)) ((raw_means ws read.raw).1 read.reads) ∙ sym read.stands.formula_is

    pub large_fits : (b : Bool) → ltb 64 (length (parts (formula ps top))) ≡ b → first_case (words_holds n l ws) ≡ cond b (Some (on_line 11 l)) None
    large_fits b e =
        ap (λ t. cond t (Some (on_line 8 l)) (first_case (place_holds n l ws ++ (on_line 11 l, ltb 64 (length (parts (rule_formula ws)))) ∷ []))) short
        ∙ past_fits (place_holds n l ws) ((on_line 11 l, ltb 64 (length (parts (rule_formula ws)))) ∷ []) (none_placed n l ws ps top read known)
        ∙ ap (λ t. cond t (Some (on_line 11 l)) None) (ap (λ f. ltb 64 (length (parts f))) formula_is ∙ e)

    plain : all_plain n (parts (formula ps top)) ≡ true
    plain =
        ap (λ f. all_plain n (parts f)) read.stands.formula_is
        ∙ (plain_means n (shorten read.raw)).1 (known_means n ws read.raw known read.reads)

    pub misfit_is : misfit n (formula ps top) ≡ cond (ltb 64 (length (parts (formula ps top)))) (Some Parts) None
    misfit_is =
        ap (λ t. cond t (Some Signals) (cond (ltb 64 (length (parts (formula ps top)))) (Some Parts) (cond (all_plain n (parts (formula ps top))) None (Some Leaf)))) (le-ltb 32 n few)
        ∙ ap (λ t. cond (ltb 64 (length (parts (formula ps top)))) (Some Parts) (cond t None (Some Leaf))) plain
