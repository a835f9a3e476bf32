-- The rule of some words.
use Rattle.std.proofs.Common.{◌≡◌, ℕ, ◌≤◌, true, false, cond, ltb, List, length, IsErrAnd, Some, None, Ok, Err, vec_items, Result, sym, ap, ◌∙◌, subst, ⊎_elim, arith}
use Rattle.std.specs.Result.{MatchResult}
use Rattle.std.proofs.lemmas.List.{take_all}
use Rattle.std.proofs.lemmas.Bool.{cases_Bool, le-ltb}
use Rattle.temporal.specs.Parts.{parts}
use Rattle.holds.specs.Cases.{first_case, on_line}
use Rattle.parts.specs.declared.part.Part.{Part}
use Rattle.parts.specs.Places.{formula}
use Rattle.words.specs.Lists.{Holds}
use Rattle.words.specs.declared.word.Word.{Word}
use Rattle.words.specs.declared.wordlist.WordList.{WordList}
use Rattle.grammar.specs.Scan.{unknown}
use Rattle.reader.specs.Answers.{RuleRead}
use Rattle.reader.proofs.Exits.{exit}
use Rattle.roster.specs.Faults.{answered}
use Rattle.roster.specs.declared.fault.WordFault.{WordFault}
use Rattle.roster.specs.declared.fault.RuleFault.{RuleFault}
use Rattle.roster.specs.declared.fault.RuleFault.TheVariants.{Large, Words}
use Rattle.roster.specs.declared.fault.SheetFault.TheVariants.{Rule as OfRule}
use Rattle.rule.specs.Ruled.{Ruled as Became}
use Rattle.rule.specs.Rules.{misfit}
use Rattle.rule.specs.declared.misfit.Misfit.{Misfit}
use Rattle.rule.specs.declared.misfit.Misfit.TheVariants.{Parts}
use Rattle.rule.specs.declared.rule.Rule.{Rule}
use Rattle.sheet.specs.Rulings.{Ruled}
use Rattle.sheet.specs.Texts.{place_holds, words_holds, rule_formula as formula_of}
use Rattle.sheet.proofs.Wording.{formula_is, large_fits, misfit_is, place_fits}

module _ (ws : List Word) (list : WordList) (xs : List Word) (holds : Holds ws list) (few : list.count ≤ 200) (items : xs ≡ vec_items list.words) where
  all : xs ≡ ws
  all = let k = holds.count_is in items ∙ holds.words_are ∙ take_all 200 ws (omega arith)

  short : ltb 200 (length ws) ≡ false
  short = let k = holds.count_is in le-ltb 200 (length ws) (omega arith)

  -- A fault in the words comes up unchanged.
  pub ruled_break : {A : Type 0} (n l : ℕ) (rule : Rule) (r : Result A RuleFault) (f : WordFault) → IsErrAnd r (λ e. e ≡ Words f) → first_case (place_holds n l xs) ≡ Some (answered (OfRule (Words f))) → Ruled ws n l rule r
  ruled_break n l rule r f h e =
      let moved = ap (λ z. first_case (place_holds n l z)) (sym all) ∙ e in
      exit (Ruled ws n l rule) r (Words f) h (place_fits n l ws short (answered (OfRule (Words f))) moved)

  module _ (n l : ℕ) (ps : List Part) (top : ℕ) (read : RuleRead xs ps top) (known : unknown n xs ≡ None) (small : n ≤ 32) where
    read_all : RuleRead ws ps top
    read_all = subst (λ z. RuleRead z ps top) all read

    known_all : unknown n ws ≡ None
    known_all = ap (unknown n) (sym all) ∙ known

    fits : misfit n (formula ps top) ≡ cond (ltb 64 (length (parts (formula ps top)))) (Some Parts) None
    fits = misfit_is n l ws short ps top read_all known_all small

    ruled_large : (e : Misfit) → misfit n (formula ps top) ≡ Some e → first_case (words_holds n l ws) ≡ Some (on_line 11 l)
    ruled_large e h =
        ⊎_elim
        (λ q. large_fits n l ws short ps top read_all known_all small true q)
        (λ q. let w = ap (λ b. cond b (Some Parts) None) q in absurd (cc (fits, w, h)))
        (cases_Bool (ltb 64 (length (parts (formula ps top)))))

    ruled_fits : misfit n (formula ps top) ≡ None → first_case (words_holds n l ws) ≡ None
    ruled_fits h =
        ⊎_elim
        (λ q. let w = ap (λ b. cond b (Some Parts) None) q in absurd (cc (fits, w, h)))
        (λ q. large_fits n l ws short ps top read_all known_all small false q)
        (cases_Bool (ltb 64 (length (parts (formula ps top)))))

    ruled_formula : formula ps top ≡ formula_of ws
    ruled_formula = sym (formula_is n l ws short ps top read_all known_all small)

    pub ruled_become : {A : Type 0} (old new : Rule) (r : Result A Misfit) (q : Result A RuleFault) → Became old new n (formula ps top) r → MatchResult r (λ x. q ≡ Ok x) (λ e. IsErrAnd q (λ f. f ≡ Large l)) → Ruled ws n l new q
    ruled_become old new (Ok u) q h m = subst (Ruled ws n l new) (sym m) (ruled_fits h.0, h.1 ∙ ruled_formula, h.2)
    ruled_become old new (Err e) q h m = exit (Ruled ws n l new) q (Large l) m (ruled_large e h.0)
