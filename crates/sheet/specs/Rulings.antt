-- The rule of a line's words.
use Rattle.std.specs.Prelude.{◌≡◌, ℕ, List, Some, None, Ok, Err, Result}
use Rattle.holds.specs.Cases.{first_case}
use Rattle.parts.specs.declared.part.Part.{Part}
use Rattle.words.specs.declared.word.Word.{Word}
use Rattle.grammar.specs.Scan.{unknown}
use Rattle.reader.specs.Answers.{RuleRead}
use Rattle.roster.specs.Faults.{answered}
use Rattle.roster.specs.declared.fault.WordFault.{WordFault}
use Rattle.roster.specs.declared.fault.RuleFault.{RuleFault}
use Rattle.roster.specs.declared.fault.RuleFault.TheVariants.{Words}
use Rattle.roster.specs.declared.fault.SheetFault.TheVariants.{Rule as OfRule}
use Rattle.rule.specs.Ruled.{rule_formula}
use Rattle.rule.specs.declared.rule.Rule.{Rule}
use Rattle.sheet.specs.Texts.{place_holds, rule_formula as formula_of, words_holds}

-- The words are a rule over n signals, and its formula stands in the table; else the first fault in the words.
abbrev pub Worded : List Word → ℕ → ℕ → List Part → Result ℕ WordFault → Type 0
Worded ws n l ps (Ok top) = RuleRead ws ps top × (unknown n ws ≡ None)
Worded ws n l ps (Err f) = first_case (place_holds n l ws) ≡ Some (answered (OfRule (Words f)))

-- The rule is that of the words, over n signals; else the first fault of the rule.
abbrev pub Ruled : {A : Type 0} → List Word → ℕ → ℕ → Rule → Result A RuleFault → Type 0
Ruled ws n l r (Ok u) = (first_case (words_holds n l ws) ≡ None) × (rule_formula r ≡ formula_of ws) × (r.signals ≡ n)
Ruled ws n l r (Err f) = first_case (words_holds n l ws) ≡ Some (answered (OfRule f))
