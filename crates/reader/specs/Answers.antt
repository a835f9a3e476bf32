-- What reading answers.
use Rattle.std.specs.Prelude.{◌≡◌, ℕ, List, Some, Ok, Err, Result}
use Rattle.temporal.specs.Formula.{Formula}
use Rattle.temporal.specs.Shorten.{shorten}
use Rattle.parts.specs.declared.part.Part.{Part}
use Rattle.parts.specs.Places.{Stands}
use Rattle.words.specs.declared.word.Word.{Word}
use Rattle.grammar.specs.Grammar.{Reads}
use Rattle.grammar.specs.Scan.{misplaced}
use Rattle.reader.specs.declared.misplaced.Misplaced.{Misplaced}

-- The words are a rule, and its formula, shortened, stands in the table.
pub record RuleRead (ws : List Word) (ps : List Part) (top : ℕ) : Type 0 where
  pub raw : Formula
  pub reads : Reads 0 ws raw
  pub stands : Stands ps (shorten raw) top

-- The place of the rule's formula, or the first word at fault.
abbrev pub Answers : List Word → List Part → Result ℕ Misplaced → Type 0
Answers ws ps (Ok top) = RuleRead ws ps top
Answers ws ps (Err m) = misplaced ws ≡ Some m.word
