-- What a sheet says.
use Rattle.std.specs.Prelude.{◌≡◌, ℕ, ◌+◌, List, map, OnOk, Some, None, Ok, Err, vec_items, vec_len, Result}
use Rattle.std.specs.List.{All}
use Rattle.std.specs.Option.{option_len}
use Rattle.holds.specs.Cases.{Hold, Cases, first_case}
use Rattle.roster.specs.Faults.{answered}
use Rattle.roster.specs.Rosters.{entries}
use Rattle.roster.specs.declared.fault.SheetFault.{SheetFault}
use Rattle.rule.specs.Ruled.{rule_formula}
use Rattle.sheet.specs.Texts.{Draft, Meant, lines, sheet_hold, said}
use Rattle.sheet.specs.declared.sheet.Sheet.{Sheet}
use Rattle.sheet.specs.declared.reading.Reading.{Reading}

abbrev pub draft_of : Sheet → Draft
draft_of s = record { entries = entries s.roster; rules = map rule_formula (vec_items s.rules) }

-- What was read so far.
abbrev pub draft_so_far : Reading → Draft
draft_so_far b = record { entries = entries b.roster; rules = map rule_formula (vec_items b.rules) }

-- The rule is still to come and its memory spare, or it was read and is over all the signals.
-- It is no ghost field of a reading: on a fault the rule's memory is gone, and a post line promises nothing of the signals.
pub record Ready (b : Reading) : Type 0 where
  pub one : option_len b.spare + vec_len b.rules ≡ 1
  pub over : All (λ r. r.signals ≡ vec_len b.roster.signals) (vec_items b.rules)

-- What judged lines lead to: what is wanted, where no test fits; else the fault of the first that fits.
abbrev pub Drafted : {A : Type 0} → Cases Hold → Draft → Draft → Result A SheetFault → Type 0
Drafted ts want got (Ok u) = (first_case ts ≡ None) × (got ≡ want)
Drafted ts want got (Err f) = first_case ts ≡ Some (answered f)

-- The same of a reading, which is then ready for the next line.
abbrev pub Advances : {A : Type 0} → Cases Hold → Draft → Reading → Result A SheetFault → Type 0
Advances ts want b r = Drafted ts want (draft_so_far b) r × OnOk r (Ready b)

-- What the reading of a text answers: the sheet that the text says, where nothing fits, with the rule that its last line
-- means; else the first hold that fits.
abbrev pub Read : List ℕ → Result Sheet SheetFault → Type 0
Read bs (Ok s) = (sheet_hold bs ≡ None) × (draft_of s ≡ said bs) × Meant (lines bs) (draft_of s)
Read bs (Err f) = sheet_hold bs ≡ Some (answered f)
