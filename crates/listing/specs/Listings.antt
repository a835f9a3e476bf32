-- The listing of an input.
use Rattle.std.specs.Prelude.{ℕ, List, [], ◌∷◌, ◌++◌, length, Some, None, codes, decimal, Option}
use Rattle.temporal.specs.Formula.{Formula, never}
use Rattle.holds.specs.Order.{first_fit}
use Rattle.holds.specs.Cases.{Hold, plain}
use Rattle.roster.specs.Entries.{Entries}
use Rattle.roster.specs.Faults.{spaced}
use Rattle.sheet.specs.Texts.{Draft, lines, said, sheet_hold}
use Rattle.monitor.specs.Monitoring.{State, fresh, step_hold, stepped, verdict_of}
use Rattle.monitor.specs.Verdicts.{verdict_letter}
use Rattle.listing.specs.Inputs.{sheet_part, ticks_part}
use Rattle.listing.specs.Ticks.{reading, tick_holds}
use Rattle.listing.specs.declared.line.Line.{Line}
use Rattle.listing.specs.declared.line.Line.TheVariants.{Columns, Row, Held}

-- The line of a hold.
abbrev pub held : Hold → Line
held h = Held h.number h.line h.word

-- A hold ends the listing.
abbrev pub unless_held : Option ℕ → List Line → List Line
unless_held (Some n) ls = held (plain n) ∷ []
unless_held None ls = ls

-- The rows of tick lines: the text of a line is judged before its step, and the verdict is the one after the step.
abbrev pub rows : State → Entries → List (List ℕ) → List Line
rows s e [] = []
rows s e (x ∷ xs) =
    unless_held (first_fit (tick_holds e x))
    (unless_held (step_hold s (reading x))
    (Row s.next (verdict_of (stepped s (reading x)).obligation) ∷ rows (stepped s (reading x)) e xs))

-- The first rule.
abbrev pub first_rule : List Formula → Formula
first_rule [] = never
first_rule (f ∷ fs) = f

-- The rows of all tick lines, from the start of the sheet's rule.
abbrev pub sheet_rows : Draft → List (List ℕ) → List Line
sheet_rows d xs = rows (fresh (length d.entries.signals) (first_rule d.rules)) d.entries xs

-- A sheet that is held back gives that hold alone; else the columns come first, and then the rows.
abbrev pub listed : Option Hold → List Line → List Line
listed (Some h) ls = held h ∷ []
listed None ls = Columns ∷ ls

-- The lines of the listing.
abbrev pub listing : List ℕ → List Line
listing input =
    listed (sheet_hold (sheet_part input)) (sheet_rows (said (sheet_part input)) (lines (ticks_part input)))

-- The bytes of a line, without its line end.
abbrev pub line_text : Line → List ℕ
line_text Columns = codes "tick whole"
line_text (Row tick verdict) = decimal tick ++ (codes " " ++ verdict_letter verdict)
line_text (Held number line word) = codes "hold " ++ (decimal number ++ (spaced line ++ spaced word))
