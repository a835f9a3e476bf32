-- What each fault of a sheet answers: its number, its line and, for 9 and 10, its word.
use Rattle.std.specs.Prelude.{ℕ, List, [], ◌++◌, Some, None, codes, decimal, Option}
use Rattle.holds.specs.Cases.{Hold, plain, on_line, on_word}
use Rattle.roster.specs.declared.fault.WordFault.TheVariants.{Misplaced, Unknown}
use Rattle.roster.specs.declared.fault.RuleFault.TheVariants.{Long, Words, Large}
use Rattle.roster.specs.declared.fault.SheetFault.{SheetFault}
use Rattle.roster.specs.declared.fault.SheetFault.TheVariants.{Whole, Byte, Form, Posts, Name, Again, Signals, Rule}

abbrev pub answered : SheetFault → Hold
answered Whole = plain 1
answered (Byte l) = on_line 2 l
answered (Form l) = on_line 3 l
answered (Posts l) = on_line 4 l
answered (Name l) = on_line 5 l
answered (Again l) = on_line 6 l
answered (Signals l) = on_line 7 l
answered (Rule (Long l)) = on_line 8 l
answered (Rule (Words (Misplaced p))) = on_word 9 p.line p.word
answered (Rule (Words (Unknown p))) = on_word 10 p.line p.word
answered (Rule (Large l)) = on_line 11 l

-- A space and a number, where there is one.
abbrev pub spaced : Option ℕ → List ℕ
spaced None = []
spaced (Some n) = codes " " ++ decimal n

-- What a hold prints: its number, then its line and its word where it has them, each behind a space.
abbrev pub hold_text : Hold → List ℕ
hold_text h = decimal h.number ++ (spaced h.line ++ spaced h.word)

abbrev pub fault_text : SheetFault → List ℕ
fault_text fault = hold_text (answered fault)
