use Rattle.std.proofs.Common.{◌≡◌, ◌+◌, eqb, length, drop}
use Rattle.std.specs.List.{slice_split}
use Rattle.holds.specs.Cases.{first_case}
use Rattle.sheet.specs.Sheets.{Ready, draft_so_far}
use Rattle.sheet.specs.Texts.{after_lines, lines_holds}
use Rattle.sheet.proofs.reading.Reading.read_lines.Given as goal

-- what is left of the lines decides, and gives the draft
abbrev pub invariant-loop-line : goal.invariant-loop-line
invariant-loop-line l =
    record {
      number : l.number ≡ length l.yielded + 1;
      ready : Ready l.self;
      holds : first_case (lines_holds (draft_so_far l.self) l.number (drop (length l.yielded) (slice_split (λ c. eqb c 10) l.text))) ≡ first_case (lines_holds (draft_so_far l.initial.self) 1 (slice_split (λ c. eqb c 10) l.text));
      draft : after_lines (draft_so_far l.self) (drop (length l.yielded) (slice_split (λ c. eqb c 10) l.text)) ≡ after_lines (draft_so_far l.initial.self) (slice_split (λ c. eqb c 10) l.text);
    }
