use Rattle.std.proofs.Common.{◌≡◌, length, drop}
use Rattle.holds.specs.Cases.{first_case}
use Rattle.roster.specs.Entries.{pieces, signals_holds, with_signals}
use Rattle.roster.specs.Rosters.{entries}
use Rattle.roster.proofs.roster.Roster.add_signals.Given as goal

-- what is left of the text decides, and gives the entries
abbrev pub invariant-loop-name : goal.invariant-loop-name
invariant-loop-name l = record {
  decides : first_case (signals_holds (entries l.self) l.line (drop (length l.yielded) (pieces 32 l.text))) ≡ first_case (signals_holds (entries l.initial.self) l.line (pieces 32 l.text));
  gives : with_signals (entries l.self) (drop (length l.yielded) (pieces 32 l.text)) ≡ with_signals (entries l.initial.self) (pieces 32 l.text);
}
