use Rattle.std.proofs.Common.{◌≡◌, ◌*◌, ◌≤◌, [], take}
use Rattle.grammar.specs.Machine.{short, want, run}
use Rattle.reader.specs.Steps.{SameMemory, load_of, state}
use Rattle.reader.proofs.progress.Progress.read.Given as goal

-- What is lent is still the same, the reading is where the words before i lead, and each of them added at most 2.
abbrev pub invariant-loop-i : goal.invariant-loop-i
invariant-loop-i l =
    record {
      memory : SameMemory l.initial.self l.self;
      few : load_of l.self ≤ 2 * l.i;
      here : state l.self ≡ run short (want []) (take l.i l.words);
    }
