use Rattle.std.proofs.Common.{take}
use Rattle.compact.specs.Ticks.{Ticked}
use Rattle.compact.proofs.earliest.earliest_ticks.Given as goal

abbrev pub invariant-loop-at : goal.invariant-loop-at
invariant-loop-at l = Ticked l.parts (take l.at l.ticks)
