use Rattle.std.proofs.Common.{rules, arith}
use Rattle.compact.proofs.Ticks.{ticked_set}
use Rattle.compact.proofs.earliest.earliest_ticks.Goals as goal

pub loop-at-preserved : goal.loop-at-preserved
loop-at-preserved c =
    ticked_set c.args.parts.now c.loop-at.ticks _ c.loop-at.at c.requires.sound
    (omega (arith, c.loop-at-test.true, c.loop-at.auto.ticks, c.requires.room)) c.loop-at-test.true c.loop-at.invariant (search rules)
