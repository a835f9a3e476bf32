use Rattle.std.proofs.Common.{rules}
use Rattle.monitor.proofs.Bits.{beyond}
use Rattle.monitor.proofs.readings.is_beyond.Goals as goal

pub returns-then-signals-lt32 : goal.returns-then-signals-lt32
returns-then-signals-lt32 c = search (rules, beyond)
