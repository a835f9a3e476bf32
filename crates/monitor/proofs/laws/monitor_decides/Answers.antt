use Rattle.monitor.proofs.Deciding.{monitor_decides}
use Rattle.monitor.proofs.laws.monitor_decides.Goals as goal

pub returns : goal.returns
returns c = monitor_decides
