use Rattle.temporal.proofs.laws.obligations_last.Goals as goal
use Rattle.temporal.proofs.Owed.{obligations_last}

pub returns : goal.returns
returns c = obligations_last
