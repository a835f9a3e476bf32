use Rattle.temporal.proofs.laws.rebuilding_commutes.Goals as goal
use Rattle.temporal.proofs.Rebuilding.{rebuilding_commutes}

pub returns : goal.returns
returns c = rebuilding_commutes
