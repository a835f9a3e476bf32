use Rattle.temporal.proofs.laws.shortening_commutes.Goals as goal
use Rattle.temporal.proofs.Rebuilding.{shortening_commutes}

pub returns : goal.returns
returns c = shortening_commutes
