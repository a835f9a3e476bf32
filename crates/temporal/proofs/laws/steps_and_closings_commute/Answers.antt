use Rattle.temporal.proofs.laws.steps_and_closings_commute.Goals as goal
use Rattle.temporal.proofs.Rebuilding.{steps_and_closings_commute}

pub returns : goal.returns
returns c = steps_and_closings_commute
