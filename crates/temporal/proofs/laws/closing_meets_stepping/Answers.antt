use Rattle.temporal.proofs.laws.closing_meets_stepping.Goals as goal
use Rattle.temporal.proofs.Owed.{closing_meets_stepping}

pub returns : goal.returns
returns c = closing_meets_stepping
