use Rattle.temporal.proofs.laws.closing_leaves_alone.Goals as goal
use Rattle.temporal.proofs.Owed.{closing_leaves_alone}

pub returns : goal.returns
returns c = closing_leaves_alone
