use Rattle.temporal.proofs.laws.obligation_is_proper.Goals as goal
use Rattle.temporal.proofs.Owed.{obligation_is_proper}

pub returns : goal.returns
returns c = obligation_is_proper
