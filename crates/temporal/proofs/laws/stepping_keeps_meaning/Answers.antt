use Rattle.temporal.proofs.laws.stepping_keeps_meaning.Goals as goal
use Rattle.temporal.proofs.Meaning.{stepping_keeps_meaning}

pub returns : goal.returns
returns c = stepping_keeps_meaning
