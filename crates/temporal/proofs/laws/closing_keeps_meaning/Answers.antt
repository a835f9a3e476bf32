use Rattle.temporal.proofs.laws.closing_keeps_meaning.Goals as goal
use Rattle.temporal.proofs.Meaning.{closing_keeps_meaning}

pub returns : goal.returns
returns c = closing_keeps_meaning
