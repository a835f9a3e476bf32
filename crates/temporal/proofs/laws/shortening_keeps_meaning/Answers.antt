use Rattle.temporal.proofs.laws.shortening_keeps_meaning.Goals as goal
use Rattle.temporal.proofs.Meaning.{shortening_keeps_meaning}

pub returns : goal.returns
returns c = shortening_keeps_meaning
