use Rattle.temporal.proofs.laws.worked_examples.Goals as goal
use Rattle.temporal.proofs.Examples.{worked_examples}

pub returns : goal.returns
returns c = worked_examples
