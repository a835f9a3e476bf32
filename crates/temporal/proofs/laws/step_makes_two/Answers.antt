use Rattle.temporal.proofs.laws.step_makes_two.Goals as goal
use Rattle.temporal.proofs.Parts.{step_makes_two}

pub returns : goal.returns
returns c = step_makes_two
