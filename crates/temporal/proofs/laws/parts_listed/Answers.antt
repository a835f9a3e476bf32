use Rattle.temporal.proofs.laws.parts_listed.Goals as goal
use Rattle.temporal.proofs.Parts.{parts_listed}

pub returns : goal.returns
returns c = parts_listed
