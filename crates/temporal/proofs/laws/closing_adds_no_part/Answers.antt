use Rattle.temporal.proofs.laws.closing_adds_no_part.Goals as goal
use Rattle.temporal.proofs.Parts.{closing_adds_no_part}

pub returns : goal.returns
returns c = closing_adds_no_part
