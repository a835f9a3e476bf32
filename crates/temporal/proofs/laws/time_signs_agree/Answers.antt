use Rattle.temporal.proofs.laws.time_signs_agree.Goals as goal
use Rattle.temporal.proofs.Meaning.{time_signs_agree}

pub returns : goal.returns
returns c = time_signs_agree
