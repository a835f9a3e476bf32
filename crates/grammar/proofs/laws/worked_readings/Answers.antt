use Rattle.grammar.proofs.laws.worked_readings.Goals as goal
use Rattle.grammar.proofs.Readings.{worked_readings}

pub returns : goal.returns
returns c = worked_readings
