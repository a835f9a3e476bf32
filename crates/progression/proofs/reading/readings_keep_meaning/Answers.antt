use Rattle.progression.proofs.Truth.{readings_keep_meaning}
use Rattle.progression.proofs.reading.readings_keep_meaning.Goals as goal

pub returns : goal.returns
returns c = readings_keep_meaning
