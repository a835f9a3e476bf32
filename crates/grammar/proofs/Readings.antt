-- The grammar and the machine, and some rules as they are read.
use Rattle.std.proofs.Common.{refl}
use Rattle.grammar.specs.Laws.{OneFormula, RawMeans, WorkedReadings}
use Rattle.grammar.proofs.Complete.{complete_all, unique}
use Rattle.grammar.proofs.Sound.{sound_all}

pub one_formula : OneFormula
one_formula ws f g d e = unique d e

pub raw_means : RawMeans
raw_means ws f = (sound_all ws f, λ d. complete_all d)

pub worked_readings : WorkedReadings
worked_readings = (sound_all _ _ refl, sound_all _ _ refl, sound_all _ _ refl, sound_all _ _ refl, sound_all _ _ refl)
