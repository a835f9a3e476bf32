use Rattle.compact.proofs.numbering.+walk.Given as goal

abbrev pub decreases-walk : goal.decreases-walk
decreases-walk l = l.at
