-- The parts of a post line, as the post line.
use Rattle.roster.specs.Entries.{PostLine, pieces}
use Rattle.roster.specs.declared.postline.PostLine.{PostLine as Parts}

abbrev pub line_of : Parts → PostLine
line_of p = record { name = p.name.now; signals = pieces 32 p.signals.now }
