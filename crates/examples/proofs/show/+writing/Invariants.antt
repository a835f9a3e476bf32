use Rattle.std.proofs.Common.{◌+◌, ◌*◌}
use Rattle.examples.proofs.show.+writing.Given as goal

-- operands stand before their part, and a part is written bare within its brackets
abbrev pub decreases-write_bare : goal.decreases-write_bare
decreases-write_bare l = 2 * l.at

abbrev pub decreases-write_part : goal.decreases-write_part
decreases-write_part l = 2 * l.at + 1
