use Rattle.std.proofs.Common.{length, ◌<◌}
use Rattle.parts.specs.Tables.{parts_of}
use Rattle.edges.proofs.shared.chain.Given as goal

-- the last part that was made stands in the table
abbrev pub invariant-loop : goal.invariant-loop
invariant-loop l = l.top < length (parts_of l.table)
