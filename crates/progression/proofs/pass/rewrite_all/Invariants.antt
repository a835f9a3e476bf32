use Rattle.std.proofs.Common.{◌*◌}
use Rattle.parts.specs.Places.{Grown}
use Rattle.parts.specs.Tables.{SameLoan, parts_in}
use Rattle.progression.specs.Passes.{Imaged}
use Rattle.progression.proofs.pass.rewrite_all.Given as goal

abbrev pub invariant-loop-at : goal.invariant-loop-at
invariant-loop-at g l = record {
  loan : SameLoan l.fn.lent l.lent;
  grown : Grown (2 * l.at) (parts_in l.fn.lent) (parts_in l.lent);
  imaged : Imaged (g.R.Rewrite.to l.by) (parts_in l.lent) l.images l.at;
}
