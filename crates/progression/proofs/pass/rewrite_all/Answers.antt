use Rattle.std.proofs.Common.{rules, ◌*◌, arith}
use Rattle.parts.specs.Tables.{parts_in}
use Rattle.parts.proofs.Making.{long_in}
use Rattle.parts.proofs.Places.{grown_on}
use Rattle.progression.proofs.Passing.{imaged_more}
use Rattle.progression.proofs.pass.rewrite_all.Goals as goal

pub loop-at-preserved : goal.loop-at-preserved
loop-at-preserved g c =
    let inv = c.loop-at.invariant in
    let e = c.image-image.ensures in
    record {
      loan = search rules;
      grown = grown_on (2 * c.loop-at.at) 2 _ (parts_in c.args.lent.now) (parts_in c.loop-at.lent) _ (omega arith) inv.grown e.made.grown;
      imaged = imaged_more (g.R.Rewrite.to c.args.by.now) (parts_in c.loop-at.lent) _ c.loop-at.images c.loop-at.at _
          (omega (arith, c.requires.images, long_in c.args.lent.now, c.loop-at-test.true)) (omega (arith, long_in c.loop-at.lent, long_in c.args.lent.now, inv.grown.more, c.loop-at-test.true)) inv.imaged (search rules);
    }
