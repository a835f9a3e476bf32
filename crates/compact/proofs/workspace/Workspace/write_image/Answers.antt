use Rattle.std.proofs.Common.{rules, ◌-◌, ap, ◌∙◌, arith}
use Rattle.temporal.specs.Parts.{parts}
use Rattle.parts.specs.Tables.{parts_in, parts_of}
use Rattle.parts.proofs.Making.{used_length}
use Rattle.compact.proofs.Compacting.{read_back, top_stands}
use Rattle.compact.proofs.workspace.Workspace.write_image.Goals as goal

pub returns-clause-walked : goal.returns-clause-walked
returns-clause-walked g c =
    let t = c.args.table.now in
    let space = c.args.self.now in
    let images = c.rewrite_all.new.images in
    let made = c.rewrite_all.ensures in
    let l = used_length t.places t.used t.long t.fits in
    c.number.ensures
    ∙ ap parts
    (top_stands (parts_of t) (parts_in c.rewrite_all.new.lent) (g.R.Rewrite.to c.args.by.now) images t.used c.index-top.result.now
    c.requires.some (search rules) made.grown made.imaged
    (read_back space.images images _ (t.used - 1) c.index-top.result.now 0 c.rewrite_all.auto.images c.deref_mut.ensures.value
    (omega (arith, c.requires.some, c.requires.few, l, space.images_long)) (search rules))).formula_is
