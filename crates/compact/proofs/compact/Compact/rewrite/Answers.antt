use Rattle.std.proofs.Common.{rules, take, ap, ◌∙◌}
use Rattle.parts.specs.Tables.{parts_of}
use Rattle.compact.specs.Compacts.{formula_of}
use Rattle.compact.proofs.Compacting.{whole_walk, last_walked, put_back, became_from}
use Rattle.compact.proofs.compact.Compact.rewrite.Goals as goal

pub become_numbered-requires : goal.become_numbered-requires
become_numbered-requires g c = whole_walk _ (g.R.Rewrite.to c.args.by.now (formula_of c.args.self.now)) (search rules)

pub returns : goal.returns
returns g c =
    let cut = c.cut.ensures ∙ ap (λ k. take k (parts_of c.write_image.new.table)) c.used-n.ensures ∙ c.write_image.ensures.grown.front in
    became_from (put_back c.args.self.now c.cut.new.self cut) c.args.self.now c.become_numbered.new.self _
    (g.R.Rewrite.to c.args.by.now (formula_of c.args.self.now)) c.become_numbered.result cut
    (last_walked (parts_of c.write_image.new.self.numbering.out) _ (search rules)) c.become_numbered.ensures
