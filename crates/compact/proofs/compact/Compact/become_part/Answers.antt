use Rattle.std.proofs.Common.{rules, refl}
use Rattle.parts.specs.Places.{formula}
use Rattle.parts.specs.Tables.{parts_of}
use Rattle.compact.proofs.Compacting.{whole_walk, last_walked, became_from}
use Rattle.compact.proofs.compact.Compact.become_part.Goals as goal

pub become_numbered-requires : goal.become_numbered-requires
become_numbered-requires c = whole_walk _ (formula (parts_of c.args.table.now) c.args.at) (search rules)

pub returns : goal.returns
returns c =
    became_from c.args.self.now c.args.self.now c.become_numbered.new.self _ (formula (parts_of c.args.table.now) c.args.at) c.become_numbered.result
    refl (last_walked (parts_of c.number.new.self.out) _ (search rules)) c.become_numbered.ensures
