use Rattle.std.proofs.Common.{rules, ◌∙◌}
use Rattle.parts.specs.Places.{formula}
use Rattle.compact.specs.Compacts.{compact_parts}
use Rattle.compact.proofs.Compacting.{at_last, became_ok, became_it, top_few}
use Rattle.compact.proofs.compact.Compact.copy.Goals as goal

pub unwrap-requires : goal.unwrap-requires
unwrap-requires c =
    became_ok c.args.self.now c.become_part.new.self (formula (compact_parts c.args.other.now) c.top.result) c.become_part.result
    (top_few c.args.other.now c.top.result (search rules)) (search rules)

pub returns : goal.returns
returns c =
    became_it c.args.self.now c.become_part.new.self (formula (compact_parts c.args.other.now) c.top.result) c.become_part.result (search rules) (search rules)
    ∙ at_last c.args.other.now c.top.result (search rules)
