use Rattle.std.proofs.Common.{rules, ◌∙◌}
use borrow.Author.Tests.{tests}
use Rattle.std.proofs.lemmas.Iterator.{YieldsList-from_slice}
use Rattle.std.proofs.lemmas.Iterator.Search.{all_from_yields_List}
use Rattle.rule.specs.Rules.{plain_part}
use Rattle.rule.proofs.Ruling.{parts_plain}
use Rattle.rule.proofs.plain.are_plain.Goals as goal

pub returns : goal.returns
returns c =
    all_from_yields_List (plain_part c.args.signals) _ _ _ c.all.ensures.ran (YieldsList-from_slice c.args.parts.now cc) (λ x b q k. search (rules, tests))
    ∙ parts_plain c.args.signals c.args.parts.now c.requires
