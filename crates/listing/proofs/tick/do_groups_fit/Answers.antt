use Rattle.std.proofs.Common.{rules, ◌+◌, ◌<◌, map, length, eqb, ap, arith}
use Rattle.std.proofs.lemmas.Iterator.Consumers.{YieldsList-at}
use Rattle.std.proofs.lemmas.Iterator.Search.{all_from_yields_List}
use Rattle.std.proofs.lemmas.Iterator.Splits.{YieldsList-from_slice_split}
use borrow.Author.Tests.{tests}
use Rattle.roster.specs.Rosters.{owned}
use Rattle.listing.specs.Ticks.{groups, is_group, owned_by}
use Rattle.listing.proofs.Grouping.{groups_few, numbered}
use Rattle.listing.proofs.tick.do_groups_fit.Goals as goal

pub returns : goal.returns
returns c =
    let ss = map owned c.args.signals.now in
    let line = c.args.line.now in
    let few : 1 + length (groups line) < 18446744073709551616 = omega (arith, groups_few line) in
    let f = c.zip.ensures.first in
    all_from_yields_List (λ p. is_group (owned_by p.0 ss) p.1) c.all.new.self _ c.all.result c.all.ensures.ran
    (numbered _ _ 1 (ap (λ r. r.start) f) few
    (YieldsList-at c.zip.ensures.second
    (YieldsList-from_slice_split _ (λ b. eqb b 32) line c.split.ensures.rest c.split.ensures.done c.split.ensures.closure (λ x b q k. search (rules, tests)))))
    (λ x b q k. search (rules, tests))
