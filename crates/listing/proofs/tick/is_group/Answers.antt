use Rattle.std.proofs.Common.{rules, ◌≡◌}
use Rattle.std.specs.List.{list_all}
use Rattle.std.proofs.lemmas.Bool.{eq-eqb}
use Rattle.std.proofs.lemmas.Iterator.{YieldsList-from_slice}
use Rattle.std.proofs.lemmas.Iterator.Search.{all_from_yields_List}
use borrow.Author.Tests.{tests}
use Rattle.listing.specs.Ticks.{digit}
use Rattle.listing.proofs.tick.is_group.Goals as goal

pub returns-then-group-digits : goal.returns-then-group-digits
returns-then-group-digits c =
    let digits : c.all.result ≡ list_all digit c.args.group.now = all_from_yields_List digit _ _ c.all.result c.all.ensures.ran (YieldsList-from_slice c.args.group.now cc) (λ x b q k. search (rules, tests)) in
    rw (eq-eqb _ _ c.if-group-digits.true) digits
