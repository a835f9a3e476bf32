use Rattle.std.proofs.Common.{rules, map, ◌∙◌, arith}
use Rattle.std.proofs.lemmas.Grind.{common_steps}
use Rattle.std.proofs.lemmas.List.{length-map}
use Rattle.roster.specs.Rosters.{owned}
use Rattle.listing.proofs.Grouping.{bits_few}
use Rattle.listing.proofs.Reading.{fold_line}
use Rattle.listing.proofs.flight.read.Goals as goal

pub returns : goal.returns
returns c =
    let few = bits_few (map owned c.signals.result.now) c.args.line.now (search rules) in
    let n = length-map c.signals.result.now owned in
    (grind (arith, common_steps), c.whole_reading.ensures ∙ fold_line c.args.line.now (omega (arith, c.signals.ensures.few)))
