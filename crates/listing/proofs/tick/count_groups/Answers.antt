use Rattle.std.proofs.Common.{rules, ◌≡◌, eqb, arith}
use Rattle.std.specs.List.{count_by}
use Rattle.std.proofs.lemmas.List.Splits.{length-slice_split}
use Rattle.listing.proofs.tick.count_groups.Goals as goal

pub returns : goal.returns
returns c =
    let spaces : c.count.result ≡ count_by (λ b. eqb b 32) c.args.line.now = search rules in
    omega (arith, spaces, length-slice_split (λ b. eqb b 32) c.args.line.now)
