use Rattle.std.proofs.Common.{rules, false}
use Rattle.temporal.specs.Formula.{never}
use Rattle.parts.specs.Tables.{parts_of}
use Rattle.compact.proofs.Compacting.{fresh_walked, walked_alike}
use Rattle.compact.proofs.compact.Compact.new.Goals as goal

pub invariant_of-result : goal.invariant_of-result
invariant_of-result c =
    let w = fresh_walked false (parts_of c.in_ok-table.table) (parts_of c.constant.new.self) c.constant.result (search rules) (search rules) in
    let a = walked_alike (parts_of c.constant.new.self) never w.0 in
    record { some = a.0; few = w.1; walked = a.2 }

pub returns : goal.returns
returns c =
    (walked_alike (parts_of c.constant.new.self) never
    (fresh_walked false (parts_of c.in_ok-table.table) (parts_of c.constant.new.self) c.constant.result (search rules) (search rules)).0).1
