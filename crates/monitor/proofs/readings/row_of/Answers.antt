use Rattle.std.proofs.Common.{rules, Some, None}
use borrow.Author.Tests.{tests}
use Rattle.monitor.specs.Monitoring.{bit}
use Rattle.monitor.proofs.Rows.{from_fn_at}
use Rattle.monitor.proofs.readings.row_of.Goals as goal

pub returns : goal.returns
returns c =
    λ k h. from_fn_at _ _ (λ j. Some (bit c.args.reading j)) (λ i y q e. search (rules, tests)) c.from_fn.result 32 c.from_fn.ensures.items k None h
