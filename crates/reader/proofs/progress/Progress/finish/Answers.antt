use Rattle.std.proofs.Common.{subst}
use Rattle.parts.specs.Tables.{parts_of}
use Rattle.reader.specs.Steps.{Ends}
use Rattle.reader.proofs.Waits.{ends}
use Rattle.reader.proofs.progress.Progress.finish.Goals as goal

pub returns-clause-ends : goal.returns-clause-ends
returns-clause-ends c =
    let count = c.reduce-top.new.self.frames.now.ok.0 in
    subst (Ends c.args.self.now (parts_of c.reduce-top.new.self.table.now)) (cc (c.then_some.ensures, c.is_empty.ensures, count))
    (ends _ _ _ _ _ _ _ c.in_ok-x.was c.reduce-top.ensures.reduced)
