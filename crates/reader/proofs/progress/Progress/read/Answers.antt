use Rattle.std.proofs.Common.{◌≡◌, Err, length, sym, subst, rules, arith, ◌∙◌}
use Rattle.std.specs.Option.{ok_or}
use Rattle.parts.specs.Tables.{parts_of}
use Rattle.reader.specs.Answers.{Answers}
use Rattle.reader.specs.Steps.{Ends}
use Rattle.reader.proofs.Whole.{goes_on, stops, answers}
use Rattle.reader.proofs.progress.Progress.read.Goals as goal

pub loop-i-preserved : goal.loop-i-preserved
loop-i-preserved c =
    let inv = c.loop-i.invariant in
    let on = goes_on c.args.words.now _ c.loop-i.self inv.here _ c.take.new.self _ _ _ c.loop-i-test.true inv.few c.take.ensures.takes (sym c.ok_or.ensures.value ∙ c.in_ok-ok_or.was) in
    record { memory = search rules; few = on.0; here = on.1 }

pub returns-in_err-ok_or-clause-answers : goal.returns-in_err-ok_or-clause-answers
returns-in_err-ok_or-clause-answers c =
    let fault : ok_or c.take.result (record { word = c.loop-i.i }) ≡ Err c.in_err-ok_or.field-0.0 = search rules in
    stops c.args.words.now _ c.loop-i.self c.loop-i.invariant.here _ c.take.new.self _ _ _ _ c.loop-i-test.true c.take.ensures.takes fault c.from_residual.ensures.1

pub returns-clause-answers : goal.returns-clause-answers
returns-clause-answers c =
    let words = c.args.words.now in
    let parts = parts_of c.finish.new.self.table.now in
    let end : c.loop-i.i ≡ length words = omega arith in
    let value : c.ok_or-2.result ≡ ok_or c.finish.result (record { word = length words }) = search rules in
    let ended : Ends c.loop-i.self parts c.finish.result = search rules in
    subst (Answers words parts) (sym value) (answers words _ c.loop-i.self c.loop-i.invariant.here parts _ end ended)
