use Rattle.std.proofs.Common.{rules, ◌≡◌, ◌<◌, ◌≤◌, get_or, length, None, sym, ap, ◌∙◌, arith}
use Rattle.std.proofs.lemmas.List.{get_or-take, length-take-le}
use Rattle.temporal.specs.Earliest.{earliest}
use Rattle.parts.specs.Places.{formula}
use Rattle.compact.proofs.Compacting.{at_last, read_back}
use Rattle.compact.proofs.compact.Compact.earliest_open.Goals as goal

pub returns : goal.returns
returns c =
    let v = c.args.space.now.ticks in
    let ts = c.earliest_ticks.new.ticks in
    let k = c.top.result in
    let n = length c.parts.result.now in
    let few = c.args.self.now.few in
    let long = c.args.space.now.ticks_long in
    let p = ap length c.parts.ensures in
    let last : k < n = omega (arith, p, c.top.ensures) in
    let fits : n ≤ length ts = omega (arith, p, few, long, c.earliest_ticks.auto.ticks, c.deref_mut.ensures.len) in
    let read : c.index.result.now ≡ get_or ts k None =
    read_back v ts c.deref_mut.result.now k c.index.result.now None c.earliest_ticks.auto.ticks c.deref_mut.ensures.value
    (omega (arith, p, c.top.ensures, few, long)) (search rules) in
    read ∙ sym (get_or-take n ts k None last) ∙ c.earliest_ticks.ensures k (omega (arith, last, length-take-le n ts fits))
    ∙ ap (λ ps. earliest (formula ps k)) c.parts.ensures ∙ ap earliest (at_last c.args.self.now k c.top.ensures)
