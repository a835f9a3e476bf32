use Rattle.std.proofs.Common.{rules, ◌≡◌, ◌^◌, ◌<◌, ◌≤◌, false, leb, length, ap, ◌∙◌, subst, arith}
use Rattle.std.proofs.lemmas.Result.{err_from_is_err_and}
use Rattle.temporal.specs.Parts.{parts, final}
use Rattle.temporal.specs.Progress.{step}
use Rattle.parts.specs.Places.{formulas}
use Rattle.compact.specs.Compacts.{formula_of}
use Rattle.progression.specs.Readings.{assigned}
use Rattle.compact.proofs.Compacting.{counted}
use Rattle.rule.specs.Rules.{all_plain}
use Rattle.monitor.specs.Monitoring.{bit, progressed}
use Rattle.monitor.specs.Monitors.{state_of}
use Rattle.monitor.proofs.Stepping.{same_step, plain_kept, hold_parts, hold_none, with_obligation, moved}
use Rattle.monitor.proofs.monitor.Monitor.step.Goals as goal

pub returns-in_err-step-clause-state : goal.returns-in_err-step-clause-state
returns-in_err-step-clause-state c =
    let m = c.args.self.now in
    let w = c.args.reading in
    let f = formula_of m.obligation in
    let within : false ≡ leb (2 ^ m.rule.signals) w = search rules in
    let e : step (assigned m.next c.row_of.result) f ≡ progressed (state_of m) w =
    same_step m.rule.signals m.next w c.row_of.result f m.rule.few m.plain (search rules) in
    let p = err_from_is_err_and c.from_residual.result c.from_residual.ensures.1 in
    rw (p.1, p.2) (
      hold_parts (state_of m) w within (omega (arith, c.if-self-gt-LAST_TICK.false)) (subst (λ g. 256 < length (parts g)) e c.in_err-step.ensures.0),
      ap (λ ps. with_obligation (state_of m) (final (formulas ps))) c.in_err-step.ensures.1,
    )

pub invariant_of-self-2 : goal.invariant_of-self-2
invariant_of-self-2 c =
    let m = c.args.self.now in
    let w = c.args.reading in
    let f = formula_of m.obligation in
    let e : step (assigned m.next c.row_of.result) f ≡ progressed (state_of m) w =
    same_step m.rule.signals m.next w c.row_of.result f m.rule.few m.plain (search rules) in
    record { plain = ap (λ g. all_plain m.rule.signals (parts g)) (c.in_ok-step.ensures ∙ e) ∙ plain_kept m.rule.signals (bit w) f m.plain }

pub returns-clause-state : goal.returns-clause-state
returns-clause-state c =
    let m = c.args.self.now in
    let w = c.args.reading in
    let f = formula_of m.obligation in
    let within : false ≡ leb (2 ^ m.rule.signals) w = search rules in
    let e : step (assigned m.next c.row_of.result) f ≡ progressed (state_of m) w =
    same_step m.rule.signals m.next w c.row_of.result f m.rule.few m.plain (search rules) in
    let q : formula_of c.step.new.self ≡ progressed (state_of m) w = c.in_ok-step.ensures ∙ e in (
      hold_none (state_of m) w within (omega (arith, c.if-self-gt-LAST_TICK.false))
          (subst (λ g. length (parts g) ≤ 256) q (let k = counted c.step.new.self in omega (arith, c.step.new.self.few))),
      moved (state_of m) w (formula_of c.step.new.self) c.value.result c.decided_by-self.result q (search rules) (search rules),
    )
