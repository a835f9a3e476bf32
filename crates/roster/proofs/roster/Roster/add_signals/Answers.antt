use Rattle.std.proofs.Common.{drop, sym, ap, ◌∙◌, rules, tests}
use Rattle.std.proofs.lemmas.List.{length_push}
use Rattle.holds.specs.Cases.{first_case}
use Rattle.roster.specs.Entries.{pieces, signals_holds, with_signals}
use Rattle.roster.specs.Rosters.{entries}
use Rattle.roster.proofs.Judging.{judged_exit, signal_breaks, signal_joins, signal_passes}
use Rattle.roster.proofs.Pieces.{piece_turn, pieces_end}
use Rattle.roster.proofs.roster.Roster.add_signals.Goals as goal

pub returns-in_err-add_signal : goal.returns-in_err-add_signal
returns-in_err-add_signal c =
    let inv = c.loop-name.invariant in
    let ps = pieces 32 c.args.text.now in
    let cut = piece_turn _ _ 32 c.args.text.now (search rules) (search rules) (search rules) (λ x b q k. search (rules, tests)) c.loop-name.yielded c.loop-name.name-iterator c.loop-name.yielded_by c.next.result _ c.in-Some.name (search rules) c.next.ensures.steps in
    let e = entries c.args.self.now in
    judged_exit (signals_holds e c.args.line ps) (with_signals e ps) (entries c.add_signal.new.self) _ _ c.from_residual.ensures.1 (sym inv.decides ∙ signal_breaks (entries c.loop-name.self) c.args.line _ _ _ cut _ c.in_err-add_signal.ensures)

pub loop-name-preserved : goal.loop-name-preserved
loop-name-preserved c =
    let inv = c.loop-name.invariant in
    let ps = pieces 32 c.args.text.now in
    let cut = piece_turn _ _ 32 c.args.text.now (search rules) (search rules) (search rules) (λ x b q k. search (rules, tests)) c.loop-name.yielded c.loop-name.name-iterator c.loop-name.yielded_by c.next.result _ c.in-Some.name (search rules) c.next.ensures.steps in
    let more = length_push c.loop-name.yielded c.in-Some.name in
    let added = c.in_ok-add_signal.ensures in record {
      decides = ap (λ k. first_case (signals_holds (entries c.add_signal.new.self) c.args.line (drop k ps))) more
          ∙ sym (signal_passes (entries c.loop-name.self) c.args.line _ _ _ cut _ added.0 added.1) ∙ inv.decides;
      gives = ap (λ k. with_signals (entries c.add_signal.new.self) (drop k ps)) more
          ∙ sym (signal_joins (entries c.loop-name.self) c.args.line _ _ _ cut _ added.1) ∙ inv.gives;
    }

pub returns : goal.returns
returns c =
    let inv = c.loop-name.invariant in
    let done = pieces_end _ _ 32 c.args.text.now (search rules) (search rules) (search rules) (λ x b q k. search (rules, tests)) c.loop-name.yielded c.loop-name.name-iterator c.loop-name.yielded_by c.next.result _ (search rules) c.next.ensures.steps in (
      sym inv.decides ∙ ap (λ z. first_case (signals_holds (entries c.loop-name.self) c.args.line z)) done,
      sym (sym inv.gives ∙ ap (with_signals (entries c.loop-name.self)) done),
    )
