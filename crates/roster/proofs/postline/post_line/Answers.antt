use Rattle.std.proofs.Common.{rules, tests}
use Rattle.roster.proofs.Pieces.{one_piece, more_pieces, no_space, spaced}
use Rattle.roster.proofs.postline.post_line.Goals as goal

pub returns-in_err-behind : goal.returns-in_err-behind
returns-in_err-behind c =
    let none = one_piece _ _ c.args.text.now (search rules) (search rules) c.split-pieces.ensures.done c.split-pieces.ensures.closure (λ x b q k. search (rules, tests)) c.in_ok-name.name c.next.result _ c.next.ensures.steps (search rules) c.next-2.result _ c.next-2.ensures.steps (search rules) in
    search (rules, none)

pub returns-then-is_some : goal.returns-then-is_some
returns-then-is_some c =
    let none = more_pieces _ _ c.args.text.now (search rules) (search rules) c.split-pieces.ensures.done c.split-pieces.ensures.closure (λ x b q k. search (rules, tests)) c.in_ok-name.name c.next.result _ c.next.ensures.steps (search rules) c.in_ok-behind.behind c.next-2.result _ c.next-2.ensures.steps (search rules) c.next-3.result _ c.next-3.ensures.steps (search rules) in
    search (rules, none)

pub returns-in_err-signals : goal.returns-in_err-signals
returns-in_err-signals c =
    let none = no_space _ _ c.args.text.now (search rules) (search rules) c.split-pieces.ensures.done c.split-pieces.ensures.closure (λ x b q k. search (rules, tests)) c.in_ok-name.name c.next.result _ c.next.ensures.steps (search rules) c.in_ok-behind.behind c.next-2.result _ c.next-2.ensures.steps (search rules) c.next-3.result _ c.next-3.ensures.steps (search rules) (search rules) in
    search (rules, none)

pub returns : goal.returns
returns c =
    spaced _ _ c.args.text.now (search rules) (search rules) c.split-pieces.ensures.done c.split-pieces.ensures.closure (λ x b q k. search (rules, tests)) c.in_ok-name.name c.next.result _ c.next.ensures.steps (search rules) c.in_ok-behind.behind c.next-2.result _ c.next-2.ensures.steps (search rules) c.next-3.result _ c.next-3.ensures.steps (search rules) (search rules) c.in_ok-signals.signals.now (search rules)
