use Rattle.std.proofs.Common.{◌≡◌, vec_items, length, rules, arith}
use Rattle.parts.specs.Tables.{parts_of}
use Rattle.reader.proofs.Waits.{popped_off, pushed_on, took_leaf, took_sign, took_open, took_join, took_close}
use Rattle.reader.proofs.progress.Progress.take.Goals as goal

pub returns-in-None-Atom-clause-takes : goal.returns-in-None-Atom-clause-takes
returns-in-None-Atom-clause-takes c =
    took_leaf _ _ _ (parts_of c.args.self.now.table.now) _ (vec_items c.args.self.now.frames.now) _ c.in-None-Atom.is-1 c.in-None-Atom.is-0 (omega arith) c.put_leaf.ensures

pub returns-in-None-Prefix-clause-takes : goal.returns-in-None-Prefix-clause-takes
returns-in-None-Prefix-clause-takes c =
    took_sign _ _ c.args.self.now.held (parts_of c.args.self.now.table.now) _ _ c.in-None-Prefix.is-1 c.in-None-Prefix.is-0 c.push_reserved.ensures.items

pub returns-in-None-Open-clause-takes : goal.returns-in-None-Open-clause-takes
returns-in-None-Open-clause-takes c =
    took_open _ c.args.self.now.held (parts_of c.args.self.now.table.now) _ _ c.in-None-Open.is-1 c.in-None-Open.is-0 c.push_reserved-in-None-Open.ensures.items

pub returns-in-Some-Infix-clause-takes : goal.returns-in-Some-Infix-clause-takes
returns-in-Some-Infix-clause-takes c =
    took_join _ _ _ c.in-Some-Infix.x _ _ _ _ _ _ _ c.in-Some-Infix.is-1 c.in-Some-Infix.is-0 c.reduce-left.ensures.reduced (omega arith) c.push_reserved-in-Some-Infix.ensures.items

pub returns-in-Some-Bracket-clause-takes : goal.returns-in-Some-Bracket-clause-takes
returns-in-Some-Bracket-clause-takes c =
    took_close _ _ c.in-Some-Close.x _ _ _ _ _ _ _ c.in-Some-Close.is-1 c.in-Some-Close.is-0 c.reduce.ensures.reduced c.in-Some-Bracket.ensures.items c.in-Some-Bracket.field-0-is

pub invariant_of-self-in-None-Prefix : goal.invariant_of-self-in-None-Prefix
invariant_of-self-in-None-Prefix c =
    let more = pushed_on (vec_items c.args.self.now.frames.now) _ _ (length (parts_of c.args.self.now.table.now)) c.push_reserved.ensures.items (omega arith) (omega arith) in
    record { room = omega arith; waiting_inside = more.0; held_inside = search rules; few = omega arith }

pub invariant_of-self-in-None-Open : goal.invariant_of-self-in-None-Open
invariant_of-self-in-None-Open c =
    let more = pushed_on (vec_items c.args.self.now.frames.now) _ _ (length (parts_of c.args.self.now.table.now)) c.push_reserved-in-None-Open.ensures.items (omega arith) (omega arith) in
    record { room = omega arith; waiting_inside = more.0; held_inside = search rules; few = omega arith }

pub invariant_of-self-in-Some-Infix : goal.invariant_of-self-in-Some-Infix
invariant_of-self-in-Some-Infix c =
    let left = c.reduce-left.ensures.reduced.inside in
    let small = c.reduce-left.ensures.reduced.small in
    let more = pushed_on (vec_items c.reduce-left.new.self.frames.now) _ _ (length (parts_of c.reduce-left.new.self.table.now)) c.push_reserved-in-Some-Infix.ensures.items (omega arith) (omega arith) in
    record { room = omega arith; waiting_inside = more.0; held_inside = λ x e. absurd (cc); few = omega arith }

pub invariant_of-self-in-Some-Close : goal.invariant_of-self-in-Some-Close
invariant_of-self-in-Some-Close c =
    let made = c.reduce.ensures.reduced.inside in
    let left = popped_off (vec_items c.reduce.new.self.frames.now) (vec_items c.pop.new.self) _ c.pop.ensures.items in
    record { room = omega arith; waiting_inside = omega arith; held_inside = λ x e. let same : c.reduce.result ≡ x = cc in omega arith; few = omega arith }
