use Rattle.std.proofs.Common.{rules, ◌≡◌, ◌<◌, ◌≤◌, List, [], ◌∷◌, ◌++◌, vec_items, ◌∙◌, arith}
use Rattle.parts.specs.Tables.{parts_of}
use Rattle.grammar.specs.Grammar.{level}
use Rattle.parts.proofs.Making.{made_by, interned_grown}
use Rattle.reader.specs.Waiting.{Reduced, holding, reducing}
use Rattle.reader.specs.declared.frame.Frame.{Frame}
use Rattle.reader.specs.declared.frame.Frame.TheVariants.{Bracket, Before, Between}
use Rattle.reader.proofs.Waits.{popped_is, turn_sign, turn_join, left_inside, stays_join, stays_open, reduced_here, popped_off}
use Rattle.reader.proofs.progress.Progress.reduce.Goals.{In-Some}
use Rattle.reader.proofs.progress.Progress.reduce.Goals as goal

-- The frame was the last that waited.
popped : (c : In-Some) (f : Frame) → c.in-Some.frame ≡ f → vec_items c.loop-frame.self.frames.now ≡ vec_items c.pop.new.self ++ (f ∷ [])
popped c f e = popped_is _ _ _ f c.in-Some.ensures.items e

-- Where it stays, what is left waits for the place.
stays : (c : In-Some) (hs : List Frame) → vec_items c.loop-frame.self.frames.now ≡ hs
    → holding (parts_of c.loop-frame.self.table.now) (vec_items c.loop-frame.self.frames.now) c.loop-frame.x ≡ reducing c.args.bound (parts_of c.loop-frame.self.table.now) (vec_items c.loop-frame.self.frames.now) c.loop-frame.x
    → Reduced c.args.bound (parts_of c.args.self.now.table.now) (vec_items c.args.self.now.frames.now) c.args.start (parts_of c.loop-frame.self.table.now) hs c.loop-frame.x
stays c hs back e =
    let inv = c.loop-frame.invariant in
    reduced_here c.args.bound _ _ _ (parts_of c.loop-frame.self.table.now) _ _ _ back inv.inside inv.small (e ∙ inv.same)

pub loop-frame-preserved-in-Before : goal.loop-frame-preserved-in-Before
loop-frame-preserved-in-Before c =
    let last = popped (goal.at.loop-frame-preserved-in-Before c).In-Some (Before c.in-Before.sign) c.in-Before.is in
    let turn = turn_sign c.args.bound (parts_of c.loop-frame.self.table.now) (parts_of c.unary.new.self) _ _ c.loop-frame.x _ (omega arith) _ last
    (made_by _ _ _ c.unary.result _ (search rules) c.unwrap-x.ensures) in
    let made = turn.small in
    record { memory = search rules; inside = turn.inside; small = omega arith; same = turn.left ∙ c.loop-frame.invariant.same }

pub put_connective-x-requires : goal.put_connective-x-requires
put_connective-x-requires c =
    let last = popped (goal.at.put_connective-x-requires c).In-Some (Between c.in-Between.by c.in-Between.left) c.in-Between.is in
    let left = left_inside (parts_of c.loop-frame.self.table.now) _ _ _ _ (omega arith) last in
    let made = c.loop-frame.invariant.small in
    let held = c.loop-frame.invariant.inside in
    record { room = omega arith; x = omega arith; y = omega arith }

pub loop-frame-preserved : goal.loop-frame-preserved
loop-frame-preserved c =
    let last = popped (goal.at.loop-frame-preserved c).In-Some (Between c.in-Between.by c.in-Between.left) c.in-Between.is in
    let tight : c.args.bound ≤ level c.in-Between.by = omega arith in
    let turn = turn_join c.args.bound (parts_of c.loop-frame.self.table.now) (parts_of c.put_connective-x.new.table) _ _ c.loop-frame.x
    c.put_connective-x.result (omega arith) c.in-Between.by c.in-Between.left tight last (search rules) in
    let made = turn.small in
    record { memory = search rules; inside = turn.inside; small = omega arith; same = turn.left ∙ c.loop-frame.invariant.same }

pub returns-then-level-bound-clause-reduced : goal.returns-then-level-bound-clause-reduced
returns-then-level-bound-clause-reduced c =
    let here = (goal.at.returns-then-level-bound-clause-reduced c).In-Some in
    let taken = c.in-Some.ensures.items in
    let last = popped here (Between c.in-Between.by c.in-Between.left) c.in-Between.is in
    let loose : level c.in-Between.by < c.args.bound = omega arith in
    stays here (vec_items c.push_reserved.new.self) (cc) (stays_join c.args.bound (parts_of c.loop-frame.self.table.now) _ _ c.loop-frame.x c.in-Between.by c.in-Between.left loose last)

pub returns-in-Bracket-clause-reduced : goal.returns-in-Bracket-clause-reduced
returns-in-Bracket-clause-reduced c =
    let here = (goal.at.returns-in-Bracket-clause-reduced c).In-Some in
    let taken = c.in-Some.ensures.items in
    stays here (vec_items c.push_reserved-in-Bracket.new.self) (cc) (stays_open c.args.bound (parts_of c.loop-frame.self.table.now) _ _ c.loop-frame.x (popped here Bracket c.in-Bracket.is))

pub invariant_of-self : goal.invariant_of-self
invariant_of-self c =
    let left = popped_off (vec_items c.loop-frame.self.frames.now) (vec_items c.pop.new.self) _ c.in-Some.ensures.items in
    let grown = interned_grown _ _ _ _ c.unary.ensures in
    record { room = omega arith; waiting_inside = omega arith; held_inside = λ x e. let h = c.loop-frame.self.held_inside x e in omega arith; few = omega arith }

pub invariant_of-self-in-Between : goal.invariant_of-self-in-Between
invariant_of-self-in-Between c =
    let left = popped_off (vec_items c.loop-frame.self.frames.now) (vec_items c.pop.new.self) _ c.in-Some.ensures.items in
    let grown = c.put_connective-x.ensures.grown in
    record { room = omega arith; waiting_inside = omega arith; held_inside = λ x e. let h = c.loop-frame.self.held_inside x e in omega arith; few = omega arith }
