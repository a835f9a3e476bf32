use Rattle.std.proofs.Common.{rules}
use Rattle.parts.proofs.Making.{sound_in}
use Rattle.parts.proofs.Shaping.{left_unit_way, right_unit_way, left_zero_way, right_zero_way, alike_way, begun_way, kept_way}
use Rattle.parts.proofs.lent.Lent.join_shape.Goals as goal

pub returns-then-is_const : goal.returns-then-is_const
returns-then-is_const c = search (rules, left_unit_way)

pub returns-then-is_const-2 : goal.returns-then-is_const-2
returns-then-is_const-2 c = search (rules, right_unit_way)

pub returns-then-is_const-3 : goal.returns-then-is_const-3
returns-then-is_const-3 c = search (rules, left_zero_way)

pub returns-then-is_const-4 : goal.returns-then-is_const-4
returns-then-is_const-4 c = search (rules, right_zero_way)

pub returns-then-x-y : goal.returns-then-x-y
returns-then-x-y c = search (rules, alike_way)

pub returns-then-is_begun : goal.returns-then-is_begun
returns-then-is_begun c = search (rules, sound_in, begun_way)

pub returns : goal.returns
returns c =
    kept_way _ _ _ _ _ c.unit-unit.ensures (sound_in c.args.self.now) c.requires.x c.requires.y
    c.if-is_const.ensures c.if-is_const-2.ensures c.if-is_const-3.ensures c.if-is_const-4.ensures
    c.if-x-y.false c.if-is_begun.ensures
