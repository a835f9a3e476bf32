use Rattle.std.proofs.Common.{rules}
use Rattle.parts.specs.Tables.{parts_of}
use Rattle.parts.proofs.Making.{few_of, sound_of}
use Rattle.compact.proofs.Numbers.{old_walk, one_ready, two_ready, leaf_ready}
use Rattle.compact.proofs.numbering.+walk.Goals as goal

pub returns-in-Some-clause-walked : goal.returns-in-Some-clause-walked
returns-in-Some-clause-walked t c =
    old_walk (parts_of c.args.table.now) (sound_of c.args.table.now) c.args.at c.requires.at c.args.numbers.now (parts_of c.args.out.now) c.in-Some.number c.requires.numbered c.in-Some.is

pub returns-in-Some-clause-stands : goal.returns-in-Some-clause-stands
returns-in-Some-clause-stands t c =
    c.requires.numbered.number c.args.at c.in-Some.number c.requires.at c.in-Some.is

pub write-requires-clause-room : goal.write-requires-clause-room
write-requires-clause-room t c =
    (one_ready (parts_of c.args.table.now) (sound_of c.args.table.now) (few_of c.args.table.now) c.args.at c.requires.at c.args.numbers.now (parts_of c.args.out.now) c.requires.numbered c.in_default.is
    c.in-One.sign c.in-One.a c.walk-x.result c.walk-x.new.numbers (parts_of c.walk-x.new.out) (search rules) c.walk-x.ensures.numbered c.walk-x.ensures.grown (search rules) (search rules)).room

pub write-requires-clause-sound : goal.write-requires-clause-sound
write-requires-clause-sound t c =
    (one_ready (parts_of c.args.table.now) (sound_of c.args.table.now) (few_of c.args.table.now) c.args.at c.requires.at c.args.numbers.now (parts_of c.args.out.now) c.requires.numbered c.in_default.is
    c.in-One.sign c.in-One.a c.walk-x.result c.walk-x.new.numbers (parts_of c.walk-x.new.out) (search rules) c.walk-x.ensures.numbered c.walk-x.ensures.grown (search rules) (search rules)).sound

pub write-requires-in-Two-clause-room : goal.write-requires-in-Two-clause-room
write-requires-in-Two-clause-room t c =
    (two_ready (parts_of c.args.table.now) (sound_of c.args.table.now) (few_of c.args.table.now) c.args.at c.requires.at c.args.numbers.now (parts_of c.args.out.now) c.requires.numbered c.in_default.is
    c.in-Two.sign c.in-Two.a c.in-Two.b c.walk-x-in-Two.result c.walk-y.result (parts_of c.walk-x-in-Two.new.out) c.walk-y.new.numbers (parts_of c.walk-y.new.out) (search rules) c.walk-y.ensures.numbered
    c.walk-x-in-Two.ensures.grown c.walk-y.ensures.grown (search rules) (search rules) (search rules) (search rules) (few_of c.walk-y.new.out)).room

pub write-requires-in-Two-clause-sound : goal.write-requires-in-Two-clause-sound
write-requires-in-Two-clause-sound t c =
    (two_ready (parts_of c.args.table.now) (sound_of c.args.table.now) (few_of c.args.table.now) c.args.at c.requires.at c.args.numbers.now (parts_of c.args.out.now) c.requires.numbered c.in_default.is
    c.in-Two.sign c.in-Two.a c.in-Two.b c.walk-x-in-Two.result c.walk-y.result (parts_of c.walk-x-in-Two.new.out) c.walk-y.new.numbers (parts_of c.walk-y.new.out) (search rules) c.walk-y.ensures.numbered
    c.walk-x-in-Two.ensures.grown c.walk-y.ensures.grown (search rules) (search rules) (search rules) (search rules) (few_of c.walk-y.new.out)).sound

pub write-requires-in_default-part : goal.write-requires-in_default-part
write-requires-in_default-part t c =
    let w = leaf_ready (parts_of c.args.table.now) (sound_of c.args.table.now) (few_of c.args.table.now) c.args.at c.requires.at c.args.numbers.now (parts_of c.args.out.now) c.requires.numbered c.in_default.is
    c.part.result (search rules) (search rules) (search rules) in
    record { at = search rules; room = w.room; sound = w.sound }

pub returns-in-One-clause-numbered : goal.returns-in-One-clause-numbered
returns-in-One-clause-numbered t c =
    ((one_ready (parts_of c.args.table.now) (sound_of c.args.table.now) (few_of c.args.table.now) c.args.at c.requires.at c.args.numbers.now (parts_of c.args.out.now) c.requires.numbered c.in_default.is
    c.in-One.sign c.in-One.a c.walk-x.result c.walk-x.new.numbers (parts_of c.walk-x.new.out) (search rules) c.walk-x.ensures.numbered c.walk-x.ensures.grown (search rules) (search rules)).after
    c.write.result c.write.new.numbers (parts_of c.write.new.out) (search rules) (search rules) (search rules)).numbered

pub returns-in-One-clause-walked : goal.returns-in-One-clause-walked
returns-in-One-clause-walked t c =
    ((one_ready (parts_of c.args.table.now) (sound_of c.args.table.now) (few_of c.args.table.now) c.args.at c.requires.at c.args.numbers.now (parts_of c.args.out.now) c.requires.numbered c.in_default.is
    c.in-One.sign c.in-One.a c.walk-x.result c.walk-x.new.numbers (parts_of c.walk-x.new.out) (search rules) c.walk-x.ensures.numbered c.walk-x.ensures.grown (search rules) (search rules)).after
    c.write.result c.write.new.numbers (parts_of c.write.new.out) (search rules) (search rules) (search rules)).walked

pub returns-in-One-clause-stands : goal.returns-in-One-clause-stands
returns-in-One-clause-stands t c =
    ((one_ready (parts_of c.args.table.now) (sound_of c.args.table.now) (few_of c.args.table.now) c.args.at c.requires.at c.args.numbers.now (parts_of c.args.out.now) c.requires.numbered c.in_default.is
    c.in-One.sign c.in-One.a c.walk-x.result c.walk-x.new.numbers (parts_of c.walk-x.new.out) (search rules) c.walk-x.ensures.numbered c.walk-x.ensures.grown (search rules) (search rules)).after
    c.write.result c.write.new.numbers (parts_of c.write.new.out) (search rules) (search rules) (search rules)).stands

pub returns-in-Two-clause-numbered : goal.returns-in-Two-clause-numbered
returns-in-Two-clause-numbered t c =
    ((two_ready (parts_of c.args.table.now) (sound_of c.args.table.now) (few_of c.args.table.now) c.args.at c.requires.at c.args.numbers.now (parts_of c.args.out.now) c.requires.numbered c.in_default.is
    c.in-Two.sign c.in-Two.a c.in-Two.b c.walk-x-in-Two.result c.walk-y.result (parts_of c.walk-x-in-Two.new.out) c.walk-y.new.numbers (parts_of c.walk-y.new.out) (search rules) c.walk-y.ensures.numbered
    c.walk-x-in-Two.ensures.grown c.walk-y.ensures.grown (search rules) (search rules) (search rules) (search rules) (few_of c.walk-y.new.out)).after
    c.write-in-Two.result c.write-in-Two.new.numbers (parts_of c.write-in-Two.new.out) (search rules) (search rules) (search rules)).numbered

pub returns-in-Two-clause-walked : goal.returns-in-Two-clause-walked
returns-in-Two-clause-walked t c =
    ((two_ready (parts_of c.args.table.now) (sound_of c.args.table.now) (few_of c.args.table.now) c.args.at c.requires.at c.args.numbers.now (parts_of c.args.out.now) c.requires.numbered c.in_default.is
    c.in-Two.sign c.in-Two.a c.in-Two.b c.walk-x-in-Two.result c.walk-y.result (parts_of c.walk-x-in-Two.new.out) c.walk-y.new.numbers (parts_of c.walk-y.new.out) (search rules) c.walk-y.ensures.numbered
    c.walk-x-in-Two.ensures.grown c.walk-y.ensures.grown (search rules) (search rules) (search rules) (search rules) (few_of c.walk-y.new.out)).after
    c.write-in-Two.result c.write-in-Two.new.numbers (parts_of c.write-in-Two.new.out) (search rules) (search rules) (search rules)).walked

pub returns-in-Two-clause-stands : goal.returns-in-Two-clause-stands
returns-in-Two-clause-stands t c =
    ((two_ready (parts_of c.args.table.now) (sound_of c.args.table.now) (few_of c.args.table.now) c.args.at c.requires.at c.args.numbers.now (parts_of c.args.out.now) c.requires.numbered c.in_default.is
    c.in-Two.sign c.in-Two.a c.in-Two.b c.walk-x-in-Two.result c.walk-y.result (parts_of c.walk-x-in-Two.new.out) c.walk-y.new.numbers (parts_of c.walk-y.new.out) (search rules) c.walk-y.ensures.numbered
    c.walk-x-in-Two.ensures.grown c.walk-y.ensures.grown (search rules) (search rules) (search rules) (search rules) (few_of c.walk-y.new.out)).after
    c.write-in-Two.result c.write-in-Two.new.numbers (parts_of c.write-in-Two.new.out) (search rules) (search rules) (search rules)).stands

pub returns-in_default-part : goal.returns-in_default-part
returns-in_default-part t c =
    let w = (leaf_ready (parts_of c.args.table.now) (sound_of c.args.table.now) (few_of c.args.table.now) c.args.at c.requires.at c.args.numbers.now (parts_of c.args.out.now) c.requires.numbered c.in_default.is
    c.part.result (search rules) (search rules) (search rules)).after
    c.write-in_default-part.result c.write-in_default-part.new.numbers (parts_of c.write-in_default-part.new.out) (search rules) (search rules) (search rules) in
    record { numbered = w.numbered; walked = w.walked; stands = w.stands; grown = w.grown }
