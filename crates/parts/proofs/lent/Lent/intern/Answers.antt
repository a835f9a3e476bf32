use Rattle.std.proofs.Common.{rules, ◌<◌, length, vec_items, sym, subst, arith}
use Rattle.std.proofs.lemmas.List.{take_more_set}
use Rattle.parts.specs.Places.{Sound}
use Rattle.parts.specs.Tables.{parts_in}
use Rattle.parts.specs.declared.lent.Lent.{Lent}
use Rattle.parts.proofs.Interned.{interned_found, interned_full, interned_new, sound_more}
use Rattle.parts.proofs.Making.{sound_in, long_in}
use Rattle.parts.proofs.lent.Lent.intern.Goals as goal

pub returns-in-Some-clause-interned : goal.returns-in-Some-clause-interned
returns-in-Some-clause-interned c =
    interned_found _ _ (sound_in c.args.self.now) c.in-Is.part c.in-Some.at c.in-Is.is (search rules) (search rules)

pub returns-then-n-eq-ROOM-clause-interned : goal.returns-then-n-eq-ROOM-clause-interned
returns-then-n-eq-ROOM-clause-interned c =
    interned_full _ _ (sound_in c.args.self.now) c.in-Is.part c.in-Is.is c.requires
    (omega (arith, long_in c.args.self.now, c.if-n-eq-ROOM.true)) (search rules)

-- the part is written behind those in use
written : (l : Lent) → l.used.now < length (vec_items l.places.now)
written l = omega (arith, l.places.now.ok.0, l.long, l.fits)

pub invariant_of-self : goal.invariant_of-self
invariant_of-self c =
    let l = c.args.self.now in
    let n = l.used.now in
    let s = subst Sound (sym (take_more_set (vec_items l.places.now) n c.in-Is.part (written l)))
    (sound_more (parts_in l) c.args.shape (sound_in l) c.in-Is.part c.in-Is.is c.requires (search rules)) in
    record { long = l.long; fits = omega (arith, l.fits, c.if-n-eq-ROOM.false); ordered = s.ordered; once = s.once; short = s.short }

pub returns-clause-interned : goal.returns-clause-interned
returns-clause-interned c =
    let l = c.args.self.now in
    interned_new (parts_in l) c.args.shape (sound_in l) c.in-Is.part _ l.used.now c.in-Is.is c.requires (search rules) (long_in l)
    (take_more_set (vec_items l.places.now) l.used.now c.in-Is.part (written l))
