use Rattle.std.proofs.Common.{◌≤◌, take, vec_items, subst, arith}
use Rattle.std.proofs.lemmas.List.{take-take, length-take}
use Rattle.parts.specs.Places.{Sound}
use Rattle.parts.specs.Tables.{parts_of}
use Rattle.parts.proofs.Places.{sound_take}
use Rattle.parts.proofs.table.Table.cut.Goals as goal

pub invariant_of-self : goal.invariant_of-self
invariant_of-self c =
    let t = c.args.self.now in
    let xs = vec_items t.places in
    let l = length-take t.used xs in
    let h : c.args.n ≤ t.used = omega (arith, c.requires) in
    let s : Sound (take c.args.n xs) = subst Sound (take-take c.args.n t.used xs h)
    (sound_take (parts_of t) c.args.n c.requires record { ordered = t.ordered; once = t.once; short = t.short }) in
    record { long = t.long; fits = omega (arith, t.fits); ordered = s.ordered; once = s.once; short = s.short }
