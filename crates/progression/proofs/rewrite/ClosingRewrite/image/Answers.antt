use Rattle.std.proofs.Common.{rules, refl, ap, sym, ◌∙◌, inl, inr}
use Rattle.parts.specs.Places.{formula}
use Rattle.parts.specs.Tables.{parts_in}
use Rattle.temporal.specs.Progress.{close}
use Rattle.progression.specs.Readings.{closed_by, reading_or}
use Rattle.parts.specs.declared.part.Part.TheVariants.{Const, Signal}
use Rattle.parts.proofs.Making.{sound_in}
use Rattle.progression.proofs.Passing.{left_alone, close_time, close_until, close_open_way, close_not_way, close_join_way}
use Rattle.progression.proofs.rewrite.ClosingRewrite.image.Goals as goal

pub returns-in-Const-clause-made : goal.returns-in-Const-clause-made
returns-in-Const-clause-made g c =
    elim c.in-Const.is [
      | inl w ↦ left_alone (close (closed_by (g.K.Known.known c.args.self.now.known.now))) 2 _ c.args.at (Const w.0) (sound_in c.args.lent.now) c.requires.inside (sym w.1 ∙ c.part.ensures) refl
      | inr w ↦ left_alone (close (closed_by (g.K.Known.known c.args.self.now.known.now))) 2 _ c.args.at (Signal w.0) (sound_in c.args.lent.now) c.requires.inside (sym w.1 ∙ c.part.ensures) refl
    ]

pub returns-in-Some-clause-made : goal.returns-in-Some-clause-made
returns-in-Some-clause-made g c =
    close_open_way (closed_by (g.K.Known.known c.args.self.now.known.now)) _ _ c.args.images.now c.args.at (sound_in c.args.lent.now) c.requires.inside c.requires.imaged
    c.in-Open.p c.in-Open.tick (Const c.in-Some.value) _ (search rules) (ap (reading_or c.in-Open.p c.in-Open.tick) c.in-Some.ensures) (search rules)

pub returns-in-None-clause-made : goal.returns-in-None-clause-made
returns-in-None-clause-made g c =
    left_alone (close (closed_by (g.K.Known.known c.args.self.now.known.now))) 2 _ c.args.at _ (sound_in c.args.lent.now) c.requires.inside c.in-Open.ensures
    (ap (reading_or c.in-Open.p c.in-Open.tick) c.in-None.ensures)

pub returns-in-Not-clause-made : goal.returns-in-Not-clause-made
returns-in-Not-clause-made g c =
    close_not_way (closed_by (g.K.Known.known c.args.self.now.known.now)) _ _ c.args.images.now c.args.at (sound_in c.args.lent.now) c.requires.inside c.requires.imaged
    c.in-One.sign c.in-One.a _ (search rules) c.in-Not.is (search rules)

pub returns-in_default-clause-made : goal.returns-in_default-clause-made
returns-in_default-clause-made g c =
    left_alone (close (closed_by (g.K.Known.known c.args.self.now.known.now))) 2 _ c.args.at _ (sound_in c.args.lent.now) c.requires.inside c.in-One.ensures
    (close_time (closed_by (g.K.Known.known c.args.self.now.known.now)) c.in-One.sign (formula (parts_in c.args.lent.now) c.in-One.a) c.in_default.not-Not)

pub returns-in-Join-clause-made : goal.returns-in-Join-clause-made
returns-in-Join-clause-made g c =
    close_join_way (closed_by (g.K.Known.known c.args.self.now.known.now)) _ _ c.args.images.now c.args.at (sound_in c.args.lent.now) c.requires.inside c.requires.imaged
    c.in-Two.sign _ c.in-Two.a c.in-Two.b _ (search rules) c.in-Join.is (search rules)

pub returns-in-Until-clause-made : goal.returns-in-Until-clause-made
returns-in-Until-clause-made g c =
    left_alone (close (closed_by (g.K.Known.known c.args.self.now.known.now))) 2 _ c.args.at _ (sound_in c.args.lent.now) c.requires.inside c.in-Two.ensures
    (close_until (closed_by (g.K.Known.known c.args.self.now.known.now)) c.in-Two.sign (formula (parts_in c.args.lent.now) c.in-Two.a) (formula (parts_in c.args.lent.now) c.in-Two.b) c.in-Until.is)
