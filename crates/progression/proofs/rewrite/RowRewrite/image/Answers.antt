use Rattle.std.proofs.Common.{rules, refl, ap, sym, ◌∙◌, inl, inr}
use Rattle.temporal.specs.Progress.{step}
use Rattle.progression.specs.Readings.{assigned, reading_or}
use Rattle.parts.specs.declared.part.Part.TheVariants.{Const, Open}
use Rattle.parts.proofs.Making.{sound_in}
use Rattle.progression.proofs.Passing.{left_alone, step_signal_way, step_one_way, step_two_way}
use Rattle.progression.proofs.rewrite.RowRewrite.image.Goals as goal

pub returns-in-Const-clause-made : goal.returns-in-Const-clause-made
returns-in-Const-clause-made c =
    elim c.in-Const.is [
      | inl w ↦ left_alone (step (assigned c.args.self.now.tick c.args.self.now.signals.now)) 2 _ c.args.at (Const w.0) (sound_in c.args.lent.now) c.requires.inside (sym w.1 ∙ c.part.ensures) refl
      | inr w ↦ left_alone (step (assigned c.args.self.now.tick c.args.self.now.signals.now)) 2 _ c.args.at (Open w.0 w.1) (sound_in c.args.lent.now) c.requires.inside (sym w.2 ∙ c.part.ensures) refl
    ]

pub returns-in-Some-clause-made : goal.returns-in-Some-clause-made
returns-in-Some-clause-made c =
    step_signal_way (assigned c.args.self.now.tick c.args.self.now.signals.now) _ _ c.args.images.now c.args.at (sound_in c.args.lent.now) c.requires.inside c.requires.imaged
    c.in-Signal.p (Const c.in-Some.value) _ (search rules) (ap (reading_or c.in-Signal.p c.args.self.now.tick) c.in-Some.ensures) (search rules)

pub returns-in-None-clause-made : goal.returns-in-None-clause-made
returns-in-None-clause-made c =
    step_signal_way (assigned c.args.self.now.tick c.args.self.now.signals.now) _ _ c.args.images.now c.args.at (sound_in c.args.lent.now) c.requires.inside c.requires.imaged
    c.in-Signal.p (Open c.in-Signal.p c.args.self.now.tick) _ (search rules) (ap (reading_or c.in-Signal.p c.args.self.now.tick) c.in-None.ensures) (search rules)

pub returns-in-One-clause-made : goal.returns-in-One-clause-made
returns-in-One-clause-made c =
    step_one_way (assigned c.args.self.now.tick c.args.self.now.signals.now) _ _ c.args.images.now c.args.at (sound_in c.args.lent.now) c.requires.inside c.requires.imaged
    c.in-One.sign c.in-One.a _ (search rules) (search rules)

pub returns-in-Two-clause-made : goal.returns-in-Two-clause-made
returns-in-Two-clause-made c =
    step_two_way (assigned c.args.self.now.tick c.args.self.now.signals.now) _ _ c.args.images.now c.args.at (sound_in c.args.lent.now) c.requires.inside c.requires.imaged
    c.in-Two.sign c.in-Two.a c.in-Two.b _ (search rules) (search rules)
