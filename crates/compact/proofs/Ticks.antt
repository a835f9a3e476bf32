-- The earliest open tick of a part.
use Rattle.std.proofs.Common.{◌≡◌, ℕ, ◌+◌, ◌<◌, ◌≤◌, List, [], ◌∷◌, ◌++◌, length, get_or, set, take, None, Option, sym, refl, ap, ◌∙◌, ap₂, subst, arith, below_more}
use Rattle.std.proofs.lemmas.List.{length_push, get_or_push, get_or_append_left, length-take-le, take_more_set}
use Rattle.temporal.specs.Formula.{Formula}
use Rattle.parts.specs.Places.{one, two, node, formula, blank, reach, Sound}
use Rattle.compact.specs.Ticks.{Ticked, tick_in}
use Rattle.parts.specs.declared.part.Unary.{Unary}
use Rattle.parts.specs.declared.part.Unary.TheVariants.{Not, Next, Finally, Globally}
use Rattle.parts.specs.declared.part.Binary.{Binary}
use Rattle.parts.specs.declared.part.Binary.TheVariants.{Join, Until}
use Rattle.parts.specs.declared.part.Part.{Part}
use Rattle.parts.specs.declared.part.Part.TheVariants.{Const, Signal, Open, One, Two}
use Rattle.parts.proofs.Places.{formula_node}
use Rattle.temporal.specs.Earliest.{earlier, earliest}

-- By the top sign of a part.
earliest_one : (u : Unary) (f : Formula) → earliest (one u f) ≡ earliest f
earliest_one Not f = refl
earliest_one Next f = refl
earliest_one Finally f = refl
earliest_one Globally f = refl

earliest_two : (b : Binary) (f g : Formula) → earliest (two b f g) ≡ earlier (earliest f) (earliest g)
earliest_two (Join o) f g = refl
earliest_two Until f g = refl

-- By a part over the ticks of its operands.
pub tick_node : (ps : List Part) (ts : List (Option ℕ)) (p : Part) → Ticked ps ts → reach p ≤ length ts → tick_in ts p ≡ earliest (node (formula ps) p)
tick_node ps ts (Const b) t h = refl
tick_node ps ts (Signal q) t h = refl
tick_node ps ts (Open q s) t h = refl
tick_node ps ts (One u a) t h = t a (omega arith) ∙ sym (earliest_one u (formula ps a))
tick_node ps ts (Two b x y) t h = ap₂ earlier (t x (omega arith)) (t y (omega arith)) ∙ sym (earliest_two b (formula ps x) (formula ps y))

-- One tick more.
pub ticked_more : (ps : List Part) (ts : List (Option ℕ)) (i : ℕ) (o : Option ℕ) → Sound ps → i ≡ length ts → i < length ps → Ticked ps ts
    → o ≡ tick_in ts (get_or ps i blank) → Ticked ps (ts ++ o ∷ [])
ticked_more ps ts i o s q h t e k lt =
    below_more (λ k. get_or (ts ++ o ∷ []) k None ≡ earliest (formula ps k)) (length ts)
    (λ k less. get_or_append_left ts (o ∷ []) None k less ∙ t k less)
    (get_or_push ts o None (length ts) refl ∙ e ∙ tick_node ps ts (get_or ps i blank) t (omega (arith, s.ordered i h))
    ∙ sym (ap earliest (formula_node ps i s.ordered h)) ∙ ap (λ j. earliest (formula ps j)) q)
    k (omega (arith, length_push ts o))

-- Written at its place.
pub ticked_set : (ps : List Part) (ts us : List (Option ℕ)) (i : ℕ) → Sound ps → i < length ts → i < length ps → Ticked ps (take i ts)
    → us ≡ set ts i (tick_in (take i ts) (get_or ps i blank)) → Ticked ps (take (i + 1) us)
ticked_set ps ts us i s h q t e =
    subst (Ticked ps) (sym (ap (take (i + 1)) e ∙ take_more_set ts i (tick_in (take i ts) (get_or ps i blank)) h))
    (ticked_more ps (take i ts) i (tick_in (take i ts) (get_or ps i blank)) s (sym (length-take-le i ts (omega (arith, h)))) q t refl)
