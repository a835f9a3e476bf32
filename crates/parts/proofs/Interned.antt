-- What looking a shape up comes to.
use Rattle.std.proofs.Common.{◌≡◌, ℕ, ◌-◌, ◌<◌, List, [], ◌∷◌, ◌++◌, length, get_or, take, Some, None, Option, sym, refl, ap, ◌∙◌, subst, arith}
use Rattle.std.proofs.lemmas.List.{length_push}
use Rattle.temporal.specs.Formula.{Formula}
use Rattle.parts.specs.Places.{formula, blank, Sound, Stands, Fits, Shapes, meant, Made, Interned}
use Rattle.parts.specs.declared.shape.Shape.{Shape}
use Rattle.parts.specs.declared.shape.Shape.TheVariants.{At, Is}
use Rattle.parts.specs.declared.part.Part.{Part}
use Rattle.parts.proofs.Places.{formula_part, part_is, push_new, sound_push, grown_push}
use Rattle.parts.proofs.Making.{made_here}

-- The parts in use, as a slice has them.
pub front : (n : ℕ) (xs ys : List Part) → ys ≡ xs → take (n - 0) ys ≡ take n xs
front n xs ys e = let z : n - 0 ≡ n = omega arith in ap (λ k. take k ys) z ∙ ap (take n) e

-- A shape's formula is the one that it was made for.
pub meant_is : (ps : List Part) (f : Formula) (s : Shape) → Shapes ps f s → meant ps s ≡ f
meant_is ps f (At i) h = h.formula_is
meant_is ps f (Is p) h = h.formula_is

pub shape_is : (ps : List Part) (f : Formula) (s : Shape) → Shapes ps f s → Shapes ps (meant ps s) s
shape_is ps f s h = subst (λ g. Shapes ps g s) (sym (meant_is ps f s h)) h

module _ (ps : List Part) (s : Shape) (sound : Sound ps) where
  pub interned_at : (i : ℕ) → s ≡ At i → Shapes ps (meant ps s) s → Interned ps ps (meant ps s) (Some i)
  interned_at i e h =
      let w : Stands ps (meant ps s) i = subst (Shapes ps (meant ps s)) e h in
      (made_here 1 ps (meant ps s) i sound w.inside w.formula_is, λ k h q. refl)

  pub interned_found : (p : Part) (i : ℕ) → s ≡ Is p → i < length ps → get_or ps i blank ≡ p → Interned ps ps (meant ps s) (Some i)
  interned_found p i e h q =
      (made_here 1 ps (meant ps s) i sound h (formula_part ps i sound.ordered h p q ∙ sym (ap (meant ps) e)), λ k l r. refl)

  pub interned_full : (p : Part) → s ≡ Is p → Shapes ps (meant ps s) s → length ps ≡ 768
      → ((k : ℕ) → k < length ps → get_or ps k blank ≡ p → ⊥) → Interned ps ps (meant ps s) None
  interned_full p e h full absent =
      let w : Fits ps (meant ps s) p = subst (Shapes ps (meant ps s)) e h in
      (refl, full, λ k l q. absent k l (part_is ps k p sound l w.below (q ∙ sym w.formula_is)))

  -- a part that is not there may be written behind the others
  pub sound_more : (p : Part) → s ≡ Is p → Shapes ps (meant ps s) s → ((k : ℕ) → k < length ps → get_or ps k blank ≡ p → ⊥) → Sound (ps ++ p ∷ [])
  sound_more p e h absent = sound_push ps (meant ps s) p sound (subst (Shapes ps (meant ps s)) e h) absent

  pub interned_new : (p : Part) (qs : List Part) (n : ℕ) → s ≡ Is p → Shapes ps (meant ps s) s
      → ((k : ℕ) → k < length ps → get_or ps k blank ≡ p → ⊥) → length ps ≡ n → qs ≡ ps ++ p ∷ [] → Interned ps qs (meant ps s) (Some n)
  interned_new p qs n e h absent l q =
      let w : Fits ps (meant ps s) p = subst (Shapes ps (meant ps s)) e h in
      let k = length_push ps p in
      let none : (k : ℕ) → k < length ps → formula ps k ≡ meant ps s → qs ≡ ps =
      λ k h r. absurd (absent k h (part_is ps k p sound h w.below (r ∙ sym w.formula_is))) in (
        subst (λ z. Made 1 ps z (meant ps s) n) (sym q) record {
          grown = grown_push ps p;
          sound = sound_more p e h absent;
          stands = record {
            inside = omega arith;
            formula_is = ap (formula (ps ++ p ∷ [])) (sym l) ∙ push_new ps p ∙ w.formula_is;
          };
        },
        none,
      )

-- The formula that was asked for, where the shape was worked out on the slice of the parts in use.
pub interned_as : (F : List Part → Formula) (n : ℕ) (xs ys qs : List Part) (s : Shape) (r : Option ℕ) → ys ≡ xs
    → Shapes (take (n - 0) ys) (F (take (n - 0) ys)) s → Interned (take n xs) qs (meant (take n xs) s) r → Interned (take n xs) qs (F (take n xs)) r
interned_as F n xs ys qs s r e h i =
    let w : Shapes (take n xs) (F (take n xs)) s = subst (λ z. Shapes z (F z) s) (front n xs ys e) h in
    subst (λ f. Interned (take n xs) qs f r) (meant_is (take n xs) (F (take n xs)) s w) i
