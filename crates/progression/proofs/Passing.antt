-- What a step or a closing makes of one part.
use Rattle.std.proofs.Common.{◌≡◌, ℕ, ◌+◌, ◌<◌, ◌≢◌, List, length, get_or, set, sym, refl, ap, ◌∙◌, subst, ap₂, arith, below_more}
use Rattle.std.proofs.lemmas.List.{get_or-set_same, get_or-set_other}
use Rattle.temporal.specs.Formula.{Formula}
use Rattle.temporal.specs.Shorten.{negˢ, joinˢ}
use Rattle.temporal.specs.Progress.{step, close}
use Rattle.parts.specs.Places.{op, one, two, twoˢ, node, formula, blank, leaf, Sound, Stands, Made}
use Rattle.progression.specs.Passes.{Imaged, stepped_one, stepped_two}
use Rattle.parts.specs.declared.part.Unary.{Unary}
use Rattle.parts.specs.declared.part.Unary.TheVariants.{Not, Next, Finally, Globally}
use Rattle.parts.specs.declared.part.Binary.{Binary}
use Rattle.parts.specs.declared.part.Binary.TheVariants.{Join, Until}
use Rattle.parts.specs.declared.part.Junction.{Junction}
use Rattle.parts.specs.declared.part.Part.{Part}
use Rattle.parts.specs.declared.part.Part.TheVariants.{Signal, Open, One, Two}
use Rattle.parts.proofs.Places.{formula_part, stands_on}
use Rattle.parts.proofs.Making.{made_here, made_as, stood, one_low, two_low}

-- One step, by the top sign.
module _ (σ : ℕ → Formula) where
  step_one : (u : Unary) (f : Formula) → stepped_one u (one u f) f (step σ f) ≡ step σ (one u f)
  step_one Not f = refl
  step_one Next f = refl
  step_one Finally f = refl
  step_one Globally f = refl

  step_two : (b : Binary) (f g : Formula) → stepped_two b (two b f g) (step σ f) (step σ g) ≡ step σ (two b f g)
  step_two (Join o) f g = refl
  step_two Until f g = refl

-- A rewriting that leaves a formula alone.
pub left_alone : (to : Formula → Formula) (n : ℕ) (ps : List Part) (i : ℕ) (p : Part) → Sound ps → i < length ps → p ≡ get_or ps i blank
    → node (formula ps) p ≡ to (node (formula ps) p) → Made n ps ps (to (formula ps i)) i
left_alone to n ps i p s h e q =
    let f = formula_part ps i s.ordered h p (sym e) in
    made_here n ps (to (formula ps i)) i s h (f ∙ q ∙ sym (ap to f))

module _ (σ : ℕ → Formula) (ps qs : List Part) (images : List ℕ) (i : ℕ) (s : Sound ps) (h : i < length ps) (done : Imaged (step σ) ps images i) where
  pub step_signal_way : (p : ℕ) (q : Part) (r : ℕ) → Signal p ≡ get_or ps i blank → leaf q ≡ σ p → Made 1 ps qs (leaf q) r → Made 2 ps qs (step σ (formula ps i)) r
  step_signal_way p q r e k d =
      made_as 1 2 ps qs (leaf q) (step σ (formula ps i)) r (omega arith)
      (k ∙ sym (ap (step σ) (formula_part ps i s.ordered h (Signal p) (sym e)))) d

  pub step_one_way : (u : Unary) (a r : ℕ) → One u a ≡ get_or ps i blank
      → Made 1 ps qs (stepped_one u (formula ps i) (formula ps a) (formula ps (get_or images a 0))) r → Made 2 ps qs (step σ (formula ps i)) r
  step_one_way u a r e d =
      let f = formula_part ps i s.ordered h (One u a) (sym e) in
      let x = (done a (one_low ps i u a s h e)).formula_is in
      made_as 1 2 ps qs _ (step σ (formula ps i)) r (omega arith)
      (ap₂ (λ w z. stepped_one u w (formula ps a) z) f x ∙ step_one σ u (formula ps a) ∙ sym (ap (step σ) f)) d

  pub step_two_way : (b : Binary) (x y r : ℕ) → Two b x y ≡ get_or ps i blank
      → Made 2 ps qs (stepped_two b (formula ps i) (formula ps (get_or images x 0)) (formula ps (get_or images y 0))) r → Made 2 ps qs (step σ (formula ps i)) r
  step_two_way b x y r e d =
      let f = formula_part ps i s.ordered h (Two b x y) (sym e) in
      let w = two_low ps i b x y s h e in
      let u = (done x w.0).formula_is in
      let v = (done y w.1).formula_is in
      made_as 2 2 ps qs _ (step σ (formula ps i)) r (omega arith)
      (ap (λ w. stepped_two b w (formula ps (get_or images x 0)) (formula ps (get_or images y 0))) f
      ∙ ap₂ (stepped_two b (two b (formula ps x) (formula ps y))) u v ∙ step_two σ b (formula ps x) (formula ps y) ∙ sym (ap (step σ) f)) d

-- Closing leaves the time signs alone.
pub close_time : (ρ : ℕ → ℕ → Formula) (u : Unary) (f : Formula) → (u ≡ Not → ⊥) → one u f ≡ close ρ (one u f)
close_time ρ Not f n = absurd (n refl)
close_time ρ Next f n = refl
close_time ρ Finally f n = refl
close_time ρ Globally f n = refl

pub close_until : (ρ : ℕ → ℕ → Formula) (b : Binary) (f g : Formula) → b ≡ Until → two b f g ≡ close ρ (two b f g)
close_until ρ b f g e = ap (λ z. two z f g) e ∙ sym (ap (λ z. close ρ (two z f g)) e)

module _ (ρ : ℕ → ℕ → Formula) (ps qs : List Part) (images : List ℕ) (i : ℕ) (s : Sound ps) (h : i < length ps) (done : Imaged (close ρ) ps images i) where
  pub close_open_way : (p t : ℕ) (q : Part) (r : ℕ) → Open p t ≡ get_or ps i blank → leaf q ≡ ρ p t → Made 1 ps qs (leaf q) r → Made 2 ps qs (close ρ (formula ps i)) r
  close_open_way p t q r e k d =
      made_as 1 2 ps qs (leaf q) (close ρ (formula ps i)) r (omega arith)
      (k ∙ sym (ap (close ρ) (formula_part ps i s.ordered h (Open p t) (sym e)))) d

  pub close_not_way : (u : Unary) (a r : ℕ) → One u a ≡ get_or ps i blank → u ≡ Not
      → Made 1 ps qs (negˢ (formula ps (get_or images a 0))) r → Made 2 ps qs (close ρ (formula ps i)) r
  close_not_way u a r e n d =
      let f = formula_part ps i s.ordered h (One u a) (sym e) ∙ ap (λ z. one z (formula ps a)) n in
      made_as 1 2 ps qs _ (close ρ (formula ps i)) r (omega arith)
      (ap negˢ (done a (one_low ps i u a s h e)).formula_is ∙ sym (ap (close ρ) f)) d

  pub close_join_way : (b : Binary) (o : Junction) (x y r : ℕ) → Two b x y ≡ get_or ps i blank → b ≡ Join o
      → Made 1 ps qs (twoˢ b (formula ps (get_or images x 0)) (formula ps (get_or images y 0))) r → Made 2 ps qs (close ρ (formula ps i)) r
  close_join_way b o x y r e n d =
      let f = formula_part ps i s.ordered h (Two b x y) (sym e) ∙ ap (λ z. two z (formula ps x) (formula ps y)) n in
      let w = two_low ps i b x y s h e in
      made_as 1 2 ps qs _ (close ρ (formula ps i)) r (omega arith)
      (ap (λ z. twoˢ z (formula ps (get_or images x 0)) (formula ps (get_or images y 0))) n
      ∙ ap₂ (joinˢ (op o)) (done x w.0).formula_is (done y w.1).formula_is ∙ sym (ap (close ρ) f)) d

-- One image more.
pub imaged_more : (to : Formula → Formula) (ps qs : List Part) (images : List ℕ) (i x : ℕ) → i < length images → i < length ps
    → Imaged to ps images i → Made 2 ps qs (to (formula ps i)) x → Imaged to qs (set images i x) (i + 1)
imaged_more to ps qs images i x h l done d =
    below_more (λ k. Stands qs (to (formula qs k)) (get_or (set images i x) k 0)) i
    (λ k less.
    let ne : k ≢ i = omega arith in
    subst (Stands qs (to (formula qs k))) (sym (get_or-set_other images i k x 0 ne))
    (subst (λ f. Stands qs (to f) (get_or images k 0)) (sym (stood 2 ps qs _ x k d (omega arith)))
    (stands_on 2 ps qs (to (formula ps k)) (get_or images k 0) d.grown (done k less))))
    (subst (Stands qs (to (formula qs i))) (sym (get_or-set_same images i x 0 h))
    (subst (λ f. Stands qs (to f) x) (sym (stood 2 ps qs _ x i d l)) d.stands))
