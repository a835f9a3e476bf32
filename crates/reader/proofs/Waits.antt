-- The reader's frames over a table that grows, as the machine's state.
use Rattle.std.proofs.Common.{◌≡◌, ℕ, suc, ◌+◌, ◌<◌, ◌≤◌, eqb, leb, List, [], ◌∷◌, ◌++◌, map, reverse, length, Some, None, Option, sym, refl, ap, ◌∙◌, subst, arith}
use Rattle.std.specs.Bool.{then_some}
use Rattle.std.proofs.lemmas.List.{map-append, reverse-append, length-append, length_push}
use Rattle.std.proofs.lemmas.Bool.{lt-leb, cond-false, ne_eqb}
use Rattle.temporal.specs.Formula.{Formula}
use Rattle.parts.specs.declared.part.Part.{Part}
use Rattle.parts.specs.declared.part.Unary.{Unary}
use Rattle.parts.specs.Places.{formula, oneˢ, Made}
use Rattle.parts.proofs.Making.{stood}
use Rattle.words.specs.declared.word.Leaf.{Leaf}
use Rattle.words.specs.declared.word.Connective.{Connective}
use Rattle.words.specs.declared.word.Word.{Word}
use Rattle.words.specs.declared.word.Word.TheVariants.{Atom, Prefix, Infix, Open, Close}
use Rattle.grammar.specs.Grammar.{leaf, level}
use Rattle.grammar.specs.Machine.{short, connectˢ, Held, opened, signed, halfway, want, have, stuck, reduce, waits, closed, step, ended, ending}
use Rattle.grammar.proofs.Scanned.{reduce_left}
use Rattle.reader.specs.declared.frame.Frame.{Frame}
use Rattle.reader.specs.declared.frame.Frame.TheVariants.{Bracket, Before, Between}
use Rattle.reader.specs.Waiting.{waiting, stack, state_of, reach, load, holding, reducing, Reduced, Took, Ended}

stack_push : (at : ℕ → Formula) (fs : List Frame) (f : Frame) → stack at (fs ++ (f ∷ [])) ≡ waiting at f ∷ stack at fs
stack_push at fs f = ap reverse (map-append (waiting at) fs (f ∷ [])) ∙ reverse-append (map (waiting at) fs) (waiting at f ∷ [])

-- The frames' places.
reach_left : (fs gs : List Frame) → reach fs ≤ reach (fs ++ gs)
reach_left [] gs = omega arith
reach_left (Bracket ∷ fs) gs = reach_left fs gs
reach_left (Before u ∷ fs) gs = reach_left fs gs
reach_left (Between o i ∷ fs) gs = let h = reach_left fs gs in omega arith

reach_popped : (gs fs hs : List Frame) → gs ≡ fs ++ hs → reach fs ≤ reach gs
reach_popped gs fs hs e = let l = reach_left fs hs in omega (arith, ap reach e)

length_popped : (gs fs hs : List Frame) → gs ≡ fs ++ hs → length fs + length hs ≡ length gs
length_popped gs fs hs e = omega (arith, length-append fs hs, ap length e)

-- What is left of the frames, once some were taken off.
pub popped_off : (gs fs hs : List Frame) → gs ≡ fs ++ hs → (reach fs ≤ reach gs) × (length fs + length hs ≡ length gs)
popped_off gs fs hs e = (reach_popped gs fs hs e, length_popped gs fs hs e)

reach_last : (fs : List Frame) (o : Connective) (i : ℕ) → i < reach (fs ++ (Between o i ∷ []))
reach_last [] o i = omega arith
reach_last (Bracket ∷ fs) o i = reach_last fs o i
reach_last (Before u ∷ fs) o i = reach_last fs o i
reach_last (Between q j ∷ fs) o i = let h = reach_last fs o i in omega arith

reach_both : (fs : List Frame) (f : Frame) (n : ℕ) → reach fs ≤ n → reach (f ∷ []) ≤ n → reach (fs ++ (f ∷ [])) ≤ n
reach_both [] f n h k = k
reach_both (Bracket ∷ fs) f n h k = reach_both fs f n h k
reach_both (Before u ∷ fs) f n h k = reach_both fs f n h k
reach_both (Between o i ∷ fs) f n h k = let e = reach_both fs f n (omega arith) k in omega arith

-- One more waits.
pub pushed_on : (fs gs : List Frame) (f : Frame) (n : ℕ) → gs ≡ fs ++ (f ∷ []) → reach fs ≤ n → reach (f ∷ []) ≤ n → (reach gs ≤ n) × (length fs + 1 ≡ length gs)
pushed_on fs gs f n e h k =
    let b = reach_both fs f n h k in (omega (arith, ap reach e), length_popped gs fs (f ∷ []) e)

-- What waits stays as the table grows.
module _ (n : ℕ) (ps qs : List Part) (g : Formula) (y : ℕ) (made : Made n ps qs g y) where
  map_made : (fs : List Frame) → reach fs ≤ length ps → map (waiting (formula qs)) fs ≡ map (waiting (formula ps)) fs
  map_made [] h = refl
  map_made (Bracket ∷ fs) h = ap (λ s. opened ∷ s) (map_made fs h)
  map_made (Before u ∷ fs) h = ap (λ s. signed u ∷ s) (map_made fs h)
  map_made (Between o i ∷ fs) h =
      let e = map_made fs (omega arith) in let t = stood n ps qs g y i made (omega arith) in cc

  stack_made : (fs : List Frame) → reach fs ≤ length ps → stack (formula qs) fs ≡ stack (formula ps) fs
  stack_made fs h = ap reverse (map_made fs h)

-- A turn of the reduction: gs waited for x over ps, fs waits for y over qs.
pub record Turn (b : ℕ) (ps : List Part) (gs : List Frame) (x : ℕ) (qs : List Part) (fs : List Frame) (y : ℕ) : Type 0 where
  pub inside : y < length qs
  pub small : load qs fs ≤ load ps gs
  pub left : reducing b qs fs y ≡ reducing b ps gs x

module _ (b : ℕ) (ps qs : List Part) (gs fs : List Frame) (x y : ℕ) (low : reach gs ≤ length ps) where
  front_low : (f : Frame) → gs ≡ fs ++ (f ∷ []) → reach fs ≤ length ps
  front_low f e = let l = reach_popped gs fs (f ∷ []) e in omega arith

  turn : (n : ℕ) (f : Frame) (g : Formula) → n ≤ 2 → gs ≡ fs ++ (f ∷ []) → Made n ps qs g y
      → reduce short b g (stack (formula ps) fs) ≡ reduce short b (formula ps x) (waiting (formula ps) f ∷ stack (formula ps) fs) → Turn b ps gs x qs fs y
  turn n f g h e m q =
      let r = front_low f e in
      let k = m.grown.few in
      let l = length_push fs f in
      record {
        inside = m.stands.inside;
        small = omega (arith, ap length e);
        left = ap (λ z. reduce short b z (stack (formula qs) fs)) m.stands.formula_is ∙ ap (reduce short b g) (stack_made n ps qs g y m fs r) ∙ q
            ∙ sym (ap (reduce short b (formula ps x)) (ap (stack (formula ps)) e ∙ stack_push (formula ps) fs f));
      }

  pub turn_sign : (u : Unary) → gs ≡ fs ++ (Before u ∷ []) → Made 1 ps qs (oneˢ u (formula ps x)) y → Turn b ps gs x qs fs y
  turn_sign u e m = turn 1 (Before u) (oneˢ u (formula ps x)) (omega arith) e m refl

  pub turn_join : (o : Connective) (i : ℕ) → b ≤ level o → gs ≡ fs ++ (Between o i ∷ []) → Made 2 ps qs (connectˢ o (formula ps i) (formula ps x)) y → Turn b ps gs x qs fs y
  turn_join o i t e m =
      turn 2 (Between o i) (connectˢ o (formula ps i) (formula ps x)) (omega arith) e m
      (sym (reduce_left short b o (formula ps i) (formula ps x) (stack (formula ps) fs) t))

-- The frame that was taken off.
pub popped_is : (gs fs : List Frame) (f g : Frame) → gs ≡ fs ++ (f ∷ []) → f ≡ g → gs ≡ fs ++ (g ∷ [])
popped_is gs fs f g e q = e ∙ ap (λ z. fs ++ (z ∷ [])) q

-- The place of a left operand is one of the table's.
pub left_inside : (ps : List Part) (gs fs : List Frame) (o : Connective) (i : ℕ) → reach gs ≤ length ps → gs ≡ fs ++ (Between o i ∷ []) → i < length ps
left_inside ps gs fs o i h e = let l = reach_last fs o i in omega (arith, ap reach e)

-- The reduction ends at a looser word or at a bracket.
pub stays_join : (b : ℕ) (ps : List Part) (gs fs : List Frame) (x : ℕ) (o : Connective) (i : ℕ) → level o < b → gs ≡ fs ++ (Between o i ∷ []) → holding ps gs x ≡ reducing b ps gs x
stays_join b ps gs fs x o i t e =
    let S : List Held = stack (formula ps) fs in
    let T : Formula = formula ps x in
    let d = ap (stack (formula ps)) e ∙ stack_push (formula ps) fs (Between o i) in
    ap (λ z. (T, z)) d
    ∙ sym (ap (reduce short b T) d ∙ cond-false (leb b (level o)) (reduce short b (connectˢ o (formula ps i) T) S) (T, halfway o (formula ps i) ∷ S) (lt-leb b (level o) t))

pub stays_open : (b : ℕ) (ps : List Part) (gs fs : List Frame) (x : ℕ) → gs ≡ fs ++ (Bracket ∷ []) → holding ps gs x ≡ reducing b ps gs x
stays_open b ps gs fs x e =
    let T : Formula = formula ps x in
    let d = ap (stack (formula ps)) e ∙ stack_push (formula ps) fs Bracket in
    ap (λ z. (T, z)) d ∙ sym (ap (reduce short b T) d)

pub reduced_here : (b : ℕ) (ps : List Part) (fs : List Frame) (x : ℕ) (qs : List Part) (gs hs : List Frame) (y : ℕ) → gs ≡ hs → y < length qs
    → load qs gs ≤ load ps fs → holding qs gs y ≡ reducing b ps fs x → Reduced b ps fs x qs hs y
reduced_here b ps fs x qs gs hs y e f l h = subst (λ z. Reduced b ps fs x qs z y) e (record { inside = f; small = l; pair = h })

-- A word where an operand is wanted. Each law takes what the code knows as equations.
pub took_leaf : (w : Word) (a : Leaf) (h : Option ℕ) (ps qs : List Part) (fs : List Frame) (i : ℕ) → w ≡ Atom a → h ≡ None → reach fs ≤ length ps → Made 1 ps qs (leaf a) i
    → Took w h ps fs (Some i) qs fs
took_leaf w a h ps qs fs i e n r m =
    let k = m.grown.few in
    subst (λ z. Took w z ps fs (Some i) qs fs) (sym n) (
      omega arith,
      ap (λ z. have z (formula qs i)) (stack_made 1 ps qs (leaf a) i m fs r) ∙ ap (have (stack (formula ps) fs)) m.stands.formula_is
          ∙ sym (ap (step short (want (stack (formula ps) fs))) e),
    )

-- A frame is put behind the others.
pushed : (ps : List Part) (fs gs : List Frame) (f : Frame) → gs ≡ fs ++ (f ∷ [])
    → (load ps gs ≤ load ps fs + 2) × (stack (formula ps) gs ≡ waiting (formula ps) f ∷ stack (formula ps) fs)
pushed ps fs gs f q =
    let l = length_push fs f in (omega (arith, ap length q), ap (stack (formula ps)) q ∙ stack_push (formula ps) fs f)

pub took_sign : (w : Word) (u : Unary) (h : Option ℕ) (ps : List Part) (fs gs : List Frame) → w ≡ Prefix u → h ≡ None
    → gs ≡ fs ++ (Before u ∷ []) → Took w h ps fs h ps gs
took_sign w u h ps fs gs e n q =
    let k = pushed ps fs gs (Before u) q in
    subst (λ z. Took w z ps fs z ps gs) (sym n) (k.0, ap want k.1 ∙ sym (ap (step short (want (stack (formula ps) fs))) e))

pub took_open : (w : Word) (h : Option ℕ) (ps : List Part) (fs gs : List Frame) → w ≡ Open → h ≡ None
    → gs ≡ fs ++ (Bracket ∷ []) → Took w h ps fs h ps gs
took_open w h ps fs gs e n q =
    let k = pushed ps fs gs Bracket q in
    subst (λ z. Took w z ps fs z ps gs) (sym n) (k.0, ap want k.1 ∙ sym (ap (step short (want (stack (formula ps) fs))) e))

-- A word after a formula.
pub took_join : (w : Word) (o : Connective) (b x y : ℕ) (h : Option ℕ) (ps qs : List Part) (fs gs hs : List Frame) → w ≡ Infix o → h ≡ Some x
    → Reduced b ps fs x qs gs y → b ≡ suc (level o) → hs ≡ gs ++ (Between o y ∷ []) → Took w h ps fs None qs hs
took_join w o b x y h ps qs fs gs hs e n r i q =
    let l = r.small in
    let k = pushed qs gs hs (Between o y) q in
    let m = k.0 in
    subst (λ z. Took w z ps fs None qs hs) (sym n) (
      omega arith,
      ap want k.1 ∙ ap (waits o) (r.pair ∙ ap (λ n. reducing n ps fs x) i) ∙ sym (ap (step short (state_of (Some x) ps fs)) e),
    )

pub took_close : (w : Word) (f : Frame) (x y : ℕ) (h : Option ℕ) (ps qs : List Part) (fs gs hs : List Frame) → w ≡ Close → h ≡ Some x → Reduced 0 ps fs x qs hs y
    → hs ≡ gs ++ (f ∷ []) → f ≡ Bracket → Took w h ps fs (Some y) qs gs
took_close w f x y h ps qs fs gs hs e o r q i =
    let n = length_push gs f in
    let m = r.small in
    let d = ap (stack (formula qs)) (q ∙ ap (λ z. gs ++ (z ∷ [])) i) ∙ stack_push (formula qs) gs Bracket in
    subst (λ z. Took w z ps fs (Some y) qs gs) (sym o) (
      omega (arith, ap length q),
      ap closed (ap (λ z. (formula qs y, z)) (sym d) ∙ r.pair) ∙ sym (ap (step short (state_of (Some x) ps fs)) e),
    )

-- The end: the formula, if nothing waits.
ended_open : (f : Formula) (s : List Held) (h : Held) → ended f (s ++ (h ∷ [])) ≡ None
ended_open f [] h = refl
ended_open f (g ∷ s) h = refl

pub ends : (h : Option ℕ) (x y : ℕ) (ps qs : List Part) (fs gs : List Frame) → h ≡ Some x → Reduced 0 ps fs x qs gs y
    → Ended h ps fs qs (then_some (eqb (length gs) 0) y)
ends h x y ps qs fs gs n r = go gs r.pair (ap (λ z. ending short (state_of z ps fs)) n)
  where
    go : (gs : List Frame) → holding qs gs y ≡ reducing 0 ps fs x → ending short (state_of h ps fs) ≡ ending short (state_of (Some x) ps fs)
        → Ended h ps fs qs (then_some (eqb (length gs) 0) y)
    go [] p e = (r.inside, e ∙ ap (λ z. ended z.0 z.1) (sym p))
    go (f ∷ gs) p e =
        subst (λ b. Ended h ps fs qs (then_some b y)) (sym (ne_eqb (suc (length gs)) 0 (λ q. omega arith))) (
        e ∙ ap (λ z. ended z.0 z.1) (sym p)
        ∙ ap (ended (formula qs y)) (reverse-append (waiting (formula qs) f ∷ []) (map (waiting (formula qs)) gs))
        ∙ ended_open (formula qs y) (reverse (map (waiting (formula qs)) gs)) (waiting (formula qs) f))

pub not_stuck : (h : Option ℕ) (ps : List Part) (fs : List Frame) → state_of h ps fs ≡ stuck → ⊥
not_stuck None ps fs e = cc
not_stuck (Some x) ps fs e = cc
