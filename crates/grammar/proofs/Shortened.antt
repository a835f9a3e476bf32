-- Shortening carries a run of the machine into the run that shortens as it builds.
use Rattle.std.proofs.Common.{◌≡◌, ℕ, suc, true, false, cond, leb, List, [], ◌∷◌, map, Some, None, Option, sym, refl, ap, ◌∙◌}
use Rattle.temporal.specs.Formula.{Formula}
use Rattle.temporal.specs.Shorten.{shorten}
use Rattle.parts.specs.declared.part.Unary.{Unary}
use Rattle.parts.specs.declared.part.Unary.TheVariants.{Not, Next, Finally, Globally}
use Rattle.parts.specs.Places.{one, oneˢ}
use Rattle.words.specs.declared.word.Leaf.{Leaf}
use Rattle.words.specs.declared.word.Leaf.TheVariants.{Const, Signal}
use Rattle.words.specs.declared.word.Connective.{Connective}
use Rattle.words.specs.declared.word.Connective.TheVariants.{Implies, Or, And, Until}
use Rattle.words.specs.declared.word.Word.{Word}
use Rattle.words.specs.declared.word.Word.TheVariants.{Atom, Prefix, Infix, Open, Close, Stray}
use Rattle.grammar.specs.Grammar.{leaf, connect, level, Reads}
use Rattle.grammar.specs.Machine.{raw, short, connectˢ, Held, opened, signed, halfway, State, want, have, stuck, waits, closing, closed, ended, reduce, step, run, ending, raw_of, short_of}
use Rattle.grammar.specs.Laws.{shorten_some, ShortIsShortened}
use Rattle.grammar.proofs.Sound.{sound_all}

leaf_shortened : (a : Leaf) → shorten (leaf a) ≡ leaf a
leaf_shortened (Const b) = refl
leaf_shortened (Signal p) = refl

one_shortened : (u : Unary) (f : Formula) → shorten (one u f) ≡ oneˢ u (shorten f)
one_shortened Not f = refl
one_shortened Next f = refl
one_shortened Finally f = refl
one_shortened Globally f = refl

connect_shortened : (o : Connective) (f g : Formula) → shorten (connect o f g) ≡ connectˢ o (shorten f) (shorten g)
connect_shortened Implies f g = refl
connect_shortened Or f g = refl
connect_shortened And f g = refl
connect_shortened Until f g = refl

-- Everything in a state, shortened.
abbrev held : Held → Held
held opened = opened
held (signed u) = signed u
held (halfway o g) = halfway o (shorten g)

abbrev pair : Formula × List Held → Formula × List Held
pair p = (shorten p.0, map held p.1)

abbrev state : State → State
state (want s) = want (map held s)
state (have s f) = have (map held s) (shorten f)
state stuck = stuck

reduce_shortened : (b : ℕ) (f : Formula) (s : List Held) → reduce short b (shorten f) (map held s) ≡ pair (reduce raw b f s)
reduce_shortened b f [] = refl
reduce_shortened b f (opened ∷ s) = refl
reduce_shortened b f (signed u ∷ s) =
    ap (λ g. reduce short b g (map held s)) (sym (one_shortened u f)) ∙ reduce_shortened b (one u f) s
reduce_shortened b f (halfway o g ∷ s) =
    let next = ap (λ h. reduce short b h (map held s)) (sym (connect_shortened o g f)) ∙ reduce_shortened b (connect o g f) s in
    elim (leb b (level o)) as (λ t.
    cond t (reduce short b (connectˢ o (shorten g) (shorten f)) (map held s)) (shorten f, halfway o (shorten g) ∷ map held s)
    ≡ pair (cond t (reduce raw b (connect o g f) s) (f, halfway o g ∷ s))) [
      | true ↦ next
      | false ↦ refl
    ]

closing_shortened : (f : Formula) (s : List Held) → closing (shorten f) (map held s) ≡ state (closing f s)
closing_shortened f [] = refl
closing_shortened f (opened ∷ s) = refl
closing_shortened f (signed u ∷ s) = refl
closing_shortened f (halfway o g ∷ s) = refl

step_shortened : (st : State) (w : Word) → step short (state st) w ≡ state (step raw st w)
step_shortened stuck w = refl
step_shortened (want s) (Atom a) = ap (have (map held s)) (sym (leaf_shortened a))
step_shortened (want s) (Prefix u) = refl
step_shortened (want s) (Infix o) = refl
step_shortened (want s) Open = refl
step_shortened (want s) Close = refl
step_shortened (want s) Stray = refl
step_shortened (have s f) (Atom a) = refl
step_shortened (have s f) (Prefix u) = refl
step_shortened (have s f) (Infix o) = ap (waits o) (reduce_shortened (suc (level o)) f s)
step_shortened (have s f) Open = refl
step_shortened (have s f) Close =
    ap closed (reduce_shortened 0 f s) ∙ closing_shortened (reduce raw 0 f s).0 (reduce raw 0 f s).1
step_shortened (have s f) Stray = refl

run_shortened : (st : State) (ws : List Word) → run short (state st) ws ≡ state (run raw st ws)
run_shortened st [] = refl
run_shortened st (w ∷ ws) = ap (λ z. run short z ws) (step_shortened st w) ∙ run_shortened (step raw st w) ws

ended_shortened : (f : Formula) (s : List Held) → ended (shorten f) (map held s) ≡ shorten_some (ended f s)
ended_shortened f [] = refl
ended_shortened f (h ∷ s) = refl

ending_shortened : (st : State) → ending short (state st) ≡ shorten_some (ending raw st)
ending_shortened (want s) = refl
ending_shortened (have s f) =
    ap (λ p. ended p.0 p.1) (reduce_shortened 0 f s) ∙ ended_shortened (reduce raw 0 f s).0 (reduce raw 0 f s).1
ending_shortened stuck = refl

pub short_is_shortened : ShortIsShortened
short_is_shortened ws = ap (ending short) (run_shortened (want []) ws) ∙ ending_shortened (run raw (want []) ws)

-- What the shortening machine makes is the shortened formula of the words.
pub short_reads : (ws : List Word) (t : Formula) → short_of ws ≡ Some t → (f : Formula) × Reads 0 ws f × (shorten f ≡ t)
short_reads ws t e = go (raw_of ws) refl (sym (short_is_shortened ws) ∙ e)
  where
    go : (o : Option Formula) → raw_of ws ≡ o → shorten_some o ≡ Some t → (f : Formula) × Reads 0 ws f × (shorten f ≡ t)
    go None q h = absurd (cc)
    go (Some f) q h = let i : shorten f ≡ t = cc in (f, sound_all ws f q, i)
