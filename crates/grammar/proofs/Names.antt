-- A rule names no signal but those of its words, and no reading is open in it.
use Rattle.std.proofs.Common.{◌≡◌, ℕ, suc, ◌+◌, ◌<◌, ◌≤◌, Bool, true, false, cond, not, ltb, ◌⊎◌, List, [], ◌∷◌, ◌++◌, length, Some, None, refl, inl, inr, arith}
use Rattle.std.proofs.lemmas.Bool.{leb-false, ltb-false}
use Rattle.std.specs.List.{position_or_len}
use Rattle.temporal.specs.Formula.{Formula}
use Rattle.temporal.specs.Formula.Formula.{signal}
use Rattle.temporal.specs.Parts.{Part}
use Rattle.temporal.specs.Obligation.{Closed, Open as OpenIn}
use Rattle.temporal.proofs.Names.{shorten_bare}
use Rattle.temporal.proofs.Owed.{shortened_is_owed}
use Rattle.parts.specs.declared.part.Unary.{Unary}
use Rattle.parts.specs.declared.part.Unary.TheVariants.{Not, Next, Finally, Globally}
use Rattle.parts.specs.Places.{one}
use Rattle.words.specs.declared.word.Leaf.TheVariants.{Const, Signal}
use Rattle.words.specs.declared.word.Connective.{Connective}
use Rattle.words.specs.declared.word.Connective.TheVariants.{Implies, Or, And, Until}
use Rattle.words.specs.declared.word.Word.{Word}
use Rattle.words.specs.declared.word.Word.TheVariants.{Infix, Close}
use Rattle.grammar.specs.Grammar.{connect, Reads, alone, within, sign, between, tighter}
use Rattle.grammar.specs.Scan.{foreign, unknown}
use Rattle.grammar.specs.Laws.{KnownMeans}

-- No word is a name that is none of n signals.
abbrev Known : ℕ → List Word → Type 0
Known n [] = Unit {0}
Known n (w ∷ ws) = (foreign n w ≡ false) × Known n ws

all_known : (n : ℕ) (ws : List Word) → length ws ≤ position_or_len (foreign n) ws → Known n ws
all_known n [] l = tt
all_known n (w ∷ ws) l = go (foreign n w) refl l (all_known n ws)
  where
    go : (b : Bool) → foreign n w ≡ b → suc (length ws) ≤ cond (not b) (1 + position_or_len (foreign n) ws) 0
        → (length ws ≤ position_or_len (foreign n) ws → Known n ws) → (foreign n w ≡ false) × Known n ws
    go true t m r = absurd (omega arith)
    go false t m r = (t, r (omega arith))

beyond : (k n : ℕ) (b : Bool) → ltb k n ≡ b → cond b (Some k) None ≡ None → n ≤ k
beyond k n true t e = absurd (cc)
beyond k n false t e = ltb-false k n t

none_unknown : (n : ℕ) (ws : List Word) → unknown n ws ≡ None → Known n ws
none_unknown n ws e =
    all_known n ws (beyond (position_or_len (foreign n) ws) (length ws) (ltb (position_or_len (foreign n) ws) (length ws)) refl e)

known_front : (n : ℕ) (ws vs : List Word) → Known n (ws ++ vs) → Known n ws
known_front n [] vs h = tt
known_front n (w ∷ ws) vs h = (h.0, known_front n ws vs h.1)

known_back : (n : ℕ) (ws vs : List Word) → Known n (ws ++ vs) → Known n vs
known_back n [] vs h = h
known_back n (w ∷ ws) vs h = known_back n ws vs h.1

-- The signals and the open readings of what a sign makes are those of its operands.
one_signal : (p : ℕ) (u : Unary) (f : Formula) → Part (signal p) (one u f) → Part (signal p) f
one_signal p Not f (inl e) = absurd (cc)
one_signal p Not f (inr k) = k
one_signal p Next f (inl e) = absurd (cc)
one_signal p Next f (inr k) = k
one_signal p Finally f (inl e) = absurd (cc)
one_signal p Finally f (inr k) = k
one_signal p Globally f (inl e) = absurd (cc)
one_signal p Globally f (inr k) = k

connect_signal : (p : ℕ) (o : Connective) (f g : Formula) → Part (signal p) (connect o f g) → Part (signal p) f ⊎ Part (signal p) g
connect_signal p Implies f g (inl e) = absurd (cc)
connect_signal p Implies f g (inr (inl k)) = inl (one_signal p Not f k)
connect_signal p Implies f g (inr (inr k)) = inr k
connect_signal p Or f g (inl e) = absurd (cc)
connect_signal p Or f g (inr k) = k
connect_signal p And f g (inl e) = absurd (cc)
connect_signal p And f g (inr k) = k
connect_signal p Until f g (inl e) = absurd (cc)
connect_signal p Until f g (inr k) = k

one_closed : (u : Unary) (f : Formula) → Closed f → Closed (one u f)
one_closed Not f c = c
one_closed Next f c = c
one_closed Finally f c = c
one_closed Globally f c = c

either_closed : (f g : Formula) → Closed f → Closed g → (p e : ℕ) → OpenIn p e f ⊎ OpenIn p e g → ⊥
either_closed f g c d p e (inl k) = c p e k
either_closed f g c d p e (inr k) = d p e k

connect_closed : (o : Connective) (f g : Formula) → Closed f → Closed g → Closed (connect o f g)
connect_closed Implies f g c d = either_closed f g c d
connect_closed Or f g c d = either_closed f g c d
connect_closed And f g c d = either_closed f g c d
connect_closed Until f g c d = either_closed f g c d

names : {m : ℕ} {ws : List Word} {f : Formula} → Reads m ws f → (n : ℕ) → Known n ws → (p : ℕ) → Part (signal p) f → p < n
names (alone (Const b)) n h p k = absurd (cc)
names (alone (Signal q)) n h p k = let e : p ≡ q = cc in let l = leb-false n q h.0 in omega arith
names (within {ws = ws} d) n h p k = names d n (known_front n ws (Close ∷ []) h.1) p k
names (sign u {f = f} d) n h p k = names d n h.1 p (one_signal p u f k)
names (between o {ws = ws} {vs = vs} {f = f} {g = g} d e) n h p k =
    elim (connect_signal p o f g k) [
      | inl j ↦ names d n (known_front n ws (Infix o ∷ vs) h) p j
      | inr j ↦ names e n (known_back n ws (Infix o ∷ vs) h).1 p j
    ]
names (tighter d) n h p k = names d n h p k

closed : {m : ℕ} {ws : List Word} {f : Formula} → Reads m ws f → Closed f
closed (alone (Const b)) = λ p e k. k
closed (alone (Signal q)) = λ p e k. k
closed (within d) = closed d
closed (sign u {f = f} d) = one_closed u f (closed d)
closed (between o {f = f} {g = g} d e) = connect_closed o f g (closed d) (closed e)
closed (tighter d) = closed d

pub known_means : KnownMeans
known_means n ws f u d = (
  λ p e k. let l = (shortened_is_owed f (closed d)).before p e k in omega arith,
  λ p k. names d n (none_unknown n ws u) p (shorten_bare p f k),
)
