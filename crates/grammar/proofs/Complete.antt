-- Every formula that the grammar gives is what the machine makes, so the grammar gives one at most.
use Rattle.std.proofs.Common.{◌≡◌, ℕ, suc, ◌<◌, ◌≤◌, leb, List, [], ◌∷◌, ◌++◌, Some, sym, refl, ap, ◌∙◌, append_assoc, arith}
use Rattle.std.proofs.lemmas.List.{append-nil}
use Rattle.std.proofs.lemmas.Bool.{lt-leb, cond-false}
use Rattle.parts.specs.declared.part.Unary.{Unary}
use Rattle.words.specs.declared.word.Connective.{Connective}
use Rattle.words.specs.declared.word.Connective.TheVariants.{Implies, Or, And, Until}
use Rattle.words.specs.declared.word.Word.{Word}
use Rattle.words.specs.declared.word.Word.TheVariants.{Atom, Prefix, Infix, Open, Close, Stray}
use Rattle.temporal.specs.Formula.{Formula}
use Rattle.parts.specs.Places.{one}
use Rattle.grammar.specs.Grammar.{connect, level, Reads, alone, within, sign, between, tighter}
use Rattle.grammar.specs.Machine.{raw, Held, opened, signed, halfway, want, have, reduce, waits, closed, ended, meant}
use Rattle.grammar.proofs.Scanned.{reduce_left}

pub level_small : (o : Connective) → level o ≤ 3
level_small Implies = omega arith
level_small Or = omega arith
level_small And = omega arith
level_small Until = omega arith

-- A formula of level n may stand here: what waits last is no tighter.
abbrev pub Fits : ℕ → List Held → Type 0
Fits n [] = Unit {0}
Fits n (opened ∷ s) = Unit {0}
Fits n (signed p ∷ s) = 4 ≤ n
Fits n (halfway o g ∷ s) = level o ≤ n

-- A formula of level n is at its end here: the next word is looser.
abbrev pub Closes : ℕ → List Word → Type 0
Closes n [] = Unit {0}
Closes n (Atom a ∷ r) = ⊥
Closes n (Prefix p ∷ r) = ⊥
Closes n (Infix o ∷ r) = level o < n
Closes n (Open ∷ r) = ⊥
Closes n (Close ∷ r) = Unit {0}
Closes n (Stray ∷ r) = ⊥

pub fits_more : (n : ℕ) (s : List Held) → Fits n s → Fits (suc n) s
fits_more n [] h = tt
fits_more n (opened ∷ s) h = tt
fits_more n (signed p ∷ s) h = omega arith
fits_more n (halfway o g ∷ s) h = omega arith

pub closes_more : (n : ℕ) (r : List Word) → Closes n r → Closes (suc n) r
closes_more n [] h = tt
closes_more n (Atom a ∷ r) h = h
closes_more n (Prefix p ∷ r) h = h
closes_more n (Infix o ∷ r) h = omega arith
closes_more n (Open ∷ r) h = h
closes_more n (Close ∷ r) h = tt
closes_more n (Stray ∷ r) h = h

-- Where it fits, nothing takes its operand yet.
pub reduce_none : (o : Connective) (f : Formula) (s : List Held) → Fits (level o) s → reduce raw (suc (level o)) f s ≡ (f, s)
reduce_none o f [] h = refl
reduce_none o f (opened ∷ s) h = refl
reduce_none o f (signed p ∷ s) h = let k = level_small o in absurd (omega arith)
reduce_none o f (halfway p g ∷ s) h = cond-false (leb (suc (level o)) (level p)) (reduce raw (suc (level o)) (connect p g f) s) (f, halfway p g ∷ s) (lt-leb (suc (level o)) (level p) (omega arith))

-- Where the level ends, what waits there takes its operand.
pub takes_join : (o : Connective) (g f : Formula) (s : List Held) (r : List Word) → Closes (level o) r → meant raw (have (halfway o g ∷ s) f) r ≡ meant raw (have s (connect o g f)) r
takes_join o g f s [] h = ap (λ p. ended p.0 p.1) (reduce_left raw 0 o g f s (omega arith))
takes_join o g f s (Atom a ∷ r) h = refl
takes_join o g f s (Prefix p ∷ r) h = refl
takes_join o g f s (Infix p ∷ r) h = ap (λ q. meant raw (waits p q) r) (reduce_left raw (suc (level p)) o g f s (omega arith))
takes_join o g f s (Open ∷ r) h = refl
takes_join o g f s (Close ∷ r) h = ap (λ q. meant raw (closed q) r) (reduce_left raw 0 o g f s (omega arith))
takes_join o g f s (Stray ∷ r) h = refl

pub takes_sign : (p : Unary) (f : Formula) (s : List Held) (r : List Word) → meant raw (have (signed p ∷ s) f) r ≡ meant raw (have s (one p f)) r
takes_sign p f s [] = refl
takes_sign p f s (Atom a ∷ r) = refl
takes_sign p f s (Prefix q ∷ r) = refl
takes_sign p f s (Infix o ∷ r) = refl
takes_sign p f s (Open ∷ r) = refl
takes_sign p f s (Close ∷ r) = refl
takes_sign p f s (Stray ∷ r) = refl

-- The machine comes from before the words to behind their formula.
pub complete : {n : ℕ} {ws : List Word} {f : Formula} → Reads n ws f → (s : List Held) → Fits n s → (r : List Word) → Closes n r → meant raw (want s) (ws ++ r) ≡ meant raw (have s f) r
complete (alone a) s h r c = refl
complete (within {ws = ws} {f = f} d) s h r c =
    ap (λ z. meant raw (want (opened ∷ s)) z) (append_assoc ws (Close ∷ []) r) ∙ complete d (opened ∷ s) tt (Close ∷ r) tt
complete (sign p {f = f} d) s h r c =
    complete d (signed p ∷ s) (omega arith) r c ∙ takes_sign p f s r
complete (between o {ws = ws} {vs = vs} {f = f} {g = g} d e) s h r c =
    ap (λ z. meant raw (want s) z) (append_assoc ws (Infix o ∷ vs) r)
    ∙ complete d s (fits_more (level o) s h) (Infix o ∷ (vs ++ r)) (omega arith)
    ∙ ap (λ q. meant raw (waits o q) (vs ++ r)) (reduce_none o f s h)
    ∙ complete e (halfway o f ∷ s) (omega arith) r c
    ∙ takes_join o f g s r c
complete (tighter {n = n} d) s h r c = complete d s (fits_more n s h) r (closes_more n r c)

pub complete_all : {ws : List Word} {f : Formula} → Reads 0 ws f → meant raw (want []) ws ≡ Some f
complete_all {ws} d = ap (λ z. meant raw (want []) z) (sym (append-nil ws)) ∙ complete d [] tt [] tt

pub unique : {ws : List Word} {f g : Formula} → Reads 0 ws f → Reads 0 ws g → f ≡ g
unique d e = let p = complete_all d in let q = complete_all e in cc
