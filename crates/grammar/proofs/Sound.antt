-- What the machine makes, the grammar gives.
use Rattle.std.proofs.Common.{◌≡◌, ℕ, zero, suc, ◌<◌, ◌≤◌, leb, List, [], ◌∷◌, ◌++◌, Some, sym, refl, ap, ◌∙◌, subst, inl, inr, append_assoc, arith}
use Rattle.std.proofs.lemmas.List.{append-nil}
use Rattle.std.proofs.lemmas.Bool.{leb-true, leb-false, cond_both, cases_order}
use Rattle.words.specs.declared.word.Word.{Word}
use Rattle.words.specs.declared.word.Word.TheVariants.{Atom, Prefix, Infix, Open, Close, Stray}
use Rattle.temporal.specs.Formula.{Formula}
use Rattle.parts.specs.Places.{one}
use Rattle.grammar.specs.Grammar.{connect, level, Reads, alone, within, sign, between, tighter}
use Rattle.grammar.specs.Machine.{raw, Held, opened, signed, halfway, State, want, have, stuck, reduce, closing, step, run, ended, ending, meant}
use Rattle.grammar.proofs.Complete.{Fits, level_small}

pub loosen : (m b : ℕ) {ws : List Word} {f : Formula} → b ≤ m → Reads m ws f → Reads b ws f
loosen zero b {ws} {f} h d = let e : zero ≡ b = omega arith in subst (λ n. Reads n ws f) e d
loosen (suc m) b {ws} {f} h d =
    elim (cases_order b (suc m)) [
      | inl e ↦ subst (λ n. Reads n ws f) (sym e) d
      | inr s ↦ elim s [ inl l ↦ loosen m b (omega arith) (tighter d) | inr l ↦ loosen m b (omega arith) (tighter d) ]
    ]

-- The words p were read, and s waits.
abbrev pub Waits : List Held → List Word → Type 0
Waits [] p = p ≡ []
Waits (opened ∷ s) p = (q : List Word) × (p ≡ q ++ (Open ∷ [])) × Waits s q
Waits (signed x ∷ s) p = (q : List Word) × (p ≡ q ++ (Prefix x ∷ [])) × Waits s q
Waits (halfway o g ∷ s) p =
    (q : List Word) × (ws : List Word) × (p ≡ q ++ (ws ++ (Infix o ∷ []))) × Reads (suc (level o)) ws g × Fits (level o) s × Waits s q

-- The words p were read, s waits, and behind it a formula of level b was read.
abbrev pub Behind : ℕ → List Held → Formula → List Word → Type 0
Behind b s f p = (q : List Word) × (ws : List Word) × (p ≡ q ++ ws) × Reads b ws f × Waits s q

-- What waits last is looser than b.
abbrev pub Under : ℕ → List Held → Type 0
Under b [] = Unit {0}
Under b (opened ∷ s) = Unit {0}
Under b (signed p ∷ s) = ⊥
Under b (halfway o g ∷ s) = level o < b

abbrev Reduced : ℕ → List Word → Formula × List Held → Type 0
Reduced b p r = Behind b r.1 r.0 p × Under b r.1

pub fits_tight : (n : ℕ) (s : List Held) → 4 ≤ n → Fits n s
fits_tight n [] h = tt
fits_tight n (opened ∷ s) h = tt
fits_tight n (signed p ∷ s) h = h
fits_tight n (halfway o g ∷ s) h = let k = level_small o in omega arith

fits_under : (n : ℕ) (s : List Held) → Under (suc n) s → Fits n s
fits_under n [] h = tt
fits_under n (opened ∷ s) h = tt
fits_under n (signed p ∷ s) h = elim h [ ]
fits_under n (halfway o g ∷ s) h = omega arith

pub reduced : (b : ℕ) (f : Formula) (s : List Held) (m : ℕ) (q ws : List Word) → b ≤ m → b ≤ 4 → Reads m ws f → Fits m s → Waits s q → Reduced b (q ++ ws) (reduce raw b f s)
reduced b f [] m q ws h k d c w = ((q, ws, refl, loosen m b h d, w), tt)
reduced b f (opened ∷ s) m q ws h k d c w = ((q, ws, refl, loosen m b h d, w), tt)
reduced b f (signed p ∷ s) m q ws h k d c w =
    let e : w.0 ++ (Prefix p ∷ ws) ≡ q ++ ws = sym (ap (λ z. z ++ ws) w.1 ∙ append_assoc w.0 (Prefix p ∷ []) ws) in
    subst (λ z. Reduced b z (reduce raw b (one p f) s)) e
    (reduced b (one p f) s 4 w.0 (Prefix p ∷ ws) k k (sign p (loosen m 4 c d)) (fits_tight 4 s (omega arith)) w.2)
reduced b f (halfway o g ∷ s) m q ws h k d c w =
    let us : List Word = w.1 in
    let e : w.0 ++ (us ++ (Infix o ∷ ws)) ≡ q ++ ws =
    sym (ap (λ z. z ++ ws) w.2 ∙ append_assoc w.0 (us ++ (Infix o ∷ [])) ws ∙ ap (λ z. w.0 ++ z) (append_assoc us (Infix o ∷ []) ws)) in
    let next = reduced b (connect o g f) s (level o) w.0 (us ++ (Infix o ∷ ws)) in
    cond_both (leb b (level o)) (reduce raw b (connect o g f) s) (f, halfway o g ∷ s) (Reduced b (q ++ ws))
    (λ t. subst (λ z. Reduced b z (reduce raw b (connect o g f) s)) e (next (leb-true b (level o) t) k (between o w.3 (loosen m (level o) c d)) w.4 w.5))
    (λ t. ((q, ws, refl, loosen m b h d, w), leb-false b (level o) t))

-- What holds of the words read so far.
abbrev pub Sound : State → List Word → Type 0
Sound (want s) p = Waits s p
Sound (have s f) p = Behind 5 s f p
Sound stuck p = Unit {0}

sound_closing : (f : Formula) (s : List Held) (p : List Word) → Behind 0 s f p → Sound (closing f s) (p ++ (Close ∷ []))
sound_closing f [] p h = tt
sound_closing f (opened ∷ s) p h =
    let q : List Word = h.4.0 in
    let ws : List Word = h.1 in
    let e : p ++ (Close ∷ []) ≡ q ++ (Open ∷ (ws ++ (Close ∷ []))) =
    ap (λ z. z ++ (Close ∷ [])) (h.2 ∙ ap (λ z. z ++ ws) h.4.1 ∙ append_assoc q (Open ∷ []) ws) ∙ append_assoc q (Open ∷ ws) (Close ∷ []) in
    (q, Open ∷ (ws ++ (Close ∷ [])), e, within h.3, h.4.2)
sound_closing f (signed p ∷ s) q h = tt
sound_closing f (halfway o g ∷ s) p h = tt

pub sound_step : (st : State) (w : Word) (p : List Word) → Sound st p → Sound (step raw st w) (p ++ (w ∷ []))
sound_step stuck w p h = tt
sound_step (want s) (Atom a) p h = (p, Atom a ∷ [], refl, alone a, h)
sound_step (want s) (Prefix x) p h = (p, refl, h)
sound_step (want s) (Infix o) p h = tt
sound_step (want s) Open p h = (p, refl, h)
sound_step (want s) Close p h = tt
sound_step (want s) Stray p h = tt
sound_step (have s f) (Atom a) p h = tt
sound_step (have s f) (Prefix x) p h = tt
sound_step (have s f) (Infix o) p h =
    let l = level_small o in
    let r = reduced (suc (level o)) f s 5 h.0 h.1 (omega arith) (omega arith) h.3 (fits_tight 5 s (omega arith)) h.4 in
    let b = r.0 in
    let e : p ++ (Infix o ∷ []) ≡ b.0 ++ (b.1 ++ (Infix o ∷ [])) = ap (λ z. z ++ (Infix o ∷ [])) (h.2 ∙ b.2) ∙ append_assoc b.0 b.1 (Infix o ∷ []) in
    (b.0, b.1, e, b.3, fits_under (level o) (reduce raw (suc (level o)) f s).1 r.1, b.4)
sound_step (have s f) Open p h = tt
sound_step (have s f) Stray p h = tt
sound_step (have s f) Close p h =
    let r = reduced 0 f s 5 h.0 h.1 (omega arith) (omega arith) h.3 (fits_tight 5 s (omega arith)) h.4 in
    let b = r.0 in
    sound_closing (reduce raw 0 f s).0 (reduce raw 0 f s).1 p (b.0, b.1, h.2 ∙ b.2, b.3, b.4)

pub sound_run : (ws : List Word) (st : State) (p : List Word) → Sound st p → Sound (run raw st ws) (p ++ ws)
sound_run [] st p h = subst (λ z. Sound st z) (sym (append-nil p)) h
sound_run (w ∷ ws) st p h = subst (λ z. Sound (run raw (step raw st w) ws) z) (append_assoc p (w ∷ []) ws) (sound_run ws (step raw st w) (p ++ (w ∷ [])) (sound_step st w p h))

sound_ended : (f t : Formula) (s : List Held) (p : List Word) → Behind 0 s f p → ended f s ≡ Some t → Reads 0 p t
sound_ended f t [] p h e =
    let i : f ≡ t = cc in
    let k : h.1 ≡ p = sym (h.2 ∙ ap (λ z. z ++ h.1) h.4) in
    subst (λ z. Reads 0 z t) k (subst (λ z. Reads 0 h.1 z) i h.3)
sound_ended f t (x ∷ s) p h e = absurd (cc)

sound_ending : (st : State) (t : Formula) (p : List Word) → Sound st p → ending raw st ≡ Some t → Reads 0 p t
sound_ending (want s) t p h e = absurd (cc)
sound_ending stuck t p h e = absurd (cc)
sound_ending (have s f) t p h e =
    let r = reduced 0 f s 5 h.0 h.1 (omega arith) (omega arith) h.3 (fits_tight 5 s (omega arith)) h.4 in
    let b = r.0 in
    sound_ended (reduce raw 0 f s).0 t (reduce raw 0 f s).1 p (b.0, b.1, h.2 ∙ b.2, b.3, b.4) e

pub sound_all : (ws : List Word) (t : Formula) → meant raw (want []) ws ≡ Some t → Reads 0 ws t
sound_all ws t e = sound_ending (run raw (want []) ws) t ws (sound_run ws (want []) [] refl) e
