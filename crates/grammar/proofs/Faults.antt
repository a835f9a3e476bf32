-- The scan finds the first word at fault.
use Rattle.std.proofs.Common.{◌≡◌, ℕ, suc, ◌+◌, ◌<◌, true, ◌⊎◌, List, [], ◌∷◌, ◌++◌, length, get_or, take, drop, Some, None, Option, sym, refl, ap, ◌∙◌, subst, inl, inr, append_assoc, arith, take-append-drop}
use Rattle.std.proofs.lemmas.List.{take_all, take-take}
use Rattle.std.proofs.lemmas.Bool.{cases_order, cases_lt}
use Rattle.temporal.specs.Formula.{Formula}
use Rattle.temporal.specs.Formula.Formula.{const}
use Rattle.parts.specs.Places.{one}
use Rattle.words.specs.declared.word.Leaf.TheVariants.{Const}
use Rattle.words.specs.declared.word.Word.{Word}
use Rattle.words.specs.declared.word.Word.TheVariants.{Atom, Close, Stray}
use Rattle.grammar.specs.Grammar.{connect, Reads}
use Rattle.grammar.specs.Faults.{Misplaced}
use Rattle.grammar.specs.Scan.{misplaced}
use Rattle.grammar.specs.Machine.{raw, Held, opened, signed, halfway, State, want, have, stuck, step, run, ending, meant}
use Rattle.grammar.specs.Laws.{MisplacedMeans}
use Rattle.grammar.proofs.Complete.{Closes, takes_join, takes_sign, complete_all}
use Rattle.grammar.proofs.Sound.{sound_all}
use Rattle.grammar.proofs.Scanned.{run_stuck, run_append, run_more, misplaced_word, misplaced_end, well_placed}

-- A bracket for each that is open.
closers : List Held → List Word
closers [] = []
closers (opened ∷ s) = Close ∷ closers s
closers (signed u ∷ s) = closers s
closers (halfway o g ∷ s) = closers s

closers_close : (n : ℕ) (s : List Held) → Closes n (closers s)
unfolding closers
closers_close n [] = tt
closers_close n (opened ∷ s) = tt
closers_close n (signed u ∷ s) = closers_close n s
closers_close n (halfway o g ∷ s) = closers_close n s

closers_end : (s : List Held) (f : Formula) → (t : Formula) × (meant raw (have s f) (closers s) ≡ Some t)
unfolding closers
closers_end [] f = (f, refl)
closers_end (opened ∷ s) f = closers_end s f
closers_end (signed u ∷ s) f = let k = closers_end s (one u f) in (k.0, takes_sign u f s (closers s) ∙ k.1)
closers_end (halfway o g ∷ s) f =
    let k = closers_end s (connect o g f) in (k.0, takes_join o g f s (closers s) (closers_close _ s) ∙ k.1)

-- Where the machine is not stuck, some rule goes on,
goes_on : (st : State) → (st ≡ stuck → ⊥) → (r : List Word) × (t : Formula) × (meant raw st r ≡ Some t)
goes_on (want s) h = let k = closers_end s (const true) in (Atom (Const true) ∷ closers s, k.0, k.1)
goes_on (have s f) h = let k = closers_end s f in (closers s, k.0, k.1)
goes_on stuck h = absurd (h refl)

rule_goes_on : (vs : List Word) → (run raw (want []) vs ≡ stuck → ⊥) → (r : List Word) × (f : Formula) × Reads 0 (vs ++ r) f
rule_goes_on vs h =
    let k = goes_on (run raw (want []) vs) h in
    (k.0, k.1, sound_all (vs ++ k.0) k.1 (ap (ending raw) (run_append raw (want []) vs k.0) ∙ k.2))

-- and where it makes nothing, nothing is read.
none_reads : (ws : List Word) (f : Formula) → meant raw (want []) ws ≡ None → Reads 0 ws f → ⊥
none_reads ws f e d = let k = complete_all d in cc

fault_at_word : (ws : List Word) (k : ℕ) → k < length ws → (run raw (want []) (take k ws) ≡ stuck → ⊥)
    → step raw (run raw (want []) (take k ws)) (get_or ws k Stray) ≡ stuck → Misplaced ws k
fault_at_word ws k l h e =
    let gone : (r : List Word) → run raw (want []) (take (k + 1) ws ++ r) ≡ stuck =
    λ r. run_append raw (want []) (take (k + 1) ws) r ∙ ap (λ z. run raw z r) (run_more raw (want []) ws k Stray l ∙ e) ∙ run_stuck raw r in
    record {
      inside = omega arith;
      before = rule_goes_on (take k ws) h;
      word = λ _ r f d. none_reads (take (k + 1) ws ++ r) f (ap (ending raw) (gone r)) d;
      end = λ n f d. absurd (omega arith);
    }

fault_at_end : (ws : List Word) → (run raw (want []) ws ≡ stuck → ⊥) → meant raw (want []) ws ≡ None → Misplaced ws (length ws)
fault_at_end ws h e =
    record {
      inside = omega arith;
      before = subst (λ vs. (r : List Word) × (f : Formula) × Reads 0 (vs ++ r) f) (sym (take_all (length ws) ws (omega arith))) (rule_goes_on ws h);
      word = λ l r f d. omega arith;
      end = λ _ f d. none_reads ws f e d;
    }

-- The machine is stuck at a first word, or at none.
abbrev StuckAt : State → List Word → ℕ → Type 0
StuckAt st ws i =
    (i < length ws) × (run raw st (take i ws) ≡ stuck → ⊥) × (step raw (run raw st (take i ws)) (get_or ws i Stray) ≡ stuck)

first_stuck : (st : State) (ws : List Word) → (st ≡ stuck → ⊥) → ((i : ℕ) × StuckAt st ws i) ⊎ (run raw st ws ≡ stuck → ⊥)
first_stuck st [] h = inr h
first_stuck st (w ∷ ws) h = go (first_stuck (step raw st w) ws) (step raw st w) refl
  where
    on : ((i : ℕ) × StuckAt (step raw st w) ws i) ⊎ (run raw (step raw st w) ws ≡ stuck → ⊥) → ((i : ℕ) × StuckAt st (w ∷ ws) i) ⊎ (run raw st (w ∷ ws) ≡ stuck → ⊥)
    on r = elim r [
      | inl k ↦ inl (suc k.0, (let l = k.1.0 in omega arith, k.1.1, k.1.2))
      | inr g ↦ inr g
    ]

    go : ((step raw st w ≡ stuck → ⊥) → ((i : ℕ) × StuckAt (step raw st w) ws i) ⊎ (run raw (step raw st w) ws ≡ stuck → ⊥))
        → (q : State) → step raw st w ≡ q → ((i : ℕ) × StuckAt st (w ∷ ws) i) ⊎ (run raw st (w ∷ ws) ≡ stuck → ⊥)
    go r stuck e = inl (0, (omega arith, h, e))
    go r (want s) e = on (r (λ n. cc))
    go r (have s f) e = on (r (λ n. cc))

-- Words are a rule, or one of them is the first at fault; the scan says which.
abbrev Judged : List Word → Type 0
Judged ws =
    ((f : Formula) × (misplaced ws ≡ None) × Reads 0 ws f) ⊎ ((k : ℕ) × (misplaced ws ≡ Some k) × Misplaced ws k)

judged : (ws : List Word) → Judged ws
judged ws =
    elim (first_stuck (want []) ws (λ e. cc)) [
      | inl k ↦ inr (at_word k.0 k.1)
      | inr h ↦ at_end h (ending raw (run raw (want []) ws)) refl
    ]
  where
    at_word : (i : ℕ) → StuckAt (want []) ws i → (k : ℕ) × (misplaced ws ≡ Some k) × Misplaced ws k
    at_word i s =
        (i, misplaced_word raw ws i (run raw (want []) (take i ws)) refl s.1 Stray s.0 s.2, fault_at_word ws i s.0 s.1 s.2)

    all : run raw (want []) ws ≡ run raw (want []) (take (length ws) ws)
    all = ap (run raw (want [])) (sym (take_all (length ws) ws (omega arith)))

    at_end : (run raw (want []) ws ≡ stuck → ⊥) → (o : Option Formula) → meant raw (want []) ws ≡ o → Judged ws
    at_end h None e = inr (length ws, misplaced_end raw ws (length ws) (run raw (want []) ws) all h refl e, fault_at_end ws h e)
    at_end h (Some t) e = inl (t, well_placed raw ws (length ws) (run raw (want []) ws) all h refl t e, sound_all ws t e)

-- A rule has no word at fault,
rule_faultless : (ws : List Word) (k : ℕ) (f : Formula) → Misplaced ws k → Reads 0 ws f → ⊥
rule_faultless ws k f m d =
    elim (cases_lt k (length ws)) [
      | inl l ↦ m.word l (drop (k + 1) ws) f (subst (λ z. Reads 0 z f) (sym (take-append-drop (k + 1) ws)) d)
      | inr l ↦ m.end (let i = m.inside in omega arith) f d
    ]

-- and no words have two that are the first.
not_before : (ws : List Word) (j k : ℕ) → Misplaced ws j → Misplaced ws k → j < k → ⊥
not_before ws j k m n l =
    let b = n.before in
    let e : take k ws ++ b.0 ≡ take (j + 1) ws ++ (drop (j + 1) (take k ws) ++ b.0) =
    ap (λ z. z ++ b.0) (sym (take-append-drop (j + 1) (take k ws)) ∙ ap (λ z. z ++ drop (j + 1) (take k ws)) (take-take (j + 1) k ws (omega arith)))
    ∙ append_assoc (take (j + 1) ws) (drop (j + 1) (take k ws)) b.0 in
    m.word (let i = n.inside in omega arith) (drop (j + 1) (take k ws) ++ b.0) b.1 (subst (λ z. Reads 0 z b.1) e b.2)

first_is_one : (ws : List Word) (j k : ℕ) → Misplaced ws j → Misplaced ws k → j ≡ k
first_is_one ws j k m n =
    elim (cases_order j k) [
      | inl e ↦ e
      | inr s ↦ elim s [ inl l ↦ absurd (not_before ws j k m n l) | inr l ↦ absurd (not_before ws k j n m l) ]
    ]

pub misplaced_means : MisplacedMeans
misplaced_means ws = go (judged ws)
  where
    go : Judged ws → ((misplaced ws ≡ None → (f : Formula) × Reads 0 ws f) × ((f : Formula) × Reads 0 ws f → misplaced ws ≡ None))
        × ((k : ℕ) → (misplaced ws ≡ Some k → Misplaced ws k) × (Misplaced ws k → misplaced ws ≡ Some k))
    go (inl y) = (
      (λ e. (y.0, y.2), λ r. y.1),
      λ k. (λ e. absurd (let i = y.1 in cc), λ m. absurd (rule_faultless ws k y.0 m y.2)),
    )
    go (inr y) = (
      (λ e. absurd (let i = y.1 in cc), λ r. absurd (rule_faultless ws y.0 r.0 y.2 r.1)),
      λ k. (λ e. let i : y.0 ≡ k = (let j = y.1 in cc) in subst (Misplaced ws) i y.2, λ m. y.1 ∙ ap Some (first_is_one ws y.0 k y.2 m)),
    )
