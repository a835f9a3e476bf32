-- The scan stops where the machine is stuck, with any constructors.
use Rattle.std.proofs.Common.{◌≡◌, ℕ, zero, suc, ◌+◌, ◌<◌, ◌≤◌, true, false, leb, List, [], ◌∷◌, ◌++◌, length, get_or, take, drop, Some, None, Option, sym, refl, ap, ◌∙◌, subst, arith}
use Rattle.std.proofs.lemmas.List.{at_drop_more, at_drop_all, take_more}
use Rattle.std.proofs.lemmas.Bool.{le-leb, cond-true, cond_both}
use Rattle.temporal.specs.Formula.{Formula}
use Rattle.words.specs.declared.word.Connective.{Connective}
use Rattle.words.specs.declared.word.Word.{Word}
use Rattle.words.specs.declared.word.Word.TheVariants.{Atom, Prefix, Infix, Open, Close, Stray}
use Rattle.grammar.specs.Grammar.{level}
use Rattle.grammar.specs.Scan.{scan, misplaced}
use Rattle.grammar.specs.Machine.{Signs, Held, opened, signed, halfway, State, want, have, stuck, closed, ended, reduce, step, run, ending}

-- How many brackets are open.
abbrev opens : List Held → ℕ
opens [] = 0
opens (opened ∷ s) = suc (opens s)
opens (signed u ∷ s) = opens s
opens (halfway o g ∷ s) = opens s

-- The scan from where the machine is.
abbrev scanned : State → ℕ → List Word → Option ℕ
scanned (want s) k ws = scan true (opens s) k ws
scanned (have s f) k ws = scan false (opens s) k ws
scanned stuck k ws = None

module _ (S : Signs) where
  -- What waits at level b or tighter takes its operand.
  pub reduce_left : (b : ℕ) (o : Connective) (g f : Formula) (s : List Held) → b ≤ level o → reduce S b f (halfway o g ∷ s) ≡ reduce S b (S.binary o g f) s
  reduce_left b o g f s h = cond-true (leb b (level o)) (reduce S b (S.binary o g f) s) (f, halfway o g ∷ s) (le-leb b (level o) h)

  opens_reduced : (b : ℕ) (f : Formula) (s : List Held) → opens (reduce S b f s).1 ≡ opens s
  opens_reduced b f [] = refl
  opens_reduced b f (opened ∷ s) = refl
  opens_reduced b f (signed u ∷ s) = opens_reduced b (S.unary u f) s
  opens_reduced b f (halfway o g ∷ s) =
      cond_both (leb b (level o)) (reduce S b (S.binary o g f) s) (f, halfway o g ∷ s) (λ p. opens p.1 ≡ opens s)
      (λ _. opens_reduced b (S.binary o g f) s) (λ _. refl)

  -- A closing bracket, and the end, after a formula.
  close_passes : (f : Formula) (s : List Held) (k : ℕ) (ws : List Word) → (closed (reduce S 0 f s) ≡ stuck → ⊥)
      → scan false (opens s) k (Close ∷ ws) ≡ scanned (closed (reduce S 0 f s)) (suc k) ws
  close_passes f [] k ws h = absurd (h refl)
  close_passes f (opened ∷ s) k ws h = refl
  close_passes f (signed u ∷ s) k ws h = close_passes (S.unary u f) s k ws h
  close_passes f (halfway o g ∷ s) k ws h =
      let e = reduce_left 0 o g f s (omega arith) in
      close_passes (S.binary o g f) s k ws (λ z. h (ap closed e ∙ z)) ∙ sym (ap (λ p. scanned (closed p) (suc k) ws) e)

  close_stops : (f : Formula) (s : List Held) (k : ℕ) (ws : List Word) → closed (reduce S 0 f s) ≡ stuck → scan false (opens s) k (Close ∷ ws) ≡ Some k
  close_stops f [] k ws h = refl
  close_stops f (opened ∷ s) k ws h = absurd (cc)
  close_stops f (signed u ∷ s) k ws h = close_stops (S.unary u f) s k ws h
  close_stops f (halfway o g ∷ s) k ws h =
      close_stops (S.binary o g f) s k ws (sym (ap closed (reduce_left 0 o g f s (omega arith))) ∙ h)

  -- What the scan says of the end, by what the machine makes.
  abbrev Said : ℕ → Option ℕ → Option Formula → Type 0
  Said k r None = r ≡ Some k
  Said k r (Some t) = r ≡ None

  end_said : (f : Formula) (s : List Held) (k : ℕ) → Said k (scan false (opens s) k []) (ended (reduce S 0 f s).0 (reduce S 0 f s).1)
  end_said f [] k = refl
  end_said f (opened ∷ s) k = refl
  end_said f (signed u ∷ s) k = end_said (S.unary u f) s k
  end_said f (halfway o g ∷ s) k =
      subst (λ p. Said k (scan false (opens s) k []) (ended p.0 p.1)) (sym (reduce_left 0 o g f s (omega arith))) (end_said (S.binary o g f) s k)

  ending_said : (st : State) (k : ℕ) → (st ≡ stuck → ⊥) → Said k (scanned st k []) (ending S st)
  ending_said (want s) k h = refl
  ending_said (have s f) k h = end_said f s k
  ending_said stuck k h = absurd (h refl)

  -- The scan passes a word where the machine goes on,
  word_passes : (st : State) (w : Word) (k : ℕ) (ws : List Word) → (step S st w ≡ stuck → ⊥) → scanned st k (w ∷ ws) ≡ scanned (step S st w) (suc k) ws
  word_passes stuck w k ws h = absurd (h refl)
  word_passes (want s) (Atom a) k ws h = refl
  word_passes (want s) (Prefix u) k ws h = refl
  word_passes (want s) (Infix o) k ws h = absurd (h refl)
  word_passes (want s) Open k ws h = refl
  word_passes (want s) Close k ws h = absurd (h refl)
  word_passes (want s) Stray k ws h = absurd (h refl)
  word_passes (have s f) (Atom a) k ws h = absurd (h refl)
  word_passes (have s f) (Prefix u) k ws h = absurd (h refl)
  word_passes (have s f) (Infix o) k ws h = ap (λ n. scan true n (suc k) ws) (sym (opens_reduced (suc (level o)) f s))
  word_passes (have s f) Open k ws h = absurd (h refl)
  word_passes (have s f) Close k ws h = close_passes f s k ws h
  word_passes (have s f) Stray k ws h = absurd (h refl)

  -- and stops where it is stuck.
  word_stops : (st : State) (w : Word) (k : ℕ) (ws : List Word) → (st ≡ stuck → ⊥) → step S st w ≡ stuck → scanned st k (w ∷ ws) ≡ Some k
  word_stops stuck w k ws n h = absurd (n refl)
  word_stops (want s) (Atom a) k ws n h = absurd (cc)
  word_stops (want s) (Prefix u) k ws n h = absurd (cc)
  word_stops (want s) (Infix o) k ws n h = refl
  word_stops (want s) Open k ws n h = absurd (cc)
  word_stops (want s) Close k ws n h = refl
  word_stops (want s) Stray k ws n h = refl
  word_stops (have s f) (Atom a) k ws n h = refl
  word_stops (have s f) (Prefix u) k ws n h = refl
  word_stops (have s f) (Infix o) k ws n h = absurd (cc)
  word_stops (have s f) Open k ws n h = refl
  word_stops (have s f) Close k ws n h = close_stops f s k ws h
  word_stops (have s f) Stray k ws n h = refl

  pub run_stuck : (ws : List Word) → run S stuck ws ≡ stuck
  run_stuck [] = refl
  run_stuck (w ∷ ws) = run_stuck ws

  pub run_append : (st : State) (vs ws : List Word) → run S st (vs ++ ws) ≡ run S (run S st vs) ws
  run_append st [] ws = refl
  run_append st (v ∷ vs) ws = run_append (step S st v) vs ws

  pub run_more : (st : State) (ws : List Word) (i : ℕ) (d : Word) → i < length ws → run S st (take (i + 1) ws) ≡ step S (run S st (take i ws)) (get_or ws i d)
  run_more st ws i d l = ap (run S st) (take_more ws i d l) ∙ run_append st (take i ws) (get_or ws i d ∷ [])

  -- The scan is where the machine is.
  scan_run : (st : State) (k i : ℕ) (ws : List Word) → i ≤ length ws → (run S st (take i ws) ≡ stuck → ⊥)
      → scanned st k ws ≡ scanned (run S st (take i ws)) (k + i) (drop i ws)
  scan_run st k zero ws l h = ap (λ n. scanned st n ws) (omega arith)
  scan_run st k (suc i) [] l h = absurd (omega arith)
  scan_run st k (suc i) (w ∷ ws) l h =
      word_passes st w k ws (λ e. h (ap (λ z. run S z (take i ws)) e ∙ run_stuck (take i ws)))
      ∙ scan_run (step S st w) (suc k) i ws (omega arith) h
      ∙ ap (λ n. scanned (run S (step S st w) (take i ws)) n (drop i ws)) (omega arith)

  -- For a machine at st that has read the words before k.
  module _ (ws : List Word) (k : ℕ) (st : State) (here : st ≡ run S (want []) (take k ws)) (goes : st ≡ stuck → ⊥) where
    scan_here : k ≤ length ws → misplaced ws ≡ scanned st k (drop k ws)
    scan_here l =
        scan_run (want []) 0 k ws l (λ e. goes (here ∙ e))
        ∙ ap (λ n. scanned (run S (want []) (take k ws)) n (drop k ws)) (omega arith) ∙ ap (λ z. scanned z k (drop k ws)) (sym here)

    pub misplaced_word : (d : Word) → k < length ws → step S st (get_or ws k d) ≡ stuck → misplaced ws ≡ Some k
    misplaced_word d l e =
        scan_here (omega arith) ∙ at_drop_more (scanned st k) ws k d l ∙ word_stops st (get_or ws k d) k (drop (k + 1) ws) goes e

    pub misplaced_end : k ≡ length ws → ending S st ≡ None → misplaced ws ≡ Some k
    misplaced_end l e =
        scan_here (omega arith) ∙ at_drop_all (scanned st k) ws k (omega arith) ∙ subst (Said k (scanned st k [])) e (ending_said st k goes)

    pub well_placed : k ≡ length ws → (t : Formula) → ending S st ≡ Some t → misplaced ws ≡ None
    well_placed l t e =
        scan_here (omega arith) ∙ at_drop_all (scanned st k) ws k (omega arith) ∙ subst (Said k (scanned st k [])) e (ending_said st k goes)
