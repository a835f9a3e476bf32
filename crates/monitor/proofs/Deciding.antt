-- When a monitor decides.
use Rattle.std.proofs.Common.{◌≡◌, ℕ, zero, suc, ◌+◌, ◌<◌, ◌≤◌, Bool, true, false, List, [], ◌∷◌, map, length, take, Some, None, Option, sym, refl, ap, ◌∙◌, subst, inl, inr, arith}
use mathlib.Core.Bool.{false≢true}
use Rattle.temporal.specs.Formula.{Formula}
use Rattle.temporal.specs.Formula.Formula.{const, signal, reading, neg, join, next, finally, globally, until}
use Rattle.temporal.specs.Progress.{step, reads, through}
use Rattle.temporal.proofs.Meaning.{verdict_of_every_run}
use Rattle.monitor.specs.declared.verdict.Verdict.TheVariants.{False, True}
use Rattle.monitor.specs.Verdicts.{as_verdict}
use Rattle.compact.specs.Compacts.{constant}
use Rattle.monitor.specs.Monitoring.{State, bit, decide, fresh, progressed, stepped, step_hold, unless, calls, with_accepted, accepted, verdict_of, DecidedAt, After, MonitorDecides}

some≢none : {A : Type 0} {x : A} → Some x ≡ None → ⊥
some≢none e = let z : true ≡ false = cc in false≢true (sym z)

constant_some : (f : Formula) (b : Bool) → constant f ≡ Some b → f ≡ const b
constant_some (const c) b e = let q : c ≡ b = cc in ap const q
constant_some (signal p) b e = absurd (some≢none (sym e))
constant_some (reading p s) b e = absurd (some≢none (sym e))
constant_some (neg f) b e = absurd (some≢none (sym e))
constant_some (join o f g) b e = absurd (some≢none (sym e))
constant_some (next f) b e = absurd (some≢none (sym e))
constant_some (finally f) b e = absurd (some≢none (sym e))
constant_some (globally f) b e = absurd (some≢none (sym e))
constant_some (until f g) b e = absurd (some≢none (sym e))

-- A verdict is that of a constant.
says : (o : Option Bool) (b : Bool) → as_verdict o ≡ as_verdict (Some b) → o ≡ Some b
says (Some true) true e = refl
says (Some true) false e = absurd (cc)
says (Some false) true e = absurd (cc)
says (Some false) false e = refl
says None true e = absurd (cc)
says None false e = absurd (cc)

says_true : (f : Formula) → verdict_of f ≡ True → f ≡ const true
says_true f e = constant_some f true (says (constant f) true e)

says_false : (f : Formula) → verdict_of f ≡ False → f ≡ const false
says_false f e = constant_some f false (says (constant f) false e)

constant_none : (f : Formula) → constant f ≡ None → (b : Bool) → f ≡ const b → ⊥
constant_none f e b q = some≢none (sym (ap constant q) ∙ e)

-- Steps alone.
abbrev run : State → List ℕ → State
run s [] = s
run s (w ∷ ws) = run (stepped s w) ws

run_obligation : (s : State) (ws : List ℕ) → (run s ws).obligation ≡ through (map bit ws) s.obligation
run_obligation s [] = refl
run_obligation s (w ∷ ws) = run_obligation (stepped s w) ws

run_next : (s : State) (ws : List ℕ) → (run s ws).next ≡ s.next + length ws
run_next s [] = omega arith
run_next s (w ∷ ws) = let h = run_next (stepped s w) ws in omega arith

-- A deciding tick stays.
stays : (s : State) (ws : List ℕ) (t : ℕ) → s.decided ≡ Some t → (run s ws).decided ≡ Some t
stays s [] t e = e
stays s (w ∷ ws) t e = stays (stepped s w) ws t (ap (λ d. decide d (constant (progressed s w)) s.next) e)

-- The first of the steps that makes the obligation constant.
abbrev First : State → List ℕ → ℕ → Type 0
First s ws t =
    (i : ℕ) × (t ≡ s.next + i) × (i < length ws)
    × ((b : Bool) × (through (map bit (take (suc i) ws)) s.obligation ≡ const b))
    × ((j : ℕ) → j ≤ i → (b : Bool) → through (map bit (take j ws)) s.obligation ≡ const b → ⊥)

none_before : (s : State) (w : ℕ) (ws : List ℕ) (i : ℕ) → ((b : Bool) → s.obligation ≡ const b → ⊥)
    → ((j : ℕ) → j ≤ i → (b : Bool) → through (map bit (take j ws)) (progressed s w) ≡ const b → ⊥)
    → (j : ℕ) → j ≤ suc i → (b : Bool) → through (map bit (take j (w ∷ ws))) s.obligation ≡ const b → ⊥
none_before s w ws i n h zero l = n
none_before s w ws i n h (suc j) l = h j (omega arith)

first : (s : State) (ws : List ℕ) (t : ℕ) → s.decided ≡ None → ((b : Bool) → s.obligation ≡ const b → ⊥)
    → (run s ws).decided ≡ Some t → First s ws t
first s [] t e n r = absurd (some≢none (sym r ∙ e))
first s (w ∷ ws) t e n r = go (constant (progressed s w)) refl (first (stepped s w) ws t)
  where
    made : (o : Option Bool) → constant (progressed s w) ≡ o → (stepped s w).decided ≡ decide None o s.next
    made o q = ap (λ d. decide d (constant (progressed s w)) s.next) e ∙ ap (λ z. decide None z s.next) q

    go : (o : Option Bool) → constant (progressed s w) ≡ o
        → ((stepped s w).decided ≡ None → ((b : Bool) → progressed s w ≡ const b → ⊥) → (run (stepped s w) ws).decided ≡ Some t → First (stepped s w) ws t)
        → First s (w ∷ ws) t
    go (Some b) q rest =
        let k : Some s.next ≡ Some t = sym (stays (stepped s w) ws s.next (made (Some b) q)) ∙ r in
        let l : s.next ≡ t = cc in (
          0,
          omega arith,
          omega arith,
          (b, constant_some (progressed s w) b q),
          none_now,
        )
      where
        none_now : (j : ℕ) → j ≤ 0 → (c : Bool) → through (map bit (take j (w ∷ ws))) s.obligation ≡ const c → ⊥
        none_now zero h = n
        none_now (suc j) h = absurd (omega arith)
    go None q rest =
        let f = rest (made None q) (constant_none (progressed s w) q) r in
        let l = f.1 in
        let m = f.2 in
        (suc f.0, omega arith, omega arith, f.3, none_before s w ws f.0 n f.4)

never : (s : State) (ws : List ℕ) → s.decided ≡ None → ((b : Bool) → s.obligation ≡ const b → ⊥)
    → (run s ws).decided ≡ None → (b : Bool) → through (map bit ws) s.obligation ≡ const b → ⊥
never s [] e n r = n
never s (w ∷ ws) e n r = go (constant (progressed s w)) refl (never (stepped s w) ws)
  where
    made : (o : Option Bool) → constant (progressed s w) ≡ o → (stepped s w).decided ≡ decide None o s.next
    made o q = ap (λ d. decide d (constant (progressed s w)) s.next) e ∙ ap (λ z. decide None z s.next) q

    go : (o : Option Bool) → constant (progressed s w) ≡ o
        → ((stepped s w).decided ≡ None → ((b : Bool) → progressed s w ≡ const b → ⊥) → (run (stepped s w) ws).decided ≡ None
        → (b : Bool) → through (map bit ws) (progressed s w) ≡ const b → ⊥)
        → (b : Bool) → through (map bit ws) (progressed s w) ≡ const b → ⊥
    go (Some c) q rest = absurd (some≢none (sym (stays (stepped s w) ws s.next (made (Some c) q)) ∙ r))
    go None q rest = rest (made None q) (constant_none (progressed s w) q) r

run_signals : (s : State) (ws : List ℕ) → (run s ws).signals ≡ s.signals
run_signals s [] = refl
run_signals s (w ∷ ws) = run_signals (stepped s w) ws

run_rule : (s : State) (ws : List ℕ) → (run s ws).rule ≡ s.rule
run_rule s [] = refl
run_rule s (w ∷ ws) = run_rule (stepped s w) ws

-- Held steps leave no trace: calls are the steps of the accepted readings.
calls_run : (s : State) (ws : List ℕ) → calls s ws ≡ run s (accepted s ws)
calls_run s [] = refl
calls_run s (w ∷ ws) = go (step_hold s w) (λ t. calls_run t ws)
  where
    go : (o : Option ℕ) → ((t : State) → calls t ws ≡ run t (accepted t ws))
        → calls (unless o s (stepped s w)) ws ≡ run s (with_accepted o w (accepted (unless o s (stepped s w)) ws))
    go None rest = rest (stepped s w)
    go (Some n) rest = rest s

-- A constant stays.
through_const : (xs : List (ℕ → Bool)) (b : Bool) → through xs (const b) ≡ const b
through_const [] b = refl
through_const (x ∷ xs) b = through_const xs b

through_on : (ws : List ℕ) (k : ℕ) (f : Formula) (b : Bool) → through (map bit (take k ws)) f ≡ const b → through (map bit ws) f ≡ const b
through_on ws zero f b e = ap (through (map bit ws)) e ∙ through_const (map bit ws) b
through_on [] (suc k) f b e = e
through_on (w ∷ ws) (suc k) f b e = through_on ws k (step (reads (bit w)) f) b e

still : (rule : Formula) (ws : List ℕ) (t : ℕ) → DecidedAt rule ws t → (b : Bool) × (through (map bit ws) rule ≡ const b)
still rule ws t (inl w) = (w.0.0, ap (through (map bit ws)) w.0.1 ∙ through_const (map bit ws) w.0.0)
still rule ws t (inr w) = (w.1.0, through_on ws (suc t) rule w.1.0 w.1.1)

module _ (n : ℕ) (rule : Formula) (ws : List ℕ) where
  at_first : (t : ℕ) → (run (fresh n rule) ws).decided ≡ Some t → (o : Option Bool) → constant rule ≡ o → DecidedAt rule ws t
  at_first t e (Some b) q =
      let k : Some 0 ≡ Some t = sym (stays (fresh n rule) ws 0 (ap (λ z. decide None z 0) q)) ∙ e in
      let l : 0 ≡ t = cc in
      inl ((b, constant_some rule b q), sym l)
  at_first t e None q =
      let f = first (fresh n rule) ws t (ap (λ z. decide None z 0) q) (constant_none rule q) e in
      let l : t ≡ f.0 = let h = f.1 in omega arith in
      inr (subst (λ i. (i < length ws) × ((b : Bool) × (through (map bit (take (suc i) ws)) rule ≡ const b))
      × ((s : ℕ) → s ≤ i → (b : Bool) → through (map bit (take s ws)) rule ≡ const b → ⊥)) (sym l) (f.2, f.3, f.4))

  at_none : (run (fresh n rule) ws).decided ≡ None → (o : Option Bool) → constant rule ≡ o → (b : Bool) → through (map bit ws) rule ≡ const b → ⊥
  at_none e (Some c) q = absurd (some≢none (sym (stays (fresh n rule) ws 0 (ap (λ z. decide None z 0) q)) ∙ e))
  at_none e None q = never (fresh n rule) ws (ap (λ z. decide None z 0) q) (constant_none rule q) e

  after_run : After n rule ws (run (fresh n rule) ws)
  after_run = record {
    same_signals = run_signals (fresh n rule) ws;
    same_rule = run_rule (fresh n rule) ws;
    obligation_is = run_obligation (fresh n rule) ws;
    next_is = (let h = run_next (fresh n rule) ws in omega arith);
    decided_first = λ t e. at_first t e (constant rule) refl;
    decided_lasts = λ t e. (let w = still rule ws t (at_first t e (constant rule) refl) in (w.0, run_obligation (fresh n rule) ws ∙ w.1));
    undecided = λ e b q. at_none e (constant rule) refl b (sym (run_obligation (fresh n rule) ws) ∙ q);
    true_of_all = λ v. (verdict_of_every_run (map bit ws) rule).0 (sym (run_obligation (fresh n rule) ws) ∙ says_true (run (fresh n rule) ws).obligation v);
    false_of_all = λ v. (verdict_of_every_run (map bit ws) rule).1 (sym (run_obligation (fresh n rule) ws) ∙ says_false (run (fresh n rule) ws).obligation v);
  }

pub monitor_decides : MonitorDecides
monitor_decides n rule ws =
    subst (After n rule (accepted (fresh n rule) ws)) (sym (calls_run (fresh n rule) ws)) (after_run n rule (accepted (fresh n rule) ws))
