-- A step of the global monitor.
use Rattle.std.proofs.Common.{◌≡◌, ℕ, ◌+◌, ◌^◌, ◌<◌, ◌≤◌, Bool, true, false, leb, List, length, get_or, Some, None, Option, sym, refl, ap, arith, le-ltb, lt-ltb}
use mathlib.Core.Bool.{false≢true}
use Rattle.temporal.specs.Formula.{Formula}
use Rattle.temporal.specs.Formula.Formula.{signal, reading}
use Rattle.temporal.specs.Progress.{step, reads}
use Rattle.temporal.specs.Parts.{parts}
use Rattle.temporal.proofs.Names.{Bare, bare_signal, step_bare, step_agree}
use Rattle.progression.specs.Readings.{assigned, reading_or}
use Rattle.compact.specs.Compacts.{constant}
use Rattle.rule.specs.Rules.{all_plain}
use Rattle.rule.proofs.Ruling.{plain_means, open_part, part_open}
use Rattle.monitor.specs.Monitoring.{State, bit, decide, progressed, stepped, step_hold}

-- The signals of a plain formula are all in the row, so a step by the row is the step by the whole reading.
pub same_step : (n t w : ℕ) (row : List (Option Bool)) (f : Formula) → n ≤ 32 → all_plain n (parts f) ≡ true
    → ((k : ℕ) → k < 32 → get_or row k None ≡ Some (bit w k)) → step (assigned t row) f ≡ step (reads (bit w)) f
same_step n t w row f few plain filled =
    step_agree (assigned t row) (reads (bit w)) f λ p k.
    let h = ((plain_means n f).0 plain).1 p k in
    ap (reading_or p t) (filled p (omega arith))

-- A step keeps a formula plain.
pub plain_kept : (n : ℕ) (a : ℕ → Bool) (f : Formula) → all_plain n (parts f) ≡ true → all_plain n (parts (step (reads a) f)) ≡ true
plain_kept n a f h =
    let w = (plain_means n f).0 h in
    (plain_means n (step (reads a) f)).1 (
      λ p e k. w.0 p e (part_open p e f (step_bare (reading p e) bare_reading a f (open_part p e (step (reads a) f) k))),
      λ p k. w.1 p (step_bare (signal p) bare_signal a f k),
    )
  where
    bare_reading : {p s : ℕ} → Bare (reading p s)
    bare_reading {p} {s} = record {
      no_const = λ b e. (let z : true ≡ false = cc in false≢true (sym z));
      no_neg = λ g e. (let z : true ≡ false = cc in false≢true (sym z));
      no_join = λ o g k e. (let z : true ≡ false = cc in false≢true (sym z));
    }

-- How a step is judged once the first two numbers do not fit.
module _ (s : State) (w : ℕ) (within : false ≡ leb (2 ^ s.signals) w) (soon : s.next ≤ 999999) where
  pub hold_parts : 256 < length (parts (progressed s w)) → step_hold s w ≡ Some 18
  hold_parts h = rw (sym within, le-ltb 999999 s.next soon, lt-ltb 256 (length (parts (progressed s w))) h) refl

  pub hold_none : length (parts (progressed s w)) ≤ 256 → step_hold s w ≡ None
  hold_none h = rw (sym within, le-ltb 999999 s.next soon, le-ltb 256 (length (parts (progressed s w))) h) refl

-- The state with another obligation.
abbrev pub with_obligation : State → Formula → State
with_obligation s f = record { signals = s.signals; rule = s.rule; obligation = f; next = s.next; decided = s.decided }

pub moved : (s : State) (w : ℕ) (f : Formula) (o : Option Bool) (d : Option ℕ) → f ≡ progressed s w → o ≡ constant f → d ≡ decide s.decided o s.next
    → ◌≡◌ {A = State} record { signals = s.signals; rule = s.rule; obligation = f; next = s.next + 1; decided = d } (stepped s w)
moved s w f o d e q r = rw (r, q, e) refl
