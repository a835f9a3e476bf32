-- The global monitor: what it knows, one step, and when a step is held back.
use Rattle.std.specs.Prelude.{◌≡◌, ℕ, suc, ◌+◌, ◌/◌, ◌%◌, ◌^◌, ◌<◌, ◌≤◌, Bool, ◌⊎◌, List, [], ◌∷◌, map, length, take, Some, None, Ok, Err, Option, Result, ◌==◌, ◌≢◌, nat_le, nat_lt}
use Rattle.temporal.specs.Formula.{Formula, Run, Holds}
use Rattle.temporal.specs.Laws.{Begins}
use Rattle.temporal.specs.Formula.Formula.{const}
use Rattle.temporal.specs.Progress.{step, reads, through}
use Rattle.temporal.specs.Parts.{parts}
use Rattle.holds.specs.Order.{first_fit}
use Rattle.compact.specs.Compacts.{constant}
use Rattle.monitor.specs.declared.verdict.Verdict.{Verdict}
use Rattle.monitor.specs.declared.verdict.Verdict.TheVariants.{False, True}
use Rattle.monitor.specs.declared.hold.Hold.{Hold}
use Rattle.monitor.specs.declared.hold.Hold.TheVariants.{Reading, Tick, Parts}
use Rattle.monitor.specs.Verdicts.{number, as_verdict}

-- The verdict of an obligation.
abbrev pub verdict_of : Formula → Verdict
verdict_of f = as_verdict (constant f)

-- Bit j of a whole reading: signal j is on.
abbrev pub bit : ℕ → ℕ → Bool
bit w j = (w / 2 ^ j) % 2 == 1

pub record State : Type 0 where
  pub signals : ℕ
  pub rule : Formula
  pub obligation : Formula
  pub next : ℕ
  -- the tick whose step first made the obligation constant, or 0 where the rule is so from the start
  pub decided : Option ℕ

-- The deciding tick, where o is the constant that the obligation is, if it is one, once the step of tick t was made.
abbrev pub decide : Option ℕ → Option Bool → ℕ → Option ℕ
decide (Some s) o t = Some s
decide None (Some b) t = Some t
decide None None t = None

abbrev pub fresh : ℕ → Formula → State
fresh n f = record { signals = n; rule = f; obligation = f; next = 0; decided = decide None (constant f) 0 }

-- One step by a whole reading.
abbrev pub progressed : State → ℕ → Formula
progressed s w = step (reads (bit w)) s.obligation

abbrev pub stepped : State → ℕ → State
stepped s w = record {
  signals = s.signals;
  rule = s.rule;
  obligation = progressed s w;
  next = s.next + 1;
  decided = decide s.decided (constant (progressed s w)) s.next;
}

-- Why a step is held back.
abbrev pub step_hold : State → ℕ → Option ℕ
step_hold s w =
    first_fit ((number Reading, nat_le (2 ^ s.signals) w) ∷ (number Tick, nat_lt 999999 s.next) ∷ (number Parts, nat_lt 256 (length (parts (progressed s w)))) ∷ [])

-- What a step answers, and what the monitor is after it.
abbrev pub Steps : {A : Type 0} → State → ℕ → State → Result A Hold → Type 0
Steps s w t (Ok u) = (step_hold s w ≡ None) × (t ≡ stepped s w)
Steps s w t (Err h) = (step_hold s w ≡ Some (number h)) × (t ≡ s)

-- A call: a step, or nothing where it is held back.
abbrev pub unless : Option ℕ → State → State → State
unless None s t = t
unless (Some n) s t = s

abbrev pub called : State → ℕ → State
called s w = unless (step_hold s w) s (stepped s w)

-- Many calls, and the readings among them that are accepted.
abbrev pub calls : State → List ℕ → State
calls s [] = s
calls s (w ∷ ws) = calls (called s w) ws

abbrev pub with_accepted : Option ℕ → ℕ → List ℕ → List ℕ
with_accepted None w ws = w ∷ ws
with_accepted (Some n) w ws = ws

abbrev pub accepted : State → List ℕ → List ℕ
accepted s [] = []
accepted s (w ∷ ws) = with_accepted (step_hold s w) w (accepted (called s w) ws)

-- The tick at which a rule is decided by whole readings: the one whose step first makes it constant, or 0 where it is so from the start.
abbrev pub DecidedAt : Formula → List ℕ → ℕ → Type 0
DecidedAt rule ws t =
    (((b : Bool) × (rule ≡ const b)) × (t ≡ 0))
    ⊎ ((t < length ws) × ((b : Bool) × (through (map bit (take (suc t) ws)) rule ≡ const b))
    × ((s : ℕ) → s ≤ t → (b : Bool) → through (map bit (take s ws)) rule ≢ const b))

-- What a monitor of a rule over n signals is once the readings ws are accepted.
pub record After (n : ℕ) (rule : Formula) (ws : List ℕ) (m : State) : Type 0 where
  pub same_signals : m.signals ≡ n
  pub same_rule : m.rule ≡ rule
  pub obligation_is : m.obligation ≡ through (map bit ws) rule
  pub next_is : m.next ≡ length ws
  pub decided_first : (t : ℕ) → m.decided ≡ Some t → DecidedAt rule ws t
  pub decided_lasts : (t : ℕ) → m.decided ≡ Some t → (b : Bool) × (m.obligation ≡ const b)
  pub undecided : m.decided ≡ None → (b : Bool) → m.obligation ≢ const b
  pub true_of_all : verdict_of m.obligation ≡ True → (r : Run) → Begins r 0 (map bit ws) → Holds r rule 0
  pub false_of_all : verdict_of m.obligation ≡ False → (r : Run) → Begins r 0 (map bit ws) → Holds r rule 0 → ⊥

-- After any calls, accepted or held back.
abbrev pub MonitorDecides : Type 0
MonitorDecides =
    (n : ℕ) (rule : Formula) (ws : List ℕ) → After n rule (accepted (fresh n rule) ws) (calls (fresh n rule) ws)
