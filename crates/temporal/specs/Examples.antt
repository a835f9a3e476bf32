-- The worked examples about rewriting.
use Rattle.std.specs.Prelude.{◌≡◌, ℕ, Bool, true, false, cond, List, ◌==◌}
use Rattle.temporal.specs.Formula.{Formula}
use Rattle.temporal.specs.Formula.Op.{and, or}
use Rattle.temporal.specs.Formula.Formula.{const, signal, neg, join, next, finally, globally, until}
use Rattle.temporal.specs.Shorten.{shorten}
use Rattle.temporal.specs.Progress.{step, reads, through}

-- The signals p = 0 and q = 1, and a reading that has p and q as given and every other signal off.
abbrev pub p : Formula
p = signal 0

abbrev pub q : Formula
q = signal 1

abbrev pub given : Bool → Bool → ℕ → Bool
given a b k = cond (k == 0) a (cond (k == 1) b false)

abbrev pub after : Bool → Bool → Formula → Formula
after a b f = step (reads (given a b)) f

-- What `F p` becomes with p off and on; `p U q` with p alone, with neither, and with q; `X p`; `G F p` with p off once
-- and twice; how `p & (p & q)` is read; that `p | !p` is no constant as it is read and becomes true at its first tick; and
-- that `G true` stays through any readings.
abbrev pub WorkedExamples : Type 0
WorkedExamples =
    ((b : Bool) → (after false b (finally p) ≡ finally p) × (after true b (finally p) ≡ const true))
    × (after true false (until p q) ≡ until p q)
    × (after false false (until p q) ≡ const false)
    × ((a : Bool) → after a true (until p q) ≡ const true)
    × ((a b : Bool) → after a b (next p) ≡ p)
    × ((b : Bool) → after false b (globally (finally p)) ≡ join and (finally p) (globally (finally p)))
    × ((b c : Bool) → after false c (after false b (globally (finally p))) ≡ join and (finally p) (globally (finally p)))
    × (shorten (join and p (join and p q)) ≡ join and p q)
    × (shorten (join or p (neg p)) ≡ join or p (neg p))
    × ((a b : Bool) → after a b (join or p (neg p)) ≡ const true)
    × ((xs : List (ℕ → Bool)) → through xs (globally (const true)) ≡ globally (const true))
