-- Bits beyond the signals.
use Rattle.std.proofs.Common.{◌≡◌, ℕ, ◌*◌, ◌/◌, ◌^◌, ◌<◌, not, eqb, leb, refl, div-lt_iff_lt-mul, arith, eq-eqb, ne_eqb, le-leb}
use native.Mathlib.Decide.{dec_lt}
use borrow.Author.Tests.{lt-leb}
use Rattle.std.proofs.lemmas.Nat.{pow_pos}

pub beyond : (s w : ℕ) → not (eqb (w / 2 ^ s) 0) ≡ leb (2 ^ s) w
beyond s w = go (dec_lt w (2 ^ s))
  where
    pos : 0 < 2 ^ s
    pos = pow_pos s

    go : Dec (w < 2 ^ s) → not (eqb (w / 2 ^ s) 0) ≡ leb (2 ^ s) w
    go (yes h) =
        let z : w / 2 ^ s < 1 = (div-lt_iff_lt-mul pos).1 (omega arith) in
        rw (eq-eqb (w / 2 ^ s) 0 (omega arith), lt-leb (2 ^ s) w h) refl
    go (no h) =
        let z : w / 2 ^ s ≡ 0 → ⊥ = λ e. h (let l : w < 1 * 2 ^ s = (div-lt_iff_lt-mul pos).0 (omega arith) in omega arith) in
        rw (ne_eqb (w / 2 ^ s) 0 z, le-leb (2 ^ s) w (omega arith)) refl
