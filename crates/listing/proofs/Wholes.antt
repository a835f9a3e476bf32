-- Whole readings and their bits.
use Rattle.std.proofs.Common.{◌≡◌, ℕ, zero, suc, ◌+◌, ◌*◌, ◌/◌, ◌%◌, ◌^◌, ◌<◌, Bool, true, false, cond, eqb, List, [], ◌∷◌, length, get_or, sym, ap, ◌∙◌, div-one, one-add, arith, shr-shr}
use native.Mathlib.Nat.{pow-succ'}
use Rattle.monitor.specs.Monitoring.{bit}
use Rattle.listing.specs.Ticks.{whole}
use Rattle.listing.specs.Laws.{WholeMeans}

pub whole_below : (bs : List Bool) → whole bs < 2 ^ length bs
whole_below [] = omega arith
whole_below (true ∷ bs) = let h = whole_below bs in let e = pow-succ' 2 (length bs) in omega arith
whole_below (false ∷ bs) = let h = whole_below bs in let e = pow-succ' 2 (length bs) in omega arith

-- The bits of a number behind its last.
next_bit : (n j : ℕ) → bit n (suc j) ≡ bit (n / 2) j
next_bit n j = ap (λ k. eqb ((n / 2 ^ k) % 2) 1) (sym (one-add j)) ∙ ap (λ q. eqb (q % 2) 1) (sym (shr-shr n 1 j))

last_bit : (n : ℕ) (b : Bool) → n % 2 ≡ cond b 1 0 → bit n 0 ≡ b
last_bit n true e = ap (λ q. eqb (q % 2) 1) (div-one n) ∙ ap (λ q. eqb q 1) e
last_bit n false e = ap (λ q. eqb (q % 2) 1) (div-one n) ∙ ap (λ q. eqb q 1) e

halves : (b : Bool) (n : ℕ) → ((cond b 1 0 + 2 * n) / 2 ≡ n) × ((cond b 1 0 + 2 * n) % 2 ≡ cond b 1 0)
halves true n = (omega arith, omega arith)
halves false n = (omega arith, omega arith)

bits_are : (bs : List Bool) (j : ℕ) → j < length bs → bit (whole bs) j ≡ get_or bs j false
bits_are [] j l = absurd (omega arith)
bits_are (b ∷ bs) zero l = last_bit (whole (b ∷ bs)) b (halves b (whole bs)).1
bits_are (b ∷ bs) (suc j) l =
    next_bit (whole (b ∷ bs)) j ∙ ap (λ n. bit n j) (halves b (whole bs)).0 ∙ bits_are bs j (omega arith)

pub whole_means : WholeMeans
whole_means bs = (whole_below bs, bits_are bs)
