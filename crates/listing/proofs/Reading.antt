-- A whole reading that grows from the last digit on.
use Rattle.std.proofs.Common.{◌≡◌, ℕ, ◌+◌, ◌*◌, ◌%◌, ◌^◌, ◌<◌, ◌≤◌, Bool, true, false, cond, eqb, List, [], ◌∷◌, ◌++◌, map, length, reverse, bit_or, sym, refl, ap, ◌∙◌, arith}
use Rattle.std.specs.List.{filter, fold}
use Rattle.std.proofs.Math.Nat.{pow-le-pow_right}
use Rattle.std.proofs.lemmas.Nat.{or_shifted}
use Rattle.std.proofs.lemmas.List.{append-nil, length-map, reverse-append}
use Rattle.std.proofs.lemmas.List.Elements.{filter-append}
use Rattle.std.proofs.lemmas.List.Sums.{fold_push}
use Rattle.listing.specs.Ticks.{bits, is_no_space, whole, with_digit}
use Rattle.listing.proofs.Grouping.{bits_kept}
use Rattle.listing.proofs.Wholes.{whole_below}

filter-reverse : (t : ℕ → Bool) (bs : List ℕ) → filter t (reverse bs) ≡ reverse (filter t bs)
filter-reverse t [] = refl
filter-reverse t (c ∷ cs) =
    ap (filter t) (reverse-append (c ∷ []) cs) ∙ filter-append t (reverse cs) (c ∷ []) ∙ ap (λ z. z ++ filter t (c ∷ [])) (filter-reverse t cs)
    ∙ go (t c)
  where
    go : (u : Bool) → reverse (filter t cs) ++ cond u (c ∷ []) [] ≡ reverse (cond u (c ∷ filter t cs) (filter t cs))
    go true = sym (reverse-append (c ∷ []) (filter t cs))
    go false = append-nil (reverse (filter t cs))

-- One digit more, in 32 bits.
one_more : (w : ℕ) (t : Bool) → w < 2 ^ 31 → bit_or (w * 2 % 2 ^ 32) (cond t 1 0) ≡ cond t 1 0 + 2 * w
one_more w t l =
    let small : w * 2 % 2 ^ 32 ≡ w * 2 = omega arith in
    let low = below t in
    ap (λ n. bit_or n (cond t 1 0)) small ∙ or_shifted w 1 (cond t 1 0) low ∙ (omega arith)
  where
    below : (u : Bool) → cond u 1 0 < 2
    below true = omega arith
    below false = omega arith

abbrev is_on : ℕ → Bool
is_on b = eqb b 49

fold-reverse : (ds : List ℕ) → length ds ≤ 32 → fold with_digit 0 (reverse ds) ≡ whole (map is_on ds)
fold-reverse [] l = refl
fold-reverse (d ∷ ds) l =
    ap (fold with_digit 0) (reverse-append (d ∷ []) ds) ∙ fold_push with_digit 0 (reverse ds) d
    ∙ ap (λ w. with_digit w d) (fold-reverse ds (omega arith)) ∙ one_more (whole (map is_on ds)) (eqb d 49) few
  where
    few : whole (map is_on ds) < 2 ^ 31
    few =
        let w = whole_below (map is_on ds) in
        let m : length (map is_on ds) ≤ 31 = omega (arith, length-map ds is_on) in
        let p : 2 ^ length (map is_on ds) ≤ 2 ^ 31 = pow-le-pow_right (omega arith) m in
        omega arith

pub fold_line : (line : List ℕ) → length (bits line) ≤ 32 → fold with_digit 0 (filter is_no_space (reverse line)) ≡ whole (bits line)
fold_line line l =
    let k = ap length (bits_kept line) in
    let m = length-map (filter is_no_space line) is_on in
    ap (fold with_digit 0) (filter-reverse is_no_space line) ∙ fold-reverse (filter is_no_space line) (omega arith) ∙ ap whole (sym (bits_kept line))
