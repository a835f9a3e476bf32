-- The rule is spare, or it was read.
use Rattle.std.proofs.Common.{◌≡◌, ℕ, false, not, eqb, List, [], ◌∷◌, ◌++◌, map, length, sym, ap, ◌∙◌, subst}
use Rattle.std.specs.List.{All}
use Rattle.std.proofs.lemmas.List.Elements.{All-push}
use Rattle.std.proofs.lemmas.Bool.{eqb-true, not-false}
use Rattle.std.proofs.lemmas.List.{length-map, nil_from_length}
use Rattle.rule.specs.Ruled.{rule_formula}
use Rattle.rule.specs.declared.rule.Rule.{Rule}
use Rattle.sheet.proofs.Wholes.{over_none}

-- Whether there is any, by the number.
pub counted : {A B : Type 0} (f : A → B) (xs : List A) (n : ℕ) → n ≡ length xs → eqb n 0 ≡ eqb (length (map f xs)) 0
counted f xs n e = ap (λ k. eqb k 0) (e ∙ sym (length-map xs f))

-- The rules so far, as their formulas.
pub unread : (xs : List Rule) → length xs ≡ 0 → map rule_formula xs ≡ []
unread xs h = ap (map rule_formula) (nil_from_length xs h)

-- The one rule read.
pub one_read : (xs ys : List Rule) (r : Rule) → length xs ≡ 0 → ys ≡ xs ++ r ∷ [] → map rule_formula ys ≡ rule_formula r ∷ []
one_read xs ys r h e = ap (map rule_formula) (e ∙ ap (λ z. z ++ r ∷ []) (nil_from_length xs h))

-- It is over all the signals.
pub over_one : (xs ys : List Rule) (r : Rule) (n : ℕ) → length xs ≡ 0 → ys ≡ xs ++ r ∷ [] → r.signals ≡ n → All (λ q. q.signals ≡ n) ys
over_one xs ys r n h e s =
    subst (All (λ q. q.signals ≡ n)) (sym e) (All-push (λ q. q.signals ≡ n) xs r (over_none xs n h) s)

pub over_unruled : (xs : List Rule) (n : ℕ) → not (eqb (length (map rule_formula xs)) 0) ≡ false → All (λ r. r.signals ≡ n) xs
over_unruled xs n h =
    over_none xs n (sym (length-map xs rule_formula) ∙ eqb-true (length (map rule_formula xs)) 0 (not-false (eqb (length (map rule_formula xs)) 0) h))
