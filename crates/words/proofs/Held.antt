-- The first 200 of words that grow.
use Rattle.std.proofs.Common.{◌≡◌, ◌<◌, ◌≤◌, List, [], ◌∷◌, ◌++◌, length, take, sym, ap, ◌∙◌, arith}
use Rattle.std.proofs.lemmas.List.{length_push, length-take, take_all, take-append-le}
use Rattle.words.specs.declared.word.Word.{Word}

short : (ws xs : List Word) → xs ≡ take 200 ws → length xs < 200 → length ws < 200
short ws xs e l = let a = ap length e in let b = length-take 200 ws in omega arith

pub grows : (ws xs : List Word) (w : Word) → xs ≡ take 200 ws → length xs < 200 → xs ++ w ∷ [] ≡ take 200 (ws ++ w ∷ [])
grows ws xs w e l =
    let s = short ws xs e l in
    let p = length_push ws w in
    ap (λ z. z ++ w ∷ []) (e ∙ take_all 200 ws (omega arith)) ∙ sym (take_all 200 (ws ++ w ∷ []) (omega arith))

pub stays : (ws xs : List Word) (w : Word) → xs ≡ take 200 ws → 200 ≤ length xs → xs ≡ take 200 (ws ++ w ∷ [])
stays ws xs w e l =
    let a = ap length e in
    let b = length-take 200 ws in
    e ∙ sym (take-append-le 200 ws (w ∷ []) (omega arith))
