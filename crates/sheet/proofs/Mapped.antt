-- What `map_err` and `ok_or` leave: an `Ok` as it was, and the one fault for an `Err` or a `None`.
use Rattle.std.proofs.Common.{◌≡◌, IsErrAnd, Some, None, Ok, Err, Option, Result, refl, ap}
use Rattle.std.specs.Option.{ok_or}
use Rattle.std.specs.Result.{MatchResult}
use Rattle.std.proofs.lemmas.Result.{err_from_is_err_and}

-- The result q of `map_err` on r, where each `Err` becomes f.
abbrev pub MapsErr : {T D E : Type 0} → Result T E → Result T D → D → Type 0
MapsErr r q f = MatchResult r (λ y. q ≡ Ok y) (λ e. IsErrAnd q (λ d. d ≡ f))

pub ok_was : {T D E : Type 0} (r : Result T E) (q : Result T D) (f : D) (x : T) → MapsErr r q f → q ≡ Ok x → r ≡ Ok x
ok_was (Ok y) q f x m e = let w : y ≡ x = cc in ap Ok w
ok_was (Err d) q f x m e =
    let p = err_from_is_err_and q m in let k = p.1 in absurd (cc)

pub err_was : {T D E : Type 0} (r : Result T E) (q : Result T D) (f d : D) → MapsErr r q f → q ≡ Err d → ((e : E) × (r ≡ Err e)) × (d ≡ f)
err_was (Ok y) q f d m e = absurd (cc)
err_was (Err g) q f d m e =
    let p = err_from_is_err_and q m in let k = p.1 in let w = p.2 in ((g, refl), cc)

pub some_was : {T D : Type 0} (o : Option T) (f : D) (x : T) → ok_or o f ≡ Ok x → o ≡ Some x
some_was (Some y) f x e = cc
some_was None f x e = absurd (cc)

pub none_was : {T D : Type 0} (o : Option T) (f d : D) → ok_or o f ≡ Err d → (o ≡ None) × (d ≡ f)
none_was (Some y) f d e = absurd (cc)
none_was None f d e = (refl, cc)
