-- Entries that grow.
use Rattle.std.proofs.Common.{◌≡◌, ℕ, ◌<◌, ◌≤◌, Bool, true, false, cond, leb, List, [], ◌∷◌, ◌++◌, map, length, Some, None, ap, ◌∙◌, arith}
use Rattle.std.proofs.lemmas.List.{length-map, map-append}
use Rattle.std.proofs.lemmas.Bool.{le-leb, lt-leb}
use Rattle.holds.specs.Cases.{Hold, Cases, first_case}
use Rattle.holds.proofs.Cases.{past_fits}
use Rattle.roster.specs.Entries.{Entries, Owned, with_post}
use Rattle.roster.specs.Rosters.{owned, post_name}
use Rattle.roster.specs.declared.roster.Post.{Post}
use Rattle.roster.specs.declared.roster.Signal.{Signal}

pub post_more : (ps qs : List Post) (p : Post) (t : List ℕ) (ss : List Owned) → qs ≡ ps ++ p ∷ [] → post_name p ≡ t → ◌≡◌ {A = Entries} (record { posts = map post_name qs; signals = ss }) (with_post (record { posts = map post_name ps; signals = ss }) t)
post_more ps qs p t ss e h =
    ap (λ ns. record { posts = ns; signals = ss }) (ap (map post_name) e ∙ map-append post_name ps (p ∷ []) ∙ ap (λ n. map post_name ps ++ n ∷ []) h)

pub signal_more : (ps : List (List ℕ)) (ss rs : List Signal) (s : Signal) (t : List ℕ) (k : ℕ) → rs ≡ ss ++ s ∷ [] → owned s ≡ record { name = t; owner = k } → ◌≡◌ {A = Entries} (record { posts = ps; signals = map owned rs }) (record { posts = ps; signals = map owned ss ++ record { name = t; owner = k } ∷ [] })
signal_more ps ss rs s t k e h =
    ap (λ os. record { posts = ps; signals = os }) (ap (map owned) e ∙ map-append owned ss (s ∷ []) ∙ ap (λ o. map owned ss ++ o ∷ []) h)

-- One test more.
pub then_test : (ts : Cases Hold) (h : Hold) (b c : Bool) → first_case ts ≡ None → b ≡ c → first_case (ts ++ (h, b) ∷ []) ≡ cond c (Some h) None
then_test ts h b c e q = past_fits ts ((h, b) ∷ []) e ∙ ap (λ x. cond x (Some h) None) q

-- Whether what is listed of some things reaches a number.
pub reaches : {X Y : Type 0} (f : X → Y) (xs : List X) (n : ℕ) → n ≤ length xs → leb n (length (map f xs)) ≡ true
reaches f xs n l = le-leb n (length (map f xs)) (omega (arith, length-map xs f))

pub stays_below : {X Y : Type 0} (f : X → Y) (xs : List X) (n : ℕ) → length xs < n → leb n (length (map f xs)) ≡ false
stays_below f xs n l = lt-leb n (length (map f xs)) (omega (arith, length-map xs f))
