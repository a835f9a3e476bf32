-- Names that stand on a sheet.
use Rattle.std.proofs.Common.{◌≡◌, ℕ, true, false, ◌||◌, List, map, ap, ◌∙◌}
use Rattle.std.proofs.lemmas.Simd.{map-map}
use Rattle.words.specs.Named.{name_bytes}
use Rattle.words.specs.Names.{among}
use Rattle.roster.specs.Entries.{Entries, signal_names, stands}
use Rattle.roster.specs.Rosters.{owned}
use Rattle.roster.specs.declared.roster.Signal.{Signal}

pub labels : (ss : List Signal) → map (λ s. s.name) (map owned ss) ≡ map (λ s. name_bytes s.name) ss
labels ss = map-map (λ s. s.name) owned ss

pub stands_post : (e : Entries) (n : List ℕ) (ns : List (List ℕ)) → ns ≡ e.posts → true ≡ among n ns → true ≡ stands e n
stands_post e n ns p h = ap (λ b. b || among n (signal_names e)) (h ∙ ap (among n) p)

pub stands_signal : (e : Entries) (n : List ℕ) (ns ms : List (List ℕ)) → ns ≡ e.posts → ms ≡ signal_names e → false ≡ among n ns → among n ms ≡ stands e n
stands_signal e n ns ms p q h = ap (among n) q ∙ ap (λ b. b || among n (signal_names e)) (h ∙ ap (among n) p)
