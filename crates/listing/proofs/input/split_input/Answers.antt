use Rattle.std.proofs.Common.{rules, ◌≡◌, ◌+◌, ◌-◌, length, get_or, drop, false, sym, ◌∙◌, eqb, arith}
use Rattle.std.specs.List.{position}
use Rattle.std.proofs.lemmas.Iterator.Search.{position_from_yields_List}
use Rattle.std.proofs.lemmas.List.{length-drop, take_all}
use Rattle.std.proofs.lemmas.Bool.{ne_eqb}
use borrow.Author.Tests.{ltb-true, tests}
use Rattle.listing.proofs.Splitting.{are_ends, no_first, pairs, pairs_of_windows, split_here, split_none}
use Rattle.listing.proofs.input.split_input.Goals as goal
use Rattle.listing.proofs.input.split_input.Goals.{then-input-lt1, else-input-lt1+in_default-1}

pub returns-in-Some : goal.returns-in-Some
returns-in-Some c =
    let input = c.args.input.now in
    let found : c.position.result ≡ position are_ends (pairs input) =
    position_from_yields_List are_ends _ _ c.position.result c.position.ensures.ran (pairs_of_windows input _ c.windows.ensures.rest c.windows.ensures.size) (λ x b q k. search (rules, tests)) in
    let first : eqb (get_or input 0 0) 10 ≡ false = elim c.if-input-lt1.branch [ then-input-lt1 w ↦ no_first input (omega (arith, ltb-true)) | else-input-lt1+in_default-1 w ↦ ne_eqb _ _ (λ e. omega arith) ] in
    let parts = split_here input c.in-Some.at first (sym found ∙ c.in-Some.is) in
    let whole = take_all (length input - (c.in-Some.at + 2)) (drop (c.in-Some.at + 2) input) (omega (arith, length-drop (c.in-Some.at + 2) input)) in
    record { sheet = parts.0; ticks = search (rules, whole, parts.1) }

pub returns-in-None : goal.returns-in-None
returns-in-None c =
    let input = c.args.input.now in
    let found : c.position.result ≡ position are_ends (pairs input) =
    position_from_yields_List are_ends _ _ c.position.result c.position.ensures.ran (pairs_of_windows input _ c.windows.ensures.rest c.windows.ensures.size) (λ x b q k. search (rules, tests)) in
    let first : eqb (get_or input 0 0) 10 ≡ false = elim c.if-input-lt1.branch [ then-input-lt1 w ↦ no_first input (omega (arith, ltb-true)) | else-input-lt1+in_default-1 w ↦ ne_eqb _ _ (λ e. omega arith) ] in
    let parts = split_none input first (sym found ∙ c.in-None.is) in
    record { sheet = parts.0; ticks = parts.1 }
