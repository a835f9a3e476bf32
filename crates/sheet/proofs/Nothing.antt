-- A blank sheet says nothing.
use Rattle.std.proofs.Common.{◌≡◌, [], map, vec_items, ap, ◌∙◌, arith}
use Rattle.std.proofs.lemmas.List.{nil_from_length}
use Rattle.rule.specs.Ruled.{rule_formula}
use Rattle.roster.specs.Rosters.{owned, post_name}
use Rattle.sheet.specs.Sheets.{draft_so_far}
use Rattle.sheet.specs.Texts.{blank}
use Rattle.sheet.specs.declared.blank.Blank.{Blank}

pub nothing_read : (b : Blank) → draft_so_far b.reading ≡ blank
nothing_read b =
    let r = b.reading.roster in
    let rs = b.reading.rules in
    let ps = nil_from_length (vec_items r.posts) (omega (arith, r.posts.ok.0, b.no_posts)) in
    let ss = nil_from_length (vec_items r.signals) (omega (arith, r.signals.ok.0, b.no_signals)) in
    let fs = nil_from_length (vec_items rs) (omega (arith, rs.ok.0, b.no_rule)) in
    ap (λ z. record { entries = record { posts = map post_name z; signals = map owned (vec_items r.signals) }; rules = map rule_formula (vec_items rs) }) ps
    ∙ ap (λ z. record { entries = record { posts = []; signals = map owned z }; rules = map rule_formula (vec_items rs) }) ss
    ∙ ap (λ z. record { entries = record { posts = []; signals = [] }; rules = map rule_formula z }) fs
