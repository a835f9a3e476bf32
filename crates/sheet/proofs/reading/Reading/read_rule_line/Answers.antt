use Rattle.std.proofs.Common.{◌≡◌, ℕ, false, true, eqb, List, length, map, Some, vec_items, vec_len, None, sym, ap, ◌∙◌, rules, arith}
use Rattle.std.proofs.lemmas.List.{length-map}
use Rattle.std.specs.Option.{option_len}
use Rattle.holds.specs.Cases.{first_case}
use Rattle.words.specs.Lists.{Holds}
use Rattle.words.specs.Named.{name_bytes}
use Rattle.words.specs.Texts.{words_of}
use Rattle.words.specs.declared.word.Word.{Word}
use Rattle.rule.specs.Ruled.{rule_formula}
use Rattle.roster.specs.Faults.{answered}
use Rattle.roster.specs.Rosters.{entries, owned}
use Rattle.roster.specs.declared.fault.SheetFault.TheVariants.{Byte}
use Rattle.sheet.specs.Sheets.{draft_so_far}
use Rattle.sheet.specs.Texts.{after_rule, rule_holds, words_holds}
use Rattle.sheet.proofs.Exits.{advances_exit}
use Rattle.sheet.proofs.Mapped.{MapsErr, err_was, none_was, ok_was, some_was}
use Rattle.sheet.proofs.RuleLines.{cut_none, cut_some, foreign_fits, first_fits, second_fits, words_decide, rule_joins}
use Rattle.sheet.proofs.Spares.{one_read, over_one, counted, unread}
use Rattle.sheet.proofs.reading.Reading.read_rule_line.Goals.{In_ok-map_err, In_ok-rule}
use Rattle.sheet.proofs.reading.Reading.read_rule_line.Goals as goal

-- The words of the text.
words_cut : (c : In_ok-map_err) → (ws : List Word) × (words_of (map (λ s. name_bytes s.name) c.signals.result.now) c.args.text.now ≡ Some ws) × Holds ws c.cut.new.self
words_cut c =
    let mapped : MapsErr c.cut.result c.map_err.result (Byte c.args.line) = search rules in
    cut_some _ _ c.cut.result _ c.cut.ensures (ok_was c.cut.result c.map_err.result (Byte c.args.line) _ mapped c.in_ok-map_err.was)

-- The rule is spare, and none was read.
none_read : (c : In_ok-rule) → length (vec_items c.args.self.now.rules) ≡ 0
none_read c =
    let b = c.args.self.now in
    let spare = some_was c.take.result _ _ (sym c.ok_or.ensures.value ∙ c.in_ok-rule.was) in
    let taken : b.spare ≡ Some c.in_ok-rule.rule = cc in
    omega (arith, ap option_len taken, c.requires.one, b.rules.ok.0)

-- So the words decide.
decided : (c : In_ok-rule) (ws : List Word) → words_of (map (λ s. name_bytes s.name) c.signals.result.now) c.args.text.now ≡ Some ws → (n : ℕ) → n ≡ length (map owned (vec_items c.args.self.now.roster.signals))
    → first_case (rule_holds (draft_so_far c.args.self.now) c.args.line c.args.text.now) ≡ first_case (words_holds n c.args.line ws)
decided c ws cut n e =
    let b = c.args.self.now in
    let some : false ≡ eqb (length c.posts.result.now) 0 = search rules in
    words_decide (vec_items b.roster.posts) (vec_items b.roster.signals) (map rule_formula (vec_items b.rules)) c.args.line c.args.text.now _ ws c.signals.ensures.items cut _ c.posts.ensures.items some (unread (vec_items b.rules) (none_read c))
    ∙ ap (λ k. first_case (words_holds k c.args.line ws)) (sym e)

pub returns-in_err-map_err : goal.returns-in_err-map_err
returns-in_err-map_err c =
    let b = c.args.self.now in
    let mapped : MapsErr c.cut.result c.map_err.result (Byte c.args.line) = search rules in
    let was = err_was c.cut.result c.map_err.result (Byte c.args.line) _ mapped c.in_err-map_err.was in
    let gone = cut_none _ _ c.cut.result c.cut.ensures was.0 in
    let fits = foreign_fits (vec_items b.roster.posts) (vec_items b.roster.signals) (map rule_formula (vec_items b.rules)) c.args.line c.args.text.now _ c.signals.ensures.items gone in
    advances_exit (rule_holds (draft_so_far b) c.args.line c.args.text.now) (after_rule (draft_so_far b) c.args.text.now) _ _ _ c.from_residual.ensures.1 (fits ∙ ap (λ f. Some (answered f)) (sym was.1))

pub returns-then-is_empty : goal.returns-then-is_empty
returns-then-is_empty c =
    let b = c.args.self.now in
    let cut = words_cut (goal.at.returns-then-is_empty c).In_ok-map_err in
    let empty : true ≡ eqb (length c.posts.result.now) 0 = search rules in
    (first_fits (vec_items b.roster.posts) (vec_items b.roster.signals) (map rule_formula (vec_items b.rules)) c.args.line c.args.text.now _ cut.0 c.signals.ensures.items cut.1 _ c.posts.ensures.items empty, tt)

pub returns-in_err-rule : goal.returns-in_err-rule
returns-in_err-rule c =
    let b = c.args.self.now in
    let cut = words_cut (goal.at.returns-in_err-rule c).In_ok-map_err in
    let some : false ≡ eqb (length c.posts.result.now) 0 = search rules in
    let was = none_was c.take.result _ _ (sym c.ok_or.ensures.value ∙ c.in_err-rule.was) in
    let none = was.0 in
    let taken : b.spare ≡ None = cc in
    let one : vec_len b.rules ≡ 1 = omega (arith, ap option_len taken, c.requires.one) in
    let read = sym (counted rule_formula (vec_items b.rules) (vec_len b.rules) b.rules.ok.0) ∙ ap (λ n. eqb n 0) one in
    let fits = second_fits (vec_items b.roster.posts) (vec_items b.roster.signals) (map rule_formula (vec_items b.rules)) c.args.line c.args.text.now _ cut.0 c.signals.ensures.items cut.1 _ c.posts.ensures.items some read in
    advances_exit (rule_holds (draft_so_far b) c.args.line c.args.text.now) (after_rule (draft_so_far b) c.args.text.now) _ _ _ c.from_residual-in_err-rule.ensures.1 (fits ∙ ap (λ f. Some (answered f)) (sym was.1))

pub returns-in_err-read : goal.returns-in_err-read
returns-in_err-read c =
    let b = c.args.self.now in
    let cut = words_cut (goal.at.returns-in_err-read c).In_ok-map_err in
    let count = ap length c.signals-2.ensures.items ∙ sym (length-map (vec_items b.roster.signals) owned) in
    let holds = decided (goal.at.returns-in_err-read c).In_ok-rule cut.0 cut.1 _ count in
    advances_exit (rule_holds (draft_so_far b) c.args.line c.args.text.now) (after_rule (draft_so_far b) c.args.text.now) _ _ _ c.from_residual-in_err-read.ensures.1 (holds ∙ c.in_err-read.ensures cut.0 cut.2)

pub returns : goal.returns
returns c =
    let b = c.args.self.now in
    let ss = vec_items b.roster.signals in
    let items = vec_items b.rules in
    let cut = words_cut (goal.at.returns c).In_ok-map_err in
    let none = none_read (goal.at.returns c).In_ok-rule in
    let some : false ≡ eqb (length c.posts.result.now) 0 = search rules in
    let count = ap length c.signals-2.ensures.items ∙ sym (length-map ss owned) in
    let ruled = c.in_ok-read.ensures cut.0 cut.2 in
    let rule = c.read.new.rule in
    let pushed = c.push_reserved.ensures.items in
    let joined = rule_joins (vec_items b.roster.posts) ss (map rule_formula items) c.args.line c.args.text.now _ cut.0 c.signals.ensures.items cut.1 _ c.posts.ensures.items some (unread items none) _ ruled.1 in (
      (
        decided (goal.at.returns c).In_ok-rule cut.0 cut.1 _ count ∙ ruled.0,
        ap (λ fs. record { entries = entries b.roster; rules = fs }) (one_read items _ rule none pushed) ∙ joined,
      ),
      record {
        one = omega (arith, ap option_len c.take.ensures.after, none, b.rules.ok.0, c.push_reserved.ensures.len);
        over = over_one items _ rule (vec_len b.roster.signals) none pushed (ruled.2 ∙ ap length c.signals-2.ensures.items ∙ sym b.roster.signals.ok.0);
      },
    )
