use Rattle.std.proofs.Common.{◌≡◌, ◌<◌, [], ◌∷◌, ◌++◌, drop, length, true, false, add-one, eqb, map, vec_items, vec_len, rules, tests, sym, ap, ◌∙◌, arith}
use Rattle.std.specs.List.{slice_split}
use Rattle.std.proofs.lemmas.List.{length_push}
use Rattle.std.proofs.lemmas.Iterator.Splits.{YieldsList-from_slice_split}
use Rattle.holds.specs.Cases.{first_case}
use Rattle.rule.specs.Ruled.{rule_formula}
use Rattle.roster.specs.Rosters.{entries}
use Rattle.sheet.specs.Sheets.{draft_so_far}
use Rattle.sheet.specs.Texts.{after_lines, lines_holds}
use Rattle.sheet.proofs.Exits.{advances_exit}
use Rattle.sheet.proofs.Spares.{counted}
use Rattle.sheet.proofs.Lines.{behind, last_part, line_breaks, line_joins, line_passes, next_part}
use Rattle.sheet.proofs.reading.Reading.read_lines.Goals.{In-Some, In-None}
use Rattle.sheet.proofs.reading.Reading.read_lines.Goals as goal

-- The line is the next part of the text; where none is left, all were read.
next : (c : In-Some) → (length c.loop-line.yielded < length (slice_split (λ b. eqb b 10) c.args.text.now))
    × (drop (length c.loop-line.yielded) (slice_split (λ b. eqb b 10) c.args.text.now) ≡ c.in-Some.line.now ∷ drop (length (c.loop-line.yielded ++ c.in-Some.line ∷ [])) (slice_split (λ b. eqb b 10) c.args.text.now))
next c =
    next_part c.loop-line.yielded c.loop-line.line-iterator c.loop-line.yielded_by c.next.result c.next.new.self c.in-Some.line c.in-Some.is c.next.ensures.steps
    (YieldsList-from_slice_split _ (λ b. eqb b 10) c.args.text.now (search rules) (search rules) (search rules) (λ x b q k. search (rules, tests)))

last : (c : In-None) → drop (length c.loop-line.yielded) (slice_split (λ b. eqb b 10) c.args.text.now) ≡ []
last c =
    last_part c.loop-line.yielded c.loop-line.line-iterator c.loop-line.yielded_by c.next.result c.next.new.self c.in-None.is c.next.ensures.steps
    (YieldsList-from_slice_split _ (λ b. eqb b 10) c.args.text.now (search rules) (search rules) (search rules) (λ x b q k. search (rules, tests)))

pub returns-in_err-read_line-clause-draft : goal.returns-in_err-read_line-clause-draft
returns-in_err-read_line-clause-draft c =
    let inv = c.loop-line.invariant in
    let d = draft_so_far c.args.self.now in
    let ls = slice_split (λ b. eqb b 10) c.args.text.now in
    let part = (next (goal.at.returns-in_err-read_line-clause-draft c).In-Some).1 in
    advances_exit (lines_holds d 1 ls) (after_lines d ls) c.read_line.new.self _ _ c.from_residual.ensures.1 (sym inv.holds ∙ line_breaks (draft_so_far c.loop-line.self) c.loop-line.number _ _ _ part _ c.in_err-read_line.ensures.0)

pub loop-line-preserved : goal.loop-line-preserved
loop-line-preserved c =
    let inv = c.loop-line.invariant in
    let d = draft_so_far c.loop-line.self in
    let part = (next (goal.at.loop-line-preserved c).In-Some).1 in
    let went = c.in_ok-read_line.ensures in
    record {
      number = omega (arith, length_push c.loop-line.yielded c.in-Some.line);
      ready = went.1;
      holds = line_passes d c.loop-line.number _ _ _ part _ _ went.0.0 went.0.1 (add-one c.loop-line.number) ∙ inv.holds;
      draft = line_joins d c.loop-line.number _ _ _ part _ went.0.1 ∙ inv.draft;
    }

pub returns-then-is_empty-clause-draft : goal.returns-then-is_empty-clause-draft
returns-then-is_empty-clause-draft c =
    let b = c.loop-line.self in
    let end = ap (λ z. first_case (lines_holds (draft_so_far b) c.loop-line.number z)) (last (goal.at.returns-then-is_empty-clause-draft c).In-None) in
    let counts = counted rule_formula (vec_items b.rules) (vec_len b.rules) b.rules.ok.0 in
    let missing = sym c.loop-line.invariant.holds ∙ end ∙ behind (entries b.roster) (map rule_formula (vec_items b.rules)) c.loop-line.number true (cc (counts)) in
    (cc (missing), tt)

pub returns-clause-draft : goal.returns-clause-draft
returns-clause-draft c =
    let inv = c.loop-line.invariant in
    let b = c.loop-line.self in
    let none = last (goal.at.returns-clause-draft c).In-None in
    let end = ap (λ z. first_case (lines_holds (draft_so_far b) c.loop-line.number z)) none in
    let counts = counted rule_formula (vec_items b.rules) (vec_len b.rules) b.rules.ok.0 in (
      (
        sym inv.holds ∙ end ∙ behind (entries b.roster) (map rule_formula (vec_items b.rules)) c.loop-line.number false (cc (counts)),
        sym (ap (after_lines (draft_so_far b)) none) ∙ inv.draft,
      ),
      inv.ready,
    )
