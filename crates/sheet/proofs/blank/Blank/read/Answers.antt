use Rattle.std.proofs.Common.{◌≡◌, [], ◌∷◌, ◌++◌, Some, sym, ap, ◌∙◌, subst, arith}
use Rattle.std.proofs.lemmas.Bool.Decides.{Decides-eqb}
use Rattle.std.proofs.lemmas.Slice.Eq.{strip_suffix_is}
use Rattle.holds.specs.Cases.{first_case}
use Rattle.roster.proofs.Writing.{Says, nothing_says}
use Rattle.sheet.specs.Sheets.{Read, draft_so_far}
use Rattle.sheet.specs.Texts.{Meant, after_lines, lines, lines_holds}
use Rattle.roster.specs.Faults.{answered}
use Rattle.reader.proofs.Exits.{exit}
use Rattle.sheet.proofs.Mapped.{none_was, some_was}
use Rattle.sheet.proofs.Lines.{lines_split}
use Rattle.sheet.proofs.Meanings.{meant}
use Rattle.sheet.proofs.Nothing.{nothing_read}
use Rattle.sheet.proofs.Wholes.{said_is, whole_good, whole_long, whole_unended}
use Rattle.sheet.proofs.blank.Blank.read.Goals.{In_ok-lines}
use Rattle.sheet.proofs.blank.Blank.read.Goals as goal

-- The text is its lines and a line end.
without_end : (c : In_ok-lines) → c.args.text.now ≡ c.in_ok-lines.lines.now ++ 10 ∷ []
without_end c =
    let was = some_was c.strip_suffix.result _ _ (sym c.ok_or.ensures.value ∙ c.in_ok-lines.was) in
    rw was at (strip_suffix_is Decides-eqb c.args.text.now (10 ∷ []) c.strip_suffix.result c.strip_suffix.ensures.cases)

pub returns-then-text-gt-MOST_BYTES : goal.returns-then-text-gt-MOST_BYTES
returns-then-text-gt-MOST_BYTES c = whole_long c.args.text.now (omega arith)

pub returns-in_err-lines : goal.returns-in_err-lines
returns-in_err-lines c =
    let was = none_was c.strip_suffix.result _ _ (sym c.ok_or.ensures.value ∙ c.in_err-lines.was) in
    let stripped = strip_suffix_is Decides-eqb c.args.text.now (10 ∷ []) c.strip_suffix.result c.strip_suffix.ensures.cases in
    let unended = whole_unended c.args.text.now (omega arith) (rw was.0 at stripped) in
    exit (Read c.args.text.now) _ _ c.from_residual.ensures.1 (unended ∙ ap (λ f. Some (answered f)) (sym was.1))

pub returns-in_err-read_lines : goal.returns-in_err-read_lines
returns-in_err-read_lines c =
    let split = without_end (goal.at.returns-in_err-read_lines c).In_ok-lines in
    let good = whole_good c.args.text.now _ (omega arith) split _ (nothing_read c.args.self) in
    let parts = ap lines split ∙ lines_split c.in_ok-lines.lines.now in
    exit (Read c.args.text.now) _ _ c.from_residual-in_err-read_lines.ensures.1 (good ∙ ap (λ z. first_case (lines_holds (draft_so_far c.args.self.reading) 1 z)) parts ∙ c.in_err-read_lines.ensures.draft.0)

pub returns : goal.returns
returns c =
    let split = without_end (goal.at.returns c).In_ok-lines in
    let empty = nothing_read c.args.self in
    let good = whole_good c.args.text.now _ (omega arith) split _ empty in
    let parts = ap lines split ∙ lines_split c.in_ok-lines.lines.now in
    let drafted = c.in_ok-read_lines.ensures.draft.0 in
    let d = draft_so_far c.args.self.reading in
    let ls = lines c.args.text.now in
    let passed = ap (λ z. first_case (lines_holds d 1 z)) parts ∙ drafted.0 in
    let read = c.finish.ensures ∙ drafted.1 ∙ ap (after_lines d) (sym parts) in
    let says = subst (λ z. Says z.entries []) (sym empty) nothing_says in (
      good ∙ passed,
      read ∙ said_is c.args.text.now _ empty,
      subst (Meant ls) (sym read) (meant d 1 [] ls says (ap (λ z. z.rules) empty) passed),
    )
