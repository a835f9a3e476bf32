-- A whole rule, of which the words before k were read.
use Rattle.std.proofs.Common.{◌≡◌, ℕ, ◌+◌, ◌*◌, ◌<◌, ◌≤◌, List, [], length, get_or, take, vec_items, IsErrAnd, Some, None, Ok, Err, Option, Result, sym, ap, ◌∙◌, arith}
use Rattle.std.specs.Option.{ok_or}
use Rattle.std.proofs.lemmas.List.{take_all}
use Rattle.parts.specs.declared.part.Part.{Part}
use Rattle.parts.specs.Places.{formula}
use Rattle.parts.specs.Tables.{parts_of}
use Rattle.words.specs.declared.word.Word.{Word}
use Rattle.grammar.specs.Scan.{misplaced}
use Rattle.grammar.specs.Machine.{short, want, step, run, ending}
use Rattle.grammar.proofs.Scanned.{run_more, misplaced_word, misplaced_end}
use Rattle.grammar.proofs.Shortened.{short_reads}
use Rattle.reader.specs.declared.misplaced.Misplaced.{Misplaced}
use Rattle.reader.specs.declared.progress.Progress.{Progress}
use Rattle.reader.specs.Answers.{Answers, RuleRead}
use Rattle.reader.specs.Steps.{Ends, Takes, load_of, state}
use Rattle.reader.proofs.Exits.{exit}
use Rattle.reader.proofs.Waits.{not_stuck}

module _ (ws : List Word) (k : ℕ) (old : Progress) (here : state old ≡ run short (want []) (take k ws)) where
  -- One more word, under a `?`: it can stand there,
  pub goes_on : {A E : Type 0} (d : Word) (new : Progress) (r : Option A) (e : E) (x : A) → k < length ws → load_of old ≤ 2 * k → Takes (get_or ws k d) old new r → ok_or r e ≡ Ok x
      → (load_of new ≤ 2 * (k + 1)) × (state new ≡ run short (want []) (take (k + 1) ws))
  goes_on d new None e x l b t q = absurd (cc)
  goes_on d new (Some y) e x l b t q =
      let m = t.0 in
      (omega arith, t.1 ∙ ap (λ z. step short z (get_or ws k d)) here ∙ sym (run_more short (want []) ws k d l))

  -- or it is the first at fault.
  pub stops : {A : Type 0} (d : Word) (new : Progress) (r : Option A) (m : Misplaced) (qs : List Part) (q : Result ℕ Misplaced) → k < length ws → Takes (get_or ws k d) old new r
      → ok_or r (record { word = k }) ≡ Err m → IsErrAnd q (λ e. e ≡ m) → Answers ws qs q
  stops d new (Some y) m qs q l t e h = absurd (cc)
  stops d new None m qs q l t e h =
      let word : k ≡ m.word = cc in
      exit (Answers ws qs) q m h (misplaced_word short ws k (state old) here (not_stuck old.held (parts_of old.table.now) (vec_items old.frames.now)) d l t ∙ ap Some word)

  -- The end: the words are a rule,
  reads_all : (qs : List Part) (top : ℕ) → length ws ≤ k → Ends old qs (Some top) → RuleRead ws qs top
  reads_all qs top l e =
      let all = ap (ending short) (sym (here ∙ ap (run short (want [])) (take_all k ws l))) ∙ e.1 in
      let r = short_reads ws (formula qs top) all in
      record { raw = r.0; reads = r.1; stands = record { inside = e.0; formula_is = sym r.2 } }

  -- or the end is at fault.
  ends_short : (qs : List Part) → length ws ≡ k → Ends old qs None → misplaced ws ≡ Some k
  ends_short qs l e = misplaced_end short ws k (state old) here (not_stuck old.held (parts_of old.table.now) (vec_items old.frames.now)) (sym l) e

  pub answers : (qs : List Part) (r : Option ℕ) → k ≡ length ws → Ends old qs r → Answers ws qs (ok_or r (record { word = length ws }))
  answers qs (Some top) l e = reads_all qs top (omega arith) e
  answers qs None l e = ends_short qs (sym l) e ∙ ap Some l
