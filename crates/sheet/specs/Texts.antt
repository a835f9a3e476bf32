-- A sheet as a text: when it is held back and under what, and what an accepted one says.
use Rattle.std.specs.Prelude.{◌≡◌, ℕ, suc, ◌+◌, ◌-◌, ◌≤◌, Bool, cond, not, ◌||◌, List, [], ◌∷◌, ◌++◌, length, drop, is_some, Some, codes, Option, ◌==◌, nat_lt, slice_index_or}
use Rattle.std.specs.List.{onto_first}
use Rattle.std.specs.Option.{unwrap_or}
use Rattle.temporal.specs.Formula.{Formula, never}
use Rattle.temporal.specs.Parts.{parts}
use Rattle.temporal.specs.Shorten.{shorten}
use Rattle.holds.specs.Cases.{Hold, Cases, first_case, plain, on_line, on_word}
use Rattle.words.specs.Texts.{words_of}
use Rattle.words.specs.declared.word.Word.{Word}
use Rattle.grammar.specs.Grammar.{Reads}
use Rattle.grammar.specs.Machine.{raw_of}
use Rattle.grammar.specs.Scan.{misplaced, unknown}
use Rattle.roster.specs.Written.{written}
use Rattle.roster.specs.Entries.{Entries, after_post, begins_with, no_entries, post_holds, signal_names}

-- The lines of a text, each ended by byte 10, which the last may lack.
abbrev pub lines : List ℕ → List (List ℕ)
lines [] = []
lines (c ∷ cs) = cond (c == 10) ([] ∷ lines cs) (onto_first c (lines cs))

-- What the lines say so far: posts and signals, and the rules.
pub record Draft : Type 0 where
  pub entries : Entries
  pub rules : List Formula

abbrev pub blank : Draft
blank = record { entries = no_entries; rules = [] }

-- The words of a rule's text, and their formula, shortened. (Where there is none, a hold comes first.)
abbrev pub rule_words : Entries → List ℕ → List Word
rule_words e text = unwrap_or (words_of (signal_names e) text) []

abbrev pub rule_formula : List Word → Formula
rule_formula ws = shorten (unwrap_or (raw_of ws) never)

-- The number, from 1, of a word given by its place.
abbrev pub word_number : Option ℕ → ℕ
word_number o = unwrap_or o 0 + 1

-- The words of a rule on line l, over n signals: the first word at fault, then the first name that is no signal.
abbrev pub place_holds : ℕ → ℕ → List Word → Cases Hold
place_holds n l ws =
    (on_word 9 l (word_number (misplaced ws)), is_some (misplaced ws))
    ∷ (on_word 10 l (word_number (unknown n ws)), is_some (unknown n ws)) ∷ []

-- How many words there are, their faults, and how many parts the rule has.
abbrev pub words_holds : ℕ → ℕ → List Word → Cases Hold
words_holds n l ws =
    (on_line 8 l, nat_lt 200 (length ws)) ∷ (place_holds n l ws ++ (on_line 11 l, nat_lt 64 (length (parts (rule_formula ws)))) ∷ [])

-- A rule line l, by the text behind `rule` and a space: its bytes, its place on the sheet, its words.
abbrev pub rule_holds : Draft → ℕ → List ℕ → Cases Hold
rule_holds d l text =
    (on_line 2 l, not (is_some (words_of (signal_names d.entries) text)))
    ∷ (on_line 3 l, length d.entries.posts == 0 || not (length d.rules == 0))
    ∷ words_holds (length d.entries.signals) l (rule_words d.entries text)

abbrev pub after_rule : Draft → List ℕ → Draft
after_rule d text =
    record { entries = d.entries; rules = d.rules ++ rule_formula (rule_words d.entries text) ∷ [] }

-- A line is a rule line if it begins with `rule` and a space.
abbrev pub is_rule_line : List ℕ → Bool
is_rule_line bs = begins_with (codes "rule ") bs

abbrev pub line_holds : Draft → ℕ → List ℕ → Cases Hold
line_holds d l bs =
    cond (is_rule_line bs) (rule_holds d l (drop 5 bs)) (post_holds d.entries (not (length d.rules == 0)) l bs)

abbrev pub after_line : Draft → List ℕ → Draft
after_line d bs =
    cond (is_rule_line bs) (after_rule d (drop 5 bs)) (record { entries = after_post d.entries bs; rules = d.rules })

-- The lines one after the other, from line l on; behind the last the rule line may be missing.
abbrev pub lines_holds : Draft → ℕ → List (List ℕ) → Cases Hold
lines_holds d l [] = (on_line 3 l, length d.rules == 0) ∷ []
lines_holds d l (x ∷ xs) = line_holds d l x ++ lines_holds (after_line d x) (suc l) xs

abbrev pub after_lines : Draft → List (List ℕ) → Draft
after_lines d [] = d
after_lines d (x ∷ xs) = after_lines (after_line d x) xs

abbrev pub last_byte : List ℕ → ℕ
last_byte bs = slice_index_or bs (length bs - 1) 0

-- The sheet is empty, over 4,096 bytes, or lacks its last line end.
abbrev pub wrong_whole : List ℕ → Bool
wrong_whole bs = length bs == 0 || (nat_lt 4096 (length bs) || not (last_byte bs == 10))

-- The whole, then line by line.
abbrev pub sheet_holds : List ℕ → Cases Hold
sheet_holds bs = (plain 1, wrong_whole bs) ∷ lines_holds blank 1 (lines bs)

-- What a sheet is held back under, if it is.
unfoldable pub sheet_hold : List ℕ → Option Hold
sheet_hold bs = first_case (sheet_holds bs)

-- What it says.
unfoldable pub said : List ℕ → Draft
said bs = after_lines blank (lines bs)

-- What the lines of an accepted sheet mean. The post lines are the posts with their signals, written out. The last line is
-- `rule`, a space and a text, whose words are a rule by the grammar; the one rule is its formula, shortened, and has at most
-- 64 parts.
pub record Meant (ls : List (List ℕ)) (d : Draft) : Type 0 where
  pub text : List ℕ
  pub lines_are : ls ≡ written d.entries ++ (codes "rule " ++ text) ∷ []
  pub ws : List Word
  pub words_are : words_of (signal_names d.entries) text ≡ Some ws
  pub raw : Formula
  pub reads : Reads 0 ws raw
  pub rule_is : d.rules ≡ shorten raw ∷ []
  pub small : length (parts (shorten raw)) ≤ 64
