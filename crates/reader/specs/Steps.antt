-- The steps of reading a rule.
use Rattle.std.specs.Prelude.{◌≡◌, ℕ, List, Some, None, Option, vec_items}
use Rattle.parts.specs.declared.part.Part.{Part}
use Rattle.parts.specs.Tables.{parts_of}
use Rattle.words.specs.declared.word.Word.{Word}
use Rattle.grammar.specs.Machine.{short, State, stuck, step}
use Rattle.reader.specs.Waiting.{Ended, Reduced, Took, load, state_of}
use Rattle.reader.specs.declared.progress.Progress.{Progress}

-- What is lent is still the same.
pub record SameMemory (old new : Progress) : Type 0 where
  pub table : new.table.ghost_name ≡ old.table.ghost_name
  pub frames : new.frames.ghost_name ≡ old.frames.ghost_name

-- The machine's state, and how much was made and waits.
abbrev pub state : Progress → State
state p = state_of p.held (parts_of p.table.now) (vec_items p.frames.now)

abbrev pub load_of : Progress → ℕ
load_of p = load (parts_of p.table.now) (vec_items p.frames.now)

-- What waited at level b or tighter has taken its operand, at first x: what is left waits for y.
abbrev pub Reduces : ℕ → Progress → ℕ → Progress → ℕ → Type 0
Reduces b old x new y =
    Reduced b (parts_of old.table.now) (vec_items old.frames.now) x (parts_of new.table.now) (vec_items new.frames.now) y

-- A word is read, or cannot stand next.
abbrev pub Takes : {A : Type 0} → Word → Progress → Progress → Option A → Type 0
Takes w old new (Some u) =
    Took w old.held (parts_of old.table.now) (vec_items old.frames.now) new.held (parts_of new.table.now) (vec_items new.frames.now)
Takes w old new None = step short (state old) w ≡ stuck

-- The rule may end: then its formula stands at a place of qs.
abbrev pub Ends : Progress → List Part → Option ℕ → Type 0
Ends old qs r = Ended old.held (parts_of old.table.now) (vec_items old.frames.now) qs r
