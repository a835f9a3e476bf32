use Rattle.std.proofs.Common.{◌≡◌, ◌<◌, ◌≤◌, length, vec_items, vec_len}
use Rattle.parts.specs.Tables.{parts_of}
use Rattle.reader.specs.Steps.{SameMemory, load_of}
use Rattle.reader.specs.Waiting.{reducing}
use Rattle.reader.proofs.progress.Progress.reduce.Given as goal

-- What is lent is still the same, the place is one of the table's, no more was made than frames left, and what is left to reduce is the same.
abbrev pub invariant-loop-frame : goal.invariant-loop-frame
invariant-loop-frame l =
    record {
      memory : SameMemory l.initial.self l.self;
      inside : l.x < length (parts_of l.self.table.now);
      small : load_of l.self ≤ load_of l.initial.self;
      same : reducing l.bound (parts_of l.self.table.now) (vec_items l.self.frames.now) l.x ≡ reducing l.bound (parts_of l.initial.self.table.now) (vec_items l.initial.self.frames.now) l.start;
    }

abbrev pub decreases-loop-frame : goal.decreases-loop-frame
decreases-loop-frame l = vec_len l.self.frames.now
