-- The loop of `table::writing::Ring::run`: what holds before each byte of the schedule.
use Rattle.std.proofs.Common.{◌≡◌, ◌+◌, length, drop}
use Rattle.table.proofs.Going.{Going}
use Rattle.table.proofs.writing.Ring.run.Given as goal

-- the choices that came are the schedule's first, and the run goes on after them
abbrev pub invariant-turns : goal.invariant-turns
invariant-turns l = record {
  same_slice : l.self.words.ghost_name ≡ l.fn.self.words.ghost_name;
  later : l.rest ≡ drop (l.taken + l.skipped) l.fn.schedule;
  going :
      Going l.fn.self.words.now l.fn.schedule l.budget l.self.words.now l.over (l.taken + l.skipped) l.taken l.skipped;
}

abbrev pub decreases-turns : goal.decreases-turns
decreases-turns l = length l.rest
