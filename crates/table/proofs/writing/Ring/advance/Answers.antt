-- `table::writing::Ring::advance` is the turn of the chosen process. Assumes nothing.
use Rattle.std.proofs.Common.{refl}
use Rattle.table.proofs.Turning.{no_process, by_row, by_put, by_announcement}
use Rattle.table.proofs.writing.Ring.advance.Goals as goal

pub returns-then-self-j-clause-turn : goal.returns-then-self-j-clause-turn
returns-then-self-j-clause-turn c = no_process _ _ _ c.args.self.now.formed c.args.j c.if-self-j.true

pub returns-in-Puts-clause-turn : goal.returns-in-Puts-clause-turn
returns-in-Puts-clause-turn c =
    by_put _ _ _ c.args.self.now.formed c.args.j c.if-self-j.false
    c.process-process.result (rw c.table.ensures.words at c.process-process.ensures)
    c.in-Puts.message c.in-Puts.next c.in-Puts.ensures _ c.put.ensures.turn

pub returns-in-Takes-clause-turn : goal.returns-in-Takes-clause-turn
returns-in-Takes-clause-turn c =
    by_row _ _ _ c.args.self.now.formed c.args.j c.if-self-j.false
    c.process-process.result (rw c.table.ensures.words at c.process-process.ensures)
    _ c.in-Takes.ensures _ c.take.ensures.turn

pub returns-in-Announces-clause-turn : goal.returns-in-Announces-clause-turn
returns-in-Announces-clause-turn c =
    by_announcement _ _ _ c.args.self.now.formed c.args.j c.if-self-j.false
    c.process-process.result (rw c.table.ensures.words at c.process-process.ensures)
    c.in-Announces.next c.in-Announces.ensures _ c.enter.ensures.words

pub returns-in-Ends-clause-turn : goal.returns-in-Ends-clause-turn
returns-in-Ends-clause-turn c =
    by_row _ _ _ c.args.self.now.formed c.args.j c.if-self-j.false
    c.process-process.result (rw c.table.ensures.words at c.process-process.ensures)
    _ c.in-Ends.ensures _ refl
