-- `table::writing::Ring::take` is the turn of a process that takes. Assumes nothing.
use Rattle.table.proofs.Turning.{still_some, take_done}
use Rattle.table.proofs.writing.Ring.take.Goals as goal

pub pop-requires-clause-some : goal.pop-requires-clause-some
pop-requires-clause-some c =
    still_some _ _ _ c.args.self.now.formed c.args.j c.requires.index c.args.process
    c.requires.there c.before-before.result c.before-before.ensures.before c.in-Some.message
    (rw c.table.ensures.words at c.in-Some.ensures) c.in-Some-take_in.next c.in-Some-take_in.ensures
    _ c.replace.ensures.words

pub returns-clause-turn : goal.returns-clause-turn
returns-clause-turn c =
    take_done _ _ _ c.args.self.now.formed c.args.j c.requires.index c.args.process
    c.requires.there c.before-before.result c.before-before.ensures.before c.in-Some.message
    (rw c.table.ensures.words at c.in-Some.ensures) c.in-Some-take_in.next c.in-Some-take_in.ensures
    _ c.replace.ensures.words _ c.pop.ensures.words
