-- `report::run::put` asks no more than the run gives: it used no more bytes than there are. Assumes nothing.
use Rattle.std.proofs.Common.{rules, sym, arith}
use lib.Seq.{length-take-le}
use Rattle.report.proofs.Laid.{puts_then}
use Rattle.report.proofs.Running.{used}
use Rattle.report.proofs.run.put.Goals as goal

pub overflow_add-used : goal.overflow_add-used
overflow_add-used c = record { fits = omega (arith, used _ _ _ _ _ c.in_ok-ran.ensures) }

pub slice_bounds-used-end : goal.slice_bounds-used-end
slice_bounds-used-end c = sym (length-take-le _ _ (used _ _ _ _ _ c.in_ok-ran.ensures))

pub put-requires-clause-few : goal.put-requires-clause-few
put-requires-clause-few c = omega (arith, used _ _ _ _ _ c.in_ok-ran.ensures)

pub returns-clause-text : goal.returns-clause-text
returns-clause-text c =
    let both = puts_then _ _ _ _ _ c.put_steps.ensures.text c.put.ensures in
    search (rules, both)
