-- `report::line::Last::put` puts the last line. Assumes nothing.
use Rattle.std.proofs.Common.{rules}
use Rattle.report.proofs.Laid.{puts_then}
use Rattle.report.proofs.line.Last.put.Goals as goal

pub returns : goal.returns
returns c =
    let two = puts_then _ _ _ _ _ c.labelled.ensures.text c.labelled-2.ensures.text in
    let three = puts_then _ _ _ _ _ two c.labelled-3.ensures.text in
    let four = puts_then _ _ _ _ _ three c.put_leader.ensures.text in
    let all = puts_then _ _ _ _ _ four c.push_str.ensures in
    search (rules, all)
