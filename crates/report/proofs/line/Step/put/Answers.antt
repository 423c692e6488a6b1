-- `report::line::Step::put` puts the line of a taken step. Assumes nothing.
use Rattle.report.proofs.Laid.{puts_then}
use Rattle.report.proofs.line.Step.put.Goals as goal

pub returns-clause-text : goal.returns-clause-text
returns-clause-text c =
    let two = puts_then _ _ _ _ _ c.labelled.ensures.text c.labelled-2.ensures.text in
    let three = puts_then _ _ _ _ _ two c.labelled-3.ensures.text in
    let four = puts_then _ _ _ _ _ three c.labelled-4.ensures.text in
    puts_then _ _ _ _ _ four c.push_str.ensures
