-- `report::line::put_leader` puts the leading process and its value. Assumes nothing.
use Rattle.std.proofs.Common.{rules}
use Rattle.report.proofs.Laid.{puts_then}
use Rattle.report.proofs.line.put_leader.Goals as goal

pub returns-in-Ok-Some-clause-text : goal.returns-in-Ok-Some-clause-text
returns-in-Ok-Some-clause-text c =
    let both = puts_then _ _ _ _ _ c.labelled.ensures.text c.labelled-in-Ok-Some.ensures.text in
    search (rules, both)
