-- `report::input::asked` answers what an input asks for. Assumes nothing.
use Rattle.std.proofs.Common.{refl, sym}
use Rattle.std.proofs.lemmas.Result.{err_from_is_err_and}
use Rattle.trial.proofs.Asking.{asked_short, asked_by_parts}
use Rattle.report.proofs.input.asked.Goals as goal

pub returns-in_default-clause-outcome : goal.returns-in_default-clause-outcome
returns-in_default-clause-outcome c = asked_short c.args.input.now c.in_default.len_below

pub returns-in_err-size-clause-outcome : goal.returns-in_err-size-clause-outcome
returns-in_err-size-clause-outcome c =
    let p = err_from_is_err_and c.from_residual.result c.from_residual.ensures.1 in
    rw (p.1, p.2)
    (asked_by_parts c.args.input.now c.in-len2-up.len_at_least _ _ (sym c.in_err-size.ensures) refl)

pub returns-in_err-frames-clause-outcome : goal.returns-in_err-frames-clause-outcome
returns-in_err-frames-clause-outcome c =
    let r = c.from_residual-in_err-frames in
    let p = err_from_is_err_and r.result r.ensures.1 in
    rw (p.1, p.2)
    (asked_by_parts c.args.input.now c.in-len2-up.len_at_least _ _
    (sym c.in_ok-size.ensures) (sym c.in_err-frames.ensures))

pub returns-clause-outcome : goal.returns-clause-outcome
returns-clause-outcome c =
    asked_by_parts c.args.input.now c.in-len2-up.len_at_least _ _
    (sym c.in_ok-size.ensures) (sym c.in_ok-frames.ensures)
