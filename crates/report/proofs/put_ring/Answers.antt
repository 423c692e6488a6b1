-- `report::put_ring` puts the text of the ring that an input asks for. Assumes nothing.
use Rattle.std.proofs.Common.{replicate, ◌∙◌, subst, arith}
use Rattle.std.proofs.lemmas.Result.{err_from_is_err_and, on_ok_weaker, IfErr-weaker}
use Rattle.report.specs.Inside.{Puts}
use Rattle.report.proofs.Starting.{refused_asked, started_text}
use Rattle.report.proofs.put_ring.Goals as goal

pub returns-in_err-asked-clause-refused : goal.returns-in_err-asked-clause-refused
returns-in_err-asked-clause-refused c =
    let p = err_from_is_err_and c.from_residual.result c.from_residual.ensures.1 in
    rw (p.1, p.2) (refused_asked c.args.input.now _ c.in_err-asked.ensures.outcome)

pub returns-in_err-start-clause-refused : goal.returns-in_err-start-clause-refused
returns-in_err-start-clause-refused c =
    let r = c.from_residual-in_err-start in
    let p = err_from_is_err_and r.result r.ensures.1 in
    let a = c.in_ok-asked in
    rw (p.1, p.2)
    (started_text c.args.input.now a.asked a.ensures.outcome (replicate 16 0) _ (omega (arith, a.ensures.few))
    c.identities.ensures _ _ c.in_err-start.ensures)

pub returns-clause-text : goal.returns-clause-text
returns-clause-text c =
    let a = c.in_ok-asked in
    on_ok_weaker c.put.result
    (λ p. subst (λ x. Puts c.args.out.now c.put.new.out x)
    (rw (c.schedule.ensures, c.budget.ensures)
    (started_text c.args.input.now a.asked a.ensures.outcome (replicate 16 0) _ (omega (arith, a.ensures.few))
    c.identities.ensures _ _ c.in_ok-start.ensures)) p)
    c.put.ensures.text

pub returns-clause-refused : goal.returns-clause-refused
returns-clause-refused c =
    let a = c.in_ok-asked in
    IfErr-weaker c.put.result _ _
    (λ why e. e ∙ rw (c.schedule.ensures, c.budget.ensures)
    (started_text c.args.input.now a.asked a.ensures.outcome (replicate 16 0) _ (omega (arith, a.ensures.few))
    c.identities.ensures _ _ c.in_ok-start.ensures))
    c.put.ensures.refused
