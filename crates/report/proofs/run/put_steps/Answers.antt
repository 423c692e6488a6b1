-- `report::run::put_steps` puts a line for each step that the choices take. Assumes nothing.
use Rattle.std.proofs.Common.{arith, ◌+◌, ◌*◌, ◌≤◌, ◌∙◌, length}
use Rattle.report.specs.Inside.{step_room}
use Rattle.report.proofs.Tracing.{gone, stayed, went}
use Rattle.report.proofs.run.put_steps.Goals as goal
use Rattle.report.proofs.run.put_steps.Goals.{then-is_ok, else-is_ok}

-- the choice is taken, or refused
pub loop-j-preserved : goal.loop-j-preserved
loop-j-preserved c =
    let l = c.loop-j in
    let g = l.invariant.going in
    let more = c.loop-j-test.true in
    let was = c.state_at-before in
    let fits : 0 + length c.args.choices.now.bytes.now * step_room ≤ length c.args.out.now.room.now =
    omega (arith, c.requires.room) in
    elim c.if-is_ok.branch [
      | then-is_ok w ↦
          let p = w.put.ensures in
          rw (w.out-is, w.number-is) record {
            same_reference = p.text.same_reference ∙ l.invariant.same_reference;
            going = went _ _ _ _ _ _ _ _ g more c.step.new.table c.step.result c.step.ensures (cc) fits was.result
                w.state_at-after.result was.ensures w.state_at-after.ensures _ _ p.text.text p.room p.text.long;
          }
      | else-is_ok w ↦
          rw (w.out-is, w.number-is) record {
            same_reference = l.invariant.same_reference;
            going = stayed _ _ _ _ _ _ _ _ g more c.step.new.table c.step.result c.step.ensures (cc);
          }
    ]

pub returns-clause-text : goal.returns-clause-text
returns-clause-text c =
    let l = c.loop-j in
    let g = l.invariant.going in
    let all = gone _ _ _ _ _ _ _ _ g c.loop-j-test.false in
    record {
      same_reference = l.invariant.same_reference;
      inside = omega (arith, g.within, c.requires.room, c.requires.front, l.auto.j-index-end);
      long = g.long;
      text = rw c.requires.front all;
    }
