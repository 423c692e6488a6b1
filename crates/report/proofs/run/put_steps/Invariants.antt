-- The loop of `report::run::put_steps`: the lines of the steps that the first choices take.
use Rattle.std.proofs.Common.{◌≡◌}
use Rattle.report.proofs.Tracing.{Going}
use Rattle.report.proofs.run.put_steps.Given as goal

abbrev pub invariant-loop-j : goal.invariant-loop-j
invariant-loop-j l = record {
  same_reference : l.out.room.ghost_name ≡ l.fn.out.room.ghost_name;
  going :
      Going l.fn.table l.choices.bytes.now l.fn.out.room.now l.table l.out.room.now l.out.end l.number l.j-index;
}
