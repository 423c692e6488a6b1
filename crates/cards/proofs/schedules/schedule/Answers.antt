-- `cards::schedules::schedule` fills byte i with the choice of i. Assumes nothing.
use Rattle.std.proofs.Common.{◌≢◌, ◌<◌, length, arith, rules, get_or-set_other, get_or-set_same, below_more}
use Rattle.cards.proofs.schedules.schedule.Goals as goal

pub loop-i-preserved : goal.loop-i-preserved
loop-i-preserved g c =
    let l = c.loop-i in
    let inside : l.i < length l.byte-items = omega (arith, l.invariant.long, c.loop-i-test.true) in
    record {
      long = search rules;
      chosen = below_more _ _
          (λ k b.
          let other : k ≢ l.i = omega arith in
          rw (get_or-set_other l.byte-items l.i k _ 0 other) (l.invariant.chosen k b))
          (c.order.result, c.order.ensures, rw get_or-set_same c.choice.ensures);
    }

pub returns : goal.returns
returns g c =
    let l = c.loop-i in
    λ i b. l.invariant.chosen i (omega (arith, b, l.invariant.long, c.loop-i-test.false))
