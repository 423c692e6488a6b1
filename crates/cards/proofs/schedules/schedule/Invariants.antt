-- The loop of `cards::schedules::schedule`: the bytes before i are chosen.
use Rattle.std.proofs.Common.{ℕ, ◌≡◌, ◌<◌, length, get_or}
use Rattle.cards.specs.Printed.{choice_of}
use Rattle.cards.proofs.schedules.schedule.Given as goal

abbrev pub invariant-loop-i : goal.invariant-loop-i
invariant-loop-i g l = record {
  long : length l.byte-items ≡ 576;
  chosen : (k : ℕ) → k < l.i → (x : ℕ) × goal.F-post g l.order k x × (get_or l.byte-items k 0 ≡ choice_of l.n x);
}
