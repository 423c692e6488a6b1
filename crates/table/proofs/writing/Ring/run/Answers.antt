-- `table::writing::Ring::run` is the run of the definitions, end and words. Assumes nothing.
use Rattle.std.proofs.Common.{rules, ◌≡◌, ◌<◌, ◌≤◌, ◌∙◌, ◌∷◌, ◌+◌, false, length, sym, arith}
use Rattle.table.proofs.Running.{over_found, left_over, left_used_up, left_spent, turned_formed}
use Rattle.table.proofs.Going.{going_first, going_tells, going_left, next_left, went, stayed}
use Rattle.table.proofs.writing.Ring.run.Goals as goal

pub turns-init : goal.turns-init
turns-init c = record {
  same_slice = search rules;
  later = search rules;
  going =
      going_first _ _ _ c.args.self.now.formed.formed _
      (c.is_some-over.ensures
      ∙ over_found _ _ _ c.args.self.now.formed _
      (rw (c.table.ensures.words, c.table.ensures.shape) at c.leader.ensures.found));
}

pub turns-preserved-then-moved : goal.turns-preserved-then-moved
turns-preserved-then-moved c =
    let l = c.turns in
    let g = l.invariant.going in
    let came : l.rest.now ≡ c.in-Some.choice.now ∷ c.in-Some.later.now = search rules in
    let first = sym l.invariant.later ∙ came in
    let next : l.taken + 1 + l.skipped ≡ l.taken + l.skipped + 1 = omega arith in
    let after =
    went _ _ _ _ _ _ _ _ g c.if-over.false c.if-taken-budget.false _ _ first c.turn-came.result _
    c.turn-came.ensures (sym c.moved.ensures ∙ c.if-moved.true) c.turn-came.auto.words in
    record {
      same_slice = search rules;
      later = next_left c.args.schedule.now (l.taken + l.skipped) _ _ first _ (omega arith);
      going = rw c.announced-over.ensures (rw (← next) at after);
    }

pub turns-preserved : goal.turns-preserved
turns-preserved c =
    let l = c.turns in
    let g = l.invariant.going in
    let came : l.rest.now ≡ c.in-Some.choice.now ∷ c.in-Some.later.now = search rules in
    let first = sym l.invariant.later ∙ came in
    let next : l.taken + (l.skipped + 1) ≡ l.taken + l.skipped + 1 = omega arith in
    let after =
    stayed _ _ _ _ _ _ _ _ g c.if-over.false c.if-taken-budget.false _ _ first c.turn-came.result _
    c.turn-came.ensures (sym c.moved.ensures ∙ c.if-moved.false) in
    record {
      same_slice = search rules;
      later = next_left c.args.schedule.now (l.taken + l.skipped) _ _ first _ (omega arith);
      going = rw (← next) at after;
    }

pub returns-then-over-clause-run : goal.returns-then-over-clause-run
returns-then-over-clause-run c =
    let l = c.turns in
    let g = l.invariant.going in
    left_over _ _ _ l.self.formed c.args.budget l.taken l.skipped l.rest.now
    (sym (going_tells _ _ _ _ _ _ _ _ g) ∙ c.if-over.true)
    ∙ going_left _ _ _ _ _ _ _ _ g _ l.invariant.later

pub returns-in_default-clause-run : goal.returns-in_default-clause-run
returns-in_default-clause-run c =
    let l = c.turns in
    let g = l.invariant.going in
    let ended = λ (none : l.over ≡ false) (h : length l.rest.now < 1).
    left_used_up _ _ _ l.self.formed c.args.budget l.taken l.skipped (sym (going_tells _ _ _ _ _ _ _ _ g) ∙ none)
    l.rest.now h
    ∙ going_left _ _ _ _ _ _ _ _ g _ l.invariant.later in
    search (rules, ended)

pub returns-then-taken-budget-clause-run : goal.returns-then-taken-budget-clause-run
returns-then-taken-budget-clause-run c =
    let l = c.turns in
    let g = l.invariant.going in
    let ended = λ (none : l.over ≡ false) (some : 1 ≤ length l.rest.now) (spent : l.taken ≡ c.args.budget).
    left_spent _ _ _ l.self.formed c.args.budget l.taken l.skipped (sym (going_tells _ _ _ _ _ _ _ _ g) ∙ none)
    l.rest.now some spent
    ∙ going_left _ _ _ _ _ _ _ _ g _ l.invariant.later in
    search (rules, ended)

pub invariant_of-self : goal.invariant_of-self
invariant_of-self c =
    let s = c.turns.self in
    record { formed = turned_formed _ _ _ s.formed c.in-Some.choice.now c.turn-came.result _ c.turn-came.ensures }
