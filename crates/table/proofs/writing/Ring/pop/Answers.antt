-- `table::writing::Ring::pop` takes the oldest message from a queue. Assumes nothing.
use Rattle.std.proofs.Common.{arith, ◌∙◌, List, ℕ}
use Rattle.words.proofs.Tables.{record_part}
use Rattle.table.specs.Inside.{taken_words}
use Rattle.table.proofs.Lending.{lend_put}
use Rattle.table.proofs.Writes.{inside, popped_now, popped_formed, pop_asks}
use Rattle.table.proofs.writing.Ring.pop.Goals as goal

pub slice_bounds-pop-end-2 : goal.slice_bounds-pop-end-2
slice_bounds-pop-end-2 c =
    omega (arith, c.place-place.ensures, c.width.ensures, inside _ _ _ c.args.self.now.formed c.args.i c.requires.index)

pub pop-requires : goal.pop-requires
pop-requires c =
    let a = c.args in
    let s = a.self.now in
    rw (record_part s.shape.capacity a.i _ _ c.place-place.ensures c.width.ensures s.words.now)
    (pop_asks _ _ _ s.formed a.i c.requires.index s.shape.some_capacity c.requires.some)

pub invariant_of-self : goal.invariant_of-self
invariant_of-self c =
    let a = c.args in
    let s = a.self.now in
    let lent = lend_put s.words.now s.shape.capacity a.i _ c.place-place.ensures _ c.width.ensures
    (λ (r : List ℕ). taken_words r) _ c.pop.ensures in
    record {
      formed = rw (lent ∙ popped_now _ _ _ s.formed a.i c.requires.index c.requires.some)
          (popped_formed _ _ _ s.formed a.i c.requires.index c.requires.some);
    }

pub returns-clause-words : goal.returns-clause-words
returns-clause-words c =
    let a = c.args in
    let s = a.self.now in
    lend_put s.words.now s.shape.capacity a.i _ c.place-place.ensures _ c.width.ensures
    (λ (r : List ℕ). taken_words r) _ c.pop.ensures
    ∙ popped_now _ _ _ s.formed a.i c.requires.index c.requires.some
