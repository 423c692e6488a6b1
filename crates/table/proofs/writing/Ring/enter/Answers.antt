-- `table::writing::Ring::enter` changes the state of a process. Assumes nothing.
use Rattle.std.proofs.Common.{arith, ◌∙◌, List, ℕ}
use Rattle.table.specs.Inside.{entered}
use Rattle.table.proofs.Lending.{lend_put}
use Rattle.table.proofs.Writes.{inside, entered_now, entered_formed}
use Rattle.table.proofs.writing.Ring.enter.Goals as goal

pub slice_bounds-enter-end-2 : goal.slice_bounds-enter-end-2
slice_bounds-enter-end-2 c =
    omega (arith, c.place-place.ensures, c.width.ensures, inside _ _ _ c.args.self.now.formed c.args.j c.requires)

pub invariant_of-self : goal.invariant_of-self
invariant_of-self c =
    let a = c.args in
    let s = a.self.now in
    let lent = lend_put s.words.now s.shape.capacity a.j _ c.place-place.ensures _ c.width.ensures
    (λ (r : List ℕ). entered r a.state) _ c.enter.ensures in
    record {
      formed = rw (lent ∙ entered_now _ _ _ s.formed a.j c.requires a.state)
          (entered_formed _ _ _ s.formed a.j c.requires a.state);
    }

pub returns-clause-words : goal.returns-clause-words
returns-clause-words c =
    let a = c.args in
    let s = a.self.now in
    lend_put s.words.now s.shape.capacity a.j _ c.place-place.ensures _ c.width.ensures
    (λ (r : List ℕ). entered r a.state) _ c.enter.ensures
    ∙ entered_now _ _ _ s.formed a.j c.requires a.state
