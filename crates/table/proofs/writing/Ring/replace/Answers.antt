-- `table::writing::Ring::replace` changes a process. Assumes nothing.
use Rattle.std.proofs.Common.{arith, ◌∙◌, List, ℕ}
use Rattle.table.specs.Inside.{became_words}
use Rattle.table.proofs.Lending.{lend_put}
use Rattle.table.proofs.Writes.{inside, replaced_now, replaced_formed}
use Rattle.table.proofs.writing.Ring.replace.Goals as goal

pub slice_bounds-replace-end-2 : goal.slice_bounds-replace-end-2
slice_bounds-replace-end-2 c =
    omega (arith, c.place-place.ensures, c.width.ensures, inside _ _ _ c.args.self.now.formed c.args.j c.requires.index)

pub invariant_of-self : goal.invariant_of-self
invariant_of-self c =
    let a = c.args in
    let s = a.self.now in
    let lent = lend_put s.words.now s.shape.capacity a.j _ c.place-place.ensures _ c.width.ensures
    (λ (r : List ℕ). became_words r a.process) _ c.replace.ensures in
    record {
      formed = rw (lent ∙ replaced_now _ _ _ s.formed a.j c.requires.index a.process c.requires.same)
          (replaced_formed _ _ _ s.formed a.j c.requires.index a.process c.requires.same);
    }

pub returns-clause-words : goal.returns-clause-words
returns-clause-words c =
    let a = c.args in
    let s = a.self.now in
    lend_put s.words.now s.shape.capacity a.j _ c.place-place.ensures _ c.width.ensures
    (λ (r : List ℕ). became_words r a.process) _ c.replace.ensures
    ∙ replaced_now _ _ _ s.formed a.j c.requires.index a.process c.requires.same
