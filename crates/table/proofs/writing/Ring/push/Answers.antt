-- `table::writing::Ring::push` puts a message into a queue. Assumes nothing.
use Rattle.std.proofs.Common.{arith, ◌∙◌, List, ℕ}
use Rattle.words.proofs.Tables.{record_part}
use Rattle.table.specs.Inside.{put_words}
use Rattle.table.proofs.Lending.{lend_put}
use Rattle.table.proofs.Writes.{inside, pushed_now, pushed_formed, push_asks}
use Rattle.table.proofs.writing.Ring.push.Goals as goal

pub slice_bounds-push-end-2 : goal.slice_bounds-push-end-2
slice_bounds-push-end-2 c =
    omega (arith, c.place-place.ensures, c.width.ensures, inside _ _ _ c.args.self.now.formed c.args.j c.requires.index)

pub push-requires : goal.push-requires
push-requires c =
    let a = c.args in
    let s = a.self.now in
    rw (record_part s.shape.capacity a.j _ _ c.place-place.ensures c.width.ensures s.words.now)
    (push_asks _ _ _ s.formed a.j c.requires.index s.shape.small_capacity c.requires.room)

pub invariant_of-self : goal.invariant_of-self
invariant_of-self c =
    let a = c.args in
    let s = a.self.now in
    let lent = lend_put s.words.now s.shape.capacity a.j _ c.place-place.ensures _ c.width.ensures
    (λ (r : List ℕ). put_words r a.message a.state) _ c.push.ensures in
    record {
      formed = rw (lent ∙ pushed_now _ _ _ s.formed a.j c.requires.index a.message a.state c.requires.room)
          (pushed_formed _ _ _ s.formed a.j c.requires.index a.message a.state c.requires.room);
    }

pub returns-clause-words : goal.returns-clause-words
returns-clause-words c =
    let a = c.args in
    let s = a.self.now in
    lend_put s.words.now s.shape.capacity a.j _ c.place-place.ensures _ c.width.ensures
    (λ (r : List ℕ). put_words r a.message a.state) _ c.push.ensures
    ∙ pushed_now _ _ _ s.formed a.j c.requires.index a.message a.state c.requires.room
