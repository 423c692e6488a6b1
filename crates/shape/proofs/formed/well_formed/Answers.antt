-- `shape::formed::well_formed` tells whether a slice holds a well-formed table. Assumes nothing.
use Rattle.std.proofs.Common.{rules, arith, not, ap, sym, ◌∙◌}
use Rattle.shape.proofs.Verdicts.{no_head, refused, no_room, idents_fail, by_records, sized}
use Rattle.shape.proofs.formed.well_formed.Goals as goal

pub returns-in_default : goal.returns-in_default
returns-in_default c = sym (no_head c.args.words.now (omega (arith, c.in_default.len_below)))

pub returns-in_default-new : goal.returns-in_default-new
returns-in_default-new c = sym (refused c.args.words.now c.new.result c.new.ensures.size (search rules))

pub returns-then-words : goal.returns-then-words
returns-then-words c =
    let s = c.in-Ok.shape in
    let (en, ec) = c.in-Ok.ensures.shape in
    sym (no_room c.args.words.now s.processes s.capacity en ec (rw c.words.ensures at c.if-words.true))

pub returns-then-is_none : goal.returns-then-is_none
returns-then-is_none c =
    let s = c.in-Ok.shape in
    let (en, ec) = c.in-Ok.ensures.shape in
    by_records c.args.words.now s.processes s.capacity en ec (sized s) (rw c.words.ensures at c.if-words.false)
    (rw c.first_in.ensures at (ap not (rw c.if-is_none.true at c.is_none.ensures))) c.all_ok.result c.all_ok.ensures

pub returns-else-is_none : goal.returns-else-is_none
returns-else-is_none c =
    let s = c.in-Ok.shape in
    let (en, ec) = c.in-Ok.ensures.shape in
    c.if-is_none.false
    ∙ sym (idents_fail c.args.words.now s.processes s.capacity en ec (sized s) (rw c.words.ensures at c.if-words.false)
    (rw c.first_in.ensures at (ap not (rw c.if-is_none.false at c.is_none.ensures))))
