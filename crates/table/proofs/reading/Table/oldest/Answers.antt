-- `table::reading::Table::oldest` reads the oldest message of a queue. Assumes nothing.
use Rattle.std.proofs.Common.{ap, sym, Some, ◌∙◌}
use Rattle.words.specs.Table.{length_of}
use Rattle.table.specs.Inside.{oldest_of}
use Rattle.table.proofs.Writes.{oldest_none, oldest_some}
use Rattle.table.proofs.reading.Table.oldest.Goals as goal

pub returns-then-words-eq0 : goal.returns-then-words-eq0
returns-then-words-eq0 c =
    oldest_none _ _ _ c.args.self.now.formed c.args.j c.requires
    (sym (ap length_of c.record-words.ensures.words) ∙ c.if-words-eq0.true)

pub returns : goal.returns
returns c =
    let s = c.args.self.now in
    let words = c.record-words.ensures.words in
    ap Some (c.oldest.ensures ∙ ap oldest_of words)
    ∙ oldest_some _ _ _ s.formed c.args.j c.requires s.shape.some_capacity
    (λ e. c.if-words-eq0.false (ap length_of words ∙ e))
