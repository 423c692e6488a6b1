-- `table::reading::Table::queued` reads the length of a queue. Assumes nothing.
use Rattle.std.proofs.Common.{ap, ◌∙◌}
use Rattle.words.specs.Table.{length_of}
use Rattle.table.proofs.Writes.{length_is}
use Rattle.table.proofs.reading.Table.queued.Goals as goal

pub returns : goal.returns
returns c = ap length_of c.record.ensures.words ∙ length_is _ _ _ c.args.self.now.formed c.args.j c.requires
