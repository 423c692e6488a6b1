-- `table::reading::Table::process` reads the process of the ring. Assumes nothing.
use Rattle.std.proofs.Common.{ap, ◌∙◌}
use Rattle.words.specs.Table.{read_proc}
use Rattle.table.proofs.Writes.{read_is}
use Rattle.table.proofs.reading.Table.process.Goals as goal

pub returns : goal.returns
returns c =
    c.process.ensures
    ∙ ap read_proc c.record.ensures.words
    ∙ read_is _ _ _ c.args.self.now.formed c.args.j c.requires
