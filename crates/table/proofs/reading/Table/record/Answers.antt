-- `table::reading::Table::record` lends the words of a record. Assumes nothing.
use Rattle.std.proofs.Common.{arith}
use Rattle.table.proofs.Writes.{inside}
use Rattle.table.proofs.reading.Table.record.Goals as goal

pub slice_bounds-result-end : goal.slice_bounds-result-end
slice_bounds-result-end c =
    omega (
      arith,
      c.place-place.ensures,
      c.width.ensures,
      inside _ _ _ c.args.self.now.formed c.args.j c.requires,
    )
