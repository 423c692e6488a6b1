-- How many words a table of some shape takes.
use Rattle.std.specs.Prelude.{ℕ, Result, Ok, Err}
use Rattle.refusal.specs.declared.Refusal.{Refusal}
use Rattle.words.specs.Layout.{table_length}
use Rattle.shape.specs.declared.measure.Shape.{Shape}

-- the words of a shape that is given
abbrev pub size_told : Result Shape Refusal → Result ℕ Refusal
size_told (Ok s) = Ok (table_length s.processes s.capacity)
size_told (Err why) = Err why
