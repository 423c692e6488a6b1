-- How an answer is printed.
use Rattle.std.specs.Prelude.{ℕ, List, ◌++◌, codes, decimal}
use Rattle.refusal.specs.declared.Told.{Told}

-- its number and its place
abbrev pub told_text : Told → List ℕ
told_text t = decimal t.number ++ codes " " ++ decimal t.place
