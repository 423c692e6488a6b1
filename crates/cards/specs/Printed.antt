-- What the program prints of answers and of words.
use Rattle.std.specs.Prelude.{
  ℕ,
  List,
  ◌++◌,
  codes,
  decimal,
  Result,
  Ok,
  Err,
  Option,
  Some,
  None,
  slice_get,
  min,
  eqb,
  cond,
  ◌%◌,
  ◌+◌,
  zero,
  suc,
  [],
  get_or,
}
use Rattle.std.specs.List.{flat_map}
use Rattle.refusal.specs.declared.Refusal.{Refusal}
use Rattle.refusal.specs.Numbered.{numbered}
use Rattle.refusal.specs.Printed.{told_text}
use Rattle.ring.specs.Runs.{end_number}
use Rattle.words.specs.Layout.{record_place}
use Rattle.words.specs.declared.Ran.{Ran}
use Rattle.words.specs.declared.Leader.{Leader}

-- `refused`, a number and a place
abbrev pub refused_text : Refusal → List ℕ
refused_text x = codes "refused " ++ told_text (numbered x)

-- where a run ended
abbrev pub ran_text : Result Ran Refusal → List ℕ
ran_text (Ok r) =
    codes "end " ++ decimal (end_number r.end) ++ codes " taken " ++ decimal r.taken
    ++ codes " skipped " ++ decimal r.skipped
ran_text (Err x) = refused_text x

-- who leads, and with which value
abbrev pub leading_text : Result (Option Leader) Refusal → List ℕ
leading_text (Ok (Some l)) = codes "leader " ++ decimal l.process ++ codes " value " ++ decimal l.value
leading_text (Ok None) = codes "leader - value -"
leading_text (Err x) = refused_text x

-- words, a space before each
abbrev pub words_text : List ℕ → List ℕ
words_text ws = flat_map (λ w. codes " " ++ decimal w) ws

-- the leader's own identity among these
abbrev pub own_of : Result (Option Leader) Refusal → List ℕ → Option ℕ
own_of (Ok (Some l)) ids = slice_get ids l.process
own_of (Ok None) ids = None
own_of (Err x) ids = None

-- the byte that chooses a process, counted round a ring of n; the last stands for whatever no byte can say
abbrev pub choice_of : ℕ → ℕ → ℕ
choice_of n x = cond (eqb n 0) 0 (min 255 (x % n))

-- the word at a place of record j, at capacity c
abbrev pub word_of : List ℕ → ℕ → ℕ → ℕ → ℕ
word_of t c place j = get_or t (record_place c j + place) 0

-- that of the first n records, a space before each
abbrev pub column_text : List ℕ → ℕ → ℕ → ℕ → List ℕ
column_text t c place zero = []
column_text t c place (suc n) = column_text t c place n ++ (codes " " ++ decimal (word_of t c place n))
