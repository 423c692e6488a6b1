-- An index that a search finds, where there is one.
use Rattle.std.specs.Prelude.{ℕ, if◌then◌else◌, nat_lt, not, List, length, Option, Some, None}
use Rattle.ring.specs.Scan.{first_below}
use Rattle.ring.specs.Identities.{is_fresh, first_repeat}

-- i, where it is below n
abbrev pub found : ℕ → ℕ → Option ℕ
found n i = (if nat_lt i n then Some i else None)

-- the first index below n whose identity equals an earlier one
abbrev pub repeated_in : ℕ → (ℕ → ℕ) → Option ℕ
repeated_in n ident = found n (first_below n (λ i. not (is_fresh ident i)))

-- that of a list
abbrev pub repeated : List ℕ → Option ℕ
repeated ids = found (length ids) (first_repeat ids)
