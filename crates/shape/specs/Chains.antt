-- What a chain over a range of numbers asks: the tests of WellFormed, with std's word for each.
use Rattle.std.specs.Prelude.{ℕ, ◌+◌, ◌-◌, ◌*◌, Bool, ◌&&◌, not, ◌==◌, eqb, leb, List, get_or, drop}
use Rattle.std.specs.List.{list_all, range_with_len}
use Rattle.gateway.specs.Numbers.{last_kind}
use Rattle.words.specs.Layout.{record_head, slot_width, value_place, kind_place}
use Rattle.words.specs.Table.{length_of, record_at}
use Rattle.words.specs.WellFormed.{state_ok, b_ok, length_ok}

-- the test holds at every number below n
abbrev pub each_below : ℕ → (ℕ → Bool) → Bool
each_below n p = list_all p (range_with_len 0 n)

-- at every number from a on, below n
abbrev pub each_between : ℕ → ℕ → (ℕ → Bool) → Bool
each_between a n p = list_all p (range_with_len a (n - a))

-- the identity at i equals none before it
abbrev pub stands_alone : (ℕ → ℕ) → ℕ → Bool
stands_alone ident i = each_below i (λ k. not (ident k == ident i))

-- the kind of slot i is 0 or 1
abbrev pub kind_ok : List ℕ → ℕ → Bool
kind_ok s i = leb (get_or s (slot_width * i + kind_place) 0) last_kind

-- both its words are 0
abbrev pub clear_ok : List ℕ → ℕ → Bool
clear_ok s i = eqb (get_or s (slot_width * i + value_place) 0) 0 && eqb (get_or s (slot_width * i + kind_place) 0) 0

-- the conditions of one record: the filled slots, and those behind them
abbrev pub each_slot : ℕ → List ℕ → Bool
each_slot c r =
    let s = drop record_head r in
    state_ok r && b_ok r && length_ok c r && each_below (length_of r) (kind_ok s)
    && each_between (length_of r) c (clear_ok s)

-- and of every record
abbrev pub each_record : ℕ → ℕ → List ℕ → Bool
each_record n c t = each_below n (λ j. each_slot c (record_at t c j))
