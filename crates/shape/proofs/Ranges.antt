-- A chain over a range of numbers asks what the definitions ask of every index below a number. Assumes nothing.
use Rattle.std.proofs.Common.{
  ◌≡◌,
  ◌+◌,
  ◌-◌,
  ◌<◌,
  ◌≤◌,
  ℕ,
  Bool,
  true,
  false,
  refl,
  sym,
  ◌∙◌,
  zero,
  suc,
  ◌&&◌,
  not,
  List,
  Option,
  Some,
  None,
  MatchOption,
  is_none,
  drop,
  ◌==◌,
  rules,
  arith,
  zero-add,
  add-zero,
  ap,
}
use Rattle.std.specs.List.{list_all, range_with_len}
use mathlib.Core.Path.{ap₂}
use mathlib.Core.Bool.{and_assoc, and-false}
use native.Mathlib.Decide.{dec_le}
use borrow.Author.Tests.{lt-ltb, le-ltb, lt-leb}
use Rattle.ring.specs.Scan.{all_below, first_below}
use Rattle.ring.specs.Identities.{is_fresh}
use Rattle.ring.proofs.Scans.{all_at, all_same, some_fails, first_none, first_low, first_is}
use Rattle.words.specs.Layout.{record_head}
use Rattle.words.specs.Table.{record_at, length_of}
use Rattle.words.specs.WellFormed.{state_ok, b_ok, length_ok, slot_ok, record_ok}
use Rattle.shape.specs.Found.{found, repeated_in}
use Rattle.shape.specs.Chains.{
  each_below,
  each_between,
  stands_alone,
  kind_ok,
  clear_ok,
  each_slot,
  each_record,
}

all_more : (a n : ℕ) (p : ℕ → Bool) →
    list_all p (range_with_len a (suc n)) ≡ (list_all p (range_with_len a n) && p (a + n))
all_more a zero p = search rules
all_more a (suc n) p = search (rules, all_more (a + 1) n p)

pub all_below_list : (n : ℕ) (p : ℕ → Bool) → all_below n p ≡ each_below n p
all_below_list zero p = refl
all_below_list (suc n) p = rw (all_below_list n p) (simp zero-add at (sym (all_more 0 n p)))

-- the tests of WellFormed --

pub fresh_is : (ident : ℕ → ℕ) (i : ℕ) → is_fresh ident i ≡ stands_alone ident i
fresh_is ident i = all_below_list i (λ k. not (ident k == ident i))

-- a range in two parts
two_parts : (n a : ℕ) (m : ℕ) (p : ℕ → Bool) →
    list_all p (range_with_len a (n + m)) ≡ (list_all p (range_with_len a n) && list_all p (range_with_len (a + n) m))
two_parts zero a m p = rw (zero-add m, add-zero a)
two_parts (suc n) a m p =
    let on : suc n + m ≡ suc (n + m) = omega arith in
    let past : a + suc n ≡ a + 1 + n = omega arith in
    rw (on, past, two_parts n (a + 1) m p) (sym (and_assoc (p a) _ _))

-- the same test of every number of a range
same_between : (n a : ℕ) (p q : ℕ → Bool) → ((i : ℕ) → a ≤ i → i < a + n → p i ≡ q i) →
    list_all p (range_with_len a n) ≡ list_all q (range_with_len a n)
same_between zero a p q e = refl
same_between (suc n) a p q e =
    rw (e a (omega arith) (omega arith), same_between n (a + 1) p q (λ i l h. e i (omega arith) (omega arith)))

-- the filled slots, and those behind them
parts_are : (filled c : ℕ) (s : List ℕ) → filled ≤ c →
    all_below c (slot_ok filled s) ≡ (each_below filled (kind_ok s) && each_between filled c (clear_ok s))
parts_are filled c s h =
    let all : filled + (c - filled) ≡ c = omega arith in
    let ends : (λ (n : ℕ). list_all (slot_ok filled s) (range_with_len 0 n)) (filled + (c - filled))
    ≡ list_all (slot_ok filled s) (range_with_len 0 c) =
    ap (λ (n : ℕ). list_all (slot_ok filled s) (range_with_len 0 n)) all in
    all_below_list c (slot_ok filled s) ∙ sym ends ∙ two_parts filled 0 (c - filled) (slot_ok filled s)
    ∙ ap₂ (λ (a b : Bool). a && b)
    (same_between filled 0 (slot_ok filled s) (kind_ok s) (λ i l h. rw (lt-ltb i filled (omega arith))))
    (ap (λ (a : ℕ). list_all (slot_ok filled s) (range_with_len a (c - filled))) (zero-add filled)
    ∙ same_between (c - filled) filled (slot_ok filled s) (clear_ok s) (λ i l h. rw (le-ltb i filled l)))

slots_are : (c : ℕ) (r : List ℕ) → record_ok c r ≡ each_slot c r
slots_are c r = go (dec_le (length_of r) c)
  where
    go : Dec (length_of r ≤ c) → record_ok c r ≡ each_slot c r
    go (yes h) =
        rw (parts_are (length_of r) c (drop record_head r) h)
        (sym (and_assoc (state_ok r && b_ok r && length_ok c r) _ _))
    go (no h) =
        let e : length_ok c r ≡ false = lt-leb (length_of r) c (omega arith) in
        rw (e, and-false (state_ok r && b_ok r))

pub records_are : (n c : ℕ) (t : List ℕ) → all_below n (λ j. record_ok c (record_at t c j)) ≡ each_record n c t
records_are n c t =
    all_same (λ j. record_ok c (record_at t c j)) (λ j. each_slot c (record_at t c j)) n
    (λ j h. slots_are c (record_at t c j))
    ∙ all_below_list n (λ j. each_slot c (record_at t c j))

-- a search that found this, by what it tells of each index
pub search_found : (n : ℕ) (p : ℕ → Bool) (r : Option ℕ) →
    MatchOption r ((k : ℕ) → 0 ≤ k → k < n → p k ≡ false)
    (λ i. (0 ≤ i) × (i < n) × (p i ≡ true) × ((k : ℕ) → 0 ≤ k → k < i → p k ≡ false)) →
    r ≡ found n (first_below n p)
search_found n p None none =
    rw (first_none p n (λ k h. none k (omega arith) h), le-ltb n n (omega arith))
search_found n p (Some i) (low, inside, here, before) =
    rw (first_is p n i inside (λ k h. before k (omega arith) h) here, lt-ltb i n inside)

-- none is found exactly where every identity differs from those before it
pub none_in : (n : ℕ) (ident : ℕ → ℕ) → is_none (repeated_in n ident) ≡ all_below n (is_fresh ident)
none_in n ident = go (all_below n (is_fresh ident)) refl
  where
    repeats : ℕ → Bool
    repeats i = not (is_fresh ident i)

    go : (b : Bool) → all_below n (is_fresh ident) ≡ b → is_none (found n (first_below n repeats)) ≡ b
    go true e =
        rw (first_none repeats n (λ k l. ap not (all_at (is_fresh ident) n k l e)), le-ltb n n (omega arith))
    go false e =
        let f = some_fails (is_fresh ident) n e in
        rw (lt-ltb (first_below n repeats) n (omega (arith, f.1, first_low repeats n f.0 (ap not f.2))))
