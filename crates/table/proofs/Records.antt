-- The words of one record, changed as the code changes them, are those of the process and queue meant. Assumes nothing.
use Prim.Native.Nat.{ℕ, zero, suc, ◌+◌, ◌-◌, ◌*◌, ◌<◌, ◌≤◌}
use mathlib.Core.Path.{◌≡◌, refl, ap}
use mathlib.Core.List.{List, [], ◌∷◌, ◌++◌}
use native.Mathlib.Nat.{not-suc-le-zero, le_of_suc-le-suc}
use native.Mathlib.Omega.{arith}
use lib.ListN.{length, set, length-append}
use Rattle.gateway.specs.declared.State.{State}
use Rattle.gateway.specs.declared.Process.{Process}
use Rattle.gateway.specs.declared.Message.{Message}
use Rattle.gateway.specs.Row.{in_state}
use Rattle.gateway.specs.Numbers.{state_number, kind_number}
use Rattle.gateway.proofs.Numbering.{kind_back}
use Rattle.words.specs.Table.{slot_words, record_words, length_of}
use Rattle.table.specs.Inside.{oldest_of, entered, became_words, put_words, taken_words}

pub read_length : (c : ℕ) (p : Process) (q : List Message) → length_of (record_words c p q) ≡ length q
unfolding record_words
read_length c p q = refl

pub read_oldest : (c : ℕ) (p : Process) (m : Message) (q : List Message) → 1 ≤ c →
    oldest_of (record_words c p (m ∷ q)) ≡ m
unfolding record_words
read_oldest zero p m q h = absurd (not-suc-le-zero h)
read_oldest (suc c) p m q h = rw (kind_back m.kind)

pub entered_words : (c : ℕ) (p : Process) (q : List Message) (s : State) →
    entered (record_words c p q) s ≡ record_words c (in_state s p) q
unfolding record_words
entered_words c p q s = refl

pub became_record : (c : ℕ) (p p' : Process) (q : List Message) → p'.identity ≡ p.identity →
    became_words (record_words c p q) p' ≡ record_words c p' q
unfolding record_words
became_record c p p' q e = rw e

-- a message behind the others, in the first free slot
slots_put : (c : ℕ) (q : List Message) (m : Message) → length q < c →
    set (set (slot_words c q) (2 * length q) m.value) (2 * length q + 1) (kind_number m.kind)
    ≡ slot_words c (q ++ (m ∷ []))
slots_put zero q m h = absurd (not-suc-le-zero h)
slots_put (suc c) [] m h = refl
slots_put (suc c) (x ∷ q) m h =
    let value : 2 * suc (length q) ≡ suc (suc (2 * length q)) = omega arith in
    let kind : 2 * suc (length q) + 1 ≡ suc (suc (2 * length q + 1)) = omega arith in
    rw (kind, value)
    (ap (λ (t : List ℕ). x.value ∷ kind_number x.kind ∷ t) (slots_put c q m (le_of_suc-le-suc h)))

pub put_record : (c : ℕ) (p : Process) (q : List Message) (m : Message) (s : State) → length q < c →
    put_words (record_words c p q) m s ≡ record_words c (in_state s p) (q ++ (m ∷ []))
unfolding record_words
put_record c p q m s h =
    let n = length q in
    let value : 6 + 2 * n + 0 ≡ suc (suc (suc (suc (suc (suc (2 * n)))))) = omega arith in
    let kind : 6 + 2 * n + 1 ≡ suc (suc (suc (suc (suc (suc (2 * n + 1)))))) = omega arith in
    rw (kind, value, length-append q (m ∷ []))
    (ap (λ (t : List ℕ). p.identity ∷ state_number s ∷ p.d ∷ p.e ∷ kind_number p.b ∷ (n + 1) ∷ t)
    (slots_put c q m h))

-- two zeros behind are one slot more
slots_more : (c : ℕ) (q : List Message) → length q ≤ c → slot_words c q ++ (0 ∷ 0 ∷ []) ≡ slot_words (suc c) q
slots_more zero [] h = refl
slots_more zero (x ∷ q) h = absurd (not-suc-le-zero h)
slots_more (suc c) [] h = ap (λ (t : List ℕ). 0 ∷ 0 ∷ t) (slots_more c [] (omega arith))
slots_more (suc c) (x ∷ q) h =
    ap (λ (t : List ℕ). x.value ∷ kind_number x.kind ∷ t) (slots_more c q (le_of_suc-le-suc h))

pub taken_record : (c : ℕ) (p : Process) (m : Message) (q : List Message) → suc (length q) ≤ c →
    taken_words (record_words c p (m ∷ q)) ≡ record_words c p q
unfolding record_words
taken_record zero p m q h = absurd (not-suc-le-zero h)
taken_record (suc c) p m q h =
    let one_less : suc (length q) - 1 ≡ length q = omega arith in
    rw (one_less, slots_more c q (le_of_suc-le-suc h))
