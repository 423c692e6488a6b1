-- One record: its words are as many as stated, they read back, and well-formed words are those of what they read as.
-- Assumes nothing.
use Prim.Native.Nat.{ℕ, zero, suc, ◌+◌, ◌*◌, ◌<◌, ◌≤◌}
use mathlib.Core.Path.{◌≡◌, refl, sym, ap, ◌∙◌}
use mathlib.Core.Bool.{true, ◌&&◌}
use mathlib.Core.List.{List, [], ◌∷◌}
use native.Mathlib.Nat.{not-suc-le-zero, le_of_suc-le-suc}
use native.Mathlib.Omega.{arith}
use lib.ListN.{length, get_or, drop}
use lib.Dec.{eqb, leb-suc-suc}
use borrow.Author.Tests.{leb-true, eqb-true, le-leb, le-ltb, lt-ltb}
use Rattle.gateway.specs.declared.Process.{Process}
use Rattle.gateway.specs.declared.Message.{Message}
use Rattle.gateway.specs.Numbers.{state_number, last_state, kind_number, last_kind}
use Rattle.gateway.proofs.Numbering.{state_back, state_number_of, state_small, kind_back, kind_number_of, kind_small}
use Rattle.ring.proofs.Tests.{and_left, and_right}
use Rattle.ring.proofs.Scans.{all_at, all_of}
use Rattle.words.specs.Layout.{state_place, b_place, record_head, record_width}
use Rattle.words.specs.Table.{slot_words, record_words, read_proc, read_slots, length_of, read_queue}
use Rattle.words.specs.WellFormed.{state_ok, b_ok, length_ok, slot_ok, slots_ok, record_ok}

-- lengths --

length_slots : (c : ℕ) (q : List Message) → length (slot_words c q) ≡ 2 * c
length_slots zero q = refl
length_slots (suc c) [] = omega (arith, length_slots c [])
length_slots (suc c) (m ∷ q) = omega (arith, length_slots c q)

pub length_record : (c : ℕ) (p : Process) (q : List Message) → length (record_words c p q) ≡ record_width c
unfolding record_words
length_record c p q = omega (arith, length_slots c q)

pub length_read : (n : ℕ) (s : List ℕ) → length (read_slots n s) ≡ n
length_read zero s = refl
length_read (suc n) s = ap suc (length_read n (drop 2 s))

-- a record's words read back --

pub proc_back : (c : ℕ) (p : Process) (q : List Message) → read_proc (record_words c p q) ≡ p
unfolding record_words
proc_back c p q = rw (state_back p.state, kind_back p.b)

slots_back : (c : ℕ) (q : List Message) → length q ≤ c → read_slots (length q) (slot_words c q) ≡ q
slots_back c [] h = refl
slots_back zero (m ∷ q) h = absurd (not-suc-le-zero h)
slots_back (suc c) (m ∷ q) h = rw (kind_back m.kind, slots_back c q (le_of_suc-le-suc h))

pub queue_back : (c : ℕ) (p : Process) (q : List Message) → length q ≤ c → read_queue (record_words c p q) ≡ q
unfolding record_words
queue_back c p q h = slots_back c q h

-- the test of a slot, one slot on --

module _ (v k : ℕ) (s : List ℕ) (i : ℕ) where
  next_place : (k : ℕ) → 2 * suc i + k ≡ suc (suc (2 * i + k))
  next_place k = omega arith

  next_unfilled : slot_ok 0 (v ∷ k ∷ s) (suc i) ≡ slot_ok 0 s i
  next_unfilled = rw (next_place 0, next_place 1, le-ltb (suc i) 0 (omega arith), le-ltb i 0 (omega arith))

  next_filled : (l : ℕ) → slot_ok (suc l) (v ∷ k ∷ s) (suc i) ≡ slot_ok l s i
  next_filled l = rw (next_place 0, next_place 1, leb-suc-suc (suc i) l)

-- well-formed words are those of what they read as --

slots_image : (c l : ℕ) (s : List ℕ) → length s ≡ 2 * c → l ≤ c → ((i : ℕ) → i < c → slot_ok l s i ≡ true) →
    slot_words c (read_slots l s) ≡ s
slots_image zero l [] e h ok = refl
slots_image zero l (x ∷ s) e h ok = absurd (omega arith)
slots_image (suc c) l [] e h ok = absurd (omega arith)
slots_image (suc c) l (v ∷ []) e h ok = absurd (omega arith)
slots_image (suc c) zero (v ∷ k ∷ s) e h ok =
    let z : (eqb v 0 && eqb k 0) ≡ true = ok 0 (omega arith) in
    let v0 : v ≡ 0 = eqb-true v 0 (and_left (eqb v 0) (eqb k 0) z) in
    let k0 : k ≡ 0 = eqb-true k 0 (and_right (eqb v 0) (eqb k 0) z) in
    let later : (i : ℕ) → i < c → slot_ok 0 s i ≡ true =
    λ i l. sym (next_unfilled v k s i) ∙ ok (suc i) (omega arith) in
    rw (v0, k0) (ap (λ (t : List ℕ). 0 ∷ 0 ∷ t) (slots_image c zero s (omega arith) (omega arith) later))
slots_image (suc c) (suc l) (v ∷ k ∷ s) e h ok =
    let small : k ≤ last_kind = leb-true k last_kind (rw (lt-ltb 0 (suc l) (omega arith)) at (ok 0 (omega arith))) in
    let later : (i : ℕ) → i < c → slot_ok l s i ≡ true =
    λ i b. sym (next_filled v k s i l) ∙ ok (suc i) (omega arith) in
    rw (kind_number_of k small)
    (ap (λ (t : List ℕ). v ∷ k ∷ t) (slots_image c l s (omega arith) (le_of_suc-le-suc h) later))

-- what a record's test tells
module _ (c : ℕ) (r : List ℕ) (ok : record_ok c r ≡ true) where
  upto_length : (state_ok r && b_ok r && length_ok c r) ≡ true
  upto_length = and_left (state_ok r && b_ok r && length_ok c r) (slots_ok c r) ok

  upto_b : (state_ok r && b_ok r) ≡ true
  upto_b = and_left (state_ok r && b_ok r) (length_ok c r) upto_length

  state_fits : get_or r state_place 0 ≤ last_state
  state_fits = leb-true _ _ (and_left (state_ok r) (b_ok r) upto_b)

  b_fits : get_or r b_place 0 ≤ last_kind
  b_fits = leb-true _ _ (and_right (state_ok r) (b_ok r) upto_b)

  pub length_fits : length_of r ≤ c
  length_fits = leb-true _ _ (and_right (state_ok r && b_ok r) (length_ok c r) upto_length)

  slots_fit : (i : ℕ) → i < c → slot_ok (length_of r) (drop record_head r) i ≡ true
  slots_fit i h =
      all_at (slot_ok (length_of r) (drop record_head r)) c i h
      (and_right (state_ok r && b_ok r && length_ok c r) (slots_ok c r) ok)

pub record_image : (c : ℕ) (r : List ℕ) → length r ≡ record_width c → record_ok c r ≡ true →
    record_words c (read_proc r) (read_queue r) ≡ r
unfolding record_words
record_image c [] e ok = absurd (omega arith)
record_image c (x₀ ∷ []) e ok = absurd (omega arith)
record_image c (x₀ ∷ x₁ ∷ []) e ok = absurd (omega arith)
record_image c (x₀ ∷ x₁ ∷ x₂ ∷ []) e ok = absurd (omega arith)
record_image c (x₀ ∷ x₁ ∷ x₂ ∷ x₃ ∷ []) e ok = absurd (omega arith)
record_image c (x₀ ∷ x₁ ∷ x₂ ∷ x₃ ∷ x₄ ∷ []) e ok = absurd (omega arith)
record_image c (x₀ ∷ x₁ ∷ x₂ ∷ x₃ ∷ x₄ ∷ l ∷ s) e ok =
    let r : List ℕ = x₀ ∷ x₁ ∷ x₂ ∷ x₃ ∷ x₄ ∷ l ∷ s in
    rw (
      state_number_of x₁ (state_fits c r ok),
      kind_number_of x₄ (b_fits c r ok),
      length_read l s,
      slots_image c l s (omega arith) (length_fits c r ok) (slots_fit c r ok),
    )

-- a record's words are well-formed --

slots_formed : (c : ℕ) (q : List Message) → length q ≤ c → (i : ℕ) → i < c →
    slot_ok (length q) (slot_words c q) i ≡ true
slots_formed zero q h i l = absurd (not-suc-le-zero l)
slots_formed (suc c) [] h zero l = refl
slots_formed (suc c) [] h (suc i) l =
    next_unfilled 0 0 (slot_words c []) i ∙ slots_formed c [] (omega arith) i (le_of_suc-le-suc l)
slots_formed (suc c) (m ∷ q) h zero l =
    rw (lt-ltb 0 (suc (length q)) (omega arith)) (le-leb (kind_number m.kind) last_kind (kind_small m.kind))
slots_formed (suc c) (m ∷ q) h (suc i) l =
    next_filled m.value (kind_number m.kind) (slot_words c q) i (length q)
    ∙ slots_formed c q (le_of_suc-le-suc h) i (le_of_suc-le-suc l)

pub record_formed : (c : ℕ) (p : Process) (q : List Message) → length q ≤ c → record_ok c (record_words c p q) ≡ true
unfolding record_words
record_formed c p q h =
    rw (
      le-leb (state_number p.state) last_state (state_small p.state),
      le-leb (kind_number p.b) last_kind (kind_small p.b),
      le-leb (length q) c h,
      all_of (slot_ok (length q) (slot_words c q)) c (slots_formed c q h),
    )
