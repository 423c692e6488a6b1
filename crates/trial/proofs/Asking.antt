-- What an input asks for: by the header's length, then its numbers, then the frames in order. Assumes nothing.
use Rattle.std.specs.Prelude.{Err, Ok, Result}
use Prim.Native.Nat.{ℕ, zero, suc, ◌≤◌, ◌<◌}
use mathlib.Core.Path.{◌≡◌, refl, sym, ap, ap₂, ◌∙◌}
use mathlib.Core.Bool.{Bool, true, false, true≢false, cond}
use mathlib.Core.List.{List}
use native.Mathlib.Omega.{arith}
use lib.Dec.{ltb}
use lib.ListN.{length}
use borrow.Author.Tests.{lt-ltb, le-ltb}
use Rattle.refusal.specs.declared.Refusal.{Refusal}
use Rattle.refusal.specs.declared.Refusal.TheVariants.{NoByte}
use Rattle.gateway.specs.declared.Message.{Message}
use Rattle.words.specs.Outcomes.{size_of}
use Rattle.words.proofs.Ranges.{Sized, both_sized}
use Rattle.words.proofs.Sizes.{words_in}
use Rattle.trial.specs.Input.{
  header_length,
  count_in,
  capacity_in,
  identity_at,
  unless,
  in_turn,
  asked_by,
  asked_of,
  a_ring,
}
use Rattle.trial.specs.declared.Asked.{Asked}

-- frames in order --

-- the frame was read
abbrev pub is_read : Result Message Refusal → Bool
is_read (Ok m) = true
is_read (Err x) = false

pub read_is : (r : Result Message Refusal) (m : Message) → r ≡ Ok m → is_read r ≡ true
read_is r m e = ap is_read e

-- a frame that was read leaves the answer to those behind it
unless_read : (r : Result Message Refusal) (later : Result Unit Refusal) → is_read r ≡ true → unless r later ≡ later
unless_read (Ok m) later e = refl
unless_read (Err x) later e = absurd (true≢false (sym e))

-- the first that is refused decides
pub first_refused : (n : ℕ) (f : ℕ → Result Message Refusal) (i : ℕ) (x : Refusal) → i < n →
    ((k : ℕ) → k < i → is_read (f k) ≡ true) → f i ≡ Err x → Err x ≡ in_turn n f
first_refused zero f i x below read e = absurd (omega (arith, below))
first_refused (suc n) f zero x below read e = ap (λ r. unless r (in_turn n (λ i. f (suc i)))) (sym e)
first_refused (suc n) f (suc i) x below read e =
    first_refused n (λ k. f (suc k)) i x (omega (arith, below)) (λ k b. read (suc k) (omega (arith, b))) e
    ∙ sym (unless_read (f 0) _ (read 0 (omega arith)))

-- none is refused
pub none_refused : (n : ℕ) (f : ℕ → Result Message Refusal) →
    ((k : ℕ) → k < n → is_read (f k) ≡ true) → Ok tt ≡ in_turn n f
none_refused zero f read = refl
none_refused (suc n) f read =
    none_refused n (λ k. f (suc k)) (λ k b. read (suc k) (omega (arith, b)))
    ∙ sym (unless_read (f 0) _ (read 0 (omega arith)))

-- the whole input --

-- what n, c and the frames ask for
abbrev pub asked_from : ℕ → ℕ → List ℕ → Result Asked Refusal
asked_from n c s = asked_by (size_of n c) (in_turn n (identity_at s)) n c

-- a header byte is missing
pub asked_short : (s : List ℕ) → length s < header_length → Err NoByte ≡ asked_of s
unfolding asked_of
asked_short s short = rw (lt-ltb _ _ short)

module _ (s : List ℕ) where
  abbrev n : ℕ
  n = count_in s

  abbrev c : ℕ
  c = capacity_in s

  module _ (long : header_length ≤ length s) where
    -- the header's numbers decide, then the frames
    pub asked_headed : asked_from n c s ≡ asked_of s
    unfolding asked_of
    asked_headed = rw (le-ltb _ _ long)

    -- by the size and the answer that they come to
    pub asked_by_parts : (z : Result ℕ Refusal) (a : Result Unit Refusal) → size_of n c ≡ z →
        in_turn n (identity_at s) ≡ a → asked_by z a n c ≡ asked_of s
    asked_by_parts z a e f = ap₂ (λ z a. asked_by z a n c) (sym e) (sym f) ∙ asked_headed

-- a ring that is asked for is within the limits, and of the header's numbers
pub asked_ring : (s : List ℕ) (n c : ℕ) → asked_of s ≡ Ok (a_ring n c) →
    Sized n c × (n ≡ count_in s) × (c ≡ capacity_in s)
unfolding asked_of
asked_ring s n c e =
    go (ltb (length s) header_length) (size_of (count_in s) (capacity_in s)) refl
    (in_turn (count_in s) (identity_at s)) e
  where
    go : (short : Bool) (z : Result ℕ Refusal) → size_of (count_in s) (capacity_in s) ≡ z →
        (frames : Result Unit Refusal) →
        cond short (Err NoByte) (asked_by z frames (count_in s) (capacity_in s)) ≡ Ok (a_ring n c) →
        Sized n c × (n ≡ count_in s) × (c ≡ capacity_in s)
    go true z q frames e = absurd (true≢false cc)
    go false (Err x) q frames e = absurd (true≢false cc)
    go false (Ok w) q (Err x) e = absurd (true≢false cc)
    go false (Ok w) q (Ok y) e =
        let same : a_ring (count_in s) (capacity_in s) ≡ a_ring n c = cc in
        let m : count_in s ≡ n = ap (λ (a : Asked). a.count) same in
        let d : capacity_in s ≡ c = ap (λ (a : Asked). a.capacity) same in
        let sized = both_sized (count_in s) (capacity_in s) (words_in (count_in s) (capacity_in s) w (sym q)).1 in
        (rw (m, d) at sized, sym m, sym d)
