-- The bench program gives each refusal exactly when document 01 says, in its numbers. Assumes nothing.
use Rattle.std.specs.Prelude.{Err, Ok, Result}
use Prim.Native.Nat.{ℕ, ◌≤◌, ◌<◌}
use mathlib.Core.Path.{◌≡◌, refl, sym, ap, subst, ◌∙◌}
use mathlib.Core.Bool.{true}
use mathlib.Core.List.{List, [], ◌∷◌}
use mathlib.Core.Logic.{◌⊎◌, inl, inr, ◌↔◌}
use native.Mathlib.Decide.{dec_lt}
use native.Mathlib.Omega.{arith}
use lib.ListN.{length, get_or}
use Rattle.refusal.specs.declared.Refusal.{Refusal}
use Rattle.refusal.specs.declared.Refusal.TheVariants.{Count, Capacity, NoByte, UnknownKind, Cut}
use Rattle.refusal.specs.Numbered.{told}
use Rattle.ring.specs.Identities.{Distinct, first_repeat}
use Rattle.ring.proofs.Counting.{first_of}
use Rattle.ring.proofs.Identity.{unrepeated_distinct, distinct_unrepeated}
use Rattle.words.specs.Layout.{most_processes, most_capacity, table_length}
use Rattle.words.specs.Outcomes.{size_of, start_of}
use Rattle.words.proofs.Ranges.{range_in, range_out, range_decided}
use Rattle.words.proofs.GivenWhen.{InRange, exactly}
use Rattle.trial.specs.Input.{
  count_in,
  capacity_in,
  identity_of,
  frames_from,
  identity_at,
  identities_in,
  asked_of,
  a_ring,
}
use Rattle.trial.specs.Report.{blank}
use Rattle.trial.specs.declared.Asked.{Asked}
use Rattle.trial.proofs.Asking.{is_read, read_is, first_refused, none_refused, asked_short, asked_by_parts}
use Rattle.trial.proofs.Answers.{answer_by, answer_of}
use Rattle.trial.proofs.Started.{distinct_done, repeated_four}
use Rattle.trial.proofs.Identities.{
  Missing,
  Other,
  Short,
  Whole,
  Faulty,
  missing_read,
  active_ordered,
  other_read,
  short_read,
  whole_read,
  sorted,
}

-- byte n and byte c are there
abbrev pub Headed : List ℕ → Type 0
Headed s = 2 ≤ length s

-- and both are 1 to 16
abbrev pub Sized : List ℕ → Type 0
Sized s = Headed s × InRange (count_in s) × InRange (capacity_in s)

-- each of the n frames gives an identity
abbrev pub AllWhole : List ℕ → Type 0
AllWhole s = (i : ℕ) → i < count_in s → Whole (frames_from s i)

-- one of the n frames has this fault, and each before it gives an identity
abbrev pub First : (List ℕ → Type 0) → List ℕ → Type 0
First Fault s =
    (i : ℕ) × (i < count_in s) × ((k : ℕ) → k < i → Whole (frames_from s k)) × Fault (frames_from s i)

-- the n identities
abbrev pub identities : List ℕ → List ℕ
identities s = identities_in (count_in s) s

-- the numbers that the bench program answers by
abbrev pub Answered : ℕ → Type 0
Answered k = (k ≡ 0) ⊎ (k ≡ 1) ⊎ (k ≡ 2) ⊎ (k ≡ 4) ⊎ (k ≡ 11) ⊎ (k ≡ 12) ⊎ (k ≡ 13)

-- the number of its answer to s; with 0 the ring is run
pub record Asks (s : List ℕ) (number : ℕ) : Type 0 where
  pub one : (number ≡ 1) ↔ (Headed s × (InRange (count_in s) → ⊥))
  pub two : (number ≡ 2) ↔ (Headed s × InRange (count_in s) × (InRange (capacity_in s) → ⊥))
  pub eleven : (number ≡ 11) ↔ ((length s < 2) ⊎ (Sized s × First Missing s))
  pub twelve : (number ≡ 12) ↔ (Sized s × First Other s)
  pub thirteen : (number ≡ 13) ↔ (Sized s × First Short s)
  pub four : (number ≡ 4) ↔ (Sized s × AllWhole s × (Distinct (identities s) → ⊥))
  pub done : (number ≡ 0) ↔ (Sized s × AllWhole s × Distinct (identities s))
  pub only : Answered number

module _ (s : List ℕ) where
  abbrev number : ℕ
  number = (told (answer_of s)).number

  abbrev n : ℕ
  n = count_in s

  abbrev c : ℕ
  c = capacity_in s

  -- what is asked for decides
  as_asked : (a : Result Asked Refusal) → a ≡ asked_of s → number ≡ (told (answer_by a s)).number
  as_asked a e = ap (λ x. (told (answer_by x s)).number) (sym e)

  size_given : Sized s → size_of n c ≡ Ok (table_length n c)
  size_given h = rw (range_in most_processes n h.1, range_in most_capacity c h.2)

  -- a frame that gives an identity is read
  whole_is_read : (i : ℕ) → Whole (frames_from s i) → is_read (identity_at s i) ≡ true
  whole_is_read i w =
      let a = active_ordered (frames_from s i) w.0 in
      read_is (identity_at s i) _ (whole_read (frames_from s i) a.0 a.1 w.1)

  -- a frame that gives none decides
  first_decides : (Fault : List ℕ → Type 0) (x : List ℕ → Refusal) →
      ((f : List ℕ) → Fault f → identity_of f ≡ Err (x f)) → Sized s → (w : First Fault s) →
      number ≡ (told (Err (x (frames_from s w.0)))).number
  first_decides Fault x read h (i, below, before, fault) =
      as_asked _
      (asked_by_parts s h.0 _ (Err (x (frames_from s i))) (size_given h)
      (sym (first_refused n (identity_at s) i _ below (λ k b. whole_is_read k (before k b)) (read _ fault))))

  -- else a ring is asked for, and its start decides
  ring_asked : Sized s → AllWhole s → Ok (a_ring n c) ≡ asked_of s
  ring_asked h all =
      asked_by_parts s h.0 _ (Ok tt) (size_given h)
      (sym (none_refused n (identity_at s) (λ k b. whole_is_read k (all k b))))

  start_decides : Sized s → AllWhole s → (a : Result Unit Refusal) → (start_of blank (identities s) c).0 ≡ a →
      number ≡ (told a).number
  start_decides h all a e = as_asked (Ok (a_ring n c)) (ring_asked h all) ∙ ap (λ x. (told x).number) e

  -- the reason for each number
  abbrev AskWhy : ℕ → Type 0
  AskWhy k =
      get_or
      ((Sized s × AllWhole s × Distinct (identities s))
      ∷ (Headed s × (InRange n → ⊥))
      ∷ (Headed s × InRange n × (InRange c → ⊥))
      ∷ ⊥
      ∷ (Sized s × AllWhole s × (Distinct (identities s) → ⊥))
      ∷ ⊥ ∷ ⊥ ∷ ⊥ ∷ ⊥ ∷ ⊥ ∷ ⊥
      ∷ ((length s < 2) ⊎ (Sized s × First Missing s))
      ∷ (Sized s × First Other s)
      ∷ (Sized s × First Short s)
      ∷ [])
      k ⊥

  is_one : AskWhy 1 → number ≡ 1
  is_one w = as_asked _ (asked_by_parts s w.0 (Err Count) _ (rw (range_out most_processes n w.1)) refl)

  is_two : AskWhy 2 → number ≡ 2
  is_two w =
      as_asked _
      (asked_by_parts s w.0 (Err Capacity) _
      (rw (range_in most_processes n w.1, range_out most_capacity c w.2)) refl)

  is_eleven : AskWhy 11 → number ≡ 11
  is_eleven (inl short) = as_asked _ (asked_short s short)
  is_eleven (inr w) = first_decides Missing (λ f. NoByte) missing_read w.0 w.1

  is_twelve : AskWhy 12 → number ≡ 12
  is_twelve w = first_decides Other (λ f. UnknownKind) other_read w.0 w.1

  is_thirteen : AskWhy 13 → number ≡ 13
  is_thirteen w = first_decides Short (λ f. Cut (length f)) short_read w.0 w.1

  is_four : AskWhy 4 → number ≡ 4
  is_four w =
      start_decides w.0 w.1 _ (repeated_four s n c (sym (ring_asked w.0 w.1)) w.2)

  is_done : AskWhy 0 → number ≡ 0
  is_done w =
      start_decides w.0 w.1 _ (distinct_done s n c (sym (ring_asked w.0 w.1)) w.2)

  -- one of them, for its reason
  abbrev AskGiven : ℕ → Type 0
  AskGiven k = AskWhy k × Answered k

  ask_given : AskGiven number
  ask_given = by_length (dec_lt (length s) 2)
    where
      since : (k : ℕ) → (AskWhy k → number ≡ k) → AskWhy k → Answered k → AskGiven number
      since k f w o = subst AskGiven (sym (f w)) (w, o)

      by_repeat : Sized s → AllWhole s → Dec (first_repeat (identities s) < length (identities s)) → AskGiven number
      by_repeat h all (yes r) =
          since 4 is_four (h, all, λ d. omega (arith, distinct_unrepeated (identities s) d))
          (inr (inr (inr (inl refl))))
      by_repeat h all (no r) =
          since 0 is_done (h, all, unrepeated_distinct (identities s) (omega arith)) (inl refl)

      by_frames : Sized s → AllWhole s ⊎ First Faulty s → AskGiven number
      by_frames h (inl all) = by_repeat h all (dec_lt (first_repeat (identities s)) (length (identities s)))
      by_frames h (inr (i, b, before, inl w)) =
          since 11 is_eleven (inr (h, (i, b, before, w))) (inr (inr (inr (inr (inl refl)))))
      by_frames h (inr (i, b, before, inr (inl w))) =
          since 12 is_twelve (h, (i, b, before, w)) (inr (inr (inr (inr (inr (inl refl))))))
      by_frames h (inr (i, b, before, inr (inr w))) =
          since 13 is_thirteen (h, (i, b, before, w)) (inr (inr (inr (inr (inr (inr refl))))))

      by_size : Headed s → Dec (InRange n) → Dec (InRange c) → AskGiven number
      by_size h (no u) y = since 1 is_one (h, u) (inr (inl refl))
      by_size h (yes x) (no u) = since 2 is_two (h, x, u) (inr (inr (inl refl)))
      by_size h (yes x) (yes y) =
          by_frames (h, x, y)
          (first_of (λ i. Whole (frames_from s i)) (λ i. Faulty (frames_from s i)) n (λ i b. sorted (frames_from s i)))

      by_length : Dec (length s < 2) → AskGiven number
      by_length (yes short) = since 11 is_eleven (inl short) (inr (inr (inr (inr (inl refl)))))
      by_length (no long) = by_size (omega arith) (range_decided 16 n) (range_decided 16 c)

  -- the bench program answers exactly so, and prints what it answers (Answers.printed-exactly)
  pub asks_exactly : Asks s (told (answer_of s)).number
  asks_exactly =
      let is = exactly AskWhy number ask_given.0 in
      record {
        one = is 1 is_one;
        two = is 2 is_two;
        eleven = is 11 is_eleven;
        twelve = is 12 is_twelve;
        thirteen = is 13 is_thirteen;
        four = is 4 is_four;
        done = is 0 is_done;
        only = ask_given.1;
      }
