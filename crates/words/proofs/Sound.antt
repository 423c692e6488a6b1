-- A well-formed table is the words of its ring, which fits it, with the rest behind. Assumes nothing.
use Prim.Native.Nat.{ℕ, ◌*◌, ◌<◌, ◌≤◌}
use mathlib.Core.Path.{◌≡◌, sym, ap, ◌∙◌}
use mathlib.Core.Bool.{true, ◌&&◌}
use mathlib.Core.List.{List, [], ◌∷◌}
use native.Mathlib.Omega.{arith}
use lib.ListN.{length, take, drop}
use borrow.Author.Tests.{leb-true}
use Rattle.gateway.specs.declared.Process.{Process}
use Rattle.gateway.specs.declared.Message.{Message}
use Rattle.ring.specs.Ring.{Ring, queue_of}
use Rattle.ring.specs.Identities.{DistinctBelow, is_fresh}
use Rattle.ring.specs.Gateways.{starting, proc_at}
use Rattle.ring.proofs.Tests.{and_left, and_right}
use Rattle.ring.proofs.Scans.{all_at}
use Rattle.ring.proofs.Good.{Good}
use Rattle.ring.proofs.Identity.{same_distinct, fresh_distinct}
use Rattle.words.specs.Layout.{ident_place, record_head, record_width, table_length}
use Rattle.words.specs.Table.{
  record_words,
  table_words,
  count_of,
  capacity_of,
  record_at,
  read_proc,
  read_queue,
  length_of,
  ring_of,
}
use Rattle.words.specs.WellFormed.{long_ok, sizes_ok, ident_at, idents_ok, record_ok, records_ok, well_formed}
use Rattle.words.specs.Outcomes.{rewritten}
use Rattle.words.proofs.Ranges.{Sized, both_sized}
use Rattle.words.proofs.Blocks.{length_firsts, firsts_at, blocks_same, blocks_cut}
use Rattle.words.proofs.Records.{length_read, length_fits, record_image}
use Rattle.words.proofs.Tables.{record_inside, record_length, record_word, past_head}

-- no two processes of a ring have one identity
abbrev pub DistinctIn : ℕ → Ring Process Message → Type 0
DistinctIn n R = DistinctBelow n (λ j. (proc_at R j).identity)

-- a table that is the words of its ring, with what lies beyond behind
pub record Sound (t : List ℕ) : Type 0 where
  pub long : table_length (count_of t) (capacity_of t) ≤ length t
  pub sized : Sized (count_of t) (capacity_of t)
  pub distinct : DistinctIn (count_of t) (ring_of t)
  pub good : Good (count_of t) (capacity_of t) (ring_of t)
  pub image : t ≡ rewritten t (ring_of t)

-- the ring of a table, process by process and queue by queue --

module _ (t : List ℕ) (j : ℕ) (h : j < count_of t) where
  pub proc_read : proc_at (ring_of t) j ≡ read_proc (record_at t (capacity_of t) j)
  unfolding ring_of
  proc_read = firsts_at (count_of t) (λ j. read_proc (record_at t (capacity_of t) j)) (starting 0) j h

  pub queue_read : queue_of (ring_of t) j ≡ read_queue (record_at t (capacity_of t) j)
  unfolding ring_of
  queue_read = firsts_at (count_of t) (λ j. read_queue (record_at t (capacity_of t) j)) [] j h

-- the first word of a record is the identity
pub ident_word : (t : List ℕ) (j : ℕ) → (read_proc (record_at t (capacity_of t) j)).identity ≡ ident_at t j
ident_word t j = record_word t (capacity_of t) j ident_place (omega arith)

-- what the tests of a well-formed table tell
module _ (t : List ℕ) (ok : well_formed t ≡ true) where
  upto_idents : (long_ok t && sizes_ok t && idents_ok t) ≡ true
  unfolding well_formed
  upto_idents = and_left (long_ok t && sizes_ok t && idents_ok t) (records_ok t) ok

  upto_sizes : (long_ok t && sizes_ok t) ≡ true
  upto_sizes = and_left (long_ok t && sizes_ok t) (idents_ok t) upto_idents

  long : table_length (count_of t) (capacity_of t) ≤ length t
  long = leb-true _ _ (and_left (long_ok t) (sizes_ok t) upto_sizes)

  sized : Sized (count_of t) (capacity_of t)
  sized = both_sized (count_of t) (capacity_of t) (and_right (long_ok t) (sizes_ok t) upto_sizes)

  distinct : DistinctIn (count_of t) (ring_of t)
  distinct =
      same_distinct (count_of t) (ident_at t) (λ j. (proc_at (ring_of t) j).identity)
      (λ j h. sym (ap (λ (p : Process). p.identity) (proc_read t j h) ∙ ident_word t j))
      (fresh_distinct (ident_at t) (count_of t)
      (λ i h. all_at (is_fresh (ident_at t)) (count_of t) i h
      (and_right (long_ok t && sizes_ok t) (idents_ok t) upto_idents)))

  record_fine : (j : ℕ) → j < count_of t → record_ok (capacity_of t) (record_at t (capacity_of t) j) ≡ true
  unfolding well_formed
  record_fine j h =
      all_at (λ j. record_ok (capacity_of t) (record_at t (capacity_of t) j)) (count_of t) j h
      (and_right (long_ok t && sizes_ok t && idents_ok t) (records_ok t) ok)

  good : Good (count_of t) (capacity_of t) (ring_of t)
  unfolding ring_of
  good = record {
    procs = length_firsts (count_of t) (λ j. read_proc (record_at t (capacity_of t) j));
    queues = length_firsts (count_of t) (λ j. read_queue (record_at t (capacity_of t) j));
    fitting = λ j h. rw (queue_read t j h) (fits j h);
  }
    where
      fits : (j : ℕ) → j < count_of t → length (read_queue (record_at t (capacity_of t) j)) ≤ capacity_of t
      fits j h =
          let r = record_at t (capacity_of t) j in
          rw (length_read (length_of r) (drop record_head r)) (length_fits (capacity_of t) r (record_fine j h))

  record_whole : (j : ℕ) → j < count_of t → length (record_at t (capacity_of t) j) ≡ record_width (capacity_of t)
  record_whole j h =
      record_length t (capacity_of t) j (omega (arith, record_inside (capacity_of t) j (count_of t) h, long))

  -- a record is the words of its process and queue
  pub record_read : (j : ℕ) → j < count_of t →
      record_words (capacity_of t) (proc_at (ring_of t) j) (queue_of (ring_of t) j) ≡ record_at t (capacity_of t) j
  record_read j h =
      rw (proc_read t j h, queue_read t j h)
      (record_image (capacity_of t) (record_at t (capacity_of t) j) (record_whole j h) (record_fine j h))

-- the two words of the head, and the records behind them
module _ (n c : ℕ) (ws : List ℕ) (ok : well_formed (n ∷ c ∷ ws) ≡ true) where
  whole : n ∷ c ∷ ws ≡ rewritten (n ∷ c ∷ ws) (ring_of (n ∷ c ∷ ws))
  unfolding table_words
  whole =
      let t : List ℕ = n ∷ c ∷ ws in
      let w = record_width c in
      let room : n * w ≤ length ws = omega (arith, long t ok) in
      let R = ring_of t in
      let cut : (j : ℕ) → j < n → record_words c (proc_at R j) (queue_of R j) ≡ take w (drop (j * w) ws) =
      λ j h. rw (past_head c j) at (record_read t ok j h) in
      rw (past_head c n, blocks_same n _ _ cut) (ap (λ (x : List ℕ). n ∷ c ∷ x) (sym (blocks_cut w n ws room)))

-- a well-formed table is the words of its ring with the rest behind
pub formed_image : (t : List ℕ) → well_formed t ≡ true → t ≡ rewritten t (ring_of t)
formed_image [] ok = absurd (omega (arith, (sized [] ok).some))
formed_image (n ∷ []) ok = absurd (omega (arith, (sized (n ∷ []) ok).roomy))
formed_image (n ∷ c ∷ ws) ok = whole n c ws ok

pub formed_sound : (t : List ℕ) → well_formed t ≡ true → Sound t
formed_sound t ok = record {
  long = long t ok;
  sized = sized t ok;
  distinct = distinct t ok;
  good = good t ok;
  image = formed_image t ok;
}
