-- What each write makes of a table that is known to be well-formed: another that is, of another ring. Assumes nothing.
use Rattle.std.proofs.Common.{
  ◌≡◌,
  ◌∙◌,
  ◌+◌,
  ◌<◌,
  ◌≤◌,
  ℕ,
  List,
  [],
  ◌∷◌,
  ◌++◌,
  length,
  drop,
  length-drop,
  Some,
  None,
  refl,
  sym,
  ap,
  arith,
}
use Rattle.gateway.specs.declared.State.{State}
use Rattle.gateway.specs.declared.Process.{Process}
use Rattle.gateway.specs.declared.Message.{Message}
use Rattle.gateway.specs.Row.{in_state}
use Rattle.ring.specs.Ring.{Ring, queue_of, becoming, queueing}
use Rattle.ring.specs.Gateways.{proc_at}
use Rattle.words.specs.Layout.{record_head, slot_width, most_capacity, record_width, record_place, table_length}
use Rattle.words.specs.Table.{table_words, record_at, rest_of, read_proc, length_of, ring_of, count_of, capacity_of}
use Rattle.words.specs.Outcomes.{rewritten}
use Rattle.words.proofs.Sound.{Sound, formed_sound}
use Rattle.words.proofs.Records.{proc_back}
use Rattle.words.proofs.Tables.{record_inside, record_length}
use Rattle.words.proofs.Kept.{Fits, fits}
use Rattle.words.proofs.Beside.{ring_there, beside_there}
use Rattle.table.specs.Formed.{Formed}
use Rattle.table.specs.Inside.{
  oldest_of,
  oldest,
  entered,
  became_words,
  put_words,
  taken_words,
  free_place,
  with_record,
  entering,
  replacing,
  pushing,
  popping,
}
use Rattle.table.proofs.Records.{read_length, read_oldest}
use Rattle.table.proofs.Changing.{Laid, record_is, became, entered_is, took_is, put_is}
use Rattle.table.proofs.Fitting.{becoming_fits, queueing_fits, putting_fits}

module _ (t : List ℕ) (n c : ℕ) (f : Formed t n c) where
  so : Sound t
  so = formed_sound t f.formed

  pub long : table_length n c ≤ length t
  long = rw (f.count, f.capacity) so.long

  laid : Laid t n c (ring_of t) (rest_of t)
  laid = rw (f.count, f.capacity) (record { image = so.image; procs = so.good.procs; queues = so.good.queues })

  fit : Fits n c (ring_of t)
  fit = rw (f.count, f.capacity) (fits t f.formed)

  rewrites : (R : Ring Process Message) (last : List ℕ) → last ≡ table_words n c R ++ rest_of t → last ≡ rewritten t R
  rewrites R last e = rw (f.count, f.capacity) at e

  -- the words of another ring that fits
  module _ (R : Ring Process Message) (g : Fits n c R) where
    fits_there : Fits (count_of t) (capacity_of t) R
    fits_there = rw (f.count, f.capacity) at g

    pub formed_there : Formed (rewritten t R) n c
    formed_there =
        let b = beside_there t f.formed R fits_there in
        record { formed = b.formed; count = f.count ∙ sym b.count; capacity = f.capacity ∙ sym b.capacity }

    pub ring_is : ring_of (rewritten t R) ≡ R
    ring_is = ring_there t f.formed R fits_there

  module _ (j : ℕ) (below : j < n) where
    pub inside : record_place c j + record_width c ≤ length t
    inside = omega (arith, record_inside c j n below, long)

    -- a record of the table, as its ring has it
    pub read_is : read_proc (record_at t c j) ≡ proc_at (ring_of t) j
    read_is =
        ap read_proc (record_is t n c (ring_of t) (rest_of t) laid j below)
        ∙ proc_back c (proc_at (ring_of t) j) (queue_of (ring_of t) j)

    pub length_is : length_of (record_at t c j) ≡ length (queue_of (ring_of t) j)
    length_is =
        ap length_of (record_is t n c (ring_of t) (rest_of t) laid j below)
        ∙ read_length c (proc_at (ring_of t) j) (queue_of (ring_of t) j)

    queue_fits : length (queue_of (ring_of t) j) ≤ c
    queue_fits = fit.0.fitting j below

    length_whole : length (record_at t c j) ≡ record_width c
    length_whole = record_length t c j inside

    pub oldest_none : length_of (record_at t c j) ≡ 0 → None ≡ oldest (queue_of (ring_of t) j)
    oldest_none e = go (queue_of (ring_of t) j) (sym length_is ∙ e)
      where
        go : (q : List Message) → length q ≡ 0 → None ≡ oldest q
        go [] h = refl
        go (m ∷ q) h = absurd (omega arith)

    pub oldest_some : 1 ≤ c → (length_of (record_at t c j) ≡ 0 → ⊥) →
        Some (oldest_of (record_at t c j)) ≡ oldest (queue_of (ring_of t) j)
    oldest_some roomy some = go (queue_of (ring_of t) j) refl
      where
        go : (q : List Message) → queue_of (ring_of t) j ≡ q →
            Some (oldest_of (record_at t c j)) ≡ oldest (queue_of (ring_of t) j)
        go [] h = absurd (some (length_is ∙ ap length h))
        go (m ∷ q) h =
            rw (record_is t n c (ring_of t) (rest_of t) laid j below, h)
            (ap Some (read_oldest c (proc_at (ring_of t) j) m q roomy))

    -- what pushing and popping ask of the record
    pub push_asks : c ≤ most_capacity → length (queue_of (ring_of t) j) < c →
        (free_place (record_at t c j) + slot_width ≤ length (record_at t c j))
        × (length_of (record_at t c j) < most_capacity)
    push_asks small room = rw (length_whole, length_is) (omega arith, omega arith)

    pub pop_asks : 1 ≤ c → 1 ≤ length (queue_of (ring_of t) j) →
        (record_head + slot_width ≤ length (record_at t c j)) × (1 ≤ length_of (record_at t c j))
    pop_asks roomy some = rw (length_whole, length_is) (omega arith, omega arith)

    -- the four writes
    pub entered_now : (s : State) → with_record t c j (entered (record_at t c j) s) ≡ entering t j s
    entered_now s = rewrites _ _ (entered_is t n c (ring_of t) (rest_of t) laid j below s)

    pub entered_formed : (s : State) → Formed (entering t j s) n c
    entered_formed s = formed_there _ (becoming_fits n c (ring_of t) fit j (in_state s (proc_at (ring_of t) j)) refl)

    module _ (p : Process) (same : p.identity ≡ (proc_at (ring_of t) j).identity) where
      pub replaced_now : with_record t c j (became_words (record_at t c j) p) ≡ replacing t j p
      replaced_now = rewrites _ _ (became t n c (ring_of t) (rest_of t) laid j below p same)

      becoming_here : Fits n c (becoming (ring_of t) j p)
      becoming_here = becoming_fits n c (ring_of t) fit j p same

      pub replaced_formed : Formed (replacing t j p) n c
      replaced_formed = formed_there _ becoming_here

      pub replaced_there : ring_of (replacing t j p) ≡ becoming (ring_of t) j p
      replaced_there = ring_is _ becoming_here

      -- another ring's words in its place stand in that of t
      pub replaced_beside : (R : Ring Process Message) → rewritten (replacing t j p) R ≡ rewritten t R
      replaced_beside R =
          let b = beside_there t f.formed (becoming (ring_of t) j p) (fits_there _ becoming_here) in
          rw (b.rest, b.count, b.capacity)

    module _ (m : Message) (s : State) (room : length (queue_of (ring_of t) j) < c) where
      pub pushed_now : with_record t c j (put_words (record_at t c j) m s) ≡ pushing t j m s
      pushed_now = rewrites _ _ (put_is t n c (ring_of t) (rest_of t) laid j below m s room)

      pub pushed_formed : Formed (pushing t j m s) n c
      pushed_formed =
          formed_there _ (putting_fits n c (ring_of t) fit j m (in_state s (proc_at (ring_of t) j)) below room refl)

    module _ (some : 1 ≤ length (queue_of (ring_of t) j)) where
      pub popped_now : with_record t c j (taken_words (record_at t c j)) ≡ popping t j
      popped_now = go (queue_of (ring_of t) j) refl some
        where
          go : (q : List Message) → queue_of (ring_of t) j ≡ q → 1 ≤ length q →
              with_record t c j (taken_words (record_at t c j)) ≡ popping t j
          go [] e h = absurd (omega arith)
          go (m ∷ q) e h =
              rw e
              (rewrites (queueing (ring_of t) j q) _
              (took_is t n c (ring_of t) (rest_of t) laid j below m q e queue_fits))

      pub popped_formed : Formed (popping t j) n c
      popped_formed =
          formed_there _
          (queueing_fits n c (ring_of t) fit j (drop 1 (queue_of (ring_of t) j)) below
          (omega (arith, queue_fits, length-drop 1 (queue_of (ring_of t) j))))
