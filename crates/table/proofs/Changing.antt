-- A record changed in the words of a ring is a change of that ring. Assumes nothing.
use Prim.Native.Nat.{ℕ, ◌<◌, ◌≤◌}
use mathlib.Core.Path.{◌≡◌, refl, sym, ap}
use mathlib.Core.Logic.{◌≢◌}
use mathlib.Core.List.{List, [], ◌∷◌, ◌++◌}
use native.Mathlib.Omega.{arith}
use lib.ListN.{length}
use lib.Seq.{get_or-set_same, get_or-set_other}
use Rattle.gateway.specs.declared.State.{State}
use Rattle.gateway.specs.declared.Process.{Process}
use Rattle.gateway.specs.declared.Message.{Message}
use Rattle.gateway.specs.Row.{in_state}
use Rattle.ring.specs.Ring.{Ring, queue_of, becoming, queueing, putting}
use Rattle.ring.specs.Gateways.{starting, proc_at}
use Rattle.words.specs.Layout.{record_width}
use Rattle.words.specs.Table.{record_words, table_words, record_at}
use Rattle.words.proofs.Blocks.{block_put}
use Rattle.words.proofs.Records.{length_record}
use Rattle.words.proofs.Tables.{past_head, record_back}
use Rattle.table.specs.Inside.{entered, became_words, put_words, taken_words, with_record}
use Rattle.table.proofs.Records.{entered_words, became_record, put_record, taken_record}

-- t is the words of R, and then rest
pub record Laid (t : List ℕ) (n c : ℕ) (R : Ring Process Message) (rest : List ℕ) : Type 0 where
  pub image : t ≡ table_words n c R ++ rest
  pub procs : length R.procs ≡ n
  pub queues : length R.queues ≡ n

module _ (t : List ℕ) (n c : ℕ) (R : Ring Process Message) (rest : List ℕ) (l : Laid t n c R rest)
    (j : ℕ) (below : j < n)
  where
    pub record_is : record_at t c j ≡ record_words c (proc_at R j) (queue_of R j)
    record_is = rw l.image (record_back n c R rest j below)

    -- R' is R but for process j and its queue
    changed : (R' : Ring Process Message) →
        ((k : ℕ) → k ≢ j → (proc_at R k ≡ proc_at R' k) × (queue_of R k ≡ queue_of R' k)) →
        with_record t c j (record_words c (proc_at R' j) (queue_of R' j)) ≡ table_words n c R' ++ rest
    unfolding table_words
    changed R' same =
        rw (l.image, past_head c j)
        (ap (λ (x : List ℕ). n ∷ c ∷ x)
        (block_put (record_width c) n (λ j. record_words c (proc_at R j) (queue_of R j))
        (λ j. record_words c (proc_at R' j) (queue_of R' j)) (λ j. length_record c (proc_at R j) (queue_of R j)) rest
        j below
        (λ k ne. rw ((same k ne).0, (same k ne).1))))

    -- process j becomes p
    becomes : (p : Process) →
        with_record t c j (record_words c p (queue_of R j)) ≡ table_words n c (becoming R j p) ++ rest
    becomes p =
        let e : proc_at (becoming R j p) j ≡ p =
        get_or-set_same R.procs j p (starting 0) (omega (arith, l.procs)) in
        rw e at (changed (becoming R j p) (λ k ne. (sym (get_or-set_other R.procs j k p (starting 0) ne), refl)))

    pub became : (p : Process) → p.identity ≡ (proc_at R j).identity →
        with_record t c j (became_words (record_at t c j) p) ≡ table_words n c (becoming R j p) ++ rest
    became p e = rw (record_is, became_record c (proc_at R j) p (queue_of R j) e) (becomes p)

    pub entered_is : (s : State) →
        with_record t c j (entered (record_at t c j) s)
        ≡ table_words n c (becoming R j (in_state s (proc_at R j))) ++ rest
    entered_is s = rw (record_is, entered_words c (proc_at R j) (queue_of R j) s) (becomes (in_state s (proc_at R j)))

    -- its queue loses its oldest message
    pub took_is : (m : Message) (q : List Message) → queue_of R j ≡ m ∷ q → length (queue_of R j) ≤ c →
        with_record t c j (taken_words (record_at t c j)) ≡ table_words n c (queueing R j q) ++ rest
    took_is m q e h =
        let z : queue_of (queueing R j q) j ≡ q = get_or-set_same R.queues j q [] (omega (arith, l.queues)) in
        rw (record_is, e, taken_record c (proc_at R j) m q (rw e at h))
        (rw z at (changed (queueing R j q) (λ k ne. (refl, sym (get_or-set_other R.queues j k q [] ne)))))

    -- its queue gains a message, and it goes to another state
    pub put_is : (m : Message) (s : State) → length (queue_of R j) < c →
        with_record t c j (put_words (record_at t c j) m s)
        ≡ table_words n c (putting R j m (in_state s (proc_at R j))) ++ rest
    put_is m s h =
        let p = in_state s (proc_at R j) in
        let q = queue_of R j ++ (m ∷ []) in
        let e : proc_at (putting R j m p) j ≡ p =
        get_or-set_same R.procs j p (starting 0) (omega (arith, l.procs)) in
        let z : queue_of (putting R j m p) j ≡ q = get_or-set_same R.queues j q [] (omega (arith, l.queues)) in
        rw (record_is, put_record c (proc_at R j) (queue_of R j) m s h)
        (rw (e, z) at
        (changed (putting R j m p)
        (λ k ne. (
          sym (get_or-set_other R.procs j k p (starting 0) ne),
          sym (get_or-set_other R.queues j k q [] ne),
        ))))
