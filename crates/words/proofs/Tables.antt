-- The words of a ring: how many, and that they read back as that ring. Assumes nothing.
use Prim.Native.Nat.{ℕ, suc, ◌+◌, ◌-◌, ◌*◌, ◌<◌, ◌≤◌}
use mathlib.Core.Path.{◌≡◌, refl, sym, ap, ◌∙◌}
use mathlib.Core.List.{List, [], ◌++◌}
use native.Mathlib.Nat.{add-sub_cancel_left}
use native.Mathlib.Omega.{arith}
use lib.ListN.{length, get_or, take, drop, length-append, length-drop}
use lib.Seq.{drop_at, length-take-le, get_or-take, get_or-drop}
use Rattle.gateway.specs.declared.Process.{Process}
use Rattle.gateway.specs.declared.Message.{Message}
use Rattle.ring.specs.Ring.{Ring, queue_of}
use Rattle.ring.specs.Gateways.{starting, proc_at}
use Rattle.ring.proofs.Good.{Good}
use Rattle.words.specs.Layout.{table_head, record_width, record_place, table_length}
use Rattle.words.specs.Table.{
  record_words,
  blocks,
  table_words,
  count_of,
  capacity_of,
  record_at,
  rest_of,
  read_proc,
  read_queue,
  firsts,
  ring_of,
}
use Rattle.words.proofs.Spaces.{next_space, space_before}
use Rattle.words.proofs.Blocks.{length_blocks, block_at, firsts_list}
use Rattle.words.proofs.Records.{length_record, proc_back, queue_back}

-- a record ends within the table
pub record_inside : (c j n : ℕ) → j < n → record_place c j + record_width c ≤ table_length n c
record_inside c j n h = omega (arith, space_before table_head (record_width c) j n h)

-- a record that lies within a slice is whole
pub record_length : (t : List ℕ) (c j : ℕ) → record_place c j + record_width c ≤ length t →
    length (record_at t c j) ≡ record_width c
record_length t c j h = length-take-le (record_width c) (drop (record_place c j) t) (simp length-drop (omega arith))

-- word k of a record
pub record_word : (t : List ℕ) (c j k : ℕ) → k < record_width c →
    get_or (record_at t c j) k 0 ≡ get_or t (record_place c j + k) 0
record_word t c j k h =
    let p = record_place c j in get_or-take (record_width c) (drop p t) k 0 h ∙ get_or-drop p t k 0

-- a is where record j begins, w is how long it is
module _ (c j a w : ℕ) (at : a ≡ record_place c j) (wide : w ≡ record_width c) where
  -- behind it the next one begins
  pub next_place : a + w ≡ record_place c (j + 1)
  next_place = rw wide (next_space table_head (record_width c) j a at)

  -- the part from a to a + w is that record
  pub record_part : (t : List ℕ) → take (a + w - a) (drop a t) ≡ record_at t c j
  record_part t = rw (add-sub_cancel_left a w, wide, at)

-- the head's two words, then the records
pub past_head : (c j : ℕ) → record_place c j ≡ suc (suc (j * record_width c))
past_head c j = omega arith

module _ (n c : ℕ) (R : Ring Process Message) (rest : List ℕ) where
  abbrev record_of : ℕ → List ℕ
  record_of j = record_words c (proc_at R j) (queue_of R j)

  wide : (j : ℕ) → length (record_of j) ≡ record_width c
  wide j = length_record c (proc_at R j) (queue_of R j)

  pub count_back : count_of (table_words n c R ++ rest) ≡ n
  unfolding table_words
  count_back = refl

  pub capacity_back : capacity_of (table_words n c R ++ rest) ≡ c
  unfolding table_words
  capacity_back = refl

  pub table_long : table_length n c ≤ length (table_words n c R ++ rest)
  unfolding table_words
  table_long =
      omega (
        arith,
        length_blocks (record_width c) n record_of wide,
        length-append (blocks n record_of) rest,
      )

  pub record_back : (j : ℕ) → j < n →
      record_at (table_words n c R ++ rest) c j ≡ record_words c (proc_at R j) (queue_of R j)
  unfolding table_words
  record_back j h = rw (past_head c j) (block_at (record_width c) n record_of wide rest j h)

  pub rest_back : rest_of (table_words n c R ++ rest) ≡ rest
  unfolding table_words
  rest_back =
      rw (past_head c n)
      (drop_at (blocks n record_of) rest (n * record_width c) (length_blocks (record_width c) n record_of wide))

  -- the ring of a ring's words is that ring
  pub ring_back : Good n c R → ring_of (table_words n c R ++ rest) ≡ R
  unfolding ring_of
  ring_back g =
      let t = table_words n c R ++ rest in
      let ps : firsts n (λ j. read_proc (record_at t c j)) ≡ R.procs =
      firsts_list n R.procs (λ j. read_proc (record_at t c j)) (starting 0) g.procs
      (λ j h. rw (record_back j h) (proc_back c (proc_at R j) (queue_of R j))) in
      let qs : firsts n (λ j. read_queue (record_at t c j)) ≡ R.queues =
      firsts_list n R.queues (λ j. read_queue (record_at t c j)) [] g.queues
      (λ j h. rw (record_back j h) (queue_back c (proc_at R j) (queue_of R j) (g.fitting j h))) in
      rw (count_back, capacity_back, ps, qs)

-- two rings of one capacity with the same words are one
pub same_words : (n n' c : ℕ) (R R' : Ring Process Message) → Good n c R → Good n' c R' →
    table_words n c R ≡ table_words n' c R' → (n ≡ n') × (R ≡ R')
same_words n n' c R R' g g' e =
    let w : table_words n c R ++ [] ≡ table_words n' c R' ++ [] = ap (λ (t : List ℕ). t ++ []) e in (
      sym (count_back n c R []) ∙ ap count_of w ∙ count_back n' c R' [],
      sym (ring_back n c R [] g) ∙ ap ring_of w ∙ ring_back n' c R' [] g',
    )
