-- The words of a ring that fits, of different identities, are well-formed. Assumes nothing.
use Prim.Native.Nat.{ℕ, ◌<◌}
use mathlib.Core.Path.{◌≡◌, sym, ap, ◌∙◌}
use mathlib.Core.Bool.{true}
use mathlib.Core.List.{List, ◌++◌}
use borrow.Author.Tests.{le-leb}
use Rattle.gateway.specs.declared.Process.{Process}
use Rattle.gateway.specs.declared.Message.{Message}
use Rattle.ring.specs.Ring.{Ring, queue_of}
use Rattle.ring.specs.Identities.{is_fresh}
use Rattle.ring.specs.Gateways.{proc_at}
use Rattle.ring.proofs.Scans.{all_of}
use Rattle.ring.proofs.Good.{Good}
use Rattle.ring.proofs.Identity.{same_distinct, distinct_fresh}
use Rattle.words.specs.Table.{record_words, table_words, capacity_of, record_at, read_proc}
use Rattle.words.specs.WellFormed.{long_ok, sizes_ok, ident_at, idents_ok, record_ok, records_ok, well_formed}
use Rattle.words.proofs.Records.{record_formed, proc_back}
use Rattle.words.proofs.Ranges.{Sized, sized_both}
use Rattle.words.proofs.Sound.{DistinctIn, ident_word}
use Rattle.words.proofs.Tables.{count_back, capacity_back, table_long, record_back}

all_pass : (t : List ℕ) → long_ok t ≡ true → sizes_ok t ≡ true → idents_ok t ≡ true → records_ok t ≡ true →
    well_formed t ≡ true
unfolding well_formed
all_pass t a b c d = rw (a, b, c, d)

module _ (n c : ℕ) (R : Ring Process Message) (rest : List ℕ) (s : Sized n c) (g : Good n c R)
    (d : DistinctIn n R) where
  abbrev table : List ℕ
  table = table_words n c R ++ rest

  record_is : (j : ℕ) → j < n →
      record_at table (capacity_of table) j ≡ record_words c (proc_at R j) (queue_of R j)
  record_is j h = rw (capacity_back n c R rest) (record_back n c R rest j h)

  ident_is : (j : ℕ) → j < n → (proc_at R j).identity ≡ ident_at table j
  ident_is j h =
      sym (ap (λ (p : Process). p.identity) (ap read_proc (record_is j h) ∙ proc_back c (proc_at R j) (queue_of R j)))
      ∙ ident_word table j

  pub words_formed : well_formed (table_words n c R ++ rest) ≡ true
  words_formed =
      let cn = count_back n c R rest in
      let cc = capacity_back n c R rest in
      all_pass table
      (rw (cn, cc) (le-leb _ _ (table_long n c R rest)))
      (rw (cn, cc) (sized_both n c s))
      (rw cn
      (all_of (is_fresh (ident_at table)) n
      (distinct_fresh (ident_at table) n (same_distinct n (λ j. (proc_at R j).identity) (ident_at table) ident_is d))))
      (rw cn
      (all_of (λ j. record_ok (capacity_of table) (record_at table (capacity_of table) j)) n
      (λ j h. rw (record_is j h, cc) (record_formed c (proc_at R j) (queue_of R j) (g.fitting j h)))))
