-- The states that a printed step shows are those of the ring, before the move and after it. Assumes nothing.
use Rattle.std.specs.Prelude.{Ok}
use Prim.Native.Nat.{ℕ, ◌<◌}
use mathlib.Core.Path.{◌≡◌, refl, sym, ap, subst, ◌∙◌}
use mathlib.Core.Bool.{true}
use mathlib.Core.List.{List}
use native.Mathlib.Omega.{arith}
use lib.ListN.{get_or}
use Rattle.gateway.specs.Numbers.{state_number}
use Rattle.ring.specs.Gateways.{gateways, proc_at}
use Rattle.ring.proofs.Moves.{made_is}
use Rattle.words.specs.Layout.{state_place}
use Rattle.words.specs.Table.{record_words, count_of, capacity_of, ring_of}
use Rattle.words.specs.WellFormed.{well_formed}
use Rattle.words.specs.Outcomes.{step_of}
use Rattle.words.proofs.Tables.{record_word}
use Rattle.words.proofs.Sound.{record_read}
use Rattle.words.proofs.Beside.{Beside, move_beside}
use Rattle.words.proofs.Ended.{step_done}
use Rattle.trial.specs.Trace.{Step, state_word, step_from}

-- the state word of a process of a well-formed table is the number of its state
pub word_is_state : (t : List ℕ) → well_formed t ≡ true → (j : ℕ) → j < count_of t →
    state_word t j ≡ state_number (proc_at (ring_of t) j).state
unfolding record_words
word_is_state t ok j below =
    sym (record_word t (capacity_of t) j state_place (omega arith))
    ∙ ap (λ (r : List ℕ). get_or r state_place 0) (sym (record_read t ok j below))

-- a step of process j from the table t to the table t' shows this
pub record Shows (t t' : List ℕ) (j : ℕ) (s : Step) : Type 0 where
  pub process : s.process ≡ j
  pub below : j < count_of t
  pub before : s.before ≡ state_number (proc_at (ring_of t) j).state
  pub after : s.after ≡ state_number (proc_at (ring_of t') j).state

pub step_shows : (t : List ℕ) (j : ℕ) (t' : List ℕ) → (Ok tt, t') ≡ step_of t j → Shows t t' j (step_from t t' j)
step_shows t j t' done =
    let s = step_done t j t' done in
    let below = (made_is gateways (count_of t) (capacity_of t) (ring_of t) j s.ring s.moves).0 in
    let beside = subst (Beside t) (sym s.words) (move_beside t s.formed j s.ring s.moves) in
    record {
      process = refl;
      below = below;
      before = word_is_state t s.formed j below;
      after = word_is_state t' beside.formed j (omega (arith, below, beside.count));
    }
