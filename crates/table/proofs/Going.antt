-- What holds of a run that stands at byte i, how a turn keeps it, and what is left of the run. Assumes nothing.
use Prim.Native.Nat.{ℕ, ◌+◌, ◌<◌, ◌≤◌}
use mathlib.Core.Path.{◌≡◌, refl, sym, ap, ◌∙◌}
use mathlib.Core.Bool.{Bool, true, false}
use mathlib.Core.List.{List, ◌∷◌}
use mathlib.Core.Logic.{◌≢◌}
use native.Mathlib.Omega.{arith}
use lib.ListN.{length, drop, length-drop}
use lib.Seq.{drop-drop}
use Rattle.ring.specs.Gateways.{has_leader, running}
use Rattle.words.specs.Table.{count_of, capacity_of, ring_of}
use Rattle.words.specs.WellFormed.{well_formed}
use Rattle.words.proofs.Beside.{Beside, beside_self, beside_on}
use Rattle.table.specs.declared.turn.Turn.{Turn}
use Rattle.table.specs.Formed.{Formed}
use Rattle.table.specs.Inside.{moved, announced, turned, move_of}
use Rattle.table.specs.Running.{run_on as left}
use Rattle.table.proofs.Running.{over, left_beside, turned_beside, ring_moved, ring_stuck, left_moved, left_stuck}

-- of a run on t₀ that stands at byte i, with the table t
pub record Going (t₀ schedule : List ℕ) (budget : ℕ) (t : List ℕ) (over : Bool) (i taken skipped : ℕ) : Type 0 where
  pub beside : Beside t₀ t
  pub long : length t ≡ length t₀
  pub upto : i ≤ length schedule
  pub paid : taken ≤ budget
  pub passed : skipped ≤ i
  pub tells : over ≡ has_leader (count_of t₀) (ring_of t)
  pub same :
      running (count_of t₀) (capacity_of t₀) (drop i schedule) (ring_of t) budget taken skipped
      ≡ running (count_of t₀) (capacity_of t₀) schedule (ring_of t₀) budget 0 0

pub going_formed : (t₀ schedule : List ℕ) (budget : ℕ) (t : List ℕ) (over : Bool) (i taken skipped : ℕ) →
    Going t₀ schedule budget t over i taken skipped → Formed t (count_of t₀) (capacity_of t₀)
going_formed t₀ schedule budget t over i taken skipped g =
    let b = g.beside in
    record { formed = b.formed; count = sym b.count; capacity = sym b.capacity }

-- before the first byte
pub going_first : (t schedule : List ℕ) (budget : ℕ) → well_formed t ≡ true → (led : Bool) → led ≡ over t →
    Going t schedule budget t led 0 0 0
going_first t schedule budget ok led e = record {
  beside = beside_self t ok;
  long = refl;
  upto = omega arith;
  paid = omega arith;
  passed = omega arith;
  tells = e;
  same = refl;
}

-- the choices behind byte i
pub next_left : (l : List ℕ) (i j : ℕ) (js : List ℕ) → drop i l ≡ j ∷ js → (i' : ℕ) → i' ≡ i + 1 → js ≡ drop i' l
next_left l i j js e i' h = rw h (sym (sym (drop-drop 1 i l) ∙ ap (λ (r : List ℕ). drop 1 r) e))

module _ (t₀ schedule : List ℕ) (budget : ℕ) (t : List ℕ) (led : Bool) (i taken skipped : ℕ)
    (g : Going t₀ schedule budget t led i taken skipped) where
  pub going_tells : led ≡ over t
  going_tells = rw g.beside.count g.tells

  -- what is left of the run is the run
  pub going_left : (rest : List ℕ) → rest ≡ drop i schedule →
      left t rest budget taken skipped ≡ left t₀ schedule budget 0 0
  going_left rest e = left_beside t₀ t g.beside rest schedule budget taken skipped 0 0 (rw e g.same)

  -- a turn --

  module _ (on : led ≡ false) (more : taken ≢ budget) (j : ℕ) (js : List ℕ) (first : drop i schedule ≡ j ∷ js)
      (m : Turn) (t' : List ℕ) (e : (m, t') ≡ turned t j (move_of t j)) where
    f : Formed t (count_of t₀) (capacity_of t₀)
    f = going_formed t₀ schedule budget t led i taken skipped g

    quiet : over t ≡ false
    quiet = sym going_tells ∙ on

    beside : Beside t t'
    beside = turned_beside t g.beside.formed j m t' e

    here : i < length schedule
    here = omega (arith, sym (length-drop i schedule) ∙ ap length first)

    next : (k s : ℕ) →
        running (count_of t) (capacity_of t) js (ring_of t') budget k s
        ≡ running (count_of t) (capacity_of t) (drop i schedule) (ring_of t) budget taken skipped →
        running (count_of t₀) (capacity_of t₀) (drop (i + 1) schedule) (ring_of t') budget k s
        ≡ running (count_of t₀) (capacity_of t₀) schedule (ring_of t₀) budget 0 0
    next k s q =
        rw (← next_left schedule i j js first (i + 1) refl) (rw (g.beside.count, g.beside.capacity) at q ∙ g.same)

    pub went : moved m ≡ true → length t' ≡ length t →
        Going t₀ schedule budget t' (announced m) (i + 1) (taken + 1) skipped
    went h kept =
        let turn = left_moved t _ _ f budget taken skipped quiet more _ j js first m t' h e in
        record {
          beside = beside_on t₀ t t' g.beside beside;
          long = kept ∙ g.long;
          upto = omega (arith, here);
          paid = omega (arith, g.paid, more);
          passed = omega (arith, g.passed);
          tells = rw (beside.count, g.beside.count) at turn.0;
          same = next (taken + 1) skipped (ring_moved t _ _ f budget taken skipped quiet more _ j js first m t' h e);
        }

    pub stayed : moved m ≡ false → Going t₀ schedule budget t' led (i + 1) taken (skipped + 1)
    stayed h =
        let turn = left_stuck t _ _ f budget taken skipped quiet more _ j js first m t' h e in
        record {
          beside = beside_on t₀ t t' g.beside beside;
          long = rw turn.0 g.long;
          upto = omega (arith, here);
          paid = g.paid;
          passed = omega (arith, g.passed);
          tells = rw turn.0 g.tells;
          same = next taken (skipped + 1) (ring_stuck t _ _ f budget taken skipped quiet more _ j js first m t' h e);
        }
