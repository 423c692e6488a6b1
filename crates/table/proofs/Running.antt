-- A run, turn by turn: what is left of it after a turn is what was left before. Assumes nothing.
use Rattle.std.proofs.Common.{
  ◌≡◌,
  ◌≢◌,
  ◌∙◌,
  ◌+◌,
  ◌<◌,
  ◌≤◌,
  ℕ,
  Bool,
  true,
  false,
  cond,
  List,
  [],
  ◌∷◌,
  length,
  Option,
  Some,
  None,
  is_some,
  refl,
  sym,
  ap,
  add-zero,
  arith,
  if◌then◌else◌,
  nat_lt,
}
use mathlib.Core.Bool.{true≢false}
use Rattle.refusal.specs.declared.Refusal.{Refusal}
use Rattle.refusal.specs.declared.Refusal.TheVariants.{
  Count,
  Capacity,
  Short,
  Repeated,
  Malformed,
  NoProcess,
  Empty,
  Full,
  WrongKind,
  Over,
  NoByte,
  UnknownKind,
  Cut,
  NoRoom,
  NoFrame,
}
use Rattle.gateway.specs.declared.State.TheVariants.{Leads}
use Rattle.gateway.specs.declared.Process.{Process}
use Rattle.gateway.specs.declared.Message.{Message}
use Rattle.ring.specs.declared.End.{End}
use Rattle.ring.specs.declared.End.TheVariants.{UsedUp, Announced, Spent}
use Rattle.ring.specs.Ring.{Ring, Out, refused, made}
use Rattle.ring.specs.Runs.{Run, ends}
use Rattle.ring.specs.Gateways.{gateways, is_in, has_leader, leader_of, running}
use Rattle.ring.proofs.Leaders.{leader_found, leader_next}
use Rattle.ring.proofs.Running.{run_over, run_used_up, run_spent, run_on}
use Rattle.words.specs.declared.Ran.{Ran}
use Rattle.words.specs.Table.{count_of, capacity_of, ring_of}
use Rattle.words.specs.WellFormed.{well_formed}
use Rattle.words.specs.Outcomes.{ended, rewritten}
use Rattle.words.proofs.Sound.{formed_image}
use Rattle.words.proofs.Beside.{Beside, beside_self, move_ring, move_beside}
use Rattle.shape.specs.Found.{found}
use Rattle.table.specs.declared.turn.Turn.{Turn}
use Rattle.table.specs.Formed.{Formed}
use Rattle.table.specs.Inside.{moved, announced, refused_by, turned, move_of}
use Rattle.table.specs.Running.{run_on as left}

-- a move tells whether it announced
tells : (b : Bool) → announced (cond b Turn.Announced Turn.Moved) ≡ b
tells true = refl
tells false = refl

-- a refusal is no move, and a move is one
quiet_refusal : (x : Refusal) → moved (refused_by x) ≡ false
quiet_refusal Count = refl
quiet_refusal Capacity = refl
quiet_refusal Short = refl
quiet_refusal (Repeated i) = refl
quiet_refusal Malformed = refl
quiet_refusal (NoProcess n) = refl
quiet_refusal (Empty j) = refl
quiet_refusal (Full j) = refl
quiet_refusal (WrongKind j) = refl
quiet_refusal (Over j) = refl
quiet_refusal NoByte = refl
quiet_refusal UnknownKind = refl
quiet_refusal (Cut k) = refl
quiet_refusal NoRoom = refl
quiet_refusal NoFrame = refl

moved_made : (b : Bool) → moved (cond b Turn.Announced Turn.Moved) ≡ true
moved_made true = refl
moved_made false = refl

-- a turn that moved made a ring, and one that did not was refused
turn_made : (t : List ℕ) (j : ℕ) (m : Turn) (t' : List ℕ) → moved m ≡ true → (m, t') ≡ turned t j (move_of t j) →
    (R : Ring Process Message)
    × (move_of t j ≡ made R) × (m ≡ cond (is_in Leads R j) Turn.Announced Turn.Moved) × (t' ≡ rewritten t R)
turn_made t j m t' went q = go (move_of t j) refl q
  where
    go : (o : Out Process Message) → move_of t j ≡ o → (m, t') ≡ turned t j o →
        (R : Ring Process Message)
        × (move_of t j ≡ made R) × (m ≡ cond (is_in Leads R j) Turn.Announced Turn.Moved) × (t' ≡ rewritten t R)
    go (refused x) h q =
        let em : m ≡ refused_by x = ap (λ (p : Turn × List ℕ). p.0) q in
        absurd (true≢false (sym went ∙ ap moved em ∙ quiet_refusal x))
    go (made R) h q = (R, h, ap (λ (p : Turn × List ℕ). p.0) q, ap (λ (p : Turn × List ℕ). p.1) q)

turn_refused : (t : List ℕ) (j : ℕ) (m : Turn) (t' : List ℕ) → moved m ≡ false → (m, t') ≡ turned t j (move_of t j) →
    (x : Refusal) × (move_of t j ≡ refused x) × (t' ≡ t)
turn_refused t j m t' stuck q = go (move_of t j) refl q
  where
    go : (o : Out Process Message) → move_of t j ≡ o → (m, t') ≡ turned t j o →
        (x : Refusal) × (move_of t j ≡ refused x) × (t' ≡ t)
    go (made R) h q =
        let em : m ≡ cond (is_in Leads R j) Turn.Announced Turn.Moved = ap (λ (p : Turn × List ℕ). p.0) q in
        absurd (true≢false (sym (ap moved em ∙ moved_made (is_in Leads R j)) ∙ stuck))
    go (refused x) h q = (x, h, ap (λ (p : Turn × List ℕ). p.1) q)

-- some process is in state 6
abbrev pub over : List ℕ → Bool
over t = has_leader (count_of t) (ring_of t)

-- a search that finds one
pub over_found : (t : List ℕ) (n c : ℕ) → Formed t n c → (r : Option ℕ) → r ≡ found n (leader_of n (ring_of t)) →
    is_some r ≡ over t
over_found t n c f r e =
    rw (e, ← f.count, leader_found n (ring_of t)) (go (nat_lt (leader_of n (ring_of t)) n))
  where
    go : (b : Bool) → is_some (if b then Some (leader_of n (ring_of t)) else None) ≡ b
    go true = refl
    go false = refl

-- a turn leaves words beside the table
pub turned_beside : (t : List ℕ) → well_formed t ≡ true → (j : ℕ) (r : Turn) (t' : List ℕ) →
    (r, t') ≡ turned t j (move_of t j) → Beside t t'
turned_beside t ok j r t' q = go (move_of t j) refl q
  where
    go : (o : Out Process Message) → move_of t j ≡ o → (r, t') ≡ turned t j o → Beside t t'
    go (refused x) h q = rw (ap (λ (p : Turn × List ℕ). p.1) q) (beside_self t ok)
    go (made R) h q = rw (ap (λ (p : Turn × List ℕ). p.1) q) (move_beside t ok j R h)

-- a table of the same shape
pub turned_formed : (t : List ℕ) (n c : ℕ) → Formed t n c → (j : ℕ) (r : Turn) (t' : List ℕ) →
    (r, t') ≡ turned t j (move_of t j) → Formed t' n c
turned_formed t n c f j r t' q =
    let b = turned_beside t f.formed j r t' q in
    record { formed = b.formed; count = f.count ∙ sym b.count; capacity = f.capacity ∙ sym b.capacity }

-- where a run of t that stands at the ring Q would end
abbrev at_ring : List ℕ → List ℕ → Ring Process Message → ℕ → ℕ → ℕ → Ran × List ℕ
at_ring t xs Q budget k s =
    let r = running (count_of t) (capacity_of t) xs Q budget k s in
    (ended r.end r.taken r.skipped, rewritten t r.ring)

-- it is the same of words that stand beside t
at_beside : (t t' : List ℕ) → Beside t t' → (xs : List ℕ) (Q : Ring Process Message) (budget k s : ℕ) →
    at_ring t' xs Q budget k s ≡ at_ring t xs Q budget k s
at_beside t t' b xs Q budget k s = rw (b.rest, b.count, b.capacity)

-- so the words' runs end alike where the rings' do
pub left_beside : (t t' : List ℕ) → Beside t t' → (xs ys : List ℕ) (budget k s k' s' : ℕ) →
    running (count_of t) (capacity_of t) xs (ring_of t') budget k s
    ≡ running (count_of t) (capacity_of t) ys (ring_of t) budget k' s' →
    left t' xs budget k s ≡ left t ys budget k' s'
left_beside t t' b xs ys budget k s k' s' e =
    at_beside t t' b xs (ring_of t') budget k s
    ∙ ap (λ (r : Run Process Message). (ended r.end r.taken r.skipped, rewritten t r.ring)) e

module _ (t : List ℕ) (n c : ℕ) (f : Formed t n c) (budget k s : ℕ) where
  -- the three ends --

  ends_here : (js : List ℕ) (e : End) →
      running (count_of t) (capacity_of t) js (ring_of t) budget k s ≡ ends (ring_of t) e k s →
      (ended e k s, t) ≡ left t js budget k s
  ends_here js e q = rw q (ap (λ (l : List ℕ). (ended e k s, l)) (formed_image t f.formed))

  pub left_over : (js : List ℕ) → over t ≡ true → (ended Announced k s, t) ≡ left t js budget k s
  left_over js on =
      ends_here js Announced
      (run_over gateways (count_of t) (capacity_of t) (has_leader (count_of t)) (ring_of t) budget k s js on)

  module _ (quiet : over t ≡ false) where
    pub left_used_up : (js : List ℕ) → length js < 1 → (ended UsedUp k s, t) ≡ left t js budget k s
    left_used_up [] h =
        ends_here [] UsedUp
        (run_used_up gateways (count_of t) (capacity_of t) (has_leader (count_of t)) (ring_of t) budget k s quiet)
    left_used_up (j ∷ js) h = absurd (omega arith)

    pub left_spent : (js : List ℕ) → 1 ≤ length js → k ≡ budget → (ended Spent k s, t) ≡ left t js budget k s
    left_spent [] h spent = absurd (omega arith)
    left_spent (j ∷ js) h spent =
        ends_here (j ∷ js) Spent
        (run_spent gateways (count_of t) (capacity_of t) (has_leader (count_of t)) (ring_of t) budget k s quiet j js
        spent)

    -- a turn --

    module _ (more : k ≢ budget) (all : List ℕ) (j : ℕ) (js : List ℕ) (e : all ≡ j ∷ js) where
      -- as the ring has it
      pub ring_moved : (m : Turn) (t' : List ℕ) → moved m ≡ true → (m, t') ≡ turned t j (move_of t j) →
          running (count_of t) (capacity_of t) js (ring_of t') budget (k + 1) s
          ≡ running (count_of t) (capacity_of t) all (ring_of t) budget k s
      ring_moved m t' went q =
          let a = turn_made t j m t' went q in
          let R = a.0 in
          let h = a.1 in
          let step = run_on gateways (count_of t) (capacity_of t) (has_leader (count_of t)) (ring_of t) budget k s quiet
          j js more (made R) h in
          rw (a.3, move_ring t f.formed j R h, e, step, add-zero s) refl

      pub ring_stuck : (m : Turn) (t' : List ℕ) → moved m ≡ false → (m, t') ≡ turned t j (move_of t j) →
          running (count_of t) (capacity_of t) js (ring_of t') budget k (s + 1)
          ≡ running (count_of t) (capacity_of t) all (ring_of t) budget k s
      ring_stuck m t' stuck q =
          let a = turn_refused t j m t' stuck q in
          let step = run_on gateways (count_of t) (capacity_of t) (has_leader (count_of t)) (ring_of t) budget k s quiet
          j js more (refused a.0) a.1 in
          rw (a.2, e, step, add-zero k) refl

      -- as the words have it
      pub left_moved : (m : Turn) (t' : List ℕ) → moved m ≡ true → (m, t') ≡ turned t j (move_of t j) →
          (announced m ≡ over t') × (left t' js budget (k + 1) s ≡ left t all budget k s)
      left_moved m t' went q =
          let a = turn_made t j m t' went q in (
            told a.0 a.1 a.2 a.3,
            left_beside t t' (turned_beside t f.formed j m t' q) js all budget (k + 1) s k s (ring_moved m t' went q),
          )
        where
          told : (R : Ring Process Message) → move_of t j ≡ made R →
              m ≡ cond (is_in Leads R j) Turn.Announced Turn.Moved → t' ≡ rewritten t R → announced m ≡ over t'
          told R h em et =
              rw (em, et, (move_beside t f.formed j R h).count, move_ring t f.formed j R h)
              (tells (is_in Leads R j) ∙ leader_next (count_of t) (capacity_of t) (ring_of t) j R h quiet)

      pub left_stuck : (m : Turn) (t' : List ℕ) → moved m ≡ false → (m, t') ≡ turned t j (move_of t j) →
          (t' ≡ t) × (left t' js budget k (s + 1) ≡ left t all budget k s)
      left_stuck m t' stuck q = (
        (turn_refused t j m t' stuck q).2,
        left_beside t t' (turned_beside t f.formed j m t' q) js all budget k (s + 1) k s (ring_stuck m t' stuck q),
      )
