-- What a turn's writes come to is the move that the chosen process wants. Assumes nothing.
use Rattle.std.proofs.Common.{
  ◌≡◌,
  ◌∙◌,
  ◌<◌,
  ◌≤◌,
  ℕ,
  Bool,
  true,
  false,
  cond,
  List,
  [],
  ◌∷◌,
  length,
  set,
  drop,
  Some,
  Ok,
  Err,
  refl,
  sym,
  ap,
  arith,
}
use native.Mathlib.Decide.{dec_lt}
use lib.Seq.{get_or-set_same}
use lib.ListN.{get_or}
use Rattle.refusal.specs.declared.Refusal.{Refusal}
use Rattle.refusal.specs.declared.Refusal.TheVariants.{NoProcess, Empty, Full, WrongKind, Over}
use Rattle.gateway.specs.declared.State.TheVariants.{Leads}
use Rattle.gateway.specs.declared.Process.{Process}
use Rattle.gateway.specs.declared.Message.{Message}
use Rattle.gateway.specs.declared.Want as Asked
use Rattle.gateway.specs.declared.Want.TheVariants.{Puts, Takes, Announces}
use Rattle.gateway.specs.Row.{in_state, row, took}
use Rattle.gateway.proofs.Changes.{Turned, took_changes, puts_changes, announces_changes}
use Rattle.ring.specs.Ring.{Ring, Out, refused, made, puts, prev, queue_of, becoming, queueing, taking}
use Rattle.ring.specs.Gateways.{gateways, starting, proc_at, is_in, wanted}
use Rattle.ring.proofs.Moves.{Case, c_made, c_full, c_empty, c_wrong, c_over, case_of, move_in, move_out}
use Rattle.words.specs.Table.{count_of, capacity_of, ring_of}
use Rattle.words.specs.Outcomes.{rewritten, stepped}
use Rattle.words.proofs.Sound.{formed_sound}
use Rattle.table.specs.declared.turn.Turn.{Turn}
use Rattle.table.specs.Formed.{Formed}
use Rattle.table.specs.Inside.{oldest, entering, replacing, popping, refused_by, answered, turned, served, move_of}
use Rattle.table.proofs.Writes.{replaced_there, replaced_beside}

front : (q : List Message) (m : Message) → Some m ≡ oldest q → q ≡ m ∷ drop 1 q
front [] m e = cc e
front (x ∷ q) m e = let same : m ≡ x = cc e in rw same

module _ (t : List ℕ) (n c : ℕ) (f : Formed t n c) (j : ℕ) (below : j < n) where
  in_count : j < count_of t
  in_count = rw f.count at below

  -- who stands at j once it has become p
  there : (p : Process) → get_or (set (ring_of t).procs j p) j (starting 0) ≡ p
  there p =
      get_or-set_same (ring_of t).procs j p (starting 0) (omega (arith, (formed_sound t f.formed).good.procs, in_count))

  -- what the row asks is what the choice comes to
  pub by_row : (p : Process) → p ≡ proc_at (ring_of t) j → (w : Asked.Want) → w ≡ row p →
      (o : Turn × List ℕ) → o ≡ turned t j (served t j (wanted p w)) → o ≡ turned t j (move_of t j)
  by_row p ep w ew o h =
      let z : served t j (wanted p w) ≡ move_of t j =
      rw (ew, ep) (sym (move_in gateways (count_of t) (capacity_of t) (ring_of t) j in_count)) in
      h ∙ ap (turned t j) z

  module _ (p : Process) (ep : p ≡ proc_at (ring_of t) j) where
    pub by_put : (m : Message) (q : Process) → Puts m q ≡ row p → (o : Turn × List ℕ) →
        o ≡ turned t j (served t j (puts m (in_state q.state (proc_at (ring_of t) j)))) → o ≡ turned t j (move_of t j)
    by_put m q e o h =
        let went = puts_changes p m q (sym e) in
        let same : in_state q.state (proc_at (ring_of t) j) ≡ q =
        ap (in_state q.state) (sym ep) ∙ sym went.alone in
        by_row p ep (Puts m q) e o (h ∙ ap (λ (q : Process). turned t j (served t j (puts m q))) same)

    pub by_announcement : (q : Process) → Announces q ≡ row p → (last : List ℕ) → last ≡ entering t j q.state →
        (Turn.Announced, last) ≡ turned t j (move_of t j)
    by_announcement q e last h =
        let went = announces_changes p q (sym e) in
        let alone : q ≡ in_state q.state (proc_at (ring_of t) j) = went.alone ∙ ap (in_state q.state) ep in
        by_row p ep (Announces q) e (Turn.Announced, last)
        (rw (there q, went.leads) (ap (λ (l : List ℕ). (Turn.Announced, l)) (h ∙ ap (replacing t j) (sym alone))))

    -- it takes: it becomes another, and the message leaves the queue before it
    module _ (i : ℕ) (ei : i ≡ prev n j) (m : Message) (em : Some m ≡ oldest (queue_of (ring_of t) i)) (q : Process)
        (eq : Some q ≡ took p m) where
      changes : Turned p q
      changes = rw (← eq) at (took_changes p m)

      pub still_same : q.identity ≡ (proc_at (ring_of t) j).identity
      still_same = changes.same ∙ ap (λ (p : Process). p.identity) ep

      module _ (t₁ : List ℕ) (e₁ : t₁ ≡ replacing t j q) where
        ring₁ : ring_of t₁ ≡ becoming (ring_of t) j q
        ring₁ = ap ring_of e₁ ∙ replaced_there t n c f j below q still_same

        pub still_some : 1 ≤ length (queue_of (ring_of t₁) i)
        still_some = rw (ring₁, front (queue_of (ring_of t) i) m em) (omega arith)

        pub take_done : (t₂ : List ℕ) → t₂ ≡ popping t₁ i →
            (Turn.Moved, t₂) ≡ turned t j (served t j (wanted p Takes))
        take_done t₂ e₂ =
            let R = ring_of t in
            let it : queue_of R i ≡ m ∷ drop 1 (queue_of R i) = front (queue_of R i) m em in
            let back : i ≡ prev (count_of t) j = ei ∙ ap (λ (k : ℕ). prev k j) f.count in
            let words : t₂ ≡ rewritten t (taking R j i (drop 1 (queue_of R i)) q) =
            e₂ ∙ ap (λ (Q : Ring Process Message). rewritten t₁ (queueing Q i (drop 1 (queue_of Q i)))) ring₁
            ∙ ap (λ (l : List ℕ). rewritten l (taking R j i (drop 1 (queue_of R i)) q)) e₁
            ∙ replaced_beside t n c f j below q still_same (taking R j i (drop 1 (queue_of R i)) q) in
            rw (← back, it, ← eq, there q, changes.quiet) (ap (λ (l : List ℕ). (Turn.Moved, l)) words)

pub no_process : (t : List ℕ) (n c : ℕ) → Formed t n c → (j : ℕ) → n ≤ j →
    (Turn.NoProcess, t) ≡ turned t j (move_of t j)
no_process t n c f j h =
    let past : count_of t ≤ j = rw f.count at h in
    rw (move_out gateways (count_of t) (capacity_of t) (ring_of t) j past)

-- a refusal is its reason with a place
module _ (t : List ℕ) (j : ℕ) where
  abbrev Back : Refusal → Type 0
  Back x = answered (count_of t) j (refused_by x) ≡ Err x

  placed : (x : Refusal) → move_of t j ≡ refused x → Back x
  placed x e = go (dec_lt j (count_of t))
    where
      same : (y : Refusal) → move_of t j ≡ refused y → Back y → Back x
      same y h b = let z : y ≡ x = cc (sym h ∙ e) in rw z at b

      by : Case gateways (count_of t) (capacity_of t) (ring_of t) j → Back x
      by (c_made R h m) = cc (sym h ∙ e)
      by (c_full m p w f h) = same (Full j) h refl
      by (c_empty k w q h) = same (Empty j) h refl
      by (c_wrong k m q w f z h) = same (WrongKind j) h refl
      by (c_over w h) = same (Over j) h refl

      go : Dec (j < count_of t) → Back x
      go (yes l) = by (case_of gateways (count_of t) (capacity_of t) (ring_of t) j l)
      go (no l) =
          same (NoProcess (count_of t))
          (move_out gateways (count_of t) (capacity_of t) (ring_of t) j (omega arith))
          refl

  pub answer_then : (s : Turn) (t' : List ℕ) → (s, t') ≡ turned t j (move_of t j) →
      (answered (count_of t) j s, t') ≡ stepped t (move_of t j)
  answer_then s t' e = go (move_of t j) refl e
    where
      done : (b : Bool) → answered (count_of t) j (cond b Turn.Announced Turn.Moved) ≡ Ok tt
      done true = refl
      done false = refl

      go : (o : Out Process Message) → move_of t j ≡ o → (s, t') ≡ turned t j o →
          (answered (count_of t) j s, t') ≡ stepped t o
      go (refused x) h q =
          let es : s ≡ refused_by x = ap (λ (p : Turn × List ℕ). p.0) q in
          let et : t' ≡ t = ap (λ (p : Turn × List ℕ). p.1) q in
          rw (es, et, placed x h)
      go (made R) h q =
          let es : s ≡ cond (is_in Leads R j) Turn.Announced Turn.Moved = ap (λ (p : Turn × List ℕ). p.0) q in
          let et : t' ≡ rewritten t R = ap (λ (p : Turn × List ℕ). p.1) q in
          rw (es, et, done (is_in Leads R j))
