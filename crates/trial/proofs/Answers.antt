-- What the bench program answers to an input, and what it prints of the answer. Assumes nothing.
use Rattle.std.specs.Prelude.{Err, Ok, Option, Result}
use Prim.Native.Nat.{ℕ, ◌+◌, ◌*◌, ◌-◌}
use Prim.Native.Char.{code}
use mathlib.Core.Path.{◌≡◌, refl, sym, ap, subst, ◌∙◌}
use mathlib.Core.Bool.{true, true≢false, cond}
use mathlib.Core.List.{List, [], ◌∷◌, ◌++◌}
use mathlib.Core.Logic.{◌↔◌}
use native.Mathlib.Omega.{arith}
use lib.Dec.{eqb}
use lib.ListN.{get_or, take}
use Rattle.refusal.specs.declared.Refusal.{Refusal}
use Rattle.refusal.specs.declared.Refusal.TheVariants.{
  Count,
  Capacity,
  Short,
  Repeated,
  Malformed,
  NoProcess,
  Empty,
  Full,
  WrongKind,
  Over,
  NoByte,
  UnknownKind,
  Cut,
  NoRoom,
  NoFrame,
}
use Rattle.refusal.specs.Numbered.{numbered, told}
use Rattle.refusal.proofs.Apart.{numbered_never_zero}
use Rattle.words.specs.WellFormed.{well_formed}
use Rattle.words.specs.Outcomes.{start_of, run_of, leads_of, run_told}
use Rattle.words.specs.declared.Ran.{Ran}
use Rattle.words.specs.declared.Leader.{Leader}
use Rattle.words.proofs.Starts.{start_formed}
use Rattle.words.proofs.GivenWhen.{run_exactly}
use Rattle.trial.specs.Input.{identities_in, schedule_in, asked_of, a_ring}
use Rattle.trial.specs.Trace.{Step, trace_of}
use Rattle.trial.specs.Text.{ascii, digit, digits_in, labelled, refused_line, step_lines, end_line}
use Rattle.trial.specs.Report.{budget, blank, run_text, start_text, asked_text, text_of}
use Rattle.trial.specs.declared.Asked.{Asked}

-- what is asked for is refused, or its start answers
abbrev pub answer_by : Result Asked Refusal → List ℕ → Result Unit Refusal
answer_by (Err x) s = Err x
answer_by (Ok a) s = (start_of blank (identities_in a.count s) a.capacity).0

-- what the bench program answers to an input
abbrev pub answer_of : List ℕ → Result Unit Refusal
answer_of s = answer_by (asked_of s) s

-- a refusal prints its line
pub refused_printed : (s : List ℕ) (x : Refusal) → answer_of s ≡ Err x → text_of s ≡ refused_line x
unfolding text_of
refused_printed s x e = by_asked (asked_of s) e
  where
    by_start : (n : ℕ) (o : Result Unit Refusal × List ℕ) → o.0 ≡ Err x →
        start_text o (schedule_in n s) (budget n) ≡ refused_line x
    by_start n (Err y, t) e = ap refused_line (let z : y ≡ x = cc in z)
    by_start n (Ok x, t) e = absurd (true≢false cc)

    by_asked : (a : Result Asked Refusal) → answer_by a s ≡ Err x → asked_text a s ≡ refused_line x
    by_asked (Err y) e = ap refused_line (let z : y ≡ x = cc in z)
    by_asked (Ok a) e = by_start a.count (start_of blank (identities_in a.count s) a.capacity) e

-- the ring that s asks for is started, and the text is of its run
pub record Starting (s : List ℕ) : Type 0 where
  pub count : ℕ
  pub capacity : ℕ
  pub table : List ℕ
  pub asked : asked_of s ≡ Ok (a_ring count capacity)
  pub started : (Ok tt, table) ≡ start_of blank (identities_in count s) capacity
  pub printed : text_of s ≡ run_text table (schedule_in count s) (run_of table (schedule_in count s) (budget count))

-- what is not refused is started and run
pub done_printed : (s : List ℕ) → answer_of s ≡ Ok tt → Starting s
unfolding text_of
done_printed s e = by_asked (asked_of s) refl e
  where
    by_start : (n c : ℕ) → asked_of s ≡ Ok (a_ring n c) → (o : Result Unit Refusal × List ℕ) →
        o ≡ start_of blank (identities_in n s) c → o.0 ≡ Ok tt → Starting s
    by_start n c q (Err y, t) r e = absurd (true≢false cc)
    by_start n c q (Ok x, t) r e =
        record {
          count = n;
          capacity = c;
          table = t;
          asked = q;
          started = r;
          printed = ap (λ a. asked_text a s) q ∙ ap (λ o. start_text o (schedule_in n s) (budget n)) (sym r);
        }

    by_asked : (a : Result Asked Refusal) → asked_of s ≡ a → answer_by a s ≡ Ok tt → Starting s
    by_asked (Err y) q e = absurd (true≢false cc)
    by_asked (Ok a) q e =
        by_start a.count a.capacity q (start_of blank (identities_in a.count s) a.capacity) refl e

-- the text tells the answer --

-- the number in a line of a refusal
abbrev line_number : List ℕ → ℕ
line_number l =
    cond (eqb (get_or l 9 0) (code "\n")) (get_or l 8 0 - digit 0)
    (10 * (get_or l 8 0 - digit 0) + (get_or l 9 0 - digit 0))

refused_line_number : (x : Refusal) → line_number (refused_line x) ≡ (numbered x).number
unfolding digits_in
refused_line_number Count = refl
refused_line_number Capacity = refl
refused_line_number Short = refl
refused_line_number (Repeated i) = refl
refused_line_number Malformed = refl
refused_line_number (NoProcess n) = refl
refused_line_number (Empty j) = refl
refused_line_number (Full j) = refl
refused_line_number (WrongKind j) = refl
refused_line_number (Over j) = refl
refused_line_number NoByte = refl
refused_line_number UnknownKind = refl
refused_line_number (Cut k) = refl
refused_line_number NoRoom = refl
refused_line_number NoFrame = refl

-- the text of a run that ended does not begin as a refusal's does
ended_begins : (r : Ran) (who : Result (Option Leader) Refusal) (steps : List Step) (x : Refusal) →
    step_lines 1 steps ++ end_line r who ≡ refused_line x → ⊥
unfolding digits_in
ended_begins r who [] x q = omega (arith, ap (λ l. get_or l 0 0) q)
ended_begins r who (y ∷ l) x q = omega (arith, ap (λ l. get_or l 0 0) q)

run_begins : (t schedule : List ℕ) (b : ℕ) (x : Refusal) → well_formed t ≡ true →
    run_text t schedule (run_of t schedule b) ≡ refused_line x → ⊥
run_begins t schedule b x formed q = go (run_of t schedule b) refl q
  where
    go : (r : Result Ran Refusal × List ℕ) → run_of t schedule b ≡ r → run_text t schedule r ≡ refused_line x → ⊥
    go (Ok r, t') f q = ended_begins r (leads_of t') (trace_of t (take (r.taken + r.skipped) schedule)) x q
    go (Err y, t') f q =
        let only = (run_exactly t schedule b).only in
        let zero = only.done (λ five. true≢false (sym formed ∙ only.five.0 five)) in
        omega (arith, zero, ap (λ r. (run_told r.0).number) f, numbered_never_zero y)

-- a refusal is printed exactly where its number is answered
pub printed_exactly : (s : List ℕ) (x : Refusal) →
    (text_of s ≡ refused_line x) ↔ ((told (answer_of s)).number ≡ (numbered x).number)
printed_exactly s x = go (answer_of s) refl
  where
    run : Starting s → text_of s ≡ refused_line x → ⊥
    run d q =
        let ids = identities_in d.count s in
        let formed : well_formed d.table ≡ true =
        subst (λ (o : Result Unit Refusal × List ℕ). well_formed o.1 ≡ true) (sym d.started)
        (start_formed blank ids d.capacity (sym (ap (λ o. o.0) d.started))) in
        run_begins d.table (schedule_in d.count s) (budget d.count) x formed (sym d.printed ∙ q)

    go : (a : Result Unit Refusal) → answer_of s ≡ a →
        (text_of s ≡ refused_line x) ↔ ((told a).number ≡ (numbered x).number)
    go (Err y) e = (
      λ q. sym (refused_line_number y) ∙ ap line_number (sym (refused_printed s y e) ∙ q) ∙ refused_line_number x,
      λ q. refused_printed s y e ∙ ap (λ k. labelled "refused " k ++ ascii "\n") q,
    )
    go (Ok y) e = (λ q. absurd (run (done_printed s e) q), λ q. absurd (omega (arith, q, numbered_never_zero x)))
