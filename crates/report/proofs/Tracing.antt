-- The lines of the steps that choices take. Assumes nothing.
use Rattle.std.specs.Prelude.{Result, Ok, Err}
use Rattle.std.specs.Result.{is_ok}
use Prim.Native.Nat.{ℕ, ◌+◌, ◌*◌, ◌≤◌, ◌<◌}
use mathlib.Core.Path.{◌≡◌, refl, sym, ap, ◌∙◌}
use mathlib.Core.Bool.{true, false, true≢false}
use mathlib.Core.List.{List, ◌∷◌}
use native.Mathlib.Numerals.{add-one}
use native.Mathlib.Omega.{arith}
use lib.ListN.{length, get_or, drop, get_or-eq_default, drop_of_length-le}
use lib.Seq.{drop-cons}
use Rattle.refusal.specs.declared.Refusal.{Refusal}
use Rattle.words.specs.Layout.{state_place, record_place}
use Rattle.words.specs.Table.{capacity_of}
use Rattle.words.specs.Outcomes.{step_of}
use Rattle.trial.specs.Trace.{Step, state_word, step_from, with_step, trace_of}
use Rattle.trial.specs.Text.{step_line, step_lines}
use Rattle.report.specs.Inside.{wrote, step_room}
use Rattle.report.proofs.Laid.{wrote_both, wrote_nothing}

-- one choice is taken from those that are left
pub trace_next : (t choices : List ℕ) (i : ℕ) → i < length choices → (a : Result Unit Refusal) (t' : List ℕ) →
    (a, t') ≡ step_of t (get_or choices i 0) →
    trace_of t (drop i choices) ≡ with_step a (step_from t t' (get_or choices i 0)) (trace_of t' (drop (i + 1) choices))
unfolding trace_of
trace_next t choices i more a t' e = rw (drop-cons choices i 0 more, ← e, add-one i)

-- a choice that is refused is no step, and one that is done is
refused_lem : (a : Result Unit Refusal) → is_ok a ≡ false → (x : Step) (l : List Step) → with_step a x l ≡ l
refused_lem (Ok u) failed x l = absurd (true≢false failed)
refused_lem (Err y) failed x l = refl

done_lem : (a : Result Unit Refusal) → is_ok a ≡ true → (x : Step) (l : List Step) → with_step a x l ≡ x ∷ l
done_lem (Ok u) done x l = refl
done_lem (Err y) done x l = absurd (true≢false (sym done))

-- the buffer has so many bytes from a place on
abbrev pub Room : List ℕ → ℕ → ℕ → Type 0
Room out at bytes = at + bytes ≤ length out

-- past the last word there is none
pub state_past : (t : List ℕ) (j : ℕ) → length t ≤ record_place (capacity_of t) j + state_place → 0 ≡ state_word t j
state_past t j out = sym (get_or-eq_default t 0 out)

-- after i choices, with k the next step's number: the lines that are still to come, behind those that are there, are
-- the lines of all choices
pub record Going (t₀ choices out₀ t out : List ℕ) (at k i : ℕ) : Type 0 where
  pub upto : i ≤ length choices
  pub few : k ≤ i + 1
  pub within : at ≤ i * step_room
  pub long : length out ≡ length out₀
  pub whole : wrote out at (step_lines k (trace_of t (drop i choices)))
      ≡ wrote out₀ 0 (step_lines 1 (trace_of t₀ choices))

pub going_first : (t₀ choices out₀ : List ℕ) → Going t₀ choices out₀ t₀ out₀ 0 1 0
going_first t₀ choices out₀ = record {
  upto = omega arith;
  few = omega arith;
  within = omega arith;
  long = refl;
  whole = refl;
}

module _ (t₀ choices out₀ t out : List ℕ) (at k i : ℕ) (g : Going t₀ choices out₀ t out at k i) where
  pub gone_short : at ≤ length choices * step_room
  gone_short = omega (arith, g.within, g.upto)

  -- there is room for the line of one more
  pub step_fits : i < length choices → Room out₀ 0 (length choices * step_room) → Room out at step_room
  step_fits more fits = omega (arith, g.within, g.long, fits, more)

  -- no choice is left
  pub gone : length choices ≤ i → (at, out) ≡ wrote out₀ 0 (step_lines 1 (trace_of t₀ choices))
  unfolding trace_of
  gone all =
      sym (wrote_nothing out at)
      ∙ ap (λ (l : List ℕ). wrote out at (step_lines k (trace_of t l))) (sym (drop_of_length-le choices all))
      ∙ g.whole

  module _ (more : i < length choices) (t' : List ℕ) where
    abbrev j : ℕ
    j = get_or choices i 0

    -- what the choice answers and leaves
    module _ (a : Result Unit Refusal) (e : (a, t') ≡ step_of t j) where
      -- a refused choice puts no line
      pub stayed : is_ok a ≡ false → Going t₀ choices out₀ t' out at k (i + 1)
      stayed failed = record {
        upto = omega (arith, more);
        few = omega (arith, g.few);
        within = omega (arith, g.within);
        long = g.long;
        whole =
            ap (λ (l : List Step). wrote out at (step_lines k l))
            (sym (trace_next t choices i more a t' e ∙ refused_lem a failed _ _))
            ∙ g.whole;
      }

      -- the line of a taken step, by the state words that were read
      pub went : is_ok a ≡ true → Room out₀ 0 (length choices * step_room) → (b c : ℕ) → b ≡ state_word t j →
          c ≡ state_word t' j → (at' : ℕ) (out' : List ℕ) →
          (at', out') ≡ wrote out at (step_line k (record { process = j; before = b; after = c })) →
          at' ≤ at + step_room → length out' ≡ length out → Going t₀ choices out₀ t' out' at' (k + 1) (i + 1)
      went done fits b c was is at' out' w short same = record {
        upto = omega (arith, more);
        few = omega (arith, g.few);
        within = omega (arith, short, g.within);
        long = same ∙ g.long;
        whole =
            wrote_both out at (step_line k (record { process = j; before = b; after = c })) at' out' w
            (omega (arith, short, step_fits more fits)) (step_lines (k + 1) (trace_of t' (drop (i + 1) choices)))
            ∙ ap (λ (l : List Step). wrote out at (step_lines k l))
            (named ∙ sym (trace_next t choices i more a t' e ∙ done_lem a done _ _))
            ∙ g.whole;
      }
        where
          named : record { process = j; before = b; after = c } ∷ trace_of t' (drop (i + 1) choices)
              ≡ step_from t t' j ∷ trace_of t' (drop (i + 1) choices)
          named = rw (was, is)
