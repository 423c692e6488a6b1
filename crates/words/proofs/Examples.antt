-- Document 01's refusals, rows and named mistakes at small tables, computed. Assumes nothing.
use Rattle.std.specs.Prelude.{None, Ok, Some}
use Prim.Native.Nat.{ℕ}
use mathlib.Core.Path.{◌≡◌, refl}
use mathlib.Core.List.{List, [], ◌∷◌}
use native.Mathlib.Decide.{dec_lt, ℕ_discrete}
use lib.ListN.{replicate}
use Rattle.refusal.specs.Numbered.{tell}
use Rattle.ring.specs.Ring.{move}
use Rattle.ring.specs.Runs.{run_from}
use Rattle.ring.specs.Gateways.{started, has_leader, leader_of}
use Rattle.ring.specs.declared.End.TheVariants.{Announced, Spent, UsedUp}
use Rattle.words.specs.Table.{record_words, table_words, ring_of}
use Rattle.words.specs.WellFormed.{well_formed}
use Rattle.words.specs.Outcomes.{start_of, step_of, run_of, run_told, leads_of, lead_told, ended, leader}
use Rattle.words.proofs.GivenWhen.{start_told, step_told}

-- a start's refusals, each before those behind it
pub record Starts : Type 0 where
  pub no_identity : start_told [] [] 0 ≡ tell 1 0
  pub many_identities : start_told [] (replicate 17 5) 0 ≡ tell 1 0
  pub no_capacity : start_told [] (5 ∷ 5 ∷ []) 0 ≡ tell 2 0
  pub large_capacity : start_told [] (5 ∷ 5 ∷ []) 17 ≡ tell 2 0
  pub short : start_told (replicate 17 3) (5 ∷ 5 ∷ []) 1 ≡ tell 3 0
  pub repeated : start_told (replicate 18 3) (5 ∷ 5 ∷ []) 1 ≡ tell 4 1
  -- each of them leaves every word
  pub one_leaves : (start_of (3 ∷ []) [] 1).1 ≡ 3 ∷ []
  pub two_leaves : (start_of (3 ∷ []) (5 ∷ []) 0).1 ≡ 3 ∷ []
  pub three_leaves : (start_of (3 ∷ []) (5 ∷ []) 1).1 ≡ 3 ∷ []
  pub four_leaves : (start_of (replicate 18 3) (5 ∷ 5 ∷ []) 1).1 ≡ replicate 18 3
  -- every slot word is written, and no word beyond the table
  pub cleared : (start_of (replicate 13 3) (5 ∷ []) 2).1
      ≡ 1 ∷ 2 ∷ 5 ∷ 0 ∷ 5 ∷ 0 ∷ 0 ∷ 0 ∷ 0 ∷ 0 ∷ 0 ∷ 0 ∷ 3 ∷ []

pub starts : Starts
unfolding start_of table_words record_words started
starts = record {
  no_identity = refl;
  many_identities = refl;
  no_capacity = refl;
  large_capacity = refl;
  short = refl;
  repeated = refl;
  one_leaves = refl;
  two_leaves = refl;
  three_leaves = refl;
  four_leaves = refl;
  cleared = refl;
}

pub record Steps : Type 0 where
  -- the mistake "at least" in state 3: this goes to state 4
  pub equal_relays : (step_of (1 ∷ 1 ∷ 7 ∷ 3 ∷ 1 ∷ 2 ∷ 0 ∷ 1 ∷ 2 ∷ 0 ∷ []) 0).1
      ≡ 1 ∷ 1 ∷ 7 ∷ 4 ∷ 1 ∷ 2 ∷ 0 ∷ 0 ∷ 0 ∷ 0 ∷ []
  -- a take moves the others down, with zeros behind; a relay keeps the kind
  pub moved_down : (step_of (1 ∷ 2 ∷ 7 ∷ 4 ∷ 7 ∷ 7 ∷ 0 ∷ 2 ∷ 8 ∷ 1 ∷ 3 ∷ 0 ∷ []) 0).1
      ≡ 1 ∷ 2 ∷ 7 ∷ 5 ∷ 8 ∷ 7 ∷ 1 ∷ 1 ∷ 3 ∷ 0 ∷ 0 ∷ 0 ∷ []
  -- a put fills the first free slot, and no word beyond the table
  pub put_behind : (step_of (1 ∷ 2 ∷ 7 ∷ 5 ∷ 8 ∷ 7 ∷ 1 ∷ 1 ∷ 3 ∷ 0 ∷ 0 ∷ 0 ∷ 42 ∷ []) 0).1
      ≡ 1 ∷ 2 ∷ 7 ∷ 4 ∷ 8 ∷ 7 ∷ 1 ∷ 2 ∷ 3 ∷ 0 ∷ 8 ∷ 1 ∷ 42 ∷ []
  -- process 0 takes from the last process
  pub round_the_ring : (step_of (2 ∷ 1 ∷ 5 ∷ 1 ∷ 5 ∷ 0 ∷ 0 ∷ 0 ∷ 0 ∷ 0 ∷ 9 ∷ 1 ∷ 9 ∷ 0 ∷ 0 ∷ 1 ∷ 9 ∷ 1 ∷ []) 0).1
      ≡ 2 ∷ 1 ∷ 5 ∷ 2 ∷ 5 ∷ 9 ∷ 0 ∷ 0 ∷ 0 ∷ 0 ∷ 9 ∷ 1 ∷ 9 ∷ 0 ∷ 0 ∷ 0 ∷ 0 ∷ 0 ∷ []
  -- well-formed, though no start reaches it
  pub unreached : step_told (1 ∷ 1 ∷ 7 ∷ 4 ∷ 7 ∷ 7 ∷ 0 ∷ 0 ∷ 0 ∷ 0 ∷ []) 0 ≡ tell 7 0
  -- a refusal leaves every word
  pub refused_leaves : (step_of (1 ∷ 1 ∷ 7 ∷ 4 ∷ 7 ∷ 7 ∷ 0 ∷ 0 ∷ 0 ∷ 0 ∷ []) 0).1
      ≡ 1 ∷ 1 ∷ 7 ∷ 4 ∷ 7 ∷ 7 ∷ 0 ∷ 0 ∷ 0 ∷ 0 ∷ []
  pub malformed : step_told (1 ∷ 1 ∷ 7 ∷ 4 ∷ 7 ∷ 7 ∷ 2 ∷ 0 ∷ 0 ∷ 0 ∷ []) 0 ≡ tell 5 0
  pub no_process : step_told (1 ∷ 1 ∷ 7 ∷ 4 ∷ 7 ∷ 7 ∷ 0 ∷ 0 ∷ 0 ∷ 0 ∷ []) 1 ≡ tell 6 1

pub steps : Steps
unfolding step_of well_formed ring_of table_words record_words move dec_lt ℕ_discrete
steps = record {
  equal_relays = refl;
  moved_down = refl;
  put_behind = refl;
  round_the_ring = refl;
  unreached = refl;
  refused_leaves = refl;
  malformed = refl;
  no_process = refl;
}

-- ring 5, 9 at its end: process 0 leads with 9, and the largest own identity is process 1's
abbrev end59 : List ℕ
end59 = 2 ∷ 1 ∷ 5 ∷ 6 ∷ 9 ∷ 9 ∷ 0 ∷ 0 ∷ 0 ∷ 0 ∷ 9 ∷ 4 ∷ 9 ∷ 5 ∷ 1 ∷ 0 ∷ 0 ∷ 0 ∷ []

abbrev start59 : List ℕ
start59 = 2 ∷ 1 ∷ 5 ∷ 0 ∷ 5 ∷ 0 ∷ 0 ∷ 0 ∷ 0 ∷ 0 ∷ 9 ∷ 0 ∷ 9 ∷ 0 ∷ 0 ∷ 0 ∷ 0 ∷ 0 ∷ []

abbrev turns : List ℕ
turns = 0 ∷ 1 ∷ 0 ∷ 1 ∷ 0 ∷ 1 ∷ 0 ∷ 1 ∷ 0 ∷ 1 ∷ 0 ∷ 1 ∷ 0 ∷ 1 ∷ 0 ∷ 1 ∷ 0 ∷ 1 ∷ 0 ∷ 1 ∷ []

pub record Ring59 : Type 0 where
  pub run : (run_of start59 turns 24).1 ≡ end59
  pub counts : (run_of start59 turns 24).0 ≡ Ok (ended Announced 13 2)
  pub leads : leads_of end59 ≡ Ok (Some (leader 0 9))
  pub nobody : leads_of start59 ≡ Ok None
  -- a run's answer in numbers, and its other two ends
  pub turns_told : run_told (run_of start59 turns 24).0
      ≡ record { number = 0; place = 0; end = 1; taken = 13; skipped = 2 }
  pub used_up : (run_of start59 (0 ∷ 1 ∷ []) 24).0 ≡ Ok (ended UsedUp 2 0)
  pub spent : (run_of start59 turns 2).0 ≡ Ok (ended Spent 2 0)
  -- in a refusal every value is 0
  pub run_refused : run_told (run_of (1 ∷ []) turns 24).0
      ≡ record { number = 5; place = 0; end = 0; taken = 0; skipped = 0 }
  pub leads_refused : lead_told (leads_of [])
      ≡ record { number = 5; place = 0; found = 0; process = 0; value = 0 }

pub ring59 : Ring59
unfolding run_of leads_of well_formed ring_of table_words record_words run_from has_leader leader_of move dec_lt
    ℕ_discrete
ring59 = record {
  run = refl;
  counts = refl;
  leads = refl;
  nobody = refl;
  turns_told = refl;
  used_up = refl;
  spent = refl;
  run_refused = refl;
  leads_refused = refl;
}

abbrev start7 : List ℕ
start7 = 1 ∷ 1 ∷ 7 ∷ 0 ∷ 7 ∷ 0 ∷ 0 ∷ 0 ∷ 0 ∷ 0 ∷ []

-- a budget spent with a byte left, and then an empty schedule: by themselves end 2 and end 0, together end 2
pub record SpentFirst : Type 0 where
  pub first : (run_of start7 (0 ∷ 0 ∷ []) 1).0 ≡ Ok (ended Spent 1 0)
  pub then_nothing : (run_of (run_of start7 (0 ∷ 0 ∷ []) 1).1 [] 0).0 ≡ Ok (ended UsedUp 0 0)

pub spent_then_nothing : SpentFirst
unfolding run_of well_formed ring_of table_words record_words run_from has_leader move dec_lt ℕ_discrete
spent_then_nothing = record { first = refl; then_nothing = refl }

-- processes 1 and 2 in state 6, with d 3 and 4: the lower leads, with its d and neither its e nor its identity
abbrev both : List ℕ
both =
    3 ∷ 1 ∷ 5 ∷ 4 ∷ 0 ∷ 0 ∷ 0 ∷ 0 ∷ 0 ∷ 0 ∷ 9 ∷ 6 ∷ 3 ∷ 8 ∷ 1 ∷ 0 ∷ 0 ∷ 0
    ∷ 7 ∷ 6 ∷ 4 ∷ 8 ∷ 0 ∷ 0 ∷ 0 ∷ 0 ∷ []

pub record Leaders : Type 0 where
  pub lower : lead_told (leads_of both) ≡ record { number = 0; place = 0; found = 1; process = 1; value = 3 }
  pub nobody : lead_told (leads_of start59) ≡ record { number = 0; place = 0; found = 0; process = 0; value = 0 }

pub leaders : Leaders
unfolding leads_of well_formed ring_of leader_of
leaders = record { lower = refl; nobody = refl }
