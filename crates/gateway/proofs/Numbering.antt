-- States and kinds to their numbers and back. Assumes nothing.
use Prim.Native.Nat.{ℕ, zero, suc, ◌≤◌}
use mathlib.Core.Path.{◌≡◌, refl, sym, ap, ◌∙◌}
use native.Mathlib.Omega.{arith}
use lib.ListN.{get_or-eq_default}
use Rattle.gateway.specs.declared.State.{State}
use Rattle.gateway.specs.declared.State.TheVariants.{Sends, Listens, Compares, Decides, Relays, Carries, Leads}
use Rattle.gateway.specs.declared.Kind.{Kind}
use Rattle.gateway.specs.declared.Kind.TheVariants.{Passive, Active}
use Rattle.gateway.specs.Numbers.{
  state_number,
  last_state,
  states_before,
  state_of,
  kind_number,
  last_kind,
  kinds_before,
  kind_of,
}

-- a state's number is that state's
pub state_back : (s : State) → state_of (state_number s) ≡ s
state_back Sends = refl
state_back Listens = refl
state_back Compares = refl
state_back Decides = refl
state_back Relays = refl
state_back Carries = refl
state_back Leads = refl

-- each number up to the last is its state's
pub state_number_of : (n : ℕ) → n ≤ last_state → state_number (state_of n) ≡ n
state_number_of zero h = refl
state_number_of (suc zero) h = refl
state_number_of (suc (suc zero)) h = refl
state_number_of (suc (suc (suc zero))) h = refl
state_number_of (suc (suc (suc (suc zero)))) h = refl
state_number_of (suc (suc (suc (suc (suc zero))))) h = refl
state_number_of (suc (suc (suc (suc (suc (suc zero)))))) h = refl
state_number_of (suc (suc (suc (suc (suc (suc (suc n))))))) h = absurd (omega arith)

-- and from the last on it is the last
pub state_past : (n : ℕ) → last_state ≤ n → Leads ≡ state_of n
state_past n h = sym (get_or-eq_default states_before Leads h)

-- no state's number is above the last
pub state_small : (s : State) → state_number s ≤ last_state
state_small Sends = omega arith
state_small Listens = omega arith
state_small Compares = omega arith
state_small Decides = omega arith
state_small Relays = omega arith
state_small Carries = omega arith
state_small Leads = omega arith

-- two states with one number are one
pub state_apart : (s t : State) → state_number s ≡ state_number t → s ≡ t
state_apart s t e = sym (state_back s) ∙ ap state_of e ∙ state_back t

-- the same of kinds
pub kind_back : (k : Kind) → kind_of (kind_number k) ≡ k
kind_back Passive = refl
kind_back Active = refl

pub kind_number_of : (n : ℕ) → n ≤ last_kind → kind_number (kind_of n) ≡ n
kind_number_of zero h = refl
kind_number_of (suc zero) h = refl
kind_number_of (suc (suc n)) h = absurd (omega arith)

pub kind_past : (n : ℕ) → last_kind ≤ n → Active ≡ kind_of n
kind_past n h = sym (get_or-eq_default kinds_before Active h)

pub kind_small : (k : Kind) → kind_number k ≤ last_kind
kind_small Passive = omega arith
kind_small Active = omega arith

-- two kinds with one number are one
pub kind_apart : (k l : Kind) → kind_number k ≡ kind_number l → k ≡ l
kind_apart k l e = sym (kind_back k) ∙ ap kind_of e ∙ kind_back l
