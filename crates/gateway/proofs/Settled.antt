-- Any two outcomes that a public function's contract allows are equal. Assumes nothing.
use Rattle.std.specs.Prelude.{Result, Ok, Err}
use Prim.Native.Nat.{ℕ}
use mathlib.Core.Path.{◌≡◌, sym, ap, ◌∙◌}
use native.Mathlib.Omega.{arith}
use Rattle.gateway.specs.declared.State.{State}
use Rattle.gateway.specs.declared.Kind.{Kind}
use Rattle.gateway.specs.declared.number.Unnamed.{Unnamed}
use Rattle.gateway.specs.Numbers.{
  state_number,
  last_state,
  state_of,
  Names,
  NamesState,
  kind_number,
  last_kind,
  kind_of,
  NamesKind,
}

pub state_number_settled : (s : State) (x y : ℕ) → x ≡ state_number s → y ≡ state_number s → x ≡ y
state_number_settled s x y a b = cc

pub state_of_settled : (n : ℕ) (x y : State) → x ≡ state_of n → y ≡ state_of n → x ≡ y
state_of_settled n x y a b = cc

pub kind_number_settled : (k : Kind) (x y : ℕ) → x ≡ kind_number k → y ≡ kind_number k → x ≡ y
kind_number_settled k x y a b = cc

pub kind_of_settled : (n : ℕ) (x y : Kind) → x ≡ kind_of n → y ≡ kind_of n → x ≡ y
kind_of_settled n x y a b = cc

unnamed : ℕ → Unnamed
unnamed n = record { number = n }

unnamed_same : (u v : Unnamed) → u.number ≡ v.number → u ≡ v
unfolding unnamed
unnamed_same u v e = ap unnamed e

named_settled : {A : Type 0} (last : ℕ) (of : ℕ → A) (n : ℕ) (x y : Result A Unnamed) →
    Names last of n x → Names last of n y → x ≡ y
named_settled last of n (Ok s) (Ok t) a b = ap Ok (a.1 ∙ sym b.1)
named_settled last of n (Ok s) (Err u) a b = absurd (omega (arith, a.0, b.0))
named_settled last of n (Err u) (Ok t) a b = absurd (omega (arith, a.0, b.0))
named_settled last of n (Err u) (Err v) a b = ap Err (unnamed_same u v (a.1 ∙ sym b.1))

pub state_named_settled : (n : ℕ) (x y : Result State Unnamed) → NamesState n x → NamesState n y → x ≡ y
state_named_settled n x y a b = named_settled last_state state_of n x y a b

pub kind_named_settled : (n : ℕ) (x y : Result Kind Unnamed) → NamesKind n x → NamesKind n y → x ≡ y
kind_named_settled n x y a b = named_settled last_kind kind_of n x y a b
