-- The process before one that is not the first, and the table of a shape as its own head says it. Assumes nothing.
use Prim.Native.Nat.{ℕ, zero, suc, ◌-◌}
use mathlib.Core.Path.{◌≡◌, refl}
use mathlib.Core.List.{List}
use native.Mathlib.Omega.{arith}
use Rattle.ring.specs.Ring.{prev}
use Rattle.words.specs.Table.{count_of}
use Rattle.table.specs.Formed.{Formed}

pub prev_else : (n j : ℕ) → (j ≡ 0 → ⊥) → j - 1 ≡ prev n j
prev_else n zero h = absurd (h refl)
prev_else n (suc j) h = omega arith

pub formed_count : (t : List ℕ) (n c : ℕ) → Formed t n c → Formed t (count_of t) c
formed_count t n c f = record { formed = f.formed; count = refl; capacity = f.capacity }
