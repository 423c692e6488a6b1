-- The tests that the code makes of a limit. Assumes nothing.
use Prim.Native.Nat.{ℕ, ◌<◌, ◌≤◌}
use mathlib.Core.Path.{◌≡◌}
use mathlib.Core.Bool.{true, false}
use native.Mathlib.Omega.{arith}
use Rattle.words.specs.WellFormed.{in_range}
use Rattle.words.proofs.Ranges.{range_in, range_out}

module _ (most n : ℕ) where
  pub none_out : n ≡ 0 → in_range most n ≡ false
  none_out h = range_out most n (λ w. omega (arith, w.0))

  pub over_out : most < n → in_range most n ≡ false
  over_out h = range_out most n (λ w. omega (arith, w.1))

  pub some_in : (n ≡ 0 → ⊥) → n ≤ most → in_range most n ≡ true
  some_in some h = range_in most n (omega (arith, some), h)
