-- What bytes read as where an identity is to stand, by the kind byte. Assumes nothing.
use Rattle.std.specs.Prelude.{Option}
use Prim.Native.Nat.{ℕ}
use mathlib.Core.Path.{◌≡◌, sym, ap, ◌∙◌}
use mathlib.Core.List.{List}
use lib.ListN.{get_or}
use Rattle.wire.specs.declared.Head.{Head}
use Rattle.wire.specs.Frames.{head_of}
use Rattle.trial.specs.Input.{identity_as, identity_of}

-- by what the head that was found is
pub identity_as_head : (s : List ℕ) (h : Option Head) → h ≡ head_of (get_or s 0 0) → {x : Option Head} → h ≡ x →
    identity_as x s ≡ identity_of s
identity_as_head s h named e = ap (λ x. identity_as x s) (sym e ∙ named)
