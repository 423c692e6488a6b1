-- Any two outcomes that a public function's contract allows are equal. Assumes nothing.
use Rattle.std.specs.Prelude.{Result}
use Prim.Native.Nat.{ℕ}
use mathlib.Core.Path.{◌≡◌}
use Rattle.refusal.specs.declared.Refusal.{Refusal}
use Rattle.gateway.specs.declared.Message.{Message}
use Rattle.wire.specs.declared.Head.{Head}
use Rattle.wire.specs.declared.ReadTold.{ReadTold}
use Rattle.wire.specs.Frames.{kind_byte, head_named, read_told}

pub told_settled : (r : Result Message Refusal) (x y : ReadTold) → x ≡ read_told r → y ≡ read_told r → x ≡ y
told_settled r x y a b = cc

pub kind_byte_settled : (h : Head) (x y : ℕ) → x ≡ kind_byte h.order h.kind → y ≡ kind_byte h.order h.kind → x ≡ y
kind_byte_settled h x y a b = cc

pub head_settled : (b : ℕ) (x y : Result Head Refusal) → x ≡ head_named b → y ≡ head_named b → x ≡ y
head_settled b x y a c = cc
