-- Kind bytes and the heads that they name, each way; which heads the writer has. Assumes nothing.
use Rattle.std.specs.Prelude.{None, Option, Some}
use Prim.Native.Nat.{ℕ, zero, suc, ◌≤◌, ◌<◌}
use mathlib.Core.Path.{◌≡◌, refl, sym, ap, ◌∙◌}
use mathlib.Core.Bool.{Bool, true, false, cond}
use mathlib.Core.List.{List, [], ◌∷◌}
use native.Mathlib.Decide.{dec_le}
use native.Mathlib.Omega.{arith}
use lib.Dec.{eqb}
use borrow.Author.Tests.{eqb-true, ne_eqb, lt-ltb, le-ltb}
use Rattle.gateway.specs.declared.Kind.{Kind}
use Rattle.gateway.specs.declared.Kind.TheVariants.{Passive, Active}
use Rattle.gateway.specs.Numbers.{kind_number, last_kind, kind_of}
use Rattle.gateway.proofs.Numbering.{kind_back, kind_small}
use Rattle.wire.specs.declared.Order.{Order}
use Rattle.wire.specs.declared.Order.TheVariants.{High, Low}
use Rattle.wire.specs.Frames.{kind_byte, heads, head_among, head_of, order_for, head_in, head_for, head}
use Rattle.wire.specs.declared.Head.{Head}

-- the byte of an order and a kind names them
pub head_back : (o : Order) (k : Kind) → head_of (kind_byte o k) ≡ Some (head o k)
head_back High Active = refl
head_back High Passive = refl
head_back Low Active = refl
head_back Low Passive = refl

among_byte : (hs : List Head) (b : ℕ) (o : Order) (k : Kind) →
    head_among hs b ≡ Some (head o k) → b ≡ kind_byte o k
among_byte [] b o k e = cc
among_byte (h ∷ hs) b o k e = by_test (λ f. among_byte hs b o k f) (eqb b (kind_byte h.order h.kind)) refl e
  where
    by_test : (head_among hs b ≡ Some (head o k) → b ≡ kind_byte o k) →
        (t : Bool) → eqb b (kind_byte h.order h.kind) ≡ t →
        cond t (Some h) (head_among hs b) ≡ Some (head o k) → b ≡ kind_byte o k
    by_test more true q f =
        let same : h ≡ head o k = cc in
        eqb-true _ _ q ∙ ap (λ (h : Head). kind_byte h.order h.kind) same
    by_test more false q f = more f

-- a byte that names an order and a kind is theirs
pub head_byte : (b : ℕ) (o : Order) (k : Kind) → head_of b ≡ Some (head o k) → b ≡ kind_byte o k
head_byte b o k e = among_byte heads b o k e

among_none : (hs : List Head) (b : ℕ) → ((o : Order) (k : Kind) → b ≡ kind_byte o k → ⊥) → head_among hs b ≡ None
among_none [] b f = refl
among_none (h ∷ hs) b f = rw (ne_eqb b (kind_byte h.order h.kind) (f h.order h.kind)) (among_none hs b f)

-- a byte that is no order's and kind's names none
pub head_none : (b : ℕ) → ((o : Order) (k : Kind) → b ≡ kind_byte o k → ⊥) → head_of b ≡ None
head_none b f = among_none heads b f

-- a number that no kind has is in no frame
pub head_past : (g n : ℕ) → last_kind < n → head_for g n ≡ None
head_past g n h = rw (lt-ltb last_kind n h)

-- a number that a kind has is in the frame of that kind
pub head_known : (g n : ℕ) (k : Kind) (h : Option Head) → n ≤ last_kind → k ≡ kind_of n → h ≡ head_in (order_for g) k →
    h ≡ head_for g n
head_known g n k h l e q = rw (le-ltb last_kind n l, ← e) q

-- what is sent in no order is in no frame, of whatever kind
pub head_never : (g n : ℕ) → order_for g ≡ None → head_for g n ≡ None
head_never g n e = go (dec_le n last_kind)
  where
    go : Dec (n ≤ last_kind) → head_for g n ≡ None
    go (yes h) = sym (head_known g n (kind_of n) None h refl (rw e))
    go (no h) = head_past g n (omega arith)

-- a generation that sends in an order has a frame of every kind
pub head_for_kind : (g : ℕ) (o : Order) (k : Kind) → order_for g ≡ Some o → head_for g (kind_number k) ≡ Some (head o k)
head_for_kind g o k e = sym (head_known g (kind_number k) k (Some (head o k)) (kind_small k) (sym (kind_back k)) (rw e))

-- each generation sends in an order
pub order_sent : (g : ℕ) → 1 ≤ g → g ≤ 3 → (o : Order) × (order_for g ≡ Some o)
order_sent zero a b = absurd (omega arith)
order_sent (suc zero) a b = (High, refl)
order_sent (suc (suc zero)) a b = (Low, refl)
order_sent (suc (suc (suc zero))) a b = (High, refl)
order_sent (suc (suc (suc (suc g)))) a b = absurd (omega arith)

-- and no other number does
pub order_none : (g : ℕ) → (1 ≤ g → g ≤ 3 → ⊥) → order_for g ≡ None
order_none g f =
    rw (
      ne_eqb g 1 (λ e. f (omega arith) (omega arith)),
      ne_eqb g 2 (λ e. f (omega arith) (omega arith)),
      ne_eqb g 3 (λ e. f (omega arith) (omega arith)),
    )

-- each order is sent by a generation
pub sent_by : (o : Order) → (g : ℕ) × (order_for g ≡ Some o)
sent_by High = (1, refl)
sent_by Low = (2, refl)
