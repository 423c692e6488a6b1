-- What is promised of frames: written is read back, accepted is what the writer makes. Assumes nothing.
use Rattle.std.specs.Prelude.{Err, None, Ok, Option, Result, Some}
use Prim.Native.Nat.{ℕ, suc, ◌+◌, ◌^◌, ◌≤◌, ◌<◌}
use mathlib.Core.Path.{◌≡◌, refl, ap, ap₂, ◌∙◌}
use mathlib.Core.Bool.{Bool, true, false, cond}
use mathlib.Core.List.{List, [], ◌∷◌, ◌++◌, append_assoc}
use native.Mathlib.Omega.{arith}
use lib.Dec.{ltb}
use lib.ListN.{length, get_or, take, drop, length-append}
use lib.Seq.{take_at, drop_at, take-append-le}
use borrow.Author.Tests.{le-ltb}
use Rattle.refusal.specs.declared.Refusal.{Refusal}
use Rattle.refusal.specs.declared.Refusal.TheVariants.{NoRoom}
use Rattle.refusal.proofs.Apart.{numbers_apart, numbered_never_zero}
use Rattle.gateway.specs.declared.Kind.{Kind}
use Rattle.gateway.specs.declared.Message.{Message}
use Rattle.gateway.specs.Row.{msg}
use Rattle.gateway.specs.Numbers.{kind_number}
use Rattle.gateway.proofs.Numbering.{kind_apart}
use Rattle.wire.specs.declared.Order.{Order}
use Rattle.wire.specs.Bytes.{word_bytes, AllBytes, field}
use Rattle.wire.specs.Frames.{
  body_length,
  frame_length,
  frame_of,
  head_of,
  read_as,
  read_of,
  order_for,
  head_for,
  write_as,
  write_of,
  read_told,
  head,
}
use Rattle.wire.specs.declared.Head.{Head}
use Rattle.wire.proofs.Digits.{length_field, value_field}
use Rattle.wire.proofs.Heads.{head_back, head_for_kind, order_sent, sent_by}
use Rattle.wire.proofs.Readable.{begins_read, read_begins, begins_small, begins_frame}

-- a frame has the length that the kind fixes
pub length_frame : (o : Order) (m : Message) → length (frame_of o m) ≡ frame_length m.kind
length_frame o m = ap suc (length_field o (body_length m.kind) m.value)

-- a frame, whatever follows it, reads as its message
pub read_frame : (o : Order) (m : Message) (more : List ℕ) → m.value < 2 ^ 32 → read_of (frame_of o m ++ more) ≡ Ok m
read_frame o m more h =
    let w = body_length m.kind in
    let body = field o w m.value in
    let n = length_field o w m.value in
    begins_read (frame_of o m ++ more) m
    (record {
      order = o;
      named = head_back o m.kind;
      whole = omega (arith, length-append body more);
      body = rw (take_at body more w n) (value_field o w m.value h);
    })

-- what is behind a frame is what followed it
pub after_frame : (o : Order) (m : Message) (more : List ℕ) → drop (frame_length m.kind) (frame_of o m ++ more) ≡ more
after_frame o m more = drop_at (frame_of o m) more (frame_length m.kind) (length_frame o m)

-- where there is room, a generation's writer puts the frame of its order in front of what stood behind it
pub written_frame : (g : ℕ) (o : Order) (m : Message) (out : List ℕ) →
    order_for g ≡ Some o → frame_length m.kind ≤ length out →
    write_of out g (kind_number m.kind) m.value ≡ (Ok tt, frame_of o m ++ drop (frame_length m.kind) out)
written_frame g o m out e l = rw (head_for_kind g o m.kind e, le-ltb (length out) (frame_length m.kind) l)

-- a message is written and read back, whatever stood in the buffer and whatever follows it
pub written_read : (g : ℕ) (o : Order) (k : Kind) (v : ℕ) (out more : List ℕ) →
    order_for g ≡ Some o → v < 2 ^ 32 → frame_length k ≤ length out →
    ((write_of out g (kind_number k) v).0 ≡ Ok tt)
    × (read_of ((write_of out g (kind_number k) v).1 ++ more) ≡ Ok (msg v k))
written_read g o k v out more e h l =
    let m = msg v k in
    let rest = drop (frame_length k) out in
    let w = written_frame g o m out e l in
    let r : read_of ((frame_of o m ++ rest) ++ more) ≡ Ok m =
    rw (append_assoc (frame_of o m) rest more) (read_frame o m (rest ++ more) h) in
    (ap (λ p. p.0) w, ap (λ p. read_of (p.1 ++ more)) w ∙ r)

-- generations 1, 2 and 3 all have an order, so that is so of each of them
pub each_generation_written_read : (g : ℕ) (k : Kind) (v : ℕ) (out more : List ℕ) →
    1 ≤ g → g ≤ 3 → v < 2 ^ 32 → frame_length k ≤ length out →
    ((write_of out g (kind_number k) v).0 ≡ Ok tt)
    × (read_of ((write_of out g (kind_number k) v).1 ++ more) ≡ Ok (msg v k))
each_generation_written_read g k v out more a b h l =
    let s = order_sent g a b in written_read g s.0 k v out more s.1 h l

-- what is promised of bytes s that read as m
pub record AsWritten (s : List ℕ) (m : Message) : Type 0 where
  -- the order that the kind byte names
  pub order : Order
  pub named : head_of (get_or s 0 0) ≡ Some (head order m.kind)
  -- a generation that sends in that order
  pub generation : ℕ
  pub sends : order_for generation ≡ Some order
  -- s holds a whole frame, of a 32-bit value
  pub whole : frame_length m.kind ≤ length s
  pub small : m.value < 2 ^ 32
  -- the writer of every such generation makes of m the bytes that s begins with
  pub made : (g : ℕ) (out : List ℕ) → order_for g ≡ Some order → frame_length m.kind ≤ length out →
      write_of out g (kind_number m.kind) m.value
      ≡ (Ok tt, take (frame_length m.kind) s ++ drop (frame_length m.kind) out)

-- an accepted frame is the one that the writer makes for its message in its order
pub accepted_is_written : (s : List ℕ) (m : Message) → AllBytes s → read_of s ≡ Ok m → AsWritten s m
accepted_is_written s m a e =
    let f = read_begins s m e in
    let t = sent_by f.order in
    record {
      order = f.order;
      named = f.named;
      generation = t.0;
      sends = t.1;
      whole = f.whole;
      small = begins_small s m a f;
      made = λ g out q l. rw (← begins_frame s m a f) (written_frame g f.order m out q l);
    }

-- reading uses the first five bytes, whether they are refused or not,
pub five_enough : (s more : List ℕ) → 1 + word_bytes ≤ length s → read_of (s ++ more) ≡ read_of s
five_enough [] more enough = absurd (omega arith)
five_enough (b ∷ l) more enough = by_head (head_of b)
  where
    by_head : (h : Option Head) → read_as h (b ∷ (l ++ more)) ≡ read_as h (b ∷ l)
    by_head None = refl
    by_head (Some h) =
        rw (
          le-ltb (length (b ∷ (l ++ more))) (frame_length h.kind) (omega (arith, length-append l more)),
          le-ltb (length (b ∷ l)) (frame_length h.kind) (omega arith),
          take-append-le (body_length h.kind) l more (omega arith),
        )

-- so that it ignores what follows a frame
pub rest_ignored : (s more : List ℕ) (m : Message) → read_of s ≡ Ok m → read_of (s ++ more) ≡ Ok m
rest_ignored s more m e = five_enough s more (read_begins s m e).whole ∙ e

-- a refusal to write changes no byte
pub refusal_writes_nothing : (out : List ℕ) (g n v : ℕ) (r : Refusal) →
    (write_of out g n v).0 ≡ Err r → (write_of out g n v).1 ≡ out
refusal_writes_nothing out g n v r e = by_head (head_for g n) e
  where
    by_room : (t : Bool) (l : List ℕ) →
        (cond {A = Result Unit Refusal × List ℕ} t (Err NoRoom, out) (Ok tt, l)).0 ≡ Err r →
        (cond {A = Result Unit Refusal × List ℕ} t (Err NoRoom, out) (Ok tt, l)).1 ≡ out
    by_room true l f = refl
    by_room false l f = cc

    by_head : (h : Option Head) → (write_as h out v).0 ≡ Err r → (write_as h out v).1 ≡ out
    by_head None f = refl
    by_head (Some h) f = by_room (ltb (length out) (frame_length h.kind)) _ f

-- document 01's numbers tell any two readings apart
pub read_told_apart : (a b : Result Message Refusal) → read_told a ≡ read_told b → a ≡ b
read_told_apart (Ok m) (Ok n) e =
    ap₂ (λ v k. Ok (msg v k)) (ap (λ t. t.value) e) (kind_apart m.kind n.kind (ap (λ t. t.kind) e))
read_told_apart (Ok m) (Err s) e = absurd (omega (arith, ap (λ t. t.number) e, numbered_never_zero s))
read_told_apart (Err r) (Ok n) e = absurd (omega (arith, ap (λ t. t.number) e, numbered_never_zero r))
read_told_apart (Err r) (Err s) e =
    ap Err (numbers_apart r s (ap (λ t. t.number) e) (ap (λ t. t.place) e))
