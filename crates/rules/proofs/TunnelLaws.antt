-- The tunnel as a block tells it.
use Prim.Native.Nat.{ℕ, ◌+◌, ◌-◌, ◌≤◌, ◌<◌}
use mathlib.Core.Path.{◌≡◌, refl, sym, ◌∙◌}
use mathlib.Core.Bool.{Bool, true, false, cond}
use mathlib.Core.List.{List, [], ◌∷◌, ◌++◌}
use native.Mathlib.Nat.{zero-add}
use native.Mathlib.Omega.{arith}
use lib.ListN.{length, take, drop, replicate}
use lib.Seq.{take_at}
use Rattle.octets.specs.Number.{octet_at}
use Rattle.octets.proofs.HoldLaws.{holds_all, holds_two, holds_octet}
use Rattle.rules.specs.Limits.{places, list_limit}
use Rattle.rules.specs.Layout.{up, list_of, tunnel_at, list_at, index_at, block_length, row_length, field, down_block, up_block, with_row}
use Rattle.rules.specs.Tunnel.{down, up_with, is_up, list_in}
use Rattle.rules.specs.View.{tunnel_of}
use Rattle.rules.proofs.FieldLaws.{holds_field}
use Rattle.rules.proofs.FrontLaws as Front
use Rattle.rules.proofs.FrontLaws.{behind_octet, behind_part}
use Rattle.rules.proofs.RowsLaws.{Sized, behind_with, up_front}

-- ---- what the tunnel tells is what the block tells

pub tunnel_up : (s : List ℕ) → is_up (tunnel_of s) ≡ up s
unfolding tunnel_of
tunnel_up s = go (up s)
  where
    go : (b : Bool) → is_up (cond b (up_with (list_of s)) down) ≡ b
    go true = refl
    go false = refl

pub tunnel_list : (s : List ℕ) → up s ≡ true → list_in (tunnel_of s) ≡ list_of s
unfolding tunnel_of
tunnel_list s h = rw h

-- ---- the tunnel stands behind the rows

pub tunnel_behind : (s t : List ℕ) → drop tunnel_at s ≡ drop tunnel_at t → tunnel_of s ≡ tunnel_of t
unfolding tunnel_of up list_of
tunnel_behind s t e =
    rw (behind_octet s t tunnel_at e 0, behind_octet s t tunnel_at e 1, behind_part s t tunnel_at e 2 (list_at + 1 + list_limit))

-- a row leaves the tunnel as it was
pub tunnel_with : (s : List ℕ) → Sized s → (i : ℕ) → i < places → (r : List ℕ) → length r ≡ row_length → tunnel_of (with_row s i r) ≡ tunnel_of s
tunnel_with s l i h r e = tunnel_behind (with_row s i r) s (behind_with s l i h r e)

pub tunnel_front : (p x y : List ℕ) → length p ≡ index_at → tunnel_of (p ++ x) ≡ tunnel_of (p ++ y)
unfolding tunnel_of up list_of
tunnel_front p x y h =
    let e : take index_at (p ++ x) ≡ take index_at (p ++ y) = take_at p x index_at h ∙ sym (take_at p y index_at h) in
    let o = Front.same_octet (p ++ x) (p ++ y) index_at e in
    rw (o tunnel_at (omega arith), o list_at (omega arith), Front.same_part (p ++ x) (p ++ y) index_at e (list_at + 1) (list_at + 1 + list_limit) (omega arith))

-- ---- the tunnel of an empty table

pub down_tunnel : tunnel_of down_block ≡ down
unfolding tunnel_of up down_block
down_tunnel = refl

tunnel_is : (s list : List ℕ) → octet_at s tunnel_at ≡ 1 → list_of s ≡ list → tunnel_of s ≡ up_with list
unfolding tunnel_of up
tunnel_is s list h e = rw (h, e)

pub up_tunnel : (list : List ℕ) → length list ≤ list_limit → tunnel_of (up_block list) ≡ up_with list
unfolding up_block list_of
up_tunnel list h =
    let s = up_block list in
    let z = (holds_two (replicate tunnel_at 0 ++ (1 ∷ field list_limit list)) (replicate (block_length - index_at) 0) (holds_all s refl) index_at (zero-add _ ∙ up_front list)).0 in
    let x = (holds_two (replicate tunnel_at 0) (1 ∷ field list_limit list) z tunnel_at refl).1 in
    let y = (holds_two (1 ∷ []) (field list_limit list) x list_at refl).1 in
    tunnel_is s list (holds_octet x) (holds_field list_limit list y h)
