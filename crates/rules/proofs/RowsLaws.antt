-- Laws of the rows of a block.
use Prim.Native.Nat.{ℕ, zero, suc, ◌+◌, ◌*◌, ◌-◌, ◌≤◌, ◌<◌}
use mathlib.Core.Path.{◌≡◌, refl, sym, ap, ap₂, ◌∙◌}
use mathlib.Core.List.{List, ◌∷◌, ◌++◌, append_assoc}
use native.Mathlib.Omega.{arith}
use lib.ListN.{length, drop, take, set, replicate, length-append, length-replicate, length-drop}
use lib.Seq.{drop-drop, drop-append-add, drop-append-le, take-append-le, length-take-le}
use Rattle.octets.specs.Part.{part}
use Rattle.octets.specs.Write.{over}
use Rattle.octets.proofs.PartLaws.{part_length}
use Rattle.rules.specs.Limits.{places, list_limit}
use Rattle.rules.specs.Layout.{chunks, rows, row_of, with_row, tunnel_at, index_at, row_length, block_length, field, vacant_row, down_block, up_block}
use Rattle.rules.proofs.FieldLaws.{field_length}
use Rattle.rules.proofs.ChunkLaws.{chunks_length, chunks_at, chunks_over, chunks_replicate, replicate_add}

pub record Sized (s : List ℕ) : Type 0 where
  pub size : length s ≡ block_length

-- ---- the rows there are

pub rows_length : (s : List ℕ) → length (rows s) ≡ places
unfolding rows
rows_length s = chunks_length places row_length s

-- a row is a part of the block
pub row_part : (s : List ℕ) (i : ℕ) → i < places → row_of s i ≡ part s (i * row_length) (i * row_length + row_length)
unfolding row_of rows part
row_part s i h =
    let e : i * row_length + row_length - i * row_length ≡ row_length = omega arith in
    chunks_at places row_length s i h ∙ ap (λ (n : ℕ). take n (drop (i * row_length) s)) (sym e)

pub row_length_lem : (s : List ℕ) → Sized s → (i : ℕ) → i < places → length (row_of s i) ≡ row_length
row_length_lem s l i h =
    ap length (row_part s i h)
    ∙ part_length s (i * row_length) (i * row_length + row_length) (omega (arith, l.size))
    ∙ omega arith

-- ---- another row at a place

drop_over : (s : List ℕ) (n at : ℕ) (q : List ℕ) → at ≤ length s → at + length q ≤ n → drop n (over s at q) ≡ drop n s
drop_over s n at q h g =
    let p = take at s ++ q in
    let r = drop (at + length q) s in
    let l : length p ≡ at + length q = length-append (take at s) q ∙ ap (λ (i : ℕ). i + length q) (length-take-le at s h) in
    let d = n - (at + length q) in
    let a : n ≡ length p + d = omega arith in
    let b : at + length q + d ≡ n = omega arith in
    ap (λ (i : ℕ). drop i (p ++ r)) a ∙ drop-append-add p r d ∙ drop-drop d (at + length q) s ∙ ap (λ (i : ℕ). drop i s) b

module _ (s : List ℕ) (l : Sized s) (i : ℕ) (h : i < places) (r : List ℕ) (e : length r ≡ row_length) where
  pub rows_with : rows (with_row s i r) ≡ set (rows s) i r
  unfolding rows with_row
  rows_with = chunks_over places row_length s r i h e (omega (arith, l.size))

  pub behind_with : drop tunnel_at (with_row s i r) ≡ drop tunnel_at s
  unfolding with_row
  behind_with = drop_over s tunnel_at (i * row_length) r (omega (arith, l.size)) (omega arith)

-- ---- what stands before the index

chunks_front : (k w : ℕ) (p x : List ℕ) → k * w ≤ length p → chunks k w (p ++ x) ≡ chunks k w p
unfolding chunks
chunks_front zero w p x h = refl
chunks_front (suc k) w p x h =
    let n : suc k * w ≡ w + k * w = omega arith in
    rw (take-append-le w p x (omega arith), drop-append-le w p x (omega arith))
    (ap (λ (l : List (List ℕ)). take w p ∷ l) (chunks_front k w (drop w p) x (rw (length-drop w p) (omega arith))))

pub rows_front : (p x y : List ℕ) → length p ≡ index_at → rows (p ++ x) ≡ rows (p ++ y)
unfolding rows
rows_front p x y h = chunks_front places row_length p x (omega arith) ∙ sym (chunks_front places row_length p y (omega arith))

pub over_front : (p x q : List ℕ) (at : ℕ) → at + length q ≤ length p → over (p ++ x) at q ≡ over p at q ++ x
over_front p x q at h =
    rw (take-append-le at p x (omega arith), drop-append-le (at + length q) p x h) (sym (append_assoc (take at p ++ q) (drop (at + length q) p) x))

-- ---- empty tables

pub rows_down : rows down_block ≡ replicate places vacant_row
unfolding rows down_block vacant_row
rows_down = ap (chunks places row_length) (replicate_add tunnel_at (block_length - tunnel_at) 0) ∙ chunks_replicate places row_length 0 (replicate (block_length - tunnel_at) 0)

pub down_sized : Sized down_block
unfolding down_block
down_sized = record { size = length-replicate {A = ℕ} block_length 0 }

module _ (list : List ℕ) where
  pub rows_up : rows (up_block list) ≡ replicate places vacant_row
  unfolding rows up_block vacant_row
  rows_up =
      ap (chunks places row_length) (append_assoc (replicate tunnel_at 0) (1 ∷ field list_limit list) (replicate (block_length - index_at) 0))
      ∙ chunks_replicate places row_length 0 (1 ∷ field list_limit list ++ replicate (block_length - index_at) 0)

  pub up_front : length (replicate tunnel_at 0 ++ (1 ∷ field list_limit list)) ≡ index_at
  up_front = length-append (replicate tunnel_at 0) (1 ∷ field list_limit list) ∙ ap₂ ◌+◌ (length-replicate {A = ℕ} tunnel_at 0) (ap suc (field_length list_limit list))

  pub up_sized : Sized (up_block list)
  unfolding up_block
  up_sized = record {
    size =
        length-append (replicate tunnel_at 0 ++ (1 ∷ field list_limit list)) (replicate (block_length - index_at) 0)
        ∙ ap₂ ◌+◌ up_front (length-replicate {A = ℕ} (block_length - index_at) 0);
  }
