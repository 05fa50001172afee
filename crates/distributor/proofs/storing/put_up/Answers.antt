use native.Mathlib.Omega.{arith}
use borrow.Author.Rules.{rules}
use mathlib.Core.Path.{◌≡◌, refl, sym, ap, ap₂, ◌∙◌}
use Prim.Native.Nat.{ℕ, ◌+◌, ◌-◌, ◌≤◌}
use mathlib.Core.List.{List, [], ◌∷◌, ◌++◌, append_assoc}
use lib.ListN.{length, drop, replicate, length-append, length-replicate}
use lib.Seq.{drop_at}
use Rattle.octets.specs.Part.{part}
use Rattle.octets.specs.Write.{put}
use Rattle.octets.proofs.PartLaws.{part_behind}
use Rattle.octets.proofs.WriteLaws.{wrote_none}
use Rattle.rules.specs.Limits.{list_limit}
use Rattle.rules.specs.Layout as L
use Rattle.rules.specs.Layout.{tunnel_at, list_at, index_at, block_length}
use Rattle.rules.proofs.ChunkLaws.{replicate_add}
use Rattle.rules.proofs.FieldLaws.{padded_length}
use Rattle.rows.proofs.PadLaws.{padded_none}
use Rattle.rows.proofs.RowWriting.{wrote_at, wrote_put, wrote_keep, wrote_all}
use Rattle.distributor.proofs.storing.put_up.Goals as goal

abbrev zeros : ℕ → List ℕ
zeros n = replicate n 0

-- an emptied block, from one offset to another
zeros-part : (x : List ℕ) (a : ℕ) → a ≤ block_length → x ≡ zeros block_length → part x 0 a ≡ zeros a
zeros-part x a h e =
    let n : block_length ≡ a + (block_length - a) = omega arith in
    let z : 0 + length (zeros a) ≡ a = omega (arith, length-replicate {A = ℕ} a 0) in
    ap (λ (l : List ℕ). part l 0 a) (e ∙ ap (λ (i : ℕ). zeros i) n ∙ replicate_add a (block_length - a) 0)
    ∙ part_behind [] (zeros a) (zeros (block_length - a)) 0 a refl z

zeros-rest : (x : List ℕ) (a : ℕ) → a ≤ block_length → x ≡ zeros block_length → drop a x ≡ zeros (block_length - a)
zeros-rest x a h e =
    let n : block_length ≡ a + (block_length - a) = omega arith in
    ap (drop a) (e ∙ ap (λ (i : ℕ). zeros i) n ∙ replicate_add a (block_length - a) 0)
    ∙ drop_at (zeros a) (zeros (block_length - a)) a (length-replicate {A = ℕ} a 0)

module _ (x y z t l : List ℕ) (e : x ≡ zeros block_length) where
  abbrev f : List ℕ
  f = L.padded list_limit l

  started : y ≡ put x tunnel_at (1 ∷ []) → z ≡ put y list_at (length l ∷ []) → t ≡ put z (list_at + 1) f → t ≡ L.up_block l
  unfolding L.up_block
  started a b c =
      let n : length x ≡ block_length = ap length e ∙ length-replicate {A = ℕ} block_length 0 in
      let k : length f ≡ list_limit = padded_length list_limit l in
      let q = zeros-part x tunnel_at (omega arith) e in
      let m : length (part x 0 tunnel_at) ≡ tunnel_at = ap length q ∙ length-replicate {A = ℕ} tunnel_at 0 in
      let w1 = wrote_keep (wrote_none x) tunnel_at (omega arith) (omega arith) in
      let w2 = wrote_at (wrote_put (1 ∷ []) w1 (omega arith) a) list_at (rw (length-append, m)) in
      let w3 = wrote_at (wrote_put (length l ∷ []) w2 (rw (length-append, m) (omega arith)) b) (list_at + 1) (rw (length-append, length-append, m)) in
      let w4 = wrote_put f w3 (rw (length-append, length-append, m, k) (omega arith)) c in
      let i : list_at + 1 + length f ≡ index_at = omega arith in
      w4.output
      ∙ ap₂ (λ (u v : List ℕ). u ++ v)
      (ap (λ (u : List ℕ). ((u ++ (1 ∷ [])) ++ (length l ∷ [])) ++ f) q
      ∙ ap (λ (u : List ℕ). u ++ f) (append_assoc (zeros tunnel_at) (1 ∷ []) (length l ∷ []))
      ∙ append_assoc (zeros tunnel_at) (1 ∷ length l ∷ []) f)
      (ap (λ (j : ℕ). drop j x) (sym w4.offset ∙ i) ∙ zeros-rest x index_at (omega arith) e)

-- the tunnel and its list in an emptied block
pub returns : goal.returns
returns c =
    let o = c.args.state.now in
    let z = L.padded block_length [] in
    let n : length o ≡ block_length = search rules in
    let m : length z ≡ block_length = padded_length block_length [] in
    let w = wrote_put z (wrote_none o) (omega arith) c.put_padded.ensures in
    started _ _ _ _ c.args.list.now (wrote_all w (omega arith) ∙ padded_none block_length)
    c.put_octet.ensures.1 c.put_octet-2.ensures.1 c.put_padded-2.ensures
