use mathlib.Core.Path.{◌≡◌, ◌∙◌}
use native.Mathlib.Omega.{arith}
use mathlib.Core.List.{List, [], ◌∷◌}
use Prim.Native.Nat.{ℕ, ◌+◌, ◌*◌}
use Rattle.octets.specs.Word.{low_first32}
use Rattle.octets.specs.Number.{octets_of_16}
use Rattle.octets.specs.Write.{over}
use Rattle.rules.specs.Layout as Layout
use Rattle.rules.specs.Index as Spec
use Rattle.block.proofs.WordLaws.{bytes_low}
use Rattle.block.proofs.index.insert_at.Goals as goal

-- the three writings
inserted : (s x y z : List ℕ) (n at e p : ℕ) → n ≡ Spec.count_of s → x ≡ Spec.entered s (Layout.index_places_at + at) (Layout.index_places_at + n) (p ∷ [])
    → y ≡ Spec.entered x (Layout.index_endpoints_at + 4 * at) (Layout.index_endpoints_at + 4 * n) (low_first32 e) → z ≡ over y Layout.index_at (octets_of_16 (n + 1)) → z ≡ Spec.inserted_at s at e p
unfolding Spec.inserted_at
inserted s x y z n at e p c f g h = rw (← c, ← f, ← g) h

pub returns : goal.returns
returns c =
    let a = c.args in
    let q = c.to_le_bytes.ensures ∙ bytes_low a.endpoint (omega arith) in
    inserted a.state.now _ _ _ c.count-n.result a.at a.endpoint a.place c.count-n.ensures c.enter.ensures (rw q at c.enter-2.ensures) c.put_count.ensures
