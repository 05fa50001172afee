use mathlib.Core.Path.{◌≡◌}
use mathlib.Core.List.{List, [], ◌∷◌}
use Prim.Native.Nat.{ℕ, ◌+◌, ◌*◌, ◌-◌}
use Rattle.octets.specs.Number.{octets_of_16}
use Rattle.octets.specs.Write.{over}
use Rattle.rules.specs.Layout as Layout
use Rattle.rules.specs.Index as Spec
use Rattle.block.proofs.index.remove_at.Goals as goal

-- the three writings
removed : (s x y z : List ℕ) (n at : ℕ) → n ≡ Spec.count_of s → x ≡ Spec.withdrawn s (Layout.index_places_at + at) (Layout.index_places_at + n) (0 ∷ [])
    → y ≡ Spec.withdrawn x (Layout.index_endpoints_at + 4 * at) (Layout.index_endpoints_at + 4 * n) (0 ∷ 0 ∷ 0 ∷ 0 ∷ []) → z ≡ over y Layout.index_at (octets_of_16 (n - 1)) → z ≡ Spec.removed_at s at
unfolding Spec.removed_at
removed s x y z n at c f g h = rw (← c, ← f, ← g) h

pub returns : goal.returns
returns c =
    removed c.args.state.now _ _ _ c.count-n.result c.args.at c.count-n.ensures c.withdraw.ensures c.withdraw-2.ensures c.put_count.ensures
