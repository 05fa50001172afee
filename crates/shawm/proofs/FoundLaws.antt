-- What the theorems on bounds share.
use Prim.Native.Nat.{ℕ, ◌≤◌}
use mathlib.Core.Path.{◌≡◌, refl, sym, ap, ◌∙◌}
use mathlib.Core.Bool.{Bool, true, false, cond}
use mathlib.Core.List.{List}
use lib.ListN.{length}
use Rattle.octets.specs.Bounds.{part_in}
use Rattle.octets.specs.declared.parts.Bounds.{Bounds}
use Rattle.octets.proofs.PartLaws.{part_length}
use Rattle.shawm.specs.Claims.{FoundAt}

-- bounds that end within the lent octets
pub found : (s : List ℕ) (b : Bounds) (x : List ℕ) → part_in s b ≡ x → b.start ≤ b.end → b.end ≤ length s → FoundAt s b x
found s b x e h k = record {
  ordered = h;
  inside = k;
  counted = ap length (sym e) ∙ part_length s b.start b.end k;
  same = e;
}

-- one more of a list
pub more : {A B : Type 0} → A → B → A × B
more a b = (a, b)

-- a number that is not listed has no bounds, whatever the tests on it say
pub either_way : (t : Bool) (b : Bounds) → cond t b b ≡ b
either_way true b = refl
either_way false b = refl
