-- Pieces written one behind the other, from any offset of an output.
use Prim.Native.Nat.{ℕ, ◌+◌, ◌≤◌}
use mathlib.Core.Path.{◌≡◌, ap₂, ◌∙◌}
use mathlib.Core.List.{List, ◌++◌}
use native.Mathlib.Omega.{arith}
use lib.ListN.{length, length-append}
use Rattle.octets.specs.Write.{over, put, put_end}
use Rattle.octets.proofs.WriteLaws.{put_whole, end_whole, over_over}
use Rattle.service.specs.Reply.{Replies}

-- where a piece ends, and what the output is: as a total function says it, and where it is written whole
abbrev pub Put : (l : List ℕ) (at : ℕ) (q x : List ℕ) (to : ℕ) → Type 0
Put l at q x to = (to ≡ put_end l at q) × (x ≡ put l at q)

abbrev pub Over : (l : List ℕ) (at : ℕ) (q x : List ℕ) (to : ℕ) → Type 0
Over l at q x to = (to ≡ at + length q) × (x ≡ over l at q)

module _ (l : List ℕ) (at : ℕ) where
  pub whole : (q : List ℕ) {x : List ℕ} {to : ℕ} → at + length q ≤ length l → Put l at q x to → Over l at q x to
  whole q h o = (o.0 ∙ end_whole l at q h, o.1 ∙ put_whole l at q h)

  -- one more
  pub more : (p q : List ℕ) {x y : List ℕ} {k to : ℕ} → at ≤ length l → Over l at p x k → Over x k q y to → Over l at (p ++ q) y to
  more p q {x} {y} {k} {to} h o n =
      let e : length (p ++ q) ≡ length p + length q = length-append p q in (
        omega (arith, o.0, n.0),
        n.1 ∙ ap₂ (λ (z : List ℕ) (i : ℕ). over z i q) o.1 o.0 ∙ over_over l p q at h,
      )

-- from the front
pub from_front : (l q : List ℕ) {x : List ℕ} {to : ℕ} → Over l 0 q x to → Replies q l x to
from_front l q o =
    let e : 0 + length q ≡ length q = omega arith in
    (o.0 ∙ e, o.1 ∙ rw e)
