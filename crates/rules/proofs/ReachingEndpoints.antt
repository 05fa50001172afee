-- The endpoints that places are opened with: as many as there are places, no two the same, each a number of its bits.
use Prim.Native.Nat.{ℕ, zero, suc, ◌+◌, ◌≤◌, ◌<◌, ◌^◌}
use mathlib.Core.Path.{◌≡◌, refl, sym, ap}
use mathlib.Core.Bool.{Bool}
use mathlib.Core.List.Memᴰ
use mathlib.Core.List.{List, [], ◌∷◌, Memᴰ}
use native.Mathlib.Omega.{arith}
use lib.ListN.{length, get_or}
use Rattle.status.specs.Limits.{endpoint_bits}
use Rattle.status.specs.Places.{Shown, vacant, live}
use Rattle.status.specs.Claims.{Table}
use Rattle.rules.specs.Search.{Distinct}
use Rattle.rules.specs.Reaching.{spare, endpoints_in, endpoints_for}
use Rattle.rules.proofs.ReachingSpare.{spare_new, spare_low}

-- ---- those of live places

endpoint_at_lem : {e : ℕ} (l : List Shown) → Memᴰ e (endpoints_in l) → (i : ℕ) × (keyed : Bool) × (get_or l i vacant ≡ live keyed e)
unfolding endpoints_in
endpoint_at_lem [] m = absurd (Memᴰ.not-nil m)
endpoint_at_lem (vacant ∷ l) m = let r = endpoint_at_lem l m in (suc r.0, r.1, r.2)
endpoint_at_lem (live keyed endpoint ∷ l) (Memᴰ.head q) = (zero, keyed, ap (live keyed) (sym q))
endpoint_at_lem (live keyed endpoint ∷ l) (Memᴰ.tail m) = let r = endpoint_at_lem l m in (suc r.0, r.1, r.2)

in_few : (l : List Shown) → length (endpoints_in l) ≤ length l
unfolding endpoints_in
in_few [] = omega arith
in_few (vacant ∷ l) = omega (arith, in_few l)
in_few (live keyed endpoint ∷ l) = omega (arith, in_few l)

abbrev Differ : List Shown → Type 0
Differ l = (i j : ℕ) (k m : Bool) (endpoint : ℕ) → get_or l i vacant ≡ live k endpoint → get_or l j vacant ≡ live m endpoint → i ≡ j

tail_differs : (x : Shown) (l : List Shown) → Differ (x ∷ l) → Differ l
tail_differs x l d i j k m e p q = omega (arith, d (suc i) (suc j) k m e p q)

in_distinct : (l : List Shown) → Differ l → Distinct (endpoints_in l)
unfolding endpoints_in
in_distinct [] d = tt
in_distinct (vacant ∷ l) d = in_distinct l (tail_differs vacant l d)
in_distinct (live keyed e ∷ l) d =
    (λ m. let r = endpoint_at_lem l m in omega (arith, d zero (suc r.0) keyed r.1 e refl r.2), in_distinct l (tail_differs (live keyed e) l d))

-- ---- those of all places

pub as_many : (l : List Shown) (used : List ℕ) → length (endpoints_for used l) ≡ length l
unfolding endpoints_for
as_many [] used = refl
as_many (vacant ∷ l) used = ap suc (as_many l (spare used ∷ used))
as_many (live keyed endpoint ∷ l) used = ap suc (as_many l used)

-- a used one stands there only for a live place
used_live : {e : ℕ} (l : List Shown) (used : List ℕ) → Memᴰ e used → Memᴰ e (endpoints_for used l) → Memᴰ e (endpoints_in l)
unfolding endpoints_for endpoints_in
used_live [] used u m = absurd (Memᴰ.not-nil m)
used_live (vacant ∷ l) used u (Memᴰ.head q) = absurd (spare_new used (Memᴰ.cast (sym q) u))
used_live (vacant ∷ l) used u (Memᴰ.tail m) = used_live l (spare used ∷ used) (Memᴰ.tail u) m
used_live (live keyed endpoint ∷ l) used u (Memᴰ.head q) = Memᴰ.head q
used_live (live keyed endpoint ∷ l) used u (Memᴰ.tail m) = Memᴰ.tail (used_live l used u m)

for_distinct : (l : List Shown) (used : List ℕ) → Distinct (endpoints_in l) → ((e : ℕ) → Memᴰ e (endpoints_in l) → Memᴰ e used) → Distinct (endpoints_for used l)
unfolding endpoints_for endpoints_in
for_distinct [] used d f = tt
for_distinct (vacant ∷ l) used d f = (
  λ m. spare_new used (f (spare used) (used_live l (spare used ∷ used) (Memᴰ.head refl) m)),
  for_distinct l (spare used ∷ used) d (λ e m. Memᴰ.tail (f e m)),
)
for_distinct (live keyed endpoint ∷ l) used d f = (
  λ m. d.0 (used_live l used (f endpoint (Memᴰ.head refl)) m),
  for_distinct l used d.1 (λ e m. f e (Memᴰ.tail m)),
)

for_below : (most : ℕ) (l : List Shown) (used : List ℕ) → ((e : ℕ) → Memᴰ e (endpoints_in l) → e < most) → length used + length l ≤ most
    → (e : ℕ) → Memᴰ e (endpoints_for used l) → e < most
unfolding endpoints_for endpoints_in
for_below most [] used f h e m = absurd (Memᴰ.not-nil m)
for_below most (vacant ∷ l) used f h e (Memᴰ.head q) = omega (arith, q, spare_low used)
for_below most (vacant ∷ l) used f h e (Memᴰ.tail m) = for_below most l (spare used ∷ used) f (omega arith) e m
for_below most (live keyed endpoint ∷ l) used f h e (Memᴰ.head q) = f e (Memᴰ.head q)
for_below most (live keyed endpoint ∷ l) used f h e (Memᴰ.tail m) = for_below most l used (λ y n. f y (Memᴰ.tail n)) (omega arith) e m

-- ---- of a table

module _ (l : List Shown) (t : Table l) where
  pub endpoints_distinct : Distinct (endpoints_for (endpoints_in l) l)
  endpoints_distinct = for_distinct l (endpoints_in l) (in_distinct l t.differ) (λ e m. m)

  pub endpoints_below : (e : ℕ) → Memᴰ e (endpoints_for (endpoints_in l) l) → e < 2 ^ endpoint_bits
  endpoints_below =
      for_below (2 ^ endpoint_bits) l (endpoints_in l) (λ e m. let r = endpoint_at_lem l m in t.below r.0 r.1 e r.2)
      (omega (arith, in_few l, t.size))
