-- The calls that lead to a page are ones that a program can make: all that they lend are octets.
use Prim.Native.Nat.{ℕ, zero, suc, ◌+◌, ◌-◌, ◌/◌, ◌%◌, ◌^◌, ◌≤◌, ◌<◌}
use mathlib.Core.Path.{refl}
use mathlib.Core.Bool.{true, false}
use mathlib.Core.List.{List, [], ◌∷◌, ◌++◌, Memᴰ}
use native.Mathlib.Omega.{arith}
use lib.ListN.{length, replicate, length-replicate}
use Rattle.octets.specs.Number.{Octets, octets16}
use Rattle.status.specs.Limits.{endpoint_bits}
use Rattle.status.specs.Places.{Shown, vacant, live}
use Rattle.status.specs.Claims.{Table}
use Rattle.message.specs.Limits.{width}
use Rattle.message.specs.Message.{encode, vector8}
use Rattle.rules.specs.Call.{Call}
use Rattle.rules.specs.Pages.{AllCallable}
use Rattle.rules.specs.Reaching.{identifier_for, keys_for, endpoints_for, endpoints_in, opens, settles, calls_for}
use Rattle.rules.proofs.ReachingEndpoints.{as_many, endpoints_below}

-- ---- octets

octets_nil : Octets []
octets_nil at = omega arith

octets_cons : (x : ℕ) (s : List ℕ) → x < 256 → Octets s → Octets (x ∷ s)
octets_cons x s h o zero = h
octets_cons x s h o (suc at) = o at

octets_append : (s t : List ℕ) → Octets s → Octets t → Octets (s ++ t)
octets_append [] t o p = p
octets_append (x ∷ s) t o p = octets_cons x (s ++ t) (o 0) (octets_append s t (λ at. o (suc at)) p)

octets_zeros : (n : ℕ) → Octets (replicate n 0)
octets_zeros zero = octets_nil
octets_zeros (suc n) = octets_cons 0 (replicate n 0) (omega arith) (octets_zeros n)

octets_16 : (n : ℕ) → Octets (octets16 n)
octets_16 n = octets_cons (n / 256 % 256) (n % 256 ∷ []) (omega arith) (octets_cons (n % 256) [] (omega arith) octets_nil)

octets_vector : (n : ℕ) → n < 256 → Octets (vector8 (replicate n 0))
octets_vector n h = octets_cons (length (replicate n 0)) (replicate n 0) (rw (length-replicate {A = ℕ} n 0) h) (octets_zeros n)

octets_identifier : (place : ℕ) → place < 256 → Octets (identifier_for place)
octets_identifier place h = octets_append (replicate (width - 1) 0) (place ∷ []) (octets_zeros (width - 1)) (octets_cons place [] h octets_nil)

octets_keys : (place : ℕ) → place < 256 → Octets (keys_for place)
unfolding encode
octets_keys place h =
    let a = identifier_for place ++ octets16 9 in
    let b = a ++ vector8 [] in
    let c = b ++ vector8 (replicate 16 0) in
    let d = c ++ vector8 (replicate 16 0) in
    let e = d ++ vector8 (replicate 12 0) in
    let f = e ++ vector8 (replicate 12 0) in
    octets_append (3 ∷ octets16 (length f)) f (octets_cons 3 (octets16 (length f)) (omega arith) (octets_16 (length f)))
    (octets_append e (vector8 (replicate 12 0))
    (octets_append d (vector8 (replicate 12 0))
    (octets_append c (vector8 (replicate 16 0))
    (octets_append b (vector8 (replicate 16 0))
    (octets_append a (vector8 [])
    (octets_append (identifier_for place) (octets16 9) (octets_identifier place h) (octets_16 9))
    (octets_vector 0 (omega arith)))
    (octets_vector 16 (omega arith)))
    (octets_vector 16 (omega arith)))
    (octets_vector 12 (omega arith)))
    (octets_vector 12 (omega arith)))

-- ---- calls

callable_append : (a b : List Call) → AllCallable a → AllCallable b → AllCallable (a ++ b)
callable_append [] b p q = q
callable_append (c ∷ a) b p q = (p.0, callable_append a b p.1 q)

opens_callable : (place : ℕ) (es : List ℕ) → place + length es ≤ 256 → ((e : ℕ) → Memᴰ e es → e < 2 ^ endpoint_bits) → AllCallable (opens place es)
unfolding opens
opens_callable place [] h f = tt
opens_callable place (e ∷ es) h f =
    ((octets_identifier place (omega arith), f e (Memᴰ.head refl)), opens_callable (suc place) es (omega arith) (λ y m. f y (Memᴰ.tail m)))

settles_callable : (place : ℕ) (l : List Shown) → place + length l ≤ 256 → AllCallable (settles place l)
unfolding settles
settles_callable place [] h = tt
settles_callable place (vacant ∷ l) h = (octets_identifier place (omega arith), settles_callable (suc place) l (omega arith))
settles_callable place (live false e ∷ l) h = settles_callable (suc place) l (omega arith)
settles_callable place (live true e ∷ l) h = (octets_keys place (omega arith), settles_callable (suc place) l (omega arith))

pub calls_callable : (l : List Shown) → Table l → AllCallable (calls_for l)
unfolding calls_for
calls_callable l t =
    let e = endpoints_for (endpoints_in l) l in
    let size = as_many l (endpoints_in l) in (
      octets_cons 0 (9 ∷ []) (omega arith) (octets_cons 9 [] (omega arith) octets_nil),
      callable_append (opens 0 e) (settles 0 l)
          (opens_callable 0 e (omega (arith, t.size)) (endpoints_below l t))
          (settles_callable 0 l (omega (arith, t.size))),
    )
