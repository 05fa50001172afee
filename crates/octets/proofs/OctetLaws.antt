-- Which lists hold octets alone.
use Prim.Native.Nat.{ℕ, zero, suc, ◌+◌, ◌<◌}
use mathlib.Core.List.{List, [], ◌∷◌, ◌++◌}
use native.Mathlib.Omega.{arith}
use lib.ListN.{length, take, drop, replicate, get_or-eq_default}
use lib.Seq.{get_or-drop}
use Rattle.octets.specs.Number.{octet_at, Octets}
use Rattle.octets.proofs.Tests.{by_size}

pub none_octets : Octets []
none_octets at = omega arith

pub cons_octets : (x : ℕ) (s : List ℕ) → x < 256 → Octets s → Octets (x ∷ s)
cons_octets x s hx hs zero = hx
cons_octets x s hx hs (suc at) = hs at

pub four_octets : (a b c d : ℕ) → a < 256 → b < 256 → c < 256 → d < 256 → Octets (a ∷ b ∷ c ∷ d ∷ [])
four_octets a b c d ha hb hc hd =
    cons_octets a (b ∷ c ∷ d ∷ []) ha (cons_octets b (c ∷ d ∷ []) hb (cons_octets c (d ∷ []) hc (cons_octets d [] hd none_octets)))

pub append_octets : (s t : List ℕ) → Octets s → Octets t → Octets (s ++ t)
append_octets [] t hs ht at = ht at
append_octets (x ∷ s) t hs ht zero = hs 0
append_octets (x ∷ s) t hs ht (suc at) = append_octets s t (λ k. hs (suc k)) ht at

pub drop_octets : (n : ℕ) (s : List ℕ) → Octets s → Octets (drop n s)
drop_octets n s h at = rw (get_or-drop n s at 0) (h (n + at))

pub take_octets : (n : ℕ) (s : List ℕ) → Octets s → Octets (take n s)
take_octets zero s h at = omega arith
take_octets (suc n) [] h at = h at
take_octets (suc n) (x ∷ s) h zero = h 0
take_octets (suc n) (x ∷ s) h (suc at) = take_octets n s (λ k. h (suc k)) at

pub zeros_octets : (n : ℕ) → Octets (replicate n 0)
zeros_octets zero at = omega arith
zeros_octets (suc n) zero = omega arith
zeros_octets (suc n) (suc at) = zeros_octets n at

-- past the end stand octets 0, so it is enough to look within
pub octets_within : (s : List ℕ) → ((at : ℕ) → at < length s → octet_at s at < 256) → Octets s
octets_within s e at =
    by_size at (length s) (e at) (λ h. rw (get_or-eq_default s 0 h) (omega arith))
