-- The page as one number: its fields behind the count, and zero bits.
use Prim.Native.Nat.{ℕ, zero, suc, ◌+◌, ◌-◌, ◌*◌, ◌^◌}
use mathlib.Core.Path.{◌≡◌, sym, ap, ap₂, ◌∙◌}
use mathlib.Core.List.{List}
use native.Mathlib.Omega.{arith}
use native.Mathlib.Nat.{add_assoc, add-zero, zero-add}
use lib.ListN.{length, get_or-eq_default}
use Rattle.octets.specs.Number.{Octets}
use Rattle.octets.proofs.Tests.{by_size}
use Rattle.status.specs.Limits.{count_bits, place_bits, state_bits, endpoint_bits, entry_bits, page_bits}
use Rattle.status.specs.Bits.{bit_in, value_of, octets_for, octets_of, pack, bit_at}
use Rattle.status.specs.Entries.{entry_at, entries_at}
use Rattle.status.specs.Page.{bits_of_page, layout, count_of, decoded}
use Rattle.status.specs.Claims.{joined, fields, LaidOut}
use Rattle.status.specs.declared.entry.Entry.{Entry}
use Rattle.status.proofs.LimitFacts.{state_two}
use Rattle.status.proofs.BitLaws.{Binary, value_ext, value_below, value_add, value_zero, binary_at}
use Rattle.status.proofs.PackLaws.{pack_length, pack_octet}
use Rattle.status.proofs.EntryLaws.{state_of_lem}
use Rattle.status.proofs.PageLaws.{Good, page_bits_lem, layout_length, binary_page, layout_bit, layout_filling, layout_count, layout_decoded}

-- octets behind so many bits
octets_joined : (f : ℕ → ℕ) (at m n : ℕ) → joined (value_of f at m) (octets_of f (at + m) n) ≡ value_of f at (m + n * 8)
unfolding octets_of joined
octets_joined f at m zero =
    let e : m ≡ m + zero * 8 = omega arith in
    ap (value_of f at) e
octets_joined f at m (suc n) =
    let e : m + 8 + n * 8 ≡ m + suc n * 8 = omega arith in
    ap₂ (λ (x y : ℕ). joined x (octets_of f y n)) (sym (value_add f at m 8)) (add_assoc at m 8)
    ∙ octets_joined f at (m + 8) n
    ∙ ap (value_of f at) e

-- entries behind so many bits
entries_joined : (f : ℕ → ℕ) → Binary f → (at m n : ℕ) → fields (value_of f at m) (entries_at f (at + m) n) ≡ value_of f at (m + n * entry_bits)
unfolding entries_at entry_at fields
entries_joined f o at m zero =
    let e : m ≡ m + zero * entry_bits = omega arith in
    ap (value_of f at) e
entries_joined f o at m (suc n) =
    let s = value_of f (at + m + place_bits) state_bits in
    let t = state_of_lem s (state_two s (value_below f o (at + m + place_bits) state_bits)) in
    let e : m + entry_bits + n * entry_bits ≡ m + suc n * entry_bits = omega arith in
    let p : value_of f at m * 2 ^ place_bits + value_of f (at + m) place_bits ≡ value_of f at (m + place_bits) = sym (value_add f at m place_bits) in
    let q : value_of f at (m + place_bits) * 2 ^ state_bits + s ≡ value_of f at (m + place_bits + state_bits) =
    ap (λ (x : ℕ). value_of f at (m + place_bits) * 2 ^ state_bits + value_of f x state_bits) (add_assoc at m place_bits) ∙ sym (value_add f at (m + place_bits) state_bits) in
    let a : at + m + place_bits + state_bits ≡ at + (m + place_bits + state_bits) = omega arith in
    let r : value_of f at (m + place_bits + state_bits) * 2 ^ endpoint_bits + value_of f (at + m + place_bits + state_bits) endpoint_bits ≡ value_of f at (m + place_bits + state_bits + endpoint_bits) =
    ap (λ (x : ℕ). value_of f at (m + place_bits + state_bits) * 2 ^ endpoint_bits + value_of f x endpoint_bits) a ∙ sym (value_add f at (m + place_bits + state_bits) endpoint_bits) in
    let w : m + place_bits + state_bits + endpoint_bits ≡ m + entry_bits = omega arith in
    ap₂ (λ (x y : ℕ). fields x (entries_at f y n))
    (ap₂ (λ (x y : ℕ). (x * 2 ^ state_bits + y) * 2 ^ endpoint_bits + value_of f (at + m + place_bits + state_bits) endpoint_bits) p t
    ∙ ap (λ (x : ℕ). x * 2 ^ endpoint_bits + value_of f (at + m + place_bits + state_bits) endpoint_bits) q
    ∙ r ∙ ap (value_of f at) w)
    (add_assoc at m entry_bits)
    ∙ entries_joined f o at (m + entry_bits) n
    ∙ ap (value_of f at) e

pub pack_octets : (p : List ℕ) → Binary (bit_in p) → Octets (pack p)
pack_octets p o i =
    by_size i (octets_for (length p))
    (λ h. omega (arith, pack_octet p i h, value_below (bit_in p) o (i * 8) 8))
    (λ h. omega (arith, get_or-eq_default (pack p) 0 {n = i} (rw pack_length h)))

pub pack_joined : (p : List ℕ) → joined 0 (pack p) ≡ value_of (bit_in p) 0 (octets_for (length p) * 8)
unfolding pack value_of
pack_joined p =
    octets_joined (bit_in p) 0 0 (octets_for (length p)) ∙ ap (value_of (bit_in p) 0) (zero-add (octets_for (length p) * 8))

module _ (es : List Entry) (g : Good es) where
  -- every bit of the page
  whole : joined 0 (layout es) ≡ value_of (bit_at (layout es)) 0 (octets_for (page_bits (length es)) * 8)
  unfolding layout
  whole =
      pack_joined (bits_of_page es)
      ∙ ap (λ (n : ℕ). value_of (bit_in (bits_of_page es)) 0 (octets_for n * 8)) (page_bits_lem es)
      ∙ value_ext (bit_in (bits_of_page es)) (bit_at (layout es)) 0 0 (octets_for (page_bits (length es)) * 8) (λ j _. sym (layout_bit es (0 + j)))

  in_front : value_of (bit_at (layout es)) 0 (page_bits (length es)) ≡ fields (length es) es
  unfolding count_of decoded
  in_front =
      sym (ap₂ fields (sym (layout_count es g)) (sym (layout_decoded es g) ∙ ap (entries_at (bit_at (layout es)) count_bits) (layout_count es g))
      ∙ entries_joined (bit_at (layout es)) (binary_at (layout es)) 0 count_bits (length es))

  in_filling : (n : ℕ) → value_of (bit_at (layout es)) (0 + page_bits (length es)) n ≡ 0
  in_filling n = value_zero (bit_at (layout es)) (0 + page_bits (length es)) n (λ j _. layout_filling es (0 + page_bits (length es) + j) (omega arith))

  pub laid_number : LaidOut es
  unfolding layout
  laid_number =
      let n = page_bits (length es) in
      let b = octets_for (page_bits (length es)) * 8 - page_bits (length es) in
      let e : octets_for (page_bits (length es)) * 8 ≡ page_bits (length es) + (octets_for (page_bits (length es)) * 8 - page_bits (length es)) = omega arith in
      record {
        octets = pack_octets (bits_of_page es) (binary_page es);
        filling = b;
        few = omega arith;
        size = omega (arith, layout_length es);
        number =
            whole ∙ ap (value_of (bit_at (layout es)) 0) e ∙ value_add (bit_at (layout es)) 0 n b
            ∙ ap₂ (λ (x y : ℕ). x * 2 ^ b + y) in_front (in_filling b) ∙ add-zero (fields (length es) es * 2 ^ b);
      }
