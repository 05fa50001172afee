-- Laws of padded fields and of the octets of numbers: what was written is read back, whatever it is.
use Prim.Native.Nat.{ℕ, ◌+◌, ◌*◌, ◌/◌, ◌%◌, ◌≤◌}
use mathlib.Core.Path.{◌≡◌, refl, ap, ◌∙◌}
use mathlib.Core.List.{List, [], ◌∷◌, ◌++◌}
use native.Mathlib.Nat.{div-add-mod', div-div-eq-div-mul}
use native.Mathlib.Omega.{arith}
use lib.ListN.{length, take, replicate, length-take, length-append, length-replicate}
use lib.Seq.{take-append_seam, take_at, take-take}
use Rattle.octets.specs.Word.{quad_at, low_first32}
use Rattle.octets.specs.Number.{number16_at, number32_at, octets_of_16, octets_of_32}
use Rattle.octets.specs.Part.{part}
use Rattle.octets.proofs.HoldLaws.{Holds, holds_two, holds_part, holds_octet}
use Rattle.rules.specs.Layout.{padded, field, field_of}

-- ---- padded fields

pub padded_length : (n : ℕ) (x : List ℕ) → length (padded n x) ≡ n
unfolding padded
padded_length n x = simp (length-take, length-append, length-replicate) (omega arith)

-- what has room is all there
pub padded_back : (n : ℕ) (x : List ℕ) → length x ≤ n → take (length x) (padded n x) ≡ x
unfolding padded
padded_back n x h = take-take (length x) n (x ++ replicate n 0) h ∙ take-append_seam x (replicate n 0)

pub padded_whole : (n : ℕ) (x : List ℕ) → length x ≡ n → padded n x ≡ x
unfolding padded
padded_whole n x h = take_at x (replicate n 0) n h

pub field_length : (n : ℕ) (x : List ℕ) → length (field n x) ≡ 1 + n
field_length n x = rw (padded_length n x) (omega arith)

pub holds_field : {l : List ℕ} {at : ℕ} (n : ℕ) (x : List ℕ) → Holds l (field n x) at → length x ≤ n → field_of l at n ≡ x
holds_field {l} {at} n x h k =
    let p : part l (at + 1) (at + 1 + n) ≡ padded n x =
    holds_part (holds_two (length x ∷ []) (padded n x) h (at + 1) refl).1 (at + 1 + n) (ap (λ (m : ℕ). at + 1 + m) (padded_length n x)) in
    rw (holds_octet h, p) (padded_back n x k)

-- ---- numbers

pub holds_number16 : {l : List ℕ} {at : ℕ} (n : ℕ) → Holds l (octets_of_16 n) at → number16_at l at ≡ n
unfolding number16_at
holds_number16 {l} {at} n h =
    let b = (holds_two (n / 256 ∷ []) (n % 256 ∷ []) h (at + 1) refl).1 in
    rw (holds_octet h, holds_octet b) (div-add-mod' n 256)

number32_back : (n : ℕ) → (n / 16777216 * 256 + n / 65536 % 256) * 65536 + (n / 256 % 256 * 256 + n % 256) ≡ n
number32_back n =
    let a : n / 65536 / 256 ≡ n / 16777216 = div-div-eq-div-mul n 65536 256 in
    let b : n / 256 / 256 ≡ n / 65536 = div-div-eq-div-mul n 256 256 in
    let c = div-add-mod' (n / 65536) 256 in
    let d = div-add-mod' (n / 256) 256 in
    let e = div-add-mod' n 256 in
    rw (← a, c) (omega (arith, b))

pub holds_number32 : {l : List ℕ} {at : ℕ} (n : ℕ) → Holds l (octets_of_32 n) at → number32_at l at ≡ n
unfolding number32_at number16_at
holds_number32 {l} {at} n h =
    let h1 = (holds_two (n / 16777216 ∷ []) (n / 65536 % 256 ∷ n / 256 % 256 ∷ n % 256 ∷ []) h (at + 1) refl).1 in
    let h2 = (holds_two (n / 65536 % 256 ∷ []) (n / 256 % 256 ∷ n % 256 ∷ []) h1 (at + 2) (omega arith)).1 in
    let h3 = (holds_two (n / 256 % 256 ∷ []) (n % 256 ∷ []) h2 (at + 2 + 1) refl).1 in
    rw (holds_octet h, holds_octet h1, holds_octet h2, holds_octet h3) (number32_back n)

pub holds_quad : {l : List ℕ} {at : ℕ} (n : ℕ) → Holds l (low_first32 n) at → quad_at l at ≡ n
holds_quad {l} {at} n h =
    let h1 = (holds_two (n % 256 ∷ []) (n / 256 % 256 ∷ n / 65536 % 256 ∷ n / 16777216 ∷ []) h (at + 1) refl).1 in
    let h2 = (holds_two (n / 256 % 256 ∷ []) (n / 65536 % 256 ∷ n / 16777216 ∷ []) h1 (at + 2) (omega arith)).1 in
    let h3 = (holds_two (n / 65536 % 256 ∷ []) (n / 16777216 ∷ []) h2 (at + 2 + 1) refl).1 in
    rw (holds_octet h, holds_octet h1, holds_octet h2, holds_octet h3) (number32_back n)
