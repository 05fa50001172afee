-- Numbers of four octets, the lowest first.
use Prim.Native.Nat.{ℕ, ◌+◌, ◌/◌, ◌%◌, ◌<◌}
use mathlib.Core.Path.{◌≡◌, ap}
use mathlib.Core.List.{List, [], ◌∷◌}
use native.Mathlib.Omega.{arith}
use Rattle.std.specs.Int.{w32, from_le_bytes, to_le_bytes}
use Rattle.octets.specs.Number.{octet_at}
use Rattle.octets.specs.Word.{quad_at, low_first32}

pub quad_is : (s : List ℕ) (i : ℕ) (x : ℕ) → x ≡ from_le_bytes w32 (octet_at s i ∷ octet_at s (i + 1) ∷ octet_at s (i + 2) ∷ octet_at s (i + 3) ∷ []) → x ≡ quad_at s i
quad_is s i x h =
    let e : i + 2 + 1 ≡ i + 3 = omega arith in
    rw e (omega (arith, h))

pub bytes_low : (n : ℕ) → n < 4294967296 → to_le_bytes w32 n ≡ low_first32 n
bytes_low n h = ap (λ (x : ℕ). n % 256 ∷ n / 256 % 256 ∷ n / 65536 % 256 ∷ x ∷ []) (omega arith)
