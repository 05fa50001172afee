-- Laws of bits: a number of so many bits, and where bits stand.
use Prim.Native.Nat.{ℕ, zero, suc, ◌+◌, ◌-◌, ◌*◌, ◌/◌, ◌%◌, ◌^◌, ◌<◌}
use mathlib.Core.Path.{◌≡◌, refl, sym, ap, ap₂, subst, ◌∙◌}
use mathlib.Core.List.{List, [], ◌∷◌, ◌++◌, append-nil, append_assoc}
use native.Mathlib.Omega.{arith}
use native.Mathlib.Nat.{two-pow-succ, pow-suc, zero-add, add-zero, add-suc, add_assoc, mul_assoc}
use Rattle.octets.specs.Number.{octet_at}
use Rattle.octets.proofs.Tests.{by_size}
use lib.ListN.{length, length-append, get_or-append, get_or-eq_default}
use lib.Seq.{get_or_at, get_or-append-add}
use lib.Arith.{digits_lt}
use lib.Pow.{pow-add, high, low}
use Rattle.status.specs.Bits.{bits_of, bit_in, value_of, bit_at}

-- each is 0 or 1
abbrev pub Binary : (ℕ → ℕ) → Type 0
Binary f = (k : ℕ) → f k < 2

-- ---- values

pub value_ext : (f g : ℕ → ℕ) (a b w : ℕ) → ((j : ℕ) → j < w → f (a + j) ≡ g (b + j)) → value_of f a w ≡ value_of g b w
unfolding value_of
value_ext f g a b zero h = refl
value_ext f g a b (suc w) h = ap₂ (λ (x y : ℕ). x * 2 + y) (value_ext f g a b w (λ j k. h j (omega arith))) (h w (omega arith))

pub value_front : (f g : ℕ → ℕ) (a w : ℕ) → ((j : ℕ) → j < w → f (a + j) ≡ g j) → value_of f a w ≡ value_of g 0 w
value_front f g a w h = value_ext f g a 0 w (λ j k. rw zero-add (h j k))

pub value_below : (f : ℕ → ℕ) → Binary f → (a w : ℕ) → value_of f a w < 2 ^ w
unfolding value_of
value_below f o a zero = omega arith
value_below f o a (suc w) = omega (arith, two-pow-succ w, value_below f o a w, o (a + w))

pub length_bits : (w n : ℕ) → length (bits_of w n) ≡ w
unfolding bits_of
length_bits zero n = refl
length_bits (suc w) n = length-append (bits_of w (n / 2)) (n % 2 ∷ []) ∙ omega (arith, length_bits w (n / 2))

-- the last bit of a list, those before it, and none behind
pub snoc_before : (p : List ℕ) (b j : ℕ) → j < length p → bit_in (p ++ (b ∷ [])) j ≡ bit_in p j
snoc_before p b j h = get_or-append p (b ∷ []) 0 j h

pub snoc_last : (p : List ℕ) (b j : ℕ) → length p ≡ j → bit_in (p ++ (b ∷ [])) j ≡ b
snoc_last p b j h = get_or_at p b [] 0 j h

pub binary_nil : Binary (bit_in [])
binary_nil k = omega arith

pub binary_snoc : (p : List ℕ) (b : ℕ) → Binary (bit_in p) → b < 2 → Binary (bit_in (p ++ (b ∷ [])))
binary_snoc [] b o h zero = h
binary_snoc [] b o h (suc k) = omega arith
binary_snoc (x ∷ p) b o h zero = o 0
binary_snoc (x ∷ p) b o h (suc k) = binary_snoc p b (λ j. o (suc j)) h k

pub binary_append : (p q : List ℕ) → Binary (bit_in p) → Binary (bit_in q) → Binary (bit_in (p ++ q))
binary_append [] q o h k = h k
binary_append (x ∷ p) q o h zero = o 0
binary_append (x ∷ p) q o h (suc k) = binary_append p q (λ j. o (suc j)) h k

pub binary_bits : (w n : ℕ) → Binary (bit_in (bits_of w n))
unfolding bits_of
binary_bits zero n = binary_nil
binary_bits (suc w) n = binary_snoc (bits_of w (n / 2)) (n % 2) (binary_bits w (n / 2)) (omega arith)

pub binary_at : (s : List ℕ) → Binary (bit_at s)
unfolding bit_at
binary_at s k = binary_bits 8 (octet_at s (k / 8)) (k % 8)

-- the value of a number's bits is the number
pub value_bits : (w n : ℕ) → n < 2 ^ w → value_of (bit_in (bits_of w n)) 0 w ≡ n
unfolding bits_of value_of
value_bits zero n h = omega arith
value_bits (suc w) n h =
    let p = bits_of w (n / 2) in
    let l = length_bits w (n / 2) in
    ap₂ (λ (x y : ℕ). x * 2 + y)
    (value_front (bit_in (p ++ (n % 2 ∷ []))) (bit_in p) 0 w (λ j k. rw zero-add (snoc_before p (n % 2) j (omega arith)))
    ∙ value_bits w (n / 2) (omega (arith, two-pow-succ w)))
    (ap (bit_in (p ++ (n % 2 ∷ []))) (zero-add w) ∙ snoc_last p (n % 2) w l)
    ∙ omega arith

last_or_before : (p : List ℕ) (b j w : ℕ) (g : ℕ → ℕ) → length p ≡ w → j < suc w → b ≡ g w → (j < w → bit_in p j ≡ g j)
    → bit_in (p ++ (b ∷ [])) j ≡ g j
last_or_before p b j w g l h e k =
    by_size j w
    (λ i. snoc_before p b j (omega arith) ∙ k i)
    (λ i. let d : w ≡ j = omega arith in snoc_last p b j (omega arith) ∙ e ∙ ap g d)

-- the bits of a value are the bits that it was made of
pub bits_value : (f : ℕ → ℕ) → Binary f → (a w j : ℕ) → j < w → bit_in (bits_of w (value_of f a w)) j ≡ f (a + j)
unfolding bits_of value_of
bits_value f o a zero j h = absurd (omega arith)
bits_value f o a (suc w) j h =
    let v = value_of f a w in
    let b = f (a + w) in
    let s = o (a + w) in
    let hi : (v * 2 + b) / 2 ≡ v = omega arith in
    let lo : (v * 2 + b) % 2 ≡ b = omega arith in
    rw (hi, lo) (last_or_before (bits_of w v) b j w (λ k. f (a + k)) (length_bits w v) h refl (λ k. bits_value f o a w j k))

-- ---- bits that stand among others

-- the list x stands in the bits f from a place on
abbrev pub Stands : (f : ℕ → ℕ) (at : ℕ) (x : List ℕ) → Type 0
Stands f at x = (j : ℕ) → j < length x → f (at + j) ≡ bit_in x j

pub stands_first : (f : ℕ → ℕ) (at : ℕ) (x y : List ℕ) → Stands f at (x ++ y) → Stands f at x
stands_first f at x y h j k = h j (simp length-append (omega arith)) ∙ get_or-append x y 0 j k

pub stands_second : (f : ℕ → ℕ) (at : ℕ) (x y : List ℕ) (to : ℕ) → at + length x ≡ to → Stands f at (x ++ y) → Stands f to y
stands_second f at x y to e h j k =
    let i : to + j ≡ at + (length x + j) = omega arith in
    ap f i ∙ h (length x + j) (simp length-append (omega arith)) ∙ get_or-append-add x y j 0

pub stands_both : (f : ℕ → ℕ) (at : ℕ) (x y : List ℕ) (to : ℕ) → at + length x ≡ to → Stands f at x → Stands f to y → Stands f at (x ++ y)
stands_both f at x y to e h g j k =
    let n = length-append x y in
    by_size j (length x)
    (λ i. h j i ∙ sym (get_or-append x y 0 j i))
    (λ i.
    let m : length x + (j - length x) ≡ j = omega arith in
    let t : at + j ≡ to + (j - length x) = omega arith in
    ap f t ∙ g (j - length x) (omega arith) ∙ sym (get_or-append-add x y (j - length x) 0) ∙ ap (bit_in (x ++ y)) m)

-- a number that stands there is read there
pub stands_value : (f : ℕ → ℕ) (at w n : ℕ) → n < 2 ^ w → Stands f at (bits_of w n) → value_of f at w ≡ n
stands_value f at w n h s =
    let l = length_bits w n in
    value_front f (bit_in (bits_of w n)) at w (λ j k. s j (omega arith)) ∙ value_bits w n h

-- and what is read stands there
pub value_stands : (f : ℕ → ℕ) → Binary f → (at w : ℕ) → Stands f at (bits_of w (value_of f at w))
value_stands f o at w j k =
    let l = length_bits w (value_of f at w) in
    sym (bits_value f o at w j (omega arith))

-- a value is 0 exactly where all its bits are
pub value_zero : (f : ℕ → ℕ) (at w : ℕ) → ((j : ℕ) → j < w → f (at + j) ≡ 0) → value_of f at w ≡ 0
unfolding value_of
value_zero f at zero h = refl
value_zero f at (suc w) h = omega (arith, value_zero f at w (λ j k. h j (omega arith)), h w (omega arith))

pub zero_value : (f : ℕ → ℕ) (at w : ℕ) → value_of f at w ≡ 0 → (j : ℕ) → j < w → f (at + j) ≡ 0
unfolding value_of
zero_value f at zero e j k = absurd (omega arith)
zero_value f at (suc w) e j k =
    by_size j w (λ i. zero_value f at w (omega arith) j i) (λ i. let d : j ≡ w = omega arith in ap (λ (x : ℕ). f (at + x)) d ∙ omega arith)

-- ---- bits in two parts

doubled : (x n : ℕ) → x * 2 ^ suc n ≡ x * 2 ^ n * 2
doubled x n = ap (λ (y : ℕ). x * y) (pow-suc 2 n) ∙ sym (mul_assoc x (2 ^ n) 2)

next_value : (u v w x y : ℕ) → u ≡ x + v → w ≡ x * 2 → u * 2 + y ≡ w + (v * 2 + y)
next_value u v w x y e d = omega arith

pub value_add : (f : ℕ → ℕ) (a m n : ℕ) → value_of f a (m + n) ≡ value_of f a m * 2 ^ n + value_of f (a + m) n
unfolding value_of
value_add f a m zero = ap (value_of f a) (add-zero m) ∙ omega arith
value_add f a m (suc n) =
    ap (value_of f a) (add-suc m n)
    ∙ ap (λ (k : ℕ). value_of f a (m + n) * 2 + f k) (sym (add_assoc a m n))
    ∙ next_value (value_of f a (m + n)) (value_of f (a + m) n) (value_of f a m * 2 ^ suc n) (value_of f a m * 2 ^ n) (f (a + m + n)) (value_add f a m n) (doubled (value_of f a m) n)

half_sum : (u x y : ℕ) → u ≡ x * 2 → (u + y) / 2 ≡ x + y / 2
half_sum u x y e = omega arith

odd_sum : (u x y : ℕ) → u ≡ x * 2 → (u + y) % 2 ≡ y % 2
odd_sum u x y e = omega arith

pub bits_add : (m n x y : ℕ) → y < 2 ^ n → bits_of (m + n) (x * 2 ^ n + y) ≡ bits_of m x ++ bits_of n y
unfolding bits_of
bits_add m zero x y h =
    let e : x * 2 ^ zero + y ≡ x = omega arith in
    ap₂ bits_of (add-zero m) e ∙ sym (append-nil (bits_of m x))
bits_add m (suc n) x y h =
    let d = doubled x n in
    let k : y / 2 < 2 ^ n = omega (arith, two-pow-succ n) in
    ap (λ (w : ℕ). bits_of w (x * 2 ^ suc n + y)) (add-suc m n)
    ∙ ap₂ (λ (v b : ℕ). bits_of (m + n) v ++ (b ∷ [])) (half_sum (x * 2 ^ suc n) (x * 2 ^ n) y d) (odd_sum (x * 2 ^ suc n) (x * 2 ^ n) y d)
    ∙ ap (λ (p : List ℕ). p ++ (y % 2 ∷ [])) (bits_add m n x (y / 2) k)
    ∙ append_assoc (bits_of m x) (bits_of n (y / 2)) (y % 2 ∷ [])

pub below_add : {x y : ℕ} (m n : ℕ) → x < 2 ^ m → y < 2 ^ n → x * 2 ^ n + y < 2 ^ (m + n)
below_add {x} {y} m n h k = subst (λ (z : ℕ). x * 2 ^ n + y < z) (sym (pow-add 2 m n)) (digits_lt h k)

-- the bits of zero
pub zero_bits : (w k : ℕ) → bit_in (bits_of w 0) k ≡ 0
zero_bits w k =
    by_size k w
    (λ h. ap (λ (v : ℕ). bit_in (bits_of w v) k) (sym (value_zero (λ _. 0) 0 w (λ _ _. refl))) ∙ bits_value (λ _. 0) (λ _. omega arith) 0 w k h)
    (λ h. get_or-eq_default (bits_of w 0) 0 (rw length_bits h))

-- a field of a value: a bits in front of it, b behind it
pub value_field : (f : ℕ → ℕ) → Binary f → (at a w b : ℕ) → value_of f at (a + w + b) / 2 ^ b % 2 ^ w ≡ value_of f (at + a) w
value_field f o at a w b =
    ap (λ (x : ℕ). x / 2 ^ b % 2 ^ w) (value_add f at (a + w) b)
    ∙ ap (λ (x : ℕ). x % 2 ^ w) (high (value_of f at (a + w)) b (value_below f o (at + (a + w)) b) ∙ value_add f at a w)
    ∙ low (value_of f at a) w (value_below f o (at + a) w)
