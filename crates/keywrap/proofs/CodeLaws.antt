-- What the code reads and writes, octet by octet.
use Prim.Native.Nat.{ℕ, zero, suc, ◌+◌, ◌*◌, ◌-◌, ◌/◌, ◌%◌, ◌^◌, ◌<◌, ◌≤◌}
use mathlib.Core.Path.{◌≡◌, refl, sym, ap, ap₂, ◌∙◌}
use mathlib.Core.Bool.{Bool, true, false, ◌&&◌, and-true}
use mathlib.Core.List.{List, [], ◌∷◌, ◌++◌, append_assoc, append-nil}
use native.Mathlib.Omega.{arith}
use native.Mathlib.Nat.{le_of_eq, zero-mul, one-mul}
use native.Mathlib.Numerals.{add-one}
use mir.Syntax.{w8}
use mir.Val.{Fits, bool_byte}
use borrow.Author.Tests.{leb-true, leb-false, eqb-true, eqb-false, ne_eqb}
use lib.Bits.{bit_xor, bit_or, xor_self, or_add_and, and_le_r, or_zero_r}
use lib.Dec.{eqb, leb}
use lib.ListN.{length, get_or, set, take, drop, replicate, length-append, length-drop, take-append-drop, drop_of_length-le}
use lib.Seq.{length-take-le, drop-drop, take-append-add, drop-append-add, take_all, take-suc, drop-append-le}
use borrow.Rule.Slice.PartMut.{put_mid}
use Rattle.std.proofs.lemmas.List.{take_at, drop_at, drop-replicate}
use Rattle.aes.specs.Field.{xor}
use Rattle.aes.proofs.Xor.{sum_zero, sum_twice}
use Rattle.keywrap.specs.Inner.{masked}
use Rattle.keywrap.specs.KeyWrap.{register_count, block, register_at, replaced, xor_lists, octets64, xor_count, step, wrap_step, wrap_steps, unwrap_step, unwrap_steps}
use Rattle.keywrap.specs.Limits.{plaintext_most, ciphertext_most}
use Rattle.keywrap.specs.Padding.{aiv, padding, initial_registers, zeros, constant_right}
use Rattle.keywrap.proofs.StepLaws.{register_first, register_last}

-- ---- A | R[i], put together from its halves

pub both_halves : (p q l : List ℕ) → length p ≡ 8 → length q ≡ 8 → length l ≡ 8 → put_mid 8 8 (p ++ l) q ≡ p ++ q
both_halves p q l hp hq hl =
    rw (take_at p l 8 hp, drop_at p l 8 hp) (ap (λ (y : List ℕ). p ++ (q ++ y)) (drop_of_length-le l {i = 8} (omega arith)) ∙ ap (λ (y : List ℕ). p ++ y) (append-nil q))

-- ---- both halves of a block written over A and R[i]

put_parts : (p q x : List ℕ) (i : ℕ) → length p ≡ 8 → 1 ≤ i
    → put_mid (8 * i) 8 (p ++ drop 8 x) q ≡ p ++ (take (8 * (i - 1)) (drop 8 x) ++ (q ++ drop (8 * i + 8) x))
put_parts p q x i hp one =
    let v : 8 * i ≡ length p + 8 * (i - 1) = omega arith in
    let u : 8 + (8 * (i - 1) + 8) ≡ 8 * i + 8 = omega arith in
    rw (
      v,
      take-append-add p (drop 8 x) (8 * (i - 1)),
      drop-append-add p (drop 8 x) (8 * (i - 1)),
      drop-drop 8 (8 * (i - 1)) (drop 8 x),
      drop-drop (8 * (i - 1) + 8) 8 x,
      u,
      ← v,
    ) (append_assoc p (take (8 * (i - 1)) (drop 8 x)) (q ++ drop (8 * i + 8) x))

pub put_both : (b x : List ℕ) (i : ℕ) → length b ≡ 16 → 1 ≤ i → put_mid (8 * i) 8 (take 8 b ++ drop 8 x) (drop 8 b) ≡ replaced i b x
unfolding replaced
put_both b x i l one = put_parts (take 8 b) (drop 8 b) x i (length-take-le 8 b (omega arith)) one

lists_none : (l : List ℕ) → xor_lists l [] ≡ l
unfolding xor_lists
lists_none [] = refl
lists_none (a ∷ l) = refl

-- ---- the count

pub count_last : (t : ℕ) (b : List ℕ) → t < 256 → 8 ≤ length b → set b 7 (xor (get_or b 7 0) t) ≡ xor_count t b
unfolding xor_count xor_lists octets64
count_last t [] h l = absurd (omega arith)
count_last t (a ∷ []) h l = absurd (omega arith)
count_last t (a ∷ b ∷ []) h l = absurd (omega arith)
count_last t (a ∷ b ∷ c ∷ []) h l = absurd (omega arith)
count_last t (a ∷ b ∷ c ∷ d ∷ []) h l = absurd (omega arith)
count_last t (a ∷ b ∷ c ∷ d ∷ e ∷ []) h l = absurd (omega arith)
count_last t (a ∷ b ∷ c ∷ d ∷ e ∷ f ∷ []) h l = absurd (omega arith)
count_last t (a ∷ b ∷ c ∷ d ∷ e ∷ f ∷ g ∷ []) h l = absurd (omega arith)
count_last t (a ∷ b ∷ c ∷ d ∷ e ∷ f ∷ g ∷ i ∷ s) h l =
    let z7 : t / 2 ^ 56 % 256 ≡ 0 = omega arith in
    let z6 : t / 2 ^ 48 % 256 ≡ 0 = omega arith in
    let z5 : t / 2 ^ 40 % 256 ≡ 0 = omega arith in
    let z4 : t / 2 ^ 32 % 256 ≡ 0 = omega arith in
    let z3 : t / 2 ^ 24 % 256 ≡ 0 = omega arith in
    let z2 : t / 2 ^ 16 % 256 ≡ 0 = omega arith in
    let z1 : t / 2 ^ 8 % 256 ≡ 0 = omega arith in
    let z0 : t % 256 ≡ t = omega arith in
    rw (z7, z6, z5, z4, z3, z2, z1, z0, sum_zero a, sum_zero b, sum_zero c, sum_zero d, sum_zero e, sum_zero f, sum_zero g, lists_none s) refl

-- ---- the frame

aiv_short : (m : ℕ) → m ≤ plaintext_most → 0xa6 ∷ 0x59 ∷ 0x59 ∷ 0xa6 ∷ 0 ∷ 0 ∷ 0 ∷ m ∷ [] ≡ aiv m
unfolding aiv
aiv_short m h =
    let z3 : m / 16777216 ≡ 0 = omega arith in
    let z2 : m / 65536 % 256 ≡ 0 = omega arith in
    let z1 : m / 256 % 256 ≡ 0 = omega arith in
    let z0 : m % 256 ≡ m = omega arith in
    rw (z3, z2, z1, z0) refl

pub zero_at : (n k : ℕ) → get_or {A = ℕ} (replicate n 0) k 0 ≡ 0
zero_at zero k = refl
zero_at (suc n) zero = refl
zero_at (suc n) (suc k) = zero_at n k

pub last_cleared : (x q : List ℕ) → 8 ≤ length x → q ≡ replicate 8 0 → put_mid (length x - 8) (length x - (length x - 8)) x q ≡ take (length x - 8) x ++ replicate 8 0
last_cleared x q h e =
    let n = length x in
    let a : length (drop (n - 8) x) ≤ n - (n - 8) = omega (arith, length-drop (n - 8) x) in
    ap (λ (y : List ℕ). take (n - 8) x ++ (q ++ y)) (drop_of_length-le (drop (n - 8) x) a)
    ∙ ap (λ (y : List ℕ). take (n - 8) x ++ y) (append-nil q ∙ e)

pub last_long : (x q : List ℕ) → 8 ≤ length x → q ≡ replicate 8 0 → length (put_mid (length x - 8) (length x - (length x - 8)) x q) ≡ length x
last_long x q h e =
    let a = length-append (take (length x - 8) x) (replicate {A = ℕ} 8 0) in
    let b = length-take-le (length x - 8) x (omega arith) in
    let c : length (put_mid (length x - 8) (length x - (length x - 8)) x q) ≡ length (take (length x - 8) x ++ replicate {A = ℕ} 8 0) = ap length (last_cleared x q h e) in
    let d : length (replicate {A = ℕ} 8 0) ≡ 8 = refl in
    omega (arith, a, b, c, d)

pub put_frame : (p x : List ℕ) (n : ℕ) → length p ≤ plaintext_most → n ≡ length x → n ≡ 8 + (length p + padding (length p)) → padding (length p) < 8
    → put_mid 8 (length p) ((0xa6 ∷ 0x59 ∷ 0x59 ∷ 0xa6 ∷ 0 ∷ 0 ∷ 0 ∷ length p ∷ []) ++ drop 8 (take (n - 8) x ++ replicate 8 0)) p ≡ initial_registers p
unfolding initial_registers
put_frame p x n h l e f =
    let front : List ℕ = take (n - 8) x in
    let k : length front ≡ n - 8 = length-take-le (n - 8) x (omega arith) in
    let d : 8 + length p ≡ length front + (8 - padding (length p)) = omega arith in
    let b : 8 - (8 - padding (length p)) ≡ padding (length p) = omega arith in
    let z : drop (length p) (drop 8 (front ++ replicate {A = ℕ} 8 0)) ≡ replicate (padding (length p)) 0 =
    drop-drop (length p) 8 (front ++ replicate {A = ℕ} 8 0) ∙ ap (λ (j : ℕ). drop j (front ++ replicate {A = ℕ} 8 0)) d
    ∙ drop-append-add front (replicate {A = ℕ} 8 0) (8 - padding (length p)) ∙ drop-replicate {X = ℕ} (8 - padding (length p)) 8 0
    ∙ ap (λ (j : ℕ). replicate {A = ℕ} j 0) b in
    ap (λ (y : List ℕ). (0xa6 ∷ 0x59 ∷ 0x59 ∷ 0xa6 ∷ 0 ∷ 0 ∷ 0 ∷ length p ∷ []) ++ (p ++ y)) z
    ∙ ap (λ (a : List ℕ). a ++ (p ++ replicate (padding (length p)) 0)) (aiv_short (length p) h)

-- ---- the register of a step is there

pub in_reach : (r t : ℕ) (x : List ℕ) → r ≡ register_at (register_count x) t → 16 ≤ length x → length x ≤ ciphertext_most
    → (1 ≤ r) × (r < 32) × (8 * r + 8 ≤ length x)
in_reach r t x e l m =
    let a = register_first (register_count x) t in
    let b = register_last t x l in
    (omega arith, omega arith, omega arith)

-- ---- a step through a function of which one value is known

pub stepped : (t : ℕ) (f : List ℕ → List ℕ) (x y b : List ℕ) → b ≡ f (block (register_at (register_count x) t) x) → y ≡ step t (λ _. b) x → y ≡ step t f x
unfolding step
stepped t f x y b e s = s ∙ ap (λ (v : List ℕ). replaced (register_at (register_count x) t) v x) e

-- ---- a step more, and a step less

pub wrap_more : (w : List ℕ) (t : ℕ) (x : List ℕ) → 1 ≤ t → wrap_step w t (wrap_steps w (t - 1) x) ≡ wrap_steps w t x
unfolding wrap_steps
wrap_more w zero x h = absurd (omega arith)
wrap_more w (suc t) x h = let e : suc t - 1 ≡ t = omega arith in rw e

pub unwrap_less : (w : List ℕ) (t : ℕ) (x : List ℕ) → 0 < t → unwrap_steps w t x ≡ unwrap_steps w (t - 1) (unwrap_step w t x)
unfolding unwrap_steps
unwrap_less w zero x h = absurd (omega arith)
unwrap_less w (suc t) x h = let e : suc t - 1 ≡ t = omega arith in rw e

-- ---- one block

pub one_block : (x : List ℕ) → length x ≡ 16 → block 1 x ≡ x
unfolding block
one_block x l =
    ap (λ (y : List ℕ). take 8 x ++ y) (take_all 8 (drop 8 x) (let d : length (drop 8 x) ≡ length x - 8 = length-drop 8 x in omega arith))
    ∙ take-append-drop 8 x

pub one_replaced : (b x : List ℕ) → length x ≡ 16 → replaced 1 b x ≡ b
unfolding replaced
one_replaced b x l =
    ap (λ (y : List ℕ). take 8 b ++ (drop 8 b ++ y)) (drop_of_length-le x {i = 16} (omega arith))
    ∙ ap (λ (y : List ℕ). take 8 b ++ y) (append-nil (drop 8 b)) ∙ take-append-drop 8 b

-- ---- all of a slice, and what is left of one

pub tail : (x : List ℕ) (k : ℕ) → take (length x - k) (drop k x) ≡ drop k x
tail x k = take_all (length x - k) (drop k x) (le_of_eq (length-drop k x))

pub second_half : (b : List ℕ) → length b ≡ 16 → take 8 (drop 8 b) ≡ drop 8 b
second_half b l = take_all 8 (drop 8 b) (let d : length (drop 8 b) ≡ length b - 8 = length-drop 8 b in omega arith)

-- an array of which the front was lent has its length still
pub relent : (p l : List ℕ) (n : ℕ) → length p ≡ n → n ≤ length l → length l ≡ length (p ++ drop n l)
relent p l n e h = sym (length-append p (drop n l) ∙ (let d : length (drop n l) ≡ length l - n = length-drop n l in omega arith))

-- ---- octets 0 from an offset on, told without a branch

pub or_none : (a b : ℕ) → eqb (bit_or a b) 0 ≡ (eqb a 0 && eqb b 0)
or_none a b = go (eqb a 0) (eqb b 0) refl refl
  where
    go : (p q : Bool) → eqb a 0 ≡ p → eqb b 0 ≡ q → eqb (bit_or a b) 0 ≡ (eqb a 0 && eqb b 0)
    go true true e f = let x = eqb-true a 0 e in let y = eqb-true b 0 f in rw (x, y) refl
    go true false e f = let x = eqb-true a 0 e in rw x refl
    go false q e f =
        let s = or_add_and a b in
        let m = and_le_r a b in
        let n : a ≡ 0 → ⊥ = eqb-false a 0 e in
        rw (ne_eqb (bit_or a b) 0 (λ z. n (omega arith)), e) refl

masked_true : (a : ℕ) → masked true a ≡ a
unfolding masked
masked_true a = refl

masked_false : (a : ℕ) → masked false a ≡ 0
unfolding masked
masked_false a = refl

pub masked_product : (k : Bool) (a : ℕ) → bool_byte k * a ≡ masked k a
unfolding masked
masked_product true a = one-mul a
masked_product false a = zero-mul a

pub masked_fits : (k : Bool) (a : ℕ) → Fits w8 a → Fits w8 (bool_byte k * a)
masked_fits true a f = rw (one-mul a) f
masked_fits false a f = rw (zero-mul a) (record { fits = omega arith })

both_assoc : (a b c : Bool) → (a && b && c) ≡ (a && (b && c))
both_assoc true b c = refl
both_assoc false b c = refl

zeros_more : (l : List ℕ) (a : ℕ) → zeros (l ++ a ∷ []) ≡ (zeros l && eqb a 0)
unfolding zeros
zeros_more [] a = and-true (eqb a 0)
zeros_more (x ∷ l) a = ap (λ (t : Bool). eqb x 0 && t) (zeros_more l a) ∙ sym (both_assoc (eqb x 0) (zeros l) (eqb a 0))

pub zeros_step : (p : Bool) (l : List ℕ) (f i bad : ℕ) → i < length l → eqb bad 0 ≡ (p && zeros (drop f (take i l)))
    → eqb (bit_or bad (masked (leb f i) (get_or l i 0))) 0 ≡ (p && zeros (drop f (take (i + 1) l)))
zeros_step p l f i bad h e = go (leb f i) refl
  where
    t : take (i + 1) l ≡ take i l ++ get_or l i 0 ∷ []
    t = rw (add-one i) (take-suc l i 0 h)

    n : length (take i l) ≡ i
    n = length-take-le i l (omega arith)

    go : (b : Bool) → leb f i ≡ b → eqb (bit_or bad (masked (leb f i) (get_or l i 0))) 0 ≡ (p && zeros (drop f (take (i + 1) l)))
    go true q =
        let k : f ≤ i = leb-true f i q in
        ap (λ (v : ℕ). eqb (bit_or bad v) 0) (ap (λ (b : Bool). masked b (get_or l i 0)) q ∙ masked_true (get_or l i 0))
        ∙ or_none bad (get_or l i 0) ∙ ap (λ (p : Bool). p && eqb (get_or l i 0) 0) e ∙ both_assoc p (zeros (drop f (take i l))) (eqb (get_or l i 0) 0)
        ∙ ap (λ (z : Bool). p && z)
        (sym (ap (λ (p : List ℕ). zeros (drop f p)) t ∙ ap zeros (drop-append-le f (take i l) (get_or l i 0 ∷ []) (omega (arith, n))) ∙ zeros_more (drop f (take i l)) (get_or l i 0)))
    go false q =
        let k : i < f = leb-false f i q in
        let m : length (take (i + 1) l) ≡ i + 1 = length-take-le (i + 1) l (omega (arith, n)) in
        ap (λ (v : ℕ). eqb (bit_or bad v) 0) (ap (λ (b : Bool). masked b (get_or l i 0)) q ∙ masked_false (get_or l i 0))
        ∙ ap (λ (v : ℕ). eqb v 0) (or_zero_r bad) ∙ e
        ∙ ap (λ (z : Bool). p && z)
        (ap zeros (drop_of_length-le (take i l) {i = f} (omega (arith, n))) ∙ sym (ap zeros (drop_of_length-le (take (i + 1) l) {i = f} (omega (arith, n)))))

-- ---- faults as octets

pub fault_none : (k : Bool) → eqb (1 - bool_byte k) 0 ≡ k
fault_none true = refl
fault_none false = refl

pub fault_fits : (k : Bool) → bool_byte k ≤ 1
fault_fits true = omega arith
fault_fits false = omega arith

back : (a b : ℕ) → bit_xor (bit_xor a b) b ≡ a
unfolding xor
back = sum_twice

differs : (a b : ℕ) → eqb (bit_xor a b) 0 ≡ eqb a b
differs a b = go (eqb a b) refl
  where
    go : (p : Bool) → eqb a b ≡ p → eqb (bit_xor a b) 0 ≡ eqb a b
    go true e = let x : a ≡ b = eqb-true a b e in ap (λ (v : ℕ). eqb (bit_xor v b) 0) x ∙ ap (λ (v : ℕ). eqb v 0) (xor_self b) ∙ sym e
    go false e =
        let n : a ≡ b → ⊥ = eqb-false a b e in
        ne_eqb (bit_xor a b) 0 (λ z. n (sym (back a b) ∙ ap (λ (v : ℕ). bit_xor v b) z)) ∙ sym e

pub mark_none : (x : List ℕ)
    → eqb (bit_or (bit_or (bit_or (bit_xor (get_or x 0 0) 0xa6) (bit_xor (get_or x 1 0) 0x59)) (bit_xor (get_or x 2 0) 0x59)) (bit_xor (get_or x 3 0) 0xa6)) 0 ≡ constant_right x
unfolding constant_right
mark_none x =
    let p = bit_xor (get_or x 0 0) 0xa6 in
    let q = bit_xor (get_or x 1 0) 0x59 in
    let r = bit_xor (get_or x 2 0) 0x59 in
    let s = bit_xor (get_or x 3 0) 0xa6 in
    or_none (bit_or (bit_or p q) r) s
    ∙ ap₂ ◌&&◌
    (or_none (bit_or p q) r ∙ ap₂ ◌&&◌ (or_none p q ∙ ap₂ ◌&&◌ (differs (get_or x 0 0) 0xa6) (differs (get_or x 1 0) 0x59)) (differs (get_or x 2 0) 0x59))
    (differs (get_or x 3 0) 0xa6)
