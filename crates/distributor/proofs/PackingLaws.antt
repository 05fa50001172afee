-- Laws of bits that are put one behind the other into an output.
use Prim.Native.Nat.{ℕ, ◌+◌, ◌-◌, ◌*◌, ◌/◌, ◌%◌, ◌^◌, ◌≤◌, ◌<◌}
use mathlib.Core.Path.{◌≡◌, refl, sym, ap, ap₂, subst, ◌∙◌}
use mathlib.Core.List.{List, [], ◌++◌, append_assoc}
use native.Mathlib.Omega.{arith}
use native.Mathlib.Nat.{add-mul, mul_assoc, add_assoc, add-zero, mod-lt, lt_of_lt_of_le}
use native.Mathlib.Numerals.{add-one}
use lib.Pow.{pow-add, pow_mono, pow_pos, high, low, mod-pow-add, mod-mod-pow, shl_exact}
use lib.ListN.{length, set, take, drop, length-append, length-set, take-append-drop}
use lib.Seq.{take-suc-set, drop-set-lt, drop-drop, length-take-le}
use Rattle.octets.proofs.OctetLaws.{take_octets}
use Rattle.status.specs.Bits.{bits_of}
use Rattle.status.specs.Claims.{joined}
use Rattle.status.proofs.BitLaws.{length_bits, bits_add, below_add}
use Rattle.status.proofs.JoinedLaws.{joined_next, packed}
use Rattle.distributor.specs.Packing.{word_bits, FourPut, Holds, Packed, Puts, Ends, Finishes}
use Rattle.distributor.specs.declared.packing.Packing.{Packing}

regroup : (j a b f p : ℕ) → j * (a * b) + (f * b + p) ≡ (j * a + f) * b + p
regroup j a b f p =
    ap (λ (x : ℕ). x + (f * b + p)) (sym (mul_assoc j a b)) ∙ sym (add_assoc (j * a * b) (f * b) p) ∙ ap (λ (x : ℕ). x + p) (sym (add-mul (j * a) f b))

drop_further : (x y : List ℕ) (at n : ℕ) → drop at x ≡ drop at y → drop (at + n) x ≡ drop (at + n) y
drop_further x y at n e = sym (drop-drop n at x) ∙ ap (drop n) e ∙ drop-drop n at y

-- ---- octets stored

stored : (out : List ℕ) (at octet : ℕ) → at < length out → joined 0 (take (at + 1) (set out at octet)) ≡ joined 0 (take at out) * 256 + octet
stored out at octet h = rw add-one (ap (joined 0) (take-suc-set out at octet h) ∙ joined_next 0 (take at out) octet)

module _ (out : List ℕ) (at a b c d : ℕ) (h : at + 4 ≤ length out) where
  abbrev one : List ℕ
  one = set out at a

  abbrev two : List ℕ
  two = set one (at + 1) b

  abbrev three : List ℕ
  three = set two (at + 2) c

  abbrev pub four : List ℕ
  four = set three (at + 3) d

  length_one : length one ≡ length out
  length_one = length-set out at a

  length_two : length two ≡ length out
  length_two = length-set one (at + 1) b ∙ length_one

  length_three : length three ≡ length out
  length_three = length-set two (at + 2) c ∙ length_two

  pub four_put : (n : ℕ) → n ≡ ((a * 256 + b) * 256 + c) * 256 + d → FourPut out at n four
  four_put n q =
      let s = stored out at a (omega arith) in
      let t = stored one (at + 1) b (omega (arith, length_one)) in
      let u = stored two (at + 2) c (omega (arith, length_two)) in
      let v = stored three (at + 3) d (omega (arith, length_three)) in
      let e : at + 1 + 1 ≡ at + 2 = omega arith in
      let f : at + 2 + 1 ≡ at + 3 = omega arith in
      let g : at + 3 + 1 ≡ at + 4 = omega arith in
      record {
        front = omega (arith, q, s, rw e at t, rw f at u, rw g at v);
        behind =
            drop-set-lt (at + 4) three (at + 3) d (omega arith) ∙ drop-set-lt (at + 4) two (at + 2) c (omega arith)
            ∙ drop-set-lt (at + 4) one (at + 1) b (omega arith) ∙ drop-set-lt (at + 4) out at a (omega arith);
      }

-- ---- a number and bits that wait

module _ (first : List ℕ) (number : ℕ) (out : List ℕ) (at p : ℕ) where
  -- the highest k of those that wait are written in n octets
  pub flushed : (k b n : ℕ) (new : List ℕ) → Holds first number out at p (k + b) → length new ≡ length out
      → joined 0 (take (at + n) new) ≡ joined 0 (take at out) * 2 ^ k + p / 2 ^ b % 2 ^ k → drop (at + n) new ≡ drop (at + n) out
      → Holds first number new (at + n) p b
  flushed k b n new h l f d = record {
    size = l ∙ h.size;
    whole =
        ap (λ (x : ℕ). x * 2 ^ b + p % 2 ^ b) f ∙ sym (regroup (joined 0 (take at out)) (2 ^ k) (2 ^ b) (p / 2 ^ b % 2 ^ k) (p % 2 ^ b))
        ∙ ap₂ (λ (x y : ℕ). joined 0 (take at out) * x + y) (sym (pow-add 2 k b)) (sym (mod-pow-add p k b))
        ∙ h.whole;
    behind = d ∙ drop_further out first at n h.behind;
  }

  word_cut : (b : ℕ) → b ≤ word_bits → p % 2 ^ word_bits % 2 ^ b ≡ p % 2 ^ b
  word_cut b l =
      let e : word_bits - b + b ≡ word_bits = omega arith in
      ap (λ (x : ℕ). p % 2 ^ x % 2 ^ b) (sym e) ∙ mod-mod-pow p (word_bits - b) b

  -- the bits above a word do not matter
  pub held_word : (b : ℕ) → b ≤ word_bits → Holds first number out at p b → Holds first number out at (p % 2 ^ word_bits) b
  held_word b l h = record { size = h.size; whole = ap (λ (x : ℕ). joined 0 (take at out) * 2 ^ b + x) (word_cut b l) ∙ h.whole; behind = h.behind }

  -- a number in so many bits is put behind those that wait
  pub put_held : (b width n : ℕ) → Holds first number out at p b → b ≤ word_bits → n < 2 ^ width
      → Holds first (number * 2 ^ width + n) out at (p % 2 ^ word_bits * 2 ^ width + n) (b + width)
  put_held b width n h l f =
      let q = p % 2 ^ word_bits * 2 ^ width + n in
      let m : (p % 2 ^ word_bits * 2 ^ width + n) % 2 ^ (b + width) ≡ p % 2 ^ b * 2 ^ width + n =
      mod-pow-add q b width
      ∙ ap₂ (λ (x y : ℕ). x % 2 ^ b * 2 ^ width + y) (high (p % 2 ^ word_bits) width f) (low (p % 2 ^ word_bits) width f)
      ∙ ap (λ (x : ℕ). x * 2 ^ width + n) (word_cut b l) in
      record {
        size = h.size;
        whole =
            ap₂ (λ (x y : ℕ). joined 0 (take at out) * x + y) (pow-add 2 b width) m
            ∙ regroup (joined 0 (take at out)) (2 ^ b) (2 ^ width) (p % 2 ^ b) n
            ∙ ap (λ (x : ℕ). x * 2 ^ width + n) h.whole;
        behind = h.behind;
      }

-- no bit that waits is shifted out
module _ (p width : ℕ) (l : width ≤ word_bits) where
  word_below : p % 2 ^ word_bits < 2 ^ word_bits
  word_below = mod-lt p (pow_pos word_bits)

  pub shifted : p % 2 ^ word_bits * 2 ^ width % 2 ^ 64 ≡ p % 2 ^ word_bits * 2 ^ width
  shifted = shl_exact word_bits width 64 word_below (omega arith)

  pub sum_fits : (n : ℕ) → n < 2 ^ width → p % 2 ^ word_bits * 2 ^ width % 2 ^ 64 + n < 2 ^ 64
  sum_fits n h =
      let k : word_bits + width ≤ 64 = omega arith in
      subst (λ (x : ℕ). x + n < 2 ^ 64) (sym shifted) (lt_of_lt_of_le (below_add word_bits width word_below h) (pow_mono k))

-- ---- bits

-- nothing was put
pub put_nothing : (out : List ℕ) → Packed out [] out (record { at = 0; pending = 0; bits = 0 })
unfolding bits_of joined
put_nothing out = record { number = 0; spelled = refl; below = omega arith; width = refl; held = record { size = refl; whole = refl; behind = refl } }

-- piece behind piece
pub puts_more : (a b c x y : List ℕ) (u v w : Packing) → Puts a u x b v → Puts b v y c w → Puts a u (x ++ y) c w
puts_more a b c x y u v w f g first front h =
    subst (λ (z : List ℕ). Packed first z c w) (append_assoc front x y) (g first (front ++ x) (f first front h))

module _ (old : List ℕ) (w : Packing) (width n : ℕ) (f : n < 2 ^ width) where
  put_packed : (first front : List ℕ) (c : Packed first front old w) (new : List ℕ) (r : Packing) → r.at * 8 + r.bits ≡ w.at * 8 + w.bits + width
      → Holds first (c.number * 2 ^ width + n) new r.at r.pending r.bits → Packed first (front ++ bits_of width n) new r
  put_packed first front c new r e h =
      let k : length (front ++ bits_of width n) ≡ length front + width = length-append front (bits_of width n) ∙ ap (λ (x : ℕ). length front + x) (length_bits width n) in
      record {
        number = c.number * 2 ^ width + n;
        spelled =
            ap (λ (x : ℕ). bits_of x (c.number * 2 ^ width + n)) k ∙ bits_add (length front) width c.number n f
            ∙ ap (λ (x : List ℕ). x ++ bits_of width n) c.spelled;
        below = subst (λ (x : ℕ). c.number * 2 ^ width + n < 2 ^ x) (sym k) (below_add (length front) width c.below f);
        width = omega (arith, c.width, k, e);
        held = h;
      }

  module _ (few : w.bits < word_bits) (l : width ≤ word_bits) (p : ℕ) (q : p ≡ w.pending % 2 ^ word_bits * 2 ^ width % 2 ^ 64 + n) where
    held_more : (first : List ℕ) (number : ℕ) → Holds first number old w.at w.pending w.bits
        → Holds first (number * 2 ^ width + n) old w.at p (w.bits + width)
    held_more first number h =
        subst (λ (x : ℕ). Holds first (number * 2 ^ width + n) old w.at x (w.bits + width))
        (sym (q ∙ ap (λ (x : ℕ). x + n) (shifted w.pending width l)))
        (put_held first number old w.at w.pending w.bits width n h (omega arith) f)

    -- they wait
    pub put_waits : Puts old w (bits_of width n) old (record { at = w.at; pending = p; bits = w.bits + width })
    put_waits first front c =
        put_packed first front c old (record { at = w.at; pending = p; bits = w.bits + width }) (omega arith) (held_more first c.number c.held)

    -- four octets are written
    pub put_flushes : word_bits ≤ w.bits + width → (new : List ℕ) → length new ≡ length old
        → FourPut old w.at (p / 2 ^ (w.bits + width - word_bits) % 2 ^ word_bits) new
        → Puts old w (bits_of width n) new (record { at = w.at + 4; pending = p % 2 ^ word_bits; bits = w.bits + width - word_bits })
    put_flushes h new s t first front c =
        let e : w.bits + width ≡ word_bits + (w.bits + width - word_bits) = omega arith in
        let k = subst (λ (x : ℕ). Holds first (c.number * 2 ^ width + n) old w.at p x) e (held_more first c.number c.held) in
        put_packed first front c new (record { at = w.at + 4; pending = p % 2 ^ word_bits; bits = w.bits + width - word_bits }) (omega arith)
        (held_word first (c.number * 2 ^ width + n) new (w.at + 4) p (w.bits + width - word_bits) (omega arith)
        (flushed first (c.number * 2 ^ width + n) old w.at p word_bits (w.bits + width - word_bits) 4 new k s t.front t.behind))

-- ---- the last octets

pub last_turn : (first : List ℕ) (number : ℕ) (out : List ℕ) (end p left : ℕ) → 0 < left → left ≤ end → end ≤ length out
    → Holds first number out (end - left) p (left * 8) → Holds first number (set out (end - left) (p / 2 ^ (left * 8 - 8) % 256)) (end - (left - 1)) p ((left - 1) * 8)
last_turn first number out end p left h i j k =
    let new = set out (end - left) (p / 2 ^ (left * 8 - 8) % 256) in
    let e : left * 8 ≡ 8 + (left * 8 - 8) = omega arith in
    let f : end - left + 1 ≡ end - (left - 1) = omega arith in
    let g : left * 8 - 8 ≡ (left - 1) * 8 = omega arith in
    subst (λ (x : ℕ). Holds first number new x p ((left - 1) * 8)) f
    (subst (λ (x : ℕ). Holds first number new (end - left + 1) p x) g
    (flushed first number out (end - left) p 8 (left * 8 - 8) 1 new
    (subst (λ (x : ℕ). Holds first number out (end - left) p x) e k)
    (length-set out (end - left) (p / 2 ^ (left * 8 - 8) % 256))
    (stored out (end - left) (p / 2 ^ (left * 8 - 8) % 256) (omega arith))
    (drop-set-lt (end - left + 1) out (end - left) (p / 2 ^ (left * 8 - 8) % 256) (omega arith))))

module _ (old : List ℕ) (w : Packing) (end : ℕ) (e : Ends old w end) (p : ℕ)
    (q : p ≡ w.pending % 2 ^ word_bits * 2 ^ ((end - w.at) * 8 - w.bits) % 2 ^ 64) where
  abbrev fill : ℕ
  fill = (end - w.at) * 8 - w.bits

  -- zero bits fill the last octet
  filled : (first : List ℕ) (number : ℕ) → Holds first number old w.at w.pending w.bits
      → Holds first (number * 2 ^ fill) old w.at p ((end - w.at) * 8)
  filled first number h =
      let a : w.bits + fill ≡ (end - w.at) * 8 = omega (arith, e.all) in
      let b : p ≡ w.pending % 2 ^ word_bits * 2 ^ fill + 0 = q ∙ shifted w.pending fill (omega (arith, e.filling, e.few, e.all)) ∙ sym (add-zero (w.pending % 2 ^ word_bits * 2 ^ fill)) in
      let k = put_held first number old w.at w.pending w.bits fill 0 h (omega (arith, e.few)) (pow_pos fill) in
      subst (λ (x : ℕ). Holds first x old w.at p ((end - w.at) * 8)) (add-zero (number * 2 ^ fill))
      (subst (λ (x : ℕ). Holds first (number * 2 ^ fill + 0) old w.at x ((end - w.at) * 8)) (sym b)
      (subst (λ (x : ℕ). Holds first (number * 2 ^ fill + 0) old w.at (w.pending % 2 ^ word_bits * 2 ^ fill + 0) x) a k))

  pub finished : (new : List ℕ) (left : ℕ) → left ≡ 0 → length new ≡ length old
      → ((first : List ℕ) (number : ℕ) → Holds first number old (end - (end - w.at)) p ((end - w.at) * 8) → Holds first number new (end - left) p (left * 8))
      → Finishes old w end new
  finished new left z s f first bits o c =
      let a : w.at ≡ end - (end - w.at) = omega (arith, e.all) in
      let b : Holds first (c.number * 2 ^ fill) old (end - (end - w.at)) p ((end - w.at) * 8) =
      subst (λ (x : ℕ). Holds first (c.number * 2 ^ fill) old x p ((end - w.at) * 8)) a (filled first c.number c.held) in
      let u : end - left ≡ end = omega arith in
      let v : left * 8 ≡ 0 = omega arith in
      let h : Holds first (c.number * 2 ^ fill) new end p 0 =
      subst (λ (x : ℕ). Holds first (c.number * 2 ^ fill) new x p 0) u
      (subst (λ (x : ℕ). Holds first (c.number * 2 ^ fill) new (end - left) p x) v (f first (c.number * 2 ^ fill) b)) in
      let k : end ≤ length new = omega (arith, e.room) in
      let l = length-take-le end new k in
      let j : joined 0 (take end new) ≡ c.number * 2 ^ fill = omega (arith, h.whole) in
      let t = packed bits c.number fill c.spelled c.below (omega (arith, e.filling, e.all)) (take end new) (take_octets end new o) (omega (arith, l, c.width, e.all)) j in
      sym (take-append-drop end new) ∙ ap₂ (λ (x y : List ℕ). x ++ y) t h.behind
