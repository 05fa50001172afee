-- The octets of the key schedule.
use Prim.Native.Nat.{ℕ, zero, suc, ◌+◌, ◌*◌, ◌-◌, ◌/◌, ◌%◌, ◌<◌, ◌≤◌}
use mathlib.Core.Path.{◌≡◌, refl, sym, ◌∙◌}
use mathlib.Core.Bool.{Bool, true, false, cond}
use mathlib.Core.List.{List, [], ◌∷◌, ◌++◌, append_assoc}
use native.Mathlib.Omega.{arith}
use native.Mathlib.Numerals.{add-one}
use borrow.Author.Tests.{eq-eqb, ne_eqb}
use lib.Dec.{eqb}
use lib.ListN.{length, get_or, set, take, drop, length-set}
use lib.Seq.{get_or-take, take-suc-set}
use Rattle.octets.specs.Number.{Octets}
use Rattle.octets.proofs.OctetLaws.{four_octets, append_octets, take_octets, drop_octets}
use Rattle.aes.specs.Field.{xor, sub_byte}
use Rattle.aes.specs.KeyExpansion.{word_octet, word, sub_word, rot_word, xor_words, power, rcon, temp, next_word, longer, schedule, key_expansion, round_key}
use Rattle.aes.specs.Cipher.{round, rounds, inv_round, inv_rounds}
use Rattle.aes.proofs.Xor.{sum_lt, sum_zero}
use Rattle.aes.proofs.Xtime.{mul_lt}
use Rattle.aes.proofs.SBox.{sub_lt}
use Rattle.aes.proofs.StateLaws.{by_four}

power_lt : (n : ℕ) → power n < 256
unfolding power
power_lt zero = omega arith
power_lt (suc n) = mul_lt 2 (power n) (power_lt n)

cond_lt : (t : Bool) (a b : ℕ) → a < 256 → b < 256 → cond t a b < 256
cond_lt true a b ha hb = ha
cond_lt false a b ha hb = hb

-- ---- octet by octet

-- octet j of Rcon[n], of temp, and of w[i]
unfoldable rcon_octet : (n j : ℕ) → ℕ
rcon_octet n j = cond (eqb j 0) (power (n - 1)) 0

unfoldable temp_octet : (w : List ℕ) (i j : ℕ) → ℕ
temp_octet w i j =
    cond (eqb (i % 4) 0) (xor (sub_byte (word_octet w (i - 1) ((j + 1) % 4))) (rcon_octet (i / 4) j)) (word_octet w (i - 1) j)

unfoldable next_octet : (w : List ℕ) (i j : ℕ) → ℕ
next_octet w i j = xor (word_octet w (i - 4) j) (temp_octet w i j)

next_octets : (w : List ℕ) (i : ℕ) → next_word w i ≡ next_octet w i 0 ∷ next_octet w i 1 ∷ next_octet w i 2 ∷ next_octet w i 3 ∷ []
unfolding next_word temp xor_words sub_word rot_word rcon word next_octet temp_octet rcon_octet
next_octets w i = go (eqb (i % 4) 0)
  where
    go : (b : Bool)
        → xor_words (word w (i - 4)) (cond b (xor_words (sub_word (rot_word (word w (i - 1)))) (rcon (i / 4))) (word w (i - 1)))
        ≡ xor (word_octet w (i - 4) 0) (cond b (xor (sub_byte (word_octet w (i - 1) 1)) (power (i / 4 - 1))) (word_octet w (i - 1) 0))
        ∷ xor (word_octet w (i - 4) 1) (cond b (xor (sub_byte (word_octet w (i - 1) 2)) 0) (word_octet w (i - 1) 1))
        ∷ xor (word_octet w (i - 4) 2) (cond b (xor (sub_byte (word_octet w (i - 1) 3)) 0) (word_octet w (i - 1) 2))
        ∷ xor (word_octet w (i - 4) 3) (cond b (xor (sub_byte (word_octet w (i - 1) 0)) 0) (word_octet w (i - 1) 3)) ∷ []
    go true = refl
    go false = refl

module _ (w : List ℕ) (o : Octets w) where
  word_lt : (i j : ℕ) → word_octet w i j < 256
  unfolding word_octet
  word_lt i j = o (4 * i + j)

  next_lt : (i j : ℕ) → next_octet w i j < 256
  unfolding next_octet temp_octet rcon_octet
  next_lt i j =
      sum_lt (word_octet w (i - 4) j) (temp_octet w i j) (word_lt (i - 4) j)
      (cond_lt (eqb (i % 4) 0) (xor (sub_byte (word_octet w (i - 1) ((j + 1) % 4))) (rcon_octet (i / 4) j)) (word_octet w (i - 1) j)
      (sum_lt (sub_byte (word_octet w (i - 1) ((j + 1) % 4))) (rcon_octet (i / 4) j)
      (sub_lt (word_octet w (i - 1) ((j + 1) % 4)) (word_lt (i - 1) ((j + 1) % 4)))
      (cond_lt (eqb j 0) (power (i / 4 - 1)) 0 (power_lt (i / 4 - 1)) (omega arith)))
      (word_lt (i - 1) j))

  word_octets : (i : ℕ) → Octets (next_word w i)
  word_octets i =
      rw (next_octets w i)
      (four_octets (next_octet w i 0) (next_octet w i 1) (next_octet w i 2) (next_octet w i 3) (next_lt i 0) (next_lt i 1) (next_lt i 2) (next_lt i 3))

schedule_octets : (n : ℕ) (k : List ℕ) → Octets k → Octets (schedule n k)
unfolding schedule longer
schedule_octets zero k o = o
schedule_octets (suc n) k o =
    append_octets (schedule n k) (next_word (schedule n k) (4 + n)) (schedule_octets n k o)
    (word_octets (schedule n k) (schedule_octets n k o) (4 + n))

pub expansion_octets : (k : List ℕ) → Octets k → Octets (key_expansion k)
unfolding key_expansion
expansion_octets k o = schedule_octets 40 k o

pub key_octets : (w : List ℕ) (n : ℕ) → Octets w → Octets (round_key w n)
unfolding round_key
key_octets w n o = take_octets 16 (drop (16 * n) w) (drop_octets (16 * n) w o)

-- ---- rounds

pub rounds_more : (w : List ℕ) (n : ℕ) (s : List ℕ) → 1 ≤ n → round w n (rounds w (n - 1) s) ≡ rounds w n s
unfolding rounds
rounds_more w zero s h = absurd (omega arith)
rounds_more w (suc n) s h = let e : suc n - 1 ≡ n = omega arith in rw e

pub inv_rounds_less : (w : List ℕ) (n : ℕ) (t : List ℕ) → 0 < n → inv_rounds w n t ≡ inv_rounds w (n - 1) (inv_round w n t)
unfolding inv_rounds
inv_rounds_less w zero t h = absurd (omega arith)
inv_rounds_less w (suc n) t h = let e : suc n - 1 ≡ n = omega arith in rw e

-- ---- the schedule, as the loop makes it

-- an octet asks only for those before its word
next_same : (v w : List ℕ) (i j : ℕ) → 4 ≤ i → j < 4 → ((k : ℕ) → k < 4 * i → get_or v k 0 ≡ get_or w k 0) → next_octet v i j ≡ next_octet w i j
unfolding next_octet temp_octet word_octet
next_same v w i j hi hj e =
    rw (e (4 * (i - 4) + j) (omega arith), e (4 * (i - 1) + (j + 1) % 4) (omega arith), e (4 * (i - 1) + j) (omega arith))

-- and so does a word
next_taken : (w : List ℕ) (i : ℕ) → 4 ≤ i → next_word (take (4 * i) w) i ≡ next_word w i
next_taken w i h =
    let s = λ (j : ℕ) (hj : j < 4). next_same (take (4 * i) w) w i j h hj (λ k l. get_or-take (4 * i) w k 0 l) in
    next_octets (take (4 * i) w) i
    ∙ rw (s 0 (omega arith), s 1 (omega arith), s 2 (omega arith), s 3 (omega arith)) (sym (next_octets w i))

-- a word by its octets
all_four : (w : List ℕ) (i : ℕ) → (get_or (next_word w i) 0 0 ∷ get_or (next_word w i) 1 0 ∷ get_or (next_word w i) 2 0 ∷ get_or (next_word w i) 3 0 ∷ []) ≡ next_word w i
unfolding next_word xor_words
all_four w i = refl

next_set : (w : List ℕ) (n m x : ℕ) → n < length w → m ≡ n + 1 → take m (set w n x) ≡ take n w ++ x ∷ []
next_set w n m x h e = rw (e, add-one n) (take-suc-set w n x h)

four_set : (w : List ℕ) (n a b c d : ℕ) → n + 4 ≤ length w
    → take (n + 4) (set (set (set (set w n a) (n + 1) b) (n + 2) c) (n + 3) d) ≡ take n w ++ (a ∷ b ∷ c ∷ d ∷ [])
four_set w n a b c d h =
    let s = set w n a in
    let t = set s (n + 1) b in
    let u = set t (n + 2) c in
    let ls : length s ≡ length w = length-set w n a in
    let lt : length t ≡ length w = length-set s (n + 1) b ∙ ls in
    let lu : length u ≡ length w = length-set t (n + 2) c ∙ lt in
    next_set u (n + 3) (n + 4) d (omega arith) (omega arith)
    ∙ rw (
      next_set t (n + 2) (n + 3) c (omega arith) (omega arith),
      next_set s (n + 1) (n + 2) b (omega arith) (omega arith),
      next_set w n (n + 1) a (omega arith) refl,
    ) (simp append_assoc)

pub one_longer : (key w v : List ℕ) (i : ℕ) → length w ≡ 176 → 4 ≤ i → i < 44 → take (4 * i) w ≡ schedule (i - 4) key → v ≡ next_word w i
    → take (4 * (i + 1)) (set (set (set (set w (4 * i) (get_or v 0 0)) (4 * i + 1) (get_or v 1 0)) (4 * i + 2) (get_or v 2 0)) (4 * i + 3) (get_or v 3 0))
    ≡ schedule (i + 1 - 4) key
unfolding schedule longer
one_longer key w v i l h j e f =
    let n : i + 1 - 4 ≡ suc (i - 4) = omega arith in
    let m : 4 + (i - 4) ≡ i = omega arith in
    let k : 4 * (i + 1) ≡ 4 * i + 4 = omega arith in
    rw (n, m, k, four_set w (4 * i) (get_or v 0 0) (get_or v 1 0) (get_or v 2 0) (get_or v 3 0) (omega arith), f, all_four w i, ← next_taken w i h, e) refl

-- ---- what is added, by words

pub temp_fourth : (w : List ℕ) (i : ℕ) → i % 4 ≡ 0
    → xor (sub_byte (get_or w (4 * (i - 1) + 1) 0)) (power (i / 4 - 1)) ∷ sub_byte (get_or w (4 * (i - 1) + 2) 0) ∷ sub_byte (get_or w (4 * (i - 1) + 3) 0) ∷ sub_byte (get_or w (4 * (i - 1)) 0) ∷ []
    ≡ temp w i
unfolding temp xor_words sub_word rot_word rcon word word_octet
temp_fourth w i h =
    let e : 4 * (i - 1) + 0 ≡ 4 * (i - 1) = omega arith in
    rw (eq-eqb (i % 4) 0 h, sum_zero (sub_byte (get_or w (4 * (i - 1) + 2) 0)), sum_zero (sub_byte (get_or w (4 * (i - 1) + 3) 0)), e, sum_zero (sub_byte (get_or w (4 * (i - 1)) 0))) refl

pub temp_other : (w : List ℕ) (i : ℕ) → (i % 4 ≡ 0 → ⊥)
    → get_or w (4 * (i - 1)) 0 ∷ get_or w (4 * (i - 1) + 1) 0 ∷ get_or w (4 * (i - 1) + 2) 0 ∷ get_or w (4 * (i - 1) + 3) 0 ∷ [] ≡ temp w i
unfolding temp word word_octet
temp_other w i h = let e : 4 * (i - 1) + 0 ≡ 4 * (i - 1) = omega arith in rw (ne_eqb (i % 4) 0 h, e) refl

module _ (w : List ℕ) (i : ℕ) where
  pub next_long : length (next_word w i) ≡ 4
  unfolding next_word xor_words
  next_long = refl

  pub next_at : (t : List ℕ) → t ≡ temp w i → (k : ℕ) → k < 4 → get_or (next_word w i) k 0 ≡ xor (get_or w (4 * (i - 4) + k) 0) (get_or t k 0)
  unfolding next_word xor_words word word_octet
  next_at t h k l =
      rw h
      (by_four (λ (x : ℕ). get_or (next_word w i) x 0 ≡ xor (get_or w (4 * (i - 4) + x) 0) (get_or (temp w i) x 0)) refl refl refl refl k l)
