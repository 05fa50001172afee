-- KeyExpansion for keys of 16 octets: FIPS 197 (2001), 5.2 and figure 11, with Nk = 4 and Nr = 10. A word is 4 octets, and a
-- schedule w is a list of octets, word behind word.
use Rattle.std.specs.Prelude.{ℕ, zero, suc, ◌+◌, ◌*◌, ◌-◌, ◌/◌, ◌%◌, cond, List, [], ◌∷◌, ◌++◌, eqb, take, drop}
use Rattle.octets.specs.Number.{octet_at}
use Rattle.aes.specs.Field.{xor, mul, sub_byte}

-- octet j of w[i]
unfoldable pub word_octet : (w : List ℕ) (i j : ℕ) → ℕ
word_octet w i j = octet_at w (4 * i + j)

-- w[i]
unfoldable pub word : (w : List ℕ) (i : ℕ) → List ℕ
word w i = word_octet w i 0 ∷ word_octet w i 1 ∷ word_octet w i 2 ∷ word_octet w i 3 ∷ []

unfoldable pub sub_word : List ℕ → List ℕ
sub_word b = sub_byte (octet_at b 0) ∷ sub_byte (octet_at b 1) ∷ sub_byte (octet_at b 2) ∷ sub_byte (octet_at b 3) ∷ []

unfoldable pub rot_word : List ℕ → List ℕ
rot_word b = octet_at b 1 ∷ octet_at b 2 ∷ octet_at b 3 ∷ octet_at b 0 ∷ []

unfoldable pub xor_words : List ℕ → List ℕ → List ℕ
xor_words a b =
    xor (octet_at a 0) (octet_at b 0) ∷ xor (octet_at a 1) (octet_at b 1) ∷ xor (octet_at a 2) (octet_at b 2) ∷ xor (octet_at a 3) (octet_at b 3) ∷ []

-- x^n
unfoldable pub power : ℕ → ℕ
power zero = 1
power (suc n) = mul 0x02 (power n)

-- Rcon[n]: x^(n - 1) and three octets 0
unfoldable pub rcon : ℕ → List ℕ
rcon n = power (n - 1) ∷ 0 ∷ 0 ∷ 0 ∷ []

-- temp: w[i - 1], and at each fourth word SubWord(RotWord(w[i - 1])) xor Rcon[i / 4]
unfoldable pub temp : (w : List ℕ) (i : ℕ) → List ℕ
temp w i =
    cond (eqb (i % 4) 0)
    (xor_words (sub_word (rot_word (word w (i - 1)))) (rcon (i / 4)))
    (word w (i - 1))

-- w[i] = w[i - 4] xor temp
unfoldable pub next_word : (w : List ℕ) (i : ℕ) → List ℕ
next_word w i = xor_words (word w (i - 4)) (temp w i)

unfoldable pub longer : (w : List ℕ) (i : ℕ) → List ℕ
longer w i = w ++ next_word w i

-- the key's four words, and n words more
unfoldable pub schedule : (n : ℕ) (key : List ℕ) → List ℕ
schedule zero key = key
schedule (suc n) key = longer (schedule n key) (4 + n)

-- 44 words
unfoldable pub key_expansion : (key : List ℕ) → List ℕ
key_expansion key = schedule 40 key

-- w[4n, 4n + 3]: the key of round n
unfoldable pub round_key : (w : List ℕ) (n : ℕ) → List ℕ
round_key w n = take 16 (drop (16 * n) w)
