-- FIPS 197 (2001), appendix C.1: the example of AES-128, both ways, by computing the definitions.
use Prim.Native.Nat.{ℕ}
use mathlib.Core.Path.{◌≡◌, refl}
use mathlib.Core.List.{List, [], ◌∷◌}
use Rattle.aes.specs.Field.{xor, xtime, multiples, mul, squares, inverse, bit, from_bits, affine, sub_byte, inv_affine, inv_sub_byte}
use Rattle.aes.specs.State.{at, column, state_by, sub_bytes, inv_sub_bytes, shift_rows, inv_shift_rows, row_times, mixed, mix_columns, inv_mix_columns, add_round_key}
use Rattle.aes.specs.KeyExpansion.{word_octet, word, sub_word, rot_word, xor_words, power, rcon, temp, next_word, longer, schedule, key_expansion, round_key}
use Rattle.aes.specs.Cipher.{round, rounds, cipher, inv_round, inv_rounds, inv_cipher, encrypt, decrypt}

abbrev key : List ℕ
key = 0 ∷ 1 ∷ 2 ∷ 3 ∷ 4 ∷ 5 ∷ 6 ∷ 7 ∷ 8 ∷ 9 ∷ 10 ∷ 11 ∷ 12 ∷ 13 ∷ 14 ∷ 15 ∷ []

abbrev plaintext : List ℕ
plaintext = 0x00 ∷ 0x11 ∷ 0x22 ∷ 0x33 ∷ 0x44 ∷ 0x55 ∷ 0x66 ∷ 0x77 ∷ 0x88 ∷ 0x99 ∷ 0xaa ∷ 0xbb ∷ 0xcc ∷ 0xdd ∷ 0xee ∷ 0xff ∷ []

abbrev ciphertext : List ℕ
ciphertext = 0x69 ∷ 0xc4 ∷ 0xe0 ∷ 0xd8 ∷ 0x6a ∷ 0x7b ∷ 0x04 ∷ 0x30 ∷ 0xd8 ∷ 0xcd ∷ 0xb7 ∷ 0x80 ∷ 0x70 ∷ 0xb4 ∷ 0xc5 ∷ 0x5a ∷ []

encrypted : encrypt key plaintext ≡ ciphertext
unfolding encrypt cipher rounds round key_expansion schedule longer next_word temp xor_words sub_word rot_word rcon word word_octet power round_key sub_bytes shift_rows mix_columns mixed row_times add_round_key state_by column at sub_byte affine from_bits bit inverse squares mul multiples xtime xor
encrypted = refl

decrypted : decrypt key ciphertext ≡ plaintext
unfolding decrypt inv_cipher inv_rounds inv_round key_expansion schedule longer next_word temp xor_words sub_word rot_word rcon word word_octet power round_key inv_sub_bytes inv_shift_rows inv_mix_columns mixed row_times add_round_key state_by column at sub_byte inv_sub_byte inv_affine affine from_bits bit inverse squares mul multiples xtime xor
decrypted = refl
