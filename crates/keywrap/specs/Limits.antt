-- Limits of document 02, order 4.
use Rattle.std.specs.Prelude.{ℕ, ◌+◌}

-- AES-128
abbrev pub key_length : ℕ
key_length = 16

-- the longest plaintext
abbrev pub plaintext_most : ℕ
plaintext_most = 240

-- its ciphertext, A and the registers R; 240 is a multiple of 8
abbrev pub ciphertext_most : ℕ
ciphertext_most = plaintext_most + 8
