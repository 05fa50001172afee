-- The limits by which packets are split: RFC 8870, section 4.1, Figure 3. The theorems of proofs/ hold them to Grammar's numbers.
use Rattle.std.specs.Prelude.{ℕ}

-- EKTCiphertext = 1*251BYTE
abbrev pub ciphertext_limit : ℕ
ciphertext_limit = 251

-- ExtensionData = 1*1024BYTE
abbrev pub data_limit : ℕ
data_limit = 1024

-- what stands behind the ciphertext: SPI 2, epoch 2, length 2, type 1
abbrev pub full_trailer : ℕ
full_trailer = 7

-- what stands behind the extension's data: length 2, type 1
abbrev pub extension_trailer : ℕ
extension_trailer = 3
