-- Which octets are a tag: RFC 8870, section 4.1, Figure 3, rule by rule. Nothing here speaks of splitting.
-- The numbers are written here from the RFC, not taken from Limits: so the theorems of proofs/ hold the limits by which
-- packets are split to these. Document 01, "Splitting the EKT tag", has the same numbers.
-- That ciphertext and data are octets (BYTE) is not asked here: a packet's elements are.
use Rattle.std.specs.Prelude.{ℕ, ◌+◌, ◌≤◌, ◌<◌, List, [], ◌∷◌, ◌++◌, length}
use Rattle.octets.specs.Number.{octets16}

-- ShortEKTField = EKTMsgTypeShort
abbrev pub short_tag : List ℕ
short_tag = 0 ∷ []

-- FullEKTField = EKTCiphertext SPI Epoch EKTMsgLength EKTMsgTypeFull
-- EKTMsgLength counts the whole field, itself and the type included: behind the ciphertext 2, 2, 2 and 1 octets.
abbrev pub full_tag : (ciphertext : List ℕ) (spi epoch : ℕ) → List ℕ
full_tag ciphertext spi epoch =
    ciphertext ++ octets16 spi ++ octets16 epoch ++ octets16 (length ciphertext + (2 + 2 + 2 + 1)) ++ (2 ∷ [])

-- ExtensionEKTField = ExtensionData EKTMsgLength EKTMsgTypeExtension
-- EKTMsgLength counts the whole field here too: behind the data 2 and 1 octets.
abbrev pub extension_tag : (message_type : ℕ) (contents : List ℕ) → List ℕ
extension_tag message_type contents = contents ++ octets16 (length contents + (2 + 1)) ++ (message_type ∷ [])

-- EKTField = FullEKTField / ShortEKTField / ExtensionEKTField, where
-- EKTCiphertext = 1*251BYTE, SPI = 2BYTE, Epoch = 2BYTE, ExtensionData = 1*1024BYTE, EKTMsgTypeExtension = %x03-FF
pub data IsTag : List ℕ → Type 0 where
  short : IsTag short_tag
  full : (ciphertext : List ℕ) (spi epoch : ℕ) → 1 ≤ length ciphertext → length ciphertext ≤ 251
      → spi < 65536 → epoch < 65536 → IsTag (full_tag ciphertext spi epoch)
  extension : (message_type : ℕ) (contents : List ℕ) → 3 ≤ message_type → message_type ≤ 255
      → 1 ≤ length contents → length contents ≤ 1024 → IsTag (extension_tag message_type contents)
