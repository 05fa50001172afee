-- What splitting a packet from its EKT tag answers, as numbers: document 01, "Splitting the EKT tag".
use Rattle.std.specs.Prelude.{ℕ, cond, eqb}
use Rattle.octets.specs.Bounds.{nowhere}
use Rattle.octets.specs.declared.parts.Bounds.{Bounds}
use Rattle.ekt.specs.Splitting.{Split, refused, short, full, extension}
use Rattle.ekt.specs.Parts.{front_bounds, ciphertext_bounds, data_bounds}
use Rattle.shawm.specs.Refusal.{refusal}

-- the tag's type octet (RFC 8870, section 4.1), or the refusal
abbrev pub tag_type : Split → ℕ
tag_type (refused number) = refusal number
tag_type (short start) = 0
tag_type (full spi epoch start end) = 2
tag_type (extension message_type start end) = message_type

-- where a part begins and ends, by its number in the C interface: 1 front, 2 ciphertext, 3 extension data
unfoldable pub part_bounds : Split → (part : ℕ) → Bounds
part_bounds s part =
    cond (eqb part 1) (front_bounds s)
    (cond (eqb part 2) (ciphertext_bounds s)
    (cond (eqb part 3) (data_bounds s)
    nowhere))

-- 1 SPI, 2 epoch; 0 where there is none
unfoldable pub spi_or_epoch : (spi epoch field : ℕ) → ℕ
spi_or_epoch spi epoch field = cond (eqb field 1) spi (cond (eqb field 2) epoch 0)

abbrev pub tag_number : Split → (field : ℕ) → ℕ
tag_number (refused number) field = 0
tag_number (short start) field = 0
tag_number (full spi epoch start end) field = spi_or_epoch spi epoch field
tag_number (extension message_type start end) field = 0
