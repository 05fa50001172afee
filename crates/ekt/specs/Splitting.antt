-- Splitting a packet from its tag, read from the last octet backwards: document 01, "Splitting the EKT tag".
use Rattle.std.specs.Prelude.{ℕ, ◌+◌, ◌-◌, Bool, cond, ◌&&◌, List, length, leb, ltb, eqb, Result, Ok, Err}
use Rattle.octets.specs.Number.{octet_at, number16_at}
use Rattle.octets.specs.Range.{within}
use Rattle.octets.specs.Refusal.{number_of}
use Rattle.octets.specs.declared.refusal.Refusal.{Refusal}
use Rattle.ekt.specs.Limits.{ciphertext_limit, data_limit, full_trailer, extension_trailer}
use Rattle.ekt.specs.declared.splitting.Form.{Form}
use Rattle.ekt.specs.declared.splitting.Form.TheVariants.{Short, Full, Extension, Unavailable}
use Rattle.ekt.specs.declared.splitting.Tag.{Tag}

-- what splitting answers: a refusal by its number, or the tag with its bounds in the packet.
-- The tag starts at start; the ciphertext or the extension's data ends at end.
pub data Split : Type 0 where
  refused : (number : ℕ) → Split
  short : (start : ℕ) → Split
  full : (spi epoch start end : ℕ) → Split
  extension : (message_type start end : ℕ) → Split

-- the type octet: 0 Short, 2 Full, 3 to 255 Extension; 1 is not available
unfoldable pub form_of : ℕ → Form
form_of message_type =
    cond (eqb message_type 0) Short
    (cond (eqb message_type 2) Full
    (cond (within 3 255 message_type) Extension
    Unavailable))

-- the length: the two octets before the type, 0 where the packet has not so many
unfoldable pub tag_length : List ℕ → ℕ
tag_length p = cond (ltb (length p) 3) 0 (number16_at p (length p - 3))

-- the length is that of 1 to most octets and the trailer, and not beyond the packet
unfoldable pub length_fits : List ℕ → (trailer most : ℕ) → Bool
length_fits p trailer most = within (trailer + 1) (trailer + most) (tag_length p) && leb (tag_length p) (length p)

-- where such a tag starts, or the refusal
abbrev pub tag_start : List ℕ → (trailer most : ℕ) → Result ℕ Refusal
tag_start p trailer most = cond (length_fits p trailer most) (Ok (length p - tag_length p)) (Err Refusal.NoTag)

unfoldable pub split_full : List ℕ → Split
split_full p =
    cond (length_fits p full_trailer ciphertext_limit)
    (full (number16_at p (length p - full_trailer)) (number16_at p (length p - 5)) (length p - tag_length p) (length p - full_trailer))
    (refused 18)

unfoldable pub split_extension : List ℕ → ℕ → Split
split_extension p message_type =
    cond (length_fits p extension_trailer data_limit)
    (extension message_type (length p - tag_length p) (length p - extension_trailer))
    (refused 18)

abbrev pub split_form : List ℕ → ℕ → Form → Split
split_form p message_type Short = short (length p - 1)
split_form p message_type Full = split_full p
split_form p message_type Extension = split_extension p message_type
split_form p message_type Unavailable = refused 18

unfoldable pub splitting : List ℕ → Split
splitting p =
    cond (eqb (length p) 0) (refused 18)
    (split_form p (octet_at p (length p - 1)) (form_of (octet_at p (length p - 1))))

-- the values of each case of a tag
abbrev pub tag_of : Tag → Split
tag_of (Tag.Short start) = short start
tag_of (Tag.Full spi epoch start end) = full spi epoch start end
tag_of (Tag.Extension message_type start end) = extension message_type start end

-- the number or the tag that a result stands for
abbrev pub answer_of : Result Tag Refusal → Split
answer_of (Err refusal) = refused (number_of refusal)
answer_of (Ok tag) = tag_of tag
