-- What the theorems in proofs/ say of packets and answers.
use Rattle.std.specs.Prelude.{ℕ, ◌≡◌, List, ◌++◌}
use Rattle.octets.specs.Part.{part}
use Rattle.ekt.specs.Grammar.{IsTag, short_tag, full_tag, extension_tag}
use Rattle.ekt.specs.Splitting.{Split, refused, short, full, extension, splitting}
use Rattle.ekt.specs.Parts.{front, ciphertext, extension_data}

-- a packet's answer and its three parts
pub record Splits (p : List ℕ) (s : Split) (f c d : List ℕ) : Type 0 where
  pub answer : splitting p ≡ s
  pub in_front : front p ≡ f
  pub encrypted : ciphertext p ≡ c
  pub extended : extension_data p ≡ d

-- the packet is the front before an offset and this tag
pub record Ends (p : List ℕ) (start : ℕ) (tag : List ℕ) : Type 0 where
  pub whole : part p 0 start ++ tag ≡ p
  pub is_tag : IsTag tag

-- what an answer says of its packet
abbrev pub Says : List ℕ → Split → Type 0
Says p (refused number) = number ≡ 18
Says p (short start) = Ends p start short_tag
Says p (full spi epoch start end) = Ends p start (full_tag (part p start end) spi epoch)
Says p (extension message_type start end) = Ends p start (extension_tag message_type (part p start end))
