-- The parts of a packet with a tag: document 01, "Splitting the EKT tag". A part that is not there is empty, from 0 to 0.
use Rattle.std.specs.Prelude.{ℕ, List}
use Rattle.std.specs.Borrow.{Bor}
use Rattle.octets.specs.declared.parts.Bounds.{Bounds}
use Rattle.octets.specs.Bounds.{between, nowhere, part_in}
use Rattle.octets.specs.Lent.{BeginsAt, PartIn}
use Rattle.ekt.specs.Splitting.{Split, refused, short, full, extension, splitting}

-- the packet in front of the tag, the ciphertext and the extension's data
abbrev pub front_bounds : Split → Bounds
front_bounds (refused number) = nowhere
front_bounds (short start) = between 0 start
front_bounds (full spi epoch start end) = between 0 start
front_bounds (extension message_type start end) = between 0 start

abbrev pub ciphertext_bounds : Split → Bounds
ciphertext_bounds (refused number) = nowhere
ciphertext_bounds (short start) = nowhere
ciphertext_bounds (full spi epoch start end) = between start end
ciphertext_bounds (extension message_type start end) = nowhere

abbrev pub data_bounds : Split → Bounds
data_bounds (refused number) = nowhere
data_bounds (short start) = nowhere
data_bounds (full spi epoch start end) = nowhere
data_bounds (extension message_type start end) = between start end

unfoldable pub front : List ℕ → List ℕ
front p = part_in p (front_bounds (splitting p))

unfoldable pub ciphertext : List ℕ → List ℕ
ciphertext p = part_in p (ciphertext_bounds (splitting p))

unfoldable pub extension_data : List ℕ → List ℕ
extension_data p = part_in p (data_bounds (splitting p))

-- ---- the same as parts of the lent packet itself

-- r is the part of the packet between the bounds that its tag sets
abbrev pub PartBy : (bounds : Split → Bounds) (packet r : Bor (List ℕ)) → Type 0
PartBy bounds packet r = PartIn packet (bounds (splitting packet.now)) r

-- where they begin: the front from the packet's first octet on, ciphertext and data from the tag's
abbrev pub PartsBegin : (packet front ciphertext extension_data : Bor (List ℕ)) → Split → Type 0
PartsBegin packet front ciphertext extension_data (refused number) = Unit {0}
PartsBegin packet front ciphertext extension_data (short start) = BeginsAt packet 0 front
PartsBegin packet front ciphertext extension_data (full spi epoch start end) = BeginsAt packet 0 front × BeginsAt packet start ciphertext
PartsBegin packet front ciphertext extension_data (extension message_type start end) = BeginsAt packet 0 front × BeginsAt packet start extension_data
