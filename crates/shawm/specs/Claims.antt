-- What the theorems in proofs/ say of the answers.
use Rattle.std.specs.Prelude.{ℕ, ◌+◌, ◌-◌, ◌/◌, ◌%◌, ◌≤◌, ◌<◌, ◌≡◌, ◌↔◌, ◌⊎◌, List, [], ◌∷◌, length}
use Rattle.octets.specs.Bounds.{nowhere, part_in}
use Rattle.octets.specs.declared.parts.Bounds.{Bounds}
use Rattle.demux.specs.Sorting as Sort
use Rattle.demux.specs.Ranges.{InRange}
use Rattle.demux.specs.declared.sorting.Kind.{Kind}
use Rattle.message.specs.Message.{Message, supported_profiles, unsupported_version, media_keys, tunneled_dtls, endpoint_disconnect}
use Rattle.message.specs.Read as Read
use Rattle.message.specs.Parts.{meaning, field}
use Rattle.message.specs.Write as Write
use Rattle.message.specs.declared.bounds.Field.{Field}
use Rattle.ekt.specs.Splitting as Split
use Rattle.ekt.specs.Parts.{front, ciphertext, extension_data}
use Rattle.status.specs.Entries.{state_of}
use Rattle.status.specs.Page.{Counted, counting, Picked, picking}
use Rattle.status.specs.Claims.{nth}
use Rattle.status.specs.declared.entry.Entry.{Entry}
use Rattle.shawm.specs.Refusal.{top_bit}
use Rattle.shawm.specs.Sorting.{sort_number}
use Rattle.shawm.specs.Reading.{read_number}
use Rattle.shawm.specs.Fields.{field_bounds}
use Rattle.shawm.specs.Writing.{write_number}
use Rattle.shawm.specs.Tag.{tag_type}
use Rattle.keywrap.specs.Calls as KeyWrap
use Rattle.shawm.specs.Wrapping.{wrap_number}
use Rattle.packetindex.specs.Estimating as Index
use Rattle.packetindex.specs.Updating.{next}
use Rattle.packetindex.specs.Nearest.{BeforeFirst, AfterLast, NearIndex}
use Rattle.packetindex.specs.Following.{Update}
use Rattle.packetindex.specs.declared.stream.Stream.{Stream}
use Rattle.shawm.specs.Index.{estimate_number, index_number}
use Rattle.shawm.specs.Page.{count_number, entry_number, endpoint_number}

-- ---- sorting

-- a number is answered for the first octets of one kind and for no others
abbrev pub Tells : (number : ℕ) → Kind → Type 0
Tells number k = (first : ℕ) (rest : List ℕ) → (sort_number (Sort.sorting (first ∷ rest)) ≡ number) ↔ InRange k first

pub record SortNumbers : Type 0 where
  pub stun : Tells 0 Kind.Stun
  pub dtls : Tells 1 Kind.Dtls
  pub rtp : Tells 2 Kind.Rtp
  pub other : Tells 3 Kind.Other
  pub zrtp : Tells 4 Kind.Zrtp
  pub turn_channel : Tells 5 Kind.TurnChannel

-- ---- bounds

-- these octets are found at these bounds in the lent ones, and none of them is cut off
pub record FoundAt (s : List ℕ) (b : Bounds) (octets : List ℕ) : Type 0 where
  pub ordered : b.start ≤ b.end
  pub inside : b.end ≤ length s
  pub counted : length octets ≡ b.end - b.start
  pub same : part_in s b ≡ octets

-- every entry of a list, a number and octets: the octets are found at the number's bounds
abbrev pub AllFound : (s : List ℕ) (bounds : ℕ → Bounds) → List (ℕ × List ℕ) → Type 0
AllFound s bounds [] = Unit {0}
AllFound s bounds (x ∷ rest) = FoundAt s (bounds x.0) x.1 × AllFound s bounds rest

-- a number that is not in the list
abbrev pub NotListed : (number : ℕ) → List (ℕ × List ℕ) → Type 0
NotListed number [] = Unit {0}
NotListed number (x ∷ rest) = (number ≡ x.0 → ⊥) × NotListed number rest

-- the bounds by number are those of the list; any other number has none, from 0 to 0
pub record BoundsMatch (s : List ℕ) (bounds : ℕ → Bounds) (list : List (ℕ × List ℕ)) : Type 0 where
  pub listed : AllFound s bounds list
  pub others : (number : ℕ) → NotListed number list → bounds number ≡ nowhere

-- a message's fields by their numbers in the C interface
abbrev pub fields_of : Message → List (ℕ × List ℕ)
fields_of (supported_profiles version profiles) = (2, profiles) ∷ []
fields_of (unsupported_version version) = []
fields_of (media_keys identifier profile mki client_key server_key client_salt server_salt) =
    (1, identifier) ∷ (3, mki) ∷ (4, client_key) ∷ (5, server_key) ∷ (6, client_salt) ∷ (7, server_salt) ∷ []
fields_of (tunneled_dtls identifier dtls) = (1, identifier) ∷ (8, dtls) ∷ []
fields_of (endpoint_disconnect identifier) = (1, identifier) ∷ []

-- those of the message that was read from s
abbrev pub fields_read : (s : List ℕ) → Read.Answer → List (ℕ × List ℕ)
fields_read s Read.more_needed = []
fields_read s (Read.refused number taken) = []
fields_read s (Read.accepted fields taken) = fields_of (meaning s fields)

-- the part with a field's number is what `message` hands back for the field's name
pub record FieldsNamed (s : List ℕ) : Type 0 where
  pub identifier : part_in s (field_bounds s 1) ≡ field s Field.Identifier
  pub profile_list : part_in s (field_bounds s 2) ≡ field s Field.ProfileList
  pub mki : part_in s (field_bounds s 3) ≡ field s Field.Mki
  pub client_key : part_in s (field_bounds s 4) ≡ field s Field.ClientKey
  pub server_key : part_in s (field_bounds s 5) ≡ field s Field.ServerKey
  pub client_salt : part_in s (field_bounds s 6) ≡ field s Field.ClientSalt
  pub server_salt : part_in s (field_bounds s 7) ≡ field s Field.ServerSalt
  pub dtls : part_in s (field_bounds s 8) ≡ field s Field.Dtls

-- the parts of a packet by their numbers in the C interface
abbrev pub parts_of : (packet : List ℕ) → Split.Split → List (ℕ × List ℕ)
parts_of packet (Split.refused number) = []
parts_of packet (Split.short start) = (1, front packet) ∷ []
parts_of packet (Split.full spi epoch start end) = (1, front packet) ∷ (2, ciphertext packet) ∷ []
parts_of packet (Split.extension message_type start end) = (1, front packet) ∷ (3, extension_data packet) ∷ []

-- ---- the index of a packet

-- the numbers that an estimate is answered with tell whether there is an index and which; and so what is kept
pub record IndexTells (s : Stream) (sequence : ℕ) (a : Index.Answer) : Type 0 where
  pub answers : (estimate_number a ≡ 0) ⊎ ((estimate_number a ≡ top_bit + 31) ⊎ (estimate_number a ≡ top_bit + 32))
  pub no_such_index : (estimate_number a ≡ top_bit + 31) ↔ BeforeFirst s sequence
  pub key_spent : (estimate_number a ≡ top_bit + 32) ↔ AfterLast s sequence
  pub index : estimate_number a ≡ 0 → NearIndex s sequence (index_number a / 65536) (index_number a)
  pub update : estimate_number a ≡ 0 → Update s sequence (index_number a / 65536) (index_number a)
  pub no_index : (estimate_number a ≡ 0 → ⊥) → index_number a ≡ 0
  pub keeps : (estimate_number a ≡ 0 → ⊥) → next s sequence ≡ s

-- ---- a status page

-- the numbers that are read of a page are those of its entries, place and state in one, and behind the last is none
pub record PageMatches (page : List ℕ) (es : List Entry) : Type 0 where
  pub count : count_number (counting page) ≡ length es
  pub place : (n : ℕ) → n < length es → entry_number (picking page n) / 2 ≡ (nth es n).place
  pub state : (n : ℕ) → n < length es → entry_number (picking page n) % 2 ≡ state_of (nth es n).keyed
  pub endpoint : (n : ℕ) → n < length es → endpoint_number (picking page n) ≡ (nth es n).endpoint
  pub behind : (n : ℕ) → length es ≤ n → entry_number (picking page n) ≡ top_bit + 29
  pub no_endpoint : (n : ℕ) → length es ≤ n → endpoint_number (picking page n) ≡ 0

-- ---- refusals: no other answer has the top bit

-- the top bit, and the number in the low octet, so that bits 8 to 30 are zero
abbrev pub IsRefusal : (answer number : ℕ) → Type 0
IsRefusal answer number = (answer ≡ top_bit + number) × (number < 256)

abbrev pub SortTopBit : Sort.Answer → Type 0
SortTopBit (Sort.refused number) = IsRefusal (sort_number (Sort.refused number)) number
SortTopBit (Sort.kind k) = sort_number (Sort.kind k) < top_bit

abbrev pub ReadTopBit : List ℕ → Read.Answer → Type 0
ReadTopBit s Read.more_needed = read_number s Read.more_needed < top_bit
ReadTopBit s (Read.refused number taken) = IsRefusal (read_number s (Read.refused number taken)) number
ReadTopBit s (Read.accepted fields taken) = read_number s (Read.accepted fields taken) < top_bit

abbrev pub WriteTopBit : Write.Answer → Type 0
WriteTopBit (Write.refused number) = IsRefusal (write_number (Write.refused number)) number
WriteTopBit (Write.written count) = write_number (Write.written count) < top_bit

abbrev pub TagTopBit : Split.Split → Type 0
TagTopBit (Split.refused number) = IsRefusal (tag_type (Split.refused number)) number
TagTopBit (Split.short start) = tag_type (Split.short start) < top_bit
TagTopBit (Split.full spi epoch start end) = tag_type (Split.full spi epoch start end) < top_bit
TagTopBit (Split.extension message_type start end) = tag_type (Split.extension message_type start end) < top_bit

abbrev pub WrapTopBit : KeyWrap.Answer → Type 0
WrapTopBit (KeyWrap.refused number) = IsRefusal (wrap_number (KeyWrap.refused number)) number
WrapTopBit (KeyWrap.written count) = wrap_number (KeyWrap.written count) < top_bit

abbrev pub EstimateTopBit : Index.Answer → Type 0
EstimateTopBit (Index.refused number) = IsRefusal (estimate_number (Index.refused number)) number
EstimateTopBit (Index.found roc index) = estimate_number (Index.found roc index) < top_bit

abbrev pub CountTopBit : Counted → Type 0
CountTopBit (Counted.refused number) = IsRefusal (count_number (Counted.refused number)) number
CountTopBit (Counted.entries count) = count_number (Counted.entries count) < top_bit

abbrev pub EntryTopBit : Picked → Type 0
EntryTopBit (Picked.refused number) = IsRefusal (entry_number (Picked.refused number)) number
EntryTopBit (Picked.entry e) = entry_number (Picked.entry e) < top_bit
