-- The single tests of Refusals, good lists, the messages that calls write and the number of places, in other words, with the numbers of the request, of document 01 ("Tunnel messages", "Refusal numbers") and of document 02, orders 1 and 3: what the theorems in proofs/ say of them.
use Rattle.std.specs.Prelude.{ℕ, ◌+◌, ◌*◌, ◌-◌, ◌/◌, ◌≤◌, ◌<◌, ◌≡◌, ◌↔◌, ◌⊎◌, true, List, [], ◌∷◌, ◌++◌, length}
use Rattle.octets.specs.Number.{octet_at, octets16}
use Rattle.status.specs.declared.entry.Entry.{Entry}
use Rattle.message.specs.Message.{tunneled_dtls, endpoint_disconnect, encode}
use Rattle.message.specs.Profiles as Profiles
use Rattle.message.specs.Write.{writing, refused}
use Rattle.rules.specs.Limits as Limits
use Rattle.rules.specs.Refusals as Refusals

-- a list of one profile or of both
abbrev pub GoodList : List ℕ → Type 0
GoodList list =
    ((list ≡ 0x00 ∷ 0x09 ∷ []) ⊎ (list ≡ 0x00 ∷ 0x0A ∷ []))
    ⊎ ((list ≡ 0x00 ∷ 0x09 ∷ 0x00 ∷ 0x0A ∷ []) ⊎ (list ≡ 0x00 ∷ 0x0A ∷ 0x00 ∷ 0x09 ∷ []))

pub record SingleTests : Type 0 where
  -- 20: identifier not A octets, which are 16
  pub wrong_width : (identifier : List ℕ) → (Refusals.wrong_width identifier ≡ true) ↔ (length identifier ≡ 16 → ⊥)
  -- 14: packet empty or not DTLS, by its first octet
  pub not_dtls : (packet : List ℕ)
      → (Refusals.not_dtls packet ≡ true) ↔ ((length packet ≡ 0) ⊎ ((octet_at packet 0 < 20) ⊎ (63 < octet_at packet 0)))
  -- 15: packet over 4,094 - A octets
  pub too_long : (packet : List ℕ) → (Refusals.too_long packet ≡ true) ↔ (4094 - 16 < length packet)
  -- which is where its message would be over the limit: of fields that fit, the writer refuses just these with 2
  pub unwritable : (identifier packet : List ℕ) (room : ℕ) → length identifier ≡ 16 → 1 ≤ length packet → length packet ≤ 65535
      → (Refusals.too_long packet ≡ true) ↔ (writing (tunneled_dtls identifier packet) room ≡ refused 2)
  -- 16: list empty, of odd length, with a repeat, or with an entry other than 0x0009 and 0x000A: any but four
  pub good_list : (list : List ℕ) → (Profiles.good_list list ≡ true) ↔ GoodList list
  -- 13: less room than the message has octets: 6 and the list, 21 and the packet, 19
  pub start_room : (list : List ℕ) (room : ℕ) → (Refusals.no_room (Refusals.start_message list) room ≡ true) ↔ (room < 6 + length list)
  pub packet_room : (identifier packet : List ℕ) (room : ℕ) → length identifier ≡ 16
      → (Refusals.no_room (tunneled_dtls identifier packet) room ≡ true) ↔ (room < 21 + length packet)
  pub close_room : (identifier : List ℕ) (room : ℕ) → length identifier ≡ 16
      → (Refusals.no_room (endpoint_disconnect identifier) room ≡ true) ↔ (room < 19)
  -- and of a page: 6 bits and 38 for each entry, in whole octets
  pub page_room : (entries : List Entry) (room : ℕ) → (Refusals.no_room_for_page entries room ≡ true) ↔ (room < (6 + 38 * length entries + 7) / 8)
  -- what Start writes: type 1, the body's length, version 0, the list behind its length
  pub started : (list : List ℕ)
      → encode (Refusals.start_message list) ≡ (1 ∷ octets16 (3 + length list)) ++ (0 ∷ octets16 (length list)) ++ list
  -- Booth packet: type 4, the body's length, the identifier, the packet behind its length
  pub sent : (identifier packet : List ℕ) → length identifier ≡ 16
      → encode (tunneled_dtls identifier packet) ≡ (4 ∷ octets16 (18 + length packet)) ++ (identifier ++ (octets16 (length packet) ++ packet))
  -- Close: type 5, the body's length, the identifier
  pub closed : (identifier : List ℕ) → length identifier ≡ 16 → encode (endpoint_disconnect identifier) ≡ 5 ∷ 0 ∷ 16 ∷ identifier
  -- live associations at most
  pub places : Limits.places ≡ 32
