-- The single tests that refusals go by, of the arguments alone, and the messages that calls write: document 01, "Refusal numbers" and "The record and its calls"; document 02, order 1.
use Rattle.std.specs.Prelude.{ℕ, Bool, true, false, not, List, length, ltb, eqb}
use Rattle.demux.specs.Sorting as Sorting
use Rattle.demux.specs.declared.sorting.Kind.{Kind}
use Rattle.status.specs.declared.entry.Entry.{Entry}
use Rattle.status.specs.Page.{layout}
use Rattle.message.specs.Limits.{width}
use Rattle.message.specs.Message.{Message, supported_profiles, encode}
use Rattle.message.specs.Frame as Frame
use Rattle.message.specs.Read as Read
use Rattle.message.specs.Direction.{directed}
use Rattle.message.specs.declared.framing.Kind as MessageKind
use Rattle.rules.specs.Limits.{packet_limit}

-- 20: identifier not A octets
abbrev pub wrong_width : List ℕ → Bool
wrong_width identifier = not (eqb (length identifier) width)

-- 13: by the encoding of what must be written
abbrev pub no_room : Message → (room : ℕ) → Bool
no_room m room = ltb room (length (encode m))

abbrev pub no_room_for_page : (entries : List Entry) (room : ℕ) → Bool
no_room_for_page entries room = ltb room (length (layout entries))

-- 14: the packet is empty or not DTLS
abbrev pub is_dtls_kind : Kind → Bool
is_dtls_kind Kind.Stun = false
is_dtls_kind Kind.Zrtp = false
is_dtls_kind Kind.Dtls = true
is_dtls_kind Kind.TurnChannel = false
is_dtls_kind Kind.Rtp = false
is_dtls_kind Kind.Other = false

abbrev pub sorts_as_dtls : Sorting.Answer → Bool
sorts_as_dtls (Sorting.refused number) = false
sorts_as_dtls (Sorting.kind k) = is_dtls_kind k

unfoldable pub not_dtls : List ℕ → Bool
not_dtls packet = not (sorts_as_dtls (Sorting.sorting packet))

-- 15: packet over 4,094 - A octets
abbrev pub too_long : List ℕ → Bool
too_long packet = ltb packet_limit (length packet)

-- we speak version 0
abbrev pub start_message : List ℕ → Message
start_message list = supported_profiles 0 list

-- 4: type 1 from the key distributor
abbrev pub is_profiles : MessageKind.Kind → Bool
is_profiles MessageKind.Kind.SupportedProfiles = true
is_profiles MessageKind.Kind.UnsupportedVersion = false
is_profiles MessageKind.Kind.MediaKeys = false
is_profiles MessageKind.Kind.TunneledDtls = false
is_profiles MessageKind.Kind.EndpointDisconnect = false
is_profiles MessageKind.Kind.Unlisted = false

-- the reading of octets from the key distributor, with refusal 4 before the body
abbrev pub received : List ℕ → Frame.Framing → Read.Answer
received s f = directed is_profiles s f

unfoldable pub receiving : List ℕ → Read.Answer
receiving s = received s (Frame.frame s)
