-- The cards (document 01's own term, "What the proof has to say"): one for each identifier, fed the calls alone. Nothing here names the table. There is a card for every list of octets; those that are not of A octets stay blank.
use Rattle.std.specs.Prelude.{ℕ, Bool, true, false, cond, not, ◌&&◌, List, [], ◌∷◌, length, eqb}
use Rattle.octets.specs.Bounds.{part_in}
use Rattle.octets.specs.Part.{same}
use Rattle.message.specs.Message.{endpoint_disconnect}
use Rattle.message.specs.Parts.{identifier_bounds}
use Rattle.message.specs.Profiles.{good_list, in_list, keys_fit, mki_and_salts_fit}
use Rattle.message.specs.Read as Read
use Rattle.message.specs.declared.bodies.Fields.{Fields}
use Rattle.message.specs.declared.bodies.Fields.TheVariants.{SupportedProfiles, UnsupportedVersion, MediaKeys, TunneledDtls, EndpointDisconnect}
use Rattle.rules.specs.Limits.{places}
use Rattle.rules.specs.Search.{some_of, keep}
use Rattle.rules.specs.Keys.{Keys, keys_in}
use Rattle.rules.specs.Tunnel.{Tunnel, down, up_with, is_up, list_in}
use Rattle.rules.specs.Call as Call
use Rattle.rules.specs.Refusals.{wrong_width, no_room, start_message}

-- blank, or filled with an endpoint: open, or keyed with the key fields
pub data Held : Type 0 where
  blank : Held
  opened : (endpoint : ℕ) → Held
  keyed : (endpoint : ℕ) → Keys → Held

pub record Card : Type 0 where
  pub tunnel : Tunnel
  pub held : Held

-- a card for each identifier; beside them the identifiers that openings have named so far, each once, among which the filled cards are
pub record Cards : Type 0 where
  pub card : List ℕ → Card
  pub opening : List (List ℕ)

abbrev pub filled : Held → Bool
filled blank = false
filled (opened endpoint) = true
filled (keyed endpoint k) = true

abbrev pub holding : ℕ → Held → Bool
holding e blank = false
holding e (opened endpoint) = eqb endpoint e
holding e (keyed endpoint k) = eqb endpoint e

-- the live associations: the identifiers whose cards are filled
abbrev pub live : Cards → List (List ℕ)
live cards = keep (λ i. filled (cards.card i).held) cards.opening

-- 12: a filled card has this endpoint; 10: as many cards are filled as there are places
abbrev pub endpoint_live : Cards → ℕ → Bool
endpoint_live cards e = some_of (λ i. holding e (cards.card i).held) cards.opening

abbrev pub all_live : Cards → Bool
all_live cards = eqb (length (live cards)) places

-- ---- document 01's list of rules, line by line: what a call makes of the card of an identifier

abbrev pub with : Card → Held → Card
with c held = record { tunnel = c.tunnel; held = held }

abbrev pub down_card : Card
down_card = record { tunnel = down; held = blank }

-- Start, when down and neither 16 nor 13 applies: up with this list, blank
abbrev pub start_card : Card → List ℕ → (room : ℕ) → Card
start_card c list room =
    cond (not (is_up c.tunnel) && good_list list && not (no_room (start_message list) room))
    (record { tunnel = up_with list; held = blank }) c

-- Open of its identifier, when up and none of 11, 12 and 10 applies: filled with this endpoint, open
abbrev pub open_card : Cards → List ℕ → ℕ → List ℕ → Card
open_card cards identifier endpoint i =
    let c = cards.card i in
    cond (same identifier i && not (wrong_width identifier) && is_up c.tunnel
    && not (filled c.held) && not (endpoint_live cards endpoint) && not (all_live cards))
    (with c (opened endpoint)) c

-- Tunnel octets, when up. Type 3, when filled and none of 7, 8 and 9 applies by the card's list: all key fields replaced, keyed
abbrev pub with_keys : Keys → Held → Held
with_keys k blank = blank
with_keys k (opened endpoint) = keyed endpoint k
with_keys k (keyed endpoint old) = keyed endpoint k

-- a whole message without a bad body: type 2, down and blank; type 3 and type 5 concern the card of the identifier that they name
abbrev pub message_card : Card → List ℕ → Fields → List ℕ → Card
message_card c octets (SupportedProfiles v n) i = c
message_card c octets (UnsupportedVersion v) i = down_card
message_card c octets (MediaKeys profile k) i =
    cond (same (part_in octets identifier_bounds) i && filled c.held
    && in_list profile (list_in c.tunnel) && keys_fit profile k && mki_and_salts_fit k)
    (with c (with_keys (keys_in octets profile k) c.held)) c
message_card c octets (TunneledDtls n) i = c
message_card c octets EndpointDisconnect i = cond (same (part_in octets identifier_bounds) i) (with c blank) c

-- refusal 2: down, blank; any other refusal, and more needed: no change
abbrev pub read_card : Card → List ℕ → Read.Answer → List ℕ → Card
read_card c octets Read.more_needed i = c
read_card c octets (Read.refused number taken) i = cond (eqb number 2) down_card c
read_card c octets (Read.accepted f taken) i = message_card c octets f i

-- by the reading rules: refusal 4 is for a type 1, which changes no card
abbrev pub octets_card : Card → List ℕ → List ℕ → Card
octets_card c octets i = cond (is_up c.tunnel) (read_card c octets (Read.reading octets) i) c

-- Close of its identifier, when up and 13 doesn't apply: blank
abbrev pub close_card : Card → List ℕ → (room : ℕ) → List ℕ → Card
close_card c identifier room i =
    cond (same identifier i && is_up c.tunnel && not (no_room (endpoint_disconnect identifier) room)) (with c blank) c

unfoldable pub card_next : Cards → Call.Call → List ℕ → Card
card_next cards (Call.start list room) i = start_card (cards.card i) list room
card_next cards (Call.opening identifier endpoint) i = open_card cards identifier endpoint i
card_next cards (Call.booth_packet endpoint packet room) i = cards.card i
card_next cards (Call.tunnel_octets octets) i = octets_card (cards.card i) octets i
card_next cards (Call.close identifier room) i = close_card (cards.card i) identifier room i
card_next cards Call.end i = down_card
card_next cards (Call.look endpoint) i = cards.card i
card_next cards (Call.write_page room) i = cards.card i

-- ---- every card, and the identifiers that openings have named

abbrev pub naming : List ℕ → List (List ℕ) → List (List ℕ)
naming identifier is = cond (not (wrong_width identifier) && not (some_of (same identifier) is)) (identifier ∷ is) is

unfoldable pub opening_next : List (List ℕ) → Call.Call → List (List ℕ)
opening_next is (Call.start list room) = is
opening_next is (Call.opening identifier endpoint) = naming identifier is
opening_next is (Call.booth_packet endpoint packet room) = is
opening_next is (Call.tunnel_octets octets) = is
opening_next is (Call.close identifier room) = is
opening_next is Call.end = is
opening_next is (Call.look endpoint) = is
opening_next is (Call.write_page room) = is

unfoldable pub next : Cards → Call.Call → Cards
next cards c = record { card = card_next cards c; opening = opening_next cards.opening c }

-- at first every card is down and blank, and nothing was opened
unfoldable pub first : Cards
first = record { card = λ i. down_card; opening = [] }

unfoldable pub fed : Cards → List Call.Call → Cards
fed cards [] = cards
fed cards (c ∷ cs) = fed (next cards c) cs
