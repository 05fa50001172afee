-- What the cards say of each call's answer, place numbers and a page's entries apart: document 01, "What the proof has to say" and "The record and its calls"; document 02, order 1. Nothing here names the table.
use Rattle.std.specs.Prelude.{ℕ, ◌+◌, Bool, cond, not, List, [], ◌∷◌, ltb, length, get_or, replicate}
use Rattle.octets.specs.Bounds.{part_in}
use Rattle.status.specs.Bits.{octets_for}
use Rattle.status.specs.Limits.{page_bits}
use Rattle.message.specs.Frame as Frame
use Rattle.message.specs.Limits.{width, header}
use Rattle.message.specs.Message.{encode, tunneled_dtls, endpoint_disconnect}
use Rattle.message.specs.Parts.{identifier_bounds, dtls_bounds}
use Rattle.message.specs.Profiles.{good_list, in_list, keys_fit, mki_and_salts_fit}
use Rattle.message.specs.Read as Read
use Rattle.message.specs.Direction.{of_kinds}
use Rattle.message.specs.declared.bodies.Fields.{Fields}
use Rattle.message.specs.declared.bodies.Fields.TheVariants.{SupportedProfiles, UnsupportedVersion, MediaKeys, TunneledDtls, EndpointDisconnect}
use Rattle.rules.specs.Search.{keep}
use Rattle.rules.specs.Tunnel.{Tunnel, is_up, list_in}
use Rattle.rules.specs.Call as Call
use Rattle.rules.specs.Verdict.{allowed, refuse}
use Rattle.rules.specs.Answer as Answer
use Rattle.rules.specs.Answer.{Answer, Association, refused, more_needed, wrote, placed, ended, found, keys_stored, delivery, removed, version, page, answered}
use Rattle.rules.specs.Refusals.{wrong_width, no_room, not_dtls, too_long, start_message, is_profiles}
use Rattle.rules.specs.Cards.{Held, blank, opened, keyed, Cards, filled, holding, live, endpoint_live, all_live, next}

-- every card keeps the tunnel, so any will do
abbrev pub tunnel_on : Cards → Tunnel
tunnel_on cards = (cards.card (replicate width 0)).tunnel

abbrev pub is_down : Cards → Bool
is_down cards = not (is_up (tunnel_on cards))

-- the identifier whose card has an endpoint
abbrev pub identifier_with : Cards → ℕ → List ℕ
identifier_with cards e = get_or (keep (λ i. holding e (cards.card i).held) cards.opening) 0 []

abbrev pub start_expected : Cards → List ℕ → (room : ℕ) → Answer
start_expected cards list room =
    answered (refuse (is_up (tunnel_on cards)) 17 (refuse (not (good_list list)) 16 (refuse (no_room (start_message list) room) 13 allowed))) 0
    (wrote (encode (start_message list)))

abbrev pub open_expected : Cards → List ℕ → ℕ → Answer
open_expected cards identifier endpoint =
    answered
    (refuse (is_down cards) 1
    (refuse (wrong_width identifier) 20
    (refuse (filled (cards.card identifier).held) 11
    (refuse (endpoint_live cards endpoint) 12
    (refuse (all_live cards) 10 allowed))))) 0
    (placed 0)

abbrev pub packet_expected : Cards → ℕ → List ℕ → (room : ℕ) → Answer
packet_expected cards endpoint packet room =
    let m = tunneled_dtls (identifier_with cards endpoint) packet in
    answered
    (refuse (is_down cards) 1
    (refuse (not (endpoint_live cards endpoint)) 6
    (refuse (not_dtls packet) 14
    (refuse (too_long packet) 15
    (refuse (no_room m room) 13 allowed))))) 0
    (wrote (encode m))

abbrev pub close_expected : Cards → List ℕ → (room : ℕ) → Answer
close_expected cards identifier room =
    answered
    (refuse (is_down cards) 1
    (refuse (wrong_width identifier) 20
    (refuse (not (filled (cards.card identifier).held)) 6
    (refuse (no_room (endpoint_disconnect identifier) room) 13 allowed)))) 0
    (wrote (encode (endpoint_disconnect identifier)))

-- the association on a filled card; a blank one has none, and no answer asks for it
abbrev pub association_on : List ℕ → Held → Association
association_on i blank = Answer.opened [] 0
association_on i (opened endpoint) = Answer.opened i endpoint
association_on i (keyed endpoint k) = Answer.keyed i endpoint k

abbrev pub look_expected : Cards → ℕ → Answer
look_expected cards endpoint =
    answered (refuse (is_down cards) 1 (refuse (not (endpoint_live cards endpoint)) 6 allowed)) 0
    (found (association_on (identifier_with cards endpoint) (cards.card (identifier_with cards endpoint)).held))

-- Write page: 13 by the number of filled cards, whatever the tunnel. The entries have places, which no card knows: PagesByCards.antt says what the cards expect of them
abbrev pub page_expected : Cards → (room : ℕ) → Answer
page_expected cards room = answered (refuse (ltb room (octets_for (page_bits (length (live cards))))) 13 allowed) 0 (page [])

-- the answer to a message that names an identifier goes by the endpoint on its card; 6 where that is blank
abbrev pub by_card : (held : Held) (taken : ℕ) (answer : (endpoint : ℕ) → Answer) → Answer
by_card blank taken a = refused 6 taken
by_card (opened endpoint) taken a = a endpoint
by_card (keyed endpoint k) taken a = a endpoint

-- a SupportedProfiles does not come this far: refusal 4 is given before its body is read
abbrev pub message_expected : Cards → List ℕ → Fields → (taken : ℕ) → Answer
message_expected cards octets (SupportedProfiles v n) taken = refused 4 taken
message_expected cards octets (UnsupportedVersion v) taken = version v taken
message_expected cards octets (MediaKeys profile k) taken =
    by_card (cards.card (part_in octets identifier_bounds)).held taken (λ endpoint.
    answered
    (refuse (not (in_list profile (list_in (tunnel_on cards)))) 7
    (refuse (not (keys_fit profile k)) 8
    (refuse (not (mki_and_salts_fit k)) 9 allowed))) taken
    (keys_stored endpoint taken))
message_expected cards octets (TunneledDtls n) taken =
    by_card (cards.card (part_in octets identifier_bounds)).held taken (λ endpoint. delivery endpoint (dtls_bounds n) taken)
message_expected cards octets EndpointDisconnect taken =
    by_card (cards.card (part_in octets identifier_bounds)).held taken (λ endpoint. removed endpoint taken)

abbrev pub read_expected : Cards → List ℕ → Read.Answer → Answer
read_expected cards octets Read.more_needed = more_needed
read_expected cards octets (Read.refused number taken) = refused number taken
read_expected cards octets (Read.accepted f taken) = message_expected cards octets f taken

-- by the reading rules, with refusal 4, for a whole message of type 1, tested before the body
abbrev pub octets_expected : Cards → List ℕ → Frame.Framing → Answer
octets_expected cards octets f = of_kinds is_profiles f (λ n. refused 4 (header + n)) (read_expected cards octets (Read.frame_answer octets f))

unfoldable pub expected : Cards → Call.Call → Answer
expected cards (Call.start list room) = start_expected cards list room
expected cards (Call.opening identifier endpoint) = open_expected cards identifier endpoint
expected cards (Call.booth_packet endpoint packet room) = packet_expected cards endpoint packet room
expected cards (Call.tunnel_octets octets) = cond (is_up (tunnel_on cards)) (octets_expected cards octets (Frame.frame octets)) (refused 1 0)
expected cards (Call.close identifier room) = close_expected cards identifier room
expected cards Call.end = cond (is_up (tunnel_on cards)) ended (refused 1 0)
expected cards (Call.look endpoint) = look_expected cards endpoint
expected cards (Call.write_page room) = page_expected cards room

unfoldable pub expected_answers : Cards → List Call.Call → List Answer
expected_answers cards [] = []
expected_answers cards (c ∷ cs) = expected cards c ∷ expected_answers (next cards c) cs
