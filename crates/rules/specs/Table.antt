-- What each call answers and makes of the block, octet by octet: document 01, "The record and its calls"; the page: document 02, order 1.
use Rattle.std.specs.Prelude.{ℕ, Bool, cond, not, List, [], ◌∷◌, map, ltb, eqb, replicate}
use Rattle.octets.specs.Bounds.{part_in}
use Rattle.message.specs.Message.{Message, tunneled_dtls, endpoint_disconnect, encode}
use Rattle.message.specs.Parts.{identifier_bounds, dtls_bounds}
use Rattle.message.specs.Profiles.{good_list, in_list, keys_fit, mki_and_salts_fit}
use Rattle.message.specs.Read as Read
use Rattle.message.specs.declared.bodies.Fields.{Fields}
use Rattle.message.specs.declared.bodies.Fields.TheVariants.{SupportedProfiles, UnsupportedVersion, MediaKeys, TunneledDtls, EndpointDisconnect}
use Rattle.message.specs.Keys.{KeyLengths}
use Rattle.rules.specs.Limits.{places}
use Rattle.rules.specs.Search.{first}
use Rattle.rules.specs.Keys.{keys_in}
use Rattle.rules.specs.Call as Call
use Rattle.rules.specs.Layout.{up, list_of, rows, row_of, state_of, identifier_of, endpoint_of, keys_of, named, vacant, state_at, vacant_row, open_row, keyed_row, with_row, down_block, up_block}
use Rattle.rules.specs.Index.{spot, place_at_spot, with_entry, without_entry}
use Rattle.rules.specs.Verdict.{Verdict, after}
use Rattle.rules.specs.Orders.{start_order, open_order, packet_order, keys_order, close_order, look_order, page_order}
use Rattle.rules.specs.Answer.{Association, opened, keyed, Answer, refused, more_needed, wrote, placed, ended, found, keys_stored, delivery, removed, version, page, answered}
use Rattle.rules.specs.Refusals.{wrong_width, no_room, no_room_for_page, not_dtls, too_long, start_message, receiving}
use Rattle.octets.specs.Number.{octet_at}
use Rattle.status.specs.declared.entry.Entry.{Entry}
use Rattle.status.specs.Places as Places
use Rattle.status.specs.Places.{Shown, entries_of, shown_as}

-- ---- searching; a place that is not there is the number of places

unfoldable pub place_of_identifier : (block identifier : List ℕ) → ℕ
place_of_identifier s identifier = first (named identifier) (rows s)

unfoldable pub place_of_endpoint : (block : List ℕ) (endpoint : ℕ) → ℕ
place_of_endpoint s endpoint = place_at_spot s (spot s endpoint)

unfoldable pub vacant_place : (block : List ℕ) → ℕ
vacant_place s = first vacant (rows s)

abbrev pub knows : (block identifier : List ℕ) → Bool
knows s identifier = ltb (place_of_identifier s identifier) places

abbrev pub serves : (block : List ℕ) (endpoint : ℕ) → Bool
serves s endpoint = ltb (place_of_endpoint s endpoint) places

abbrev pub has_room : (block : List ℕ) → Bool
has_room s = ltb (vacant_place s) places

-- ---- Start: 17, 16, 13

unfoldable pub start_verdict : (block list : List ℕ) (room : ℕ) → Verdict
start_verdict s list room = start_order (up s) (not (good_list list)) (no_room (start_message list) room)

unfoldable pub start_answer : (block list : List ℕ) (room : ℕ) → Answer
start_answer s list room = answered (start_verdict s list room) 0 (wrote (encode (start_message list)))

unfoldable pub start_next : (block list : List ℕ) (room : ℕ) → List ℕ
start_next s list room = after (start_verdict s list room) (up_block list) s

-- ---- Open: 1, 20, 11, 12, 10

unfoldable pub open_verdict : (block identifier : List ℕ) (endpoint : ℕ) → Verdict
open_verdict s identifier endpoint =
    open_order (not (up s)) (wrong_width identifier) (knows s identifier) (serves s endpoint) (not (has_room s))

unfoldable pub open_answer : (block identifier : List ℕ) (endpoint : ℕ) → Answer
open_answer s identifier endpoint = answered (open_verdict s identifier endpoint) 0 (placed (vacant_place s))

unfoldable pub open_next : (block identifier : List ℕ) (endpoint : ℕ) → List ℕ
open_next s identifier endpoint = after (open_verdict s identifier endpoint) (with_entry (with_row s (vacant_place s) (open_row identifier endpoint)) endpoint (vacant_place s)) s

-- ---- Booth packet: 1, 6, 14, 15, 13

unfoldable pub packet_message : (block : List ℕ) (endpoint : ℕ) (packet : List ℕ) → Message
packet_message s endpoint packet = tunneled_dtls (identifier_of (row_of s (place_of_endpoint s endpoint))) packet

unfoldable pub packet_verdict : (block : List ℕ) (endpoint : ℕ) (packet : List ℕ) (room : ℕ) → Verdict
packet_verdict s endpoint packet room =
    packet_order (not (up s)) (not (serves s endpoint)) (not_dtls packet) (too_long packet) (no_room (packet_message s endpoint packet) room)

unfoldable pub packet_answer : (block : List ℕ) (endpoint : ℕ) (packet : List ℕ) (room : ℕ) → Answer
packet_answer s endpoint packet room = answered (packet_verdict s endpoint packet room) 0 (wrote (encode (packet_message s endpoint packet)))

-- ---- Close: 1, 20, 6, 13

unfoldable pub close_verdict : (block identifier : List ℕ) (room : ℕ) → Verdict
close_verdict s identifier room =
    close_order (not (up s)) (wrong_width identifier) (not (knows s identifier)) (no_room (endpoint_disconnect identifier) room)

unfoldable pub close_answer : (block identifier : List ℕ) (room : ℕ) → Answer
close_answer s identifier room = answered (close_verdict s identifier room) 0 (wrote (encode (endpoint_disconnect identifier)))

-- the block without the association of an identifier
abbrev pub without : (block identifier : List ℕ) → List ℕ
without s identifier = without_entry (with_row s (place_of_identifier s identifier) vacant_row) (endpoint_of (row_of s (place_of_identifier s identifier)))

unfoldable pub close_next : (block identifier : List ℕ) (room : ℕ) → List ℕ
close_next s identifier room = after (close_verdict s identifier room) (without s identifier) s

-- ---- End: 1

unfoldable pub end_answer : (block : List ℕ) → Answer
end_answer s = cond (up s) ended (refused 1 0)

unfoldable pub end_next : (block : List ℕ) → List ℕ
end_next s = cond (up s) down_block s

-- ---- Look: 1, 6

-- the association that a live row holds
unfoldable pub association_of : (row : List ℕ) → Association
association_of r = cond (eqb (octet_at r state_at) 1) (opened (identifier_of r) (endpoint_of r)) (keyed (identifier_of r) (endpoint_of r) (keys_of r))

unfoldable pub look_verdict : (block : List ℕ) (endpoint : ℕ) → Verdict
look_verdict s endpoint = look_order (not (up s)) (not (serves s endpoint))

unfoldable pub look_answer : (block : List ℕ) (endpoint : ℕ) → Answer
look_answer s endpoint = answered (look_verdict s endpoint) 0 (found (association_of (row_of s (place_of_endpoint s endpoint))))

-- ---- Write page: 13 (document 02, order 1)

-- what a row shows: its state and its endpoint, and nothing else of it
abbrev pub shown_in : (row : List ℕ) → Shown
shown_in r = shown_as (state_of r) (endpoint_of r)

-- "a down tunnel shows zero": no place is live
unfoldable pub shown : (block : List ℕ) → List Shown
shown s = cond (up s) (map shown_in (rows s)) (replicate places Places.vacant)

abbrev pub page_entries : (block : List ℕ) → List Entry
page_entries s = entries_of (shown s)

unfoldable pub page_verdict : (block : List ℕ) (room : ℕ) → Verdict
page_verdict s room = page_order (no_room_for_page (page_entries s) room)

unfoldable pub page_answer : (block : List ℕ) (room : ℕ) → Answer
page_answer s room = answered (page_verdict s room) 0 (page (page_entries s))

-- ---- Tunnel octets: 1, then the reading; type 3: 6, 7, 8, 9; types 4 and 5: 6

unfoldable pub keys_verdict : (block identifier : List ℕ) (profile : ℕ) → KeyLengths → Verdict
keys_verdict s identifier profile k =
    keys_order (not (knows s identifier)) (not (in_list profile (list_of s))) (not (keys_fit profile k)) (not (mki_and_salts_fit k))

-- the block with the key fields of an identifier's association replaced by those of the octets read
abbrev pub rekeyed : (block identifier octets : List ℕ) (profile : ℕ) → KeyLengths → List ℕ
rekeyed s identifier octets profile k =
    with_row s (place_of_identifier s identifier) (keyed_row (keys_in octets profile k) (row_of s (place_of_identifier s identifier)))

-- the endpoint of an identifier's association
abbrev pub endpoint_for : (block identifier : List ℕ) → ℕ
endpoint_for s identifier = endpoint_of (row_of s (place_of_identifier s identifier))

-- a SupportedProfiles does not come this far: refusal 4 is given before its body is read
unfoldable pub fields_answer : (block octets : List ℕ) → Fields → (taken : ℕ) → Answer
fields_answer s octets (SupportedProfiles v n) taken = refused 4 taken
fields_answer s octets (UnsupportedVersion v) taken = version v taken
fields_answer s octets (MediaKeys profile k) taken =
    answered (keys_verdict s (part_in octets identifier_bounds) profile k) taken (keys_stored (endpoint_for s (part_in octets identifier_bounds)) taken)
fields_answer s octets (TunneledDtls n) taken =
    cond (knows s (part_in octets identifier_bounds)) (delivery (endpoint_for s (part_in octets identifier_bounds)) (dtls_bounds n) taken) (refused 6 taken)
fields_answer s octets EndpointDisconnect taken =
    cond (knows s (part_in octets identifier_bounds)) (removed (endpoint_for s (part_in octets identifier_bounds)) taken) (refused 6 taken)

unfoldable pub fields_next : (block octets : List ℕ) → Fields → List ℕ
fields_next s octets (SupportedProfiles v n) = s
fields_next s octets (UnsupportedVersion v) = down_block
fields_next s octets (MediaKeys profile k) =
    after (keys_verdict s (part_in octets identifier_bounds) profile k) (rekeyed s (part_in octets identifier_bounds) octets profile k) s
fields_next s octets (TunneledDtls n) = s
fields_next s octets EndpointDisconnect = cond (knows s (part_in octets identifier_bounds)) (without s (part_in octets identifier_bounds)) s

abbrev pub read_answer : (block octets : List ℕ) → Read.Answer → Answer
read_answer s octets Read.more_needed = more_needed
read_answer s octets (Read.refused number taken) = refused number taken
read_answer s octets (Read.accepted f taken) = fields_answer s octets f taken

-- refusal 2 ends the tunnel: no boundary can be found again
abbrev pub read_next : (block octets : List ℕ) → Read.Answer → List ℕ
read_next s octets Read.more_needed = s
read_next s octets (Read.refused number taken) = cond (eqb number 2) down_block s
read_next s octets (Read.accepted f taken) = fields_next s octets f

unfoldable pub octets_answer : (block octets : List ℕ) → Answer
octets_answer s octets = cond (up s) (read_answer s octets (receiving octets)) (refused 1 0)

unfoldable pub octets_next : (block octets : List ℕ) → List ℕ
octets_next s octets = cond (up s) (read_next s octets (receiving octets)) s

-- ---- a list of calls, each on the block that the one before it left

unfoldable pub answer : (block : List ℕ) → Call.Call → Answer
answer s (Call.start list room) = start_answer s list room
answer s (Call.opening identifier endpoint) = open_answer s identifier endpoint
answer s (Call.booth_packet endpoint packet room) = packet_answer s endpoint packet room
answer s (Call.tunnel_octets octets) = octets_answer s octets
answer s (Call.close identifier room) = close_answer s identifier room
answer s Call.end = end_answer s
answer s (Call.look endpoint) = look_answer s endpoint
answer s (Call.write_page room) = page_answer s room

unfoldable pub step : (block : List ℕ) → Call.Call → List ℕ
step s (Call.start list room) = start_next s list room
step s (Call.opening identifier endpoint) = open_next s identifier endpoint
step s (Call.booth_packet endpoint packet room) = s
step s (Call.tunnel_octets octets) = octets_next s octets
step s (Call.close identifier room) = close_next s identifier room
step s Call.end = end_next s
step s (Call.look endpoint) = s
step s (Call.write_page room) = s

unfoldable pub run : (block : List ℕ) (calls : List Call.Call) → List ℕ
run s [] = s
run s (c ∷ cs) = run (step s c) cs

unfoldable pub answers : (block : List ℕ) (calls : List Call.Call) → List Answer
answers s [] = []
answers s (c ∷ cs) = answer s c ∷ answers (step s c) cs
