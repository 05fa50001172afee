-- The calls on the view: what each answers and makes of tunnel and table, record by record. A search goes from the lowest place on.
use Rattle.std.specs.Prelude.{ℕ, Bool, true, false, cond, not, List, [], ◌∷◌, map, eqb, get_or, set, replicate}
use Rattle.std.proofs.Math.Option.{some, none}
use Rattle.octets.specs.Bounds.{part_in}
use Rattle.status.specs.declared.entry.Entry.{Entry}
use Rattle.status.specs.Places.{Shown, vacant, live, entries_of}
use Rattle.message.specs.Message.{Message, tunneled_dtls, endpoint_disconnect, encode}
use Rattle.message.specs.Parts.{identifier_bounds, dtls_bounds}
use Rattle.message.specs.Profiles.{good_list, in_list, keys_fit, mki_and_salts_fit}
use Rattle.message.specs.Read as Read
use Rattle.message.specs.declared.bodies.Fields.{Fields}
use Rattle.message.specs.declared.bodies.Fields.TheVariants.{SupportedProfiles, UnsupportedVersion, MediaKeys, TunneledDtls, EndpointDisconnect}
use Rattle.message.specs.Keys.{KeyLengths}
use Rattle.rules.specs.Limits.{places}
use Rattle.rules.specs.Search as Search
use Rattle.rules.specs.Keys.{Keys, keys_in}
use Rattle.rules.specs.Tunnel.{down, up_with, is_up, list_in}
use Rattle.rules.specs.Call as Call
use Rattle.rules.specs.Verdict.{Verdict, after}
use Rattle.rules.specs.Orders.{start_order, open_order, packet_order, keys_order, close_order, look_order, page_order}
use Rattle.rules.specs.Answer as Answer
use Rattle.rules.specs.Answer.{Association, Answer, refused, more_needed, wrote, placed, ended, found, keys_stored, delivery, removed, version, page, answered}
use Rattle.rules.specs.Refusals.{wrong_width, no_room, no_room_for_page, not_dtls, too_long, start_message, receiving}
use Rattle.rules.specs.View.{AtPlace, View, identifier_in, endpoint_in, is_for}

-- ---- what stands at a place

abbrev pub is_vacant : AtPlace → Bool
is_vacant none = true
is_vacant (some a) = false

abbrev pub is_serving : (endpoint : ℕ) → AtPlace → Bool
is_serving endpoint none = false
is_serving endpoint (some a) = eqb (endpoint_in a) endpoint

-- the association at a place; where there is none, one that no answer asks for
abbrev pub association_at : AtPlace → Association
association_at none = Answer.opened [] 0
association_at (some a) = a

abbrev pub first_with : (test : AtPlace → Bool) → View → Association
first_with p v = association_at (get_or v.table (Search.first p v.table) none)

abbrev pub set_first : (test : AtPlace → Bool) (new : AtPlace) → View → View
set_first p x v = record { tunnel = v.tunnel; table = set v.table (Search.first p v.table) x }

abbrev pub has : (test : AtPlace → Bool) → View → Bool
has p v = Search.some_of p v.table

-- what the page shows of a place: open or keyed, and the endpoint
abbrev pub shown_at : AtPlace → Shown
shown_at none = vacant
shown_at (some (Answer.opened i e)) = live false e
shown_at (some (Answer.keyed i e k)) = live true e

abbrev pub shown_of : View → List Shown
shown_of v = cond (is_up v.tunnel) (map shown_at v.table) (replicate places vacant)

abbrev pub entries_in : View → List Entry
entries_in v = entries_of (shown_of v)

-- all key fields replaced
abbrev pub rekey : Keys → Association → Association
rekey k (Answer.opened i e) = Answer.keyed i e k
rekey k (Answer.keyed i e old) = Answer.keyed i e k

abbrev pub down_view : View
down_view = record { tunnel = down; table = replicate places none }

abbrev pub up_view : (list : List ℕ) → View
up_view list = record { tunnel = up_with list; table = replicate places none }

abbrev pub is_down : View → Bool
is_down v = not (is_up v.tunnel)

-- ---- the calls

unfoldable pub start_verdict : View → (list : List ℕ) (room : ℕ) → Verdict
start_verdict v list room = start_order (is_up v.tunnel) (not (good_list list)) (no_room (start_message list) room)

unfoldable pub open_verdict : View → (identifier : List ℕ) (endpoint : ℕ) → Verdict
open_verdict v i e = open_order (is_down v) (wrong_width i) (has (is_for i) v) (has (is_serving e) v) (not (has is_vacant v))

abbrev pub packet_message : View → (endpoint : ℕ) (packet : List ℕ) → Message
packet_message v e packet = tunneled_dtls (identifier_in (first_with (is_serving e) v)) packet

unfoldable pub packet_verdict : View → (endpoint : ℕ) (packet : List ℕ) (room : ℕ) → Verdict
packet_verdict v e packet room =
    packet_order (is_down v) (not (has (is_serving e) v)) (not_dtls packet) (too_long packet) (no_room (packet_message v e packet) room)

unfoldable pub close_verdict : View → (identifier : List ℕ) (room : ℕ) → Verdict
close_verdict v i room = close_order (is_down v) (wrong_width i) (not (has (is_for i) v)) (no_room (endpoint_disconnect i) room)

unfoldable pub look_verdict : View → (endpoint : ℕ) → Verdict
look_verdict v e = look_order (is_down v) (not (has (is_serving e) v))

unfoldable pub page_verdict : View → (room : ℕ) → Verdict
page_verdict v room = page_order (no_room_for_page (entries_in v) room)

unfoldable pub keys_verdict : View → (identifier : List ℕ) (profile : ℕ) → KeyLengths → Verdict
keys_verdict v i profile k =
    keys_order (not (has (is_for i) v)) (not (in_list profile (list_in v.tunnel))) (not (keys_fit profile k)) (not (mki_and_salts_fit k))

-- the endpoint of an identifier's association
abbrev pub endpoint_for : View → (identifier : List ℕ) → ℕ
endpoint_for v identifier = endpoint_in (first_with (is_for identifier) v)

unfoldable pub fields_answer : View → (octets : List ℕ) → Fields → (taken : ℕ) → Answer
fields_answer v octets (SupportedProfiles x n) taken = refused 4 taken
fields_answer v octets (UnsupportedVersion x) taken = version x taken
fields_answer v octets (MediaKeys profile k) taken =
    answered (keys_verdict v (part_in octets identifier_bounds) profile k) taken (keys_stored (endpoint_for v (part_in octets identifier_bounds)) taken)
fields_answer v octets (TunneledDtls n) taken =
    cond (has (is_for (part_in octets identifier_bounds)) v) (delivery (endpoint_for v (part_in octets identifier_bounds)) (dtls_bounds n) taken) (refused 6 taken)
fields_answer v octets EndpointDisconnect taken =
    cond (has (is_for (part_in octets identifier_bounds)) v) (removed (endpoint_for v (part_in octets identifier_bounds)) taken) (refused 6 taken)

unfoldable pub fields_next : View → (octets : List ℕ) → Fields → View
fields_next v octets (SupportedProfiles x n) = v
fields_next v octets (UnsupportedVersion x) = down_view
fields_next v octets (MediaKeys profile k) =
    after (keys_verdict v (part_in octets identifier_bounds) profile k)
    (set_first (is_for (part_in octets identifier_bounds)) (some (rekey (keys_in octets profile k) (first_with (is_for (part_in octets identifier_bounds)) v))) v) v
fields_next v octets (TunneledDtls n) = v
fields_next v octets EndpointDisconnect =
    cond (has (is_for (part_in octets identifier_bounds)) v) (set_first (is_for (part_in octets identifier_bounds)) none v) v

abbrev pub read_answer : View → (octets : List ℕ) → Read.Answer → Answer
read_answer v octets Read.more_needed = more_needed
read_answer v octets (Read.refused number taken) = refused number taken
read_answer v octets (Read.accepted f taken) = fields_answer v octets f taken

abbrev pub read_next : View → (octets : List ℕ) → Read.Answer → View
read_next v octets Read.more_needed = v
read_next v octets (Read.refused number taken) = cond (eqb number 2) down_view v
read_next v octets (Read.accepted f taken) = fields_next v octets f

unfoldable pub view_answer : View → Call.Call → Answer
view_answer v (Call.start list room) = answered (start_verdict v list room) 0 (wrote (encode (start_message list)))
view_answer v (Call.opening i e) = answered (open_verdict v i e) 0 (placed (Search.first is_vacant v.table))
view_answer v (Call.booth_packet e packet room) = answered (packet_verdict v e packet room) 0 (wrote (encode (packet_message v e packet)))
view_answer v (Call.tunnel_octets octets) = cond (is_up v.tunnel) (read_answer v octets (receiving octets)) (refused 1 0)
view_answer v (Call.close i room) = answered (close_verdict v i room) 0 (wrote (encode (endpoint_disconnect i)))
view_answer v Call.end = cond (is_up v.tunnel) ended (refused 1 0)
view_answer v (Call.look e) = answered (look_verdict v e) 0 (found (first_with (is_serving e) v))
view_answer v (Call.write_page room) = answered (page_verdict v room) 0 (page (entries_in v))

unfoldable pub view_step : View → Call.Call → View
view_step v (Call.start list room) = after (start_verdict v list room) (up_view list) v
view_step v (Call.opening i e) = after (open_verdict v i e) (set_first is_vacant (some (Answer.opened i e)) v) v
view_step v (Call.booth_packet e packet room) = v
view_step v (Call.tunnel_octets octets) = cond (is_up v.tunnel) (read_next v octets (receiving octets)) v
view_step v (Call.close i room) = after (close_verdict v i room) (set_first (is_for i) none v) v
view_step v Call.end = cond (is_up v.tunnel) down_view v
view_step v (Call.look e) = v
view_step v (Call.write_page room) = v

-- ---- a list of calls

unfoldable pub view_run : View → List Call.Call → View
view_run v [] = v
view_run v (c ∷ cs) = view_run (view_step v c) cs

unfoldable pub view_answers : View → List Call.Call → List Answer
view_answers v [] = []
view_answers v (c ∷ cs) = view_answer v c ∷ view_answers (view_step v c) cs
