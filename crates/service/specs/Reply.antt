-- Answer frames: docs/RELAY.md, "Answers".
use Rattle.std.specs.Prelude.{ℕ, ◌≡◌, List, [], ◌∷◌, ◌++◌, length, drop, replicate}
use Rattle.octets.specs.Bounds.{part_in}
use Rattle.octets.specs.Number.{octets16, octets_of_32}
use Rattle.message.specs.Limits.{mki_limit, salt_limit}
use Rattle.status.specs.Page.{layout}
use Rattle.rules.specs.Limits.{key_limit}
use Rattle.rules.specs.Layout.{field}
use Rattle.rules.specs.Call.{Call}
use Rattle.rules.specs.Answer.{Association, opened, keyed, Answer, refused, more_needed, wrote, placed, ended, found, keys_stored, delivery, removed, version, page}
use Rattle.rules.specs.Keys.{Keys}
use Rattle.rules.specs.Table.{answer, step}
use Rattle.service.specs.Limits.{keys_length}
use Rattle.service.specs.Request.{Request, call, no_call}

-- ---- the octets of an answer: its kind, then its values

-- profile, MKI, keys and salts, each field behind its length octet and padded with zeros; all zero while the association is open
abbrev pub keys_octets : Keys → List ℕ
keys_octets k =
    octets16 k.profile ++ field mki_limit k.mki ++ field key_limit k.client_key ++ field key_limit k.server_key
    ++ field salt_limit k.client_salt ++ field salt_limit k.server_salt

abbrev pub no_keys_octets : List ℕ
no_keys_octets = replicate keys_length 0

-- state (1 open, 2 keyed), identifier, endpoint, the key fields
abbrev pub record_octets : Association → List ℕ
record_octets (opened identifier endpoint) = (1 ∷ identifier) ++ octets_of_32 endpoint ++ no_keys_octets
record_octets (keyed identifier endpoint k) = (2 ∷ identifier) ++ octets_of_32 endpoint ++ keys_octets k

-- of the octets that were lent to the call, a delivery has its part
abbrev pub answer_octets : (lent : List ℕ) → Answer → List ℕ
answer_octets lent more_needed = 0 ∷ []
answer_octets lent (refused number taken) = 1 ∷ number ∷ octets16 taken
answer_octets lent (wrote octets) = 2 ∷ octets
answer_octets lent (placed place) = 3 ∷ octets16 place
answer_octets lent ended = 4 ∷ []
answer_octets lent (found a) = 5 ∷ record_octets a
answer_octets lent (keys_stored endpoint taken) = (6 ∷ octets16 taken) ++ octets_of_32 endpoint
answer_octets lent (delivery endpoint dtls taken) = (7 ∷ octets16 taken) ++ octets_of_32 endpoint ++ part_in lent dtls
answer_octets lent (removed endpoint taken) = (8 ∷ octets16 taken) ++ octets_of_32 endpoint
answer_octets lent (version number taken) = (9 ∷ octets16 taken) ++ number ∷ []
answer_octets lent (page entries) = 10 ∷ layout entries

-- the octets that a call reads a message from
abbrev pub lent_to : Call → List ℕ
lent_to (Call.start list room) = []
lent_to (Call.opening identifier endpoint) = []
lent_to (Call.booth_packet endpoint packet room) = []
lent_to (Call.tunnel_octets octets) = octets
lent_to (Call.close identifier room) = []
lent_to Call.end = []
lent_to (Call.look endpoint) = []
lent_to (Call.write_page room) = []

-- ---- a request served on a block

-- two octets of length, then so many octets
abbrev pub frame_of : List ℕ → List ℕ
frame_of a = octets16 (length a) ++ a

-- the relay's own answer is its kind alone
abbrev pub own_reply : (kind : ℕ) → List ℕ
own_reply kind = frame_of (kind ∷ [])

-- the answer frame: the call's own answer, or the relay's
abbrev pub reply : List ℕ → Request → List ℕ
reply s (call c) = frame_of (answer_octets (lent_to c) (answer s c))
reply s (no_call kind) = own_reply kind

-- the block afterwards: the call's own step, or the block as it was
abbrev pub block_after : List ℕ → Request → List ℕ
block_after s (call c) = step s c
block_after s (no_call kind) = s

-- the frame stands at the front of the output, the octets behind it are as they were, and its length is answered
abbrev pub Replies : List ℕ → (before after : List ℕ) → (count : ℕ) → Type 0
Replies frame before after count = (count ≡ length frame) × (after ≡ frame ++ drop (length frame) before)

abbrev pub Serves : Request → (s next : List ℕ) → (before after : List ℕ) → (count : ℕ) → Type 0
Serves q s next before after count = Replies (reply s q) before after count × (next ≡ block_after s q)
