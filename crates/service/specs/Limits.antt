-- The lengths of frames by name: docs/RELAY.md.
use Rattle.std.specs.Prelude.{ℕ, ◌+◌, ◌*◌}
use Rattle.message.specs.Limits.{width, header, body_limit, mki_limit, salt_limit}
use Rattle.rules.specs.Limits.{key_limit}

-- in front of an answer's values: two octets of length, and the kind
abbrev pub head_length : ℕ
head_length = 3

-- an endpoint in a request
abbrev pub endpoint_length : ℕ
endpoint_length = 4

-- the room that the relay lends its calls: the longest tunnel message
abbrev pub room : ℕ
room = header + body_limit

-- the longest request: the kind, and the longest tunnel message
abbrev pub frame_limit : ℕ
frame_limit = 1 + room

-- the longest answer frame
abbrev pub answer_limit : ℕ
answer_limit = head_length + room

-- the profile and the key fields of a record, each behind its length octet
abbrev pub keys_length : ℕ
keys_length = 2 + (1 + mki_limit) + 2 * (1 + key_limit) + 2 * (1 + salt_limit)

-- a record: state, identifier, endpoint, and these
abbrev pub record_length : ℕ
record_length = 1 + width + endpoint_length + keys_length
