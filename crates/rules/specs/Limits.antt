-- The table's limits by name; those of messages are the message crate's.
use Rattle.std.specs.Prelude.{ℕ, ◌+◌, ◌-◌}
use Rattle.message.specs.Limits.{width, body_limit}
use Rattle.status.specs.Limits as Status

-- live associations at most: the request
abbrev pub places : ℕ
places = Status.places

-- rounds of a search at most: one more than so many places can be halved; document 02, order 2
abbrev pub rounds : ℕ
rounds = 6

-- the longest key of a profile, and the longest good profile list
abbrev pub key_limit : ℕ
key_limit = 32

abbrev pub list_limit : ℕ
list_limit = 4

-- a DTLS packet has at most 4,094 - A octets: document 01, "Tunnel messages"
abbrev pub packet_limit : ℕ
packet_limit = body_limit - (width + 2)
