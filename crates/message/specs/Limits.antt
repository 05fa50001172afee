-- The widths and limits of tunnel messages by name.
use Rattle.std.specs.Prelude.{ℕ}

-- A, the width of an association identifier: `opaque uuid[16]` (RFC 9185, section 6.1)
abbrev pub width : ℕ
width = 16

-- the longest body, read or written (document 01)
abbrev pub body_limit : ℕ
body_limit = 4096

-- what stands before a body: type 1, length 2 (RFC 9185, section 6.1)
abbrev pub header : ℕ
header = 3

-- the longest field that one, and that two length octets can tell
abbrev pub most8 : ℕ
most8 = 255

abbrev pub most16 : ℕ
most16 = 65535

-- the table's limits on MKIs and salts (document 01, "The record and its calls")
abbrev pub mki_limit : ℕ
mki_limit = 16

abbrev pub salt_limit : ℕ
salt_limit = 32
