-- What the front of lent octets holds before a body is looked at: document 01, "Reading the front of a lent stretch", steps 1 to 3.
use Rattle.std.specs.Prelude.{ℕ, ◌+◌, cond, List, length, ltb, eqb, Option, Some, None, Result, Ok, Err}
use Rattle.octets.specs.Number.{octet_at, number16_at}
use Rattle.octets.specs.Refusal.{number_of}
use Rattle.message.specs.Limits.{body_limit, header}
use Rattle.message.specs.declared.framing.Kind.{Kind}
use Rattle.message.specs.declared.framing.Kind.TheVariants.{SupportedProfiles, UnsupportedVersion, MediaKeys, TunneledDtls, EndpointDisconnect, Unlisted}
use Rattle.message.specs.declared.framing.Frame.{Frame}
use Rattle.message.specs.declared.reading.Refused.{Refused}

-- the type octet: RFC 9185, section 6.1; 0 and 6 to 255 are not listed
unfoldable pub kind_of : ℕ → Kind
kind_of type =
    cond (eqb type 1) SupportedProfiles
    (cond (eqb type 2) UnsupportedVersion
    (cond (eqb type 3) MediaKeys
    (cond (eqb type 4) TunneledDtls
    (cond (eqb type 5) EndpointDisconnect
    Unlisted))))

-- the type octet of each kind, and one that is not listed
abbrev pub octet_of : Kind → ℕ
octet_of Kind.Unlisted = 0
octet_of Kind.SupportedProfiles = 1
octet_of Kind.UnsupportedVersion = 2
octet_of Kind.MediaKeys = 3
octet_of Kind.TunneledDtls = 4
octet_of Kind.EndpointDisconnect = 5

-- more needed; a refusal by its number with the octets taken; an accepted version, with every lent octet taken;
-- or a whole message, by its type and the length of its body
pub data Framing : Type 0 where
  more_needed : Framing
  refused : (number taken : ℕ) → Framing
  version : (number : ℕ) → Framing
  whole : (kind : Kind) (body_length : ℕ) → Framing

-- step 2: length 0 is refusal 5, three taken; else, fewer than four octets: more needed; else accepted, whatever the length says
unfoldable pub version_frame : List ℕ → Framing
version_frame s =
    cond (ltb (length s) header) more_needed
    (cond (eqb (number16_at s 1) 0) (refused 5 header)
    (cond (ltb (length s) (header + 1)) more_needed
    (version (octet_at s header))))

-- steps 1 and 3, for any type: fewer than three octets, more needed; length above the limit, refusal 2, none taken; not whole yet, more needed
unfoldable pub plain_frame : List ℕ → Framing
plain_frame s =
    cond (ltb (length s) header) more_needed
    (cond (ltb body_limit (number16_at s 1)) (refused 2 0)
    (cond (ltb (length s) (header + number16_at s 1)) more_needed
    (whole (kind_of (octet_at s 0)) (number16_at s 1))))

-- type 2 by step 2, the others by step 3
unfoldable pub frame : List ℕ → Framing
frame s = cond (eqb (octet_at s 0) 2) (version_frame s) (plain_frame s)

-- the number and the values that each case of a result stands for
abbrev pub framing_of : Result (Option Frame) Refused → Framing
framing_of (Ok None) = more_needed
framing_of (Ok (Some (Frame.Version v))) = version v
framing_of (Ok (Some (Frame.Whole kind body_length))) = whole kind body_length
framing_of (Err r) = refused (number_of r.refusal) r.taken
