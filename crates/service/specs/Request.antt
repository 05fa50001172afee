-- What a request frame stands for: docs/RELAY.md, "Requests". A frame here is its octets behind the two of length.
use Rattle.std.specs.Prelude.{ℕ, cond, List, ltb, eqb, length, drop}
use Rattle.octets.specs.Number.{octet_at, number32_at}
use Rattle.rules.specs.Call.{Call}
use Rattle.service.specs.Limits.{endpoint_length, room, frame_limit}
use Rattle.service.specs.declared.kind.Kind.{Kind}
use Rattle.service.specs.declared.kind.Kind.TheVariants.{Start, Open, BoothPacket, TunnelOctets, Close, End, Look, WritePage, Unknown}

-- a call of the distributor, or none: then the kind of the relay's own answer
pub data Request : Type 0 where
  call : Call → Request
  no_call : (kind : ℕ) → Request

-- the kinds of those: an unknown request kind; a frame above the limit; a frame too short or too long for its kind
abbrev pub unknown_kind : ℕ
unknown_kind = 128

abbrev pub too_long_kind : ℕ
too_long_kind = 129

abbrev pub misshapen_kind : ℕ
misshapen_kind = 130

abbrev pub unknown : Request
unknown = no_call unknown_kind

abbrev pub too_long : Request
too_long = no_call too_long_kind

abbrev pub misshapen : Request
misshapen = no_call misshapen_kind

-- the kind octet
unfoldable pub kind_of : ℕ → Kind
kind_of first =
    cond (eqb first 1) Start
    (cond (eqb first 2) Open
    (cond (eqb first 3) BoothPacket
    (cond (eqb first 4) TunnelOctets
    (cond (eqb first 5) Close
    (cond (eqb first 6) End
    (cond (eqb first 7) Look
    (cond (eqb first 8) WritePage
    Unknown)))))))

-- the endpoint in front of a body, and what is behind it
abbrev pub endpoint_in : List ℕ → ℕ
endpoint_in body = number32_at body 0

abbrev pub behind_endpoint : List ℕ → List ℕ
behind_endpoint body = drop endpoint_length body

-- by the kind, and the body behind the kind octet
abbrev pub request_by : Kind → List ℕ → Request
request_by Start body = call (Call.start body room)
request_by Open body = cond (ltb (length body) endpoint_length) misshapen (call (Call.opening (behind_endpoint body) (endpoint_in body)))
request_by BoothPacket body =
    cond (ltb (length body) endpoint_length) misshapen (call (Call.booth_packet (endpoint_in body) (behind_endpoint body) room))
request_by TunnelOctets body = call (Call.tunnel_octets body)
request_by Close body = call (Call.close body room)
request_by End body = cond (eqb (length body) 0) (call Call.end) misshapen
request_by Look body = cond (eqb (length body) endpoint_length) (call (Call.look (endpoint_in body))) misshapen
request_by WritePage body = cond (eqb (length body) 0) (call (Call.write_page room)) misshapen
request_by Unknown body = unknown

unfoldable pub request_of : List ℕ → Request
request_of frame =
    cond (ltb frame_limit (length frame)) too_long
    (cond (eqb (length frame) 0) misshapen
    (request_by (kind_of (octet_at frame 0)) (drop 1 frame)))
