-- Every number that an answer frame carries is said whole by its two octets.
use Prim.Native.Nat.{ℕ, suc, ◌+◌, ◌≤◌, ◌<◌}
use mathlib.Core.Bool.{Bool}
use mathlib.Core.List.{List, [], ◌∷◌}
use native.Mathlib.Omega.{arith}
use borrow.Author.Tests.{ltb-false}
use lib.Dec.{ltb, eqb}
use lib.ListN.{length, drop, length-drop}
use Rattle.octets.specs.Bounds.{part_in}
use Rattle.octets.specs.Number.{octet_at, number16_at}
use Rattle.octets.specs.Part.{part}
use Rattle.octets.proofs.Tests.{by_choice}
use Rattle.message.specs.Body as Body
use Rattle.message.specs.Frame as Frame
use Rattle.message.specs.Limits.{header, body_limit}
use Rattle.message.specs.Parts.{identifier_bounds}
use Rattle.message.specs.Read as Read
use Rattle.message.specs.declared.bodies.Fields.{Fields}
use Rattle.message.specs.declared.bodies.Fields.TheVariants.{SupportedProfiles, UnsupportedVersion, MediaKeys, TunneledDtls, EndpointDisconnect}
use Rattle.message.specs.declared.framing.Kind as Framed
use Rattle.rules.specs.Answer.{Answer, answered}
use Rattle.rules.specs.Call as Call
use Rattle.rules.specs.Layout.{up, rows, vacant}
use Rattle.rules.specs.Refusals.{received, receiving}
use Rattle.rules.specs.Search.{first}
use Rattle.rules.specs.Table.{answer, start_verdict, start_answer, vacant_place, open_verdict, open_answer, packet_verdict, packet_answer, close_verdict, close_answer, end_answer, look_verdict, look_answer, page_verdict, page_answer, knows, keys_verdict, fields_answer, read_answer, octets_answer}
use Rattle.rules.specs.Verdict.{Verdict, allowed, refusal}
use Rattle.rules.proofs.RowsLaws.{rows_length}
use Rattle.service.specs.Limits.{endpoint_length, room, frame_limit}
use Rattle.service.specs.Numbers.{number_in, numbers16, NumbersWhole}
use Rattle.service.specs.Reply.{lent_to}
use Rattle.service.specs.Request.{call, misshapen, kind_of, behind_endpoint, endpoint_in, request_by, request_of}
use Rattle.service.specs.declared.kind.Kind.{Kind}
use Rattle.service.specs.declared.kind.Kind.TheVariants.{Start, Open, BoothPacket, TunnelOctets, Close, End, Look, WritePage, Unknown}

-- places and octets taken are no more than the octets of the longest message
abbrev Small : Answer → Type 0
Small a = number_in a ≤ room

none : 0 ≤ room
none = omega arith

whole : (n : ℕ) → n ≤ room → n < numbers16
whole n h = omega arith

of_verdict : (w : Verdict) (taken : ℕ) (a : Answer) → taken ≤ room → Small a → Small (answered w taken a)
of_verdict allowed taken a h k = k
of_verdict (refusal number) taken a h k = h

-- ---- a place

first_within : {A : Type 0} (p : A → Bool) (l : List A) → first p l ≤ length l
unfolding first
first_within p [] = omega arith
first_within p (x ∷ l) =
    let h = first_within p l in
    by_choice (λ n. n ≤ suc (length l)) (p x) 0 (suc (first p l)) (λ e. omega arith) (λ e. omega (arith, h))

place_small : (s : List ℕ) → vacant_place s ≤ room
unfolding vacant_place
place_small s = let h = first_within vacant (rows s) in omega (arith, h, rows_length s)

-- ---- octets taken, of octets that are no more than the longest message

abbrev TakenSmall : Read.Answer → Type 0
TakenSmall Read.more_needed = Unit {0}
TakenSmall (Read.refused number taken) = taken ≤ room
TakenSmall (Read.accepted f taken) = taken ≤ room

abbrev FrameSmall : Frame.Framing → Type 0
FrameSmall Frame.more_needed = Unit {0}
FrameSmall (Frame.refused number taken) = taken ≤ room
FrameSmall (Frame.version number) = Unit {0}
FrameSmall (Frame.whole kind n) = header + n ≤ room

frame_small : (octets : List ℕ) → FrameSmall (Frame.frame octets)
unfolding Frame.frame Frame.version_frame Frame.plain_frame
frame_small octets =
    by_choice FrameSmall (eqb (octet_at octets 0) 2) _ _
    (λ _.
    by_choice FrameSmall (ltb (length octets) header) _ _ (λ _. tt) (λ _.
    by_choice FrameSmall (eqb (number16_at octets 1) 0) _ _ (λ _. omega arith) (λ _.
    by_choice FrameSmall (ltb (length octets) (header + 1)) _ _ (λ _. tt) (λ _. tt))))
    (λ _.
    by_choice FrameSmall (ltb (length octets) header) _ _ (λ _. tt) (λ _.
    by_choice FrameSmall (ltb body_limit (number16_at octets 1)) _ _ (λ _. omega arith) (λ e.
    let h : number16_at octets 1 ≤ body_limit = ltb-false _ _ e in
    by_choice FrameSmall (ltb (length octets) (header + number16_at octets 1)) _ _ (λ _. tt) (λ _. omega arith))))

module _ (s octets : List ℕ) (short : length octets ≤ room) where
  of_body : (taken : ℕ) (b : Body.Content) → taken ≤ room → TakenSmall (Read.body_answer taken b)
  of_body taken (Body.refused number) h = h
  of_body taken (Body.fields f) h = h

  of_frame : (f : Frame.Framing) → FrameSmall f → TakenSmall (received octets f)
  of_frame Frame.more_needed h = tt
  of_frame (Frame.refused number taken) h = h
  of_frame (Frame.version number) h = short
  of_frame (Frame.whole Framed.Kind.SupportedProfiles n) h = h
  of_frame (Frame.whole Framed.Kind.UnsupportedVersion n) h = of_body (header + n) (Body.content Framed.Kind.UnsupportedVersion (part octets header (header + n))) h
  of_frame (Frame.whole Framed.Kind.MediaKeys n) h = of_body (header + n) (Body.content Framed.Kind.MediaKeys (part octets header (header + n))) h
  of_frame (Frame.whole Framed.Kind.TunneledDtls n) h = of_body (header + n) (Body.content Framed.Kind.TunneledDtls (part octets header (header + n))) h
  of_frame (Frame.whole Framed.Kind.EndpointDisconnect n) h = of_body (header + n) (Body.content Framed.Kind.EndpointDisconnect (part octets header (header + n))) h
  of_frame (Frame.whole Framed.Kind.Unlisted n) h = of_body (header + n) (Body.content Framed.Kind.Unlisted (part octets header (header + n))) h

  of_fields : (f : Fields) (taken : ℕ) → taken ≤ room → Small (fields_answer s octets f taken)
  unfolding fields_answer
  of_fields (SupportedProfiles v n) taken h = h
  of_fields (UnsupportedVersion v) taken h = h
  of_fields (MediaKeys profile k) taken h = of_verdict (keys_verdict s (part_in octets identifier_bounds) profile k) taken _ h h
  of_fields (TunneledDtls n) taken h = by_choice Small (knows s (part_in octets identifier_bounds)) _ _ (λ _. h) (λ _. h)
  of_fields EndpointDisconnect taken h = by_choice Small (knows s (part_in octets identifier_bounds)) _ _ (λ _. h) (λ _. h)

  of_reading : (r : Read.Answer) → TakenSmall r → Small (read_answer s octets r)
  of_reading Read.more_needed h = none
  of_reading (Read.refused number taken) h = h
  of_reading (Read.accepted f taken) h = of_fields f taken h

  of_octets : Small (octets_answer s octets)
  unfolding octets_answer receiving
  of_octets = by_choice Small (up s) _ _ (λ _. of_reading (receiving octets) (of_frame (Frame.frame octets) (frame_small octets))) (λ _. none)

-- ---- every request

module _ (s : List ℕ) where
  of_call : (c : Call.Call) → length (lent_to c) ≤ room → Small (answer s c)
  unfolding answer start_answer open_answer packet_answer close_answer end_answer look_answer page_answer
  of_call (Call.start list size) h = of_verdict (start_verdict s list size) 0 _ none none
  of_call (Call.opening identifier endpoint) h = of_verdict (open_verdict s identifier endpoint) 0 _ none (place_small s)
  of_call (Call.booth_packet endpoint packet size) h = of_verdict (packet_verdict s endpoint packet size) 0 _ none none
  of_call (Call.tunnel_octets octets) h = of_octets s octets h
  of_call (Call.close identifier size) h = of_verdict (close_verdict s identifier size) 0 _ none none
  of_call Call.end h = by_choice Small (up s) _ _ (λ _. none) (λ _. none)
  of_call (Call.look endpoint) h = of_verdict (look_verdict s endpoint) 0 _ none none
  of_call (Call.write_page size) h = of_verdict (page_verdict s size) 0 _ none none

  said : (c : Call.Call) → length (lent_to c) ≤ room → NumbersWhole s (call c)
  said c h = whole (number_in (answer s c)) (of_call c h)

  of_kind : (k : Kind) (body : List ℕ) → length body ≤ room → NumbersWhole s (request_by k body)
  of_kind Start body h = said (Call.start body room) none
  of_kind Open body h =
      by_choice (NumbersWhole s) (ltb (length body) endpoint_length) misshapen (call (Call.opening (behind_endpoint body) (endpoint_in body))) (λ _. tt)
      (λ _. said (Call.opening (behind_endpoint body) (endpoint_in body)) none)
  of_kind BoothPacket body h =
      by_choice (NumbersWhole s) (ltb (length body) endpoint_length) misshapen (call (Call.booth_packet (endpoint_in body) (behind_endpoint body) room)) (λ _. tt)
      (λ _. said (Call.booth_packet (endpoint_in body) (behind_endpoint body) room) none)
  of_kind TunnelOctets body h = said (Call.tunnel_octets body) h
  of_kind Close body h = said (Call.close body room) none
  of_kind End body h = by_choice (NumbersWhole s) (eqb (length body) 0) (call Call.end) misshapen (λ _. said Call.end none) (λ _. tt)
  of_kind Look body h =
      by_choice (NumbersWhole s) (eqb (length body) endpoint_length) (call (Call.look (endpoint_in body))) misshapen
      (λ _. said (Call.look (endpoint_in body)) none) (λ _. tt)
  of_kind WritePage body h =
      by_choice (NumbersWhole s) (eqb (length body) 0) (call (Call.write_page room)) misshapen (λ _. said (Call.write_page room) none) (λ _. tt)
  of_kind Unknown body h = tt

  pub numbers_whole : (frame : List ℕ) → NumbersWhole s (request_of frame)
  unfolding request_of
  numbers_whole frame =
      by_choice (NumbersWhole s) (ltb frame_limit (length frame)) _ _ (λ _. tt) (λ e.
      by_choice (NumbersWhole s) (eqb (length frame) 0) _ _ (λ _. tt) (λ _.
      let h : length frame ≤ frame_limit = ltb-false _ _ e in
      of_kind (kind_of (octet_at frame 0)) (drop 1 frame) (let d = length-drop 1 frame in omega (arith, d, h))))
