-- Which request a frame stands for, by the tests on its way.
use Prim.Native.Nat.{ℕ, ◌≤◌, ◌<◌}
use mathlib.Core.Path.{◌≡◌, refl, ap, subst}
use mathlib.Core.List.{List, ◌∷◌}
use native.Mathlib.Omega.{arith}
use borrow.Author.Tests.{lt-ltb, le-ltb, eq-eqb, ne_eqb}
use lib.Dec.{ltb, eqb}
use lib.ListN.{length}
use Rattle.octets.proofs.Tests.{by_choice}
use Rattle.rules.specs.Call.{Call}
use Rattle.rules.specs.Table.{step}
use Rattle.service.specs.Limits.{endpoint_length, room, frame_limit}
use Rattle.service.specs.Request.{Request, call, too_long, misshapen, kind_of, endpoint_in, behind_endpoint, request_by, request_of}
use Rattle.service.specs.Reply.{Serves, block_after}
use Rattle.service.specs.declared.kind.Kind.{Kind}
use Rattle.service.specs.declared.kind.Kind.TheVariants.{BoothPacket, Look, WritePage}

-- ---- what holds for a request holds for the same request

module _ (p : Request) {q : Request} (s next l : List ℕ) {x : List ℕ} {to : ℕ} where
  pub same_serving : p ≡ q → Serves p s next l x to → Serves q s next l x to
  same_serving e o = subst (λ (r : Request). Serves r s next l x to) e o

-- ---- by the whole frame

module _ (frame : List ℕ) where
  pub frame_long : frame_limit < length frame → too_long ≡ request_of frame
  unfolding request_of
  frame_long h = rw (lt-ltb _ _ h)

  pub frame_empty : length frame ≤ frame_limit → length frame ≡ 0 → misshapen ≡ request_of frame
  unfolding request_of
  frame_empty h e = rw (le-ltb _ _ h, eq-eqb _ _ e)

  pub frame_request : length frame ≤ frame_limit → {first : ℕ} {kind : Kind} {body : List ℕ} → frame ≡ first ∷ body → kind ≡ kind_of first → request_by kind body ≡ request_of frame
  unfolding request_of
  frame_request h {first} {kind} {body} e a = rw (le-ltb _ _ h, e, ne_eqb (length (first ∷ body)) 0 (λ z. omega (arith, z))) (ap (λ (k : Kind). request_by k body) a)

-- a booth packet, a look and a page leave the block as it is
module _ (s body : List ℕ) where
  pub packet_keeps : s ≡ block_after s (request_by BoothPacket body)
  unfolding step
  packet_keeps = by_choice (λ q. s ≡ block_after s q) (ltb (length body) endpoint_length) misshapen (call (Call.booth_packet (endpoint_in body) (behind_endpoint body) room)) (λ h. refl) (λ h. refl)

  pub look_keeps : s ≡ block_after s (request_by Look body)
  unfolding step
  look_keeps = by_choice (λ q. s ≡ block_after s q) (eqb (length body) endpoint_length) (call (Call.look (endpoint_in body))) misshapen (λ h. refl) (λ h. refl)

  pub page_keeps : s ≡ block_after s (request_by WritePage body)
  unfolding step
  page_keeps = by_choice (λ q. s ≡ block_after s q) (eqb (length body) 0) (call (Call.write_page room)) misshapen (λ h. refl) (λ h. refl)

pub ruleset keeps = (packet_keeps, look_keeps, page_keeps)

pub ruleset frames = (same_serving, frame_long, frame_empty, frame_request)
