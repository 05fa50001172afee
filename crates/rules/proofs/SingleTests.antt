-- The single tests of Refusals say what they mean.
use Prim.Native.Nat.{ℕ, ◌+◌, ◌*◌, ◌-◌, ◌/◌, ◌≤◌, ◌<◌}
use mathlib.Core.Path.{◌≡◌, refl, sym, ap, subst, ◌∙◌}
use mathlib.Core.Logic.{◌↔◌, ◌⊎◌, inl, inr, ⊎_elim}
use mathlib.Core.Bool.{true, false, not}
use mathlib.Core.List.{List, [], ◌∷◌, ◌++◌}
use native.Mathlib.Omega.{arith}
use lib.ListN.{length, length-append}
use lib.Dec.{ltb}
use borrow.Author.Tests.{lt-ltb, eq-eqb, ne_eqb, ltb-true, eqb-false, not-true}
use Rattle.octets.specs.Number.{octet_at, octets16}
use Rattle.octets.proofs.Tests.{by_choice, false_true, by_size}
use Rattle.octets.proofs.RangeLaws.{inside}
use Rattle.demux.specs.Sorting as Sorting
use Rattle.demux.specs.declared.sorting.Kind.{Kind}
use Rattle.demux.proofs.Ranges.{ranges}
use Rattle.status.specs.declared.entry.Entry.{Entry}
use Rattle.status.specs.Page.{layout}
use Rattle.status.proofs.PageLaws.{layout_length}
use Rattle.message.specs.Limits.{body_limit}
use Rattle.message.specs.Message.{Message, tunneled_dtls, endpoint_disconnect, encode_body, encode}
use Rattle.message.specs.Write.{Answer, writing, refused, fitting}
use Rattle.rules.specs.Limits.{packet_limit}
use Rattle.rules.specs.Refusals as Refusals
use Rattle.rules.specs.Refusals.{is_dtls_kind}
use Rattle.rules.specs.SingleTests.{SingleTests}
use Rattle.rules.proofs.GoodLists.{good_list_means}

-- ---- 20

width_means : (identifier : List ℕ) → (Refusals.wrong_width identifier ≡ true) ↔ (length identifier ≡ 16 → ⊥)
width_means i = (λ h. eqb-false _ _ (not-true _ h), λ h. rw (ne_eqb _ _ h))

-- ---- 14

-- a first octet that is not DTLS's
abbrev Outside : ℕ → Type 0
Outside x = (x < 20) ⊎ (63 < x)

outside : (x : ℕ) → is_dtls_kind (Sorting.kind_of x) ≡ false → Outside x
outside x h = by_size x 20 inl (λ a. by_size 63 x inr (λ b. absurd (false_true (sym h ∙ ap is_dtls_kind ((ranges.exactly Kind.Dtls x).1 (a, b))))))

-- the kind of such an octet is not DTLS
other_kind : (k : Kind) (x : ℕ) → Sorting.kind_of x ≡ k → Outside x → is_dtls_kind k ≡ false
other_kind Kind.Stun x e o = refl
other_kind Kind.Zrtp x e o = refl
other_kind Kind.Dtls x e o =
    let d = (ranges.exactly Kind.Dtls x).0 e in
    ⊎_elim (λ h. absurd (omega arith)) (λ h. absurd (omega arith)) o
other_kind Kind.TurnChannel x e o = refl
other_kind Kind.Rtp x e o = refl
other_kind Kind.Other x e o = refl

not_dtls_means : (packet : List ℕ) → (Refusals.not_dtls packet ≡ true) ↔ ((length packet ≡ 0) ⊎ Outside (octet_at packet 0))
unfolding Refusals.not_dtls Sorting.sorting
not_dtls_means [] = (λ h. inl refl, λ h. refl)
not_dtls_means (x ∷ l) = (
  λ h. inr (outside x (not-true _ h)),
  ⊎_elim (λ e. absurd (omega arith)) (λ o. ap not (other_kind (Sorting.kind_of x) x refl o)),
)

-- ---- 15

too_long_means : (packet : List ℕ) → (Refusals.too_long packet ≡ true) ↔ (4094 - 16 < length packet)
too_long_means packet = (ltb-true packet_limit (length packet), lt-ltb packet_limit (length packet))

module _ (i packet : List ℕ) (room : ℕ) (w : length i ≡ 16) (some : 1 ≤ length packet) (told : length packet ≤ 65535) where
  abbrev m : Message
  m = tunneled_dtls i packet

  body_length : length (encode_body m) ≡ 18 + length packet
  body_length = simp length-append (omega arith)

  fits : writing m room ≡ fitting (length (encode_body m)) (length (encode m)) room
  unfolding writing
  fits = rw (eq-eqb _ _ w, inside 1 65535 _ some told)

  -- refusal 2, and no other, is for a body over the limit
  abbrev Over : Answer → Type 0
  Over v = v ≡ refused 2 → body_limit < length (encode_body m)

  over : Over (fitting (length (encode_body m)) (length (encode m)) room)
  over =
      by_choice Over (ltb body_limit (length (encode_body m))) _ _ (λ e _. ltb-true _ _ e) (λ _.
      by_choice Over (ltb room (length (encode m))) _ _
      (λ _ q. let z : ◌≡◌ {A = ℕ} 0 1 = cc in omega arith) (λ _ q. let z : ◌≡◌ {A = ℕ} 0 1 = cc in omega arith))

  unwritable_means : (Refusals.too_long packet ≡ true) ↔ (writing m room ≡ refused 2)
  unwritable_means = (
    λ h.
        let long = ltb-true packet_limit (length packet) h in
        let over_long : body_limit < length (encode_body m) = omega (arith, body_length) in
        fits ∙ rw (lt-ltb body_limit (length (encode_body m)) over_long),
    λ e. lt-ltb packet_limit (length packet) (omega (arith, body_length, over (sym fits ∙ e))),
  )

-- ---- 13

room_means : (room needed : ℕ) {size : ℕ} → needed ≡ size → (ltb room needed ≡ true) ↔ (room < size)
room_means room needed e =
    (λ h. subst (λ (n : ℕ). room < n) e (ltb-true room needed h), λ h. lt-ltb room needed (subst (λ (n : ℕ). room < n) (sym e) h))

start_room_lem : (list : List ℕ) (room : ℕ) → (Refusals.no_room (Refusals.start_message list) room ≡ true) ↔ (room < 6 + length list)
unfolding encode
start_room_lem list room = room_means room (length (encode (Refusals.start_message list))) (omega arith)

packet_room_lem : (i packet : List ℕ) (room : ℕ) → length i ≡ 16 → (Refusals.no_room (tunneled_dtls i packet) room ≡ true) ↔ (room < 21 + length packet)
unfolding encode
packet_room_lem i packet room w = room_means room (length (encode (tunneled_dtls i packet))) (simp length-append (omega arith))

close_room_lem : (i : List ℕ) (room : ℕ) → length i ≡ 16 → (Refusals.no_room (endpoint_disconnect i) room ≡ true) ↔ (room < 19)
unfolding encode
close_room_lem i room w = room_means room (length (encode (endpoint_disconnect i))) (simp length-append (omega arith))

page_room_lem : (es : List Entry) (room : ℕ) → (Refusals.no_room_for_page es room ≡ true) ↔ (room < (6 + 38 * length es + 7) / 8)
page_room_lem es room = room_means room (length (layout es)) (layout_length es ∙ omega arith)

-- ---- what is written

starts : (list : List ℕ) → encode (Refusals.start_message list) ≡ (1 ∷ octets16 (3 + length list)) ++ (0 ∷ octets16 (length list)) ++ list
unfolding encode
starts list = ap (λ (n : ℕ). (1 ∷ octets16 n) ++ encode_body (Refusals.start_message list)) (omega arith)

sends : (i packet : List ℕ) → length i ≡ 16
    → encode (tunneled_dtls i packet) ≡ (4 ∷ octets16 (18 + length packet)) ++ (i ++ (octets16 (length packet) ++ packet))
unfolding encode
sends i packet w = ap (λ (n : ℕ). (4 ∷ octets16 n) ++ encode_body (tunneled_dtls i packet)) (simp length-append (omega arith))

closes : (i : List ℕ) → length i ≡ 16 → encode (endpoint_disconnect i) ≡ 5 ∷ 0 ∷ 16 ∷ i
unfolding encode
closes i w = ap (λ (n : ℕ). (5 ∷ octets16 n) ++ i) w

pub single_tests : SingleTests
single_tests = record {
  wrong_width = width_means;
  not_dtls = not_dtls_means;
  too_long = too_long_means;
  unwritable = unwritable_means;
  good_list = good_list_means;
  start_room = start_room_lem;
  packet_room = packet_room_lem;
  close_room = close_room_lem;
  page_room = page_room_lem;
  started = starts;
  sent = sends;
  closed = closes;
  places = refl;
}
