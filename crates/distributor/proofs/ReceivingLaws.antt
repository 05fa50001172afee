-- Laws of tunnel octets: what each way through a call comes to.
use Prim.Native.Nat.{ℕ, ◌+◌}
use mathlib.Core.Path.{◌≡◌, refl, sym, ap, subst, ◌∙◌}
use mathlib.Core.Bool.{Bool, true, false, cond}
use mathlib.Core.List.{List}
use native.Mathlib.Omega.{arith}
use borrow.Author.Tests.{ne_eqb}
use Rattle.std.specs.Prelude.{Some, Result, Ok, Err}
use Rattle.octets.specs.Bounds.{part_in}
use Rattle.octets.specs.Refusal.{number_of}
use Rattle.octets.specs.declared.refusal.Refusal.{Refusal}
use Rattle.message.specs.Limits.{header, width}
use Rattle.message.specs.Parts.{identifier_bounds, dtls_bounds, dtls_found}
use Rattle.message.specs.Body as Body
use Rattle.message.specs.Frame as Frame
use Rattle.message.specs.Read as Read
use Rattle.message.specs.declared.framing.Kind.{Kind}
use Rattle.message.specs.declared.bodies.Fields.{Fields}
use Rattle.message.specs.declared.reading.Refused.{Refused}
use Rattle.message.specs.declared.bodies.Fields.TheVariants.{MediaKeys, TunneledDtls, EndpointDisconnect}
use Rattle.message.proofs.TunneledLaws.{tunneled_told, tunneled_frame, tunneled_content}
use Rattle.rules.specs.Index.{without_entry}
use Rattle.rules.specs.Layout.{up, row_of, endpoint_of, keyed_row, with_row, vacant_row, down_block}
use Rattle.rules.specs.Verdict.{allowed, refusal}
use Rattle.rules.specs.Answer.{Answer, refused, keys_stored, delivery, removed}
use Rattle.rules.specs.Refusals.{received, receiving}
use Rattle.rules.specs.Table.{place_of_identifier, fields_answer, fields_next, read_next, octets_answer, octets_next}
use Rattle.rows.specs.ReadKeys.{keys_read}
use Rattle.rows.specs.declared.writing.ReadKeys.{ReadKeys}
use Rattle.distributor.specs.Outcomes.{Found, Takes, Reads, keys_place, keys_verdict}
use Rattle.distributor.specs.declared.receiving.Received.{Received}

-- ---- refusal 4 is the only one that is not the reading's

pub received_read : (s : List ℕ) (kind : Kind) (n : ℕ) → (kind ≡ Kind.SupportedProfiles → ⊥) → received s (Frame.whole kind n) ≡ Read.frame_answer s (Frame.whole kind n)
received_read s Kind.SupportedProfiles n h = absurd (h refl)
received_read s Kind.UnsupportedVersion n h = refl
received_read s Kind.MediaKeys n h = refl
received_read s Kind.TunneledDtls n h = refl
received_read s Kind.EndpointDisconnect n h = refl
received_read s Kind.Unlisted n h = refl

-- a whole TunneledDtls, told by its DTLS octets
pub tunneled : (s : List ℕ) (n : ℕ) → Some n ≡ dtls_found (Read.reading s) → receiving s ≡ Read.accepted (TunneledDtls n) (header + width + 2 + n)
unfolding receiving
tunneled s n e =
    let t = tunneled_told s n e in
    let taken : header + (width + 2 + n) ≡ header + width + 2 + n = omega arith in
    ap (received s) (tunneled_frame s n t) ∙ ap (Read.body_answer (header + (width + 2 + n))) (tunneled_content s n t) ∙ ap (Read.accepted (TunneledDtls n)) taken

-- ---- an answer with the block afterwards

module _ (s octets : List ℕ) {next : List ℕ} where
  pub of_fields : (taken : ℕ) (r : Result Received Refused) {f g : Fields} → f ≡ g → Takes s octets g taken next r → Takes s octets f taken next r
  of_fields taken r e h = subst (λ (x : Fields). Takes s octets x taken next r) (sym e) h

  pub of_reading : {a : Answer} {r q : Read.Answer} → r ≡ q → Reads s octets r next a → Reads s octets q next a
  of_reading {a} e h = subst (λ (x : Read.Answer). Reads s octets x next a) e h

  pub of_receiving : up s ≡ true → {a : Answer} → Reads s octets (receiving octets) next a → (a ≡ octets_answer s octets) × (next ≡ octets_next s octets)
  unfolding octets_answer octets_next
  of_receiving u h = rw u h

-- ---- by refusal 1

module _ (s octets : List ℕ) where
  pub receives_down : up s ≡ false → (refused 1 0 ≡ octets_answer s octets) × (s ≡ octets_next s octets)
  unfolding octets_answer octets_next
  receives_down u = (rw u, rw u)

  -- ---- refusal 2 ends the tunnel, and no other does

  pub read_down : (r : Refusal) (next : List ℕ) (taken : ℕ) → r ≡ Refusal.Oversize → next ≡ down_block → next ≡ read_next s octets (Read.refused (number_of r) taken)
  read_down r next taken e h = h ∙ ap (λ (x : Refusal). read_next s octets (Read.refused (number_of x) taken)) (sym e)

  pub read_stays : (n taken : ℕ) → (n ≡ 2 → ⊥) → s ≡ read_next s octets (Read.refused n taken)
  read_stays n taken h = rw (ne_eqb n 2 h) refl

ended : (b : Bool) (f : Fields) (n : ℕ) → Body.refused n ≡ cond b (Body.fields f) (Body.refused 5) → n ≡ 2 → ⊥
ended true f n h e = cc
ended false f n h e = let k : n ≡ 5 = cc in omega arith

-- a body has other refusals
pub body_other : (kind : Kind) (body : List ℕ) (n : ℕ) → Body.refused n ≡ Body.content kind body → n ≡ 2 → ⊥
unfolding Body.content Body.supported_profiles Body.unsupported_version Body.media_keys Body.tunneled_dtls Body.endpoint_disconnect
body_other Kind.SupportedProfiles body n h = ended _ _ n h
body_other Kind.UnsupportedVersion body n h = ended _ _ n h
body_other Kind.MediaKeys body n h = ended _ _ n h
body_other Kind.TunneledDtls body n h = ended _ _ n h
body_other Kind.EndpointDisconnect body n h = ended _ _ n h
body_other Kind.Unlisted body n h = λ e. let k : n ≡ 3 = cc in omega arith

module _ (s octets : List ℕ) where
  pub body_refused : (kind : Kind) (body : List ℕ) (taken : ℕ) (r : Refusal) → Body.refused (number_of r) ≡ Body.content kind body
      → Reads s octets (Read.body_answer taken (Body.content kind body)) s (refused (number_of r) taken)
  body_refused kind body taken r h = of_reading s octets (ap (Read.body_answer taken) h) (refl, read_stays s octets (number_of r) taken (body_other kind body (number_of r) h))

-- ---- by the place of the identifier

module _ (s octets i : List ℕ) (taken : ℕ) (e : i ≡ part_in octets identifier_bounds) where
  pub named : (r : Result ℕ Refusal) → Found (place_of_identifier s i) r → Found (place_of_identifier s (part_in octets identifier_bounds)) r
  named r f = subst (λ (x : List ℕ). Found (place_of_identifier s x) r) e f

  pub delivered : (n endpoint place : ℕ) → Found (place_of_identifier s i) (Ok place) → endpoint ≡ endpoint_of (row_of s place)
      → Takes s octets (TunneledDtls n) taken s (Ok (Received.Delivery (dtls_bounds n) taken endpoint))
  unfolding fields_answer fields_next
  delivered n endpoint place f g =
      let h = named (Ok place) f in
      (rw h.0 (ap (λ (x : ℕ). delivery x (dtls_bounds n) taken) (g ∙ ap (λ (x : ℕ). endpoint_of (row_of s x)) h.1)), refl)

  pub not_delivered : (n : ℕ) (r : Refusal) → Found (place_of_identifier s i) (Err r) → Takes s octets (TunneledDtls n) taken s (Err (record { refusal = r; taken = taken }))
  unfolding fields_answer fields_next
  not_delivered n r f = let h = named (Err r) f in (rw (h.0, h.1) refl, refl)

  pub disconnected : (endpoint place : ℕ) → Found (place_of_identifier s i) (Ok place) → endpoint ≡ endpoint_of (row_of s place)
      → {next : List ℕ} → next ≡ without_entry (with_row s place vacant_row) (endpoint_of (row_of s place))
      → Takes s octets EndpointDisconnect taken next (Ok (Received.Disconnected taken endpoint))
  unfolding fields_answer fields_next
  disconnected endpoint place f g n =
      let h = named (Ok place) f in (
        rw h.0 (ap (λ (x : ℕ). removed x taken) (g ∙ ap (λ (x : ℕ). endpoint_of (row_of s x)) h.1)),
        rw h.0 (n ∙ ap (λ (x : ℕ). without_entry (with_row s x vacant_row) (endpoint_of (row_of s x))) h.1),
      )

  pub not_disconnected : (r : Refusal) → Found (place_of_identifier s i) (Err r) → Takes s octets EndpointDisconnect taken s (Err (record { refusal = r; taken = taken }))
  unfolding fields_answer fields_next
  not_disconnected r f = let h = named (Err r) f in (rw (h.0, h.1) refl, rw h.0 refl)

-- ---- keys, by their verdict

module _ (s : List ℕ) (taken : ℕ) (k : ReadKeys) where
  pub keyed : (place : ℕ) → (allowed ≡ keys_verdict s k) × (place ≡ keys_place s k)
      → (endpoint : ℕ) → endpoint ≡ endpoint_of (row_of s place)
      → {next : List ℕ} → next ≡ with_row s place (keyed_row (keys_read k) (row_of s place))
      → Takes s k.octets.now (MediaKeys k.profile k.lengths) taken next (Ok (Received.KeysStored taken endpoint))
  unfolding fields_answer fields_next
  keyed place v endpoint n e =
      rw (← v.0) (ap (λ (x : ℕ). keys_stored x taken) (n ∙ ap (λ (x : ℕ). endpoint_of (row_of s x)) v.1), e ∙ ap (λ (x : ℕ). with_row s x (keyed_row (keys_read k) (row_of s x))) v.1)

  pub not_keyed : (r : Refusal) → refusal (number_of r) ≡ keys_verdict s k → Takes s k.octets.now (MediaKeys k.profile k.lengths) taken s (Err (record { refusal = r; taken = taken }))
  unfolding fields_answer fields_next
  not_keyed r v = (rw (← v) refl, rw (← v) refl)
