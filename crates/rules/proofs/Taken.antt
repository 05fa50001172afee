-- Tunnel octets is answered by the steps of the reading, by the table and by the cards alike.
use Prim.Native.Nat.{ℕ, ◌+◌, ◌≤◌, ◌<◌}
use mathlib.Core.Path.{◌≡◌, refl, sym, ap, ◌∙◌, subst}
use mathlib.Core.Logic.{inl, inr}
use mathlib.Core.Bool.{Bool, true, false, not}
use mathlib.Core.List.{List}
use native.Mathlib.Omega.{arith}
use lib.ListN.{length}
use borrow.Author.Tests.{lt-ltb, le-ltb, ne_eqb}
use Rattle.octets.specs.Bounds.{part_in}
use Rattle.octets.specs.Number.{octet_at, number16_at}
use Rattle.octets.specs.Part.{part}
use Rattle.octets.proofs.Tests.{by_choice}
use Rattle.message.specs.Limits.{header}
use Rattle.message.specs.Frame as Frame
use Rattle.message.specs.Frame.{kind_of}
use Rattle.message.specs.Body.{Content}
use Rattle.message.specs.Parts.{identifier_bounds, dtls_bounds}
use Rattle.message.specs.Profiles.{in_list, keys_fit, mki_and_salts_fit}
use Rattle.message.specs.Read as Read
use Rattle.message.specs.Read.{body_answer, frame_answer, reading}
use Rattle.message.specs.Taken.{OfOther, WholeAt, IsUnlisted}
use Rattle.message.specs.declared.framing.Kind.{Kind}
use Rattle.message.specs.Keys.{KeyLengths}
use Rattle.message.specs.declared.bodies.Fields.TheVariants.{UnsupportedVersion, MediaKeys, TunneledDtls, EndpointDisconnect}
use Rattle.message.proofs.BodyCases.{keys_body, dtls_body, disconnect_body}
use Rattle.message.proofs.Encoded.{body_length}
use Rattle.message.proofs.FrameChoice.{by_neither}
use Rattle.message.proofs.FrameSays.{frame_says, whole_type, FrameSays}
use Rattle.message.proofs.Taken.{whole_framed, reads_by_steps}
use Rattle.rules.specs.Tunnel.{is_up, list_in}
use Rattle.rules.specs.Call as Call
use Rattle.rules.specs.Verdict.{allowed, refuse}
use Rattle.rules.specs.Answer.{Answer, refused, more_needed, keys_stored, delivery, removed, version, answered}
use Rattle.rules.specs.Layout.{up, list_of}
use Rattle.rules.specs.Refusals.{received, receiving}
use Rattle.rules.specs.Table.{endpoint_for, keys_verdict, knows, fields_answer, read_answer, octets_answer}
use Rattle.rules.specs.Cards.{Held, blank, opened, keyed, Cards}
use Rattle.rules.specs.CardAnswers.{tunnel_on, by_card, read_expected, expected}
use Rattle.rules.specs.Taken.{RefusedWith, KeysAnswer, DtlsAnswer, DisconnectAnswer, ReceivesBySteps}
use Rattle.rules.proofs.ProfilesLaws.{by_profiles, expected_reads}

-- ---- an octet of type 1 at the front of a whole message, and of any other

-- the frame is that of a whole message of type 1: so is the octet
framed_profiles : (octets : List ℕ) (n : ℕ) → Frame.frame octets ≡ Frame.whole Kind.SupportedProfiles n → octet_at octets 0 ≡ 1
framed_profiles octets n e = whole_type (subst (FrameSays octets) e (frame_says octets))

-- octets of any other type are received as they are read
received_read : (octets : List ℕ) → (octet_at octets 0 ≡ 1 → ⊥) → receiving octets ≡ reading octets
unfolding receiving reading
received_read octets other =
    by_profiles (λ r. r ≡ frame_answer octets (Frame.frame octets)) (Frame.frame octets) _ _
    (λ n e. absurd (other (framed_profiles octets n e))) refl

-- ---- an answer that is made of what was received

record Answering (make : Read.Answer → Answer) : Type 0 where
  more : make Read.more_needed ≡ more_needed
  refusing : (number taken : ℕ) → make (Read.refused number taken) ≡ refused number taken
  reporting : (v taken : ℕ) → make (Read.accepted (UnsupportedVersion v) taken) ≡ version v taken
  keys : (profile : ℕ) (k : KeyLengths) (taken : ℕ) → KeysAnswer taken (make (Read.accepted (MediaKeys profile k) taken))
  dtls : (n taken : ℕ) → 21 + n ≡ taken → DtlsAnswer taken (make (Read.accepted (TunneledDtls n) taken))
  disconnect : (taken : ℕ) → DisconnectAnswer taken (make (Read.accepted EndpointDisconnect taken))

module _ (octets : List ℕ) {make : Read.Answer → Answer} (a : Answering make) where
  abbrev n : ℕ
  n = number16_at octets 1

  abbrev body : List ℕ
  body = part octets header (header + n)

  abbrev type : ℕ
  type = octet_at octets 0

  of_version : type ≡ 2 → receiving octets ≡ reading octets
  of_version e = received_read octets (λ q. omega arith)

  of_unlisted : IsUnlisted type → receiving octets ≡ reading octets
  of_unlisted (inl e) = received_read octets (λ q. omega arith)
  of_unlisted (inr h) = received_read octets (λ q. omega arith)

  -- a whole message, by its kind
  abbrev AsRead : Read.Answer → Type 0
  AsRead r = receiving octets ≡ r

  received_kind : WholeAt octets → (kind : Kind) → kind_of type ≡ kind → AsRead (received octets (Frame.whole kind n))
  unfolding receiving
  received_kind w kind e = ap (received octets) (whole_framed octets w ∙ ap (λ (k : Kind). Frame.whole k n) e)

  bad_body : {most : ℕ} → 5 ≤ most → RefusedWith 5 most (3 + n) (make (Read.refused 5 (3 + n)))
  bad_body h = record { number = 5; from = omega arith; to = h; told = a.refusing 5 (3 + n) }

  -- what holds of the answer to a body, good or bad, holds of the answer to its message
  module _ (P : Answer → Type 0) (w : WholeAt octets) where
    abbrev OfBody : Content → Type 0
    OfBody c = P (make (body_answer (header + n) c))

    keys_message : type ≡ 3 → ((profile : ℕ) (k : KeyLengths) → P (make (Read.accepted (MediaKeys profile k) (3 + n)))) → P (make (Read.refused 5 (3 + n))) → P (make (receiving octets))
    unfolding kind_of
    keys_message e good bad = subst (λ r. P (make r)) (sym (received_kind w Kind.MediaKeys (ap kind_of e))) (keys_body OfBody bad body good)

    dtls_message : type ≡ 4 → ((m : ℕ) → 21 + m ≡ 3 + n → P (make (Read.accepted (TunneledDtls m) (3 + n)))) → P (make (Read.refused 5 (3 + n))) → P (make (receiving octets))
    unfolding kind_of
    dtls_message e good bad = subst (λ r. P (make r)) (sym (received_kind w Kind.TunneledDtls (ap kind_of e))) (dtls_body OfBody bad body (λ m d. good m (omega (arith, d.ends, body_length octets n w.there))))

    disconnect_message : type ≡ 5 → P (make (Read.accepted EndpointDisconnect (3 + n))) → P (make (Read.refused 5 (3 + n))) → P (make (receiving octets))
    unfolding kind_of
    disconnect_message e good bad = subst (λ r. P (make r)) (sym (received_kind w Kind.EndpointDisconnect (ap kind_of e))) (disconnect_body OfBody bad body good)

  -- more needed, or refusal 2, whatever the type is
  few_received : length octets < 3 → AsRead Read.more_needed
  unfolding receiving
  few_received h = ap (received octets) (sym (by_neither octets h))

  oversize_received : OfOther octets → 4096 < n → AsRead (Read.refused 2 0)
  unfolding receiving Frame.frame Frame.plain_frame
  oversize_received o h = simp (ne_eqb _ _ o.type, le-ltb _ _ o.header, lt-ltb _ _ h)

  awaited_received : OfOther octets → n ≤ 4096 → length octets < 3 + n → AsRead Read.more_needed
  unfolding receiving Frame.frame Frame.plain_frame
  awaited_received o l h = simp (ne_eqb _ _ o.type, le-ltb _ _ o.header, le-ltb _ _ l, lt-ltb _ _ h)

  profiles_received : WholeAt octets → type ≡ 1 → AsRead (Read.refused 4 (3 + n))
  unfolding kind_of
  profiles_received w e = received_kind w Kind.SupportedProfiles (ap kind_of e)

  receives_by_steps : ReceivesBySteps octets (make (receiving octets))
  receives_by_steps =
      let steps = reads_by_steps octets in
      record {
        few = λ h. ap make (few_received h) ∙ a.more;
        empty_version = λ v e. ap make (of_version v.type ∙ steps.empty_version v e) ∙ a.refusing 5 3;
        version_awaited = λ v m h. ap make (of_version v.type ∙ steps.version_awaited v m h) ∙ a.more;
        version = λ v m h. ap make (of_version v.type ∙ steps.version v m h) ∙ a.reporting (octet_at octets 3) (length octets);
        oversize = λ o h. ap make (oversize_received o h) ∙ a.refusing 2 0;
        awaited = λ o l h. ap make (awaited_received o l h) ∙ a.more;
        profiles = λ w e. ap make (profiles_received w e) ∙ a.refusing 4 (3 + n);
        unlisted = λ w u. ap make (of_unlisted u ∙ steps.unlisted w u) ∙ a.refusing 3 (3 + n);
        keys = λ w e. keys_message (KeysAnswer (3 + n)) w e (λ profile k. a.keys profile k (3 + n)) (inr (bad_body (omega arith)));
        dtls = λ w e. dtls_message (DtlsAnswer (3 + n)) w e (λ m e. a.dtls m (3 + n) e) (inr (bad_body (omega arith)));
        disconnect = λ w e. disconnect_message (DisconnectAnswer (3 + n)) w e (a.disconnect (3 + n)) (inr (bad_body (omega arith)));
      }

-- ---- the table

keys_refused : (a b c d : Bool) (endpoint taken : ℕ) → KeysAnswer taken (answered (refuse a 6 (refuse b 7 (refuse c 8 (refuse d 9 allowed)))) taken (keys_stored endpoint taken))
keys_refused true b c d endpoint taken = inr (record { number = 6; from = omega arith; to = omega arith; told = refl })
keys_refused false true c d endpoint taken = inr (record { number = 7; from = omega arith; to = omega arith; told = refl })
keys_refused false false true d endpoint taken = inr (record { number = 8; from = omega arith; to = omega arith; told = refl })
keys_refused false false false true endpoint taken = inr (record { number = 9; from = omega arith; to = omega arith; told = refl })
keys_refused false false false false endpoint taken = inl (record { endpoint = endpoint; told = refl })

-- refusal 6 where there is no record
unknown : (taken : ℕ) → RefusedWith 5 6 taken (refused 6 taken)
unknown taken = record { number = 6; from = omega arith; to = omega arith; told = refl }

delivered : (endpoint n taken : ℕ) → 21 + n ≡ taken → DtlsAnswer taken (delivery endpoint (dtls_bounds n) taken)
delivered endpoint n taken e = inl (record { endpoint = endpoint; dtls = dtls_bounds n; start = refl; end = e; told = refl })

gone : (endpoint taken : ℕ) → DisconnectAnswer taken (removed endpoint taken)
gone endpoint taken = inl (record { endpoint = endpoint; told = refl })

table_answering : (s octets : List ℕ) → Answering (read_answer s octets)
unfolding fields_answer keys_verdict
table_answering s octets =
    let identifier = part_in octets identifier_bounds in
    record {
      more = refl;
      refusing = λ number taken. refl;
      reporting = λ v taken. refl;
      keys = λ profile k taken. keys_refused (not (knows s identifier)) (not (in_list profile (list_of s))) (not (keys_fit profile k)) (not (mki_and_salts_fit k)) (endpoint_for s identifier) taken;
      dtls = λ m taken e. by_choice (DtlsAnswer taken) (knows s identifier) _ _ (λ _. delivered _ m taken e) (λ _. inr (unknown taken));
      disconnect = λ taken. by_choice (DisconnectAnswer taken) (knows s identifier) _ _ (λ _. gone _ taken) (λ _. inr (unknown taken));
    }

pub table_by_steps : (s octets : List ℕ) → up s ≡ true → ReceivesBySteps octets (octets_answer s octets)
unfolding octets_answer
table_by_steps s octets e = rw e (receives_by_steps octets (table_answering s octets))

-- ---- the cards

by_held : (P : Answer → Type 0) (held : Held) (taken : ℕ) (a : ℕ → Answer) → ((endpoint : ℕ) → P (a endpoint)) → P (refused 6 taken) → P (by_card held taken a)
by_held P blank taken a f u = u
by_held P (opened endpoint) taken a f u = f endpoint
by_held P (keyed endpoint k) taken a f u = f endpoint

cards_answering : (cards : Cards) (octets : List ℕ) → Answering (read_expected cards octets)
cards_answering cards octets =
    let held = (cards.card (part_in octets identifier_bounds)).held in
    record {
      more = refl;
      refusing = λ number taken. refl;
      reporting = λ v taken. refl;
      keys = λ profile k taken. by_held (KeysAnswer taken) held taken _ (λ endpoint.
          keys_refused false (not (in_list profile (list_in (tunnel_on cards)))) (not (keys_fit profile k)) (not (mki_and_salts_fit k)) endpoint taken)
          (inr (record { number = 6; from = omega arith; to = omega arith; told = refl }));
      dtls = λ m taken e. by_held (DtlsAnswer taken) held taken _ (λ endpoint. delivered endpoint m taken e) (inr (unknown taken));
      disconnect = λ taken. by_held (DisconnectAnswer taken) held taken _ (λ endpoint. gone endpoint taken) (inr (unknown taken));
    }

pub cards_by_steps : (cards : Cards) (octets : List ℕ) → is_up (tunnel_on cards) ≡ true → ReceivesBySteps octets (expected cards (Call.tunnel_octets octets))
unfolding expected
cards_by_steps cards octets e = rw (e, ← expected_reads cards octets) (receives_by_steps octets (cards_answering cards octets))
