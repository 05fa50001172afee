-- What is written is read back as the same message, whatever octets stand behind it.
use Prim.Native.Nat.{ℕ, ◌+◌, ◌≤◌}
use mathlib.Core.Path.{◌≡◌, refl, sym}
use mathlib.Core.List.{List, [], ◌∷◌, ◌++◌}
use native.Mathlib.Omega.{arith}
use lib.ListN.{length, length-append}
use borrow.Author.Tests.{le-ltb, eqb-true}
use Rattle.octets.specs.Number.{number16_at}
use Rattle.octets.specs.Range.{within}
use Rattle.octets.proofs.Tests.{both}
use Rattle.octets.proofs.RangeLaws.{within_true}
use Rattle.message.specs.Limits.{width, header, most16}
use Rattle.message.specs.Message.{Message, supported_profiles, unsupported_version, media_keys, tunneled_dtls, endpoint_disconnect, vector16, encode, encode_body}
use Rattle.message.specs.Frame.{kind_of, frame, version_frame}
use Rattle.message.specs.Body as Body
use Rattle.message.specs.Read.{reading}
use Rattle.message.specs.Parts.{identifier_bounds, list_bounds, dtls_bounds, meaning}
use Rattle.message.specs.Write.{writing, written}
use Rattle.message.specs.Claims.{Numbers, ReadsBack}
use Rattle.message.specs.declared.bodies.Fields.TheVariants.{SupportedProfiles, UnsupportedVersion, TunneledDtls, EndpointDisconnect}
use Rattle.octets.proofs.HoldLaws.{holds_all, holds_two}
use Rattle.message.proofs.WalkLaws.{fixed_good, field16_good, complete_good}
use Rattle.message.proofs.AnswerLaws.{Fits, written_says}
use Rattle.message.proofs.EncodeLaws.{lent_part, reads_back}
use Rattle.message.proofs.KeysBack.{keys_back}

-- ---- message by message

version_back : (version : ℕ) (rest : List ℕ) → ReadsBack (unsupported_version version) rest
unfolding reading frame version_frame encode number16_at meaning
version_back version rest =
    let m = unsupported_version version in
    let there : (k : ℕ) → k ≤ 1 → header + k ≤ length (encode m ++ rest) = λ k h. omega arith in
    record {
      fields = UnsupportedVersion version;
      answer = simp (le-ltb _ _ (there 0 (omega arith)), le-ltb _ _ (there 1 (omega arith)));
      means = refl;
    }

profiles_back : (version : ℕ) (profiles rest : List ℕ) {room : ℕ} → Fits (supported_profiles version profiles) room
    → ReadsBack (supported_profiles version profiles) rest
unfolding kind_of Body.content Body.supported_profiles meaning
profiles_back version profiles rest a =
    let m = supported_profiles version profiles in
    let body = encode_body m in
    let fit = both (within 1 most16 (length profiles)) _ a.fields in
    let n = within_true 1 most16 (length profiles) fit.0 in
    let h = holds_two (version ∷ []) (vector16 profiles) (holds_all body refl) 1 refl in
    let f = field16_good profiles h.1 n.0 n.1 in
    reads_back m rest (λ e. omega arith) a.limit (SupportedProfiles version (length profiles)) refl
    (simp (fixed_good h.0 1 refl, f.list (eqb-true _ _ fit.1), f.says, complete_good body (1 + (2 + length profiles)) (omega arith)))
    (rw (lent_part m rest (list_bounds (length profiles)) f.held refl refl))

dtls_back : (identifier dtls rest : List ℕ) {room : ℕ} → Fits (tunneled_dtls identifier dtls) room → ReadsBack (tunneled_dtls identifier dtls) rest
unfolding kind_of Body.content Body.tunneled_dtls meaning
dtls_back identifier dtls rest a =
    let m = tunneled_dtls identifier dtls in
    let body = encode_body m in
    let wide : length identifier ≡ width = eqb-true _ _ a.identifier in
    let n = within_true 1 most16 (length dtls) a.fields in
    let h = holds_two identifier (vector16 dtls) (holds_all body refl) width (omega arith) in
    let f = field16_good dtls h.1 n.0 n.1 in
    reads_back m rest (λ e. omega arith) a.limit (TunneledDtls (length dtls)) refl
    (simp (fixed_good h.0 width wide, f.walk, f.says, complete_good body (width + (2 + length dtls)) (simp length-append (omega arith))))
    (rw (lent_part m rest identifier_bounds h.0 refl (omega arith), lent_part m rest (dtls_bounds (length dtls)) f.held refl refl))

disconnect_back : (identifier rest : List ℕ) {room : ℕ} → Fits (endpoint_disconnect identifier) room → ReadsBack (endpoint_disconnect identifier) rest
unfolding kind_of Body.content Body.endpoint_disconnect meaning
disconnect_back identifier rest a =
    let m = endpoint_disconnect identifier in
    let wide : length identifier ≡ width = eqb-true _ _ a.identifier in
    let h = holds_all identifier refl in
    reads_back m rest (λ e. omega arith) a.limit EndpointDisconnect refl
    (simp (fixed_good h width wide, complete_good identifier width (sym wide)))
    (rw (lent_part m rest identifier_bounds h refl (omega arith)))

-- ---- the theorem

back : (m : Message) (rest : List ℕ) {room : ℕ} → Numbers m → Fits m room → ReadsBack m rest
back (supported_profiles version profiles) rest n a = profiles_back version profiles rest a
back (unsupported_version version) rest n a = version_back version rest
back (media_keys identifier profile mki client_key server_key client_salt server_salt) rest n a =
    keys_back identifier profile mki client_key server_key client_salt server_salt rest n a
back (tunneled_dtls identifier dtls) rest n a = dtls_back identifier dtls rest a
back (endpoint_disconnect identifier) rest n a = disconnect_back identifier rest a

pub written_reads_back : (m : Message) (room count : ℕ) (rest : List ℕ) → Numbers m → writing m room ≡ written count → ReadsBack m rest
written_reads_back m room count rest n e = back m rest n (written_says m room e).1
