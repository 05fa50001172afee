-- MediaKeys is read back: its seven fields stand one behind the other in its body.
use Prim.Native.Nat.{ℕ, ◌+◌, ◌≤◌}
use mathlib.Core.Path.{◌≡◌, refl}
use mathlib.Core.List.{List, [], ◌++◌, append-nil, append_assoc}
use native.Mathlib.Omega.{arith}
use lib.ListN.{length, length-append}
use borrow.Author.Tests.{eqb-true}
use Rattle.octets.specs.Number.{octets16}
use Rattle.message.specs.Limits.{width, most16}
use Rattle.message.specs.Message.{Message, vector8, encode_body, media_keys}
use Rattle.message.specs.Frame.{kind_of}
use Rattle.message.specs.Body as Body
use Rattle.message.specs.Parts.{identifier_bounds, key_bounds, meaning}
use Rattle.message.specs.Claims.{ReadsBack}
use Rattle.message.specs.declared.bodies.Fields.TheVariants.{MediaKeys}
use Rattle.message.specs.Keys.{KeyLengths}
use Rattle.octets.proofs.HoldLaws.{holds_all, holds_two, holds_number}
use Rattle.message.proofs.WalkLaws.{fixed_good, field8_good, complete_good}
use Rattle.message.proofs.AnswerLaws.{Fits}
use Rattle.message.proofs.KeyFields.{keys_fit_lem}
use Rattle.message.proofs.EncodeLaws.{lent_part, reads_back}

-- seven pieces, each before all that follow
grouped : (i o a b c d e : List ℕ) → i ++ o ++ a ++ b ++ c ++ d ++ e ≡ i ++ (o ++ (a ++ (b ++ (c ++ (d ++ (e ++ []))))))
grouped i o a b c d e = simp (append_assoc, append-nil)

module _ (identifier : List ℕ) (profile : ℕ) (mki client_key server_key client_salt server_salt rest : List ℕ) where
  abbrev keys : Message
  keys = media_keys identifier profile mki client_key server_key client_salt server_salt

  abbrev lengths : KeyLengths
  lengths = record {
    mki = length mki;
    client_key = length client_key;
    server_key = length server_key;
    client_salt = length client_salt;
    server_salt = length server_salt;
  }

  pub keys_back : {room : ℕ} → profile ≤ most16 → Fits keys room → ReadsBack keys rest
  unfolding kind_of Body.content Body.media_keys meaning
  keys_back number accepted =
      let body = encode_body keys in
      let wide : length identifier ≡ width = eqb-true _ _ accepted.identifier in
      let fit = keys_fit_lem (length mki) (length client_key) (length server_key) (length client_salt) (length server_salt) accepted.fields in
      -- what stands behind each field
      let t5 = vector8 server_salt ++ [] in
      let t4 = vector8 client_salt ++ t5 in
      let t3 = vector8 server_key ++ t4 in
      let t2 = vector8 client_key ++ t3 in
      let t1 = vector8 mki ++ t2 in
      -- the fields, one by one
      let all = grouped identifier (octets16 profile) (vector8 mki) (vector8 client_key) (vector8 server_key) (vector8 client_salt) (vector8 server_salt) in
      let i = holds_two identifier (octets16 profile ++ t1) (holds_all body all) width (omega arith) in
      let o = holds_two (octets16 profile) t1 i.1 (width + 2) refl in
      let a = field8_good mki t2 0 o.1 fit.mki.0 in
      let b = field8_good client_key t3 1 a.next fit.client_key.0 in
      let c = field8_good server_key t4 1 b.next fit.server_key.0 in
      let d = field8_good client_salt t5 1 c.next fit.client_salt.0 in
      let e = field8_good server_salt [] 1 d.next fit.server_salt.0 in
      let end = width + 2 + (1 + length mki) + (1 + length client_key) + (1 + length server_key) + (1 + length client_salt) + (1 + length server_salt) in
      let bounds = key_bounds lengths in
      reads_back keys rest (λ z. omega arith) accepted.limit (MediaKeys profile lengths) refl
      (simp (
        fixed_good i.0 width wide,
        fixed_good o.0 2 refl,
        a.walk,
        b.walk,
        c.walk,
        d.walk,
        e.walk,
        complete_good body end (simp length-append (omega arith)),
        holds_number profile [] o.0 (omega arith),
        a.says,
        b.says,
        c.says,
        d.says,
        e.says,
      ))
      (simp (
        lent_part keys rest identifier_bounds i.0 refl (omega arith),
        lent_part keys rest bounds.mki a.held (omega arith) refl,
        lent_part keys rest bounds.client_key b.held (omega arith) refl,
        lent_part keys rest bounds.server_key c.held (omega arith) refl,
        lent_part keys rest bounds.client_salt d.held (omega arith) refl,
        lent_part keys rest bounds.server_salt e.held (omega arith) refl,
      ))
