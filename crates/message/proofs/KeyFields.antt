-- What it says of the five fields of MediaKeys that they fit.
use Prim.Native.Nat.{ℕ, ◌≤◌}
use mathlib.Core.Path.{◌≡◌}
use mathlib.Core.Bool.{true}
use mathlib.Core.List.{List}
use lib.ListN.{length}
use Rattle.octets.specs.Range.{within}
use Rattle.octets.proofs.Tests.{both}
use Rattle.octets.proofs.RangeLaws.{within_true}
use Rattle.message.specs.Limits.{most8}
use Rattle.message.specs.Message.{media_keys}
use Rattle.message.specs.Write.{key_fields_fit, writing, written}
use Rattle.message.proofs.AnswerLaws.{written_says}

-- each has its least and no more octets than its length octet can tell
pub record KeyFields (m ck sk cs ss : ℕ) : Type 0 where
  pub mki : (0 ≤ m) × (m ≤ most8)
  pub client_key : (1 ≤ ck) × (ck ≤ most8)
  pub server_key : (1 ≤ sk) × (sk ≤ most8)
  pub client_salt : (1 ≤ cs) × (cs ≤ most8)
  pub server_salt : (1 ≤ ss) × (ss ≤ most8)

pub keys_fit_lem : (m ck sk cs ss : ℕ) → key_fields_fit m ck sk cs ss ≡ true → KeyFields m ck sk cs ss
keys_fit_lem m ck sk cs ss h =
    let e = both _ (within 1 most8 ss) h in
    let d = both _ (within 1 most8 cs) e.0 in
    let c = both _ (within 1 most8 sk) d.0 in
    let b = both (within 0 most8 m) (within 1 most8 ck) c.0 in
    record {
      mki = within_true 0 most8 _ b.0;
      client_key = within_true 1 most8 _ b.1;
      server_key = within_true 1 most8 _ c.1;
      client_salt = within_true 1 most8 _ d.1;
      server_salt = within_true 1 most8 _ e.1;
    }

module _ (i : List ℕ) (p : ℕ) (m ck sk cs ss : List ℕ) (room : ℕ) where
  pub keys_written : {count : ℕ} → writing (media_keys i p m ck sk cs ss) room ≡ written count
      → KeyFields (length m) (length ck) (length sk) (length cs) (length ss)
  keys_written e =
      keys_fit_lem (length m) (length ck) (length sk) (length cs) (length ss)
      (written_says (media_keys i p m ck sk cs ss) room e).1.fields
