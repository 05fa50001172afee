-- Key fields that pass the tests have room in a row.
use Prim.Native.Nat.{ℕ, ◌+◌, ◌≤◌}
use mathlib.Core.Path.{◌≡◌}
use mathlib.Core.Bool.{true, ◌&&◌}
use mathlib.Core.List.{List}
use native.Mathlib.Omega.{arith}
use borrow.Author.Tests.{eqb-true, leb-true}
use lib.Dec.{eqb, leb}
use lib.ListN.{length, length-take}
use Rattle.octets.specs.Part.{part}
use Rattle.octets.proofs.Tests.{both, by_choice}
use Rattle.message.specs.Limits.{mki_limit, salt_limit}
use Rattle.message.specs.Profiles.{key_length, keys_fit, mki_and_salts_fit}
use Rattle.message.specs.Keys.{KeyLengths}
use Rattle.rules.specs.Limits.{key_limit}
use Rattle.rules.specs.Keys.{keys_in}
use Rattle.rules.proofs.RowLaws.{Roomy}

pub part_room : (s : List ℕ) (a n : ℕ) {most : ℕ} → n ≤ most → length (part s a (a + n)) ≤ most
unfolding part
part_room s a n h = simp length-take (omega arith)

pub key_length_room : (p : ℕ) → key_length p ≤ key_limit
unfolding key_length
key_length_room p =
    by_choice (λ n. n ≤ key_limit) (eqb p _) _ _ (λ _. omega arith) (λ _. by_choice (λ n. n ≤ key_limit) (eqb p _) _ _ (λ _. omega arith) (λ _. omega arith))

pub keys_room : (s : List ℕ) (profile : ℕ) (k : KeyLengths) → keys_fit profile k ≡ true → mki_and_salts_fit k ≡ true → Roomy (keys_in s profile k)
unfolding keys_fit mki_and_salts_fit keys_in
keys_room s profile k h g =
    let a = both (eqb k.client_key (key_length profile)) (eqb k.server_key (key_length profile)) h in
    let b = both (leb k.mki mki_limit && leb k.client_salt salt_limit) (leb k.server_salt salt_limit) g in
    let c = both (leb k.mki mki_limit) (leb k.client_salt salt_limit) b.0 in
    let c1 : k.client_key ≡ key_length profile = eqb-true _ _ a.0 in
    let s1 : k.server_key ≡ key_length profile = eqb-true _ _ a.1 in
    record {
      mki = part_room s _ k.mki (leb-true _ _ c.0);
      client_key = part_room s _ k.client_key (rw c1 (key_length_room profile));
      server_key = part_room s _ k.server_key (rw s1 (key_length_room profile));
      client_salt = part_room s _ k.client_salt (leb-true _ _ c.1);
      server_salt = part_room s _ k.server_salt (leb-true _ _ b.1);
    }
