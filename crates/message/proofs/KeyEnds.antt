-- MediaKeys by one test: its walk goes past every field exactly where none is too short and the last one ends the body.
use Prim.Native.Nat.{ℕ, ◌+◌, ◌<◌}
use mathlib.Core.Path.{◌≡◌, refl, sym, ◌∙◌}
use mathlib.Core.Bool.{Bool, true, false, cond, ◌&&◌}
use mathlib.Core.List.{List}
use native.Mathlib.Omega.{arith}
use lib.ListN.{length}
use lib.Dec.{leb, eqb}
use borrow.Author.Tests.{le-leb, leb-true, eq-eqb, ne_eqb, eqb-true}
use Rattle.octets.specs.Number.{octet_at, number16_at}
use Rattle.octets.proofs.Tests.{by_choice, both, false_true}
use Rattle.message.specs.Limits.{width}
use Rattle.message.specs.Walk.{begin, fixed, field8, complete}
use Rattle.message.specs.Body.{Content, fields, refused, media_keys}
use Rattle.message.specs.declared.bodies.Fields.TheVariants.{MediaKeys}
use Rattle.message.proofs.WalkLaws.{complete_good}
use Rattle.message.proofs.WalkSays.{complete_says}
use Rattle.message.proofs.WalkEnds.{IsAt, fixed_goes, field8_goes, fixed_is_at, field8_says}

module _ (body : List ℕ) where
  abbrev client_key_at : ℕ
  client_key_at = width + 3 + octet_at body (width + 2)

  abbrev server_key_at : ℕ
  server_key_at = client_key_at + 1 + octet_at body client_key_at

  abbrev client_salt_at : ℕ
  client_salt_at = server_key_at + 1 + octet_at body server_key_at

  abbrev server_salt_at : ℕ
  server_salt_at = client_salt_at + 1 + octet_at body client_salt_at

  abbrev end : ℕ
  end = server_salt_at + 1 + octet_at body server_salt_at

  abbrev has_client_key : Bool
  has_client_key = leb 1 (octet_at body client_key_at)

  abbrev has_server_key : Bool
  has_server_key = leb 1 (octet_at body server_key_at)

  abbrev has_client_salt : Bool
  has_client_salt = leb 1 (octet_at body client_salt_at)

  abbrev has_server_salt : Bool
  has_server_salt = leb 1 (octet_at body server_salt_at)

  abbrev some : Bool
  some = has_client_key && has_server_key && has_client_salt && has_server_salt

  abbrev told : Content
  told =
      fields (MediaKeys (number16_at body width) (record {
        mki = octet_at body (width + 2);
        client_key = octet_at body client_key_at;
        server_key = octet_at body server_key_at;
        client_salt = octet_at body client_salt_at;
        server_salt = octet_at body server_salt_at;
      }))

  goes : some ≡ true → end ≡ length body → media_keys body ≡ told
  unfolding media_keys
  goes t e =
      let c = both (has_client_key && has_server_key && has_client_salt) has_server_salt t in
      let b = both (has_client_key && has_server_key) has_client_salt c.0 in
      let a = both has_client_key has_server_key b.0 in
      rw (
        fixed_goes body width 0 width (omega arith) (omega arith),
        fixed_goes body 2 width (width + 2) (omega arith) (omega arith),
        field8_goes body 0 (width + 2) client_key_at (omega arith) (omega arith) (omega arith),
        field8_goes body 1 client_key_at server_key_at (leb-true _ _ a.0) refl (omega arith),
        field8_goes body 1 server_key_at client_salt_at (leb-true _ _ a.1) refl (omega arith),
        field8_goes body 1 client_salt_at server_salt_at (leb-true _ _ b.1) refl (omega arith),
        field8_goes body 1 server_salt_at end (leb-true _ _ c.1) refl (omega arith),
        complete_good body end e,
      )

  -- a walk that is complete went past every field
  says : (let w = field8 body 0 (fixed body 2 (fixed body width begin)) in
      complete body (field8 body 1 (field8 body 1 (field8 body 1 (field8 body 1 w)))) ≡ true) → (some && eqb end (length body)) ≡ true
  says h =
      let w1 = fixed body width begin in
      let w2 = fixed body 2 w1 in
      let w3 = field8 body 0 w2 in
      let w4 = field8 body 1 w3 in
      let w5 = field8 body 1 w4 in
      let w6 = field8 body 1 w5 in
      let s2 : IsAt w2 (width + 2) = fixed_is_at body 2 width w1 (fixed_is_at body width 0 begin (λ _. refl)) in
      let s3 : IsAt w3 client_key_at = λ g. (field8_says body 0 (width + 2) w2 s2 g).offset ∙ omega arith in
      let s4 : IsAt w4 server_key_at = λ g. (field8_says body 1 client_key_at w3 s3 g).offset in
      let s5 : IsAt w5 client_salt_at = λ g. (field8_says body 1 server_key_at w4 s4 g).offset in
      let s6 : IsAt w6 server_salt_at = λ g. (field8_says body 1 client_salt_at w5 s5 g).offset in
      let e = complete_says body (field8 body 1 w6) h in
      let f6 = field8_says body 1 server_salt_at w6 s6 e.0 in
      let f5 = field8_says body 1 client_salt_at w5 s5 f6.before in
      let f4 = field8_says body 1 server_key_at w4 s4 f5.before in
      let f3 = field8_says body 1 client_key_at w3 s3 f4.before in
      rw (le-leb _ _ f3.some, le-leb _ _ f4.some, le-leb _ _ f5.some, le-leb _ _ f6.some, eq-eqb end (length body) (sym f6.offset ∙ e.1))

  stops : (some && eqb end (length body)) ≡ false → media_keys body ≡ refused 5
  unfolding media_keys
  stops n = by_choice (λ (x : Content). x ≡ refused 5) _ _ _ (λ t. absurd (false_true (sym n ∙ says t))) (λ _. refl)

  pub one_test : media_keys body ≡ cond (some && eqb end (length body)) told (refused 5)
  one_test = go (some && eqb end (length body)) refl
    where
      go : (b : Bool) → (some && eqb end (length body)) ≡ b → media_keys body ≡ cond b told (refused 5)
      go true h =
          let p = both some (eqb end (length body)) h in
          goes p.0 (eqb-true _ _ p.1)
      go false h = stops h

  -- where the last field would end behind the body: so where any length octet stands behind it
  pub beyond : length body < end → media_keys body ≡ refused 5
  beyond h = stops (rw (ne_eqb end (length body) (λ e. omega (arith, e))) (both_false some))
    where
      both_false : (b : Bool) → (b && false) ≡ false
      both_false true = refl
      both_false false = refl
