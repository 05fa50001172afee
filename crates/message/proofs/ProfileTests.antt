-- The tests of Profiles say what they mean.
use Prim.Native.Nat.{ℕ, zero, suc, ◌+◌, ◌*◌, ◌≤◌, ◌<◌}
use mathlib.Core.Path.{◌≡◌, refl, sym, ap, ap₂, ◌∙◌}
use mathlib.Core.Logic.{◌↔◌, ◌⊎◌, inl, inr, ⊎_elim}
use mathlib.Core.Bool.{Bool, true, false, ◌&&◌, ◌||◌, or-true}
use mathlib.Core.List.{List, [], ◌∷◌}
use native.Mathlib.Omega.{arith}
use lib.ListN.{length, length-take}
use lib.Dec.{leb, eqb}
use borrow.Author.Tests.{eq-eqb, eqb-true, le-leb, leb-true}
use Rattle.octets.specs.Number.{octet_at, Octets}
use Rattle.octets.specs.Part.{part}
use Rattle.octets.specs.Bounds.{part_in}
use Rattle.octets.proofs.Tests.{by_choice, both, false_true}
use Rattle.message.specs.Limits.{mki_limit, salt_limit}
use Rattle.message.specs.Profiles as Profiles
use Rattle.message.specs.Profiles.{key_length, entries, member}
use Rattle.message.specs.Read.{accepted, reading}
use Rattle.message.specs.Parts.{identifier_bounds, key_bounds, meaning}
use Rattle.message.specs.Claims.{WritesBack}
use Rattle.message.specs.ProfileTests.{EntryOf, KeysOf, ProfileTests}
use Rattle.message.specs.declared.bodies.Fields.TheVariants.{MediaKeys}
use Rattle.message.specs.Keys.{KeyLengths}
use Rattle.message.proofs.KeyFields.{keys_written}
use Rattle.message.proofs.ReadSays.{reading_says}

-- ---- 7: an entry of a list

either : (a b : Bool) → (a || b) ≡ true → (a ≡ true) ⊎ (b ≡ true)
either true b h = inl refl
either false b h = inr h

-- the number that two octets of a list tell
abbrev told : List ℕ → ℕ → ℕ → ℕ
told list i j = octet_at list i * 256 + octet_at list j

told_next : (x y : ℕ) (l : List ℕ) (which : ℕ) → told (x ∷ y ∷ l) (2 * suc which) (2 * suc which + 1) ≡ told l (2 * which) (2 * which + 1)
told_next x y l which =
    let first : 2 * suc which ≡ suc (suc (2 * which)) = omega arith in
    let second : 2 * suc which + 1 ≡ suc (suc (2 * which + 1)) = omega arith in
    ap₂ (told (x ∷ y ∷ l)) first second

entry_in : (profile : ℕ) (list : List ℕ) (which : ℕ) → 2 * which + 1 < length list → told list (2 * which) (2 * which + 1) ≡ profile
    → member profile (entries list) ≡ true
unfolding entries
entry_in profile [] which h e = absurd (omega arith)
entry_in profile (x ∷ []) which h e = absurd (omega arith)
entry_in profile (x ∷ y ∷ l) zero h e = rw (eq-eqb _ _ e)
entry_in profile (x ∷ y ∷ l) (suc which) h e =
    rw (entry_in profile l which (omega arith) (sym (told_next x y l which) ∙ e)) (or-true (eqb (x * 256 + y) profile))

entry_next : (x y : ℕ) {profile : ℕ} {l : List ℕ} → EntryOf l profile → EntryOf (x ∷ y ∷ l) profile
entry_next x y {profile} {l} e = record { which = suc e.which; there = omega arith; told = told_next x y l e.which ∙ e.told }

entry_of : (profile : ℕ) (list : List ℕ) → member profile (entries list) ≡ true → EntryOf list profile
unfolding entries
entry_of profile [] h = absurd (false_true h)
entry_of profile (x ∷ []) h = absurd (false_true h)
entry_of profile (x ∷ y ∷ l) h =
    ⊎_elim (λ e. record { which = 0; there = omega arith; told = eqb-true _ _ e }) (λ e. entry_next x y (entry_of profile l e))
    (either (eqb (x * 256 + y) profile) (member profile (entries l)) h)

in_list_means : (profile : ℕ) (list : List ℕ) → (Profiles.in_list profile list ≡ true) ↔ EntryOf list profile
unfolding Profiles.in_list
in_list_means profile list = (entry_of profile list, λ e. entry_in profile list e.which e.there e.told)

-- ---- 8: both keys have the profile's length

module _ (profile : ℕ) (k : KeyLengths) where
  -- by the length of the profile's keys
  abbrev Fitting : ℕ → Type 0
  Fitting n = k.client_key ≡ n → k.server_key ≡ n → KeysOf profile k

  by_length : 1 ≤ k.client_key → Fitting (key_length profile)
  unfolding key_length
  by_length some =
      by_choice Fitting (eqb profile 0x0009) _ _ (λ e c s. inl (eqb-true _ _ e, c, s)) (λ _.
      by_choice Fitting (eqb profile 0x000A) _ _ (λ e c s. inr (eqb-true _ _ e, c, s)) (λ _ c s. absurd (omega arith)))

  fits : (n : ℕ) → key_length profile ≡ n → k.client_key ≡ n → k.server_key ≡ n → Profiles.keys_fit profile k ≡ true
  unfolding Profiles.keys_fit
  fits n e c s = rw (e, eq-eqb _ _ c, eq-eqb _ _ s)

  of_keys : KeysOf profile k → Profiles.keys_fit profile k ≡ true
  unfolding key_length
  of_keys (inl (p, c, s)) = fits 16 (ap key_length p) c s
  of_keys (inr (p, c, s)) = fits 32 (ap key_length p) c s

  keys_mean : 1 ≤ k.client_key → (Profiles.keys_fit profile k ≡ true) ↔ KeysOf profile k
  unfolding Profiles.keys_fit
  keys_mean some = (
    λ h.
        let b = both (eqb k.client_key (key_length profile)) (eqb k.server_key (key_length profile)) h in
        by_length some (eqb-true _ _ b.0) (eqb-true _ _ b.1),
    of_keys,
  )

-- a key that was read has an octet
part_most : (s : List ℕ) (at n : ℕ) → length (part s at (at + n)) ≤ n
unfolding part
part_most s at n = simp length-take (omega arith)

key_read : (s : List ℕ) → Octets s → (profile : ℕ) (k : KeyLengths) (taken : ℕ) → reading s ≡ accepted (MediaKeys profile k) taken → 1 ≤ k.client_key
unfolding meaning
key_read s o profile k taken e =
    let back : WritesBack s (MediaKeys profile k) taken = rw e at (reading_says s o) in
    let p = key_bounds k in
    let fit = keys_written (part_in s identifier_bounds) profile (part_in s p.mki) (part_in s p.client_key) (part_in s p.server_key)
    (part_in s p.client_salt) (part_in s p.server_salt) taken (back.answer taken (omega arith)) in
    omega (arith, fit.client_key, part_most s p.client_key.start k.client_key)

-- ---- 9: the MKI and the salts

mki_and_salts_mean : (k : KeyLengths) → (Profiles.mki_and_salts_fit k ≡ true) ↔ ((k.mki ≤ 16) × (k.client_salt ≤ 32) × (k.server_salt ≤ 32))
unfolding Profiles.mki_and_salts_fit
mki_and_salts_mean k = (
  λ h.
      let a = both (leb k.mki mki_limit && leb k.client_salt salt_limit) (leb k.server_salt salt_limit) h in
      let b = both (leb k.mki mki_limit) (leb k.client_salt salt_limit) a.0 in
      (leb-true _ _ b.0, leb-true _ _ b.1, leb-true _ _ a.1),
  λ h. rw (le-leb _ _ h.0, le-leb _ _ h.1, le-leb _ _ h.2),
)

pub profile_tests : ProfileTests
profile_tests = record {
  in_list = in_list_means;
  keys_fit = keys_mean;
  keys_read = λ s o profile k taken e. keys_mean profile k (key_read s o profile k taken e);
  mki_and_salts_fit = mki_and_salts_mean;
}
