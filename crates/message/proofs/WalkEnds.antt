-- Steps of a walk by where the field ends: they go past it, and what a good one says. SupportedProfiles by where its list ends, TunneledDtls and EndpointDisconnect by their lengths.
use Prim.Native.Nat.{ℕ, ◌+◌, ◌%◌, ◌≤◌, ◌<◌}
use mathlib.Core.Path.{◌≡◌, refl, sym, ap, ◌∙◌}
use mathlib.Core.Bool.{Bool, true, false, ◌&&◌}
use mathlib.Core.List.{List}
use native.Mathlib.Omega.{arith}
use lib.ListN.{length}
use lib.Dec.{leb, eqb}
use borrow.Author.Tests.{le-leb, leb-true}
use Rattle.octets.specs.Number.{octet_at, number16_at}
use Rattle.octets.proofs.Tests.{by_choice}
use Rattle.message.specs.Limits.{width}
use Rattle.message.specs.Walk.{Walk, begin, walk_at, past, fixed, field8, field16, profile_list}
use Rattle.message.specs.Body.{Content, fields, refused, supported_profiles, tunneled_dtls, endpoint_disconnect}
use Rattle.message.specs.declared.bodies.Fields.TheVariants.{SupportedProfiles, TunneledDtls, EndpointDisconnect}
use Rattle.message.proofs.WalkLaws.{past_good, complete_good}
use Rattle.message.proofs.WalkSays.{past_says, complete_says}

-- the offset of a walk that is good
abbrev pub IsAt : Walk → ℕ → Type 0
IsAt w at = w.good ≡ true → w.at ≡ at

module _ (body : List ℕ) where
  -- ---- past a field

  pub fixed_goes : (n at to : ℕ) → at + n ≡ to → to ≤ length body → fixed body n (walk_at true at) ≡ walk_at true to
  unfolding fixed
  fixed_goes n at to e k = past_good (length body) n at (omega arith) ∙ ap (walk_at true) e

  pub field8_goes : (least at to : ℕ) → least ≤ octet_at body at → at + 1 + octet_at body at ≡ to → to ≤ length body
      → field8 body least (walk_at true at) ≡ walk_at true to
  unfolding field8
  field8_goes least at to h e k = rw (le-leb _ _ h) (past_good (length body) (1 + octet_at body at) at (omega arith) ∙ ap (walk_at true) (omega arith))

  field16_goes : (at to : ℕ) → 1 ≤ number16_at body at → at + 2 + number16_at body at ≡ to → to ≤ length body
      → field16 body (walk_at true at) ≡ walk_at true to
  unfolding field16
  field16_goes at to h e k = rw (le-leb _ _ h) (past_good (length body) (2 + number16_at body at) at (omega arith) ∙ ap (walk_at true) (omega arith))

  -- ---- what a good step says

  pub fixed_is_at : (n at : ℕ) (w : Walk) → IsAt w at → IsAt (fixed body n w) (at + n)
  unfolding fixed
  fixed_is_at n at w s g =
      let p = past_says (length body) true n w g in
      p.offset ∙ ap (λ (i : ℕ). i + n) (s p.before)

  pub record Field8 (least at : ℕ) (w : Walk) : Type 0 where
    pub before : w.good ≡ true
    pub some : least ≤ octet_at body at
    pub offset : (field8 body least w).at ≡ at + 1 + octet_at body at

  pub field8_says : (least at : ℕ) (w : Walk) → IsAt w at → (field8 body least w).good ≡ true → Field8 least at w
  unfolding field8
  field8_says least at w s g =
      let p = past_says (length body) (leb least (octet_at body w.at)) (1 + octet_at body w.at) w g in
      let e = s p.before in
      record { before = p.before; some = leb-true _ _ (rw e at p.test); offset = p.offset ∙ (rw e (omega arith)) }

  field16_says : (at : ℕ) (w : Walk) → IsAt w at → (field16 body w).good ≡ true
      → (1 ≤ number16_at body at) × ((field16 body w).at ≡ at + 2 + number16_at body at)
  unfolding field16
  field16_says at w s g =
      let p = past_says (length body) (leb 1 (number16_at body w.at)) (2 + number16_at body w.at) w g in
      let e = s p.before in
      (leb-true _ _ (rw e at p.test), p.offset ∙ (rw e (omega arith)))

  -- ---- TunneledDtls

  identified : IsAt (fixed body width begin) width
  identified = fixed_is_at width 0 begin (λ _. refl)

  pub dtls_whole : width + 2 < length body → width + 2 + number16_at body width ≡ length body → tunneled_dtls body ≡ fields (TunneledDtls (number16_at body width))
  unfolding tunneled_dtls
  dtls_whole h e =
      rw (
        fixed_goes width 0 width (omega arith) (omega arith),
        field16_goes width (width + 2 + number16_at body width) (omega arith) refl (omega arith),
        complete_good body (width + 2 + number16_at body width) e,
      )

  -- a body that ends elsewhere, or with the length
  pub dtls_bad : (1 ≤ number16_at body width → width + 2 + number16_at body width ≡ length body → ⊥) → tunneled_dtls body ≡ refused 5
  unfolding tunneled_dtls
  dtls_bad n =
      by_choice (λ (x : Content). x ≡ refused 5) _ _ _ (λ t.
      let e = complete_says body (field16 body (fixed body width begin)) t in
      let f = field16_says width (fixed body width begin) identified e.0 in
      absurd (n f.0 (sym f.1 ∙ e.1))) (λ _. refl)

  -- ---- SupportedProfiles

  pub stands_still : (at : ℕ) → profile_list body (walk_at false at) ≡ walk_at false at
  unfolding profile_list past
  stands_still at = refl

  version_at : (profile_list body (fixed body 1 begin)).good ≡ true → (fixed body 1 begin).at ≡ 1
  unfolding profile_list
  version_at g =
      let w = fixed body 1 begin in
      let n = number16_at body w.at in
      fixed_is_at 1 0 begin (λ _. refl) (past_says (length body) (leb 1 n && eqb (n % 2) 0) (2 + n) w g).before

  pub profiles_whole : profile_list body (fixed body 1 begin) ≡ walk_at true (length body)
      → fields (SupportedProfiles (octet_at body 0) (number16_at body 1)) ≡ supported_profiles body
  unfolding supported_profiles
  profiles_whole e = rw (e, complete_good body (length body) refl, version_at (ap (λ (w : Walk). w.good) e)) refl

  pub profiles_bad : (profile_list body (fixed body 1 begin) ≡ walk_at true (length body) → ⊥) → refused 5 ≡ supported_profiles body
  unfolding supported_profiles
  profiles_bad n =
      by_choice (λ (x : Content). refused 5 ≡ x) _ _ _ (λ t.
      let e = complete_says body (profile_list body (fixed body 1 begin)) t in
      absurd (n (ap (λ (b : Bool). walk_at b (profile_list body (fixed body 1 begin)).at) e.0 ∙ ap (walk_at true) e.1))) (λ _. refl)

  -- ---- EndpointDisconnect

  pub disconnect_whole : length body ≡ width → endpoint_disconnect body ≡ fields EndpointDisconnect
  unfolding endpoint_disconnect
  disconnect_whole e = rw (fixed_goes width 0 width (omega arith) (omega arith), complete_good body width (sym e))

  pub disconnect_bad : (length body ≡ width → ⊥) → endpoint_disconnect body ≡ refused 5
  unfolding endpoint_disconnect
  disconnect_bad n =
      by_choice (λ (x : Content). x ≡ refused 5) _ _ _ (λ t.
      let e = complete_says body (fixed body width begin) t in
      absurd (n (sym e.1 ∙ identified e.0))) (λ _. refl)
