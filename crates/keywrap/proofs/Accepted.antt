-- A ciphertext is accepted exactly if some plaintext of 1 to 240 octets wraps to it, and then that plaintext comes back.
use Prim.Native.Nat.{ℕ, ◌+◌, ◌≤◌}
use mathlib.Core.Path.{◌≡◌, refl, sym, ap, subst, ◌∙◌}
use mathlib.Core.Bool.{true}
use mathlib.Core.List.{List}
use native.Mathlib.Omega.{arith}
use lib.ListN.{length}
use Rattle.octets.specs.Number.{Octets}
use Rattle.octets.specs.Range.{within}
use Rattle.octets.proofs.Tests.{both}
use Rattle.octets.proofs.RangeLaws.{within_true}
use Rattle.aes.specs.KeyExpansion.{key_expansion}
use Rattle.aes.proofs.ScheduleLaws.{expansion_octets}
use Rattle.keywrap.specs.Limits.{plaintext_most, ciphertext_most}
use Rattle.keywrap.specs.Padding.{padding, wrap_registers, unwrap_registers, initial_registers, wrap, verified, length_fits, accepted, plaintext_in, unwrap}
use Rattle.keywrap.specs.Claims.{WrapsTo, AcceptsAll}
use Rattle.keywrap.proofs.WholeLaws.{wrap_long, unwrap_long, unwrap_whole, all_back, all_forth}
use Rattle.keywrap.proofs.PaddingLaws.{fitting_whole, fitting_most, initial_long, initial_verified, initial_plaintext, initial_whole, initial_fitting, bounds, plaintext_long, plaintext_octets, initial_again}

module _ (key : List ℕ) (o : Octets key) where
  -- the length of a ciphertext
  pub wrapped_long : (p : List ℕ) → 1 ≤ length p → length p ≤ plaintext_most → Octets p → length (wrap key p) ≡ 8 + (length p + padding (length p))
  unfolding wrap
  wrapped_long p least fits op =
      wrap_long (key_expansion key) (expansion_octets key o) (initial_registers p) (initial_whole p least fits op) ∙ initial_long p least fits

  -- what wraps to c is what unwrapping finds
  found : (c p : List ℕ) → WrapsTo key c p → unwrap_registers (key_expansion key) c ≡ initial_registers p
  unfolding wrap
  found c p t =
      ap (unwrap_registers (key_expansion key)) (sym t.wraps)
      ∙ all_back (key_expansion key) (expansion_octets key o) (initial_registers p) (initial_whole p t.least t.fits t.octets)

  accepted_if : (c p : List ℕ) → WrapsTo key c p → accepted key c ≡ true
  unfolding accepted wrap
  accepted_if c p t =
      let n : length c ≡ length (initial_registers p) =
      ap length (sym t.wraps)
      ∙ wrap_long (key_expansion key) (expansion_octets key o) (initial_registers p) (initial_whole p t.least t.fits t.octets) in
      rw (n, initial_fitting p t.least t.fits, found c p t, initial_verified p t.least t.fits) refl

  pub comes_back : (c p : List ℕ) → WrapsTo key c p → unwrap key c ≡ p
  unfolding unwrap
  comes_back c p t = ap plaintext_in (found c p t) ∙ initial_plaintext p t.least t.fits

  -- to what is accepted some plaintext wraps
  pub only_if : (c : List ℕ) → Octets c → accepted key c ≡ true → WrapsTo key c (unwrap key c)
  unfolding accepted unwrap wrap
  only_if c oc a =
      let x = unwrap_registers (key_expansion key) c in
      let f : length_fits (length c) ≡ true = (both (length_fits (length c)) (verified x) a).0 in
      let v : verified x ≡ true = (both (length_fits (length c)) (verified x) a).1 in
      let wc = fitting_whole c oc f in
      let wx = unwrap_whole (key_expansion key) (expansion_octets key o) c wc in
      let m : length x ≤ ciphertext_most =
      subst (λ (n : ℕ). n ≤ ciphertext_most) (sym (unwrap_long (key_expansion key) (expansion_octets key o) c wc)) (fitting_most (length c) f) in
      let b = bounds x wx m v in
      let l = plaintext_long x wx m v in
      let r = wx.held.least in
      record {
        least = omega arith;
        fits = omega arith;
        octets = plaintext_octets x wx m v;
        wraps = ap (wrap_registers (key_expansion key)) (initial_again x wx m v) ∙ all_forth (key_expansion key) (expansion_octets key o) c wc;
      }

  -- ---- how many octets are written

  pub wrapped_few : (p : List ℕ) → Octets p → within 1 plaintext_most (length p) ≡ true → length (wrap key p) ≤ ciphertext_most
  unfolding padding
  wrapped_few p op h =
      let r = within_true 1 plaintext_most (length p) h in
      omega (arith, wrapped_long p r.0 r.1 op)

  pub unwrapped_few : (c : List ℕ) → Octets c → accepted key c ≡ true → length (unwrap key c) ≤ plaintext_most
  unwrapped_few c oc a = (only_if c oc a).fits

pub accepts : AcceptsAll
accepts key c ok oc =
    record {
      exactly = (λ a. (unwrap key c, only_if key ok c oc a), λ t. accepted_if key ok c t.0 t.1);
      back = comes_back key ok c;
    }
