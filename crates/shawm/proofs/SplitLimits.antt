-- The limits of what splitting answers: a refusal's number is one octet, parts end within the packet, and the tag's numbers have 16 bits.
use Prim.Native.Nat.{ℕ, ◌-◌, ◌^◌, ◌≤◌, ◌<◌}
use mathlib.Core.List.{List}
use native.Mathlib.Omega.{arith}
use lib.Dec.{eqb}
use lib.ListN.{length}
use Rattle.octets.specs.Number.{octet_at, Octets}
use Rattle.octets.specs.Range.{within}
use Rattle.octets.proofs.Tests.{by_choice}
use Rattle.octets.proofs.NumberLaws.{number16_below}
use Rattle.ekt.specs.Limits.{ciphertext_limit, data_limit, full_trailer, extension_trailer}
use Rattle.ekt.specs.Splitting.{Split, refused, short, full, extension, form_of, length_fits, split_full, split_extension, split_form, splitting}
use Rattle.ekt.proofs.LengthLaws.{fits_says}

-- contents from one offset of the packet to another, and what holds of the numbers beside them
pub record PartLimits (p : List ℕ) (start end : ℕ) (Small : Type 0) : Type 0 where
  pub ordered : start ≤ end
  pub inside : end ≤ length p
  pub small : Octets p → Small

abbrev pub SplitLimits : List ℕ → Split → Type 0
SplitLimits p (refused number) = number < 256
SplitLimits p (short start) = start ≤ length p
SplitLimits p (full spi epoch start end) = PartLimits p start end ((spi < 2 ^ 16) × (epoch < 2 ^ 16))
SplitLimits p (extension message_type start end) = PartLimits p start end (message_type < 256)

module _ (p : List ℕ) where
  full_limits : SplitLimits p (split_full p)
  unfolding split_full
  full_limits =
      by_choice (SplitLimits p) (length_fits p full_trailer ciphertext_limit) _ _ (λ e.
      let f = fits_says p full_trailer ciphertext_limit e in
      record { ordered = omega arith; inside = omega arith; small = λ o. (number16_below p _ o, number16_below p _ o) })
      (λ _. omega arith)

  extension_limits : SplitLimits p (split_extension p (octet_at p (length p - 1)))
  unfolding split_extension
  extension_limits =
      by_choice (SplitLimits p) (length_fits p extension_trailer data_limit) _ _ (λ e.
      let f = fits_says p extension_trailer data_limit e in
      record { ordered = omega arith; inside = omega arith; small = λ o. o (length p - 1) })
      (λ _. omega arith)

  pub splitting_limits : SplitLimits p (splitting p)
  unfolding splitting form_of
  splitting_limits =
      let last = octet_at p (length p - 1) in
      by_choice (SplitLimits p) (eqb (length p) 0) _ _ (λ _. omega arith) (λ _.
      by_choice (λ form. SplitLimits p (split_form p last form)) (eqb last 0) _ _ (λ _. omega arith) (λ _.
      by_choice (λ form. SplitLimits p (split_form p last form)) (eqb last 2) _ _ (λ _. full_limits) (λ _.
      by_choice (λ form. SplitLimits p (split_form p last form)) (within 3 255 last) _ _ (λ _. extension_limits) (λ _. omega arith))))
