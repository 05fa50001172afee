-- The parts of a packet stand in the packet where its answer says.
use Prim.Native.Nat.{ℕ, ◌-◌}
use mathlib.Core.Path.{◌≡◌}
use mathlib.Core.List.{List}
use native.Mathlib.Omega.{arith}
use lib.Dec.{eqb}
use lib.ListN.{length}
use denote.Ref.{Bor}
use Rattle.octets.specs.Number.{octet_at}
use Rattle.octets.specs.Lent.{PartIn}
use Rattle.octets.proofs.Tests.{by_choice}
use Rattle.octets.proofs.LentLaws.{within_begins}
use Rattle.ekt.specs.Limits.{ciphertext_limit, data_limit, full_trailer, extension_trailer}
use Rattle.ekt.specs.Splitting.{Split, form_of, length_fits, split_full, split_extension, split_form, splitting}
use Rattle.ekt.specs.Parts.{front_bounds, ciphertext_bounds, data_bounds, front, ciphertext, extension_data, PartBy, PartsBegin}
use Rattle.ekt.specs.declared.splitting.Form.{Form}
use Rattle.ekt.proofs.LengthLaws.{fits_says}

-- the theorem, by the answer
module _ (packet f c d : Bor (List ℕ)) where
  abbrev BeginBy : Split → Type 0
  BeginBy a = PartIn packet (front_bounds a) f → PartIn packet (ciphertext_bounds a) c → PartIn packet (data_bounds a) d → PartsBegin packet f c d a

  by_form : (t : ℕ) (form : Form) → BeginBy (split_form packet.now t form)
  unfolding split_full split_extension
  by_form t Form.Short = λ p q r. within_begins p (omega arith) (omega arith)
  by_form t Form.Full =
      by_choice BeginBy (length_fits packet.now full_trailer ciphertext_limit) _ _
      (λ e p q r.
      let l = fits_says packet.now full_trailer ciphertext_limit e in
      (within_begins p (omega arith) (omega arith), within_begins q (omega arith) (omega arith)))
      (λ _ p q r. tt)
  by_form t Form.Extension =
      by_choice BeginBy (length_fits packet.now extension_trailer data_limit) _ _
      (λ e p q r.
      let l = fits_says packet.now extension_trailer data_limit e in
      (within_begins p (omega arith) (omega arith), within_begins r (omega arith) (omega arith)))
      (λ _ p q r. tt)
  by_form t Form.Unavailable = λ p q r. tt

  pub parts_begin : PartBy front_bounds packet f → PartBy ciphertext_bounds packet c → PartBy data_bounds packet d
      → PartsBegin packet f c d (splitting packet.now)
  unfolding splitting
  parts_begin =
      let t = octet_at packet.now (length packet.now - 1) in
      by_choice BeginBy (eqb (length packet.now) 0) _ _ (λ _ p q r. tt) (λ _. by_form t (form_of t))

-- ---- they have the octets of the definitions

module _ {packet r : Bor (List ℕ)} where
  pub front_octets : PartBy front_bounds packet r → r.now ≡ front packet.now
  unfolding front
  front_octets p = p.octets

  pub ciphertext_octets : PartBy ciphertext_bounds packet r → r.now ≡ ciphertext packet.now
  unfolding ciphertext
  ciphertext_octets p = p.octets

  pub data_octets : PartBy data_bounds packet r → r.now ≡ extension_data packet.now
  unfolding extension_data
  data_octets p = p.octets
