-- What Tunnel octets answers: a delivery fits a frame.
use Prim.Native.Nat.{ℕ, ◌+◌, ◌-◌, ◌≤◌}
use mathlib.Core.Path.{◌≡◌, refl, sym, subst}
use mathlib.Core.List.{List}
use native.Mathlib.Omega.{arith}
use lib.ListN.{length, drop, length-take, length-drop}
use Rattle.octets.specs.Bounds.{part_in}
use Rattle.octets.specs.Part.{part}
use Rattle.octets.specs.declared.parts.Bounds.{Bounds}
use Rattle.octets.proofs.Tests.{by_choice}
use Rattle.message.specs.Limits.{width, header}
use Rattle.message.specs.Parts.{identifier_bounds, dtls_bounds}
use Rattle.message.specs.Read as Read
use Rattle.message.specs.declared.bodies.Fields.{Fields}
use Rattle.message.specs.declared.bodies.Fields.TheVariants.{SupportedProfiles, UnsupportedVersion, MediaKeys, TunneledDtls, EndpointDisconnect}
use Rattle.rules.specs.Answer.{Answer, refused, keys_stored, delivery, removed, of_delivery, answered}
use Rattle.rules.specs.Layout.{up}
use Rattle.rules.specs.Refusals.{receiving}
use Rattle.rules.specs.Table.{endpoint_for, knows, keys_verdict, fields_answer, read_answer, octets_answer}
use Rattle.rules.specs.Verdict.{Verdict, allowed, refusal}
use Rattle.service.specs.Limits.{room, answer_limit}

-- where Tunnel octets answers a delivery, its octets stand behind the identifier and the length
abbrev OfTunnel : Answer → Type 0
OfTunnel a = of_delivery a (λ endpoint dtls taken. dtls.start ≡ header + width + 2) (Unit {0})

of_verdict : (w : Verdict) (endpoint taken : ℕ) → OfTunnel (answered w taken (keys_stored endpoint taken))
of_verdict allowed endpoint taken = tt
of_verdict (refusal number) endpoint taken = tt

module _ (s octets : List ℕ) where
  of_fields : (f : Fields) (taken : ℕ) → OfTunnel (fields_answer s octets f taken)
  unfolding fields_answer
  of_fields (SupportedProfiles v n) taken = tt
  of_fields (UnsupportedVersion v) taken = tt
  of_fields (MediaKeys profile k) taken = of_verdict (keys_verdict s (part_in octets identifier_bounds) profile k) (endpoint_for s (part_in octets identifier_bounds)) taken
  of_fields (TunneledDtls n) taken =
      by_choice OfTunnel (knows s (part_in octets identifier_bounds))
      (delivery (endpoint_for s (part_in octets identifier_bounds)) (dtls_bounds n) taken) (refused 6 taken) (λ h. refl) (λ h. tt)
  of_fields EndpointDisconnect taken =
      by_choice OfTunnel (knows s (part_in octets identifier_bounds)) (removed (endpoint_for s (part_in octets identifier_bounds)) taken) (refused 6 taken) (λ h. tt) (λ h. tt)

  of_reading : (r : Read.Answer) → OfTunnel (read_answer s octets r)
  of_reading Read.more_needed = tt
  of_reading (Read.refused number taken) = tt
  of_reading (Read.accepted f taken) = of_fields f taken

  of_octets : OfTunnel (octets_answer s octets)
  unfolding octets_answer
  of_octets = by_choice OfTunnel (up s) (read_answer s octets (receiving octets)) (refused 1 0) (λ h. of_reading (receiving octets)) (λ h. tt)

  -- a delivery's octets fit behind the head, the octets taken and the endpoint
  pub delivery_fits : (endpoint : ℕ) (dtls : Bounds) (taken : ℕ) → delivery endpoint dtls taken ≡ octets_answer s octets → length octets ≤ room
      → 9 + length (part_in octets dtls) ≤ answer_limit
  unfolding part
  delivery_fits endpoint dtls taken e h =
      let k : dtls.start ≡ header + width + 2 = subst OfTunnel (sym e) of_octets in
      let a = length-take (dtls.end - dtls.start) (drop dtls.start octets) in
      let b = length-drop dtls.start octets in
      omega arith
