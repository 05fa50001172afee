-- DTLS among the kinds of packets.
use mathlib.Core.Path.{◌≡◌, refl}
use mathlib.Core.Bool.{false}
use Rattle.demux.specs.declared.sorting.Kind.{Kind}
use Rattle.rules.specs.Refusals.{is_dtls_kind}

pub dtls_kind : (k : Kind) → (k ≡ Kind.Dtls → ⊥) → is_dtls_kind k ≡ false
dtls_kind Kind.Stun h = refl
dtls_kind Kind.Zrtp h = refl
dtls_kind Kind.Dtls h = absurd (h refl)
dtls_kind Kind.TurnChannel h = refl
dtls_kind Kind.Rtp h = refl
dtls_kind Kind.Other h = refl
