-- No two refusals have one number.
use Prim.Native.Nat.{ℕ, zero, suc}
use mathlib.Core.List.{List, [], ◌∷◌}
use mathlib.Core.Path.{◌≡◌, refl, sym, ap, ◌∙◌}
use Rattle.octets.specs.Refusal.{number_of}
use Rattle.octets.specs.declared.refusal.Refusal.{Refusal}
use Rattle.octets.specs.declared.refusal.Refusal.TheVariants.{TunnelDown, Oversize, UnlistedType, WrongDirection, BadBody, NoAssociation, ProfileNotOffered, KeyLength, MkiOrSaltLength, TableFull, IdentifierLive, EndpointLive, NoRoom, NotDtls, PacketTooLong, BadProfileList, TunnelUp, NoTag, EmptyPacket, IdentifierLength, UnknownSpi, BadCiphertext, BadPlaintext, WrongSsrc, OldEpoch, SourcesFull, SpiPresent, SetsFull, NotAPage, VersionNoted, NoSuchIndex, KeySpent, PlaintextLength, EktKeyOrSaltLength, NoProfile, ProfilesFirst}

abbrev pub pick : List Refusal → ℕ → Refusal
pick [] n = TunnelDown
pick (x ∷ s) zero = x
pick (x ∷ s) (suc n) = pick s n

-- the refusal of a number
abbrev pub refusal_of : ℕ → Refusal
refusal_of = pick (TunnelDown ∷ TunnelDown ∷ Oversize ∷ UnlistedType ∷ WrongDirection ∷ BadBody ∷ NoAssociation ∷ ProfileNotOffered ∷ KeyLength ∷ MkiOrSaltLength ∷ TableFull ∷ IdentifierLive ∷ EndpointLive ∷ NoRoom ∷ NotDtls ∷ PacketTooLong ∷ BadProfileList ∷ TunnelUp ∷ NoTag ∷ EmptyPacket ∷ IdentifierLength ∷ UnknownSpi ∷ BadCiphertext ∷ BadPlaintext ∷ WrongSsrc ∷ OldEpoch ∷ SourcesFull ∷ SpiPresent ∷ SetsFull ∷ NotAPage ∷ VersionNoted ∷ NoSuchIndex ∷ KeySpent ∷ PlaintextLength ∷ EktKeyOrSaltLength ∷ NoProfile ∷ ProfilesFirst ∷ [])

pub refusal_of_number : (refusal : Refusal) → refusal_of (number_of refusal) ≡ refusal
refusal_of_number TunnelDown = refl
refusal_of_number Oversize = refl
refusal_of_number UnlistedType = refl
refusal_of_number WrongDirection = refl
refusal_of_number BadBody = refl
refusal_of_number NoAssociation = refl
refusal_of_number ProfileNotOffered = refl
refusal_of_number KeyLength = refl
refusal_of_number MkiOrSaltLength = refl
refusal_of_number TableFull = refl
refusal_of_number IdentifierLive = refl
refusal_of_number EndpointLive = refl
refusal_of_number NoRoom = refl
refusal_of_number NotDtls = refl
refusal_of_number PacketTooLong = refl
refusal_of_number BadProfileList = refl
refusal_of_number TunnelUp = refl
refusal_of_number NoTag = refl
refusal_of_number EmptyPacket = refl
refusal_of_number IdentifierLength = refl
refusal_of_number UnknownSpi = refl
refusal_of_number BadCiphertext = refl
refusal_of_number BadPlaintext = refl
refusal_of_number WrongSsrc = refl
refusal_of_number OldEpoch = refl
refusal_of_number SourcesFull = refl
refusal_of_number SpiPresent = refl
refusal_of_number SetsFull = refl
refusal_of_number NotAPage = refl
refusal_of_number VersionNoted = refl
refusal_of_number NoSuchIndex = refl
refusal_of_number KeySpent = refl
refusal_of_number PlaintextLength = refl
refusal_of_number EktKeyOrSaltLength = refl
refusal_of_number NoProfile = refl
refusal_of_number ProfilesFirst = refl

pub one_number : (a b : Refusal) → number_of a ≡ number_of b → a ≡ b
one_number a b same = sym (refusal_of_number a) ∙ ap refusal_of same ∙ refusal_of_number b
