-- The refusals' numbers, in the order of documents 01 and 02.
use Rattle.std.specs.Prelude.{ℕ, List, ◌++◌, codes}
use Rattle.std.specs.Fmt.{decimal}
use Rattle.octets.specs.declared.refusal.Refusal.{Refusal}
use Rattle.octets.specs.declared.refusal.Refusal.TheVariants.{TunnelDown, Oversize, UnlistedType, WrongDirection, BadBody, NoAssociation, ProfileNotOffered, KeyLength, MkiOrSaltLength, TableFull, IdentifierLive, EndpointLive, NoRoom, NotDtls, PacketTooLong, BadProfileList, TunnelUp, NoTag, EmptyPacket, IdentifierLength, UnknownSpi, BadCiphertext, BadPlaintext, WrongSsrc, OldEpoch, SourcesFull, SpiPresent, SetsFull, NotAPage, VersionNoted, NoSuchIndex, KeySpent, PlaintextLength, EktKeyOrSaltLength, NoProfile, ProfilesFirst}

abbrev pub number_of : Refusal → ℕ
number_of TunnelDown = 1
number_of Oversize = 2
number_of UnlistedType = 3
number_of WrongDirection = 4
number_of BadBody = 5
number_of NoAssociation = 6
number_of ProfileNotOffered = 7
number_of KeyLength = 8
number_of MkiOrSaltLength = 9
number_of TableFull = 10
number_of IdentifierLive = 11
number_of EndpointLive = 12
number_of NoRoom = 13
number_of NotDtls = 14
number_of PacketTooLong = 15
number_of BadProfileList = 16
number_of TunnelUp = 17
number_of NoTag = 18
number_of EmptyPacket = 19
number_of IdentifierLength = 20
number_of UnknownSpi = 21
number_of BadCiphertext = 22
number_of BadPlaintext = 23
number_of WrongSsrc = 24
number_of OldEpoch = 25
number_of SourcesFull = 26
number_of SpiPresent = 27
number_of SetsFull = 28
number_of NotAPage = 29
number_of VersionNoted = 30
number_of NoSuchIndex = 31
number_of KeySpent = 32
number_of PlaintextLength = 33
number_of EktKeyOrSaltLength = 34
number_of NoProfile = 35
number_of ProfilesFirst = 36

-- as it is printed
abbrev pub text_of : Refusal → List ℕ
text_of refusal = codes "refusal " ++ decimal (number_of refusal)
