-- How many octets Tunnel octets takes while the tunnel is up, and which kind of answer it gives, said on the octets themselves: document 01, "Reading the front of a lent stretch", with refusal 4 tested before the body ("The record and its calls"). The numbers are the document's.
use Rattle.std.specs.Prelude.{ℕ, ◌+◌, ◌≤◌, ◌<◌, ◌≡◌, ◌⊎◌, List, length}
use Rattle.octets.specs.declared.parts.Bounds.{Bounds}
use Rattle.octets.specs.Number.{octet_at, number16_at}
use Rattle.message.specs.Taken.{OfVersion, OfOther, WholeAt, IsUnlisted}
use Rattle.rules.specs.Answer.{Answer, refused, more_needed, keys_stored, delivery, removed}

-- a refusal with a number between two, so many octets taken
pub record RefusedWith (least most taken : ℕ) (answer : Answer) : Type 0 where
  pub number : ℕ
  pub from : least ≤ number
  pub to : number ≤ most
  pub told : answer ≡ refused number taken

-- an answer for some endpoint
pub record ForEndpoint (of : ℕ → Answer) (answer : Answer) : Type 0 where
  pub endpoint : ℕ
  pub told : answer ≡ of endpoint

-- a delivery, so many octets taken: of those from octet A + 5 to the end of the message
pub record Delivered (taken : ℕ) (answer : Answer) : Type 0 where
  pub endpoint : ℕ
  pub dtls : Bounds
  pub start : dtls.start ≡ 21
  pub end : dtls.end ≡ taken
  pub told : answer ≡ delivery endpoint dtls taken

-- to a whole message of type 3, 4 and 5; 5 is the reading's, 6 to 9 are the table's
abbrev pub KeysAnswer : (taken : ℕ) → Answer → Type 0
KeysAnswer taken answer = ForEndpoint (λ endpoint. keys_stored endpoint taken) answer ⊎ RefusedWith 5 9 taken answer

abbrev pub DtlsAnswer : (taken : ℕ) → Answer → Type 0
DtlsAnswer taken answer = Delivered taken answer ⊎ RefusedWith 5 6 taken answer

abbrev pub DisconnectAnswer : (taken : ℕ) → Answer → Type 0
DisconnectAnswer taken answer = ForEndpoint (λ endpoint. removed endpoint taken) answer ⊎ RefusedWith 5 6 taken answer

-- the steps of the reading, as the table's call takes them
pub record ReceivesBySteps (octets : List ℕ) (answer : Answer) : Type 0 where
  -- 1
  pub few : length octets < 3 → answer ≡ more_needed
  -- 2
  pub empty_version : OfVersion octets → number16_at octets 1 ≡ 0 → answer ≡ refused 5 3
  pub version_awaited : OfVersion octets → (number16_at octets 1 ≡ 0 → ⊥) → length octets < 4 → answer ≡ more_needed
  pub version : OfVersion octets → (number16_at octets 1 ≡ 0 → ⊥) → 4 ≤ length octets → answer ≡ Answer.version (octet_at octets 3) (length octets)
  -- 3
  pub oversize : OfOther octets → 4096 < number16_at octets 1 → answer ≡ refused 2 0
  pub awaited : OfOther octets → number16_at octets 1 ≤ 4096 → length octets < 3 + number16_at octets 1 → answer ≡ more_needed
  -- 4: "the whole message is taken, refused or not"
  pub profiles : WholeAt octets → octet_at octets 0 ≡ 1 → answer ≡ refused 4 (3 + number16_at octets 1)
  pub unlisted : WholeAt octets → IsUnlisted (octet_at octets 0) → answer ≡ refused 3 (3 + number16_at octets 1)
  pub keys : WholeAt octets → octet_at octets 0 ≡ 3 → KeysAnswer (3 + number16_at octets 1) answer
  pub dtls : WholeAt octets → octet_at octets 0 ≡ 4 → DtlsAnswer (3 + number16_at octets 1) answer
  pub disconnect : WholeAt octets → octet_at octets 0 ≡ 5 → DisconnectAnswer (3 + number16_at octets 1) answer
