-- A list of calls that leads to a page: the tunnel is started; every place is opened, those that the page shows with their endpoints, the others with spare ones; those shown keyed get keys; those not shown are closed.
use Rattle.std.specs.Prelude.{ℕ, zero, suc, ◌-◌, true, false, cond, List, [], ◌∷◌, ◌++◌, eqb, length, replicate}
use Rattle.status.specs.Places.{Shown, vacant, live}
use Rattle.message.specs.Limits.{width}
use Rattle.message.specs.Message.{encode, media_keys, endpoint_disconnect}
use Rattle.rules.specs.Search.{some_of}
use Rattle.rules.specs.Refusals.{start_message}
use Rattle.rules.specs.Call.{Call}

-- ---- numbers to use

-- an identifier of A octets for each place
abbrev pub identifier_for : (place : ℕ) → List ℕ
identifier_for place = replicate (width - 1) 0 ++ (place ∷ [])

-- the least number from n on that is not used; so many are tried
unfoldable pub spare_from : (tries n : ℕ) (used : List ℕ) → ℕ
spare_from zero n used = n
spare_from (suc tries) n used = cond (some_of (eqb n) used) (spare_from tries (suc n) used) n

abbrev pub spare : (used : List ℕ) → ℕ
spare used = spare_from (length used) 0 used

-- the endpoints of the live places, and those that all places are opened with
unfoldable pub endpoints_in : List Shown → List ℕ
endpoints_in [] = []
endpoints_in (vacant ∷ l) = endpoints_in l
endpoints_in (live keyed endpoint ∷ l) = endpoint ∷ endpoints_in l

unfoldable pub endpoints_for : (used : List ℕ) → List Shown → List ℕ
endpoints_for used [] = []
endpoints_for used (vacant ∷ l) = spare used ∷ endpoints_for (spare used ∷ used) l
endpoints_for used (live keyed endpoint ∷ l) = endpoint ∷ endpoints_for used l

-- ---- the calls

-- profile 0x0009: keys of 16 octets; a salt of 12; no MKI
abbrev pub profiles : List ℕ
profiles = 0 ∷ 9 ∷ []

abbrev pub keys_for : (place : ℕ) → List ℕ
keys_for place = encode (media_keys (identifier_for place) 9 [] (replicate 16 0) (replicate 16 0) (replicate 12 0) (replicate 12 0))

unfoldable pub opens : (place : ℕ) (endpoints : List ℕ) → List Call
opens place [] = []
opens place (endpoint ∷ endpoints) = Call.opening (identifier_for place) endpoint ∷ opens (suc place) endpoints

unfoldable pub settles : (place : ℕ) → List Shown → List Call
settles place [] = []
settles place (vacant ∷ l) = Call.close (identifier_for place) (length (encode (endpoint_disconnect (identifier_for place)))) ∷ settles (suc place) l
settles place (live false endpoint ∷ l) = settles (suc place) l
settles place (live true endpoint ∷ l) = Call.tunnel_octets (keys_for place) ∷ settles (suc place) l

unfoldable pub calls_for : List Shown → List Call
calls_for l =
    Call.start profiles (length (encode (start_message profiles)))
    ∷ (opens 0 (endpoints_for (endpoints_in l) l) ++ settles 0 l)
