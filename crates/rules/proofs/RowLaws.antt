-- The rows that calls write, as they are read.
use Prim.Native.Nat.{ℕ, ◌+◌, ◌-◌, ◌≤◌}
use mathlib.Core.Path.{◌≡◌, refl, sym, ◌∙◌}
use mathlib.Core.List.{List, [], ◌∷◌, ◌++◌}
use mathlib.Core.Option.{some, none}
use native.Mathlib.Omega.{arith}
use lib.ListN.{length, take, replicate, length-append, length-replicate}
use lib.Seq.{length-take-le}
use Rattle.octets.specs.Number.{octet_at, number16_at, number32_at, octets_of_16, octets_of_32}
use Rattle.octets.specs.Part.{part}
use Rattle.octets.proofs.PartLaws.{part_front}
use Rattle.octets.proofs.HoldLaws.{holds_all, holds_two, holds_part, holds_octet}
use Rattle.message.specs.Limits.{width, mki_limit, salt_limit}
use Rattle.rules.specs.Limits.{key_limit}
use Rattle.rules.specs.Keys.{Keys}
use Rattle.rules.specs.Layout.{state_at, identifier_at, endpoint_at, profile_at, mki_at, client_key_at, server_key_at, client_salt_at, server_salt_at, row_length, live, identifier_of, endpoint_of, keys_of, field, padded, vacant_row, open_row, keyed_row}
use Rattle.rules.specs.Answer.{opened, keyed}
use Rattle.rules.specs.Table.{association_of}
use Rattle.rules.specs.View.{in_row}
use Rattle.rules.proofs.FieldLaws.{padded_length, padded_whole, holds_field, holds_number16, holds_number32}
use Rattle.rules.proofs.FrontLaws.{same_octet, same_part}

-- ---- a row by its state octet

module _ (r i : List ℕ) (e : ℕ) (h : identifier_of r ≡ i) (g : endpoint_of r ≡ e) where
  row_opened : octet_at r state_at ≡ 1 → in_row r ≡ some (opened i e)
  unfolding in_row live association_of
  row_opened s = rw (s, h, g)

  row_keyed : (k : Keys) → keys_of r ≡ k → octet_at r state_at ≡ 2 → in_row r ≡ some (keyed i e k)
  unfolding in_row live association_of
  row_keyed k f s = rw (s, h, g, f)

-- ---- a vacant row

pub vacant_row_length : length vacant_row ≡ row_length
unfolding vacant_row
vacant_row_length = length-replicate {A = ℕ} row_length 0

pub vacant_row_lem : in_row vacant_row ≡ none
unfolding in_row live vacant_row
vacant_row_lem = refl

-- ---- an open row

pub open_row_length : (i : List ℕ) (e : ℕ) → length (open_row i e) ≡ row_length
unfolding open_row
open_row_length i e = simp (length-append, padded_length)

pub open_row_lem : (i : List ℕ) (e : ℕ) → length i ≡ width → in_row (open_row i e) ≡ some (opened i e)
unfolding open_row identifier_of endpoint_of
open_row_lem i e w =
    let r = open_row i e in
    let x2 = holds_two (octets_of_32 e ++ padded width i ++ (1 ∷ [])) (replicate (row_length - profile_at) 0) (holds_all r refl) profile_at (simp (length-append, padded_length)) in
    let x1 = holds_two (octets_of_32 e ++ padded width i) (1 ∷ []) x2.0 state_at (simp padded_length) in
    let x0 = holds_two (octets_of_32 e) (padded width i) x1.0 identifier_at refl in
    let p : part r identifier_at (identifier_at + width) ≡ padded width i = holds_part x0.1 (identifier_at + width) (rw padded_length) in
    row_opened r i e (p ∙ padded_whole width i w) (holds_number32 e x0.0) (holds_octet x1.1)

-- ---- a row with its key fields replaced

-- the octets before the state tell identifier and endpoint
same_front : (q r : List ℕ) → take state_at q ≡ take state_at r → (identifier_of q ≡ identifier_of r) × (endpoint_of q ≡ endpoint_of r)
unfolding identifier_of endpoint_of number32_at number16_at
same_front q r h =
    let o = same_octet q r state_at h in (
      same_part q r state_at h identifier_at (identifier_at + width) (omega arith),
      rw (o endpoint_at (omega arith), o (endpoint_at + 1) (omega arith), o (endpoint_at + 2) (omega arith), o (endpoint_at + 2 + 1) (omega arith)),
    )

-- the key fields have room in a row
pub record Roomy (k : Keys) : Type 0 where
  pub mki : length k.mki ≤ mki_limit
  pub client_key : length k.client_key ≤ key_limit
  pub server_key : length k.server_key ≤ key_limit
  pub client_salt : length k.client_salt ≤ salt_limit
  pub server_salt : length k.server_salt ≤ salt_limit

module _ (k : Keys) (r : List ℕ) (l : length r ≡ row_length) where
  kept_length : length (take state_at r) ≡ state_at
  kept_length = length-take-le state_at r (omega arith)

  pub keyed_row_length : length (keyed_row k r) ≡ row_length
  unfolding keyed_row
  keyed_row_length = simp (length-append, padded_length, kept_length)

  pub keyed_row_lem : Roomy k → in_row (keyed_row k r) ≡ some (keyed (identifier_of r) (endpoint_of r) k)
  unfolding keyed_row keys_of
  keyed_row_lem f =
      let q = keyed_row k r in
      let a : List ℕ = take state_at r in
      let t : List ℕ = 2 ∷ [] in
      let b : List ℕ = octets_of_16 k.profile in
      let c : List ℕ = field mki_limit k.mki in
      let d : List ℕ = field key_limit k.client_key in
      let e : List ℕ = field key_limit k.server_key in
      let g : List ℕ = field salt_limit k.client_salt in
      let h : List ℕ = field salt_limit k.server_salt in
      let x6 = holds_two (a ++ t ++ b ++ c ++ d ++ e ++ g) h (holds_all q refl) server_salt_at (simp (length-append, padded_length, kept_length)) in
      let x5 = holds_two (a ++ t ++ b ++ c ++ d ++ e) g x6.0 client_salt_at (simp (length-append, padded_length, kept_length)) in
      let x4 = holds_two (a ++ t ++ b ++ c ++ d) e x5.0 server_key_at (simp (length-append, padded_length, kept_length)) in
      let x3 = holds_two (a ++ t ++ b ++ c) d x4.0 client_key_at (simp (length-append, padded_length, kept_length)) in
      let x2 = holds_two (a ++ t ++ b) c x3.0 mki_at (simp (length-append, kept_length)) in
      let x1 = holds_two (a ++ t) b x2.0 profile_at (simp (length-append, kept_length)) in
      let x0 = holds_two a t x1.0 state_at (rw kept_length) in
      let p : take state_at q ≡ take state_at r = sym (part_front q state_at) ∙ holds_part x0.0 state_at (rw kept_length) in
      let s = same_front q r p in
      let z : keys_of q ≡ k =
      rw (
        holds_number16 k.profile x1.1,
        holds_field mki_limit k.mki x2.1 f.mki,
        holds_field key_limit k.client_key x3.1 f.client_key,
        holds_field key_limit k.server_key x4.1 f.server_key,
        holds_field salt_limit k.client_salt x5.1 f.client_salt,
        holds_field salt_limit k.server_salt x6.1 f.server_salt,
      ) in
      row_keyed q (identifier_of r) (endpoint_of r) s.0 s.1 k z (holds_octet x0.1)
