-- The fields of the message that is read stand in the lent octets, each at the bounds of its number.
use Prim.Native.Nat.{ℕ, ◌≤◌}
use mathlib.Core.Path.{refl}
use mathlib.Core.List.{List}
use native.Mathlib.Omega.{arith}
use borrow.Author.Tests.{ne_eqb}
use lib.ListN.{length}
use Rattle.octets.specs.Bounds.{part_in}
use Rattle.octets.specs.declared.parts.Bounds.{Bounds}
use Rattle.message.specs.Read.{Answer, more_needed, refused, accepted, reading}
use Rattle.message.specs.Parts.{identifier_bounds, list_bounds, dtls_bounds, key_bounds, bounds_of, meaning, field}
use Rattle.message.specs.declared.bodies.Fields.{Fields}
use Rattle.message.specs.declared.bodies.Fields.TheVariants.{SupportedProfiles, UnsupportedVersion, MediaKeys, TunneledDtls, EndpointDisconnect}
use Rattle.shawm.specs.Fields.{numbered_bounds, field_bounds}
use Rattle.shawm.specs.Claims.{FoundAt, BoundsMatch, fields_read, FieldsNamed}
use Rattle.shawm.proofs.FoundLaws.{found, more, either_way}
use Rattle.shawm.proofs.ReadLimits.{FieldLimits, ReadLimits, reading_limits}

module _ (s : List ℕ) where
  abbrev FieldsMatch : Answer → Type 0
  FieldsMatch a = BoundsMatch s (numbered_bounds (bounds_of a)) (fields_read s a)

  -- a part as it is
  at : (b : Bounds) → b.start ≤ b.end → b.end ≤ length s → FoundAt s b (part_in s b)
  at b h k = found s b (part_in s b) refl h k

  accepted_match : (f : Fields) (taken : ℕ) → FieldLimits s f → FieldsMatch (accepted f taken)
  unfolding numbered_bounds meaning
  accepted_match (SupportedProfiles version n) taken l = record {
    listed = more (at (list_bounds n) (omega arith) l.ends) tt;
    others = λ number not. simp (ne_eqb number 2 not.0, either_way);
  }
  accepted_match (UnsupportedVersion version) taken l = record { listed = tt; others = λ number _. simp either_way }
  accepted_match (MediaKeys profile k) taken l =
      let p = key_bounds k in
      record {
        listed =
            more (at identifier_bounds (omega arith) (omega arith))
            (more (at p.mki (omega arith) (omega arith))
            (more (at p.client_key (omega arith) (omega arith))
            (more (at p.server_key (omega arith) (omega arith))
            (more (at p.client_salt (omega arith) (omega arith))
            (more (at p.server_salt (omega arith) l.ends) tt)))));
        others = λ number not.
            simp (
              ne_eqb number 1 not.0,
              ne_eqb number 3 not.1.0,
              ne_eqb number 4 not.1.1.0,
              ne_eqb number 5 not.1.1.1.0,
              ne_eqb number 6 not.1.1.1.1.0,
              ne_eqb number 7 not.1.1.1.1.1.0,
              either_way,
            );
      }
  accepted_match (TunneledDtls n) taken l = record {
    listed = more (at identifier_bounds (omega arith) (omega arith)) (more (at (dtls_bounds n) (omega arith) l.ends) tt);
    others = λ number not. simp (ne_eqb number 1 not.0, ne_eqb number 8 not.1.0, either_way);
  }
  accepted_match EndpointDisconnect taken l = record {
    listed = more (at identifier_bounds (omega arith) l.ends) tt;
    others = λ number not. simp (ne_eqb number 1 not.0, either_way);
  }

  answer_match : (a : Answer) → ReadLimits s a → FieldsMatch a
  unfolding numbered_bounds
  answer_match more_needed l = record { listed = tt; others = λ number _. simp either_way }
  answer_match (refused number taken) l = record { listed = tt; others = λ number _. simp either_way }
  answer_match (accepted f taken) l = accepted_match f taken l

  -- the theorem
  pub fields_match : BoundsMatch s (field_bounds s) (fields_read s (reading s))
  unfolding field_bounds
  fields_match = answer_match (reading s) (reading_limits s)

  -- the same by the fields' names
  pub fields_named : FieldsNamed s
  unfolding field_bounds numbered_bounds field
  fields_named = record {
    identifier = refl;
    profile_list = refl;
    mki = refl;
    client_key = refl;
    server_key = refl;
    client_salt = refl;
    server_salt = refl;
    dtls = refl;
  }
