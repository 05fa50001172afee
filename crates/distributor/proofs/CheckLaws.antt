-- What a check tells: the verdict, and the place.
use Prim.Native.Nat.{ℕ}
use mathlib.Core.Path.{◌≡◌, refl, sym, ap, subst, ◌∙◌}
use mathlib.Core.Bool.{Bool, true, false, not, cond, ◌||◌}
use native.Mathlib.Omega.{arith}
use borrow.Author.Tests.{lt-ltb, le-ltb}
use lib.Dec.{ltb}
use Rattle.std.specs.Prelude.{Option, Some, None, Result, Ok, Err, ok_or, IsErrAnd}
use Rattle.octets.specs.Refusal.{number_of}
use Rattle.octets.specs.declared.refusal.Refusal.{Refusal}
use Rattle.rules.specs.Limits.{places}
use Rattle.rules.specs.Verdict.{Verdict, allowed, refusal, refuse}
use Rattle.block.specs.InTable.{in_table}
use Rattle.block.proofs.InTableLaws.{there, not_there}
use Rattle.distributor.specs.Outcomes.{Checks, Found}

-- an error that `?` passes on
pub passed_on : {T E : Type 0} (r : Result T E) (e : E) → IsErrAnd r (λ (y : E). y ≡ e) → r ≡ Err e
passed_on (Ok x) e h = absurd h
passed_on (Err y) e h = ap Err h

pub refused_as : {A : Type 0} (v : Verdict) (about : A) (r : Result A Refusal) (e : Refusal) → r ≡ Err e → refusal (number_of e) ≡ v → Checks v about r
refused_as {A} v about r e t h = subst (λ (x : Result A Refusal). Checks v about x) (sym t) h

-- a place that is none is refusal 6
pub found : (place : ℕ) (o : Option ℕ) → o ≡ in_table place → Found place (ok_or o Refusal.NoAssociation)
found place None e = (le-ltb place places (not_there place (sym e)), refl)
found place (Some at) e = let t = there place at (sym e) in (lt-ltb place places t.0, t.1)

-- a search that goes before what the verdict is by
pub by_place : (v : Verdict) (place : ℕ) (r : Result ℕ Refusal) → Found place r → allowed ≡ v → Checks (refuse (not (ltb place places)) 6 v) place r
by_place v place (Ok at) f a = rw f.0 (a, f.1)
by_place v place (Err r) f a = rw (f.0, f.1) refl

-- the lowest vacant place, or refusal 10
pub place_left : (place : ℕ) (o : Option ℕ) → o ≡ in_table place → Checks (refuse (not (ltb place places)) 10 allowed) place (ok_or o Refusal.TableFull)
place_left place None e = rw (le-ltb place places (not_there place (sym e))) refl
place_left place (Some at) e = let t = there place at (sym e) in rw (lt-ltb place places t.0) (refl, t.1)

-- refusal 6 comes before another one
pub six_first : (known : Bool) (n m : ℕ) (v : Verdict) → m ≡ cond known n 6 → (known ≡ true → refusal n ≡ v) → refusal m ≡ refuse (not known) 6 v
six_first true n m v e h = ap refusal e ∙ h refl
six_first false n m v e h = ap refusal e

-- refusal 11 comes before 12, where one search was made for both
pub eleven_first : (served known : Bool) (n : ℕ) (v : Verdict) → (served || known) ≡ true → n ≡ cond known 11 12 → refusal n ≡ refuse known 11 (refuse served 12 v)
eleven_first served true n v h e = ap refusal e
eleven_first true false n v h e = ap refusal e
eleven_first false false n v h e = cc

pub neither : (served known : Bool) (v : Verdict) → (served || known) ≡ false → refuse known 11 (refuse served 12 v) ≡ v
neither false false v h = refl
neither true known v h = cc
neither false true v h = cc

-- only a body that is too long has its number
pub oversize_alone : (r : Refusal) → number_of r ≡ 2 → r ≡ Refusal.Oversize
oversize_alone Refusal.TunnelDown h = absurd (omega (arith, h))
oversize_alone Refusal.Oversize h = refl
oversize_alone Refusal.UnlistedType h = absurd (omega (arith, h))
oversize_alone Refusal.WrongDirection h = absurd (omega (arith, h))
oversize_alone Refusal.BadBody h = absurd (omega (arith, h))
oversize_alone Refusal.NoAssociation h = absurd (omega (arith, h))
oversize_alone Refusal.ProfileNotOffered h = absurd (omega (arith, h))
oversize_alone Refusal.KeyLength h = absurd (omega (arith, h))
oversize_alone Refusal.MkiOrSaltLength h = absurd (omega (arith, h))
oversize_alone Refusal.TableFull h = absurd (omega (arith, h))
oversize_alone Refusal.IdentifierLive h = absurd (omega (arith, h))
oversize_alone Refusal.EndpointLive h = absurd (omega (arith, h))
oversize_alone Refusal.NoRoom h = absurd (omega (arith, h))
oversize_alone Refusal.NotDtls h = absurd (omega (arith, h))
oversize_alone Refusal.PacketTooLong h = absurd (omega (arith, h))
oversize_alone Refusal.BadProfileList h = absurd (omega (arith, h))
oversize_alone Refusal.TunnelUp h = absurd (omega (arith, h))
oversize_alone Refusal.NoTag h = absurd (omega (arith, h))
oversize_alone Refusal.EmptyPacket h = absurd (omega (arith, h))
oversize_alone Refusal.IdentifierLength h = absurd (omega (arith, h))
oversize_alone Refusal.UnknownSpi h = absurd (omega (arith, h))
oversize_alone Refusal.BadCiphertext h = absurd (omega (arith, h))
oversize_alone Refusal.BadPlaintext h = absurd (omega (arith, h))
oversize_alone Refusal.WrongSsrc h = absurd (omega (arith, h))
oversize_alone Refusal.OldEpoch h = absurd (omega (arith, h))
oversize_alone Refusal.SourcesFull h = absurd (omega (arith, h))
oversize_alone Refusal.SpiPresent h = absurd (omega (arith, h))
oversize_alone Refusal.SetsFull h = absurd (omega (arith, h))
oversize_alone Refusal.NotAPage h = absurd (omega (arith, h))
oversize_alone Refusal.VersionNoted h = absurd (omega (arith, h))
oversize_alone Refusal.NoSuchIndex h = absurd (omega (arith, h))
oversize_alone Refusal.KeySpent h = absurd (omega (arith, h))
oversize_alone Refusal.PlaintextLength h = absurd (omega (arith, h))
oversize_alone Refusal.EktKeyOrSaltLength h = absurd (omega (arith, h))
oversize_alone Refusal.NoProfile h = absurd (omega (arith, h))
oversize_alone Refusal.ProfilesFirst h = absurd (omega (arith, h))
