-- Laws of verdicts: what an allowed call has passed, and what hangs on a verdict.
use Prim.Native.Nat.{ℕ}
use mathlib.Core.Path.{◌≡◌, refl}
use mathlib.Core.Bool.{Bool, true, false, cond, not}
use mathlib.Core.List.{List}
use lib.Dec.{eqb}
use native.Mathlib.Omega.{arith}
use Rattle.message.specs.Profiles.{in_list, keys_fit, mki_and_salts_fit}
use Rattle.message.specs.Keys.{KeyLengths}
use Rattle.rules.specs.Layout.{list_of}
use Rattle.rules.specs.Verdict.{Verdict, allowed, refusal, refuse}
use Rattle.rules.specs.Answer.{Answer, answered}
use Rattle.rules.specs.Table.{knows, keys_verdict}

pub not_allowed : {n : ℕ} → refusal n ≡ allowed → ⊥
not_allowed e = let z : ◌≡◌ {A = ℕ} 0 1 = cc in omega arith

pub passed : (b : Bool) (n : ℕ) (v : Verdict) → refuse b n v ≡ allowed → (b ≡ false) × (v ≡ allowed)
passed true n v h = absurd (not_allowed h)
passed false n v h = (refl, h)

-- an answer need only be known where the call is allowed
pub answered_same : (v : Verdict) (taken : ℕ) {a b : Answer} → (v ≡ allowed → a ≡ b) → answered v taken a ≡ answered v taken b
answered_same allowed taken h = h refl
answered_same (refusal n) taken h = refl

-- nor where a test fails
pub cond_same : (b : Bool) {a c : Answer} (d : Answer) → (b ≡ true → a ≡ c) → cond b a d ≡ cond b c d
cond_same true d h = h refl
cond_same false d h = refl

-- ---- a refusal that is never given

abbrev pub Avoids : ℕ → Verdict → Type 0
Avoids m allowed = Unit {0}
Avoids m (refusal n) = eqb n m ≡ false

pub avoids : (m : ℕ) (b : Bool) (n : ℕ) (v : Verdict) → eqb n m ≡ false → Avoids m v → Avoids m (refuse b n v)
avoids m true n v e h = e
avoids m false n v e h = h

-- Tunnel octets gives neither 2 nor 5 for keys
pub keys_avoid : (m : ℕ) → eqb 6 m ≡ false → eqb 7 m ≡ false → eqb 8 m ≡ false → eqb 9 m ≡ false
    → (s i : List ℕ) (profile : ℕ) (k : KeyLengths) → Avoids m (keys_verdict s i profile k)
unfolding keys_verdict
keys_avoid m e6 e7 e8 e9 s i profile k =
    avoids m (not (knows s i)) 6 _ e6
    (avoids m (not (in_list profile (list_of s))) 7 _ e7
    (avoids m (not (keys_fit profile k)) 8 _ e8
    (avoids m (not (mki_and_salts_fit k)) 9 _ e9 tt)))
