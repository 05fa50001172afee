-- An array that `from_fn` makes, where no call changes the closure.
use Prim.Native.Nat.{ℕ, zero, suc, ◌+◌, ◌<◌, ◌≤◌}
use mathlib.Core.Path.{◌≡◌, refl, sym, subst, ◌∙◌}
use mathlib.Core.List.{List}
use native.Mathlib.Omega.{arith}
use denote.Param.Members.{Mut, Called}
use lib.ListN.{length, get_or}
use lib.Seq.{ext_get_or}
use Rattle.std.specs.Array.{IsFromFnResultFrom, IsFromFnResult}
use Rattle.octets.proofs.Tests.{by_size}

module _ {F : Type 0} (g : Mut F (ℕ × Unit {0}) ℕ) (f : F) (ys : List ℕ) (n : ℕ) (R : ℕ → ℕ → Type 0)
    (call : (i x : ℕ) (q : F) → i < n → Called g f (i, tt) x q → R i x × (q ≡ f)) where
  each_from : (m i : ℕ) (p : F) → p ≡ f → IsFromFnResultFrom g p ys i m → i + m ≡ n → (k : ℕ) → i ≤ k → k < n → R k (get_or ys k 0)
  each_from zero i p e r s k a b = absurd (omega arith)
  each_from (suc m) i p e r s k a b =
      let t = call i r.1 r.0 (omega arith) (subst (λ (v : F). Called g v (i, tt) r.1 r.0) e r.3) in
      by_size k (i + 1)
      (λ l. let j : k ≡ i = omega arith in rw (j, r.2.1 0) t.0)
      (λ l. each_from m (i + 1) r.0 t.1 r.4 (omega arith) k l b)

-- what each call gives holds of its octet
pub each_made : {F : Type 0} {g : Mut F (ℕ × Unit {0}) ℕ} {f : F} {ys : List ℕ} {n : ℕ} (R : ℕ → ℕ → Type 0) → IsFromFnResult g f ys n
    → ((i x : ℕ) (q : F) → i < n → Called g f (i, tt) x q → R i x × (q ≡ f)) → (k : ℕ) → k < n → R k (get_or ys k 0)
each_made {F} {g} {f} {ys} {n} R r call k h = each_from g f ys n R call n 0 f refl r.each (omega arith) k (omega arith) h

-- the list, if each call gives its octet
pub made : {F : Type 0} {g : Mut F (ℕ × Unit {0}) ℕ} {f : F} {ys goal : List ℕ} {n : ℕ} {out : ℕ → ℕ} → IsFromFnResult g f ys n → length goal ≡ n
    → ((i : ℕ) → i < n → get_or goal i 0 ≡ out i) → ((i x : ℕ) (q : F) → i < n → Called g f (i, tt) x q → (x ≡ out i) × (q ≡ f)) → ys ≡ goal
made {ys = ys} {goal} {n} {out} r long at call =
    ext_get_or 0 ys goal (r.long ∙ sym long)
    (λ k h. let l = r.long in let b : k < n = omega arith in each_made (λ (i x : ℕ). x ≡ out i) r call k b ∙ sym (at k b))
