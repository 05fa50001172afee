-- Wrapping and unwrapping of registers undo each other, in one block too.
use Prim.Native.Nat.{ℕ, ◌*◌, ◌-◌, ◌/◌, ◌%◌, ◌≤◌}
use mathlib.Core.Path.{◌≡◌, refl, sym, ap, ◌∙◌}
use mathlib.Core.Bool.{Bool, true, false, cond}
use mathlib.Core.List.{List}
use native.Mathlib.Omega.{arith}
use borrow.Author.Tests.{eqb-true}
use lib.Dec.{eqb}
use lib.ListN.{length}
use Rattle.aes.specs.Cipher.{cipher, inv_cipher}
use Rattle.octets.specs.Number.{Octets}
use Rattle.aes.proofs.StateLaws.{Block}
use Rattle.aes.proofs.Inverse.{cipher_block, inv_cipher_block, inv_cipher_lem, cipher_inv}
use Rattle.keywrap.specs.KeyWrap.{register_count, wrap_steps, unwrap_steps}
use Rattle.keywrap.specs.Padding.{wrap_registers, unwrap_registers}
use Rattle.keywrap.proofs.StepLaws.{Registers, steps_long, backs_registers, backs_long, steps_back, steps_forth}

-- A and whole registers
pub record Whole (x : List ℕ) : Type 0 where
  pub multiple : length x % 8 ≡ 0
  pub held : Registers x

pub whole_of : (x : List ℕ) → length x % 8 ≡ 0 → 16 ≤ length x → Octets x → Whole x
whole_of x m l o = record { multiple = m; held = record { least = l; octets = o } }

one_block : (x : List ℕ) → Whole x → register_count x ≡ 1 → Block x
unfolding register_count
one_block x w e =
    record {
      long = (let m : length x % 8 ≡ 0 = w.multiple in let l : 16 ≤ length x = w.held.least in omega arith);
      octets = w.held.octets;
    }

of_block : (x : List ℕ) → Block x → Registers x
of_block x b = record { least = (let l : length x ≡ 16 = b.long in omega arith); octets = b.octets }

same_registers : (x y : List ℕ) → length x ≡ length y → register_count x ≡ register_count y
unfolding register_count
same_registers x y e = ap (λ (n : ℕ). n / 8 - 1) e

module _ (ks : List ℕ) (o : Octets ks) (x : List ℕ) (w : Whole x) where
  -- ---- wrapping keeps the shape
  wrap_long_by : (b : Bool) → eqb (register_count x) 1 ≡ b → length (cond b (cipher ks x) (wrap_steps ks (6 * register_count x) x)) ≡ length x
  wrap_long_by true e =
      let b = one_block x w (eqb-true (register_count x) 1 e) in (cipher_block ks o b).long ∙ sym b.long
  wrap_long_by false e = steps_long ks o (6 * register_count x) x w.held

  pub wrap_long : length (wrap_registers ks x) ≡ length x
  unfolding wrap_registers
  wrap_long = wrap_long_by (eqb (register_count x) 1) refl

  -- ---- and so does unwrapping
  unwrap_by : (b : Bool) → eqb (register_count x) 1 ≡ b → Registers (cond b (inv_cipher ks x) (unwrap_steps ks (6 * register_count x) x))
  unwrap_by true e = of_block (inv_cipher ks x) (inv_cipher_block ks o (one_block x w (eqb-true (register_count x) 1 e)))
  unwrap_by false e = backs_registers ks o (6 * register_count x) x w.held

  unwrap_long_by : (b : Bool) → eqb (register_count x) 1 ≡ b → length (cond b (inv_cipher ks x) (unwrap_steps ks (6 * register_count x) x)) ≡ length x
  unwrap_long_by true e =
      let b = one_block x w (eqb-true (register_count x) 1 e) in (inv_cipher_block ks o b).long ∙ sym b.long
  unwrap_long_by false e = backs_long ks o (6 * register_count x) x w.held

  pub unwrap_long : length (unwrap_registers ks x) ≡ length x
  unfolding unwrap_registers
  unwrap_long = unwrap_long_by (eqb (register_count x) 1) refl

  pub unwrap_whole : Whole (unwrap_registers ks x)
  unfolding unwrap_registers
  unwrap_whole = record { multiple = ap (λ (n : ℕ). n % 8) unwrap_long ∙ w.multiple; held = unwrap_by (eqb (register_count x) 1) refl }

  -- ---- each undoes the other
  back_by : (b : Bool) → eqb (register_count x) 1 ≡ b
      → cond b (inv_cipher ks (cond b (cipher ks x) (wrap_steps ks (6 * register_count x) x))) (unwrap_steps ks (6 * register_count x) (cond b (cipher ks x) (wrap_steps ks (6 * register_count x) x))) ≡ x
  back_by true e = inv_cipher_lem ks o (one_block x w (eqb-true (register_count x) 1 e))
  back_by false e = steps_back ks o (6 * register_count x) x w.held

  pub all_back : unwrap_registers ks (wrap_registers ks x) ≡ x
  unfolding wrap_registers unwrap_registers
  all_back =
      rw (same_registers (wrap_registers ks x) x wrap_long) (back_by (eqb (register_count x) 1) refl)

  forth_by : (b : Bool) → eqb (register_count x) 1 ≡ b
      → cond b (cipher ks (cond b (inv_cipher ks x) (unwrap_steps ks (6 * register_count x) x))) (wrap_steps ks (6 * register_count x) (cond b (inv_cipher ks x) (unwrap_steps ks (6 * register_count x) x))) ≡ x
  forth_by true e = cipher_inv ks o (one_block x w (eqb-true (register_count x) 1 e))
  forth_by false e = steps_forth ks o (6 * register_count x) x w.held

  pub all_forth : wrap_registers ks (unwrap_registers ks x) ≡ x
  unfolding wrap_registers unwrap_registers
  all_forth =
      rw (same_registers (unwrap_registers ks x) x unwrap_long) (forth_by (eqb (register_count x) 1) refl)
