-- Each step of the key wrap process is undone by the inverse's.
use Prim.Native.Nat.{ℕ, zero, suc, ◌+◌, ◌*◌, ◌-◌, ◌/◌, ◌%◌, ◌<◌, ◌≤◌}
use mathlib.Core.Path.{◌≡◌, refl, sym, ap, ap₂, subst, ◌∙◌}
use mathlib.Core.List.{List, [], ◌∷◌, ◌++◌}
use native.Mathlib.Omega.{arith}
use native.Mathlib.Nat.{mod-lt}
use lib.ListN.{length, take, drop, length-append, length-drop, take-append-drop}
use lib.Seq.{take_at, drop_at, length-take-le, drop-drop}
use Rattle.aes.specs.Cipher.{cipher, inv_cipher}
use Rattle.aes.proofs.Xor.{sum_lt, sum_twice}
use Rattle.octets.specs.Number.{Octets}
use Rattle.aes.proofs.StateLaws.{Block}
use Rattle.octets.proofs.OctetLaws.{append_octets, take_octets, drop_octets}
use Rattle.aes.proofs.Inverse.{cipher_block, inv_cipher_block, inv_cipher_lem, cipher_inv}
use Rattle.keywrap.specs.KeyWrap.{register_count, register_at, block, replaced, xor_lists, octets64, xor_count, step, wrap_step, wrap_steps, unwrap_step, unwrap_steps}

-- ---- sums of lists

pub lists_twice : (a b : List ℕ) → xor_lists (xor_lists a b) b ≡ a
unfolding xor_lists
lists_twice [] b = refl
lists_twice (x ∷ a) [] = refl
lists_twice (x ∷ a) (y ∷ b) = ap₂ ◌∷◌ (sum_twice x y) (lists_twice a b)

pub lists_long : (a b : List ℕ) → length (xor_lists a b) ≡ length a
unfolding xor_lists
lists_long [] b = refl
lists_long (x ∷ a) [] = refl
lists_long (x ∷ a) (y ∷ b) = ap suc (lists_long a b)

pub lists_octets : (a b : List ℕ) → Octets a → Octets b → Octets (xor_lists a b)
unfolding xor_lists
lists_octets [] b ha hb i = ha i
lists_octets (x ∷ a) [] ha hb i = ha i
lists_octets (x ∷ a) (y ∷ b) ha hb zero = sum_lt x y (ha 0) (hb 0)
lists_octets (x ∷ a) (y ∷ b) ha hb (suc i) = lists_octets a b (λ k. ha (suc k)) (λ k. hb (suc k)) i

pub octets64_octets : (t : ℕ) → Octets (octets64 t)
unfolding octets64
octets64_octets t zero = omega arith
octets64_octets t (suc zero) = omega arith
octets64_octets t (suc (suc zero)) = omega arith
octets64_octets t (suc (suc (suc zero))) = omega arith
octets64_octets t (suc (suc (suc (suc zero)))) = omega arith
octets64_octets t (suc (suc (suc (suc (suc zero))))) = omega arith
octets64_octets t (suc (suc (suc (suc (suc (suc zero)))))) = omega arith
octets64_octets t (suc (suc (suc (suc (suc (suc (suc zero))))))) = omega arith
octets64_octets t (suc (suc (suc (suc (suc (suc (suc (suc i)))))))) = omega arith

pub count_block : (t : ℕ) {b : List ℕ} → Block b → Block (xor_count t b)
unfolding xor_count
count_block t {b} h =
    record { long = lists_long b (octets64 t) ∙ h.long; octets = lists_octets b (octets64 t) h.octets (octets64_octets t) }

pub count_twice : (t : ℕ) (b : List ℕ) → xor_count t (xor_count t b) ≡ b
unfolding xor_count
count_twice t b = lists_twice b (octets64 t)

-- ---- registers: A, at least one R, and all octets

pub record Registers (x : List ℕ) : Type 0 where
  pub least : 16 ≤ length x
  pub octets : Octets x

-- ---- A and R[i] are read and replaced

others : (i : ℕ) (c y z : List ℕ) → take (8 * (i - 1)) (drop 8 y) ≡ take (8 * (i - 1)) (drop 8 z) → drop (8 * i + 8) y ≡ drop (8 * i + 8) z
    → replaced i c y ≡ replaced i c z
unfolding replaced
others i c y z e f = ap₂ (λ (u v : List ℕ). take 8 c ++ (u ++ (drop 8 c ++ v))) e f

module _ (i : ℕ) (x : List ℕ) (first : 1 ≤ i) (last : 8 * i + 8 ≤ length x) where
  a_long : length (take 8 x) ≡ 8
  a_long = length-take-le 8 x (omega arith)

  r_long : length (take 8 (drop (8 * i) x)) ≡ 8
  r_long = length-take-le 8 (drop (8 * i) x) (let e : length (drop (8 * i) x) ≡ length x - 8 * i = length-drop (8 * i) x in omega arith)

  before_long : length (take (8 * (i - 1)) (drop 8 x)) ≡ 8 * (i - 1)
  before_long = length-take-le (8 * (i - 1)) (drop 8 x) (let e : length (drop 8 x) ≡ length x - 8 = length-drop 8 x in omega arith)

  pub read_block : Octets x → Block (block i x)
  unfolding block
  read_block o =
      record {
        long =
            length-append (take 8 x) (take 8 (drop (8 * i) x))
            ∙ (let a : length (take 8 x) ≡ 8 = a_long in let r : length (take 8 (drop (8 * i) x)) ≡ 8 = r_long in omega arith);
        octets = append_octets (take 8 x) (take 8 (drop (8 * i) x)) (take_octets 8 x o) (take_octets 8 (drop (8 * i) x) (drop_octets (8 * i) x o));
      }

  module _ (b : List ℕ) (long : length b ≡ 16) where
    b_long : length (take 8 b) ≡ 8
    b_long = length-take-le 8 b (omega arith)

    c_long : length (drop 8 b) ≡ 8
    c_long = length-drop 8 b ∙ omega arith

    pub replaced_long : length (replaced i b x) ≡ length x
    unfolding replaced
    replaced_long =
        let h : length (take 8 b) ≡ 8 = b_long in
        let k : length (drop 8 b) ≡ 8 = c_long in
        let l : length (take (8 * (i - 1)) (drop 8 x)) ≡ 8 * (i - 1) = before_long in
        let r : length (drop (8 * i + 8) x) ≡ length x - (8 * i + 8) = length-drop (8 * i + 8) x in
        length-append (take 8 b) (take (8 * (i - 1)) (drop 8 x) ++ (drop 8 b ++ drop (8 * i + 8) x))
        ∙ (let e = length-append (take (8 * (i - 1)) (drop 8 x)) (drop 8 b ++ drop (8 * i + 8) x) in
        let f = length-append (drop 8 b) (drop (8 * i + 8) x) in
        omega arith)

    pub replaced_octets : Octets b → Octets x → Octets (replaced i b x)
    unfolding replaced
    replaced_octets ob ox =
        append_octets (take 8 b) (take (8 * (i - 1)) (drop 8 x) ++ (drop 8 b ++ drop (8 * i + 8) x)) (take_octets 8 b ob)
        (append_octets (take (8 * (i - 1)) (drop 8 x)) (drop 8 b ++ drop (8 * i + 8) x) (take_octets (8 * (i - 1)) (drop 8 x) (drop_octets 8 x ox))
        (append_octets (drop 8 b) (drop (8 * i + 8) x) (drop_octets 8 b ob) (drop_octets (8 * i + 8) x ox)))

    -- the parts again
    new_a : take 8 (replaced i b x) ≡ take 8 b
    unfolding replaced
    new_a = take_at (take 8 b) (take (8 * (i - 1)) (drop 8 x) ++ (drop 8 b ++ drop (8 * i + 8) x)) 8 b_long

    new_tail : drop 8 (replaced i b x) ≡ take (8 * (i - 1)) (drop 8 x) ++ (drop 8 b ++ drop (8 * i + 8) x)
    unfolding replaced
    new_tail = drop_at (take 8 b) (take (8 * (i - 1)) (drop 8 x) ++ (drop 8 b ++ drop (8 * i + 8) x)) 8 b_long

    new_before : take (8 * (i - 1)) (drop 8 (replaced i b x)) ≡ take (8 * (i - 1)) (drop 8 x)
    new_before =
        ap (take (8 * (i - 1))) new_tail
        ∙ take_at (take (8 * (i - 1)) (drop 8 x)) (drop 8 b ++ drop (8 * i + 8) x) (8 * (i - 1)) before_long

    new_from : drop (8 * i) (replaced i b x) ≡ drop 8 b ++ drop (8 * i + 8) x
    new_from =
        let e : 8 * i ≡ 8 + 8 * (i - 1) = omega arith in
        ap (λ (k : ℕ). drop k (replaced i b x)) e ∙ sym (drop-drop (8 * (i - 1)) 8 (replaced i b x))
        ∙ ap (drop (8 * (i - 1))) new_tail
        ∙ drop_at (take (8 * (i - 1)) (drop 8 x)) (drop 8 b ++ drop (8 * i + 8) x) (8 * (i - 1)) before_long

    new_r : take 8 (drop (8 * i) (replaced i b x)) ≡ drop 8 b
    new_r = ap (take 8) new_from ∙ take_at (drop 8 b) (drop (8 * i + 8) x) 8 c_long

    new_rest : drop (8 * i + 8) (replaced i b x) ≡ drop (8 * i + 8) x
    new_rest = sym (drop-drop 8 (8 * i) (replaced i b x)) ∙ ap (drop 8) new_from ∙ drop_at (drop 8 b) (drop (8 * i + 8) x) 8 c_long

    -- what was put is read
    pub block_replaced : block i (replaced i b x) ≡ b
    unfolding block
    block_replaced = ap₂ ◌++◌ new_a new_r ∙ take-append-drop 8 b

    -- the later counts
    pub replaced_replaced : (c : List ℕ) → replaced i c (replaced i b x) ≡ replaced i c x
    replaced_replaced c = others i c (replaced i b x) x new_before new_rest

  -- what is read may be put
  joined : take 8 (drop (8 * i) x) ++ drop (8 * i + 8) x ≡ drop (8 * (i - 1)) (drop 8 x)
  joined =
      let e : 8 + 8 * (i - 1) ≡ 8 * i = omega arith in
      ap (λ (y : List ℕ). take 8 (drop (8 * i) x) ++ y) (sym (drop-drop 8 (8 * i) x))
      ∙ take-append-drop 8 (drop (8 * i) x)
      ∙ sym (drop-drop (8 * (i - 1)) 8 x ∙ ap (λ (k : ℕ). drop k x) e)

  pub replaced_block : replaced i (block i x) x ≡ x
  unfolding replaced block
  replaced_block =
      ap₂ (λ (y z : List ℕ). y ++ (take (8 * (i - 1)) (drop 8 x) ++ (z ++ drop (8 * i + 8) x)))
      (take_at (take 8 x) (take 8 (drop (8 * i) x)) 8 a_long) (drop_at (take 8 x) (take 8 (drop (8 * i) x)) 8 a_long)
      ∙ ap (λ (y : List ℕ). take 8 x ++ (take (8 * (i - 1)) (drop 8 x) ++ y)) joined
      ∙ ap (λ (y : List ℕ). take 8 x ++ y) (take-append-drop (8 * (i - 1)) (drop 8 x))
      ∙ take-append-drop 8 x

-- ---- the register of a step

pub register_first : (n t : ℕ) → 1 ≤ register_at n t
unfolding register_at
register_first n t = omega arith

pub register_last : (t : ℕ) (x : List ℕ) → 16 ≤ length x → 8 * register_at (register_count x) t + 8 ≤ length x
unfolding register_at register_count
register_last t x h =
    let m : (t - 1) % (length x / 8 - 1) < length x / 8 - 1 = mod-lt (t - 1) (omega arith) in
    omega arith

same_register : (t : ℕ) (x y : List ℕ) → length x ≡ length y → register_at (register_count x) t ≡ register_at (register_count y) t
unfolding register_count
same_register t x y e = ap (λ (n : ℕ). register_at (n / 8 - 1) t) e

-- ---- a step: a function f of the block with A and R[i]

read : (t : ℕ) (x : List ℕ) → Registers x → Block (block (register_at (register_count x) t) x)
read t x r = read_block (register_at (register_count x) t) x (register_first (register_count x) t) (register_last t x r.least) r.octets

module _ (t : ℕ) (f : List ℕ → List ℕ) (keeps : (b : List ℕ) → Block b → Block (f b)) (x : List ℕ) (r : Registers x) where
  made : Block (f (block (register_at (register_count x) t) x))
  made = keeps (block (register_at (register_count x) t) x) (read t x r)

  pub step_long : length (step t f x) ≡ length x
  unfolding step
  step_long =
      replaced_long (register_at (register_count x) t) x (register_first (register_count x) t) (register_last t x r.least)
      (f (block (register_at (register_count x) t) x)) made.long

  pub step_registers : Registers (step t f x)
  unfolding step
  step_registers =
      record {
        least = subst (λ (n : ℕ). 16 ≤ n) (sym step_long) r.least;
        octets =
            replaced_octets (register_at (register_count x) t) x (register_first (register_count x) t) (register_last t x r.least)
            (f (block (register_at (register_count x) t) x)) made.long made.octets r.octets;
      }

  -- a step with f and then a step with its inverse g
  pub undone : (g : List ℕ → List ℕ) → ((b : List ℕ) → Block b → g (f b) ≡ b) → step t g (step t f x) ≡ x
  unfolding step
  undone g undo =
      let i = register_at (register_count x) t in
      let one = register_first (register_count x) t in
      let last = register_last t x r.least in
      let b = f (block (register_at (register_count x) t) x) in
      let e : register_at (register_count (replaced i b x)) t ≡ i = same_register t (replaced i b x) x (replaced_long i x one last b made.long) in
      rw e
      (replaced_replaced i x one last b made.long (g (block i (replaced i b x)))
      ∙ ap (λ (y : List ℕ). replaced i (g y) x) (block_replaced i x one last b made.long)
      ∙ ap (λ (y : List ℕ). replaced i y x) (undo (block i x) (read t x r))
      ∙ replaced_block i x one last)

-- ---- both ways
module _ (ks : List ℕ) (o : Octets ks) where
  pub forward : ℕ → List ℕ → List ℕ
  forward t b = xor_count t (cipher ks b)

  pub backward : ℕ → List ℕ → List ℕ
  backward t b = inv_cipher ks (xor_count t b)

  forward_block : (t : ℕ) (b : List ℕ) → Block b → Block (forward t b)
  unfolding forward
  forward_block t b h = count_block t (cipher_block ks o h)

  backward_block : (t : ℕ) (b : List ℕ) → Block b → Block (backward t b)
  unfolding backward
  backward_block t b h = inv_cipher_block ks o (count_block t h)

  there : (t : ℕ) (b : List ℕ) → Block b → backward t (forward t b) ≡ b
  unfolding forward backward
  there t b h = ap (inv_cipher ks) (count_twice t (cipher ks b)) ∙ inv_cipher_lem ks o h

  back : (t : ℕ) (b : List ℕ) → Block b → forward t (backward t b) ≡ b
  unfolding forward backward
  back t b h = ap (xor_count t) (cipher_inv ks o (count_block t h)) ∙ count_twice t b

  pub wrap_step_registers : (t : ℕ) (x : List ℕ) → Registers x → Registers (wrap_step ks t x)
  unfolding wrap_step step forward
  wrap_step_registers t x r = step_registers t (forward t) (forward_block t) x r

  pub wrap_step_long : (t : ℕ) (x : List ℕ) → Registers x → length (wrap_step ks t x) ≡ length x
  unfolding wrap_step step forward
  wrap_step_long t x r = step_long t (forward t) (forward_block t) x r

  pub unwrap_step_registers : (t : ℕ) (x : List ℕ) → Registers x → Registers (unwrap_step ks t x)
  unfolding unwrap_step step backward
  unwrap_step_registers t x r = step_registers t (backward t) (backward_block t) x r

  pub unwrap_step_long : (t : ℕ) (x : List ℕ) → Registers x → length (unwrap_step ks t x) ≡ length x
  unfolding unwrap_step step backward
  unwrap_step_long t x r = step_long t (backward t) (backward_block t) x r

  pub step_back : (t : ℕ) (x : List ℕ) → Registers x → unwrap_step ks t (wrap_step ks t x) ≡ x
  unfolding wrap_step unwrap_step step forward backward
  step_back t x r = undone t (forward t) (forward_block t) x r (backward t) (there t)

  pub step_forth : (t : ℕ) (x : List ℕ) → Registers x → wrap_step ks t (unwrap_step ks t x) ≡ x
  unfolding wrap_step unwrap_step step forward backward
  step_forth t x r = undone t (backward t) (backward_block t) x r (forward t) (back t)

  -- all steps
  pub steps_registers : (t : ℕ) (x : List ℕ) → Registers x → Registers (wrap_steps ks t x)
  unfolding wrap_steps
  steps_registers zero x r = r
  steps_registers (suc t) x r = wrap_step_registers (suc t) (wrap_steps ks t x) (steps_registers t x r)

  pub steps_long : (t : ℕ) (x : List ℕ) → Registers x → length (wrap_steps ks t x) ≡ length x
  unfolding wrap_steps
  steps_long zero x r = refl
  steps_long (suc t) x r = wrap_step_long (suc t) (wrap_steps ks t x) (steps_registers t x r) ∙ steps_long t x r

  pub backs_registers : (t : ℕ) (x : List ℕ) → Registers x → Registers (unwrap_steps ks t x)
  unfolding unwrap_steps
  backs_registers zero x r = r
  backs_registers (suc t) x r = backs_registers t (unwrap_step ks (suc t) x) (unwrap_step_registers (suc t) x r)

  pub backs_long : (t : ℕ) (x : List ℕ) → Registers x → length (unwrap_steps ks t x) ≡ length x
  unfolding unwrap_steps
  backs_long zero x r = refl
  backs_long (suc t) x r = backs_long t (unwrap_step ks (suc t) x) (unwrap_step_registers (suc t) x r) ∙ unwrap_step_long (suc t) x r

  pub steps_back : (t : ℕ) (x : List ℕ) → Registers x → unwrap_steps ks t (wrap_steps ks t x) ≡ x
  unfolding wrap_steps unwrap_steps
  steps_back zero x r = refl
  steps_back (suc t) x r = ap (unwrap_steps ks t) (step_back (suc t) (wrap_steps ks t x) (steps_registers t x r)) ∙ steps_back t x r

  pub steps_forth : (t : ℕ) (x : List ℕ) → Registers x → wrap_steps ks t (unwrap_steps ks t x) ≡ x
  unfolding wrap_steps unwrap_steps
  steps_forth zero x r = refl
  steps_forth (suc t) x r =
      ap (wrap_step ks (suc t)) (steps_forth t (unwrap_step ks (suc t) x) (unwrap_step_registers (suc t) x r)) ∙ step_forth (suc t) x r
