-- Laws of a list cut into pieces of one length.
use Prim.Native.Nat.{ℕ, zero, suc, ◌+◌, ◌*◌, ◌≤◌, ◌<◌}
use mathlib.Core.Path.{◌≡◌, refl, sym, ap, ◌∙◌}
use mathlib.Core.List.{List, [], ◌∷◌, ◌++◌, append_assoc}
use native.Mathlib.Nat.{le_of_suc-le-suc, not-suc-le-zero, suc-mul, zero-mul, suc-add, zero-add, add_comm}
use native.Mathlib.Omega.{arith}
use lib.ListN.{length, get_or, drop, take, set, replicate, length-drop}
use lib.Seq.{drop-drop, take_at, drop_at, take-add, length-take-le}
use Rattle.octets.specs.Write.{over}
use Rattle.rules.specs.Layout.{chunks}

pub chunks_length : (k w : ℕ) (l : List ℕ) → length (chunks k w l) ≡ k
unfolding chunks
chunks_length zero w l = refl
chunks_length (suc k) w l = ap suc (chunks_length k w (drop w l))

pub chunks_at : (k w : ℕ) (l : List ℕ) (i : ℕ) → i < k → get_or (chunks k w l) i [] ≡ take w (drop (i * w) l)
unfolding chunks
chunks_at zero w l i h = absurd (not-suc-le-zero h)
chunks_at (suc k) w l zero h = rw zero-mul
chunks_at (suc k) w l (suc i) h =
    chunks_at k w (drop w l) i (le_of_suc-le-suc h)
    ∙ rw (suc-mul, add_comm (i * w) w) (ap (take w) (drop-drop (i * w) w l))

-- ---- another piece

put_zero : (w : ℕ) (v l : List ℕ) → length v ≡ w → over l (0 * w) v ≡ v ++ drop w l
put_zero w v l e = rw (zero-mul, e, zero-add)

put_suc : (w i : ℕ) (v l : List ℕ) → over l (suc i * w) v ≡ take w l ++ over (drop w l) (i * w) v
put_suc w i v l =
    let a : take (suc i * w) l ≡ take w l ++ take (i * w) (drop w l) = rw (suc-mul, add_comm (i * w) w) (take-add w (i * w) l) in
    let n : suc i * w + length v ≡ w + (i * w + length v) = rw suc-mul (omega arith) in
    let b : drop (suc i * w + length v) l ≡ drop (i * w + length v) (drop w l) = rw n (sym (drop-drop (i * w + length v) w l)) in
    rw (a, b) (simp append_assoc)

pub chunks_over : (k w : ℕ) (l v : List ℕ) (i : ℕ) → i < k → length v ≡ w → k * w ≤ length l
    → chunks k w (over l (i * w) v) ≡ set (chunks k w l) i v
unfolding chunks
chunks_over zero w l v i h e g = absurd (not-suc-le-zero h)
chunks_over (suc k) w l v zero h e g = rw (put_zero w v l e, take_at v (drop w l) w e, drop_at v (drop w l) w e)
chunks_over (suc k) w l v (suc i) h e g =
    let m = rw suc-mul at g in
    let a : length (take w l) ≡ w = length-take-le w l (omega arith) in
    let b : k * w ≤ length (drop w l) = rw length-drop (omega arith) in
    let x = over (drop w l) (i * w) v in
    rw (put_suc w i v l, take_at (take w l) x w a, drop_at (take w l) x w a)
    (ap (λ (r : List (List ℕ)). take w l ∷ r) (chunks_over k w (drop w l) v i (le_of_suc-le-suc h) e b))

-- ---- of one element, with others behind

replicate_take : (w n x : ℕ) (q : List ℕ) → take w (replicate (w + n) x ++ q) ≡ replicate w x
replicate_take zero n x q = refl
replicate_take (suc w) n x q = rw (suc-add w n) (ap (λ (l : List ℕ). x ∷ l) (replicate_take w n x q))

replicate_drop : (w n x : ℕ) (q : List ℕ) → drop w (replicate (w + n) x ++ q) ≡ replicate n x ++ q
replicate_drop zero n x q = rw zero-add
replicate_drop (suc w) n x q = rw (suc-add w n) (replicate_drop w n x q)

pub chunks_replicate : (k w x : ℕ) (q : List ℕ) → chunks k w (replicate (k * w) x ++ q) ≡ replicate k (replicate w x)
unfolding chunks
chunks_replicate zero w x q = refl
chunks_replicate (suc k) w x q =
    rw (suc-mul, add_comm (k * w) w, replicate_take w (k * w) x q, replicate_drop w (k * w) x q)
    (ap (λ (l : List (List ℕ)). replicate w x ∷ l) (chunks_replicate k w x q))

pub replicate_add : (n m x : ℕ) → replicate (n + m) x ≡ replicate n x ++ replicate m x
replicate_add zero m x = rw zero-add
replicate_add (suc n) m x = rw (suc-add n m) (ap (λ (l : List ℕ). x ∷ l) (replicate_add n m x))
