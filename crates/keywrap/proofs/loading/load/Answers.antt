use Prim.Native.Nat.{ℕ, ◌+◌, ◌-◌, ◌≤◌, ◌<◌}
use mathlib.Core.Path.{◌≡◌, refl, ap, ◌∙◌}
use mathlib.Core.List.{◌++◌}
use native.Mathlib.Omega.{arith}
use lib.ListN.{length, drop, length-append, length-drop}
use lib.Seq.{length-take-le}
use borrow.Rule.Slice.PartMut.{put_mid}
use Rattle.keywrap.specs.Padding.{padding}
use Rattle.keywrap.proofs.CodeLaws.{last_cleared, last_long, put_frame}
use Rattle.keywrap.proofs.PaddingLaws.{initial_long}
use Rattle.keywrap.proofs.loading.load.Goals as goal

few : (m : ℕ) → padding m < 8
unfolding padding
few m = omega arith

pub overflow_sub-last : goal.overflow_sub-last
overflow_sub-last c = omega (arith, c.requires.2, initial_long c.args.plaintext.now (omega arith) (omega arith))

pub copy_from_slice-requires : goal.copy_from_slice-requires
copy_from_slice-requires c =
    let x = c.args.x.now in
    let n = length x in
    let s : 8 ≤ n = omega (arith, c.requires.2, initial_long c.args.plaintext.now (omega arith) (omega arith)) in
    let k : n - (n - 8) ≡ 8 = omega arith in
    length-take-le (n - (n - 8)) (drop (n - 8) x) (omega (arith, length-drop (n - 8) x)) ∙ k

pub copy_from_slice-requires-2 : goal.copy_from_slice-requires-2
copy_from_slice-requires-2 c =
    let x = c.args.x.now in
    let n = length x in
    let q = c.copy_from_slice.new.self in
    let s : 8 ≤ n = omega (arith, c.requires.2, initial_long c.args.plaintext.now (omega arith) (omega arith)) in
    length-take-le 8 (put_mid (n - 8) (n - (n - 8)) x q) (omega (arith, last_long x q s c.copy_from_slice.ensures.after))

pub slice_bounds-copy_from_slice-end-6 : goal.slice_bounds-copy_from_slice-end-6
slice_bounds-copy_from_slice-end-6 c =
    let p = c.args.plaintext.now in
    let x = c.args.x.now in
    let n = length x in
    let q = c.copy_from_slice.new.self in
    let y = put_mid (n - 8) (n - (n - 8)) x q in
    let a = c.copy_from_slice-2.new.self in
    let t = initial_long p (omega arith) (omega arith) in
    let s : 8 ≤ n = omega (arith, c.requires.2, t) in
    let l : length a ≡ 8 = ap length c.copy_from_slice-2.ensures.after in
    let r : 8 + length p ≤ length (a ++ drop 8 y) =
    omega (arith, t, c.requires.2, last_long x q s c.copy_from_slice.ensures.after, length-append a (drop 8 y), length-drop 8 y) in
    r

pub returns : goal.returns
returns c =
    let p = c.args.plaintext.now in
    let x = c.args.x.now in
    let t = initial_long p (omega arith) (omega arith) in
    let n : length x ≡ 8 + (length p + padding (length p)) = c.requires.2 ∙ t in
    let s : 8 ≤ length x = omega arith in
    let k : 8 + length p - 8 ≡ length p = omega arith in
    rw (k, c.copy_from_slice-3.ensures.after, c.copy_from_slice-2.ensures.after, last_cleared x c.copy_from_slice.new.self s c.copy_from_slice.ensures.after)
    (put_frame p x (length x) (omega arith) refl n (few (length p)))
