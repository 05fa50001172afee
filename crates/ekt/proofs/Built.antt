-- A tag that is built behind any front splits into exactly what it was built from.
use Prim.Native.Nat.{ℕ, ◌+◌, ◌-◌, ◌≤◌, ◌<◌}
use mathlib.Core.Path.{◌≡◌, refl, sym, ap, ◌∙◌}
use mathlib.Core.List.{List, [], ◌∷◌, ◌++◌, append_assoc}
use native.Mathlib.Omega.{arith}
use lib.ListN.{length, length-append}
use lib.Seq.{get_or_at}
use borrow.Author.Tests.{ne_eqb}
use Rattle.octets.specs.Number.{octet_at, number16_at, octets16}
use Rattle.octets.specs.Part.{part}
use Rattle.octets.specs.Bounds.{part_in}
use Rattle.octets.proofs.NumberLaws.{number16_behind}
use Rattle.octets.proofs.PartLaws.{part_behind}
use Rattle.octets.proofs.RangeLaws.{inside}
use Rattle.ekt.specs.Limits.{ciphertext_limit, data_limit, full_trailer, extension_trailer}
use Rattle.ekt.specs.Grammar.{short_tag, full_tag, extension_tag}
use Rattle.ekt.specs.Splitting
use Rattle.ekt.specs.Splitting.{Split, form_of, tag_length, length_fits, split_full, split_extension, split_form, splitting}
use Rattle.ekt.specs.Parts.{front_bounds, ciphertext_bounds, data_bounds, front, ciphertext, extension_data}
use Rattle.ekt.specs.declared.splitting.Form.{Form}
use Rattle.ekt.specs.Claims.{Splits}
use Rattle.ekt.proofs.LengthLaws.{does_fit, length_there}

-- it is enough to know the answer and the parts between its bounds
splits : (p : List ℕ) (s : Split) (f c d : List ℕ) → splitting p ≡ s
    → part_in p (front_bounds s) ≡ f → part_in p (ciphertext_bounds s) ≡ c → part_in p (data_bounds s) ≡ d → Splits p s f c d
unfolding front ciphertext extension_data
splits p s f c d e hf hc hd = record {
  answer = e;
  in_front = ap (λ (x : Split). part_in p (front_bounds x)) e ∙ hf;
  encrypted = ap (λ (x : Split). part_in p (ciphertext_bounds x)) e ∙ hc;
  extended = ap (λ (x : Split). part_in p (data_bounds x)) e ∙ hd;
}

nowhere_empty : (p : List ℕ) → part p 0 0 ≡ []
unfolding part
nowhere_empty p = refl

-- the front is what stands before an offset
front_at : (f q : List ℕ) → part (f ++ q) 0 (length f) ≡ f
front_at f q = part_behind [] f q 0 (length f) refl (omega arith)

-- ---- what stands at the end of a packet

module _ (p a : List ℕ) where
  -- a packet that ends in an octet splits by that octet
  ends_in : (t : ℕ) → p ≡ a ++ (t ∷ []) → splitting p ≡ split_form p t (form_of t)
  unfolding splitting
  ends_in t e =
      let n : length p ≡ length a + 1 = ap length e ∙ length-append a (t ∷ []) in
      let l : octet_at p (length p - 1) ≡ t = ap (λ (x : List ℕ). octet_at x (length p - 1)) e ∙ get_or_at a t [] 0 (length p - 1) (omega arith) in
      rw (ne_eqb (length p) 0 (omega arith), l)

  -- the length of a tag, where it stands
  ends_in_length : (n t : ℕ) → n < 65536 → p ≡ a ++ (octets16 n ++ (t ∷ [])) → tag_length p ≡ n
  ends_in_length n t h e =
      let l : length p ≡ length a + 3 = ap length e ∙ simp length-append refl in
      length_there p (omega arith)
      ∙ ap (λ (x : List ℕ). number16_at x (length p - 3)) e
      ∙ number16_behind a (t ∷ []) n (length p - 3) (omega arith) h

-- ---- the three forms

regroup : (f c a b : List ℕ) → f ++ (c ++ a ++ b) ≡ (f ++ c) ++ (a ++ b)
regroup f c a b = simp append_assoc

regroup_more : (f c a b d e : List ℕ) → f ++ (c ++ a ++ b ++ d ++ e) ≡ (f ++ c) ++ (a ++ (b ++ (d ++ e)))
regroup_more f c a b d e = simp append_assoc

-- the part between a front and the rest
behind_front : (p f x q : List ℕ) → p ≡ (f ++ x) ++ q → part p (length f) (length f + length x) ≡ x
behind_front p f x q e =
    ap (λ (y : List ℕ). part y (length f) (length f + length x)) (e ∙ append_assoc f x q)
    ∙ part_behind f x q (length f) (length f + length x) refl refl

pub short_splits : (f : List ℕ) → Splits (f ++ short_tag) (Splitting.short (length f)) f [] []
unfolding form_of
short_splits f =
    let p = f ++ short_tag in
    let n : length p - 1 ≡ length f = simp length-append (omega arith) in
    splits p (Splitting.short (length f)) f [] []
    (ends_in p f 0 refl ∙ ap Splitting.short n) (front_at f short_tag) (nowhere_empty p) (nowhere_empty p)

module _ (f d : List ℕ) (t : ℕ) (h1 : 3 ≤ t) (h2 : t ≤ 255) (h3 : 1 ≤ length d) (h4 : length d ≤ 1024) where
  abbrev extended_packet : List ℕ
  extended_packet = f ++ extension_tag t d

  abbrev extended_split : Split
  extended_split = Splitting.extension t (length f) (length f + length d)

  extended_grouped : extended_packet ≡ (f ++ d) ++ (octets16 (length d + extension_trailer) ++ (t ∷ []))
  extended_grouped = regroup f d (octets16 (length d + extension_trailer)) (t ∷ [])

  extended_last : extended_packet ≡ ((f ++ d) ++ octets16 (length d + extension_trailer)) ++ (t ∷ [])
  extended_last = extended_grouped ∙ sym (append_assoc (f ++ d) (octets16 (length d + extension_trailer)) (t ∷ []))

  extended_form : form_of t ≡ Form.Extension
  unfolding form_of
  extended_form = simp (ne_eqb t 0 (omega arith), ne_eqb t 2 (omega arith), inside 3 255 t h1 h2)

  extended_answer : splitting extended_packet ≡ extended_split
  unfolding split_extension
  extended_answer =
      let p = extended_packet in
      let n : length p ≡ length f + length d + 3 = simp length-append (omega arith) in
      let l : tag_length p ≡ length d + extension_trailer = ends_in_length p (f ++ d) (length d + extension_trailer) t (omega arith) extended_grouped in
      let k : length_fits p extension_trailer data_limit ≡ _ = does_fit p extension_trailer data_limit (record { least = omega arith; longest = omega arith; there = omega arith }) in
      let s : length p - tag_length p ≡ length f = omega arith in
      let e : length p - extension_trailer ≡ length f + length d = omega arith in
      ends_in p ((f ++ d) ++ octets16 (length d + extension_trailer)) t extended_last
      ∙ ap (split_form p t) extended_form
      ∙ rw (k, s, e)

  pub extension_splits : Splits extended_packet extended_split f [] d
  extension_splits =
      let p = extended_packet in
      splits p extended_split f [] d extended_answer (front_at f (extension_tag t d)) (nowhere_empty p)
      (behind_front p f d (octets16 (length d + extension_trailer) ++ (t ∷ [])) extended_grouped)

module _ (f c : List ℕ) (spi epoch : ℕ) (h1 : 1 ≤ length c) (h2 : length c ≤ 251) (h3 : spi < 65536) (h4 : epoch < 65536) where
  abbrev full_packet : List ℕ
  full_packet = f ++ full_tag c spi epoch

  abbrev full_split : Split
  full_split = Splitting.full spi epoch (length f) (length f + length c)

  abbrev full_length : List ℕ
  full_length = octets16 (length c + full_trailer) ++ (2 ∷ [])

  grouped_spi : full_packet ≡ (f ++ c) ++ (octets16 spi ++ (octets16 epoch ++ full_length))
  grouped_spi = regroup_more f c (octets16 spi) (octets16 epoch) (octets16 (length c + full_trailer)) (2 ∷ [])

  grouped_epoch : full_packet ≡ ((f ++ c) ++ octets16 spi) ++ (octets16 epoch ++ full_length)
  grouped_epoch = grouped_spi ∙ sym (append_assoc (f ++ c) (octets16 spi) (octets16 epoch ++ full_length))

  grouped_length : full_packet ≡ (((f ++ c) ++ octets16 spi) ++ octets16 epoch) ++ full_length
  grouped_length = grouped_epoch ∙ sym (append_assoc ((f ++ c) ++ octets16 spi) (octets16 epoch) full_length)

  grouped_last : full_packet ≡ ((((f ++ c) ++ octets16 spi) ++ octets16 epoch) ++ octets16 (length c + full_trailer)) ++ (2 ∷ [])
  grouped_last = grouped_length ∙ sym (append_assoc (((f ++ c) ++ octets16 spi) ++ octets16 epoch) (octets16 (length c + full_trailer)) (2 ∷ []))

  full_answer : splitting full_packet ≡ full_split
  unfolding form_of split_full
  full_answer =
      let p = full_packet in
      let n : length p ≡ length f + length c + 7 = simp length-append (omega arith) in
      let l : tag_length p ≡ length c + full_trailer = ends_in_length p (((f ++ c) ++ octets16 spi) ++ octets16 epoch) (length c + full_trailer) 2 (omega arith) grouped_length in
      let k : length_fits p full_trailer ciphertext_limit ≡ _ = does_fit p full_trailer ciphertext_limit (record { least = omega arith; longest = omega arith; there = omega arith }) in
      let s : length p - tag_length p ≡ length f = omega arith in
      let e : length p - full_trailer ≡ length f + length c = omega arith in
      let x : number16_at p (length p - 7) ≡ spi =
      ap (λ (y : List ℕ). number16_at y (length p - 7)) grouped_spi
      ∙ number16_behind (f ++ c) (octets16 epoch ++ full_length) spi (length p - 7) (simp length-append (omega arith)) h3 in
      let z : number16_at p (length p - 5) ≡ epoch =
      ap (λ (y : List ℕ). number16_at y (length p - 5)) grouped_epoch
      ∙ number16_behind ((f ++ c) ++ octets16 spi) full_length epoch (length p - 5) (simp length-append (omega arith)) h4 in
      ends_in p ((((f ++ c) ++ octets16 spi) ++ octets16 epoch) ++ octets16 (length c + full_trailer)) 2 grouped_last
      ∙ rw (k, x, z, s, e)

  pub full_splits : Splits full_packet full_split f c []
  full_splits =
      let p = full_packet in
      splits p full_split f c [] full_answer (front_at f (full_tag c spi epoch))
      (behind_front p f c (octets16 spi ++ (octets16 epoch ++ full_length)) grouped_spi)
      (nowhere_empty p)
