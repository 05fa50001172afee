-- What splitting says of any packet: the front and a tag of the grammar put together are the packet, or refusal 18.
use Prim.Native.Nat.{ℕ, ◌+◌, ◌-◌, ◌≤◌}
use mathlib.Core.Path.{◌≡◌, refl, sym, ap, ◌∙◌}
use mathlib.Core.List.{List, [], ◌∷◌, ◌++◌}
use native.Mathlib.Omega.{arith}
use lib.Dec.{eqb}
use lib.ListN.{length}
use lib.Seq.{take-length}
use borrow.Author.Tests.{eqb-true, eqb-false}
use Rattle.octets.specs.Number.{octet_at, number16_at, octets16, Octets}
use Rattle.octets.specs.Part.{part}
use Rattle.octets.specs.Range.{within}
use Rattle.octets.proofs.Tests.{by_choice}
use Rattle.octets.proofs.NumberLaws.{part_octet, part_number16, number16_below}
use Rattle.octets.proofs.PartLaws.{part_join, part_length, part_front}
use Rattle.octets.proofs.RangeLaws.{within_true}
use Rattle.ekt.specs.Limits.{ciphertext_limit, data_limit, full_trailer, extension_trailer}
use Rattle.ekt.specs.Grammar
use Rattle.ekt.specs.Grammar.{IsTag, short_tag, full_tag, extension_tag}
use Rattle.ekt.specs.Splitting.{full, extension, form_of, tag_length, length_fits, split_full, split_extension, split_form, splitting}
use Rattle.ekt.specs.declared.splitting.Form.{Form}
use Rattle.ekt.specs.Claims.{Ends, Says}
use Rattle.ekt.proofs.LengthLaws.{LengthFits, fits_says, length_there}

-- which octet a form comes from
abbrev FormSays : ℕ → Form → Type 0
FormSays t Form.Short = t ≡ 0
FormSays t Form.Full = t ≡ 2
FormSays t Form.Extension = (3 ≤ t) × (t ≤ 255)
FormSays t Form.Unavailable = Unit {0}

form_says : (t : ℕ) → FormSays t (form_of t)
unfolding form_of
form_says t =
    by_choice (FormSays t) (eqb t 0) _ _ (λ e. eqb-true t 0 e) (λ _.
    by_choice (FormSays t) (eqb t 2) _ _ (λ e. eqb-true t 2 e) (λ _.
    by_choice (FormSays t) (within 3 255 t) _ _ (λ e. within_true 3 255 t e) (λ _. tt)))

-- a front and what follows it to the end
joined : (p : List ℕ) (a : ℕ) → a ≤ length p → part p 0 a ++ part p a (length p) ≡ p
joined p a h = part_join p 0 a (length p) (omega arith) h ∙ part_front p (length p) ∙ take-length p

-- offsets counted from the end
closer : (n k j : ℕ) → k + j ≤ n → n - (k + j) + j ≡ n - k
closer n k j h = omega arith

-- the contents and their trailer are as long as the length says
contents_length : (p : List ℕ) (trailer most : ℕ) → LengthFits p trailer most
    → length (part p (length p - tag_length p) (length p - trailer)) + trailer ≡ tag_length p
contents_length p trailer most f =
    ap (λ (n : ℕ). n + trailer) (part_length p (length p - tag_length p) (length p - trailer) (omega arith)) ∙ omega (arith, f)

module _ (p : List ℕ) (o : Octets p) (t : ℕ) (last : octet_at p (length p - 1) ≡ t) (some : length p ≡ 0 → ⊥) where
  -- the last octet as a part
  last_part : t ∷ [] ≡ part p (length p - 1) (length p)
  last_part =
      let e : length p - 1 + 1 ≡ length p = omega arith in
      ap (λ (x : ℕ). x ∷ []) (sym last)
      ∙ part_octet p (length p - 1) (omega arith)
      ∙ ap (part p (length p - 1)) e

  short_says : t ≡ 0 → Ends p (length p - 1) short_tag
  short_says z = record {
    whole = ap (λ (x : List ℕ). part p 0 (length p - 1) ++ x) (ap (λ (x : ℕ). x ∷ []) (sym z) ∙ last_part) ∙ joined p (length p - 1) (omega arith);
    is_tag = Grammar.short;
  }

  -- the length octets as a part, where the contents fill what the length says
  length_part : (n : ℕ) → 3 ≤ length p → n ≡ tag_length p → octets16 n ≡ part p (length p - 3) (length p - 1)
  length_part n h e =
      let k : length p - 3 + 2 ≡ length p - 1 = omega arith in
      ap octets16 (e ∙ length_there p h) ∙ part_number16 p (length p - 3) o (omega arith) ∙ ap (part p (length p - 3)) k

  extension_says : (3 ≤ t) × (t ≤ 255) → LengthFits p extension_trailer data_limit
      → Says p (extension t (length p - tag_length p) (length p - extension_trailer))
  extension_says r f =
      let a : ℕ = length p - tag_length p in
      let d = part p a (length p - 3) in
      let n = contents_length p extension_trailer data_limit f in
      let l = length_part (length d + extension_trailer) (omega (arith, f)) n in
      record {
        whole =
            ap (λ (x : List ℕ). part p 0 a ++ x)
            (rw (l, last_part, part_join p a (length p - 3) (length p - 1) (omega (arith, f)) (omega arith), part_join p a (length p - 1) (length p) (omega (arith, f)) (omega arith)))
            ∙ joined p a (omega arith);
        is_tag = Grammar.extension t d r.0 r.1 (omega (arith, f)) (omega (arith, f));
      }

  full_says : t ≡ 2 → LengthFits p full_trailer ciphertext_limit
      → Says p (full (number16_at p (length p - 7)) (number16_at p (length p - 5)) (length p - tag_length p) (length p - full_trailer))
  full_says z f =
      let a : ℕ = length p - tag_length p in
      let h : a ≤ length p - 1 = omega (arith, f) in
      let k : length p - 7 + 2 ≡ length p - 5 = closer (length p) 5 2 (omega (arith, f)) in
      let m : length p - 5 + 2 ≡ length p - 3 = closer (length p) 3 2 (omega (arith, f)) in
      let s : octets16 (number16_at p (length p - 7)) ≡ part p (length p - 7) (length p - 5) = part_number16 p (length p - 7) o (omega (arith, f)) ∙ ap (part p (length p - 7)) k in
      let e : octets16 (number16_at p (length p - 5)) ≡ part p (length p - 5) (length p - 3) = part_number16 p (length p - 5) o (omega (arith, f)) ∙ ap (part p (length p - 5)) m in
      let c = part p a (length p - 7) in
      let n = contents_length p full_trailer ciphertext_limit f in
      let l = length_part (length c + full_trailer) (omega (arith, f)) n in
      let w : 2 ∷ [] ≡ part p (length p - 1) (length p) = ap (λ (x : ℕ). x ∷ []) (sym z) ∙ last_part in
      record {
        whole =
            ap (λ (x : List ℕ). part p 0 a ++ x)
            (rw (
              s,
              e,
              l,
              w,
              part_join p a (length p - 7) (length p - 5) (omega (arith, f)) (omega arith),
              part_join p a (length p - 5) (length p - 3) (omega (arith, f)) (omega arith),
              part_join p a (length p - 3) (length p - 1) (omega (arith, f)) (omega arith),
              part_join p a (length p - 1) (length p) h (omega arith),
            ))
            ∙ joined p a (omega arith);
        is_tag = Grammar.full c _ _ (omega (arith, f, n)) (omega (arith, f, n)) (number16_below p _ o) (number16_below p _ o);
      }

  by_form : (f : Form) → FormSays t f → Says p (split_form p t f)
  unfolding split_full split_extension
  by_form Form.Short h = short_says h
  by_form Form.Full h = by_choice (Says p) (length_fits p full_trailer ciphertext_limit) _ _ (λ e. full_says h (fits_says p full_trailer ciphertext_limit e)) (λ _. refl)
  by_form Form.Extension h = by_choice (Says p) (length_fits p extension_trailer data_limit) _ _ (λ e. extension_says h (fits_says p extension_trailer data_limit e)) (λ _. refl)
  by_form Form.Unavailable h = refl

-- the theorem
pub split_says : (p : List ℕ) → Octets p → Says p (splitting p)
unfolding splitting
split_says p o =
    by_choice (Says p) (eqb (length p) 0) _ _ (λ _. refl) (λ e.
    let t = octet_at p (length p - 1) in
    by_form p o t refl (eqb-false _ _ e) (form_of t) (form_says t))
