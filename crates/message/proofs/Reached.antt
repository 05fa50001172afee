-- What a good walk over a body has behind it, as it would be written.
use Prim.Native.Nat.{ℕ, ◌+◌, ◌%◌, ◌≤◌}
use mathlib.Core.Path.{◌≡◌, refl, sym, ap, ◌∙◌}
use mathlib.Core.Bool.{Bool, true, ◌&&◌}
use mathlib.Core.List.{List, [], ◌∷◌, ◌++◌}
use native.Mathlib.Omega.{arith}
use lib.ListN.{length}
use lib.Dec.{leb, eqb}
use borrow.Author.Tests.{leb-true}
use Rattle.octets.specs.Number.{octet_at, number16_at, octets16, Octets}
use Rattle.octets.specs.Part.{part}
use Rattle.octets.specs.Range.{within}
use Rattle.octets.proofs.Tests.{both}
use Rattle.octets.proofs.NumberLaws.{part_octet, part_number16, number16_below}
use Rattle.octets.proofs.PartLaws.{part_join, part_length, part_none}
use Rattle.octets.proofs.RangeLaws.{inside}
use Rattle.message.specs.Limits.{header, most8, most16}
use Rattle.message.specs.Message.{vector8, vector16}
use Rattle.message.specs.Walk.{Walk, begin, past, fixed, field8, field16, profile_list}
use Rattle.message.specs.declared.framing.Kind.{Kind}
use Rattle.octets.proofs.InPart.{octet_in, number_in}
use Rattle.message.proofs.FrameSays.{Whole}
use Rattle.message.proofs.WalkSays.{past_says}
use Rattle.message.proofs.Encoded.{body_of, body_length}

-- the walk is at the offset `to` of s; the octets from the header to there, and whether the fields among them fit
pub record Reached (s : List ℕ) (w : Walk) (to : ℕ) (octets : List ℕ) (fit : Bool) : Type 0 where
  pub offset : header + w.at ≡ to
  pub same : octets ≡ part s header to
  pub fits : fit ≡ true

abbrev pub Reaches : List ℕ → Walk → (to : ℕ) (octets : List ℕ) (fit : Bool) → Type 0
Reaches s w to octets fit = w.good ≡ true → Reached s w to octets fit

pub begun : (s : List ℕ) → Reaches s begin header [] true
begun s _ = record { offset = refl; same = sym (part_none s header header (omega arith)); fits = refl }

module _ {s : List ℕ} {kind : Kind} {n : ℕ} (whole : Whole s kind n) (o : Octets s) where
  abbrev body : List ℕ
  body = body_of s n

  -- ---- what the body holds, as a part of s

  octet_piece : (at to : ℕ) → header + at ≡ to → to + 1 ≤ header + n → octet_at body at ∷ [] ≡ part s to (to + 1)
  octet_piece at to e h = rw (← e) (ap (λ (x : ℕ). x ∷ []) (octet_in s header n at (omega arith)) ∙ part_octet s (header + at) (omega arith))

  number_piece : (at to : ℕ) → header + at ≡ to → to + 2 ≤ header + n → octets16 (number16_at body at) ≡ part s to (to + 2)
  number_piece at to e h = rw (← e) (ap octets16 (number_in s header n at (omega arith)) ∙ part_number16 s (header + at) o (omega arith))

  -- ---- past a field

  module _ {w : Walk} {to : ℕ} {x : List ℕ} {fit : Bool} (r : Reaches s w to x fit) where
    -- the field is written with y, and fits where `more` holds
    step : (good : Bool) (k end : ℕ) (y : List ℕ) (more : Bool) → to + k ≡ end
        → (good ≡ true → header + w.at ≡ to → end ≤ header + n → (y ≡ part s to end) × (more ≡ true))
        → Reaches s (past (length body) good k w) end (x ++ y) (fit && more)
    step good k end y more e piece h =
        let p = past_says (length body) good k w h in
        let q = r p.before in
        let l = body_length s n whole.there in
        let z = piece p.test q.offset (omega (arith, p.inside)) in
        record {
          offset = omega (arith, p.offset, q.offset);
          same = rw (q.same, z.0) (part_join s header to end (omega (arith, q.offset)) (omega arith));
          fits = rw (q.fits, z.1);
        }

    pub past_part : (k : ℕ) → Reaches s (fixed body k w) (to + k) (x ++ part s to (to + k)) (fit && true)
    unfolding fixed
    past_part k = step true k (to + k) _ true refl (λ _ _ _. (refl, refl))

    pub past_octet : Reaches s (fixed body 1 w) (to + 1) (x ++ (octet_at body w.at ∷ [])) (fit && true)
    unfolding fixed
    past_octet = step true 1 (to + 1) _ true refl (λ _ e h. (octet_piece w.at to e h, refl))

    pub past_number : Reaches s (fixed body 2 w) (to + 2) (x ++ octets16 (number16_at body w.at)) (fit && true)
    unfolding fixed
    past_number = step true 2 (to + 2) _ true refl (λ _ e h. (number_piece w.at to e h, refl))

    -- a field of k octets behind c octets that tell its length
    vector : (tell : ℕ → List ℕ) (c k : ℕ) (good : Bool) (fits : ℕ → Bool)
        → (header + w.at ≡ to → to + c ≤ header + n → tell k ≡ part s to (to + c))
        → (header + w.at ≡ to → to + c ≤ header + n → good ≡ true → fits k ≡ true)
        → (let p = part s (to + c) (to + c + k) in
        Reaches s (past (length body) good (c + k) w) (to + c + k) (x ++ (tell (length p) ++ p)) (fit && fits (length p)))
    vector tell c k good fits told fitting =
        let p = part s (to + c) (to + c + k) in
        step good (c + k) (to + c + k) (tell (length p) ++ p) (fits (length p)) (omega arith) (λ g e h.
        let l : length p ≡ k = part_length s (to + c) (to + c + k) (omega arith) ∙ omega arith in
        let i : to + c ≤ header + n = omega arith in (
          ap (λ (j : ℕ). tell j ++ p) l ∙ ap (λ (y : List ℕ). y ++ p) (told e i) ∙ part_join s to (to + c) (to + c + k) (omega arith) (omega arith),
          ap fits l ∙ fitting e i g,
        ))

    pub past_field8 : (least : ℕ)
        → (let p = part s (to + 1) (to + 1 + octet_at body w.at) in
        Reaches s (field8 body least w) (to + 1 + octet_at body w.at) (x ++ vector8 p) (fit && within least most8 (length p)))
    unfolding field8
    past_field8 least =
        let k = octet_at body w.at in
        vector (λ j. j ∷ []) 1 k (leb least k) (within least most8) (octet_piece w.at to) (λ e i g.
        inside least most8 k (leb-true _ _ g) (omega (arith, octet_in s header n w.at (omega arith), o (header + w.at))))

    number_fits : header + w.at ≡ to → to + 2 ≤ header + n → leb 1 (number16_at body w.at) ≡ true → within 1 most16 (number16_at body w.at) ≡ true
    number_fits e i g = inside 1 most16 _ (leb-true _ _ g) (omega (arith, number_in s header n w.at (omega arith), number16_below s (header + w.at) o))

    pub past_field16 : (let p = part s (to + 2) (to + 2 + number16_at body w.at) in
        Reaches s (field16 body w) (to + 2 + number16_at body w.at) (x ++ vector16 p) (fit && within 1 most16 (length p)))
    unfolding field16
    past_field16 =
        let k = number16_at body w.at in
        vector octets16 2 k (leb 1 k) (within 1 most16) (number_piece w.at to) number_fits

    pub past_list : (let p = part s (to + 2) (to + 2 + number16_at body w.at) in
        Reaches s (profile_list body w) (to + 2 + number16_at body w.at) (x ++ vector16 p) (fit && (within 1 most16 (length p) && eqb (length p % 2) 0)))
    unfolding profile_list
    past_list =
        let k = number16_at body w.at in
        vector octets16 2 k (leb 1 k && eqb (k % 2) 0) (λ j. within 1 most16 j && eqb (j % 2) 0) (number_piece w.at to) (λ e i g.
        let t = both (leb 1 k) (eqb (k % 2) 0) g in
        rw (number_fits e i t.0, t.1))
