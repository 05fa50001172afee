-- A refusal is told from every other answer by the top bit, and its low octet is its number.
use Prim.Native.Nat.{ℕ, ◌^◌, ◌≤◌, ◌<◌}
use mathlib.Core.Path.{◌≡◌, refl}
use mathlib.Core.Bool.{Bool, true, false, not, ◌&&◌}
use mathlib.Core.List.{List, [], ◌∷◌}
use native.Mathlib.Omega.{arith}
use borrow.Author.Tests.{ltb-true, ltb-false, not-false}
use lib.Dec.{ltb, eqb}
use lib.ListN.{length, get_or}
use Rattle.octets.specs.Number.{Octets}
use Rattle.octets.proofs.Tests.{by_choice, both}
use Rattle.demux.specs.Sorting as Sort
use Rattle.demux.specs.declared.sorting.Kind.{Kind}
use Rattle.message.specs.Limits.{body_limit}
use Rattle.message.specs.Message.{Message, encode, encode_body}
use Rattle.message.specs.Read as Read
use Rattle.message.specs.Parts.{meaning}
use Rattle.message.specs.Write as Write
use Rattle.message.specs.declared.bodies.Fields.{Fields}
use Rattle.message.specs.declared.bodies.Fields.TheVariants.{SupportedProfiles, UnsupportedVersion, MediaKeys, TunneledDtls, EndpointDisconnect}
use Rattle.message.proofs.AnswerLaws.{encode_length}
use Rattle.ekt.specs.Splitting as Split
use Rattle.octets.specs.Range.{within}
use Rattle.keywrap.specs.Limits.{key_length, plaintext_most}
use Rattle.keywrap.specs.Padding.{wrap, accepted, unwrap}
use Rattle.keywrap.specs.Calls as KeyWrap
use Rattle.keywrap.proofs.Accepted.{wrapped_few, unwrapped_few}
use Rattle.octets.specs.Part.{same}
use Rattle.status.specs.Limits.{places}
use Rattle.status.specs.Entries.{good, state_of}
use Rattle.status.specs.Page.{layout, count_of, decoded, is_page, no_entry, counting, picking}
use Rattle.status.proofs.ListLaws.{good_listable}
use Rattle.status.proofs.PageLaws.{decoded_length}
use Rattle.status.proofs.ReadLaws.{page_few}
use Rattle.shawm.specs.Numbers.{number_in, field_number}
use Rattle.shawm.specs.Tag.{spi_or_epoch, tag_number}
use Rattle.packetindex.specs.Estimating as Index
use Rattle.packetindex.specs.Nearest.{Fits, no_such_index, key_spent, Says}
use Rattle.packetindex.specs.declared.stream.Stream.{Stream}
use Rattle.packetindex.proofs.NearestIndex.{estimate_says}
use Rattle.shawm.specs.Claims.{SortTopBit, ReadTopBit, WriteTopBit, TagTopBit, WrapTopBit, EstimateTopBit, CountTopBit, EntryTopBit}
use Rattle.shawm.proofs.ReadLimits.{ReadLimits, reading_limits}
use Rattle.shawm.proofs.SplitLimits.{SplitLimits, splitting_limits}

-- ---- sorting

kind_top_bit : (k : Kind) → SortTopBit (Sort.kind k)
kind_top_bit Kind.Stun = omega arith
kind_top_bit Kind.Dtls = omega arith
kind_top_bit Kind.Rtp = omega arith
kind_top_bit Kind.Other = omega arith
kind_top_bit Kind.Zrtp = omega arith
kind_top_bit Kind.TurnChannel = omega arith

pub sort_top_bit : (packet : List ℕ) → SortTopBit (Sort.sorting packet)
unfolding Sort.sorting
sort_top_bit [] = (refl, omega arith)
sort_top_bit (first ∷ rest) = kind_top_bit (Sort.kind_of first)

-- ---- reading

fields_top_bit : (s : List ℕ) (f : Fields) (taken : ℕ) → ReadTopBit s (Read.accepted f taken)
unfolding meaning
fields_top_bit s (SupportedProfiles version n) taken = omega arith
fields_top_bit s (UnsupportedVersion version) taken = omega arith
fields_top_bit s (MediaKeys profile k) taken = omega arith
fields_top_bit s (TunneledDtls n) taken = omega arith
fields_top_bit s EndpointDisconnect taken = omega arith

answer_top_bit : (s : List ℕ) (a : Read.Answer) → ReadLimits s a → ReadTopBit s a
answer_top_bit s Read.more_needed l = omega arith
answer_top_bit s (Read.refused number taken) l = (refl, l)
answer_top_bit s (Read.accepted f taken) l = fields_top_bit s f taken

pub read_top_bit : (s : List ℕ) → ReadTopBit s (Read.reading s)
read_top_bit s = answer_top_bit s (Read.reading s) (reading_limits s)

-- the version and the profile have 16 bits
module _ (s : List ℕ) (o : Octets s) (field : ℕ) where
  number_small : (a : Read.Answer) → ReadLimits s a → field_number a field < 2 ^ 16
  unfolding number_in
  number_small Read.more_needed l = omega arith
  number_small (Read.refused number taken) l = omega arith
  number_small (Read.accepted f taken) l =
      let P : ℕ → Type 0 = λ n. n < 2 ^ 16 in
      by_choice P (eqb field 16) _ _ (λ _. (l.small o).0) (λ _. by_choice P (eqb field 17) _ _ (λ _. (l.small o).1) (λ _. omega arith))

  pub field_number_small : field_number (Read.reading s) field < 2 ^ 16
  field_number_small = number_small (Read.reading s) (reading_limits s)

-- ---- writing

pub write_top_bit : (m : Message) (room : ℕ) → WriteTopBit (Write.writing m room)
unfolding Write.writing
write_top_bit m room =
    by_choice WriteTopBit (not (Write.identifier_fits m)) _ _ (λ _. (refl, omega arith)) (λ _.
    by_choice WriteTopBit (not (Write.fields_fit m)) _ _ (λ _. (refl, omega arith)) (λ _.
    by_choice WriteTopBit (ltb body_limit (length (encode_body m))) _ _ (λ _. (refl, omega arith)) (λ small.
    by_choice WriteTopBit (ltb room (length (encode m))) _ _ (λ _. (refl, omega arith)) (λ _.
    omega (arith, encode_length m, ltb-false body_limit (length (encode_body m)) small)))))

-- ---- wrapping and unwrapping

module _ (key : List ℕ) (ok : Octets key) (room : ℕ) where
  pub wrap_top_bit : (p : List ℕ) → Octets p → WrapTopBit (KeyWrap.wrapping key p room)
  unfolding KeyWrap.wrapping
  wrap_top_bit p op =
      by_choice WrapTopBit (not (eqb (length key) key_length)) _ _ (λ _. (refl, omega arith)) (λ _.
      by_choice WrapTopBit (not (within 1 plaintext_most (length p))) _ _ (λ _. (refl, omega arith)) (λ w.
      by_choice WrapTopBit (ltb room (length (wrap key p))) _ _ (λ _. (refl, omega arith)) (λ _.
      omega (arith, wrapped_few key ok p op (not-false _ w)))))

  pub unwrap_top_bit : (c : List ℕ) → Octets c → WrapTopBit (KeyWrap.unwrapping key c room)
  unfolding KeyWrap.unwrapping
  unwrap_top_bit c oc =
      by_choice WrapTopBit (not (eqb (length key) key_length)) _ _ (λ _. (refl, omega arith)) (λ _.
      by_choice WrapTopBit (not (accepted key c)) _ _ (λ _. (refl, omega arith)) (λ a.
      by_choice WrapTopBit (ltb room (length (unwrap key c))) _ _ (λ _. (refl, omega arith)) (λ _.
      omega (arith, unwrapped_few key ok c oc (not-false _ a)))))

-- ---- splitting

module _ (p : List ℕ) (o : Octets p) where
  split_top_bit : (a : Split.Split) → SplitLimits p a → TagTopBit a
  split_top_bit (Split.refused number) l = (refl, l)
  split_top_bit (Split.short start) l = omega arith
  split_top_bit (Split.full spi epoch start end) l = omega arith
  split_top_bit (Split.extension message_type start end) l = omega (arith, l.small o)

  pub tag_top_bit : TagTopBit (Split.splitting p)
  tag_top_bit = split_top_bit (Split.splitting p) (splitting_limits p)

  -- the SPI and the epoch have 16 bits
  tag_small : (field : ℕ) (a : Split.Split) → SplitLimits p a → tag_number a field < 2 ^ 16
  unfolding spi_or_epoch
  tag_small field (Split.refused number) l = omega arith
  tag_small field (Split.short start) l = omega arith
  tag_small field (Split.full spi epoch start end) l =
      let P : ℕ → Type 0 = λ n. n < 2 ^ 16 in
      by_choice P (eqb field 1) _ _ (λ _. (l.small o).0) (λ _. by_choice P (eqb field 2) _ _ (λ _. (l.small o).1) (λ _. omega arith))
  tag_small field (Split.extension message_type start end) l = omega arith

  pub tag_number_small : (field : ℕ) → tag_number (Split.splitting p) field < 2 ^ 16
  tag_number_small field = tag_small field (Split.splitting p) (splitting_limits p)

-- ---- the index of a packet

module _ (s : Stream) (sequence : ℕ) where
  said_top_bit : (a : Index.Answer) → Says s sequence a → EstimateTopBit a
  said_top_bit (Index.refused number) (no_such_index e b) = (refl, omega arith)
  said_top_bit (Index.refused number) (key_spent e b) = (refl, omega arith)
  said_top_bit (Index.found roc index) t = omega arith

  pub estimate_top_bit : Fits s sequence → EstimateTopBit (Index.estimating s sequence)
  estimate_top_bit f = said_top_bit (Index.estimating s sequence) (estimate_says s sequence f)

-- ---- a status page

state_small : (keyed : Bool) → state_of keyed ≤ 1
state_small true = omega arith
state_small false = omega arith

module _ (s : List ℕ) where
  pub count_top_bit : CountTopBit (counting s)
  unfolding counting
  count_top_bit = by_choice CountTopBit (is_page s) _ _ (λ h. omega (arith, page_few s h)) (λ _. (refl, omega arith))

  -- a page's places are the table's
  place_small : (n : ℕ) → (is_page s && ltb n (count_of s)) ≡ true → (get_or (decoded s) n no_entry).place < places
  unfolding is_page
  place_small n h =
      let b = both (is_page s) (ltb n (count_of s)) h in
      let g = both (good (decoded s)) (same (layout (decoded s)) s) b.0 in
      (good_listable (decoded s) g.0).place_below n (omega (arith, decoded_length s, ltb-true n (count_of s) b.1))

  pub entry_top_bit : (n : ℕ) → EntryTopBit (picking s n)
  unfolding picking
  entry_top_bit n =
      by_choice EntryTopBit (is_page s && ltb n (count_of s)) _ _
      (λ h. omega (arith, place_small n h, state_small (get_or (decoded s) n no_entry).keyed)) (λ _. (refl, omega arith))
