-- A stream that is followed: the highest index never falls, and packets that are less than half-way from it are all found.
use Rattle.std.proofs.Common.{◌≡◌, ℕ, ◌/◌, ◌%◌, ◌^◌, ◌<◌, ◌≤◌, max, ltb, List, [], ◌∷◌, sym, refl, ap, ◌∙◌, subst, arith}
use Rattle.octets.proofs.Tests.{by_choice}
use Rattle.packetindex.specs.Estimating as Estimating
use Rattle.packetindex.specs.Estimating.{estimating, index_of}
use Rattle.packetindex.specs.Updating.{later, kept, next}
use Rattle.packetindex.specs.Nearest.{distance, highest_index, StreamFits, Fits}
use Rattle.packetindex.specs.Following.{follow, CloseBy, highest_of, Followed}
use Rattle.packetindex.specs.declared.stream.Stream.{Stream}
use Rattle.packetindex.proofs.Exactly.{found_exactly, sent_found}
use Rattle.packetindex.proofs.Updates.{refuses, accepts_later, updates}

-- ---- the highest index never falls

-- a refusal changes nothing
pub refused_keeps : (s : Stream) (sequence number : ℕ) → estimating s sequence ≡ Estimating.refused number → next s sequence ≡ s
refused_keeps s sequence number e = ap (kept s) (refuses s sequence number e)

next_rises : (s : Stream) (sequence : ℕ) → highest_index s ≤ highest_index (next s sequence)
next_rises s sequence = go (estimating s sequence) refl
  where
    go : (a : Estimating.Answer) → estimating s sequence ≡ a → highest_index s ≤ highest_index (next s sequence)
    go (Estimating.refused number) e = let k = ap highest_index (refused_keeps s sequence number e) in omega (arith, k)
    go (Estimating.found v i) e = let k = (updates s sequence v i e).greater in omega (arith, k)

pub never_falls : (s : Stream) (sequence_numbers : List ℕ) → highest_index s ≤ highest_index (follow s sequence_numbers)
never_falls s [] = omega arith
never_falls s (sequence ∷ rest) =
    let a = next_rises s sequence in
    let b = never_falls (next s sequence) rest in
    omega (arith, a, b)

-- nor below an index that was found
pub found_below : (s : Stream) (sequence v i : ℕ) (rest : List ℕ) → estimating s sequence ≡ Estimating.found v i
    → i ≤ highest_index (follow s (sequence ∷ rest))
found_below s sequence v i rest e =
    let k = (updates s sequence v i e).greater in
    let b = never_falls (next s sequence) rest in
    omega (arith, k, b)

-- ---- what is kept has its 32 and 16 bits

later_fits : (s : Stream) (sequence v i : ℕ) → StreamFits s → StreamFits (record { roc = v; highest = sequence }) → StreamFits (later s sequence v i)
unfolding later
later_fits s sequence v i f packet = by_choice StreamFits (ltb (index_of s.roc s.highest) i) _ _ (λ _. packet) (λ _. f)

roc_below : (v i : ℕ) → i / 65536 ≡ v → i < 2 ^ 48 → v < 2 ^ 32
roc_below v i d r = omega arith

pub next_fits : (s : Stream) (sequence : ℕ) → Fits s sequence → StreamFits (next s sequence)
next_fits s sequence f = go (estimating s sequence) refl
  where
    go : (a : Estimating.Answer) → estimating s sequence ≡ a → StreamFits (next s sequence)
    go (Estimating.refused number) e = subst StreamFits (sym (refused_keeps s sequence number e)) f.stream_fits
    go (Estimating.found v i) e =
        let p = (found_exactly s sequence f v i).0 e in
        subst StreamFits (sym (ap (kept s) (accepts_later s sequence v i e)))
        (later_fits s sequence v i f.stream_fits (record { roc_fits = roc_below v i p.roc_of p.bits; highest_fits = f.sequence_fits }))

-- ---- packets less than half-way from the highest

module _ (s : Stream) (f : StreamFits s) (i : ℕ) (near : distance i (highest_index s) < 32768) (bits : i < 2 ^ 48) where
  packet_fits : Fits s (i % 65536)
  packet_fits = record { stream_fits = f; sequence_fits = omega arith }

  packet_found : estimating s (i % 65536) ≡ Estimating.found (i / 65536) i
  packet_found = sent_found s (i % 65536) packet_fits i refl bits near

  packet_highest : highest_index (next s (i % 65536)) ≡ max (highest_index s) i
  packet_highest = (updates s (i % 65536) (i / 65536) i packet_found).greater

  packet_kept : StreamFits (next s (i % 65536))
  packet_kept = next_fits s (i % 65536) packet_fits

-- the theorem
pub followed : (s : Stream) → StreamFits s → (indices : List ℕ) → CloseBy (highest_index s) indices → Followed s indices
followed s f [] h = record { all_found = tt; highest = refl; fits = f }
followed s f (i ∷ rest) h =
    let e = packet_highest s f i h.0 h.1 in
    let r = followed (next s (i % 65536)) (packet_kept s f i h.0 h.1) rest (subst (λ (p : ℕ). CloseBy p rest) (sym e) h.2) in
    record {
      all_found = (packet_found s f i h.0 h.1, r.all_found);
      highest = r.highest ∙ ap (λ (p : ℕ). highest_of p rest) e;
      fits = r.fits;
    }
