-- A record among the segments is one of the file.
use Rattle.std.proofs.Common.{◌≡◌, ℕ, ◌+◌, ◌-◌, ◌≤◌, List, [], ◌∷◌, ◌++◌, length, length-append, map, get_or, refl, sym, ap, subst, ◌∙◌, arith}
use Rattle.std.specs.List.{Contains}
use Rattle.rio_host.specs.Image.{Has}
use Rattle.rio_host.proofs.Images.{has_length}
use Rattle.rio_chain.specs.{declared.segment.Segment.{Segment, TheVariants.{Record}}, Adjoining.{segment_length, segments_end}, Placing.{file_end}}
use Rattle.rio_chain.specs.{Segments.{Link, RecordAt, GapAt, segment_of, HoldsRecord, IsChain}, Chains.{HasChain}}
use Rattle.rio_chain.proofs.{Words.{has_same, held_long}, Chains.{parts_of, plain_cut}, Indices.{get_at}}

-- a record among the segments is one among the links
pub record RecordCut (links : List Link) (place n : ℕ) : Type 0 where
  pub before : List Link
  pub bytes : List ℕ
  pub behind : List Link
  pub is : links ≡ before ++ RecordAt place bytes ∷ behind
  pub long : length bytes ≡ n

more : (l : Link) (links : List Link) (place n : ℕ) → RecordCut links place n → RecordCut (l ∷ links) place n
more l links place n c = record { before = l ∷ c.before; bytes = c.bytes; behind = c.behind; is = ap (λ (x : List Link). l ∷ x) c.is; long = c.long }

pub record_cut : (links : List Link) (front back : List Segment) (place n : ℕ) → map segment_of links ≡ front ++ Record place n ∷ back → RecordCut links place n
record_cut [] [] back place n e = absurd cc
record_cut [] (s ∷ front) back place n e = absurd cc
record_cut (GapAt p m ∷ links) [] back place n e = absurd cc
record_cut (RecordAt p bytes ∷ links) [] back place n e =
    let there : p ≡ place = cc in
    let long : length bytes ≡ n = cc in
    record { before = []; bytes = bytes; behind = links; is = ap (λ (q : ℕ). RecordAt q bytes ∷ links) there; long = long }
record_cut (l ∷ links) (s ∷ front) back place n e = let rest : map segment_of links ≡ front ++ Record place n ∷ back = cc in more l links place n (record_cut links front back place n rest)

module _ (file : List ℕ) (links : List Link) (segments : List Segment) (place n : ℕ) (front back : List Segment) (has : HasChain links segments file) (is : segments ≡ front ++ Record place n ∷ back) where
  c : RecordCut links place n
  c = record_cut links front back place n (sym has.same ∙ is)

  there : HoldsRecord file place c.bytes
  there =
      let plain = (plain_cut file 100 c.before (RecordAt place c.bytes ∷ c.behind) (parts_of (c.before ++ RecordAt place c.bytes ∷ c.behind) file (subst (λ (l : List Link). IsChain l file) c.is has.chain)).plain).1 in
      subst (λ (p : ℕ). HoldsRecord file p c.bytes) (sym plain.0.0) plain.0.1

  pub record_within : place + n ≤ length file
  record_within = omega (arith, c.long, has_length file place c.bytes (length c.bytes - 1) (omega (arith, held_long file place c.bytes there)) there.there)

  -- so many bytes there are its bytes
  pub record_read : (bytes : List ℕ) → length bytes ≡ n → Has file place bytes → Contains links (RecordAt place bytes)
  record_read bytes long has' =
      let same : c.bytes ≡ bytes = has_same file place c.bytes bytes (c.long ∙ sym long) there.there has' in
      let whole : links ≡ c.before ++ RecordAt place bytes ∷ c.behind = c.is ∙ ap (λ (b : List ℕ). c.before ++ RecordAt place b ∷ c.behind) same in (
        length c.before,
        omega (arith, ap length whole, length-append c.before (RecordAt place bytes ∷ c.behind)),
        ap (λ (l : List Link). get_or l (length c.before) (RecordAt place bytes)) whole ∙ get_at c.before (RecordAt place bytes) c.behind (length c.before) (RecordAt place bytes) refl,
      )

-- a record is no longer than the segments reach
end_at_least : (p : ℕ) (segments : List Segment) → p ≤ segments_end p segments
end_at_least p [] = omega arith
end_at_least p (s ∷ segments) = omega (arith, end_at_least (p + segment_length s) segments)

length_before_end : (p : ℕ) (front back : List Segment) (place n : ℕ) → n ≤ segments_end p (front ++ Record place n ∷ back)
length_before_end p [] back place n = omega (arith, end_at_least (p + n) back)
length_before_end p (s ∷ front) back place n = length_before_end (p + segment_length s) front back place n

pub record_before_end : (segments front back : List Segment) (place n : ℕ) → segments ≡ front ++ Record place n ∷ back → n ≤ file_end segments
record_before_end segments front back place n is = omega (arith, length_before_end 100 front back place n, ap file_end is)
