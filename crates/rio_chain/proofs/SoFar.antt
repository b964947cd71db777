-- A walk so far.
use Rattle.std.proofs.Common.{◌≡◌, ◌≢◌, ◌⊎◌, inl, inr, ⊎_elim, ℕ, ◌+◌, ◌*◌, ◌-◌, ◌^◌, ◌<◌, ◌≤◌, List, [], ◌∷◌, ◌++◌, map, length, length-append, Option, Some, None, refl, sym, ap, subst, ◌∙◌, append_assoc, arith}
use Rattle.std.proofs.lemmas.List.{map-append, append-nil}
use Rattle.std.specs.Prelude.{IfSome}
use Rattle.rio_host.specs.{Host.{View}, OnlyReads.{OnlyReads}}
use Rattle.rio_chain.specs.declared.segment.Segment.{Segment, TheVariants.{Record, Gap}}
use Rattle.rio_chain.specs.Adjoining.{AreAdjacent, AreGapsApart, AreSegments, BeginsAt, BeginsWithRecord, segment_length, segments_end}
use Rattle.rio_chain.specs.Segments.{Link, RecordAt, GapAt, BreaksAt, HasSegments, HasWord, HoldsEnd, HoldsLink, HoldsLinks, chain_end, end_from, link_length, segment_of}
use Rattle.rio_host.specs.Reading.{FindsWord, Told}
use Rattle.rio_chain.specs.{Found.{MayPrecede, FindsLink, IsKindOf, IsNoGap, TellsNoLink}, Walks.{TellsFirstBreak}}
use Rattle.rio_chain.specs.declared.fault.WalkFault.{WalkFault, TheVariants.{NoChain, NoMemory, HostFault}}
use Rattle.rio_chain.proofs.{Chains.{end-append}, Words.{held_word, word_one, word_within}, PutChain.{segment_of-length}}

-- ---- links up to a place

pub links-append : (file : List ℕ) (place : ℕ) (front back : List Link) → HoldsLinks file place front → HoldsLinks file (end_from place front) back → HoldsLinks file place (front ++ back)
links-append file place [] back one two = two
links-append file place (l ∷ front) back one two = (one.0, links-append file (place + link_length l) front back one.1 two)

-- these links stand up to this place, and these are their segments
pub record UpTo (place : ℕ) (segments : List Segment) (file : List ℕ) : Type 0 where
  pub links : List Link
  pub stand : HoldsLinks file 100 links
  pub reached : place ≡ chain_end links
  pub segments_are : segments ≡ map segment_of links

pub up_to_none : (file : List ℕ) → UpTo 100 [] file
up_to_none file = record { links = []; stand = tt; reached = refl; segments_are = refl }

pub up_to_more : (file : List ℕ) (place : ℕ) (segments more : List Segment) (segment : Segment) (behind : Option ℕ) → UpTo place segments file → FindsLink place segment behind file → more ≡ segments ++ segment ∷ []
    → UpTo (place + segment_length segment) more file × FindsWord (place + segment_length segment) behind file
up_to_more file place segments more segment behind up f is =
    let size : place + segment_length segment ≡ place + link_length f.0 = ap (λ (s : Segment). place + segment_length s) f.2 ∙ ap (λ (n : ℕ). place + n) (segment_of-length f.0) in (
      record {
        links = up.links ++ f.0 ∷ [];
        stand = links-append file 100 up.links (f.0 ∷ []) up.stand (subst (λ (p : ℕ). HoldsLink file p f.0) up.reached f.1, tt);
        reached = size ∙ ap (λ (p : ℕ). p + link_length f.0) up.reached ∙ sym (end-append 100 up.links (f.0 ∷ []));
        segments_are = is ∙ (λ i. up.segments_are i ++ f.2 i ∷ []) ∙ sym (map-append segment_of up.links (f.0 ∷ []));
      },
      subst (λ (p : ℕ). FindsWord p behind file) (sym size) f.3,
    )

pub walked : (file : List ℕ) (place : ℕ) (segments : List Segment) → UpTo place segments file → HasWord file place 0 → 100 < place → HasSegments file segments
walked file place segments up zero later = (
  up.links,
  record { links_are = up.stand; ends = subst (HoldsEnd file) up.reached (record { later = later; zero_word = zero }) },
  up.segments_are,
)

pub breaks : (file : List ℕ) (place : ℕ) (segments : List Segment) → UpTo place segments file → ((link : Link) → ¬ HoldsLink file place link) → ¬ HoldsEnd file place → BreaksAt place file
breaks file place segments up link end = record { before = up.links; links_are = up.stand; reached = up.reached; no_link = link; no_end = end }

-- ---- the form of the segments, whatever the host tells

adjacent-append : (place : ℕ) (front : List Segment) (s : Segment) (end : ℕ) → AreAdjacent place front → segments_end place front ≡ end → BeginsAt end s → AreAdjacent place (front ++ s ∷ [])
adjacent-append place [] s end a is b = (subst (λ (p : ℕ). BeginsAt p s) (sym is) b, tt)
adjacent-append place (t ∷ front) s end a is b = (a.0, adjacent-append (place + segment_length t) front s end a.1 is b)

segments_end-append : (place : ℕ) (front : List Segment) (s : Segment) → segments_end place (front ++ s ∷ []) ≡ segments_end place front + segment_length s
segments_end-append place [] s = refl
segments_end-append place (t ∷ front) s = segments_end-append (place + segment_length t) front s

-- a word of a record
abbrev pub IsBegun : Option ℕ → List Segment → Type 0
IsBegun word rest = IsNoGap word → BeginsWithRecord rest

-- The segments so far, with the word behind them: whatever goes on as that word says keeps gaps apart.
pub record Shape (place : ℕ) (word : Option ℕ) (segments : List Segment) : Type 0 where
  pub adjacent : AreAdjacent 100 segments
  pub reached : segments_end 100 segments ≡ place
  pub apart : (rest : List Segment) → AreGapsApart rest → (IsNoGap word → BeginsWithRecord rest) → AreGapsApart (segments ++ rest)
  pub first : (place ≡ 100) ⊎ BeginsWithRecord segments
  pub few : 4 * length segments + 100 ≤ place

pub shape_none : (word : Option ℕ) → Shape 100 word []
shape_none word = record { adjacent = tt; reached = refl; apart = λ rest apart begun. apart; first = inl refl; few = omega arith }

push_apart : (place word : ℕ) (behind : Option ℕ) (segments : List Segment) (s : Segment) → Shape place (Some word) segments → IsKindOf place word s → MayPrecede s behind
    → (rest : List Segment) → AreGapsApart rest → (IsNoGap behind → BeginsWithRecord rest) → AreGapsApart (segments ++ s ∷ rest)
push_apart place word behind segments (Record p n) shape kind apart rest gaps begun = shape.apart (Record p n ∷ rest) gaps (λ no. tt)
push_apart place word behind segments (Gap p n) shape kind apart rest gaps begun = shape.apart (Gap p n ∷ rest) (begun apart, gaps) (λ no. omega (arith, no.1, kind.0))

first_push : (place word : ℕ) (segments : List Segment) (s : Segment) → (place ≡ 100) ⊎ BeginsWithRecord segments → 4 * length segments + 100 ≤ place → IsKindOf place word s → BeginsWithRecord (segments ++ s ∷ [])
first_push place word [] (Record p n) first few kind = tt
first_push place word [] (Gap p n) first few kind = ⊎_elim (λ is. omega (arith, is, kind.1)) (λ none. absurd none) first
first_push place word (t ∷ segments) s first few kind = ⊎_elim (λ is. absurd (omega (arith, is, few))) (λ record'. record') first

pub shape_more : (place word : ℕ) (behind : Option ℕ) (segments more : List Segment) (s : Segment) → Shape place (Some word) segments → BeginsAt place s → IsKindOf place word s → MayPrecede s behind → more ≡ segments ++ s ∷ []
    → Shape (place + segment_length s) behind more
shape_more place word behind segments more s shape begins kind apart is = subst (Shape (place + segment_length s) behind) (sym is) (record {
  adjacent = adjacent-append 100 segments s place shape.adjacent shape.reached begins;
  reached = segments_end-append 100 segments s ∙ ap (λ (p : ℕ). p + segment_length s) shape.reached;
  apart = λ rest gaps begun. subst AreGapsApart (sym (append_assoc segments (s ∷ []) rest)) (push_apart place word behind segments s shape kind apart rest gaps begun);
  first = inr (first_push place word segments s shape.first shape.few kind);
  few = omega (arith, shape.few, begins.some, length-append segments (s ∷ []));
})

pub shape_whole : (place : ℕ) (segments : List Segment) → Shape place (Some 0) segments → 100 < place → AreSegments segments
shape_whole place segments shape later = record {
  first = ⊎_elim (λ is. absurd (omega (arith, is, later))) (λ first. first) shape.first;
  adjacent = shape.adjacent;
  apart = subst AreGapsApart (append-nil segments) (shape.apart [] tt (λ no. absurd (omega (arith, no.0))));
}

-- what a walk knows
pub record Going (start now : View) (file_length place : ℕ) (word : Option ℕ) (segments : List Segment) : Type 0 where
  pub calls : OnlyReads start now
  pub calm : now.disk_faults ≡ start.disk_faults
  pub long : Told start (λ file. file_length ≡ length file)
  pub within : IfSome word (λ w. place + 4 ≤ file_length)
  pub shape : Shape place word segments
  pub here : Told start (FindsWord place word)
  pub stand : Told start (UpTo place segments)

-- ---- where it breaks

-- the file ends within a word
pub breaks_short : (file : List ℕ) (place : ℕ) (segments : List Segment) → UpTo place segments file → FindsWord place None file → BreaksAt place file
breaks_short file place segments up short = breaks file place segments up
    (λ link h. no_link link h)
    (λ end. let le = word_within file place 0 end.zero_word in omega (arith, le, short))
  where
    no_link : (link : Link) → HoldsLink file place link → ⊥
    no_link (RecordAt p bytes) h = let le = word_within file place (length bytes) (held_word file place bytes h.1) in omega (arith, le, short)
    no_link (GapAt p n) h = let le = word_within file place (2 ^ 32 - n) h.1.word in omega (arith, le, short)

pub breaks_here : (file : List ℕ) (place found : ℕ) (segments : List Segment) → UpTo place segments file → HasWord file place found → (found ≢ 0) ⊎ (place ≤ 100) → ((link : Link) → ¬ HoldsLink file place link) → BreaksAt place file
breaks_here file place found segments up word live none = breaks file place segments up none
    (λ end. ⊎_elim (λ some. some (word_one file place found 0 word end.zero_word)) (λ low. omega (arith, low, end.later)) live)

pub tells_break : (start now : View) (place found : ℕ) (segments : List Segment) (fault : WalkFault) → now.holds ≡ start.holds → Told start (UpTo place segments) → Told start (FindsWord place (Some found)) → (found ≢ 0) ⊎ (place ≤ 100) → TellsNoLink now place fault → TellsFirstBreak start fault
tells_break start now place found segments (NoChain p) same up here live none =
    λ file told. subst (λ (q : ℕ). BreaksAt q file) (sym none.0) (breaks_here file place found segments (up file told) (here file told) live (none.1 file (same ∙ told)))
tells_break start now place found segments NoMemory same up here live none = tt
tells_break start now place found segments HostFault same up here live none = tt
