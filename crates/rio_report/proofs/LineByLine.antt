-- A line for each of a list, gathered one after the other.
use Rattle.std.proofs.Common.{◌≡◌, ◌++◌, ◌+◌, ◌<◌, ◌≤◌, ℕ, List, [], ◌∷◌, length, take, drop, get_or, true, Some, refl, sym, ap, ◌∙◌, append_assoc}
use Rattle.std.proofs.lemmas.List.{append-nil, take_all, take_more, take-append-drop, Concat.{flat_map-append}}
use Rattle.std.specs.List.{flat_map}
use Rattle.rio_host.specs.{Host.{View, IsLawful}, OnlyReads.{OnlySaysPieces}}
use Rattle.rio_host.proofs.PiecesLaws.{part_front, pieces_as}
use Rattle.rio_report.specs.Gathered.{CutShort, Gathered, ends_line}
use Rattle.rio_report.proofs.{Gather.{cut_on, gathered_on, lines_on}, WholeLines.{each_ends}}

module _ {X : Type 0} (line : List ℕ → X → List ℕ) (xs : List X) where
  abbrev pub lines : ℕ → List ℕ → List ℕ
  lines i file = flat_map (line file) (take i xs)

  one_more : (i : ℕ) (x : X) → i < length xs → x ≡ get_or xs i x → (file : List ℕ) → lines i file ++ line file x ≡ lines (i + 1) file
  one_more i x lt is file =
      ap (λ (l : List ℕ). lines i file ++ l) (sym (append-nil (line file x)))
      ∙ sym (flat_map-append (line file) (take i xs) (x ∷ []))
      ∙ ap (λ (y : X). flat_map (line file) (take i xs ++ y ∷ [])) is
      ∙ ap (flat_map (line file)) (sym (take_more xs i x lt))

  all_lines : (i : ℕ) → length xs ≤ i → (file : List ℕ) → lines i file ≡ flat_map (line file) xs
  all_lines i le file = ap (flat_map (line file)) (take_all i xs le)

  in_front : (i : ℕ) (file : List ℕ) → lines i file ++ flat_map (line file) (drop i xs) ≡ flat_map (line file) xs
  in_front i file = sym (flat_map-append (line file) (take i xs) (drop i xs)) ∙ ap (flat_map (line file)) (take-append-drop i xs)

  module _ (first : List ℕ) where
    -- these lines behind what was held first
    abbrev pub first_lines : ℕ → List ℕ → List ℕ
    first_lines i file = first ++ lines i file

    -- all of them
    pub all_gathered : {a b : View} (i : ℕ) (held : List ℕ) → length xs ≤ i → Gathered (first_lines i) held a b → Gathered (λ file. first ++ flat_map (line file) xs) held a b
    all_gathered i held le one = record {
      front = one.front;
      said = one.said;
      rest = λ file told. one.rest file told ∙ ap (λ (l : List ℕ). first ++ l) (all_lines i le file);
    }

    next_line : {a b : View} (i : ℕ) (x : X) → i < length xs → x ≡ get_or xs i x → (held : List ℕ) (so_far : Gathered (first_lines i) held a b) (file : List ℕ) → a.holds ≡ Some file → so_far.front file ++ (held ++ line file x) ≡ first_lines (i + 1) file
    next_line i x lt is held so_far file told =
        sym (append_assoc (so_far.front file) held (line file x))
        ∙ ap (λ (l : List ℕ). l ++ line file x) (so_far.rest file told)
        ∙ append_assoc first (lines i file) (line file x)
        ∙ ap (λ (l : List ℕ). first ++ l) (one_more i x lt is file)

    module _ (a b c : View) (lawful_a : IsLawful a) (lawful_b : IsLawful b) (i : ℕ) (x : X) (lt : i < length xs) (is : x ≡ get_or xs i x) (held : List ℕ) (so_far : Gathered (first_lines i) held a b) where
      pub line_gathered : (more : List ℕ) → Gathered (λ file. held ++ line file x) more b c → Gathered (first_lines (i + 1)) more a c
      line_gathered more two = gathered_on a b c lawful_a lawful_b (first_lines i) held so_far (λ file. held ++ line file x) (first_lines (i + 1)) (next_line i x lt is held so_far) more two

      part_cut : OnlySaysPieces (λ file. held ++ line file x) b c → OnlySaysPieces (λ file. first ++ flat_map (line file) xs) a c
      part_cut two =
          let cut = cut_on a b c lawful_a lawful_b (first_lines i) held so_far (λ file. held ++ line file x) (first_lines (i + 1)) (next_line i x lt is held so_far) two in
          let more = part_front (first_lines (i + 1)) (λ file. flat_map (line file) (drop (i + 1) xs)) cut in
          pieces_as (λ file. first_lines (i + 1) file ++ flat_map (line file) (drop (i + 1) xs)) (λ file. first ++ flat_map (line file) xs)
          (λ file told. append_assoc first (lines (i + 1) file) (flat_map (line file) (drop (i + 1) xs)) ∙ ap (λ (l : List ℕ). first ++ l) (in_front (i + 1) file)) more

      -- and where a call fails that goes on with one of them
      pub line_cut : ((file : List ℕ) (y : X) → ends_line (line file y) ≡ true) → CutShort held (λ file. line file x) b c → CutShort first (λ file. flat_map (line file) xs) a c
      line_cut ends two = record {
        part = part_cut two.part;
        lines = lines_on a b c lawful_a lawful_b (first_lines i) held so_far first (lines i) (λ file. refl) (λ file. each_ends (line file) (ends file) (take i xs)) two.lines;
      }
