-- Lists that are printed, with a comma and a space between each two items, are read again.
use Rattle.std.proofs.Common.{◌≡◌, ℕ, suc, zero, ◌+◌, ◌<◌, List, [], ◌∷◌, ◌++◌, length, true, false, Ok, refl, ◌∙◌, ap, arith, append_assoc, length-append}
use Rattle.std.proofs.lemmas.List.{append-nil}
use Rattle.std.specs.{List.{flat_map, join_by}, Prelude.{codes}}
use Rattle.rio_num.specs.At.{At}
use Rattle.rio_token.specs.{Tokens.{behind, scan_of}, Reading.{Read, list_at, marked, mark_at, more_at, some_at}}
use Rattle.rio_token.proofs.StandLaws.{at}

pub comma_back : (p : ℕ) (xs : List ℕ) → mark_at 44 (at p (44 ∷ xs)) ≡ Ok (tt, at (p + 1) xs)
unfolding mark_at scan_of
comma_back p xs = refl

module _ {A : Type 0} (close : ℕ) (item : List A → At → Read A) (text : A → List ℕ) (Follows : List ℕ → Type 0) where
  -- behind these items, the text of this one is read as it, whatever follows an item
  abbrev pub IsBack : List A → A → Type 0
  IsBack front e = (p q : ℕ) (rest : List ℕ) → Follows rest → q ≡ p + length (text e) → item front (at p (text e ++ rest)) ≡ Ok (e, at q rest)

  abbrev pub AllBack : List A → List A → Type 0
  AllBack front [] = Unit {0}
  AllBack front (e ∷ es) = IsBack front e × AllBack (front ++ e ∷ []) es

  -- a comma and a space, and then the item, for each of them
  abbrev pub more_text : List A → List ℕ
  more_text es = flat_map (λ e. codes ", " ++ text e) es

  -- what the reader of an item keeps to, and what stands behind the last item
  pub record Ends (stop : List ℕ) (n : ℕ) (rest : List ℕ) : Type 0 where
    pub comma : (xs : List ℕ) → Follows (44 ∷ xs)
    pub last : Follows stop
    pub closes : (p : ℕ) → marked close (at p stop) ≡ true
    pub passes : (p : ℕ) → behind (at p stop) ≡ at (p + n) rest
    pub some : 0 < length stop
    pub goes : (p : ℕ) (xs : List ℕ) → marked close (at p (44 ∷ xs)) ≡ false
    pub blank : (front : List A) (p : ℕ) (xs : List ℕ) → item front (at p (32 ∷ xs)) ≡ item front (at (p + 1) xs)
    pub begins : (front : List A) (s : At) (x : A × At) → item front s ≡ Ok x → marked close s ≡ false

  module _ (stop : List ℕ) (n : ℕ) (rest : List ℕ) (ends : Ends stop n rest) where
    follows : (es : List A) → Follows (more_text es ++ stop)
    follows [] = ends.last
    follows (e ∷ es) = ends.comma _

    regroup : (e : A) (es : List A) → (text e ++ more_text es) ++ stop ≡ text e ++ (more_text es ++ stop)
    regroup e es = append_assoc (text e) (more_text es) stop

    more_back : (es front : List A) (fuel p q : ℕ) → length es < fuel → AllBack front es → q ≡ p + length (more_text es) + n → more_at fuel close item front (at p (more_text es ++ stop)) ≡ Ok (front ++ es, at q rest)
    unfolding more_at
    more_back es front zero p q lt all count = absurd (omega arith)
    more_back [] front (suc fuel) p q lt all count =
        let place : p + n ≡ q = omega arith in
        rw (ends.closes p, ends.passes p, place, append-nil front) refl
    more_back (e ∷ es) front (suc fuel) p q lt all count =
        let text_end = p + 1 + 1 + length (text e) in
        let left : length es < fuel = omega arith in
        let place : q ≡ text_end + length (more_text es) + n = omega (arith, count, length-append (text e) (more_text es)) in
        let one : item front (at (p + 1 + 1) (text e ++ (more_text es ++ stop))) ≡ Ok (e, at text_end (more_text es ++ stop)) = all.0 (p + 1 + 1) text_end (more_text es ++ stop) (follows es) refl in
        let behind_blank : item front (at (p + 1) (32 ∷ (text e ++ (more_text es ++ stop)))) ≡ Ok (e, at text_end (more_text es ++ stop)) = ends.blank front (p + 1) (text e ++ (more_text es ++ stop)) ∙ one in
        let others = more_back es (front ++ e ∷ []) fuel text_end q left all.1 place in
        let joined : (front ++ e ∷ []) ++ es ≡ front ++ e ∷ es = append_assoc front (e ∷ []) es in
        rw (regroup e es, ends.goes p (32 ∷ (text e ++ (more_text es ++ stop))), comma_back p (32 ∷ (text e ++ (more_text es ++ stop))), behind_blank, others, joined) refl

    long_enough : (es : List A) → length es < length (more_text es ++ stop)
    long_enough [] = ends.some
    long_enough (e ∷ es) =
        let rest_long = long_enough es in
        let count : length ((text e ++ more_text es) ++ stop) ≡ length (text e) + length (more_text es ++ stop) = ap length (regroup e es) ∙ length-append (text e) (more_text es ++ stop) in
        omega (arith, rest_long, count)

    pub some_back : (e : A) (es : List A) (p q : ℕ) → AllBack [] (e ∷ es) → q ≡ p + length (join_by text (codes ", ") (e ∷ es)) + n → some_at close item (at p (join_by text (codes ", ") (e ∷ es) ++ stop)) ≡ Ok (e ∷ es, at q rest)
    unfolding some_at
    some_back e es p q all count =
        let text_end = p + length (text e) in
        let one : item [] (at p (text e ++ (more_text es ++ stop))) ≡ Ok (e, at text_end (more_text es ++ stop)) = all.0 p text_end (more_text es ++ stop) (follows es) refl in
        let place : q ≡ text_end + length (more_text es) + n = omega (arith, count, length-append (text e) (more_text es)) in
        rw (regroup e es, one) (more_back es (e ∷ []) (length (more_text es ++ stop)) text_end q (long_enough es) all.1 place)

    pub list_back : (es : List A) (p q : ℕ) → AllBack [] es → q ≡ p + length (join_by text (codes ", ") es) + n → list_at close item (at p (join_by text (codes ", ") es ++ stop)) ≡ Ok (es, at q rest)
    unfolding list_at
    list_back [] p q all count =
        let place : p + n ≡ q = omega arith in
        rw (ends.closes p, ends.passes p, place) refl
    list_back (e ∷ es) p q all count =
        let text_end = p + length (text e) in
        let one : item [] (at p (text e ++ (more_text es ++ stop))) ≡ Ok (e, at text_end (more_text es ++ stop)) = all.0 p text_end (more_text es ++ stop) (follows es) refl in
        let open_text : marked close (at p ((text e ++ more_text es) ++ stop)) ≡ false = rw (regroup e es) (ends.begins [] (at p (text e ++ (more_text es ++ stop))) (e, at text_end (more_text es ++ stop)) one) in
        rw open_text (some_back e es p q all count)
