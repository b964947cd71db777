-- The first token that can't stand in a list of leaves.
use Rattle.std.proofs.Common.{◌≡◌, inl, inr, ℕ, ◌+◌, ◌≤◌, List, [], ◌∷◌, ◌++◌, length, true, false, Result, Err, refl, sym, ap, subst, ◌∙◌, arith, append_assoc, length-append}
use Rattle.std.proofs.{lemmas.Bool.{and_parts}, lemmas.List.{append-nil, Folds.{list_all-append}}}
use Rattle.std.specs.List.{list_all}
use Rattle.rio_num.specs.At.{At}
use Rattle.rio_leaf.specs.{declared.fault.LeafFault.{LeafFault, TheVariants.{BadLeaf}}, declared.leaf.Leaf.{Leaf}}
use Rattle.rio_leaf.specs.Reading.{from_place, leaf_at, leaves_at, leaves_in, pieces, word_length}
use Rattle.rio_leaf.specs.{Spelling.{are_leaves_behind, is_leaf_behind, text_of_leaf, text_of_leaves}, ToldPlaces.{IsFirstBadLeaf, next_token}}
use Rattle.rio_leaf.proofs.{LeafFound.{leaf_found}, LeafTold.{leaf_told}}
use Rattle.rio_leaf.proofs.ListLaws.{cons_is, cut_there, lead, lead_first, lead_last, lead_place, lead_whole, leaf_no_colon, listed, one_behind, one_more, to_leaves, with_colon}
use Rattle.rio_leaf.proofs.PieceLaws.{before_behind, before_colon, blanks_before, from_colon, more_pieces, no_colon, none_at_colon, none_before, pieces_cut, rest_is, stops_before, token_before, whole_cut}
use Rattle.rio_leaf.proofs.{TokenLaws.{blanks}, ToldLaws.{apart_behind, apart_by, bind_bad, ends_behind, ends_both, ends_in_word, place_behind}}

-- ---- the leaves before

lead_ends : (leaves : List Leaf) → ends_in_word (lead leaves) ≡ false
lead_ends [] = refl
lead_ends (leaf ∷ more) = ends_both (with_colon leaf) (lead more) (ends_behind (text_of_leaf leaf) 58 []) (lead_ends more)

lead_long : (leaves : List Leaf) → length leaves ≤ length (lead leaves)
lead_long [] = omega arith
lead_long (leaf ∷ more) = omega (arith, length-append (with_colon leaf) (lead more), length-append (text_of_leaf leaf) (58 ∷ []), lead_long more)

-- they are read, and then what stands behind them
behind_lead : (front before : List Leaf) (p : ℕ) (t : List ℕ) → are_leaves_behind front before ≡ true → leaves_at front p (pieces (lead before ++ t)) ≡ leaves_at (front ++ before) (p + length (lead before)) (pieces t)
behind_lead front [] p t h =
    let same : p ≡ p + 0 = omega arith in
    ap (λ (leaves : List Leaf). leaves_at leaves p (pieces t)) (sym (append-nil front)) ∙ ap (λ (k : ℕ). leaves_at (front ++ []) k (pieces t)) same
behind_lead front (leaf ∷ more) p t h =
    let parts = and_parts (is_leaf_behind front leaf) (are_leaves_behind (front ++ leaf ∷ []) more) h in
    let text = text_of_leaf leaf in
    let place : p + length text + 1 + length (lead more) ≡ p + length (lead (leaf ∷ more)) = omega (arith, length-append (with_colon leaf) (lead more), length-append text (58 ∷ [])) in
    ap (λ (bs : List ℕ). leaves_at front p (pieces bs)) (lead_first leaf more t)
    ∙ ap (leaves_at front p) (cut_there text (lead more ++ t) (leaf_no_colon front leaf parts.0))
    ∙ one_more front leaf p (pieces (lead more ++ t)) parts.0
    ∙ behind_lead (front ++ leaf ∷ []) more (p + length text + 1) t parts.1
    ∙ ap (λ (leaves : List Leaf). leaves_at leaves (p + length text + 1 + length (lead more)) (pieces t)) (append_assoc front (leaf ∷ []) more)
    ∙ ap (λ (k : ℕ). leaves_at (front ++ leaf ∷ more) k (pieces t)) place

-- ---- the first leaf that isn't read

record BadPiece (text : List ℕ) (e : LeafFault) : Type 0 where
  before : List Leaf
  rest : List ℕ
  whole : text ≡ lead before ++ rest
  fits : are_leaves_behind [] before ≡ true
  bad : leaf_at before (from_place (length (lead before)) (before_colon rest)) ≡ Err e

none_fails : (leaves : List Leaf) (p : ℕ) (texts : List (List ℕ)) (e : LeafFault) → texts ≡ [] → leaves_at leaves p texts ≡ Err e → ⊥
unfolding leaves_at
none_fails leaves p [] e is h = cc
none_fails leaves p (t ∷ ts) e is h = cc

bad_piece : (texts : List (List ℕ)) (before : List Leaf) (t : List ℕ) (e : LeafFault) → pieces t ≡ texts → are_leaves_behind [] before ≡ true → leaves_at before (length (lead before)) texts ≡ Err e → BadPiece (lead before ++ t) e
unfolding leaves_at
bad_piece [] before t e is fits h = absurd (cc)
bad_piece (x ∷ xs) before t e is fits h =
    let p = length (lead before) in
    let own = cons_is (before_colon t) x (more_pieces t) xs (sym (pieces_cut t) ∙ is) in
    elim (bind_bad (List Leaf) (leaf_at before (from_place p x)) (to_leaves before (p + length x + 1) xs) e h) [
      | inl bad ↦ record {
        before = before;
        rest = t;
        whole = refl;
        fits = fits;
        bad = ap (λ (bs : List ℕ). leaf_at before (from_place p bs)) own.0 ∙ bad;
      }
      | inr w ↦
          let leaf = w.0.0 in
          let f = leaf_found before leaf (from_place p x) w.0.1 w.1 in
          elim (rest_is t) [
            | inl none ↦ absurd (none_fails (before ++ leaf ∷ []) (p + length x + 1) xs e (sym own.1 ∙ none.0) w.2)
            | inr u ↦
                let fails = ap (λ (k : ℕ). leaves_at (before ++ leaf ∷ []) k xs) (sym (lead_place before leaf x t u.0 own.0 f.parts)) ∙ w.2 in
                subst (λ (bs : List ℕ). BadPiece bs e) (lead_whole before leaf x t u.0 own.0 f.parts u.1)
                (bad_piece xs (before ++ leaf ∷ []) u.0 e (sym u.2 ∙ own.1) (one_behind [] before leaf fits f.fits) fails)
          ]
    ]

piece_fails : (before : List Leaf) (p : ℕ) (x : List ℕ) (xs : List (List ℕ)) (e : LeafFault) → leaf_at before (from_place p x) ≡ Err e → leaves_at before p (x ∷ xs) ≡ Err e
unfolding leaves_at
piece_fails before p x xs e h = rw h refl

-- ---- the first token that can't stand

pub leaf_places_are_told : (text : List ℕ) (e : LeafFault) → leaves_in text ≡ Err e → IsFirstBadLeaf text e
leaf_places_are_told text e h =
    let b = bad_piece (pieces text) [] text e refl refl h in
    let p = length (lead b.before) in
    let t = leaf_told b.before (from_place p (before_colon b.rest)) e b.bad in
    let free : list_all no_colon (t.front ++ t.behind) ≡ true = ap (list_all no_colon) (sym t.parts) ∙ none_before b.rest in
    let both = and_parts (list_all no_colon t.front) (list_all no_colon t.behind) (sym (list_all-append no_colon t.front t.behind) ∙ free) in
    let behind = t.behind ++ from_colon b.rest in
    let piece : before_colon behind ≡ t.behind =
    before_behind t.behind (from_colon b.rest) both.1 ∙ ap (λ (bs : List ℕ). t.behind ++ bs) (none_at_colon b.rest) ∙ append-nil t.behind in
    let rest : b.rest ≡ t.front ++ behind = whole_cut b.rest ∙ ap (λ (bs : List ℕ). bs ++ from_colon b.rest) t.parts ∙ append_assoc t.front t.behind (from_colon b.rest) in
    let place : place_behind p t.front t.behind ≡ length (lead b.before ++ t.front) + blanks behind =
    omega (arith, length-append (lead b.before) t.front, ap blanks piece, blanks_before behind) in
    record {
      front = lead b.before ++ t.front;
      behind = behind;
      parts = b.whole ∙ ap (λ (bs : List ℕ). lead b.before ++ bs) rest ∙ sym (append_assoc (lead b.before) t.front behind);
      apart = apart_by (lead b.before ++ t.front) behind (apart_behind (lead b.before) t.front behind (inl (lead_ends b.before)) (elim t.apart [
        | inl ends ↦ inl ends
        | inr stops ↦ inr (stops_before behind (ap word_length piece ∙ stops))
      ]));
      told = t.told ∙ ap (λ (n : ℕ). let d : LeafFault = BadLeaf n in d) place;
      always = λ other same.
          let token : next_token (before_colon other) ≡ next_token t.behind = token_before other ∙ ap before_colon same ∙ sym (token_before behind) ∙ ap next_token piece in
          let first : before_colon (t.front ++ other) ≡ t.front ++ before_colon other = before_behind t.front other both.0 in
          let fails : leaf_at b.before (from_place p (before_colon (t.front ++ other))) ≡ Err e =
          ap (λ (bs : List ℕ). leaf_at b.before (from_place p bs)) first ∙ t.always p (before_colon other) token ∙ ap (λ (d : LeafFault). let r : Result (Leaf × At) LeafFault = Err d in r) (sym t.told) in
          let zero_on : 0 + p ≡ p = omega arith in
          ap leaves_in (append_assoc (lead b.before) t.front other)
          ∙ behind_lead [] b.before 0 (t.front ++ other) b.fits
          ∙ ap (λ (k : ℕ). leaves_at b.before k (pieces (t.front ++ other))) zero_on
          ∙ ap (leaves_at b.before p) (pieces_cut (t.front ++ other))
          ∙ piece_fails b.before p (before_colon (t.front ++ other)) (more_pieces (t.front ++ other)) e fails;
      begins = λ few.
          let m = t.begins (omega (arith, few, lead_long b.before, length-append (lead b.before) t.front)) in
          let whole : (lead b.before ++ t.front) ++ m.0 ≡ text_of_leaves (b.before ++ m.1 ∷ []) =
          append_assoc (lead b.before) t.front m.0 ∙ ap (λ (bs : List ℕ). lead b.before ++ bs) m.4 ∙ sym (lead_last b.before m.1) in
          (m.0, b.before ++ m.1 ∷ [], apart_by (lead b.before ++ t.front) m.0 (apart_behind (lead b.before) t.front m.0 (inl (lead_ends b.before)) m.2), (listed b.before m.1 (one_behind [] b.before m.1 b.fits m.3), whole));
    }
