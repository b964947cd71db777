-- Places of baskets that are noted, one after the other.
use Rattle.std.proofs.Common.{◌≡◌, ◌∙◌, ℕ, ◌+◌, ◌<◌, ◌≤◌, List, [], ◌∷◌, ◌++◌, append_assoc, append-nil, length, take, drop, map, get_or, Bool, true, false, cond, not, ◌&&◌, ◌||◌, ◌==◌, ltb, refl, sym, ap, subst, arith}
use Rattle.std.proofs.lemmas.{Bool.{and_parts, eq-eqb, eqb-false, eqb-true, ltb-true, ne_eqb}, List.{map-append, take-append-drop, take_all, take_more, Concat.{flat_map-append}}}
use Rattle.std.specs.{List.{flat_map, list_any}, Ordering.{is_eq, nat_cmp}}
use Rattle.std.specs.declared.cmp.Ordering.TheVariants.{Less, Equal, Greater}
use Rattle.rio_tree.specs.{declared.basket_at.BasketAt.{BasketAt}, declared.head.Branch.{Branch}}
use Rattle.rio_state.specs.Trees.{are_named_once}
use Rattle.rio_recover.specs.Baskets.{AreNoted, HasPlaces, NotesPlaces, is_noted}
use Rattle.rio_recover.specs.declared.named.NamedPlaces.{NamedPlaces}

-- ---- places in another order

any_append : {X : Type 0} (p : X → Bool) (xs ys : List X) → list_any p (xs ++ ys) ≡ (list_any p xs || list_any p ys)
any_append p [] ys = refl
any_append p (x ∷ xs) ys = ap (λ (b : Bool). p x || b) (any_append p xs ys) ∙ or_in (p x) (list_any p xs) (list_any p ys)
  where
    or_in : (a b c : Bool) → (a || (b || c)) ≡ ((a || b) || c)
    or_in true b c = refl
    or_in false b c = refl

-- the same places are among others
abbrev pub SamePlaces : List ℕ → List ℕ → Type 0
SamePlaces xs ys = (p : ℕ) → list_any (λ q. p == q) xs ≡ list_any (λ q. p == q) ys

pub once_same : (xs ys ps : List ℕ) → SamePlaces xs ys → are_named_once xs ps ≡ are_named_once ys ps
once_same xs ys [] same = refl
once_same xs ys (p ∷ ps) same = λ i. not (same p i) && once_same (p ∷ xs) (p ∷ ys) ps (λ q. ap (λ (b : Bool). (q == p) || b) (same q)) i

-- one more in front or at the end
turned : (xs : List ℕ) (p : ℕ) → SamePlaces (p ∷ xs) (xs ++ p ∷ [])
turned xs p q = or_turned (q == p) (list_any (λ r. q == r) xs) ∙ sym (any_append (λ r. q == r) xs (p ∷ []))
  where
    or_turned : (a b : Bool) → (a || b) ≡ (b || (a || false))
    or_turned true true = refl
    or_turned true false = refl
    or_turned false true = refl
    or_turned false false = refl

-- some places, and others behind them
pub once_both : (others xs ys : List ℕ) → are_named_once others (xs ++ ys) ≡ (are_named_once others xs && are_named_once (others ++ xs) ys)
once_both others [] ys = ap (λ (os : List ℕ). are_named_once os ys) (sym (append-nil others))
once_both others (x ∷ xs) ys =
    ap (λ (b : Bool). not (list_any (λ q. x == q) others) && b) (once_both (x ∷ others) xs ys)
    ∙ and_in (not (list_any (λ q. x == q) others)) (are_named_once (x ∷ others) xs) (are_named_once ((x ∷ others) ++ xs) ys)
    ∙ ap (λ (b : Bool). (not (list_any (λ q. x == q) others) && are_named_once (x ∷ others) xs) && b) (once_same ((x ∷ others) ++ xs) (others ++ x ∷ xs) ys moved)
  where
    and_in : (a b c : Bool) → (a && (b && c)) ≡ ((a && b) && c)
    and_in true b c = refl
    and_in false b c = refl

    moved : SamePlaces ((x ∷ others) ++ xs) (others ++ x ∷ xs)
    moved q =
        any_append (λ r. q == r) (x ∷ others) xs ∙ ap (λ (b : Bool). b || list_any (λ r. q == r) xs) (turned others x q)
        ∙ sym (any_append (λ r. q == r) (others ++ x ∷ []) xs) ∙ ap (list_any (λ r. q == r)) (append_assoc others (x ∷ []) xs)

pub places_same : (xs ys : List ℕ) (named : NamedPlaces) → SamePlaces xs ys → HasPlaces xs named → HasPlaces ys named
places_same xs ys named same has p = sym (same p) ∙ has p

-- ---- one part behind another

pub noted_none : (named : NamedPlaces) → NotesPlaces [] named named true
noted_none named others has = record { once_is = refl; noted = λ e. subst (λ (os : List ℕ). HasPlaces os named) (sym (append-nil others)) has }

pub noted_more : (xs ys : List ℕ) (old mid new : NamedPlaces) (once : Bool) → NotesPlaces xs old mid true → NotesPlaces ys mid new once → NotesPlaces (xs ++ ys) old new once
noted_more xs ys old mid new once first second others has =
    let a = first others has in
    let b = second (others ++ xs) (a.noted refl) in
    record {
      once_is = b.once_is ∙ ap (λ (c : Bool). c && are_named_once (others ++ xs) ys) a.once_is ∙ sym (once_both others xs ys);
      noted = λ e. subst (λ (os : List ℕ). HasPlaces os new) (append_assoc others xs ys) (b.noted e);
    }

-- what was found double stays so whatever comes behind it
pub noted_double : (xs ys : List ℕ) (old new any : NamedPlaces) → NotesPlaces xs old new false → NotesPlaces (xs ++ ys) old any false
noted_double xs ys old new any first others has =
    let a = first others has in
    record {
      once_is = ap (λ (c : Bool). c && are_named_once (others ++ xs) ys) a.once_is ∙ sym (once_both others xs ys);
      noted = λ e. absurd cc;
    }

-- ---- one place

-- one place that is put into the set
pub noted_one : (place : ℕ) (old new : NamedPlaces) (added : Bool) → added ≡ not (is_noted old place) → (added ≡ true → (q : ℕ) → is_noted new q ≡ (is_noted old q || (q == place))) → NotesPlaces (place ∷ []) old new added
noted_one place old new added told grows others has = record {
  once_is = told ∙ ap not (sym (has place)) ∙ alone (not (list_any (λ q. place == q) others));
  noted = λ e q. any_append (λ r. q == r) others (place ∷ []) ∙ (λ i. has q i || last (q == place) i) ∙ sym (grows e q);
}
  where
    alone : (b : Bool) → b ≡ (b && true)
    alone true = refl
    alone false = refl

    last : (b : Bool) → (b || false) ≡ b
    last true = refl
    last false = refl

-- ---- baskets one after the other

same_place : (p q : ℕ) → is_eq (nat_cmp p q) ≡ (q == p)
same_place p q = by (ltb p q) (p == q) refl refl
  where
    by : (a b : Bool) → ltb p q ≡ a → (p == q) ≡ b → is_eq (cond a Less (cond b Equal Greater)) ≡ (q == p)
    by true b lt e = sym (ne_eqb q p (λ same. let f = ltb-true p q lt in omega (arith, f, same)))
    by false true lt e = sym (eq-eqb q p (sym (eqb-true p q e)))
    by false false lt e = sym (ne_eqb q p (λ same. let f = eqb-false p q e in f (sym same)))

module _ (baskets : List BasketAt) (k : ℕ) (d : BasketAt) (start old new : NamedPlaces) (added : Bool) (lt : k < length baskets) (told : added ≡ not (is_noted old (get_or baskets k d).seek))
    (grows : (q : ℕ) → is_noted new q ≡ cond (is_eq (nat_cmp (get_or baskets k d).seek q)) true (is_noted old q)) (so : NotesPlaces (map (λ at. at.seek) (take k baskets)) start old true) where
  one : NotesPlaces ((get_or baskets k d).seek ∷ []) old new added
  one = noted_one (get_or baskets k d).seek old new added told (λ e q. grows q ∙ ap (λ (b : Bool). cond b true (is_noted old q)) (same_place (get_or baskets k d).seek q) ∙ turn (q == (get_or baskets k d).seek) (is_noted old q))
    where
      turn : (a b : Bool) → cond a true b ≡ (b || a)
      turn true true = refl
      turn true false = refl
      turn false true = refl
      turn false false = refl

  up_to : map (λ at. at.seek) (take (k + 1) baskets) ≡ map (λ at. at.seek) (take k baskets) ++ (get_or baskets k d).seek ∷ []
  up_to = ap (map (λ at. at.seek)) (take_more baskets k d lt) ∙ map-append (λ at. at.seek) (take k baskets) (get_or baskets k d ∷ [])

  pub noted_at : NotesPlaces (map (λ at. at.seek) (take (k + 1) baskets)) start new added
  noted_at = subst (λ (ps : List ℕ). NotesPlaces ps start new added) (sym up_to) (noted_more (map (λ at. at.seek) (take k baskets)) ((get_or baskets k d).seek ∷ []) start old new added so one)

  pub noted_next : added ≡ true → NotesPlaces (map (λ at. at.seek) (take (k + 1) baskets)) start new true
  noted_next e = subst (NotesPlaces (map (λ at. at.seek) (take (k + 1) baskets)) start new) e noted_at

  pub noted_ends : added ≡ false → NotesPlaces (map (λ at. at.seek) baskets) start new false
  noted_ends e =
      let all : map (λ at. at.seek) baskets ≡ map (λ at. at.seek) (take (k + 1) baskets) ++ map (λ at. at.seek) (drop (k + 1) baskets) =
      ap (map (λ at. at.seek)) (sym (take-append-drop (k + 1) baskets)) ∙ map-append (λ at. at.seek) (take (k + 1) baskets) (drop (k + 1) baskets) in
      subst (λ (ps : List ℕ). NotesPlaces ps start new false) (sym all)
      (noted_double (map (λ at. at.seek) (take (k + 1) baskets)) (map (λ at. at.seek) (drop (k + 1) baskets)) start new new (subst (NotesPlaces (map (λ at. at.seek) (take (k + 1) baskets)) start new) e noted_at))

pub noted_baskets : (baskets : List BasketAt) (k : ℕ) (start now : NamedPlaces) → length baskets ≤ k → NotesPlaces (map (λ at. at.seek) (take k baskets)) start now true → NotesPlaces (map (λ at. at.seek) baskets) start now true
noted_baskets baskets k start now le so = subst (λ (ats : List BasketAt). NotesPlaces (map (λ at. at.seek) ats) start now true) (take_all k baskets le) so

-- ---- branches one after the other

abbrev pub branch_places : List Branch → List ℕ
branch_places branches = flat_map (λ b. map (λ at. at.seek) b.baskets) branches

module _ (branches : List Branch) (k : ℕ) (b : Branch) (start old new : NamedPlaces) (once : Bool) (lt : k < length branches) (is : b ≡ get_or branches k b) (seen : List BasketAt) (sees : seen ≡ b.baskets)
    (so : NotesPlaces (branch_places (take k branches)) start old true) (notes : NotesPlaces (map (λ at. at.seek) seen) old new once) where
  reached : branch_places (take (k + 1) branches) ≡ branch_places (take k branches) ++ map (λ at. at.seek) seen
  reached =
      ap branch_places (take_more branches k b lt ∙ ap (λ (c : Branch). take k branches ++ c ∷ []) (sym is))
      ∙ flat_map-append (λ c. map (λ at. at.seek) c.baskets) (take k branches) (b ∷ [])
      ∙ ap (λ (ps : List ℕ). branch_places (take k branches) ++ ps) (append-nil (map (λ at. at.seek) b.baskets) ∙ ap (map (λ at. at.seek)) (sym sees))

  noted_here : NotesPlaces (branch_places (take (k + 1) branches)) start new once
  noted_here = subst (λ (ps : List ℕ). NotesPlaces ps start new once) (sym reached) (noted_more (branch_places (take k branches)) (map (λ at. at.seek) seen) start old new once so notes)

  pub branch_next : once ≡ true → NotesPlaces (branch_places (take (k + 1) branches)) start new true
  branch_next e = subst (NotesPlaces (branch_places (take (k + 1) branches)) start new) e noted_here

  pub branch_ends : once ≡ false → NotesPlaces (branch_places branches) start new false
  branch_ends e =
      let all : branch_places branches ≡ branch_places (take (k + 1) branches) ++ branch_places (drop (k + 1) branches) =
      ap branch_places (sym (take-append-drop (k + 1) branches)) ∙ flat_map-append (λ c. map (λ at. at.seek) c.baskets) (take (k + 1) branches) (drop (k + 1) branches) in
      subst (λ (ps : List ℕ). NotesPlaces ps start new false) (sym all)
      (noted_double (branch_places (take (k + 1) branches)) (branch_places (drop (k + 1) branches)) start new new (subst (NotesPlaces (branch_places (take (k + 1) branches)) start new) e noted_here))

pub noted_branches : (branches seen : List Branch) (k : ℕ) (start now : NamedPlaces) → seen ≡ branches → length seen ≤ k → NotesPlaces (branch_places (take k seen)) start now true → NotesPlaces (branch_places branches) start now true
noted_branches branches seen k start now sees le so = subst (λ (bs : List Branch). NotesPlaces (branch_places bs) start now true) (take_all k seen le ∙ sees) so
