-- A tree is the same among other records, where the baskets that its header names are the same.
use Rattle.std.proofs.Common.{◌≡◌, inl, inr, ◌∙◌, ℕ, List, [], ◌∷◌, map, Bool, true, false, cond, ◌==◌, ◌&&◌, Option, Some, None, refl, sym, ap, subst}
use Rattle.std.proofs.lemmas.Bool.{eq-eqb, eqb-true}
use Rattle.std.specs.{Prelude.{is_some, option_and_then}, List.{find, flat_map, list_all, list_any}, Option.{option_map_or}}
use Rattle.rio_num.specs.Reading.{some_if}
use Rattle.rio_machine.specs.State.{Row}
use Rattle.rio_tree.specs.{declared.basket_at.BasketAt.{BasketAt}, declared.head.Branch.{Branch}, declared.head.TreeHead.{TreeHead}}
use Rattle.rio_state.specs.{Contents.{FileClasses}, KeyedRecords.{KeyedRecord, begins_at, record_at}, OneMore.{HasOneMoreIn}}
use Rattle.rio_state.specs.Trees.{TreesBeside, all_places_named, are_named_once, basket_bytes, basket_places, bytes_as_said, header_in, is_named_place, places_named, records_before, saved_rows, saved_tree, tree_by, tree_of}
use Rattle.rio_state.proofs.{Insertion.{find_none, find_same}, Members.{In, in_left, in_map, in_right, none_at, none_from}, SavedRows.{HasBasket, rows_same, rows_there}}

-- ---- elements of lists that a list's elements give

pub in_flat_map : {A B : Type 0} (f : A → List B) (y : B) (x : A) (xs : List A) → In x xs → In y (f x) → In y (flat_map f xs)
in_flat_map f y x [] i j = absurd i
in_flat_map f y x (z ∷ zs) (inl same) j = in_left y (f z) (flat_map f zs) (subst (λ (w : _). In y (f w)) (sym same) j)
in_flat_map f y x (z ∷ zs) (inr i) j = in_right y (f z) (flat_map f zs) (in_flat_map f y x zs i j)

-- ---- what a tree's record holds

-- the record's header is read, its rows are there, and none of its baskets is named twice
pub record HoldsTree (beside : TreesBeside) (r : KeyedRecord) : Type 0 where
  pub head : TreeHead
  pub header : header_in beside.classes r ≡ Some head
  pub rows : List Row
  pub rows_are : saved_rows beside.classes.declared (record_at beside.records) head ≡ Some rows
  pub once : are_named_once (all_places_named beside.classes (records_before beside.headers r)) (basket_places head) ≡ true
  pub tree : tree_of beside r ≡ Some (saved_tree r head rows)

module _ (beside : TreesBeside) (r : KeyedRecord) where
  abbrev before : List ℕ
  before = all_places_named beside.classes (records_before beside.headers r)

  by_header : (head : Option TreeHead) → header_in beside.classes r ≡ head → is_some (option_and_then (tree_by beside.classes.declared (record_at beside.records) before r) head) ≡ true
      → tree_of beside r ≡ option_and_then (tree_by beside.classes.declared (record_at beside.records) before r) head → HoldsTree beside r
  unfolding tree_by
  by_header None is some tree = absurd cc
  by_header (Some head) is some tree =
      by_rows (saved_rows beside.classes.declared (record_at beside.records) head) refl (are_named_once before (basket_places head)) refl some tree
    where
      by_rows : (rows : Option (List Row)) → saved_rows beside.classes.declared (record_at beside.records) head ≡ rows → (once : Bool) → are_named_once before (basket_places head) ≡ once
          → is_some (option_and_then (λ rs. some_if once (saved_tree r head rs)) rows) ≡ true
          → tree_of beside r ≡ option_and_then (λ rs. some_if once (saved_tree r head rs)) rows → HoldsTree beside r
      by_rows None rows_are once once_is some tree = absurd cc
      by_rows (Some rows) rows_are true once_is some tree = record { head = head; header = is; rows = rows; rows_are = rows_are; once = once_is; tree = tree }
      by_rows (Some rows) rows_are false once_is some tree = absurd cc

  -- a record that represents a tree holds it
  pub holds_tree : is_some (tree_of beside r) ≡ true → HoldsTree beside r
  unfolding tree_of
  holds_tree some = by_header (header_in beside.classes r) refl some refl

-- ---- the baskets of a header

-- the header in the record names the basket
abbrev pub NamesBasket : FileClasses → KeyedRecord → BasketAt → Type 0
NamesBasket classes r at = (head : TreeHead) × (header_in classes r ≡ Some head) × HasBasket head at

basket_place : (head : TreeHead) (at : BasketAt) → HasBasket head at → In at.seek (basket_places head)
basket_place head at (b, i, j) = in_flat_map (λ (c : Branch). map (λ (a : BasketAt). a.seek) c.baskets) at.seek b head.branches i (in_map (λ (a : BasketAt). a.seek) at b.baskets j)

-- and so its place
pub place_named : (classes : FileClasses) (r : KeyedRecord) (at : BasketAt) → NamesBasket classes r at → In at.seek (places_named classes r)
unfolding places_named
place_named classes r at (head, is, has) =
    subst (λ (o : Option TreeHead). In at.seek (option_map_or basket_places o [])) (sym is) (basket_place head at has)

-- what no header names none of them names
pub none_of : (classes : FileClasses) (headers : List KeyedRecord) (place : ℕ) → is_named_place classes headers place ≡ false → (r : KeyedRecord) → In r headers
    → list_any (λ p. p == place) (places_named classes r) ≡ false
none_of classes headers place none r i =
    none_from (λ p. p == place) (places_named classes r) (λ p j e. none_at (λ q. q == place) p (all_places_named classes headers) none (in_flat_map (places_named classes) p r headers i j) e)

-- ---- the same tree

module _ (classes : FileClasses) (headers old new : List KeyedRecord) (r : KeyedRecord) where
  abbrev pub among_old : TreesBeside
  among_old = record { classes = classes; records = old; headers = headers }

  abbrev pub among_new : TreesBeside
  among_new = record { classes = classes; records = new; headers = headers }

  by_head : (head : Option TreeHead) → header_in classes r ≡ head → ((at : BasketAt) → NamesBasket classes r at → basket_bytes (record_at old) at ≡ basket_bytes (record_at new) at)
      → option_and_then (tree_by classes.declared (record_at old) (all_places_named classes (records_before headers r)) r) head
      ≡ option_and_then (tree_by classes.declared (record_at new) (all_places_named classes (records_before headers r)) r) head
  unfolding tree_by
  by_head None is same = refl
  by_head (Some head) is same =
      ap (option_and_then (λ rows. some_if (are_named_once (all_places_named classes (records_before headers r)) (basket_places head)) (saved_tree r head rows)))
      (rows_same (record_at old) (record_at new) classes.declared head (λ at has. same at (head, is, has)))

  -- a record represents the same tree where the baskets that it names are the same
  pub tree_same : ((at : BasketAt) → NamesBasket classes r at → basket_bytes (record_at old) at ≡ basket_bytes (record_at new) at) → tree_of among_old r ≡ tree_of among_new r
  unfolding tree_of
  tree_same same = by_head (header_in classes r) refl same

  -- each basket of a tree is there
  pub baskets_there : is_some (tree_of among_old r) ≡ true → (at : BasketAt) → NamesBasket classes r at → is_some (basket_bytes (record_at old) at) ≡ true
  baskets_there some at (head, is, has) =
      let h = holds_tree among_old r some in
      let same : h.head ≡ head = some_same (sym h.header ∙ is) in
      rows_there (record_at old) classes.declared head (ap (λ (x : TreeHead). is_some (saved_rows classes.declared (record_at old) x)) (sym same) ∙ ap is_some h.rows_are) at has
    where
      some_same : {a b : TreeHead} → Some a ≡ Some b → a ≡ b
      some_same e = cc

-- ---- one record more or less

pub none_there : (records : List KeyedRecord) (at : BasketAt) → begins_at records at.seek ≡ false → is_some (basket_bytes (record_at records) at) ≡ false
unfolding basket_bytes
none_there records at none = ap (λ (o : Option KeyedRecord). is_some (option_and_then (bytes_as_said at) o)) (find_none (λ r. r.head.seek == at.seek) records none)

pub place_same : (old new : List KeyedRecord) (x : KeyedRecord) → HasOneMoreIn old new x → (at : BasketAt) → (x.head.seek == at.seek) ≡ false
    → basket_bytes (record_at old) at ≡ basket_bytes (record_at new) at
unfolding basket_bytes
place_same old new x h at other = ap (option_and_then (bytes_as_said at)) (sym (find_same (λ r. r.head.seek == at.seek) x old new h other))

module _ (classes : FileClasses) (headers old new : List KeyedRecord) (x : KeyedRecord) (h : HasOneMoreIn old new x) (r : KeyedRecord) where
  -- A tree stays with one more record, at whose place no record began.
  pub tree_stays : begins_at old x.head.seek ≡ false → is_some (tree_of (among_old classes headers old new r) r) ≡ true
      → tree_of (among_old classes headers old new r) r ≡ tree_of (among_new classes headers old new r) r
  tree_stays free some = tree_same classes headers old new r (λ at names. by at names (x.head.seek == at.seek) refl)
    where
      by : (at : BasketAt) → NamesBasket classes r at → (b : Bool) → (x.head.seek == at.seek) ≡ b → basket_bytes (record_at old) at ≡ basket_bytes (record_at new) at
      by at names true e =
          let none = none_there old at (ap (begins_at old) (sym (eqb-true _ _ e)) ∙ free) in
          let f : true ≡ false = sym (baskets_there classes headers old new r some at names) ∙ none in
          absurd cc
      by at names false e = place_same old new x h at e

  -- A tree that doesn't name the place is the same with the record and without it.
  pub tree_kept : list_any (λ p. p == x.head.seek) (places_named classes r) ≡ false
      → tree_of (among_old classes headers old new r) r ≡ tree_of (among_new classes headers old new r) r
  tree_kept none = tree_same classes headers old new r (λ at names. by at names (x.head.seek == at.seek) refl)
    where
      by : (at : BasketAt) → NamesBasket classes r at → (b : Bool) → (x.head.seek == at.seek) ≡ b → basket_bytes (record_at old) at ≡ basket_bytes (record_at new) at
      by at names true e =
          absurd (none_at (λ p. p == x.head.seek) at.seek (places_named classes r) none (place_named classes r at names) (eq-eqb at.seek x.head.seek (sym (eqb-true _ _ e))))
      by at names false e = place_same old new x h at e

-- ---- all trees

module _ {A : Type 0} where
  pub all_agree : (p q : A → Bool) (xs : List A) → ((x : A) → In x xs → p x ≡ q x) → list_all p xs ≡ list_all q xs
  all_agree p q [] same = refl
  all_agree p q (x ∷ xs) same =
      let here = same x (inl refl) in
      let rest = all_agree p q xs (λ y i. same y (inr i)) in
      λ i. here i && rest i

  pub found_agree : {B : Type 0} (f g : A → Option B) (test : A → Bool) (xs : List A) → ((x : A) → In x xs → f x ≡ g x) → option_and_then f (find test xs) ≡ option_and_then g (find test xs)
  found_agree f g test [] same = refl
  found_agree f g test (x ∷ xs) same =
      let here = same x (inl refl) in
      let rest = found_agree f g test xs (λ y i. same y (inr i)) in
      by (test x) here rest
    where
      by : (b : Bool) → f x ≡ g x → option_and_then f (find test xs) ≡ option_and_then g (find test xs)
          → option_and_then f (cond b (Some x) (find test xs)) ≡ option_and_then g (cond b (Some x) (find test xs))
      by true here rest = here
      by false here rest = rest
