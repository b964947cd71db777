-- The reason against a tree's header that counts, and the baskets of trees that are noted.
use Rattle.std.proofs.Common.{◌≡◌, ◌∙◌, ℕ, List, [], ◌∷◌, ◌++◌, append-nil, Bool, true, false, cond, not, ◌&&◌, ◌==◌, Option, Some, None, refl, sym, ap, subst}
use Rattle.std.proofs.lemmas.List.{Concat.{flat_map-append}, Elements.{filter-append}}
use Rattle.std.specs.{Prelude.{is_some, option_and_then}, List.{filter, flat_map, list_any}, Option.{option_map_or}}
use Rattle.rio_num.specs.Reading.{some_if}
use Rattle.rio_machine.specs.State.{Row, Tree}
use Rattle.rio_format.specs.declared.class.ClassDef.{ClassDef}
use Rattle.rio_tree.specs.declared.head.TreeHead.{TreeHead}
use Rattle.rio_state.specs.{Contents.{FileClasses}, KeyedRecords.{KeyedRecord, is_tree_record, record_at, tree_records}, Reasons.{Beside, is_bad_tree, beside_trees}}
use Rattle.rio_state.specs.Trees.{all_places_named, are_named_once, basket_places, header_in, places_named, records_before, saved_rows, saved_tree, tree_by, tree_of}
use Rattle.rio_recover.specs.{Checks.{HasNamed, header_records, whole_header}, Keys.{keyed}}
use Rattle.rio_recover.specs.declared.named.NamedPlaces.{NamedPlaces}

-- ---- the header

module _ (beside : Beside) (r : KeyedRecord) where
  abbrev earlier : List ℕ
  earlier = all_places_named beside.classes (records_before (tree_records beside.tops) r)

  abbrev by_head : TreeHead → Option Tree
  by_head head = tree_by beside.classes.declared (record_at beside.records) earlier r head

  no_tree_by : (o : Option TreeHead) → option_and_then (λ head. some_if (is_some (saved_rows beside.classes.declared (record_at beside.records) head)) head) o ≡ None
      → option_and_then by_head o ≡ None
  unfolding tree_by
  no_tree_by None e = refl
  no_tree_by (Some head) e = by (saved_rows beside.classes.declared (record_at beside.records) head) e
    where
      by : (rows : Option (List Row)) → some_if (is_some rows) head ≡ None → option_and_then (λ rs. some_if (are_named_once earlier (basket_places head)) (saved_tree r head rs)) rows ≡ None
      by None e = refl
      by (Some rows) e = absurd cc

  -- without its rows it represents no tree
  pub no_tree : whole_header beside r ≡ None → is_some (tree_of (beside_trees beside) r) ≡ false
  unfolding tree_of
  no_tree e = ap is_some (no_tree_by (header_in beside.classes r) e)

  record IsWhole (head : TreeHead) : Type 0 where
    header : header_in beside.classes r ≡ Some head
    rows : is_some (saved_rows beside.classes.declared (record_at beside.records) head) ≡ true

  whole_by : (head : TreeHead) (o : Option TreeHead) → header_in beside.classes r ≡ o
      → option_and_then (λ h. some_if (is_some (saved_rows beside.classes.declared (record_at beside.records) h)) h) o ≡ Some head → IsWhole head
  whole_by head None is e = absurd cc
  whole_by head (Some h) is e = by (is_some (saved_rows beside.classes.declared (record_at beside.records) h)) refl e
    where
      by : (b : Bool) → is_some (saved_rows beside.classes.declared (record_at beside.records) h) ≡ b → some_if b h ≡ Some head → IsWhole head
      by true s e =
          let same : h ≡ head = cc in
          record {
            header = is ∙ ap (λ (x : TreeHead). let o : Option TreeHead = Some x in o) same;
            rows = ap (λ (x : TreeHead). is_some (saved_rows beside.classes.declared (record_at beside.records) x)) (sym same) ∙ s;
          }
      by false s e = absurd cc

  pub header_is : (head : TreeHead) → whole_header beside r ≡ Some head → header_in beside.classes r ≡ Some head
  header_is head e = (whole_by head (header_in beside.classes r) refl e).header

  tree_rows : (head : TreeHead) (rows : Option (List Row)) → is_some rows ≡ true
      → is_some (option_and_then (λ rs. some_if (are_named_once earlier (basket_places head)) (saved_tree r head rs)) rows) ≡ are_named_once earlier (basket_places head)
  tree_rows head None e = absurd cc
  tree_rows head (Some rows) e = by (are_named_once earlier (basket_places head))
    where
      by : (b : Bool) → is_some (some_if b (saved_tree r head rows)) ≡ b
      by true = refl
      by false = refl

  tree_by_is : (head : TreeHead) → is_some (saved_rows beside.classes.declared (record_at beside.records) head) ≡ true → is_some (by_head head) ≡ are_named_once earlier (basket_places head)
  unfolding tree_by
  tree_by_is head rows = tree_rows head (saved_rows beside.classes.declared (record_at beside.records) head) rows

  -- with its rows it does where none of its baskets is named before or twice
  pub tree_if_once : (head : TreeHead) → whole_header beside r ≡ Some head → is_some (tree_of (beside_trees beside) r) ≡ are_named_once earlier (basket_places head)
  unfolding tree_of
  tree_if_once head e =
      let w = whole_by head (header_in beside.classes r) refl e in
      ap (λ (o : Option TreeHead). is_some (option_and_then by_head o)) w.header ∙ tree_by_is head w.rows

  -- ---- the reason

  pub bad_by : (counts some : Bool) → is_tree_record beside.tops r ≡ counts → is_some (tree_of (beside_trees beside) r) ≡ some → is_bad_tree beside r ≡ (counts && not some)
  bad_by counts some t s = λ i. t i && not (s i)

-- ---- the baskets that are named

pub named_are : (classes : FileClasses) (r : KeyedRecord) (head : TreeHead) → header_in classes r ≡ Some head → places_named classes r ≡ basket_places head
unfolding places_named
named_are classes r head is = ap (λ (o : Option TreeHead). option_map_or basket_places o []) is

module _ (beside : Beside) (before : List KeyedRecord) (r : KeyedRecord) where
  more_headers : (b : Bool) → is_tree_record beside.tops r ≡ b → header_records beside.tops (before ++ r ∷ []) ≡ header_records beside.tops before ++ cond b (r ∷ []) []
  more_headers b e =
      filter-append (is_tree_record beside.tops) before (r ∷ []) ∙ ap (λ (c : Bool). header_records beside.tops before ++ cond c (r ∷ []) []) e

  pub headers_more : is_tree_record beside.tops r ≡ true → header_records beside.tops (before ++ r ∷ []) ≡ header_records beside.tops before ++ r ∷ []
  headers_more e = more_headers true e

  pub headers_same : is_tree_record beside.tops r ≡ false → header_records beside.tops (before ++ r ∷ []) ≡ header_records beside.tops before
  headers_same e = more_headers false e ∙ append-nil (header_records beside.tops before)

  -- one more header names its baskets
  pub named_more : (head : TreeHead) → is_tree_record beside.tops r ≡ true → header_in beside.classes r ≡ Some head
      → all_places_named beside.classes (header_records beside.tops (before ++ r ∷ [])) ≡ all_places_named beside.classes (header_records beside.tops before) ++ basket_places head
  named_more head e is =
      ap (all_places_named beside.classes) (headers_more e)
      ∙ flat_map-append (places_named beside.classes) (header_records beside.tops before) (r ∷ [])
      ∙ ap (λ (xs : List ℕ). all_places_named beside.classes (header_records beside.tops before) ++ xs) (append-nil (places_named beside.classes r) ∙ named_are beside.classes r head is)

  -- another key names none
  pub named_same : (named : NamedPlaces) → is_tree_record beside.tops r ≡ false → HasNamed beside before named → HasNamed beside (before ++ r ∷ []) named
  named_same named e has p = ap (λ (rs : List KeyedRecord). list_any (λ q. p == q) (all_places_named beside.classes rs)) (headers_same e) ∙ has p
