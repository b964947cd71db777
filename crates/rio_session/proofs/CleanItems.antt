-- In a file without garbage no header is outdated.
use Rattle.std.proofs.Common.{◌≡◌, ◌≢◌, inl, inr, ◌∙◌, ℕ, ◌==◌, ◌||◌, ◌&&◌, List, [], ◌∷◌, Bool, true, false, cond, not, codes, Option, Some, None, refl, sym, ap, subst, arith}
use Rattle.std.proofs.lemmas.Bool.{and_from, and_parts, eqb-true, not-true}
use Rattle.std.proofs.lemmas.Slice.Eq.{bytes_eq-Decides}
use Rattle.std.specs.{List.{filter, list_all}, Str.{bytes_eq}}
use Rattle.rio_chain.specs.Segments.{IsChain, Link}
use Rattle.rio_machine.specs.State.{State}
use Rattle.rio_state.specs.{Cleaning.{unreferred}, Contents.{file_classes}, Reads.{AreRecordsOf, info_place}, Referred.{is_item_record, is_named_basket, is_referred}, Trees.{TreesBeside, is_named_place, places_named, trees_beside}}
use Rattle.rio_state.specs.KeyedRecords.{KeyedRecord, first_place, has_class, has_info_name, info_key, is_in_directory, is_info_key, is_internal, is_top_key, keyed_records, top_keys, tree_records}
use Rattle.rio_state.proofs.{LessRecords.{record_late, top_is_later}, Members.{In, all_at, contains_in, filter_in, in_filter, passing}, Places.{basket_there, flat_map_in, info_among, one_record}, TreesSame.{HoldsTree, holds_tree}}
use Rattle.rio_effect.specs.AllItems.{AreAllItems}

all_of : {A : Type 0} (p : A → Bool) (xs : List A) → ((x : A) → In x xs → p x ≡ true) → list_all p xs ≡ true
all_of p [] each = refl
all_of p (x ∷ xs) each = and_from (p x) (list_all p xs) (each x (inl refl)) (all_of p xs (λ y i. each y (inr i)))

none_left : {A : Type 0} (p : A → Bool) (xs : List A) → filter (λ x. not (p x)) xs ≡ [] → (x : A) → In x xs → p x ≡ true
none_left p xs none x i = by (p x) refl
  where
    by : (b : Bool) → p x ≡ b → b ≡ true
    by true is = refl
    by false is = absurd (subst (λ (ys : List _). In x ys) none (in_filter (λ y. not (p y)) x xs i (ap not is)))

-- a basket is no key of the directory
not_basket : (r : KeyedRecord) → is_top_key r.head ≡ true → has_class (codes "TBasket") r.head ≡ true → ⊥
not_basket r top basket = by (has_class (codes "TFile") r.head) (has_class (codes "TBasket") r.head) basket
    (not-true (is_internal r.head) (and_parts (r.head.pdir == first_place) (not (is_internal r.head)) (and_parts (is_in_directory r.head) (not (has_info_name r.head)) top).0).1)
  where
    by : (a b : Bool) → b ≡ true → (a || b) ≡ false → ⊥
    by true b is e = absurd cc
    by false true is e = absurd cc
    by false false is e = absurd cc

module _ (file : List ℕ) (links : List Link) (m : State) (chain : IsChain links file) (is : AreRecordsOf (keyed_records links) m) where
  abbrev rs : List KeyedRecord
  rs = keyed_records links

  abbrev tops : List KeyedRecord
  tops = top_keys (keyed_records links)

  abbrev beside : TreesBeside
  beside = trees_beside (info_key (keyed_records links)) (keyed_records links) (top_keys (keyed_records links))

  holds : (h : KeyedRecord) → In h (tree_records (top_keys (keyed_records links))) → HoldsTree beside h
  holds h i = holds_tree beside h (all_at _ h (tree_records tops) is.stand.tree_readable i)

  -- nor is the class list one
  not_listed : (r : KeyedRecord) → In r (keyed_records links) → is_top_key r.head ≡ true → r.head.seek ≢ info_place (info_key (keyed_records links))
  not_listed r i top = by (info_key rs) refl
    where
      by : (o : Option KeyedRecord) → info_key (keyed_records links) ≡ o → r.head.seek ≢ info_place o
      by None e at = let late = record_late file 100 links r chain.links_are i in omega (arith, late, at)
      by (Some k) e at =
          let found = info_among rs k e in
          let same : r ≡ k = one_record file links r k chain i found.0 at in
          let named : has_info_name r.head ≡ true = ap (λ (x : KeyedRecord). has_info_name x.head) same ∙ (and_parts (is_in_directory k.head) (has_info_name k.head) found.1).1 in
          let other : has_info_name r.head ≡ false = not-true (has_info_name r.head) (and_parts (is_in_directory r.head) (not (has_info_name r.head)) top).1 in
          absurd cc

  not_named : (r : KeyedRecord) → In r (keyed_records links) → is_top_key r.head ≡ true → is_named_basket (keyed_records links) r ≡ true → ⊥
  not_named r i top named =
      let classes = file_classes (info_key rs) in
      let place = passing (λ p. p == r.head.seek) _ named in
      let header = flat_map_in (places_named classes) place.x (tree_records tops) place.among in
      let there = basket_there beside header.0 (holds header.0 header.1) place.x header.2 in
      let same : there.b ≡ r = one_record file links there.b r chain there.among i (there.seek ∙ eqb-true place.x r.head.seek place.passes) in
      not_basket r top (ap (λ (x : KeyedRecord). has_class (codes "TBasket") x.head) (sym same) ∙ there.basket)

  pub items_of_clean : unreferred (keyed_records links) ≡ [] → AreAllItems links
  items_of_clean none = all_of (is_item_record tops) tops (λ r i.
      let parts = filter_in (λ k. is_top_key k.head) r rs i in
      by r parts.0 parts.1 (r.head.seek == first_place) (r.head.seek == info_place (info_key rs)) (is_item_record tops r) (is_named_basket rs r) refl refl refl (none_left (is_referred rs) rs none r parts.0))
    where
      by : (r : KeyedRecord) → In r (keyed_records links) → is_top_key r.head ≡ true → (a b item d : Bool) → (r.head.seek == first_place) ≡ a → (r.head.seek == info_place (info_key (keyed_records links))) ≡ b
          → is_named_basket (keyed_records links) r ≡ d → (a || b || item || d) ≡ true → item ≡ true
      by r i top a b true d at info named e = refl
      by r i top true b false d at info named e = absurd (top_is_later file links r (record { chain = chain; among = contains_in r rs i }) top (eqb-true _ _ at))
      by r i top false true false d at info named e = absurd (not_listed r i top (eqb-true _ _ info))
      by r i top false false false true at info named e = absurd (not_named r i top named)
      by r i top false false false false at info named e = absurd cc
