-- No tree names the place of a record that is no basket.
use Rattle.std.proofs.Common.{◌≡◌, ◌∙◌, ℕ, codes, List, true, false, ◌==◌, sym, ap}
use Rattle.std.proofs.lemmas.Bool.{eqb-true}
use Rattle.std.specs.{Prelude.{is_some}, List.{list_any}}
use Rattle.rio_chain.specs.Segments.{IsChain, Link}
use Rattle.rio_state.specs.{Contents.{file_classes}, KeyedRecords.{KeyedRecord, has_class, info_key, keyed_records, top_keys, tree_records}, Reads.{AreRecordsOf}}
use Rattle.rio_state.specs.Trees.{TreesBeside, all_places_named, is_named_place, places_named, tree_of, trees_beside}
use Rattle.rio_machine.specs.State.{State}
use Rattle.rio_state.proofs.{Members.{In, all_at, none_from}, Places.{basket_there, flat_map_in, one_record}, TreesSame.{holds_tree}}

module _ (file : List ℕ) (links : List Link) (m : State) (r : KeyedRecord) (chain : IsChain links file) (is : AreRecordsOf (keyed_records links) m) (among : In r (keyed_records links))
    (other : has_class (codes "TBasket") r.head ≡ false) where
  abbrev records : List KeyedRecord
  records = keyed_records links

  abbrev headers : List KeyedRecord
  headers = tree_records (top_keys records)

  abbrev beside : TreesBeside
  beside = trees_beside (info_key records) records (top_keys records)

  not_its : (s : KeyedRecord) → In s headers → (p : ℕ) → In p (places_named (file_classes (info_key records)) s) → (p == r.head.seek) ≡ true → ⊥
  not_its s i p j e =
      let h = holds_tree beside s (all_at (λ t. is_some (tree_of beside t)) s headers is.stand.tree_readable i) in
      let b = basket_there beside s h p j in
      let one = one_record file links r b.b chain among b.among (sym (b.seek ∙ eqb-true p r.head.seek e)) in
      let basket = ap (λ (k : KeyedRecord). has_class (codes "TBasket") k.head) one ∙ b.basket in
      let f : false ≡ true = sym other ∙ basket in absurd cc

  -- one tree
  pub not_named : (s : KeyedRecord) → In s headers → list_any (λ p. p == r.head.seek) (places_named (file_classes (info_key records)) s) ≡ false
  not_named s i = none_from (λ p. p == r.head.seek) (places_named (file_classes (info_key records)) s) (not_its s i)

  -- and none of all
  pub none_names : is_named_place (file_classes (info_key records)) headers r.head.seek ≡ false
  none_names =
      none_from (λ p. p == r.head.seek) (all_places_named (file_classes (info_key records)) headers) (λ p j e.
      let from = flat_map_in (places_named (file_classes (info_key records))) p headers j in not_its from.0 from.1 p from.2 e)
