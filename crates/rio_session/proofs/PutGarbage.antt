-- Nothing refers to the baskets that were put since the last save of their tree.
use Rattle.std.proofs.Common.{◌≡◌, ◌∙◌, ◌==◌, ◌||◌, inl, inr, ℕ, ◌+◌, ◌<◌, List, [], ◌∷◌, ◌++◌, map, not, nat_lt, Bool, true, false, Option, Some, None, refl, sym, ap, subst, arith}
use Rattle.std.proofs.lemmas.Bool.{and_parts, eq-eqb, eqb-true, false_from_ne_true, ltb-true, ne_eqb, not-true}
use Rattle.std.proofs.lemmas.List.{append-nil}
use Rattle.std.specs.{FinMap.{get}, List.{list_any}}
use Rattle.rio_key.specs.declared.head.KeyHead.{KeyHead}
use Rattle.rio_chain.specs.{Adjoining.{AreSegments}}
use Rattle.rio_machine.specs.State.{State, Tree}
use Rattle.rio_state.specs.{Closing.{item_heads}, Contents.{file_classes}, KeyedRecords.{KeyedRecord, begins_at, first_place, info_key, is_top_key, is_tree_key, is_tree_record, keyed_records, object_records, top_keys, tree_records}}
use Rattle.rio_state.specs.{Left.{info_head}, Reads.{info_place}, Referred.{is_item_record, is_named_basket}, Trees.{all_places_named, are_named_once}}
use Rattle.rio_state.proofs.{KeysFollow.{items_in}, Members.{In, all_at, any_from, contains_in, in_filter, in_left, in_map, in_right, none_from, passing}}
use Rattle.rio_effect.specs.{BasketRuns.{places_put}, Garbage.{IsGarbageAt}, TreeChanges.{cuts_of_tree}, TreeCommands.{KeepsTree}}
use Rattle.rio_effect.proofs.SavedHeads.{all_begin}
use Rattle.rio_recover.specs.Closable.{IsClosable}
use Rattle.rio_session.specs.{Due.{AreApart, IsClosableWith, key_place}, Fills.{places_of_trees, put_in}, Session.{HoldsState, file_records}, SessionState.{SessionState}}
use Rattle.rio_session.proofs.{KeepsGone.{places_releasable}, PutPlaces.{put_in_places}, PutsApart.{apart_both}}

-- what is named once isn't among the others
pub once_not : (others ps : List ℕ) → are_named_once others ps ≡ true → (p : ℕ) → In p ps → In p others → ⊥
once_not others [] once p i j = absurd i
once_not others (q ∷ ps) once p (inl same) j =
    let parts = and_parts (not (list_any (λ r. q == r) others)) (are_named_once (q ∷ others) ps) once in
    let none = not-true (list_any (λ r. q == r) others) parts.0 in
    let some : list_any (λ r. q == r) others ≡ true = any_from (λ r. q == r) p others j (eq-eqb q p same) in
    let f : true ≡ false = sym some ∙ none in absurd cc
once_not others (q ∷ ps) once p (inr i) j = once_not (q ∷ others) ps (and_parts (not (list_any (λ r. q == r) others)) (are_named_once (q ∷ others) ps) once).1 p i (inr j)

or_all : (a b c d : Bool) → a ≡ false → b ≡ false → c ≡ false → d ≡ false → ((a || b || c) || d) ≡ false
or_all false false false false p q r s = refl
or_all true b c d p q r s = absurd cc
or_all false true c d p q r s = absurd cc
or_all false false true d p q r s = absurd cc
or_all false false false true p q r s = absurd cc

-- an item's record has its key among the items
item_in : (records : List KeyedRecord) (r : KeyedRecord) → In r records → is_item_record (top_keys records) r ≡ true → In r.head (item_heads (top_keys records))
item_in records r i item =
    let parts = and_parts (is_top_key r.head) (not (is_tree_key r.head) || is_tree_record (top_keys records) r) item in
    let top = in_filter (λ k. is_top_key k.head) r records i parts.0 in
    by (is_tree_key r.head) refl top parts.1
  where
    by : (b : Bool) → is_tree_key r.head ≡ b → In r (top_keys records) → (not b || is_tree_record (top_keys records) r) ≡ true → In r.head (item_heads (top_keys records))
    by false object top e =
        in_map (λ (k : KeyedRecord). k.head) r (object_records (top_keys records) ++ tree_records (top_keys records))
        (in_left r (object_records (top_keys records)) (tree_records (top_keys records)) (in_filter (λ k. not (is_tree_key k.head)) r (top_keys records) top (ap not object)))
    by true tree top e =
        in_map (λ (k : KeyedRecord). k.head) r (object_records (top_keys records) ++ tree_records (top_keys records))
        (in_right r (object_records (top_keys records)) (tree_records (top_keys records)) (in_filter (is_tree_record (top_keys records)) r (top_keys records) top e))

module _ (s : SessionState) (m : State) (file : List ℕ) (h : HoldsState s m file) (shape : AreSegments s.segments) (kept : IsClosableWith s.segments s.heads s.trees s.info s.name) where
  abbrev records : List KeyedRecord
  records = keyed_records h.links

  abbrev seeks : List ℕ
  seeks = map (λ k. k.seek) s.heads

  -- each basket stands after the first record
  pub later : (p : ℕ) → In p (places_of_trees s.trees) → 100 < p
  later p i =
      let whole : IsClosable s.segments s.heads s.info (places_of_trees s.trees ++ []) s.name = subst (λ (ps : List ℕ). IsClosable s.segments s.heads s.info ps s.name) (sym (append-nil (places_of_trees s.trees))) kept.closable in
      let are = places_releasable s.heads s.info [] s.name (places_of_trees s.trees) s.segments shape whole in
      ltb-true 100 p (all_at (nat_lt 100) p (places_of_trees s.trees) are.later i)

  -- no key stands at a basket's place
  pub no_key : (k : KeyHead) → In k s.heads → In k.seek (places_of_trees s.trees) → ⊥
  no_key k i j =
      let front = key_place s.info in
      let back : AreApart (seeks ++ places_of_trees s.trees) = by s.info kept.apart in
      apart_both seeks (places_of_trees s.trees) back k.seek (in_map (λ (k : KeyHead). k.seek) k s.heads i) j
    where
      by : (o : Option KeyHead) → AreApart (key_place o ++ seeks ++ places_of_trees s.trees) → AreApart (seeks ++ places_of_trees s.trees)
      by None are = are
      by (Some l) are = are.1

  -- and no class list
  pub no_list : (p : ℕ) → In p (places_of_trees s.trees) → (p == info_place (info_key (keyed_records h.links))) ≡ false
  no_list p i = by (info_key (keyed_records h.links)) refl
    where
      by : (o : Option KeyedRecord) → info_key (keyed_records h.links) ≡ o → (p == info_place o) ≡ false
      by None is = let low = later p i in ne_eqb p 0 (λ same. omega (arith, low, same))
      by (Some l) is = ne_eqb p l.head.seek (λ same.
          let apart : AreApart (key_place (Some l.head) ++ seeks ++ places_of_trees s.trees) = subst (λ (o : Option KeyHead). AreApart (key_place o ++ seeks ++ places_of_trees s.trees)) (h.info ∙ ap info_head is) kept.apart in
          apart_both (l.head.seek ∷ []) (seeks ++ places_of_trees s.trees) apart p (inl (sym same)) (in_right p seeks (places_of_trees s.trees) i))

  module _ (name : List ℕ) (x : Tree) (there : get m.trees name ≡ Some x) where
    keeps : KeepsTree (file_records s h.links) m name x
    keeps = h.rows name x there

    pub put_garbage : (p : ℕ) → In p (places_put (put_in s.trees name)) → IsGarbageAt h.links p
    put_garbage p i =
        let k = keeps in
        let begins : begins_at records p ≡ true = all_begin records k.head.entries k.head.branches (cuts_of_tree m x) (put_in s.trees name) k.put p i in
        let r = passing (λ (r : KeyedRecord). r.head.seek == p) records begins in
        let at : r.x.head.seek ≡ p = eqb-true r.x.head.seek p r.passes in
        let kept_place : In r.x.head.seek (places_of_trees s.trees) = subst (λ (q : ℕ). In q (places_of_trees s.trees)) (sym at) (put_in_places name s.trees p i) in
        let first : (r.x.head.seek == first_place) ≡ false = (let low = later r.x.head.seek kept_place in ne_eqb r.x.head.seek first_place (λ same. omega (arith, low, same))) in
        let list = no_list r.x.head.seek kept_place in
        let item : is_item_record (top_keys records) r.x ≡ false = false_from_ne_true (is_item_record (top_keys records) r.x) (λ e. no_key r.x.head (items_in records s.heads h.keys r.x.head (item_in records r.x r.among e)) kept_place) in
        let named : is_named_basket records r.x ≡ false =
        none_from (λ q. q == r.x.head.seek) (all_places_named (file_classes (info_key records)) (tree_records (top_keys records)))
        (λ q j e. once_not (all_places_named (file_classes (info_key records)) (tree_records (top_keys records))) (places_put (put_in s.trees name)) k.fresh p i
        (subst (λ (n : ℕ). In n (all_places_named (file_classes (info_key records)) (tree_records (top_keys records)))) (eqb-true q r.x.head.seek e ∙ at) j)) in
        record { r = r.x; among = contains_in r.x records r.among; seek = at; free = or_all (r.x.head.seek == first_place) (r.x.head.seek == info_place (info_key records)) (is_item_record (top_keys records) r.x) (is_named_basket records r.x) first list item named }
