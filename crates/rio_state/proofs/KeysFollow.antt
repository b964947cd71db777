-- The keys beside a file, with the key of one more object.
use Rattle.std.proofs.Common.{◌≡◌, ◌⊎◌, inl, inr, List, [], ◌∷◌, ◌++◌, Bool, true, false, refl, sym, subst}
use Rattle.std.specs.Prelude.{if◌then◌else◌}
use Rattle.rio_key.specs.declared.head.KeyHead.{KeyHead}
use Rattle.rio_dir.proofs.TableLists.{ordered_with}
use Rattle.rio_dir.specs.Table.{is_before, with_head}
use Rattle.rio_state.specs.{Closing.{item_heads}, DirectoryKeys.{AreKeysOf}}
use Rattle.rio_state.specs.{KeyedRecords.{KeyedRecord, is_top_key, is_tree_key, object_records, top_keys, tree_records}, OneMore.{KeysFollow, HasOneMoreIn}}
use Rattle.rio_state.proofs.Insertion.{append_more, behind, filter_more, here, map_more}
use Rattle.rio_state.proofs.{Members.{In, contains_in, in_contained, in_either, in_left, in_right}, ObjectStands.{objects_more, trees_same}}

-- ---- elements of a list with one more

module _ {A : Type 0} (old new : List A) (y : A) (h : HasOneMoreIn old new y) where
  pub in_new : In y new
  in_new = subst (λ (xs : List A). In y xs) (sym h.after) (in_right y h.front (y ∷ h.back) (inl refl))

  pub in_still : (x : A) → In x old → In x new
  in_still x i = by (in_either x h.front h.back (subst (λ (xs : List A). In x xs) h.before i))
    where
      by : In x h.front ⊎ In x h.back → In x new
      by (inl j) = subst (λ (xs : List A). In x xs) (sym h.after) (in_left x h.front (y ∷ h.back) j)
      by (inr j) = subst (λ (xs : List A). In x xs) (sym h.after) (in_right x h.front (y ∷ h.back) (inr j))

  pub in_before : (x : A) → In x new → (y ≡ x) ⊎ In x old
  in_before x i = by (in_either x h.front (y ∷ h.back) (subst (λ (xs : List A). In x xs) h.after i))
    where
      by : In x h.front ⊎ In x (y ∷ h.back) → (y ≡ x) ⊎ In x old
      by (inl j) = inr (subst (λ (xs : List A). In x xs) (sym h.before) (in_left x h.front h.back j))
      by (inr (inl e)) = inl e
      by (inr (inr j)) = inr (subst (λ (xs : List A). In x xs) (sym h.before) (in_right x h.front h.back j))

-- two lists of the same elements have the same with one more
pub same_more : {A : Type 0} (xs xs' ys ys' : List A) (y : A) → HasOneMoreIn xs xs' y → HasOneMoreIn ys ys' y → ((x : A) → In x xs → In x ys) → (x : A) → In x xs' → In x ys'
same_more xs xs' ys ys' y h g same x i = by (in_before xs xs' y h x i)
  where
    by : (y ≡ x) ⊎ In x xs → In x ys'
    by (inl e) = subst (λ (z : _). In z ys') e (in_new ys ys' y g)
    by (inr j) = in_still ys ys' y g x (same x j)

-- ---- heads

pub head_more : (h : KeyHead) (heads : List KeyHead) → HasOneMoreIn heads (with_head h heads) h
head_more h [] = here h []
head_more h (k ∷ ks) = by (is_before h.name h.cycle k) (head_more h ks)
  where
    by : (b : Bool) → HasOneMoreIn ks (with_head h ks) h → HasOneMoreIn (k ∷ ks) (if b then k ∷ with_head h ks else h ∷ k ∷ ks) h
    by true rest = behind h k ks (with_head h ks) rest
    by false rest = here h (k ∷ ks)

-- the head of one more object is one more of the heads
pub items_more : (tops new : List KeyedRecord) (r : KeyedRecord) → HasOneMoreIn tops new r → is_tree_key r.head ≡ false → HasOneMoreIn (item_heads tops) (item_heads new) r.head
items_more tops new r h object =
    let same = trees_same tops new r h object in
    let records = append_more r (object_records tops) (object_records new) (tree_records tops) (objects_more tops new r h object) in
    let all = subst (λ (ts : List KeyedRecord). HasOneMoreIn (object_records tops ++ tree_records tops) (object_records new ++ ts) r) (sym same) records in
    map_more (λ s. s.head) r (object_records tops ++ tree_records tops) (object_records new ++ tree_records new) all

-- the heads are those of a file's items
pub heads_in : (records : List KeyedRecord) (heads : List KeyHead) → AreKeysOf records heads → (head : KeyHead) → In head heads → In head (item_heads (top_keys records))
heads_in records heads are head i = in_contained head (item_heads (top_keys records)) ((are.each head).0 (contains_in head heads i))

pub items_in : (records : List KeyedRecord) (heads : List KeyHead) → AreKeysOf records heads → (head : KeyHead) → In head (item_heads (top_keys records)) → In head heads
items_in records heads are head i = in_contained head heads ((are.each head).1 (contains_in head (item_heads (top_keys records)) i))

pub keys_follow : KeysFollow
keys_follow old new r heads h top object none are =
    let tops = filter_more (λ s. is_top_key s.head) r old new h top in
    let items = items_more (top_keys old) (top_keys new) r tops object in
    let more = head_more r.head heads in
    record {
      ordered = ordered_with r.head heads are.ordered none;
      each = λ head. (
        λ c. contains_in head _ (same_more heads (with_head r.head heads) (item_heads (top_keys old)) (item_heads (top_keys new)) r.head more items (heads_in old heads are) head (in_contained head _ c)),
        λ c. contains_in head _ (same_more (item_heads (top_keys old)) (item_heads (top_keys new)) heads (with_head r.head heads) r.head items more (items_in old heads are) head (in_contained head _ c)),
      );
    }
