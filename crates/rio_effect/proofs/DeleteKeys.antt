-- The key of a deleted object is taken out of the keys.
use Rattle.std.proofs.Common.{◌≡◌, ◌⊎◌, inl, inr, ⊎_elim, ℕ, ◌∙◌, List, [], ◌∷◌, ◌++◌, Bool, true, false, cond, None, refl, sym, ap, subst}
use Rattle.std.proofs.lemmas.Slice.Eq.{bytes_eq-Decides}
use Rattle.std.proofs.lemmas.Bool.{and_from, eq-eqb}
use Rattle.std.specs.{List.{find, list_any}, Set.{remove_key}}
use Rattle.rio_key.specs.declared.head.KeyHead.{KeyHead}
use Rattle.rio_dir.proofs.{MapLaws.{taken_out_gone}, TableLists.{ordered_without}, TableOrder.{at_is}}
use Rattle.rio_dir.specs.Table.{AreBehind, AreOrdered, is_at_cycle, without_head}
use Rattle.rio_state.specs.{Closing.{item_heads}, DirectoryKeys.{AreKeysOf}, OneMore.{HasOneMoreIn}}
use Rattle.rio_state.specs.KeyedRecords.{KeyedRecord, has_item, item_of_key, object_records, top_keys, tree_records}
use Rattle.rio_state.proofs.{Insertion.{any_none, behind, here}, Collected.{own_item}, KeysFollow.{heads_in, in_before, in_new, in_still, items_in}}
use Rattle.rio_state.proofs.Members.{In, contains_in, filter_in, in_contained, in_either, map_in, none_at}
use Rattle.rio_effect.proofs.NeedsByKeys.{behind_not_in}

pub own_cycle : (h : KeyHead) → is_at_cycle h.name h.cycle h ≡ true
own_cycle h = and_from _ _ ((bytes_eq-Decides h.name h.name).1 refl) (eq-eqb h.cycle h.cycle refl)

-- one of a name and cycle isn't behind itself
pub apart_at : (h k : KeyHead) (hs : List KeyHead) → is_at_cycle h.name h.cycle k ≡ true → AreBehind k.name k.cycle hs → In h hs → ⊥
apart_at h k hs e are i =
    let at = at_is h.name h.cycle k e in
    behind_not_in h hs (subst (λ (n : List ℕ). AreBehind n h.cycle hs) at.0 (subst (λ (c : ℕ). AreBehind k.name c hs) at.1 are)) i

-- a head is the one of its name and cycle
pub head_less : (h : KeyHead) (heads : List KeyHead) → AreOrdered heads → In h heads → HasOneMoreIn (remove_key (is_at_cycle h.name h.cycle) heads) heads h
head_less h [] are i = absurd i
head_less h (k ∷ ks) are i = by (is_at_cycle h.name h.cycle k) refl i (head_less h ks are.1)
  where
    by : (b : Bool) → is_at_cycle h.name h.cycle k ≡ b → (k ≡ h) ⊎ In h ks → (In h ks → HasOneMoreIn (remove_key (is_at_cycle h.name h.cycle) ks) ks h)
        → HasOneMoreIn (cond b ks (k ∷ remove_key (is_at_cycle h.name h.cycle) ks)) (k ∷ ks) h
    by true e (inl same) rest = subst (λ (x : KeyHead). HasOneMoreIn ks (k ∷ ks) x) same (here k ks)
    by true e (inr j) rest = absurd (apart_at h k ks e are.0 j)
    by false e (inl same) rest = let f = sym (ap (is_at_cycle h.name h.cycle) same ∙ own_cycle h) ∙ e in absurd cc
    by false e (inr j) rest = behind h k (remove_key (is_at_cycle h.name h.cycle) ks) ks (rest j)

module _ (old new : List KeyedRecord) (head : KeyHead) (items_less : HasOneMoreIn (item_heads (top_keys new)) (item_heads (top_keys old)) head)
    (none : list_any (has_item (item_of_key head)) (top_keys new) ≡ false) (heads : List KeyHead) (are : AreKeysOf old heads) where
  abbrev left : List KeyHead
  left = without_head head.name head.cycle heads

  abbrev there : In head heads
  there = items_in old heads are head (in_new (item_heads (top_keys new)) (item_heads (top_keys old)) head items_less)

  left_less : HasOneMoreIn left heads head
  left_less = head_less head heads are.ordered there

  -- it is gone from both
  not_left : In head left → ⊥
  not_left i =
      let gone : find (is_at_cycle head.name head.cycle) left ≡ None =
      taken_out_gone heads are.ordered head.name head.cycle head.name head.cycle ∙ ap (λ b. cond b None (find (is_at_cycle head.name head.cycle) heads)) (own_cycle head) in
      none_at (is_at_cycle head.name head.cycle) head left (any_none (is_at_cycle head.name head.cycle) left gone) i (own_cycle head)

  not_record : (s : KeyedRecord) → In s (top_keys new) → s.head ≡ head → ⊥
  not_record s i same = none_at (has_item (item_of_key head)) s (top_keys new) none i (ap (λ (k : KeyHead). has_item (item_of_key k) s) (sym same) ∙ own_item s)

  not_item : In head (item_heads (top_keys new)) → ⊥
  not_item i =
      let from = map_in (λ (s : KeyedRecord). s.head) head (object_records (top_keys new) ++ tree_records (top_keys new)) i in
      ⊎_elim
      (λ j. not_record from.0 (filter_in _ from.0 (top_keys new) j).0 from.2)
      (λ j. not_record from.0 (filter_in _ from.0 (top_keys new) j).0 from.2)
      (in_either from.0 (object_records (top_keys new)) (tree_records (top_keys new)) from.1)

  -- of two lists of the same elements, each without this one
  same_less : (xs xs' ys ys' : List KeyHead) → HasOneMoreIn xs' xs head → HasOneMoreIn ys' ys head → ((x : KeyHead) → In x xs → In x ys) → (In head xs' → ⊥) → (x : KeyHead) → In x xs' → In x ys'
  same_less xs xs' ys ys' less other same gone x i =
      ⊎_elim
      (λ e. absurd (gone (subst (λ (k : KeyHead). In k xs') (sym e) i)))
      (λ j. j)
      (in_before ys' ys head other x (same x (in_still xs' xs head less x i)))

  pub keys_less : AreKeysOf new left
  keys_less = record {
    ordered = ordered_without (is_at_cycle head.name head.cycle) heads are.ordered;
    each = λ h. (
      λ c. contains_in h _ (same_less heads left (item_heads (top_keys old)) (item_heads (top_keys new)) left_less items_less (heads_in old heads are) not_left h (in_contained h _ c)),
      λ c. contains_in h _ (same_less (item_heads (top_keys old)) (item_heads (top_keys new)) heads left items_less left_less (items_in old heads are) not_item h (in_contained h _ c)),
    );
  }
