-- A record that nothing refers to changes nothing of what a file's records stand for.
use Rattle.std.proofs.Common.{◌≡◌, ◌⊎◌, inl, inr, ◌↔◌, ℕ, ◌<◌, ◌≤◌, ◌∙◌, List, [], ◌∷◌, ◌++◌, map, Bool, true, false, not, ◌&&◌, ◌||◌, ◌==◌, Option, Some, None, refl, sym, ap, subst, arith}
use Rattle.std.proofs.{lemmas.Bool.{and_from, and_parts, eq-eqb, lt-ltb, ltb-false, ltb-true, not-false, not-true, or_parts}, lemmas.List.Elements.{filter_agree}}
use Rattle.std.proofs.lemmas.Slice.Eq.{bytes_eq-Decides}
use Rattle.std.specs.{Prelude.{if◌then◌else◌, is_some, nat_lt, option_and_then}, List.{Contains, find, list_all, list_any}, Str.{bytes_eq}}
use Rattle.rio_format.specs.declared.class.ClassDef.{ClassDef}
use Rattle.rio_key.specs.declared.head.KeyHead.{KeyHead}
use Rattle.rio_chain.specs.Segments.{Link}
use Rattle.rio_machine.specs.State.{State, Tree}
use Rattle.rio_state.specs.{Closing.{item_heads, kept_of, kept_with, name_in}, TreeLengths.{PendingRows}, Contents.{file_classes, object_in, state_classes}, DirectoryKeys.{AreKeysOf}, Trees.{TreesBeside, is_named_place, tree_of, tree_under}}
use Rattle.rio_state.specs.KeyedRecords.{KeyedRecord, first_place, has_item, info_key, is_elsewhere, is_info_key, is_mixed_name, is_outdated, is_top_key, is_tree_key, is_tree_record, keyed_records, later_info, object_records, top_keys, tree_records}
use Rattle.rio_state.specs.{OneLess.{GarbageGoes, HasRecord, IsSameWithout, OthersAreReferred, links_without}, OneMore.{HasOneMoreIn}, Reads.{AreRecordsOf, StandsForState, are_distinct, info_place, is_named_key}}
use Rattle.rio_state.specs.Referred.{is_item_record, is_named_basket, is_referred}
use Rattle.rio_state.proofs.{Insertion.{any_more, filter_more, filter_same}, KeysFollow.{in_before, in_new}, LessRecords.{first_is_kept, record_less}, Members.{In, any_from, passing}}
use Rattle.rio_state.proofs.{Removal.{all_less, all_weaker, any_kept, distinct_less}, TreesSame.{all_agree, found_agree, none_of, tree_kept}}

-- ---- the class list that counts

abbrev pub IsAtMost : ℕ → Option KeyedRecord → Type 0
IsAtMost cycle None = Unit {0}
IsAtMost cycle (Some k) = k.head.cycle ≤ cycle

-- without a record the class list that counts is the same, or it was this record, and the one that counts then has no greater
-- cycle
abbrev pub IsCountedWithout : KeyedRecord → Option KeyedRecord → Option KeyedRecord → Type 0
IsCountedWithout r old new = (new ≡ old) ⊎ ((old ≡ Some r) × IsAtMost r.head.cycle new)

counted_here : (r : KeyedRecord) (later : Option KeyedRecord) → IsCountedWithout r (later_info r later) later
counted_here r None = inr (refl, tt)
counted_here r (Some l) = by (nat_lt l.head.cycle r.head.cycle) refl
  where
    by : (b : Bool) → nat_lt l.head.cycle r.head.cycle ≡ b → IsCountedWithout r (if b then Some r else Some l) (Some l)
    by true e = let lt = ltb-true _ _ e in inr (refl, omega (arith, lt))
    by false e = inl refl

-- behind another class list
counted_behind : (s r : KeyedRecord) (new : Option KeyedRecord) → IsAtMost r.head.cycle new → IsCountedWithout r (later_info s (Some r)) (later_info s new)
counted_behind s r new low = by (nat_lt r.head.cycle s.head.cycle) refl new low
  where
    by : (b : Bool) → nat_lt r.head.cycle s.head.cycle ≡ b → (new : Option KeyedRecord) → IsAtMost r.head.cycle new → IsCountedWithout r (if b then Some s else Some r) (later_info s new)
    by true e None low = inl refl
    by true e (Some k) low = let lt : nat_lt k.head.cycle s.head.cycle ≡ true = lt-ltb _ _ (omega (arith, ltb-true _ _ e, low)) in rw lt (inl refl)
    by false e None low = inr (refl, ltb-false _ _ e)
    by false e (Some k) low = inr (refl, either (nat_lt k.head.cycle s.head.cycle))
      where
        either : (b : Bool) → IsAtMost r.head.cycle (if b then Some s else Some k)
        either true = ltb-false _ _ e
        either false = low

counted_more : (s r : KeyedRecord) (b : Bool) (old new : Option KeyedRecord) → IsCountedWithout r old new → IsCountedWithout r (if b then later_info s old else old) (if b then later_info s new else new)
counted_more s r true old new (inl same) = inl (ap (later_info s) same)
counted_more s r true old new (inr (was, low)) = subst (λ (o : Option KeyedRecord). IsCountedWithout r (later_info s o) (later_info s new)) (sym was) (counted_behind s r new low)
counted_more s r false old new c = c

info_out : (r : KeyedRecord) (front back : List KeyedRecord) → IsCountedWithout r (info_key (front ++ r ∷ back)) (info_key (front ++ back))
info_out r [] back = by (is_info_key r.head) (counted_here r (info_key back))
  where
    by : (b : Bool) → IsCountedWithout r (later_info r (info_key back)) (info_key back) → IsCountedWithout r (if b then later_info r (info_key back) else info_key back) (info_key back)
    by true c = c
    by false c = inl refl
info_out r (s ∷ front) back = counted_more s r (is_info_key s.head) (info_key (front ++ r ∷ back)) (info_key (front ++ back)) (info_out r front back)

pub info_less : (old new : List KeyedRecord) (r : KeyedRecord) → HasOneMoreIn new old r → IsCountedWithout r (info_key old) (info_key new)
info_less old new r h =
    subst (λ (rs : List KeyedRecord). IsCountedWithout r (info_key old) (info_key rs)) (sym h.before)
    (subst (λ (rs : List KeyedRecord). IsCountedWithout r (info_key rs) (info_key (h.front ++ h.back))) (sym h.after) (info_out r h.front h.back))

pub info_kept : (old new : List KeyedRecord) (r : KeyedRecord) → HasOneMoreIn new old r → (r.head.seek == info_place (info_key old)) ≡ false → info_key new ≡ info_key old
info_kept old new r h other = by (info_less old new r h)
  where
    by : IsCountedWithout r (info_key old) (info_key new) → info_key new ≡ info_key old
    by (inl same) = same
    by (inr (was, low)) =
        let f : true ≡ false = sym (eq-eqb r.head.seek r.head.seek refl) ∙ ap (λ (o : Option KeyedRecord). r.head.seek == info_place o) (sym was) ∙ other in
        absurd cc

-- ---- trees

-- of keys of objects and trees some are left, with all objects, and all trees' keys of greatest cycle
pub record IsPart (tops left : List KeyedRecord) : Type 0 where
  pub all : (p : KeyedRecord → Bool) → list_all p tops ≡ true → list_all p left ≡ true
  pub distinct : are_distinct tops ≡ true → are_distinct left ≡ true
  pub mixed : (name : List ℕ) → is_mixed_name tops name ≡ false → is_mixed_name left name ≡ false
  pub objects : object_records left ≡ object_records tops
  pub trees : tree_records left ≡ tree_records tops
  pub greatest : (s : KeyedRecord) → is_tree_record left s ≡ is_tree_record tops s

part_whole : (tops : List KeyedRecord) → IsPart tops tops
part_whole tops = record { all = λ p e. e; distinct = λ e. e; mixed = λ name e. e; objects = refl; trees = refl; greatest = λ s. refl }

abbrev is_tree_named : List ℕ → KeyedRecord → Bool
is_tree_named name s = bytes_eq s.head.name name && is_tree_key s.head

abbrev is_object_named : List ℕ → KeyedRecord → Bool
is_object_named name s = bytes_eq s.head.name name && not (is_tree_key s.head)

-- names that are apart stay apart
pub mixed_less : (tops left : List KeyedRecord) (r : KeyedRecord) → HasOneMoreIn left tops r → (name : List ℕ) → is_mixed_name tops name ≡ false → is_mixed_name left name ≡ false
mixed_less tops left r h name none = by (is_mixed_name left name) refl
  where
    by : (b : Bool) → is_mixed_name left name ≡ b → b ≡ false
    by false e = refl
    by true e =
        let parts = and_parts (list_any (is_tree_named name) left) (list_any (is_object_named name) left) e in
        let tree = any_kept (is_tree_named name) r tops left h parts.0 in
        let object = any_kept (is_object_named name) r tops left h parts.1 in
        let mixed : is_mixed_name tops name ≡ true = and_from _ _ tree object in
        sym mixed ∙ none

-- ---- a tree's key that isn't of the greatest cycle

abbrev beats : KeyedRecord → KeyedRecord → Bool
beats r t = is_tree_key t.head && bytes_eq t.head.name r.head.name && nat_lt r.head.cycle t.head.cycle

pub record Beats (r t : KeyedRecord) : Type 0 where
  pub tree : is_tree_key t.head ≡ true
  pub name : t.head.name ≡ r.head.name
  pub cycle : r.head.cycle < t.head.cycle

beaten : (r t : KeyedRecord) → beats r t ≡ true → Beats r t
beaten r t e =
    let parts = and_parts (is_tree_key t.head && bytes_eq t.head.name r.head.name) (nat_lt r.head.cycle t.head.cycle) e in
    let front = and_parts (is_tree_key t.head) (bytes_eq t.head.name r.head.name) parts.0 in
    record { tree = front.0; name = (bytes_eq-Decides t.head.name r.head.name).0 front.1; cycle = ltb-true _ _ parts.1 }

beating : (r t : KeyedRecord) → Beats r t → beats r t ≡ true
beating r t b = and_from _ _ (and_from _ _ b.tree ((bytes_eq-Decides t.head.name r.head.name).1 b.name)) (lt-ltb _ _ b.cycle)

module _ (tops left : List KeyedRecord) (r : KeyedRecord) (h : HasOneMoreIn left tops r) (tree : is_tree_key r.head ≡ true) (old : is_outdated tops r ≡ true) where
  -- what it beats another beats, which is left
  beaten_still : (s : KeyedRecord) → beats s r ≡ true → is_outdated left s ≡ true
  beaten_still s e =
      let t = passing (beats r) tops old in
      let first = beaten r t.x t.passes in
      let second = beaten s r e in
      by t.x first second (in_before left tops r h t.x t.among)
    where
      by : (t : KeyedRecord) → Beats r t → Beats s r → (r ≡ t) ⊎ In t left → is_outdated left s ≡ true
      by t first second (inl same) = absurd (omega (arith, first.cycle, ap (λ (k : KeyedRecord). k.head.cycle) same))
      by t first second (inr j) =
          any_from (beats s) t left j (beating s t (record { tree = first.tree; name = first.name ∙ second.name; cycle = omega (arith, first.cycle, second.cycle) }))

  outdated_same : (s : KeyedRecord) → is_outdated left s ≡ is_outdated tops s
  outdated_same s = by (beats s r) refl
    where
      by : (b : Bool) → beats s r ≡ b → is_outdated left s ≡ is_outdated tops s
      by true e = beaten_still s e ∙ sym (any_from (beats s) r tops (in_new left tops r h) e)
      by false e = sym (any_more (beats s) r left tops h e)

  greatest_same : (s : KeyedRecord) → is_tree_record left s ≡ is_tree_record tops s
  greatest_same s = ap (λ b. is_tree_key s.head && not b) (outdated_same s)

  not_greatest : is_tree_record tops r ≡ false
  not_greatest = ap (λ b. is_tree_key r.head && not b) old ∙ and_false (is_tree_key r.head)
    where
      and_false : (b : Bool) → (b && false) ≡ false
      and_false true = refl
      and_false false = refl

  pub part_outdated : IsPart tops left
  part_outdated = record {
    all = λ p e. all_less p r tops left h e;
    distinct = λ e. (distinct_less r tops left h e).0;
    mixed = λ name e. mixed_less tops left r h name e;
    objects = sym (filter_same (λ s. not (is_tree_key s.head)) r left tops h (ap not tree));
    trees = filter_agree (is_tree_record left) (is_tree_record tops) greatest_same left ∙ sym (filter_same (is_tree_record tops) r left tops h not_greatest);
    greatest = greatest_same;
  }

-- ---- what stands without it

-- the keys that are left stand for the same, without a record that no header names
module _ (old new tops left : List KeyedRecord) (r : KeyedRecord) (h : HasOneMoreIn new old r) (info : Option KeyedRecord) (part : IsPart tops left)
    (unnamed : is_named_place (file_classes info) (tree_records tops) r.head.seek ≡ false) where
  abbrev classes : List ClassDef
  classes = state_classes info

  abbrev read_before : KeyedRecord → Option Tree
  read_before = tree_of (record { classes = file_classes info; records = old; headers = tree_records tops })

  abbrev read_after : KeyedRecord → Option Tree
  read_after = tree_of (record { classes = file_classes info; records = new; headers = tree_records tops })

  trees_kept : (s : KeyedRecord) → In s (tree_records tops) → read_after s ≡ read_before s
  trees_kept s i = tree_kept (file_classes info) (tree_records tops) new old r h s (none_of (file_classes info) (tree_records tops) r.head.seek unnamed s i)

  abbrev beside_headers : List KeyedRecord → TreesBeside
  beside_headers headers = record { classes = file_classes info; records = new; headers = headers }

  stands_without : (m : State) → StandsForState old info tops m → StandsForState new info left m
  stands_without m s = record {
    listed = s.listed;
    classes = s.classes;
    named = part.all (λ t. is_named_key t.head) s.named;
    distinct = part.distinct s.distinct;
    apart = all_weaker (λ t. not (is_mixed_name tops t.head.name)) (λ t. not (is_mixed_name left t.head.name)) (λ t e. ap not (part.mixed t.head.name (not-true _ e))) left
        (part.all (λ t. not (is_mixed_name tops t.head.name)) s.apart);
    readable = ap (list_all (λ t. is_some (object_in classes t))) part.objects ∙ s.readable;
    objects = λ item. s.objects item ∙ ap (λ (rs : List KeyedRecord). option_and_then (object_in classes) (find (has_item item) rs)) (sym part.objects);
    tree_readable = ap (λ (ts : List KeyedRecord). list_all (λ t. is_some (tree_of (beside_headers ts) t)) ts) part.trees
        ∙ all_agree (λ t. is_some (read_after t)) (λ t. is_some (read_before t)) (tree_records tops) (λ t i. ap is_some (trees_kept t i))
        ∙ s.tree_readable;
    trees = λ name. s.trees name
        ∙ sym (found_agree read_after read_before (λ t. bytes_eq t.head.name name) (tree_records tops) trees_kept)
        ∙ ap (λ (ts : List KeyedRecord). tree_under (beside_headers ts) name) (sym part.trees);
  }

pub items_same : (tops left : List KeyedRecord) → IsPart tops left → item_heads left ≡ item_heads tops
items_same tops left part =
    let objects = part.objects in
    let trees = part.trees in
    λ i. map (λ s. s.head) (objects i ++ trees i)

-- which keys are left without a record that is no item's
pub part_without : (old new : List KeyedRecord) (r : KeyedRecord) → HasOneMoreIn new old r → is_item_record (top_keys old) r ≡ false → IsPart (top_keys old) (top_keys new)
part_without old new r h none = by (is_top_key r.head) refl none
  where
    by : (b : Bool) → is_top_key r.head ≡ b → (b && (not (is_tree_key r.head) || is_tree_record (top_keys old) r)) ≡ false → IsPart (top_keys old) (top_keys new)
    by false e none = subst (λ (ts : List KeyedRecord). IsPart ts (top_keys new)) (sym (filter_same (λ s. is_top_key s.head) r new old h e)) (part_whole (top_keys new))
    by true e none =
        let parts = or_parts (not (is_tree_key r.head)) (is_tree_record (top_keys old) r) none in
        let tree = not-false _ parts.0 in
        let outdated : is_outdated (top_keys old) r ≡ true = not-false _ (sym (ap (λ b. b && not (is_outdated (top_keys old) r)) tree) ∙ parts.1) in
        part_outdated (top_keys old) (top_keys new) r (filter_more (λ s. is_top_key s.head) r new old h e) tree outdated

-- ---- one record less

-- what is known of a record that nothing refers to
pub record IsGarbage (records : List KeyedRecord) (r : KeyedRecord) : Type 0 where
  pub first : (r.head.seek == first_place) ≡ false
  pub info : (r.head.seek == info_place (info_key records)) ≡ false
  pub item : is_item_record (top_keys records) r ≡ false
  pub basket : is_named_basket records r ≡ false

garbage : (records : List KeyedRecord) (r : KeyedRecord) → is_referred records r ≡ false → IsGarbage records r
garbage records r e =
    let all = or_parts ((r.head.seek == first_place) || (r.head.seek == info_place (info_key records)) || is_item_record (top_keys records) r) (is_named_basket records r) e in
    let parts = or_parts ((r.head.seek == first_place) || (r.head.seek == info_place (info_key records))) (is_item_record (top_keys records) r) all.0 in
    let front = or_parts (r.head.seek == first_place) (r.head.seek == info_place (info_key records)) parts.0 in
    record { first = front.0; info = front.1; item = parts.1; basket = all.1 }

module _ (file : List ℕ) (links : List Link) (r : KeyedRecord) (has : HasRecord file links r) (g : IsGarbage (keyed_records links) r) where
  abbrev old : List KeyedRecord
  old = keyed_records links

  abbrev new : List KeyedRecord
  new = keyed_records (links_without links r)

  less : HasOneMoreIn new old r
  less = record_less file links r has

  info : info_key new ≡ info_key old
  info = info_kept old new r less g.info

  part : IsPart (top_keys old) (top_keys new)
  part = part_without old new r less g.item

  items : item_heads (top_keys new) ≡ item_heads (top_keys old)
  items = items_same (top_keys old) (top_keys new) part

  name : name_in new ≡ name_in old
  name = first_is_kept file links r has (λ same. let f : true ≡ false = sym (eq-eqb r.head.seek first_place same) ∙ g.first in absurd cc)

  stays : (m : State) → AreRecordsOf old m → AreRecordsOf new m
  stays m is = record {
    here = all_less (λ s. not (is_elsewhere s.head)) r old new less is.here;
    stand = subst (λ (o : Option KeyedRecord). StandsForState new o (top_keys new) m) (sym info) (stands_without old new (top_keys old) (top_keys new) r less (info_key old) part g.basket m is.stand);
  }

  keys_stay : (heads : List KeyHead) → AreKeysOf old heads → AreKeysOf new heads
  keys_stay heads are = record { ordered = are.ordered; each = subst (λ (hs : List KeyHead). (head : KeyHead) → Contains heads head ↔ Contains hs head) (sym items) are.each }

  kept_stays : (pending : PendingRows) → kept_with pending (links_without links r) ≡ kept_with pending links
  unfolding kept_with
  kept_stays pending = let trees = part.trees in λ i. kept_of pending (name i) (info i) (items i) (trees i)

  same_without : IsSameWithout links r
  same_without = record { records = stays; keys = keys_stay; info = info; name = name; kept = kept_stays }

  referred_still : (s : KeyedRecord) → is_referred new s ≡ is_referred old s
  referred_still s =
      let greatest = part.greatest s in
      let trees = part.trees in
      λ i. (s.head.seek == first_place) || (s.head.seek == info_place (info i)) || (is_top_key s.head && (not (is_tree_key s.head) || greatest i))
      || is_named_place (file_classes (info i)) (trees i) s.head.seek

pub garbage_goes : GarbageGoes
garbage_goes file links r has e = same_without file links r has (garbage (keyed_records links) r e)

pub others_are_referred : OthersAreReferred
others_are_referred file links r s has e = referred_still file links r has (garbage (keyed_records links) r e) s
