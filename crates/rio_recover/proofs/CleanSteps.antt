-- A file's links while its garbage is released, one record after the other.
use Rattle.std.proofs.Common.{◌≡◌, ◌≢◌, ◌∙◌, ◌↔◌, inl, ℕ, true, false, not, ◌&&◌, ◌||◌, ◌==◌, List, [], ◌∷◌, length, map, Option, refl, sym, ap, subst, arith}
use Rattle.std.proofs.{lemmas.Bool.{eq-eqb, not-true, or_parts}, lemmas.List.Elements.{filter_agree}}
use Rattle.std.specs.{Prelude.{is_some, option_and_then}, List.{Contains, filter, find, list_all, sum_by}, Str.{bytes_eq}}
use Rattle.rio_format.specs.declared.class.ClassDef.{ClassDef}
use Rattle.rio_key.specs.{Written.{written_key}, declared.head.KeyHead.{KeyHead}}
use Rattle.rio_chain.specs.Segments.{IsChain, Link}
use Rattle.rio_machine.specs.State.{State, Tree}
use Rattle.rio_state.specs.{Cleaning.{unreferred}, Closing.{KeptRecords, item_heads, kept_of, kept_with, name_in}, Contents.{file_classes, object_in, state_classes}, DirectoryKeys.{AreKeysOf}, Trees.{TreesBeside, is_named_place, tree_of, tree_under}}
use Rattle.rio_state.specs.KeyedRecords.{KeyedRecord, first_place, has_item, info_key, is_elsewhere, is_mixed_name, is_top_key, is_tree_key, keyed_records, top_keys, tree_records}
use Rattle.rio_state.specs.{OneLess.{NeedsNoMore, links_without}, OneMore.{HasOneMoreIn}, Reads.{AreRecordsOf, StandsForState, info_place, is_named_key}, Referred.{is_item_record, is_named_basket, is_referred}, TreeLengths.{PendingRows}}
use Rattle.rio_state.proofs.{Cleaning.{rest_is_left}, Insertion.{filter_more}, LessNeeds.{needs_no_more}, Members.{In, filter_in}, Removal.{all_less, all_weaker}}
use Rattle.rio_state.proofs.{TreesSame.{all_agree, found_agree, none_of, tree_kept}, Unreferred.{IsPart, info_kept, items_same, part_without}}
use Rattle.rio_recover.specs.Cleaning.{GarbageIsCleaned, IsCleanOf, without_all}
use Rattle.rio_recover.proofs.SoundLinks.{Sound, StartsFirst, first_less, gone, one_less, sound_chain, sound_without}

-- the links that are left stand for what those of before stood for, and these records are left of the garbage
pub record CleanSoFar (before now : List Link) (left : List KeyedRecord) : Type 0 where
  pub records : (m : State) → AreRecordsOf (keyed_records before) m → AreRecordsOf (keyed_records now) m
  pub keys : (heads : List KeyHead) → AreKeysOf (keyed_records before) heads → AreKeysOf (keyed_records now) heads
  pub info : info_key (keyed_records now) ≡ info_key (keyed_records before)
  pub headers : tree_records (top_keys (keyed_records now)) ≡ tree_records (top_keys (keyed_records before))
  pub name : name_in (keyed_records now) ≡ name_in (keyed_records before)
  pub kept : (pending : PendingRows) → kept_with pending now ≡ kept_with pending before
  pub need : (pending : PendingRows) → NeedsNoMore pending before now
  pub left_is : unreferred (keyed_records now) ≡ left
  pub sound : Sound 100 now
  pub first : StartsFirst (keyed_records now)

pub clean_begins : (file : List ℕ) (links : List Link) → IsChain links file → CleanSoFar links links (unreferred (keyed_records links))
clean_begins file links chain = record {
  records = λ m are. are;
  keys = λ heads are. are;
  info = refl;
  headers = refl;
  name = refl;
  kept = λ pending. refl;
  need = λ pending. record { need = omega arith; end = omega arith; held = omega arith };
  left_is = refl;
  sound = (sound_chain file links chain).0;
  first = (sound_chain file links chain).1;
}

-- ---- what stands without a record that nothing refers to

module _ (old new tops left : List KeyedRecord) (r : KeyedRecord) (h : HasOneMoreIn new old r) (info : Option KeyedRecord) (part : IsPart tops left)
    (unnamed : is_named_place (file_classes info) (tree_records tops) r.head.seek ≡ false) where
  abbrev classes : List ClassDef
  classes = state_classes info

  abbrev read_before : KeyedRecord → Option Tree
  read_before = tree_of (record { classes = file_classes info; records = old; headers = tree_records tops })

  abbrev read_after : KeyedRecord → Option Tree
  read_after = tree_of (record { classes = file_classes info; records = new; headers = tree_records tops })

  trees_kept : (s : KeyedRecord) → In s (tree_records tops) → read_after s ≡ read_before s
  trees_kept s i = tree_kept (file_classes info) (tree_records tops) new old r h s (none_of (file_classes info) (tree_records tops) r.head.seek unnamed s i)

  abbrev beside_headers : List KeyedRecord → TreesBeside
  beside_headers headers = record { classes = file_classes info; records = new; headers = headers }

  stands_without : (m : State) → StandsForState old info tops m → StandsForState new info left m
  stands_without m s = record {
    listed = s.listed;
    classes = s.classes;
    named = part.all (λ t. is_named_key t.head) s.named;
    distinct = part.distinct s.distinct;
    apart = all_weaker (λ t. not (is_mixed_name tops t.head.name)) (λ t. not (is_mixed_name left t.head.name)) (λ t e. ap not (part.mixed t.head.name (not-true _ e))) left
        (part.all (λ t. not (is_mixed_name tops t.head.name)) s.apart);
    readable = ap (list_all (λ t. is_some (object_in classes t))) part.objects ∙ s.readable;
    objects = λ item. s.objects item ∙ ap (λ (rs : List KeyedRecord). option_and_then (object_in classes) (find (has_item item) rs)) (sym part.objects);
    tree_readable = ap (λ (ts : List KeyedRecord). list_all (λ t. is_some (tree_of (beside_headers ts) t)) ts) part.trees
        ∙ all_agree (λ t. is_some (read_after t)) (λ t. is_some (read_before t)) (tree_records tops) (λ t i. ap is_some (trees_kept t i))
        ∙ s.tree_readable;
    trees = λ name. s.trees name
        ∙ sym (found_agree read_after read_before (λ t. bytes_eq t.head.name name) (tree_records tops) trees_kept)
        ∙ ap (λ (ts : List KeyedRecord). tree_under (beside_headers ts) name) (sym part.trees);
  }

-- ---- one record less

module _ (before now : List Link) (r : KeyedRecord) (others : List KeyedRecord) (so : CleanSoFar before now (r ∷ others)) where
  abbrev old : List KeyedRecord
  old = keyed_records now

  abbrev after : List Link
  after = links_without now r

  abbrev new : List KeyedRecord
  new = keyed_records after

  among : In r old × (not (is_referred old r) ≡ true)
  among = filter_in (λ s. not (is_referred old s)) r old (subst (λ (rs : List KeyedRecord). In r rs) (sym so.left_is) (inl refl))

  free : is_referred old r ≡ false
  free = not-true _ among.1

  whole : (((r.head.seek == first_place) || (r.head.seek == info_place (info_key old)) || is_item_record (top_keys old) r) ≡ false) × (is_named_basket old r ≡ false)
  whole = or_parts ((r.head.seek == first_place) || (r.head.seek == info_place (info_key old)) || is_item_record (top_keys old) r) (is_named_basket old r) free

  parts : (((r.head.seek == first_place) || (r.head.seek == info_place (info_key old))) ≡ false) × (is_item_record (top_keys old) r ≡ false)
  parts = or_parts ((r.head.seek == first_place) || (r.head.seek == info_place (info_key old))) (is_item_record (top_keys old) r) whole.0

  sides : ((r.head.seek == first_place) ≡ false) × ((r.head.seek == info_place (info_key old)) ≡ false)
  sides = or_parts (r.head.seek == first_place) (r.head.seek == info_place (info_key old)) parts.0

  other : r.head.seek ≢ first_place
  other same = let f : true ≡ false = sym (eq-eqb r.head.seek first_place same) ∙ sides.0 in cc

  less : HasOneMoreIn new old r
  less = one_less 100 now r so.sound among.0

  info : info_key new ≡ info_key old
  info = info_kept old new r less sides.1

  part : IsPart (top_keys old) (top_keys new)
  part = part_without old new r less parts.1

  items : item_heads (top_keys new) ≡ item_heads (top_keys old)
  items = items_same (top_keys old) (top_keys new) part

  start : (name_in new ≡ name_in old) × StartsFirst new
  start = first_less old new r less other so.first

  stays : (m : State) → AreRecordsOf old m → AreRecordsOf new m
  stays m is = record {
    here = all_less (λ s. not (is_elsewhere s.head)) r old new less is.here;
    stand = subst (λ (o : Option KeyedRecord). StandsForState new o (top_keys new) m) (sym info) (stands_without old new (top_keys old) (top_keys new) r less (info_key old) part whole.1 m is.stand);
  }

  keys_stay : (heads : List KeyHead) → AreKeysOf old heads → AreKeysOf new heads
  keys_stay heads are = record { ordered = are.ordered; each = subst (λ (hs : List KeyHead). (head : KeyHead) → Contains heads head ↔ Contains hs head) (sym items) are.each }

  kept_stays : (pending : PendingRows) → kept_with pending after ≡ kept_with pending now
  unfolding kept_with
  kept_stays pending = let name = start.0 in let trees = part.trees in λ i. kept_of pending (name i) (info i) (items i) (trees i)

  referred_still : (s : KeyedRecord) → is_referred new s ≡ is_referred old s
  referred_still s =
      let greatest = part.greatest s in
      let trees = part.trees in
      λ i. (s.head.seek == first_place) || (s.head.seek == info_place (info i)) || (is_top_key s.head && (not (is_tree_key s.head) || greatest i))
      || is_named_place (file_classes (info i)) (trees i) s.head.seek

  need : (pending : PendingRows) → NeedsNoMore pending now after
  need pending =
      let same = kept_stays pending in
      needs_no_more pending r.head.seek now (record {
        name = ap (λ (k : KeptRecords). k.name) same;
        heads = omega (arith, ap (λ (k : KeptRecords). sum_by (λ h. length (written_key h)) k.heads) same);
        count = omega (arith, ap (λ (k : KeptRecords). k.count) same);
        trees = ap (λ (k : KeptRecords). k.trees) same;
      })

  left_over : unreferred new ≡ others
  left_over =
      filter_agree (λ s. not (is_referred new s)) (λ s. not (is_referred old s)) (λ s. ap not (referred_still s)) new
      ∙ rest_is_left r (unreferred old) (filter (λ s. not (is_referred old s)) new) others
      (filter_more (λ s. not (is_referred old s)) r new old less among.1) so.left_is
      (λ i. gone 100 now r so.sound (filter_in (λ s. not (is_referred old s)) r new i).0)

  pub clean_step : CleanSoFar before after others
  clean_step = record {
    records = λ m are. stays m (so.records m are);
    keys = λ heads are. keys_stay heads (so.keys heads are);
    info = info ∙ so.info;
    headers = part.trees ∙ so.headers;
    name = start.0 ∙ so.name;
    kept = λ pending. kept_stays pending ∙ so.kept pending;
    need = λ pending.
        let one = need pending in
        let all = so.need pending in
        record { need = omega (arith, one.need, all.need); end = omega (arith, one.end, all.end); held = omega (arith, one.held, all.held) };
    left_is = left_over;
    sound = sound_without r.head.seek 100 now so.sound;
    first = start.1;
  }

-- ---- all of them

clean_all : (before now : List Link) (left : List KeyedRecord) → CleanSoFar before now left → CleanSoFar before (without_all (map (λ r. r.head.seek) left) now) []
clean_all before now [] so = so
clean_all before now (r ∷ left) so = clean_all before (links_without now r) left (clean_step before now r left so)

pub clean_ends : (before now : List Link) → CleanSoFar before now [] → IsCleanOf before now
clean_ends before now so = record { records = so.records; keys = so.keys; info = so.info; headers = so.headers; name = so.name; kept = so.kept; need = so.need; none = so.left_is }

pub garbage_is_cleaned : GarbageIsCleaned
garbage_is_cleaned file links chain =
    let left = unreferred (keyed_records links) in
    clean_ends links (without_all (map (λ r. r.head.seek) left) links) (clean_all links links left (clean_begins file links chain))
