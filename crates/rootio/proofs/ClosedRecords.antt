-- The records of a closed file beside those before its close: the same class list, headers and baskets.
use Rattle.std.proofs.Common.{◌≡◌, ◌∙◌, inl, inr, ℕ, ◌+◌, ◌≤◌, List, [], ◌∷◌, ◌++◌, codes, length, Bool, true, false, ◌==◌, ◌&&◌, ◌||◌, Option, Some, None, refl, sym, ap, subst, arith}
use Rattle.std.proofs.lemmas.Bool.{eqb-true}
use Rattle.std.specs.{Prelude.{is_some, option_and_then, unwrap_or}, List.{find, list_any}, Option.{option_map_or}, Str.{bytes_eq}}
use Rattle.rio_num.specs.Reading.{some_if}
use Rattle.rio_format.specs.declared.class.ClassDef.{ClassDef}
use Rattle.rio_key.specs.declared.head.KeyHead.{KeyHead}
use Rattle.rio_dir.specs.Table.{key_list_bytes}
use Rattle.rio_free.specs.Record.{free_bytes}
use Rattle.rio_chain.specs.{Changes.{with_record}, Placing.{file_end, gaps_in}, Record.{new_key}, Segments.{HoldsRecord, IsChain, Link, RecordAt}}
use Rattle.rio_machine.specs.State.{Row}
use Rattle.rio_tree.specs.{declared.basket_at.BasketAt.{BasketAt}, declared.head.TreeHead.{TreeHead}}
use Rattle.rio_report.specs.Summary.{basket_count}
use Rattle.rio_state.specs.{Contents.{file_classes}, KeyedRecords.{KeyedRecord, begins_at, first_place, has_class, info_key, is_internal, keyed_records, record_at, top_keys, tree_records}, OneMore.{HasOneMoreIn, keyed_bytes}}
use Rattle.rio_state.specs.Trees.{basket_bytes, bytes_as_said, header_in, saved_rows}
use Rattle.rio_state.proofs.{Insertion.{find_more, here}, Members.{In, in_right, none_from}, MoreRecords.{records_more}, Places.{AreRising, records_rise, rising_late}, SavedRows.{rows_same}}
use Rattle.rio_state.proofs.{Stays.{info_same, not_info, not_top, tops_same}, TreesSame.{none_there, place_same}}
use Rattle.rio_close.specs.{Leaving.{IsClosedWith}, Written.{AreCloseRecords, OpenFile, free_place, list_place, own_words, with_both}, declared.parts.CloseRecords.{CloseRecords}}
use Rattle.rio_close.proofs.{FirstBytes.{first_class, first_keyed}, OwnRecords.{own_link}}
use Rattle.rootio.specs.Summaries.{baskets_among, header_among, rows_among}

-- ---- places that rise

earlier : (p q : ℕ) (rs : List KeyedRecord) → p ≤ q → AreRising q rs → AreRising p rs
earlier p q [] le h = tt
earlier p q (r ∷ rs) le h = (omega (arith, le, h.0), h.1)

without : (p : ℕ) (front back : List KeyedRecord) (r : KeyedRecord) → AreRising p (front ++ r ∷ back) → AreRising p (front ++ back)
without p [] back r h = earlier p (r.head.seek + 1) back (omega (arith, h.0)) h.1
without p (f ∷ front) back r h = (h.0, without (f.head.seek + 1) front back r h.1)

apart : (p : ℕ) (front back : List KeyedRecord) (r : KeyedRecord) → AreRising p (front ++ r ∷ back) → (s : KeyedRecord) → In s (front ++ back) → s.head.seek ≡ r.head.seek → ⊥
apart p [] back r h s i same = let late = rising_late (r.head.seek + 1) back h.1 s i in omega (arith, late, same)
apart p (f ∷ front) back r h s (inl is) same =
    let late = rising_late (f.head.seek + 1) (front ++ r ∷ back) h.1 r (in_right r front (r ∷ back) (inl refl)) in
    omega (arith, late, same, ap (λ (k : KeyedRecord). k.head.seek) is)
apart p (f ∷ front) back r h s (inr i) same = apart (f.head.seek + 1) front back r h.1 s i same

module _ (p : ℕ) (old new : List KeyedRecord) (x : KeyedRecord) (h : HasOneMoreIn old new x) (rise : AreRising p new) where
  rising : AreRising p (h.front ++ x ∷ h.back)
  rising = subst (AreRising p) h.after rise

  still_rising : AreRising p old
  still_rising = subst (AreRising p) (sym h.before) (without p h.front h.back x rising)

  free : begins_at old x.head.seek ≡ false
  free = none_from (λ s. s.head.seek == x.head.seek) old (λ s i e. apart p h.front h.back x rising s (subst (λ (rs : List KeyedRecord). In s rs) h.before i) (eqb-true s.head.seek x.head.seek e))

-- ---- the same trees

-- the class list that counts, the keys of objects and trees, and the baskets are the same
pub record HaveSameTrees (old new : List KeyedRecord) : Type 0 where
  pub info : info_key new ≡ info_key old
  pub tops : top_keys new ≡ top_keys old
  pub baskets : (at : BasketAt) → basket_bytes (record_at new) at ≡ basket_bytes (record_at old) at

pub trees_back : (old new : List KeyedRecord) → HaveSameTrees old new → HaveSameTrees new old
trees_back old new s = record { info = sym s.info; tops = sym s.tops; baskets = λ at. sym (s.baskets at) }

pub trees_join : (a b c : List KeyedRecord) → HaveSameTrees a b → HaveSameTrees b c → HaveSameTrees a c
trees_join a b c one two = record { info = two.info ∙ one.info; tops = two.tops ∙ one.tops; baskets = λ at. two.baskets at ∙ one.baskets at }

not_some : {A : Type 0} (o : Option A) → is_some o ≡ false → o ≡ None
not_some None e = refl
not_some (Some x) e = absurd cc

-- a record that the file itself needs, and that is no basket
module _ (p : ℕ) (old new : List KeyedRecord) (x : KeyedRecord) (h : HasOneMoreIn old new x) (rise : AreRising p new) (internal : is_internal x.head ≡ true) (other : has_class (codes "TBasket") x.head ≡ false) where
  none_in : (at : BasketAt) → (x.head.seek == at.seek) ≡ true → basket_bytes (record_at new) at ≡ None
  unfolding basket_bytes
  none_in at e =
      let none : list_any (λ (r : KeyedRecord). r.head.seek == at.seek) old ≡ false = ap (begins_at old) (sym (eqb-true x.head.seek at.seek e)) ∙ free p old new x h rise in
      ap (option_and_then (bytes_as_said at)) (find_more (λ (r : KeyedRecord). r.head.seek == at.seek) x old new h e none)
      ∙ ap (λ (b : Bool). some_if (b && (length x.bytes == at.bytes)) x.bytes) other

  none_before : (at : BasketAt) → (x.head.seek == at.seek) ≡ true → basket_bytes (record_at old) at ≡ None
  none_before at e = not_some (basket_bytes (record_at old) at) (none_there old at (ap (begins_at old) (sym (eqb-true x.head.seek at.seek e)) ∙ free p old new x h rise))

  basket_is : (at : BasketAt) → basket_bytes (record_at new) at ≡ basket_bytes (record_at old) at
  basket_is at = by (x.head.seek == at.seek) refl
    where
      by : (b : Bool) → (x.head.seek == at.seek) ≡ b → basket_bytes (record_at new) at ≡ basket_bytes (record_at old) at
      by true e = none_in at e ∙ sym (none_before at e)
      by false e = sym (place_same old new x h at e)

  same_with : HaveSameTrees old new
  same_with = record {
    info = info_same old new x h (not_info x.head internal);
    tops = tops_same old new x h (not_top x.head internal);
    baskets = basket_is;
  }

-- ---- so a tree sums up to the same

module _ (old new : List KeyedRecord) (s : HaveSameTrees old new) (name : List ℕ) where
  pub header_same : header_among new name ≡ header_among old name
  header_same = λ i. option_and_then (header_in (file_classes (s.info i))) (find (λ r. bytes_eq r.head.name name) (tree_records (s.tops i)))

  pub baskets_same : baskets_among new name ≡ baskets_among old name
  baskets_same = ap (λ (o : Option TreeHead). option_map_or (λ head. basket_count head.branches) o 0) header_same

  found_rows : (classes : List ClassDef) (o : Option TreeHead) → option_and_then (saved_rows classes (record_at new)) o ≡ option_and_then (saved_rows classes (record_at old)) o
  found_rows classes None = refl
  found_rows classes (Some head) = rows_same (record_at new) (record_at old) classes head (λ at has. s.baskets at)

  pub rows_alike : rows_among new name ≡ rows_among old name
  rows_alike =
      ap (λ (o : Option (List Row)). unwrap_or o []) (found_rows (file_classes (info_key new)).declared (header_among new name))
      ∙ (λ i. unwrap_or (option_and_then (saved_rows (file_classes (s.info i)).declared (record_at old)) (header_same i)) [])

-- ---- a close

module _ (head : KeyHead) (class : head.class ≡ codes "TFile") where
  file_internal : is_internal head ≡ true
  file_internal = ap (λ (c : List ℕ). bytes_eq c (codes "TFile") || bytes_eq c (codes "TBasket")) class

  file_no_basket : has_class (codes "TBasket") head ≡ false
  file_no_basket = ap (λ (c : List ℕ). bytes_eq c (codes "TBasket")) class

-- the first record of a chain
module _ (file first : List ℕ) (others : List Link) (chain : IsChain (RecordAt first_place first ∷ others) file) where
  held : HoldsRecord file first_place first
  held = chain.links_are.0.1

  first_class_is : held.whole.head.class ≡ codes "TFile"
  first_class_is = first_class file first held.whole (held.first refl)

  keyed_is : keyed_records (RecordAt first_place first ∷ others) ≡ keyed_bytes held.whole.head first ∷ keyed_records others
  keyed_is = first_keyed first_place first others held.whole

  rising_first : AreRising first_place (keyed_bytes held.whole.head first ∷ keyed_records others)
  rising_first = subst (AreRising first_place) keyed_is (records_rise file first_place (RecordAt first_place first ∷ others) chain.links_are)

  rising_others : AreRising (held.whole.head.seek + 1) (keyed_records others)
  rising_others = rising_first.1

  with_first : HaveSameTrees (keyed_records others) (keyed_records (RecordAt first_place first ∷ others))
  with_first =
      subst (HaveSameTrees (keyed_records others)) (sym keyed_is)
      (same_with first_place (keyed_records others) (keyed_bytes held.whole.head first ∷ keyed_records others) (keyed_bytes held.whole.head first) (here (keyed_bytes held.whole.head first) (keyed_records others))
      rising_first (file_internal held.whole.head first_class_is) (file_no_basket held.whole.head first_class_is))

module _ (f : OpenFile) (links : List Link) (r : CloseRecords) (old file : List ℕ) (made : AreCloseRecords f r) (chain : IsChain links old) (w : IsClosedWith f links r old file) where
  abbrev list_link : List Link
  list_link = with_record (list_place f r) r.list.bytes.bytes w.others

  abbrev both_links : List Link
  both_links = with_record (free_place f r) r.free.bytes.bytes (with_record (list_place f r) r.list.bytes.bytes w.others)

  -- the records of the closed file
  abbrev pub closed_links : List Link
  closed_links = RecordAt first_place w.now ∷ with_record (free_place f r) r.free.bytes.bytes (with_record (list_place f r) r.list.bytes.bytes w.others)

  before : IsChain (RecordAt first_place w.first ∷ w.others) old
  before = subst (λ (l : List Link). IsChain l old) w.before chain

  abbrev list_contents : List ℕ
  list_contents = key_list_bytes f.heads

  abbrev free_contents : List ℕ
  free_contents = free_bytes (gaps_in (with_both f r)) (file_end (with_both f r))

  abbrev list_record : KeyedRecord
  list_record = keyed_bytes (new_key (own_words (list_place f r) f.datime f.name) (length (key_list_bytes f.heads))) r.list.bytes.bytes

  abbrev free_record : KeyedRecord
  free_record = keyed_bytes (new_key (own_words (free_place f r) f.datime f.name) (length (free_bytes (gaps_in (with_both f r)) (file_end (with_both f r))))) r.free.bytes.bytes

  list_more : HasOneMoreIn (keyed_records w.others) (keyed_records list_link) list_record
  list_more = records_more (list_place f r) r.list.bytes.bytes list_record (own_link (list_place f r) f.datime f.name list_contents r.list.bytes.bytes made.list.fits made.list.bytes) w.others

  free_more : HasOneMoreIn (keyed_records list_link) (keyed_records both_links) free_record
  free_more = records_more (free_place f r) r.free.bytes.bytes free_record (own_link (free_place f r) f.datime f.name free_contents r.free.bytes.bytes made.free.fits made.free.bytes) list_link

  both_rise : (p : ℕ) → AreRising p (keyed_records both_links) → HaveSameTrees (keyed_records w.others) (keyed_records both_links)
  both_rise p rise =
      let list_rise = still_rising p (keyed_records list_link) (keyed_records both_links) free_record free_more rise in
      trees_join (keyed_records w.others) (keyed_records list_link) (keyed_records both_links)
      (same_with p (keyed_records w.others) (keyed_records list_link) list_record list_more list_rise refl refl)
      (same_with p (keyed_records list_link) (keyed_records both_links) free_record free_more rise refl refl)

  -- has the same trees as before
  pub closed_same : HaveSameTrees (keyed_records links) (keyed_records closed_links)
  closed_same =
      let one = trees_back (keyed_records w.others) (keyed_records (RecordAt first_place w.first ∷ w.others)) (with_first old w.first w.others before) in
      let two = both_rise _ (rising_others file w.now both_links w.chain.chain) in
      let three = with_first file w.now both_links w.chain.chain in
      let all = trees_join (keyed_records (RecordAt first_place w.first ∷ w.others)) (keyed_records w.others) (keyed_records closed_links) one
      (trees_join (keyed_records w.others) (keyed_records both_links) (keyed_records closed_links) two three) in
      subst (λ (l : List Link). HaveSameTrees (keyed_records l) (keyed_records closed_links)) (sym w.before) all
