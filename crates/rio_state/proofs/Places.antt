-- Records of a chain stand one behind the other, so no two begin at one place; and no two headers name a basket.
use Rattle.std.proofs.Common.{◌≡◌, ◌≢◌, ◌⊎◌, inl, inr, ℕ, ◌+◌, ◌≤◌, ◌<◌, ◌∙◌, List, [], ◌∷◌, ◌++◌, length, map, codes, Bool, true, false, cond, not, ◌&&◌, ◌==◌, Option, Some, None, nat_lt, refl, sym, ap, subst, arith}
use Rattle.std.proofs.lemmas.Bool.{and_parts, eq-eqb, eqb-true, lt-ltb, not-true}
use Rattle.std.specs.{Prelude.{is_some, option_and_then}, List.{filter, find, flat_map, list_any}, Option.{option_map_or}, Str.{bytes_eq}}
use Rattle.rio_chain.specs.Segments.{GapAt, HoldsLinks, IsChain, Link, RecordAt}
use Rattle.rio_chain.proofs.Words.{held_long}
use Rattle.rio_state.specs.{Contents.{FileClasses}, KeyedRecords.{KeyedRecord, first_place, has_class, info_key, is_info_key, keyed_records, later_info}, OneMore.{PlacesDiffer}}
use Rattle.rio_num.specs.Reading.{some_if}
use Rattle.rio_tree.specs.declared.basket_at.BasketAt.{BasketAt}
use Rattle.rio_state.specs.Trees.{TreesBeside, all_places_named, are_named_once, basket_bytes, basket_places, bytes_as_said, places_named, records_before}
use Rattle.rio_state.proofs.{LessRecords.{first_class, own_record, with_own}, Members.{In, found, in_either, in_filter, in_right, map_in, none_at, none_from}}
use Rattle.rio_state.proofs.TreesSame.{HoldsTree, NamesBasket, baskets_there, in_flat_map}

-- ---- places that rise

-- from this place on each record begins behind the one before
abbrev pub AreRising : ℕ → List KeyedRecord → Type 0
AreRising p [] = Unit {0}
AreRising p (r ∷ rs) = (p ≤ r.head.seek) × AreRising (r.head.seek + 1) rs

rising_earlier : (p q : ℕ) (rs : List KeyedRecord) → p ≤ q → AreRising q rs → AreRising p rs
rising_earlier p q [] le h = tt
rising_earlier p q (r ∷ rs) le h = (omega (arith, le, h.0), h.1)

pub rising_late : (p : ℕ) (rs : List KeyedRecord) → AreRising p rs → (s : KeyedRecord) → In s rs → p ≤ s.head.seek
rising_late p [] h s i = absurd i
rising_late p (r ∷ rs) h s (inl same) = omega (arith, h.0, ap (λ (k : KeyedRecord). k.head.seek) same)
rising_late p (r ∷ rs) h s (inr i) = omega (arith, h.0, rising_late (r.head.seek + 1) rs h.1 s i)

pub rising_filter : (q : KeyedRecord → Bool) (p : ℕ) (rs : List KeyedRecord) → AreRising p rs → AreRising p (filter q rs)
rising_filter q p [] h = tt
rising_filter q p (r ∷ rs) h = by (q r) (rising_filter q (r.head.seek + 1) rs h.1)
  where
    by : (b : Bool) → AreRising (r.head.seek + 1) (filter q rs) → AreRising p (cond b (r ∷ filter q rs) (filter q rs))
    by true rest = (h.0, rest)
    by false rest = rising_earlier p (r.head.seek + 1) (filter q rs) (omega (arith, h.0)) rest

-- the records of a chain
pub records_rise : (file : List ℕ) (p : ℕ) (links : List Link) → HoldsLinks file p links → AreRising p (keyed_records links)
records_rise file p [] holds = tt
records_rise file p (RecordAt q bytes ∷ links) holds =
    let o = own_record file p q bytes holds.0.0 holds.0.1 in
    let rest = rising_earlier (o.r.head.seek + 1) (p + length bytes) (keyed_records links) (omega (arith, o.seek, holds.0.0, held_long file p bytes holds.0.1)) (records_rise file (p + length bytes) links holds.1) in
    let here : p ≤ o.r.head.seek = omega (arith, o.seek, holds.0.0) in
    subst (AreRising p) (sym (with_own q bytes o links)) (here, rest)
records_rise file p (GapAt q n ∷ links) holds = rising_earlier p (p + n) (keyed_records links) (omega arith) (records_rise file (p + n) links holds.1)

-- one of them, and the others
rising_apart : (p : ℕ) (front back : List KeyedRecord) (r : KeyedRecord) → AreRising p (front ++ r ∷ back) → (s : KeyedRecord) → In s (front ++ back) → s.head.seek ≡ r.head.seek → ⊥
rising_apart p [] back r h s i same = let late = rising_late (r.head.seek + 1) back h.1 s i in omega (arith, late, same)
rising_apart p (f ∷ front) back r h s (inl is) same =
    let late = rising_late (f.head.seek + 1) (front ++ r ∷ back) h.1 r (in_right r front (r ∷ back) (inl refl)) in
    omega (arith, late, same, ap (λ (k : KeyedRecord). k.head.seek) is)
rising_apart p (f ∷ front) back r h s (inr i) same = rising_apart (f.head.seek + 1) front back r h.1 s i same

pub rising_unique : (p : ℕ) (rs : List KeyedRecord) → AreRising p rs → (r s : KeyedRecord) → In r rs → In s rs → r.head.seek ≡ s.head.seek → r ≡ s
rising_unique p [] rise r s i j same = absurd i
rising_unique p (k ∷ ks) rise r s (inl one) (inl two) same = sym one ∙ two
rising_unique p (k ∷ ks) rise r s (inl one) (inr j) same =
    let late = rising_late (k.head.seek + 1) ks rise.1 s j in absurd (omega (arith, late, same, ap (λ (x : KeyedRecord). x.head.seek) one))
rising_unique p (k ∷ ks) rise r s (inr i) (inl two) same =
    let late = rising_late (k.head.seek + 1) ks rise.1 r i in absurd (omega (arith, late, same, ap (λ (x : KeyedRecord). x.head.seek) two))
rising_unique p (k ∷ ks) rise r s (inr i) (inr j) same = rising_unique (k.head.seek + 1) ks rise.1 r s i j same

-- two records of a chain that begin at one place are one
pub one_record : (file : List ℕ) (links : List Link) (r s : KeyedRecord) → IsChain links file → In r (keyed_records links) → In s (keyed_records links) → r.head.seek ≡ s.head.seek → r ≡ s
one_record file links r s chain i j same = rising_unique 100 (keyed_records links) (records_rise file 100 links chain.links_are) r s i j same

-- a basket isn't the first record
pub basket_later : (file : List ℕ) (links : List Link) (r : KeyedRecord) → IsChain links file → In r (keyed_records links) → has_class (codes "TBasket") r.head ≡ true → r.head.seek ≢ first_place
basket_later file [] r chain i class at = absurd i
basket_later file (GapAt p n ∷ links) r chain i class at = let late = chain.links_are.0.1.later in absurd (omega (arith, late))
basket_later file (RecordAt p bytes ∷ links) r chain i class at =
    let holds = chain.links_are in
    let o = own_record file 100 p bytes holds.0.0 holds.0.1 in
    let there : In o.r (keyed_records (RecordAt p bytes ∷ links)) = subst (λ (rs : List KeyedRecord). In o.r rs) (sym (with_own p bytes o links)) (inl refl) in
    let same = one_record file (RecordAt p bytes ∷ links) r o.r chain i there (omega (arith, at, o.seek, holds.0.0)) in
    let file_class = ap (λ (k : KeyedRecord). k.head.class) same ∙ first_class file p bytes o (holds.0.1.first refl) in
    let f : false ≡ true = ap (λ (c : List ℕ). bytes_eq c (codes "TBasket")) (sym file_class) ∙ class in
    absurd cc

-- the class list that counts is one of the records
pub info_among : (rs : List KeyedRecord) (k : KeyedRecord) → info_key rs ≡ Some k → In k rs × (is_info_key k.head ≡ true)
info_among [] k e = absurd cc
info_among (r ∷ rs) k e = by (is_info_key r.head) refl (info_key rs) refl e (info_among rs)
  where
    some_same : {a b : KeyedRecord} → Some a ≡ Some b → a ≡ b
    some_same e = cc

    later : (l : KeyedRecord) → (b : Bool) → is_info_key r.head ≡ true → cond b (Some r) (Some l) ≡ Some k → In l rs × (is_info_key l.head ≡ true) → In k (r ∷ rs) × (is_info_key k.head ≡ true)
    later l true is e rest = (inl (some_same e), ap (λ (x : KeyedRecord). is_info_key x.head) (sym (some_same e)) ∙ is)
    later l false is e rest = (inr (subst (λ (x : KeyedRecord). In x rs) (some_same e) rest.0), ap (λ (x : KeyedRecord). is_info_key x.head) (sym (some_same e)) ∙ rest.1)

    by : (b : Bool) → is_info_key r.head ≡ b → (o : Option KeyedRecord) → info_key rs ≡ o → cond b (later_info r o) o ≡ Some k
        → ((l : KeyedRecord) → info_key rs ≡ Some l → In l rs × (is_info_key l.head ≡ true)) → In k (r ∷ rs) × (is_info_key k.head ≡ true)
    by true is None last e rest = (inl (some_same e), ap (λ (x : KeyedRecord). is_info_key x.head) (sym (some_same e)) ∙ is)
    by true is (Some l) last e rest = later l (nat_lt l.head.cycle r.head.cycle) is e (rest l last)
    by false is o last e rest = let found = rest k (last ∙ e) in (inr found.0, found.1)

pub places_differ : PlacesDiffer
places_differ file links others r chain h =
    let rising = subst (AreRising 100) h.after (records_rise file 100 links chain.links_are) in
    none_from (λ s. s.head.seek == r.head.seek) others (λ s i e. rising_apart 100 h.front h.back r rising s (subst (λ (rs : List KeyedRecord). In s rs) h.before i) (eqb-true s.head.seek r.head.seek e))

-- ---- baskets that are named once

abbrev pub AreDistinct : List ℕ → Type 0
AreDistinct [] = Unit {0}
AreDistinct (p ∷ ps) = (In p ps → ⊥) × AreDistinct ps

-- none of them is among the others
pub once_apart : (others ps : List ℕ) → are_named_once others ps ≡ true → (p : ℕ) → In p ps → In p others → ⊥
once_apart others [] once p i j = i
once_apart others (q ∷ qs) once p (inl same) j =
    let parts = and_parts (not (list_any (λ o. q == o) others)) (are_named_once (q ∷ others) qs) once in
    none_at (λ o. q == o) p others (not-true _ parts.0) j (eq-eqb q p same)
once_apart others (q ∷ qs) once p (inr i) j =
    let parts = and_parts (not (list_any (λ o. q == o) others)) (are_named_once (q ∷ others) qs) once in
    once_apart (q ∷ others) qs parts.1 p i (inr j)

pub once_distinct : (others ps : List ℕ) → are_named_once others ps ≡ true → AreDistinct ps
once_distinct others [] once = tt
once_distinct others (q ∷ qs) once =
    let parts = and_parts (not (list_any (λ o. q == o) others)) (are_named_once (q ∷ others) qs) once in
    ((λ i. once_apart (q ∷ others) qs parts.1 q i (inl refl)), once_distinct (q ∷ others) qs parts.1)

-- what a record names, where its header is read
pub places_are : (beside : TreesBeside) (r : KeyedRecord) (h : HoldsTree beside r) → places_named beside.classes r ≡ basket_places h.head
unfolding places_named
places_are beside r h = ap (λ (o : Option _). option_map_or basket_places o []) h.header

-- of two records the later one names no basket of the earlier
pub later_apart : (beside : TreesBeside) (r s : KeyedRecord) (h : HoldsTree beside s) → In r beside.headers → r.head.seek < s.head.seek → (p : ℕ) → In p (places_named beside.classes r) → In p (places_named beside.classes s) → ⊥
later_apart beside r s h i before p one two =
    let among : In r (records_before beside.headers s) = in_filter (λ k. nat_lt k.head.seek s.head.seek) r beside.headers i (lt-ltb _ _ before) in
    once_apart (all_places_named beside.classes (records_before beside.headers s)) (basket_places h.head) h.once p (subst (λ (ps : List ℕ). In p ps) (places_are beside s h) two)
    (in_flat_map (places_named beside.classes) p r (records_before beside.headers s) among one)

-- what a list's elements give
pub flat_map_in : {A : Type 0} (f : A → List ℕ) (p : ℕ) (xs : List A) → In p (flat_map f xs) → (x : A) × In x xs × In p (f x)
flat_map_in f p [] i = absurd i
flat_map_in f p (x ∷ xs) i = by (in_either p (f x) (flat_map f xs) i) (flat_map_in f p xs)
  where
    by : In p (f x) ⊎ In p (flat_map f xs) → (In p (flat_map f xs) → (y : _) × In y xs × In p (f y)) → (y : _) × In y (x ∷ xs) × In p (f y)
    by (inl j) rest = (x, inl refl, j)
    by (inr j) rest = let r = rest j in (r.0, inr r.1, r.2)

pub distinct_append : (ps qs : List ℕ) → AreDistinct ps → AreDistinct qs → ((p : ℕ) → In p ps → In p qs → ⊥) → AreDistinct (ps ++ qs)
distinct_append [] qs one two apart = two
distinct_append (p ∷ ps) qs one two apart = (
  (λ i. by (in_either p ps qs i)),
  distinct_append ps qs one.1 two (λ q i j. apart q (inr i) j),
)
  where
    by : In p ps ⊎ In p qs → ⊥
    by (inl i) = one.0 i
    by (inr j) = apart p (inl refl) j

-- no basket is named twice by headers that are all read
pub all_distinct : (beside : TreesBeside) (n : ℕ) (rs : List KeyedRecord) → AreRising n rs → ((r : KeyedRecord) → In r rs → In r beside.headers × HoldsTree beside r) → AreDistinct (all_places_named beside.classes rs)
all_distinct beside n [] rise read = tt
all_distinct beside n (r ∷ rs) rise read =
    let own = read r (inl refl) in
    let here = subst AreDistinct (sym (places_are beside r own.1)) (once_distinct (all_places_named beside.classes (records_before beside.headers r)) (basket_places own.1.head) own.1.once) in
    let rest = all_distinct beside (r.head.seek + 1) rs rise.1 (λ s i. read s (inr i)) in
    distinct_append (places_named beside.classes r) (all_places_named beside.classes rs) here rest
    (λ p i j. by p i (flat_map_in (places_named beside.classes) p rs j))
  where
    by : (p : ℕ) → In p (places_named beside.classes r) → (s : KeyedRecord) × In s rs × In p (places_named beside.classes s) → ⊥
    by p i (s, k, j) =
        let late = rising_late (r.head.seek + 1) rs rise.1 s k in
        later_apart beside r s (read s (inr k)).1 (read r (inl refl)).0 (omega (arith, late)) p i j

-- ---- the baskets of a tree

-- the record at a place is a basket's
pub record BasketThere (records : List KeyedRecord) (p : ℕ) : Type 0 where
  pub b : KeyedRecord
  pub among : In b records
  pub basket : has_class (codes "TBasket") b.head ≡ true
  pub seek : b.head.seek ≡ p

record Named (classes : FileClasses) (r : KeyedRecord) (p : ℕ) : Type 0 where
  at : BasketAt
  names : NamesBasket classes r at
  seek : at.seek ≡ p

basket_named : (beside : TreesBeside) (r : KeyedRecord) → HoldsTree beside r → (p : ℕ) → In p (places_named beside.classes r) → Named beside.classes r p
basket_named beside r h p i =
    let branch = flat_map_in (λ b. map (λ a. a.seek) b.baskets) p h.head.branches (subst (λ (ps : List ℕ). In p ps) (places_are beside r h) i) in
    let basket = map_in (λ (a : BasketAt). a.seek) p branch.0.baskets branch.2 in
    record { at = basket.0; names = (h.head, h.header, (branch.0, branch.1, basket.1)); seek = basket.2 }

is_class : (at : BasketAt) (k : KeyedRecord) (c : Bool) → has_class (codes "TBasket") k.head ≡ c → is_some (some_if (c && (length k.bytes == at.bytes)) k.bytes) ≡ true → c ≡ true
is_class at k true is e = refl
is_class at k false is e = absurd cc

found_there : (records : List KeyedRecord) (at : BasketAt) (o : Option KeyedRecord) → find (λ k. k.head.seek == at.seek) records ≡ o → is_some (option_and_then (bytes_as_said at) o) ≡ true → BasketThere records at.seek
found_there records at None e some = absurd cc
found_there records at (Some k) e some =
    let f = found (λ t. t.head.seek == at.seek) k records e in
    record { b = k; among = f.among; basket = is_class at k (has_class (codes "TBasket") k.head) refl some; seek = eqb-true _ _ f.passes }

-- each place that a tree names is that of a basket
pub basket_there : (beside : TreesBeside) (r : KeyedRecord) → HoldsTree beside r → (p : ℕ) → In p (places_named beside.classes r) → BasketThere beside.records p
unfolding basket_bytes
basket_there beside r h p i =
    let n = basket_named beside r h p i in
    let there = baskets_there beside.classes beside.headers beside.records beside.records r (ap is_some h.tree) n.at n.names in
    subst (BasketThere beside.records) n.seek (found_there beside.records n.at (find (λ k. k.head.seek == n.at.seek) beside.records) refl there)
