-- What a close writes of trees, and what a save may, is about as long as their headers and baskets are.
use Rattle.std.proofs.Common.{◌≡◌, ◌≢◌, ◌⊎◌, inl, inr, ℕ, ◌+◌, ◌*◌, ◌^◌, ◌≤◌, ℤ, pos, codes, List, [], ◌∷◌, ◌++◌, length, map, Bool, true, false, Option, Some, None, refl, sym, ap, subst, arith}
use Rattle.std.proofs.{lemmas.List.{length-append, length-map, Sums.{sum_by-cons}}, lemmas.Slice.Eq.{bytes_eq-Decides}}
use Rattle.std.specs.{Prelude.{if◌then◌else◌, nat_lt}, Int.{w16, w32, cast_unsigned}, List.{cons_option, filter, sum_by}, Option.{option_map}}
use Rattle.byteorder.specs.{Endian.{big_bytes}, Numbers.{length-bytes_high_first}}
use Rattle.rio_num.specs.Text.{long_form, short_form, text_bytes}
use Rattle.rio_leaf.specs.declared.branch.BranchDef.{BranchDef}
use Rattle.rio_format.specs.{declared.kind.Kind.TheVariants.{Plain, Text as Texted, Inline}, declared.kind.Primitive.TheVariants.{U32}, declared.value.Value.{Value, Int, Text, Object}, declared.value.Part.{Part}}
use Rattle.rio_format.specs.{ReaderState.{WordsMet, no_words}, Writer.{Writer}}
use Rattle.rio_key.specs.{Written.{number_bytes, written_key}, declared.head.KeyHead.{KeyHead}}
use Rattle.rio_machine.specs.Limits.{head_length}
use Rattle.rio_format.specs.{Bodies.{form_of, part}, Slots.{Slot, based, flags, kinded, member_field}, TreeClasses.{tree_classes, tree_members}, WrittenList.{array_object, number_part, plain_object, titled_object}}
use Rattle.rio_format.specs.Written.{Writing, both, fields_bytes, form_bytes, headed_bytes, just, writing_of}
use Rattle.rio_format.proofs.{WrittenLists.{writings}, WrittenValues.{write_object}}
use Rattle.rio_tree.specs.{HeaderLength.{bare_head, basket_count, header_length, header_size}, WrittenLaws.{stated_defs}, WrittenTree.{branch_pointers, leaf_backs, tree_value_of}, declared.head.TreeHead.{TreeHead}}
use Rattle.rio_state.specs.{Contents.{FileClasses}, KeyedRecords.{KeyedRecord, has_class, is_tree_key}, Trees.{TreesBeside, all_places_named, header_in, places_named}}
use Rattle.rio_state.specs.TreeLengths.{TreeLengths, idle_length, none_pending, tree_lengths, trees_among}
use Rattle.rio_state.proofs.{HeaderStands.{StandsAsLong}, KeySums.{KeyFits, bytes_length, heads_length, numbers_length, place_some}, Members.{In, in_either, in_filter, in_left, in_map, in_right}, NonePending.{idle_tree}}
use Rattle.rio_state.proofs.{Places.{AreDistinct, AreRising, all_distinct, basket_there, flat_map_in}, TreesSame.{HoldsTree}}

-- ---- a header isn't short

abbrev Least : ℕ → Writer → Type 0
Least n f = (p : ℕ) (t : WordsMet) → n ≤ length (f p t).0

least_first : (n : ℕ) (f g : Writer) → Least n f → Least n (both f g)
least_first n f g least p t = let a = f p t in omega (arith, least p t, length-append a.0 (g (p + length a.0) a.1).0)

least_headed : (n : ℕ) (version : ℤ) (f : Writer) → Least n f → Least (6 + n) (headed_bytes version f)
least_headed n version f least p t =
    let word = big_bytes 2 (cast_unsigned w16 version) in
    let inside = f (p + 4 + length word) t in
    let count = big_bytes 4 (length (word ++ inside.0) + 2 ^ 30) in
    omega (
      arith,
      length-append count (word ++ inside.0),
      length-append word inside.0,
      length-bytes_high_first 4 (length (word ++ inside.0) + 2 ^ 30),
      length-bytes_high_first 2 (cast_unsigned w16 version),
      least (p + 4 + length word) t,
    )

abbrev writing : Value → Writing
writing v = writing_of tree_classes v

least_object : (n : ℕ) (class : List ℕ) (version : ℤ) (ps : List Part) (slot : Slot) → Least n (form_bytes tree_classes class version (form_of class) (writings tree_classes ps)) → Least n ((writing (Object class version ps)).bytes slot)
least_object n class version ps slot least = subst (λ (w : Writing). Least n (w.bytes slot)) (sym (write_object tree_classes class version ps)) least

least_plain : (slot : Slot) → Least 2 ((writing plain_object).bytes slot)
unfolding plain_object
least_plain slot =
    least_object 2 (codes "TObject") (pos 1) (number_part (codes "fUniqueID") 0 ∷ number_part (codes "fBits") 0 ∷ []) slot
    (least_first 2 (just (big_bytes 2 1)) (both ((writing (Int (pos 0))).bytes (kinded (Plain U32))) ((writing (Int (pos 0))).bytes flags)) (λ p t. omega arith))

least_titled : (name title : List ℕ) (slot : Slot) → Least 8 ((writing (titled_object name title)).bytes slot)
unfolding titled_object tree_classes
least_titled name title slot =
    let base = (writing plain_object).bytes (based (codes "TObject") (pos 1)) in
    let rest = both ((writing (Text name)).bytes (kinded Texted)) (both ((writing (Text title)).bytes (kinded Texted)) (just [])) in
    least_object 8 (codes "TNamed") (pos 1) (part [] plain_object ∷ part (codes "fName") (Text name) ∷ part (codes "fTitle") (Text title) ∷ []) slot
    (least_headed 2 (pos 1) (both base rest) (least_first 2 base rest (least_plain (based (codes "TObject") (pos 1)))))

least_tree : (name : List ℕ) (head : TreeHead) (slot : Slot) → Least 14 ((writing (tree_value_of name head)).bytes slot)
unfolding tree_value_of tree_classes tree_members
least_tree name head slot =
    let base = (writing (titled_object name [])).bytes (based (codes "TNamed") (pos 1)) in
    let others = number_part (codes "fEntries") head.entries ∷ part (codes "fBranches") (array_object (branch_pointers [] 0 head.branches)) ∷ part (codes "fLeaves") (array_object (leaf_backs 0 head.branches)) ∷ [] in
    let rest = fields_bytes (map member_field tree_members) (writings tree_classes others) in
    least_object 14 (codes "TTree") (pos 120)
    (part [] (titled_object name []) ∷ number_part (codes "fEntries") head.entries ∷ part (codes "fBranches") (array_object (branch_pointers [] 0 head.branches)) ∷ part (codes "fLeaves") (array_object (leaf_backs 0 head.branches)) ∷ []) slot
    (least_headed 8 (pos 120) (both base rest) (least_first 8 base rest (least_titled name [] (based (codes "TNamed") (pos 1)))))

pub some_length : (name : List ℕ) (branches : List BranchDef) (baskets : ℕ) → 14 ≤ header_length name branches baskets
unfolding header_size
some_length name branches baskets =
    let v = tree_value_of name (bare_head branches) in
    let least = least_tree name (bare_head branches) (kinded (Inline (writing v).class)) 0 no_words in
    omega (arith, least)

-- ---- headers

some_text : (text : List ℕ) → 1 ≤ length (text_bytes text)
some_text text = by (nat_lt (length text) 255)
  where
    by : (b : Bool) → 1 ≤ length (if b then short_form text else long_form text)
    by true = omega arith
    by false = omega arith

-- what a close and a save write of a tree's header
module _ (classes : FileClasses) (r : KeyedRecord) (fits : KeyFits r) (tree : is_tree_key r.head ≡ true) (long : StandsAsLong classes r) where
  own_key : head_length (codes "TTree") r.head.name ≤ length (written_key r.head)
  own_key =
      let class : length (text_bytes r.head.class) ≡ 6 = ap (λ (c : List ℕ). length (text_bytes c)) ((bytes_eq-Decides r.head.class (codes "TTree")).0 tree) in
      omega (
        arith,
        class,
        length-append (number_bytes r.head (cast_unsigned w32 r.head.nbytes)) (text_bytes r.head.class ++ (text_bytes r.head.name ++ text_bytes r.head.title)),
        length-append (text_bytes r.head.class) (text_bytes r.head.name ++ text_bytes r.head.title),
        length-append (text_bytes r.head.name) (text_bytes r.head.title),
        numbers_length r.head (cast_unsigned w32 r.head.nbytes),
        place_some r.head.version,
        some_text r.head.title,
      )

  header_cost : (o : Option TreeHead) → header_in classes r ≡ o → sum_by idle_length (cons_option (option_map (tree_lengths classes.declared r.head.name []) o) []) + (length (written_key r.head) + 10) ≤ 2 * length r.bytes
  header_cost None is = let name = fits.name in omega (arith, fits.written, name)
  header_cost (Some head) is =
      let t = tree_lengths classes.declared r.head.name [] head in
      let idle = (idle_tree classes.declared r.head.name head).idle in
      let least = some_length r.head.name (stated_defs head.branches) (basket_count head) in
      let stands = long head is in
      let apart = fits.apart in
      omega (arith, sum_by-cons idle_length t [], idle, least, stands, apart, own_key)

-- of all headers
pub headers_written : (classes : FileClasses) (hs : List KeyedRecord) → ((r : KeyedRecord) → In r hs → KeyFits r × (is_tree_key r.head ≡ true) × StandsAsLong classes r)
    → sum_by idle_length (trees_among classes none_pending hs) + (heads_length (map (λ r. r.head) hs) + 10 * length hs) ≤ 2 * bytes_length hs
headers_written classes [] all = omega arith
headers_written classes (r ∷ hs) all =
    let own = all r (inl refl) in
    let rest = headers_written classes hs (λ s i. all s (inr i)) in
    let here = header_cost classes r own.0 own.1 own.2 (header_in classes r) refl in
    omega (
      arith,
      rest,
      here,
      in_front (option_map (tree_lengths classes.declared r.head.name []) (header_in classes r)) (trees_among classes none_pending hs),
      sum_by-cons (λ (h : KeyHead). length (written_key h)) r.head (map (λ (s : KeyedRecord). s.head) hs),
      sum_by-cons (λ (s : KeyedRecord). length s.bytes) r hs,
    )
  where
    in_front : (o : Option TreeLengths) (ts : List TreeLengths) → sum_by idle_length (cons_option o ts) ≡ sum_by idle_length (cons_option o []) + sum_by idle_length ts
    in_front None ts = omega arith
    in_front (Some t) ts = omega (arith, sum_by-cons idle_length t ts, sum_by-cons idle_length t [])

-- ---- places

without : (q : ℕ) (front back : List ℕ) (p : ℕ) → In p (front ++ q ∷ back) → p ≢ q → In p (front ++ back)
without q front back p i other = by (in_either p front (q ∷ back) i)
  where
    by : In p front ⊎ In p (q ∷ back) → In p (front ++ back)
    by (inl j) = in_left p front back j
    by (inr (inl same)) = absurd (other (sym same))
    by (inr (inr j)) = in_right p front back j

record Split (q : ℕ) (qs : List ℕ) : Type 0 where
  front : List ℕ
  back : List ℕ
  is : qs ≡ front ++ q ∷ back

split_at : (q : ℕ) (qs : List ℕ) → In q qs → Split q qs
split_at q [] i = absurd i
split_at q (x ∷ xs) (inl same) = record { front = []; back = xs; is = ap (λ (y : ℕ). y ∷ xs) same }
split_at q (x ∷ xs) (inr i) = let s = split_at q xs i in record { front = x ∷ s.front; back = s.back; is = ap (λ (ys : List ℕ). x ∷ ys) s.is }

-- distinct places among others are no more than these
pub distinct_few : (ps qs : List ℕ) → AreDistinct ps → ((p : ℕ) → In p ps → In p qs) → length ps ≤ length qs
distinct_few [] qs distinct within = omega arith
distinct_few (q ∷ ps) qs distinct within =
    let s = split_at q qs (within q (inl refl)) in
    let rest = distinct_few ps (s.front ++ s.back) distinct.1 (λ p i. without q s.front s.back p (subst (λ (xs : List ℕ). In p xs) s.is (within p (inr i))) (λ same. distinct.0 (subst (λ (x : ℕ). In x ps) same i))) in
    omega (arith, rest, ap length s.is, length-append s.front (q ∷ s.back), length-append s.front s.back)

-- ---- baskets

abbrev pub is_basket : KeyedRecord → Bool
is_basket r = has_class (codes "TBasket") r.head

-- the baskets that trees name are no more than the baskets that there are
pub named_few : (classes : FileClasses) (records headers : List KeyedRecord) (n : ℕ) → AreRising n headers
    → ((r : KeyedRecord) → In r headers → HoldsTree (record { classes = classes; records = records; headers = headers }) r)
    → length (all_places_named classes headers) ≤ length (filter is_basket records)
named_few classes records headers n rise holds =
    let beside : TreesBeside = record { classes = classes; records = records; headers = headers } in
    let few = distinct_few (all_places_named classes headers) (map (λ (b : KeyedRecord). b.head.seek) (filter is_basket records))
    (all_distinct beside n headers rise (λ r i. (i, holds r i))) (λ p i. by beside p (flat_map_in (places_named classes) p headers i)) in
    omega (arith, few, length-map (filter is_basket records) (λ (b : KeyedRecord). b.head.seek))
  where
    by : (beside : TreesBeside) (p : ℕ) → (r : KeyedRecord) × In r headers × In p (places_named classes r) → In p (map (λ (b : KeyedRecord). b.head.seek) (filter is_basket records))
    by beside p (r, i, j) =
        let t = basket_there (record { classes = classes; records = records; headers = headers }) r (holds r i) p j in
        subst (λ (q : ℕ). In q (map (λ (b : KeyedRecord). b.head.seek) (filter is_basket records))) t.seek
        (in_map (λ (b : KeyedRecord). b.head.seek) t.b (filter is_basket records) (in_filter is_basket t.b records t.among t.basket))

-- and each is longer than its entry in the free record
pub baskets_long : (bs : List KeyedRecord) → ((r : KeyedRecord) → In r bs → KeyFits r) → 10 * length bs ≤ bytes_length bs
baskets_long [] fits = omega arith
baskets_long (b ∷ bs) fits =
    let name = (fits b (inl refl)).name in
    let rest = baskets_long bs (λ r i. fits r (inr i)) in
    omega (arith, rest, name, sum_by-cons (λ (s : KeyedRecord). length s.bytes) b bs)
