-- The header of a tree has 20 bytes for each basket, and is else as long as one without baskets.
use Rattle.std.proofs.Common.{◌≡◌, ◌∙◌, ℕ, ◌+◌, ◌*◌, ◌^◌, ℤ, pos, List, [], ◌∷◌, ◌++◌, codes, length, map, refl, sym, ap, subst, arith}
use Rattle.std.proofs.{lemmas.List.{length-append, Sums.{sum_by-cons}}}
use Rattle.std.specs.{Prelude.{Bool, if◌then◌else◌}, List.{sum_by}, Int.{w16, w32, cast_unsigned}}
use Rattle.byteorder.specs.{Endian.{big_bytes}, Numbers.{length-bytes_high_first}}
use Rattle.rio_leaf.specs.{declared.branch.Shape.{Shape, TheVariants.{Leaves, Class}}}
use Rattle.rio_format.specs.{declared.kind.Kind.TheVariants.{Plain, Counter, Fixed, Counted, Text as Texted, Inline, Pointer, Other}, declared.kind.Primitive.{Primitive, TheVariants.{I32, I64}}}
use Rattle.rio_format.specs.{declared.value.Value.{Value, Int, Text, List as Items, Object, Pointed}, declared.value.Part.{Part}, ReaderState.{WordsMet, no_words, with_label}, Writer.{Writer, class_bytes}}
use Rattle.rio_format.specs.declared.value.Value.TheOpen as layer
use Rattle.rio_format.specs.{Bodies.{form_of, part}, Prims.{width_of}, Slots.{Field, Slot, any_pointer, based, described_fields, flags, kinded, link, many}}
use Rattle.rio_format.specs.{TreeClasses.{branch_class, branch_members, object_branch_class, object_branch_members, tree_class, tree_classes, tree_members}, WrittenList.{array_object, number_part, plain_object, titled_object}}
use Rattle.rio_format.specs.Written.{Writing, all, both, counted, counted_bytes, fields_bytes, form_bytes, headed_bytes, int_bytes, just, labelled, pointed_bytes, width_in_bits, writing_of, writing_step}
use Rattle.rio_format.proofs.{ValueCases.{fold_Int, fold_List, fold_Pointed}, WrittenLists.{writings}, WrittenValues.{write_object}}
use Rattle.rio_tree.specs.{declared.basket_at.BasketAt.{BasketAt}, declared.head.Branch.{Branch}, declared.head.TreeHead.{TreeHead}}
use Rattle.rio_tree.specs.{Header.{branch_leaves}, HeaderLength.{HeaderLengthIsKnown, bare_branch, bare_head, basket_count, header_size}, WrittenLaws.{stated_defs}}
use Rattle.rio_tree.specs.WrittenTree.{LeafLabels, backs_from, basket_arrays, basket_numbers, branch_label_count, branch_numbers, branch_object, branch_pointer_arrays, branch_pointers, labels_behind, leaf_backs, leaf_pointers, plain_branch_object, shaped_object, title_of_branch, tree_value_of}
use Rattle.rio_tree.proofs.WrittenLengths.{Alike, WriteAsLong, alike_later, class_long, long}

-- ---- writers

-- the second is n bytes longer, and the same names are known behind both
record AreLonger (n p q : ℕ) (a b : List ℕ × WordsMet) : Type 0 where
  longer : length b.0 ≡ length a.0 + n
  alike : Alike (p + length a.0) a.1 (q + length b.0) b.1

abbrev WriteLonger : ℕ → Writer → Writer → Type 0
WriteLonger n f g = (p q : ℕ) (t u : WordsMet) → Alike p t q u → AreLonger n p q (f p t) (g q u)

as_long : (f g : Writer) → WriteAsLong f g → WriteLonger 0 f g
as_long f g same p q t u h = let s = same p q t u h in record { longer = omega (arith, s.long); alike = s.alike }

just_longer : (n : ℕ) (xs ys : List ℕ) → length ys ≡ length xs + n → WriteLonger n (just xs) (just ys)
just_longer n xs ys e p q t u h = record { longer = e; alike = alike_later p (p + length xs) q (q + length ys) t u (omega arith) (omega arith) h }

both_longer : (k m n : ℕ) (f g f' g' : Writer) → k ≡ m + n → WriteLonger m f f' → WriteLonger n g g' → WriteLonger k (both f g) (both f' g')
both_longer k m n f g f' g' sum one two p q t u h =
    let a = f p t in
    let b = f' q u in
    let first = one p q t u h in
    let x = g (p + length a.0) a.1 in
    let y = g' (q + length b.0) b.1 in
    let second = two (p + length a.0) (q + length b.0) a.1 b.1 first.alike in
    let la = length-append a.0 x.0 in
    let lb = length-append b.0 y.0 in
    record {
      longer = omega (arith, sum, la, lb, first.longer, second.longer);
      alike = alike_later (p + length a.0 + length x.0) (p + length (a.0 ++ x.0)) (q + length b.0 + length y.0) (q + length (b.0 ++ y.0)) x.1 y.1
          (omega (arith, la)) (omega (arith, lb)) second.alike;
    }

-- some bytes more before the second
prefix_longer : (k n : ℕ) (xs : List ℕ) (f g : Writer) → k ≡ length xs + n → WriteLonger n f g → WriteLonger k f (both (just xs) g)
prefix_longer k n xs f g sum one p q t u h =
    let x = f p t in
    let y = g (q + length xs) u in
    let first = one p (q + length xs) t u (record { left = h.left; right = (alike_later p p q (q + length xs) t u (omega arith) (omega arith) h).right; same = h.same }) in
    let l = length-append xs y.0 in
    record {
      longer = omega (arith, sum, l, first.longer);
      alike = alike_later (p + length x.0) (p + length x.0) (q + length xs + length y.0) (q + length (xs ++ y.0)) x.1 y.1 (omega arith) (omega (arith, l)) first.alike;
    }

-- a count before what it counts
counted_longer : (n p q : ℕ) (a b : List ℕ × WordsMet) → AreLonger n (p + 4) (q + 4) a b → AreLonger n p q (counted a) (counted b)
counted_longer n p q a b h =
    let x = length a.0 + 2 ^ 30 in
    let y = length b.0 + 2 ^ 30 in
    let la = length-append (big_bytes 4 x) a.0 in
    let lb = length-append (big_bytes 4 y) b.0 in
    let wa = length-bytes_high_first 4 x in
    let wb = length-bytes_high_first 4 y in
    record {
      longer = omega (arith, la, lb, wa, wb, h.longer);
      alike = alike_later (p + 4 + length a.0) (p + length (big_bytes 4 x ++ a.0)) (q + 4 + length b.0) (q + length (big_bytes 4 y ++ b.0)) a.1 b.1
          (omega (arith, la, wa)) (omega (arith, lb, wb)) h.alike;
    }

labelled_longer : (n i j : ℕ) (f g : Writer) → WriteLonger n f g → WriteLonger n (labelled i f) (labelled j g)
labelled_longer n i j f g one p q t u h = one p q (with_label t i) (with_label u j) (record { left = h.left; right = h.right; same = h.same })

headed_longer : (n : ℕ) (version : ℤ) (f g : Writer) → WriteLonger n f g → WriteLonger n (headed_bytes version f) (headed_bytes version g)
headed_longer n version f g one p q t u h =
    let word = big_bytes 2 (cast_unsigned w16 version) in
    counted_longer n p q _ _ (both_longer n 0 n (just word) f (just word) g (omega arith) (just_longer 0 word word (omega arith)) one
    (p + 4) (q + 4) t u (alike_later p (p + 4) q (q + 4) t u (omega arith) (omega arith) h))

-- ---- parts

abbrev total : List ℕ → ℕ
total [] = 0
total (n ∷ ns) = n + total ns

abbrev FieldsLonger : List Field → List Writing → List Writing → List ℕ → Type 0
FieldsLonger [] ws ws' ns = ns ≡ []
FieldsLonger (f ∷ fs) (w ∷ ws) (w' ∷ ws') (n ∷ ns) = WriteLonger n (w.bytes f.slot) (w'.bytes f.slot) × FieldsLonger fs ws ws' ns
FieldsLonger (f ∷ fs) ws ws' ns = ⊥

fields_longer : (fs : List Field) (ws ws' : List Writing) (ns : List ℕ) → FieldsLonger fs ws ws' ns → WriteLonger (total ns) (fields_bytes fs ws) (fields_bytes fs ws')
fields_longer [] ws ws' ns is = just_longer (total ns) [] [] (ap (λ (xs : List ℕ). 0 + total xs) (sym is))
fields_longer (f ∷ fs) (w ∷ ws) (w' ∷ ws') (n ∷ ns) is =
    both_longer (total (n ∷ ns)) n (total ns) (w.bytes f.slot) (fields_bytes fs ws) (w'.bytes f.slot) (fields_bytes fs ws') refl is.0 (fields_longer fs ws ws' ns is.1)
fields_longer (f ∷ fs) [] ws' ns is = absurd is
fields_longer (f ∷ fs) (w ∷ ws) [] ns is = absurd is
fields_longer (f ∷ fs) (w ∷ ws) (w' ∷ ws') [] is = absurd is

-- ---- values

abbrev writing : Value → Writing
writing v = writing_of tree_classes v

abbrev ValueLonger : ℕ → Slot → Value → Value → Type 0
ValueLonger n slot v w = WriteLonger n ((writing v).bytes slot) ((writing w).bytes slot)

same_value : (slot : Slot) (v : Value) → ValueLonger 0 slot v v
same_value slot v = as_long ((writing v).bytes slot) ((writing v).bytes slot) (long tree_classes v slot)

big_longer : (n x y : ℕ) → length (big_bytes n y) ≡ length (big_bytes n x) + 0
big_longer n x y = omega (arith, length-bytes_high_first n x, length-bytes_high_first n y)

-- an integer is as long as its kind says
int_length : (a b : ℤ) (slot : Slot) → length (int_bytes b slot) ≡ length (int_bytes a slot) + 0
int_length a b (kinded (Plain of)) = big_longer (width_of of) (cast_unsigned (width_in_bits of) a) (cast_unsigned (width_in_bits of) b)
int_length a b (kinded Counter) = big_longer 4 (cast_unsigned w32 a) (cast_unsigned w32 b)
int_length a b flags = big_longer 4 (cast_unsigned w32 a) (cast_unsigned w32 b)
int_length a b (kinded (Fixed of count)) = refl
int_length a b (kinded (Counted of counter)) = refl
int_length a b (kinded Texted) = refl
int_length a b (kinded (Inline class)) = refl
int_length a b (kinded (Pointer class)) = refl
int_length a b (kinded (Other code)) = refl
int_length a b (based class version) = refl
int_length a b any_pointer = refl
int_length a b link = refl
int_length a b (many slot) = refl

int_longer : (a b : ℤ) (slot : Slot) → WriteLonger 0 (just (int_bytes a slot)) (just (int_bytes b slot))
int_longer a b slot = just_longer 0 (int_bytes a slot) (int_bytes b slot) (int_length a b slot)

written_int : (z : ℤ) → writing (Int z) ≡ writing_step tree_classes (layer.Int z)
written_int z = fold_Int (writing_step tree_classes) (λ p. p.value) z

int_value : (slot : Slot) (a b : ℤ) → ValueLonger 0 slot (Int a) (Int b)
int_value slot a b =
    subst (λ (x : Writing × Writing). WriteLonger 0 (x.0.bytes slot) (x.1.bytes slot)) (λ i. (sym (written_int a) i, sym (written_int b) i)) (int_longer a b slot)

-- an object by its parts, in whatever slots it stands
object_value : (n : ℕ) (class : List ℕ) (version : ℤ) (ps qs : List Part) (slot other : Slot)
    → WriteLonger n (form_bytes tree_classes class version (form_of class) (writings tree_classes ps)) (form_bytes tree_classes class version (form_of class) (writings tree_classes qs))
    → WriteLonger n ((writing (Object class version ps)).bytes slot) ((writing (Object class version qs)).bytes other)
object_value n class version ps qs slot other one =
    subst (λ (x : Writing × Writing). WriteLonger n (x.0.bytes slot) (x.1.bytes other)) (λ i. (sym (write_object tree_classes class version ps) i, sym (write_object tree_classes class version qs) i)) one

object_class : (class : List ℕ) (version : ℤ) (ps : List Part) → (writing (Object class version ps)).class ≡ class
object_class class version ps = ap (λ (w : Writing). w.class) (write_object tree_classes class version ps)

-- a pointer to an object
pointed_longer : (n : ℕ) (v w : Writing) → v.class ≡ w.class → WriteLonger n (v.bytes (kinded (Inline v.class))) (w.bytes (kinded (Inline w.class))) → WriteLonger n (pointed_bytes v) (pointed_bytes w)
pointed_longer n v w same one p q t u h =
    let word : WriteLonger 0 (class_bytes v.class) (class_bytes w.class) = subst (λ (c : List ℕ). WriteLonger 0 (class_bytes v.class) (class_bytes c)) same (as_long (class_bytes v.class) (class_bytes v.class) (class_long v.class)) in
    let own = v.bytes (kinded (Inline v.class)) in
    let other = w.bytes (kinded (Inline w.class)) in
    counted_longer n p q _ _ (both_longer n 0 n (class_bytes v.class) (labelled p own) (class_bytes w.class) (labelled q other) (omega arith) word (labelled_longer n p q own other one)
    (p + 4) (q + 4) t u (alike_later p (p + 4) q (q + 4) t u (omega arith) (omega arith) h))

pointed_value : (n label : ℕ) (v w : Value) (slot : Slot) → (writing v).class ≡ (writing w).class
    → WriteLonger n ((writing v).bytes (kinded (Inline (writing v).class))) ((writing w).bytes (kinded (Inline (writing w).class)))
    → ValueLonger n slot (Pointed label v) (Pointed label w)
pointed_value n label v w slot same one =
    subst (λ (x : Writing × Writing). WriteLonger n (x.0.bytes slot) (x.1.bytes slot))
    (λ i. (sym (fold_Pointed (writing_step tree_classes) (λ p. p.value) label v) i, sym (fold_Pointed (writing_step tree_classes) (λ p. p.value) label w) i))
    (pointed_longer n (writing v) (writing w) same one)

-- ---- arrays with a number for each basket

abbrev numbers : (BasketAt → ℕ) → List BasketAt → ℕ → List Writing
numbers number baskets last = map writing (map (λ b. Int (pos (number b))) baskets ++ Int (pos last) ∷ [])

-- so many bytes for each
abbrev amount : ℕ → List BasketAt → ℕ
amount n [] = 0
amount n (b ∷ bs) = n + amount n bs

amount_is : (bs : List BasketAt) → (amount 4 bs ≡ 4 * length bs) × (amount 8 bs ≡ 8 * length bs)
amount_is [] = (refl, refl)
amount_is (b ∷ bs) = let rest = amount_is bs in (omega (arith, rest.0), omega (arith, rest.1))

module _ (of : Primitive) (number : BasketAt → ℕ) where
  abbrev slot : Slot
  slot = kinded (Plain of)

  numbers_longer : (baskets : List BasketAt) (l m : ℕ) → WriteLonger (amount (width_of of) baskets) (all slot (numbers number [] l)) (all slot (numbers number baskets m))
  numbers_longer [] l m = both_longer 0 0 0 ((writing (Int (pos l))).bytes slot) (just []) ((writing (Int (pos m))).bytes slot) (just []) refl (int_value slot (pos l) (pos m)) (just_longer 0 [] [] refl)
  numbers_longer (b ∷ bs) l m =
      let bytes = int_bytes (pos (number b)) slot in
      let long = length-bytes_high_first (width_of of) (cast_unsigned (width_in_bits of) (pos (number b))) in
      let rest = prefix_longer (amount (width_of of) (b ∷ bs)) (amount (width_of of) bs) bytes (all slot (numbers number [] l)) (all slot (numbers number bs m))
      (ap (λ (n : ℕ). n + amount (width_of of) bs) (sym long)) (numbers_longer bs l m) in
      subst (λ (w : Writing). WriteLonger (amount (width_of of) (b ∷ bs)) (all slot (numbers number [] l)) (both (w.bytes slot) (all slot (numbers number bs m)))) (sym (written_int (pos (number b)))) rest

  -- behind the byte 1
  array_longer : (baskets : List BasketAt) (l m : ℕ) → WriteLonger (amount (width_of of) baskets) (counted_bytes of (numbers number [] l)) (counted_bytes of (numbers number baskets m))
  array_longer baskets l m = by baskets (numbers_longer baskets l m)
    where
      front : (f g : Writer) → WriteLonger (amount (width_of of) baskets) f g → WriteLonger (amount (width_of of) baskets) (both (just (1 ∷ [])) f) (both (just (1 ∷ [])) g)
      front f g one = both_longer (amount (width_of of) baskets) 0 (amount (width_of of) baskets) (just (1 ∷ [])) f (just (1 ∷ [])) g (omega arith) (just_longer 0 (1 ∷ []) (1 ∷ []) refl) one

      by : (bs : List BasketAt) → WriteLonger (amount (width_of of) baskets) (all slot (numbers number [] l)) (all slot (numbers number bs m))
          → WriteLonger (amount (width_of of) baskets) (counted_bytes of (numbers number [] l)) (counted_bytes of (numbers number bs m))
      by [] one = front (all slot (numbers number [] l)) (all slot (numbers number [] m)) one
      by (b ∷ bs) one = front (all slot (numbers number [] l)) (all slot (numbers number (b ∷ bs) m)) one

  numbers_value : (counter : List ℕ) (baskets : List BasketAt) (l m : ℕ) → ValueLonger (amount (width_of of) baskets) (kinded (Counted of counter)) (basket_numbers number [] l) (basket_numbers number baskets m)
  unfolding basket_numbers
  numbers_value counter baskets l m =
      let empty = fold_List (writing_step tree_classes) (λ p. p.value) (Int (pos l) ∷ []) in
      let filled = fold_List (writing_step tree_classes) (λ p. p.value) (map (λ b. Int (pos (number b))) baskets ++ Int (pos m) ∷ []) in
      subst (λ (x : Writing × Writing). WriteLonger (amount (width_of of) baskets) (x.0.bytes (kinded (Counted of counter))) (x.1.bytes (kinded (Counted of counter)))) (λ i. (sym empty i, sym filled i)) (array_longer baskets l m)

-- ---- branches

module _ (known : LeafLabels) (label : ℕ) (b : Branch) where
  abbrev bare : Branch
  bare = bare_branch b.def

  plain_longer : (slot other : Slot) → WriteLonger (20 * length b.baskets) ((writing (plain_branch_object known label bare)).bytes slot) ((writing (plain_branch_object known label b)).bytes other)
  unfolding plain_branch_object tree_classes branch_members
  plain_longer slot other =
      let more = amount_is b.baskets in
      let ns : List ℕ = 0 ∷ 0 ∷ 0 ∷ 0 ∷ 0 ∷ 0 ∷ 0 ∷ 0 ∷ amount 4 b.baskets ∷ amount 8 b.baskets ∷ amount 8 b.baskets ∷ [] in
      let sum : total ns ≡ 20 * length b.baskets = omega (arith, more.0, more.1) in
      let leaves = array_object (leaf_pointers known label (branch_leaves b)) in
      let own = titled_object b.def.name (title_of_branch b.def.shape) in
      let offsets : Bool → ℤ = λ o. pos (if o then 1000 else 0) in
      let ps = branch_numbers bare ++ (branch_pointer_arrays known label bare ++ basket_arrays bare) in
      let qs = branch_numbers b ++ (branch_pointer_arrays known label b ++ basket_arrays b) in
      let each : FieldsLonger (described_fields branch_class) (writings tree_classes ps) (writings tree_classes qs) ns = (
        same_value (based (codes "TNamed") (pos 1)) own,
        (
          int_value (kinded (Plain I32)) (offsets bare.offsets) (offsets b.offsets),
          (
            int_value (kinded (Plain I32)) (pos 0) (pos (length b.baskets)),
            (
              int_value (kinded Counter) (pos 1) (pos (length b.baskets + 1)),
              (
                int_value (kinded (Plain I64)) (pos 0) (pos b.entries),
                (
                  same_value (kinded (Inline (codes "TObjArray"))) (array_object []),
                  (
                    same_value (kinded (Inline (codes "TObjArray"))) leaves,
                    (
                      same_value (kinded (Inline (codes "TObjArray"))) (array_object []),
                      (
                        numbers_value I32 (λ basket. basket.bytes) (codes "fMaxBaskets") b.baskets 0 0,
                        (
                          numbers_value I64 (λ basket. basket.first) (codes "fMaxBaskets") b.baskets 0 b.entries,
                          (
                            numbers_value I64 (λ basket. basket.seek) (codes "fMaxBaskets") b.baskets 0 0,
                            refl,
                          ),
                        ),
                      ),
                    ),
                  ),
                ),
              ),
            ),
          ),
        ),
      ) in
      object_value (20 * length b.baskets) (codes "TBranch") (pos 113) ps qs slot other
      (headed_longer (20 * length b.baskets) (pos 113) _ _ (subst (λ (n : ℕ). WriteLonger n (fields_bytes (described_fields branch_class) (writings tree_classes ps)) (fields_bytes (described_fields branch_class) (writings tree_classes qs))) sum
      (fields_longer (described_fields branch_class) (writings tree_classes ps) (writings tree_classes qs) ns each)))

  plain_class : (c : Branch) → (writing (plain_branch_object known label c)).class ≡ codes "TBranch"
  unfolding plain_branch_object
  plain_class c = object_class (codes "TBranch") (pos 113) (branch_numbers c ++ (branch_pointer_arrays known label c ++ basket_arrays c))

-- the class of a branch's object
abbrev class_of_shape : Shape → List ℕ
class_of_shape (Leaves leaves) = codes "TBranch"
class_of_shape (Class class) = codes "TBranchElement"

module _ (n : ℕ) (plain other : Value) (b c : Branch) (longer : (s : Slot) (t : Slot) → WriteLonger n ((writing plain).bytes s) ((writing other).bytes t))
    (class : (writing plain).class ≡ codes "TBranch") (same : (writing other).class ≡ codes "TBranch") where
  shaped_longer : (shape : Shape) (s t : Slot) → WriteLonger n ((writing (shaped_object plain b shape)).bytes s) ((writing (shaped_object other c shape)).bytes t)
  unfolding tree_classes object_branch_members
  shaped_longer (Leaves leaves) s t = longer s t
  shaped_longer (Class name) s t =
      let ps = part [] plain ∷ part (codes "fClassName") (Text name) ∷ part (codes "fClassVersion") (Int b.class_version) ∷ [] in
      let qs = part [] other ∷ part (codes "fClassName") (Text name) ∷ part (codes "fClassVersion") (Int c.class_version) ∷ [] in
      let fields = described_fields object_branch_class in
      let each : FieldsLonger fields (writings tree_classes ps) (writings tree_classes qs) (n ∷ 0 ∷ 0 ∷ []) = (
        longer (based (codes "TBranch") (pos 113)) (based (codes "TBranch") (pos 113)),
        (
          same_value (kinded Texted) (Text name),
          (
            int_value (kinded (Plain I32)) b.class_version c.class_version,
            refl,
          ),
        ),
      ) in
      let sum : total (n ∷ 0 ∷ 0 ∷ []) ≡ n = omega arith in
      object_value n (codes "TBranchElement") (pos 110) ps qs s t
      (headed_longer n (pos 110) _ _ (subst (λ (k : ℕ). WriteLonger k (fields_bytes fields (writings tree_classes ps)) (fields_bytes fields (writings tree_classes qs))) sum
      (fields_longer fields (writings tree_classes ps) (writings tree_classes qs) (n ∷ 0 ∷ 0 ∷ []) each)))

shaped_class : (plain : Value) (b : Branch) (shape : Shape) → (writing plain).class ≡ codes "TBranch" → (writing (shaped_object plain b shape)).class ≡ class_of_shape shape
shaped_class plain b (Leaves leaves) is = is
shaped_class plain b (Class name) is = object_class (codes "TBranchElement") (pos 110) (part [] plain ∷ part (codes "fClassName") (Text name) ∷ part (codes "fClassVersion") (Int b.class_version) ∷ [])

-- a pointer to a branch
branch_longer : (known : LeafLabels) (label : ℕ) (b : Branch) (slot : Slot)
    → ValueLonger (20 * length b.baskets) slot (Pointed label (branch_object known (label + 1) (bare_branch b.def))) (Pointed label (branch_object known (label + 1) b))
unfolding branch_object
branch_longer known label b slot =
    let bare = bare_branch b.def in
    let plain = plain_branch_object known (label + 1) bare in
    let other = plain_branch_object known (label + 1) b in
    let first = plain_class known (label + 1) b bare in
    let second = plain_class known (label + 1) b b in
    pointed_value (20 * length b.baskets) label (shaped_object plain bare b.def.shape) (shaped_object other b b.def.shape) slot
    (shaped_class plain bare b.def.shape first ∙ sym (shaped_class other b b.def.shape second))
    (shaped_longer (20 * length b.baskets) plain other bare b (plain_longer known (label + 1) b) first second b.def.shape
    (kinded (Inline (writing (shaped_object plain bare b.def.shape)).class)) (kinded (Inline (writing (shaped_object other b b.def.shape)).class)))

abbrev baskets_of : List Branch → ℕ
baskets_of bs = sum_by (λ b. length b.baskets) bs

abbrev bare_branches : List Branch → List Branch
bare_branches bs = map bare_branch (stated_defs bs)

branches_longer : (known : LeafLabels) (label : ℕ) (bs : List Branch)
    → WriteLonger (20 * baskets_of bs) (all any_pointer (map writing (branch_pointers known label (bare_branches bs)))) (all any_pointer (map writing (branch_pointers known label bs)))
unfolding branch_pointers
branches_longer known label [] = just_longer 0 [] [] refl
branches_longer known label (b ∷ bs) =
    let next = labels_behind known (label + 1) (branch_leaves b) in
    let more = label + branch_label_count b in
    both_longer (20 * baskets_of (b ∷ bs)) (20 * length b.baskets) (20 * baskets_of bs)
    ((writing (Pointed label (branch_object known (label + 1) (bare_branch b.def)))).bytes any_pointer) (all any_pointer (map writing (branch_pointers next more (bare_branches bs))))
    ((writing (Pointed label (branch_object known (label + 1) b))).bytes any_pointer) (all any_pointer (map writing (branch_pointers next more bs)))
    (omega (arith, sum_by-cons (λ (c : Branch). length c.baskets) b bs)) (branch_longer known label b any_pointer) (branches_longer next more bs)

-- ---- the tree

-- an array of pointers
array_value : (n : ℕ) (vs ws : List Value) (slot : Slot) → WriteLonger n (all any_pointer (map writing vs)) (all any_pointer (map writing ws)) → ValueLonger n slot (array_object vs) (array_object ws)
unfolding array_object
array_value n vs ws slot one =
    let base = (writing plain_object).bytes (based (codes "TObject") (pos 1)) in
    let name = (writing (Text [])).bytes (kinded Texted) in
    let lower = (writing (Int (pos 0))).bytes (kinded (Plain I32)) in
    let first = (writing (Items vs)).bytes (many any_pointer) in
    let second = (writing (Items ws)).bytes (many any_pointer) in
    let count = just (big_bytes 4 (writing (Items vs)).count) in
    let other = just (big_bytes 4 (writing (Items ws)).count) in
    let items : WriteLonger n first second = subst (λ (x : Writing × Writing). WriteLonger n (x.0.bytes (many any_pointer)) (x.1.bytes (many any_pointer)))
    (λ i. (sym (fold_List (writing_step tree_classes) (λ p. p.value) vs) i, sym (fold_List (writing_step tree_classes) (λ p. p.value) ws) i)) one in
    let counts : WriteLonger 0 count other = just_longer 0 _ _ (big_longer 4 (writing (Items vs)).count (writing (Items ws)).count) in
    let zero_more : n ≡ 0 + n = omega arith in
    let a = both_longer n 0 n lower first lower second zero_more (same_value (kinded (Plain I32)) (Int (pos 0))) items in
    let b = both_longer n 0 n count (both lower first) other (both lower second) zero_more counts a in
    let c = both_longer n 0 n name (both count (both lower first)) name (both other (both lower second)) zero_more (same_value (kinded Texted) (Text [])) b in
    let d = both_longer n 0 n base (both name (both count (both lower first))) base (both name (both other (both lower second))) zero_more (same_value (based (codes "TObject") (pos 1)) plain_object) c in
    object_value n (codes "TObjArray") (pos 3) (part [] plain_object ∷ part (codes "fName") (Text []) ∷ number_part (codes "fLowerBound") 0 ∷ part (codes "items") (Items vs) ∷ [])
    (part [] plain_object ∷ part (codes "fName") (Text []) ∷ number_part (codes "fLowerBound") 0 ∷ part (codes "items") (Items ws) ∷ []) slot slot
    (headed_longer n (pos 3) _ _ d)

backs_same : (label : ℕ) (bs : List Branch) → leaf_backs label (bare_branches bs) ≡ leaf_backs label bs
unfolding leaf_backs
backs_same label [] = refl
backs_same label (b ∷ bs) = ap (λ (vs : List Value). backs_from (label + 1) (branch_leaves b) ++ vs) (backs_same (label + branch_label_count b) bs)

tree_longer : (name : List ℕ) (head : TreeHead) (slot other : Slot)
    → WriteLonger (20 * basket_count head) ((writing (tree_value_of name (bare_head (stated_defs head.branches)))).bytes slot) ((writing (tree_value_of name head)).bytes other)
unfolding tree_value_of tree_classes tree_members
tree_longer name head slot other =
    let n = 20 * basket_count head in
    let bare = bare_head (stated_defs head.branches) in
    let ps = part [] (titled_object name []) ∷ number_part (codes "fEntries") 0 ∷ part (codes "fBranches") (array_object (branch_pointers [] 0 bare.branches)) ∷ part (codes "fLeaves") (array_object (leaf_backs 0 bare.branches)) ∷ [] in
    let qs = part [] (titled_object name []) ∷ number_part (codes "fEntries") head.entries ∷ part (codes "fBranches") (array_object (branch_pointers [] 0 head.branches)) ∷ part (codes "fLeaves") (array_object (leaf_backs 0 head.branches)) ∷ [] in
    let fields = described_fields tree_class in
    let inline : Slot = kinded (Inline (codes "TObjArray")) in
    let leaves : ValueLonger 0 inline (array_object (leaf_backs 0 bare.branches)) (array_object (leaf_backs 0 head.branches)) =
    subst (λ (vs : List Value). ValueLonger 0 inline (array_object vs) (array_object (leaf_backs 0 head.branches))) (sym (backs_same 0 head.branches)) (same_value inline (array_object (leaf_backs 0 head.branches))) in
    let each : FieldsLonger fields (writings tree_classes ps) (writings tree_classes qs) (0 ∷ 0 ∷ n ∷ 0 ∷ []) = (
      same_value (based (codes "TNamed") (pos 1)) (titled_object name []),
      (
        int_value (kinded (Plain I64)) (pos 0) (pos head.entries),
        (
          array_value n (branch_pointers [] 0 bare.branches) (branch_pointers [] 0 head.branches) inline (branches_longer [] 0 head.branches),
          (leaves, refl),
        ),
      ),
    ) in
    let sum : total (0 ∷ 0 ∷ n ∷ 0 ∷ []) ≡ n = omega arith in
    object_value n (codes "TTree") (pos 120) ps qs slot other
    (headed_longer n (pos 120) _ _ (subst (λ (k : ℕ). WriteLonger k (fields_bytes fields (writings tree_classes ps)) (fields_bytes fields (writings tree_classes qs))) sum
    (fields_longer fields (writings tree_classes ps) (writings tree_classes qs) (0 ∷ 0 ∷ n ∷ 0 ∷ []) each)))

pub header_length_is_known : HeaderLengthIsKnown
unfolding header_size
header_length_is_known start name head =
    let bare = bare_head (stated_defs head.branches) in
    let first = kinded (Inline (writing (tree_value_of name bare)).class) in
    let second = kinded (Inline (writing (tree_value_of name head)).class) in
    (tree_longer name head first second 0 start no_words no_words (record { left = tt; right = tt; same = λ c. refl })).longer
