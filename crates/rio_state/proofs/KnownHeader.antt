-- The classes in a header are those of trees and built-in ones: with more classes it is written as with those of trees alone, and all
-- of it is read.
use Rattle.std.proofs.Common.{◌≡◌, ℕ, ◌+◌, ℤ, pos, Bool, true, false, cond, not, ◌&&◌, ◌||◌, codes, List, [], ◌∷◌, ◌++◌, map, Option, Some, None, refl, sym, ap, ◌∙◌}
use Rattle.std.proofs.lemmas.Bool.{and_from, and_parts}
use Rattle.std.specs.{Prelude.{is_some, if◌then◌else◌}, List.{find, list_all}, Map.{lookup}, Option.{option_map}, Ordering.{int_eq}, Str.{bytes_eq}}
use Rattle.rio_format.specs.{Writer.{Writer}, Classes.{find_in}, declared.class.ClassDef.{ClassDef}, declared.value.Value.{Value, Int, Bool as Truth, Text, List as Items, Object, Pointed, Null, Back, TheOpen.{Value-F}}}
use Rattle.rio_leaf.specs.{declared.branch.Shape.{Shape, TheVariants.{Leaves, Class}}, declared.leaf.Leaf.{Leaf}, declared.leaf.Dim.{Dim, TheVariants.{One, Fixed, Counted}}}
use Rattle.rio_format.specs.declared.value.Value.TheOpen as layer
use Rattle.rio_format.specs.{declared.value.Value.TheFolds.{fold-Value, fold-Part, fold_out-Part}, declared.value.Part.{Part}, declared.form.Form.{Form, TheVariants.{Bare as bare, Numbers as numbers, Headed as with_header}}}
use Rattle.rio_format.specs.{Bodies.{Body, built_in, described, form_of, part}, Growth.{all_read_step, is_all_read}, Slots.{declared_body, is_headed}, TreeClasses.{tree_classes}}
use Rattle.rio_format.specs.{WrittenList.{array_object, number_part, plain_object, titled_object}, Written.{Writing, body_bytes, form_bytes, headed_bytes, writing_of, writing_step}}
use Rattle.rio_format.proofs.{AllRead.{items_layer, parts_layer, pointed_layer}, ValueCases.{Each, by_cases, fold_Int, fold_Bits32, fold_Bits64, fold_Bool, fold_Text, fold_List, fold_Object, fold_Pointed, fold_Null, fold_Back, fold_Opaque}}
use Rattle.rio_format.proofs.{WrittenLists.{writings}, WrittenValues.{write_object}}
use Rattle.rio_tree.specs.{declared.basket_at.BasketAt.{BasketAt}, declared.head.Branch.{Branch}, declared.head.TreeHead.{TreeHead}, Header.{branch_leaves}}
use Rattle.rio_tree.specs.WrittenTree.{LeafLabels, back_or_null, backs_from, basket_arrays, basket_numbers, branch_label_count, branch_numbers, branch_object, branch_pointer_arrays, branch_pointers, class_of_letter, counter_pointer, is_letter_among, labels_behind, leaf_backs, leaf_object, leaf_pointers, plain_branch_object, plain_leaf_object, shaped_object, title_of_branch, tree_value_of}

-- ---- values of classes of trees

-- its objects have no header, or the classes of trees say what stands behind it
abbrev pub is_tree_object : List ℕ → ℤ → Bool
is_tree_object class version = not (is_headed (form_of class)) || is_some (declared_body tree_classes class version)

abbrev pub known_step : Value-F Bool Bool → Bool
known_step (layer.Int z) = true
known_step (layer.Bits32 n) = true
known_step (layer.Bits64 n) = true
known_step (layer.Bool b) = true
known_step (layer.Text t) = true
known_step (layer.List items) = list_all (λ b. b) items
known_step (layer.Object class version parts) = is_tree_object class version && list_all (λ b. b) parts
known_step (layer.Pointed label object) = object
known_step layer.Null = true
known_step (layer.Back label) = true
known_step (layer.Opaque class len) = false

pub is_known : Value → Bool
is_known = fold-Value Bool Bool known_step (λ p. p.value)

abbrev pub Known : Value → Type 0
Known v = is_known v ≡ true

known_part : (p : Part) → fold-Part Bool Bool known_step (λ p. p.value) p ≡ is_known p.value
unfolding is_known
known_part p = fold_out-Part Bool Bool known_step (λ p. p.value) p

known_items : (vs : List Value) → is_known (Items vs) ≡ list_all (λ b. b) (map is_known vs)
unfolding is_known
known_items vs = fold_List known_step (λ p. p.value) vs

known_parts : (class : List ℕ) (version : ℤ) (ps : List Part) → is_known (Object class version ps) ≡ (is_tree_object class version && list_all (λ b. b) (map (λ p. is_known p.value) ps))
unfolding is_known
known_parts class version ps = fold_Object known_step (λ p. p.value) class version ps ∙ ap (λ (g : Part → Bool). is_tree_object class version && list_all (λ b. b) (map g ps)) (λ i p. known_part p i)

known_pointed : (label : ℕ) (object : Value) → is_known (Pointed label object) ≡ is_known object
unfolding is_known
known_pointed label object = fold_Pointed known_step (λ p. p.value) label object

all_true : {X : Type 0} (test : X → Bool) (xs : List X) → Each (λ x. test x ≡ true) xs → list_all (λ b. b) (map test xs) ≡ true
all_true test [] each = refl
all_true test (x ∷ xs) each = and_from _ _ each.0 (all_true test xs each.1)

-- ---- what is written

found_before : (test : ClassDef → Bool) (classes more : List ClassDef) (c : ClassDef) → find test classes ≡ Some c → find test (classes ++ more) ≡ Some c
found_before test [] more c e = absurd cc
found_before test (d ∷ ds) more c e = by (test d) e (found_before test ds more c)
  where
    by : (b : Bool) → cond b (Some d) (find test ds) ≡ Some c → (find test ds ≡ Some c → find test (ds ++ more) ≡ Some c) → cond b (Some d) (find test (ds ++ more)) ≡ Some c
    by true f later = f
    by false f later = later f

module _ (more : List ClassDef) where
  abbrev pub all_classes : List ClassDef
  all_classes = tree_classes ++ more

  abbrev first_body : Option Body → Option ClassDef → Option Body
  first_body own found = elim own as (λ z. Option Body) [ None ↦ option_map described found | Some y ↦ Some y ]

  same_body : (class : List ℕ) (version : ℤ) → is_some (declared_body tree_classes class version) ≡ true → declared_body all_classes class version ≡ declared_body tree_classes class version
  same_body class version some = by (built_in class version) (find_in tree_classes class version) refl some
    where
      by : (own : Option Body) (o : Option ClassDef) → find_in tree_classes class version ≡ o → is_some (first_body own o) ≡ true → first_body own (find_in all_classes class version) ≡ first_body own (find_in tree_classes class version)
      by (Some x) o is some = refl
      by None None is some = absurd cc
      by None (Some c) is some = ap (option_map described) (found_before (λ d. bytes_eq d.name class && int_eq d.version version) tree_classes more c is ∙ sym is)

  same_form : (class : List ℕ) (version : ℤ) (f : Form) (ws : List Writing) → (not (is_headed f) || is_some (declared_body tree_classes class version)) ≡ true → form_bytes all_classes class version f ws ≡ form_bytes tree_classes class version f ws
  same_form class version bare ws e = refl
  same_form class version (numbers of) ws e = refl
  same_form class version with_header ws e = ap (λ (x : Option Body). headed_bytes version (body_bytes x ws)) (same_body class version e)

  abbrev pub Same : Value → Type 0
  Same v = Known v → writing_of all_classes v ≡ writing_of tree_classes v

  each_same : (vs : List Value) → Each Same vs → list_all (λ b. b) (map is_known vs) ≡ true → map (writing_of all_classes) vs ≡ map (writing_of tree_classes) vs
  each_same [] known e = refl
  each_same (v ∷ vs) known e =
      let parts = and_parts (is_known v) (list_all (λ b. b) (map is_known vs)) e in
      let here = known.0 parts.0 in
      let rest = each_same vs known.1 parts.1 in
      λ i. here i ∷ rest i

  parts_same : (ps : List Part) → Each (λ p. Same p.value) ps → list_all (λ b. b) (map (λ p. is_known p.value) ps) ≡ true → writings all_classes ps ≡ writings tree_classes ps
  parts_same [] known e = refl
  parts_same (p ∷ ps) known e =
      let parts = and_parts (is_known p.value) (list_all (λ b. b) (map (λ p. is_known p.value) ps)) e in
      let here = known.0 parts.0 in
      let rest = parts_same ps known.1 parts.1 in
      λ i. here i ∷ rest i

  pub same_writing : (v : Value) → Same v
  same_writing = by_cases Same (record {
    int = λ z e. fold_Int (writing_step all_classes) (λ p. p.value) z ∙ sym (fold_Int (writing_step tree_classes) (λ p. p.value) z);
    bits32 = λ n e. fold_Bits32 (writing_step all_classes) (λ p. p.value) n ∙ sym (fold_Bits32 (writing_step tree_classes) (λ p. p.value) n);
    bits64 = λ n e. fold_Bits64 (writing_step all_classes) (λ p. p.value) n ∙ sym (fold_Bits64 (writing_step tree_classes) (λ p. p.value) n);
    truth = λ b e. fold_Bool (writing_step all_classes) (λ p. p.value) b ∙ sym (fold_Bool (writing_step tree_classes) (λ p. p.value) b);
    text = λ t e. fold_Text (writing_step all_classes) (λ p. p.value) t ∙ sym (fold_Text (writing_step tree_classes) (λ p. p.value) t);
    list = λ vs known e. fold_List (writing_step all_classes) (λ p. p.value) vs
        ∙ ap (λ (ws : List Writing). writing_step tree_classes (layer.List ws)) (each_same vs known (sym (known_items vs) ∙ e)) ∙ sym (fold_List (writing_step tree_classes) (λ p. p.value) vs);
    object = λ class version ps known e.
        let parts = and_parts (is_tree_object class version) (list_all (λ b. b) (map (λ p. is_known p.value) ps)) (sym (known_parts class version ps) ∙ e) in
        let writes = parts_same ps known parts.1 in
        let form = same_form class version (form_of class) (writings tree_classes ps) parts.0 in
        write_object all_classes class version ps
        ∙ ap (λ (ws : List Writing). writing_step all_classes (layer.Object class version ws)) writes
        ∙ ap (λ (f : Writer). let w : Writing = record { class = class; count = 0; bytes = λ slot. f } in w) form
        ∙ sym (write_object tree_classes class version ps);
    pointed = λ label object known e. fold_Pointed (writing_step all_classes) (λ p. p.value) label object
        ∙ ap (λ (w : Writing). writing_step tree_classes (layer.Pointed label w)) (known (sym (known_pointed label object) ∙ e)) ∙ sym (fold_Pointed (writing_step tree_classes) (λ p. p.value) label object);
    null = λ e. fold_Null (writing_step all_classes) (λ p. p.value) ∙ sym (fold_Null (writing_step tree_classes) (λ p. p.value));
    back = λ label e. fold_Back (writing_step all_classes) (λ p. p.value) label ∙ sym (fold_Back (writing_step tree_classes) (λ p. p.value) label);
    opaque = λ class len e. fold_Opaque (writing_step all_classes) (λ p. p.value) class len ∙ sym (fold_Opaque (writing_step tree_classes) (λ p. p.value) class len);
  })

-- ---- what is read

abbrev pub ReadIfKnown : Value → Type 0
ReadIfKnown v = Known v → is_all_read v ≡ true

each_read : (vs : List Value) → Each ReadIfKnown vs → list_all (λ b. b) (map is_known vs) ≡ true → list_all (λ b. b) (map is_all_read vs) ≡ true
each_read [] known e = refl
each_read (v ∷ vs) known e = let parts = and_parts (is_known v) (list_all (λ b. b) (map is_known vs)) e in and_from _ _ (known.0 parts.0) (each_read vs known.1 parts.1)

parts_all_read : (ps : List Part) → Each (λ p. ReadIfKnown p.value) ps → list_all (λ b. b) (map (λ p. is_known p.value) ps) ≡ true → list_all (λ b. b) (map (λ p. is_all_read p.value) ps) ≡ true
parts_all_read [] known e = refl
parts_all_read (p ∷ ps) known e =
    let parts = and_parts (is_known p.value) (list_all (λ b. b) (map (λ p. is_known p.value) ps)) e in and_from _ _ (known.0 parts.0) (parts_all_read ps known.1 parts.1)

pub all_read : (v : Value) → ReadIfKnown v
unfolding is_known
all_read = by_cases ReadIfKnown (record {
  int = λ z e. fold_Int all_read_step (λ p. p.value) z;
  bits32 = λ n e. fold_Bits32 all_read_step (λ p. p.value) n;
  bits64 = λ n e. fold_Bits64 all_read_step (λ p. p.value) n;
  truth = λ b e. fold_Bool all_read_step (λ p. p.value) b;
  text = λ t e. fold_Text all_read_step (λ p. p.value) t;
  list = λ vs known e. items_layer vs ∙ each_read vs known (sym (known_items vs) ∙ e);
  object = λ class version ps known e.
      let parts = and_parts (is_tree_object class version) (list_all (λ b. b) (map (λ p. is_known p.value) ps)) (sym (known_parts class version ps) ∙ e) in
      parts_layer class version ps ∙ parts_all_read ps known parts.1;
  pointed = λ label object known e. pointed_layer label object ∙ known (sym (known_pointed label object) ∙ e);
  null = λ e. fold_Null all_read_step (λ p. p.value);
  back = λ label e. fold_Back all_read_step (λ p. p.value) label;
  opaque = λ class len e. let f : false ≡ true = sym (fold_Opaque known_step (λ p. p.value) class len) ∙ e in absurd cc;
})

-- ---- a header

module _ where
  int_known : (z : ℤ) → Known (Int z)
  unfolding is_known
  int_known z = fold_Int known_step (λ p. p.value) z

  text_known : (t : List ℕ) → Known (Text t)
  unfolding is_known
  text_known t = fold_Text known_step (λ p. p.value) t

  truth_known : (b : Bool) → Known (Truth b)
  unfolding is_known
  truth_known b = fold_Bool known_step (λ p. p.value) b

  null_known : Known Null
  unfolding is_known
  null_known = fold_Null known_step (λ p. p.value)

  back_known : (label : ℕ) → Known (Back label)
  unfolding is_known
  back_known label = fold_Back known_step (λ p. p.value) label

  object_known : (class : List ℕ) (version : ℤ) (ps : List Part) → is_tree_object class version ≡ true → Each (λ p. Known p.value) ps → Known (Object class version ps)
  object_known class version ps is each = known_parts class version ps ∙ and_from _ _ is (all_true (λ p. is_known p.value) ps each)

  list_known : (vs : List Value) → Each Known vs → Known (Items vs)
  list_known vs each = known_items vs ∙ all_true is_known vs each

  pointer_known : (label : ℕ) (object : Value) → Known object → Known (Pointed label object)
  pointer_known label object is = known_pointed label object ∙ is

  plain_known : Known plain_object
  unfolding plain_object tree_classes
  plain_known = object_known (codes "TObject") (pos 1) (number_part (codes "fUniqueID") 0 ∷ number_part (codes "fBits") 0 ∷ []) refl (int_known (pos 0), (int_known (pos 0), tt))

  titled_known : (name title : List ℕ) → Known (titled_object name title)
  unfolding titled_object tree_classes
  titled_known name title =
      object_known (codes "TNamed") (pos 1) (part [] plain_object ∷ part (codes "fName") (Text name) ∷ part (codes "fTitle") (Text title) ∷ []) refl (plain_known, (text_known name, (text_known title, tt)))

  array_known : (vs : List Value) → Each Known vs → Known (array_object vs)
  unfolding array_object tree_classes
  array_known vs each =
      object_known (codes "TObjArray") (pos 3) (part [] plain_object ∷ part (codes "fName") (Text []) ∷ number_part (codes "fLowerBound") 0 ∷ part (codes "items") (Items vs) ∷ []) refl
      (plain_known, (text_known [], (int_known (pos 0), (list_known vs each, tt))))

  -- leaves
  found_known : (o : Option ℕ) → Known (back_or_null o)
  found_known None = null_known
  found_known (Some label) = back_known label

  counter_known : (known : LeafLabels) (dim : Dim) → Known (counter_pointer known dim)
  counter_known known One = null_known
  counter_known known (Fixed count) = null_known
  counter_known known (Counted counter times) = found_known (lookup (bytes_eq counter) known)

  letter_known : (letter : ℕ) → is_tree_object (class_of_letter letter) (pos 101) ≡ true
  unfolding tree_classes
  letter_known letter =
      by (is_letter_among (codes "Bb") letter) (is_letter_among (codes "Ss") letter) (is_letter_among (codes "Ii") letter) (is_letter_among (codes "Ll") letter) (is_letter_among (codes "F") letter) (is_letter_among (codes "D") letter) (is_letter_among (codes "O") letter)
    where
      by : (a b c d e f g : Bool) → is_tree_object (if a then codes "TLeafB" else if b then codes "TLeafS" else if c then codes "TLeafI" else if d then codes "TLeafL" else if e then codes "TLeafF" else if f then codes "TLeafD" else if g then codes "TLeafO" else codes "TLeafC") (pos 101) ≡ true
      by true b c d e f g = refl
      by false true c d e f g = refl
      by false false true d e f g = refl
      by false false false true e f g = refl
      by false false false false true f g = refl
      by false false false false false true g = refl
      by false false false false false false true = refl
      by false false false false false false false = refl

  plain_leaf_known : (known : LeafLabels) (leaf : Leaf) → Known (plain_leaf_object known leaf)
  unfolding plain_leaf_object tree_classes
  plain_leaf_known known leaf = object_known (codes "TLeaf") (pos 102) _ refl (titled_known _ _, (int_known _, (int_known _, (truth_known _, (counter_known known leaf.dim, tt)))))

  leaf_known : (known : LeafLabels) (leaf : Leaf) → Known (leaf_object known leaf)
  unfolding leaf_object
  leaf_known known leaf = object_known (class_of_letter leaf.letter) (pos 101) (part [] (plain_leaf_object known leaf) ∷ []) (letter_known leaf.letter) (plain_leaf_known known leaf, tt)

  leaves_known : (known : LeafLabels) (label : ℕ) (leaves : List Leaf) → Each Known (leaf_pointers known label leaves)
  unfolding leaf_pointers
  leaves_known known label [] = tt
  leaves_known known label (leaf ∷ leaves) = (pointer_known label (leaf_object known leaf) (leaf_known known leaf), leaves_known ((leaf.name, label) ∷ known) (label + 1) leaves)

  -- branches
  numbers_known : (number : BasketAt → ℕ) (baskets : List BasketAt) (last : ℕ) → Each Known (map (λ b. Int (pos (number b))) baskets ++ Int (pos last) ∷ [])
  numbers_known number [] last = (int_known (pos last), tt)
  numbers_known number (b ∷ bs) last = (int_known (pos (number b)), numbers_known number bs last)

  basket_known : (number : BasketAt → ℕ) (baskets : List BasketAt) (last : ℕ) → Known (basket_numbers number baskets last)
  unfolding basket_numbers
  basket_known number baskets last = list_known _ (numbers_known number baskets last)

  branch_plain_known : (known : LeafLabels) (label : ℕ) (b : Branch) → Known (plain_branch_object known label b)
  unfolding plain_branch_object tree_classes
  branch_plain_known known label b =
      object_known (codes "TBranch") (pos 113) (branch_numbers b ++ (branch_pointer_arrays known label b ++ basket_arrays b)) refl (
        titled_known b.def.name (title_of_branch b.def.shape),
        (
          int_known _,
          (
            int_known _,
            (
              int_known _,
              (
                int_known _,
                (
                  array_known [] tt,
                  (
                    array_known (leaf_pointers known label (branch_leaves b)) (leaves_known known label (branch_leaves b)),
                    (
                      array_known [] tt,
                      (basket_known _ b.baskets 0, (basket_known _ b.baskets b.entries, (basket_known _ b.baskets 0, tt))),
                    ),
                  ),
                ),
              ),
            ),
          ),
        ),
      )

  shaped_known : (plain : Value) (b : Branch) (shape : Shape) → Known plain → Known (shaped_object plain b shape)
  unfolding tree_classes
  shaped_known plain b (Leaves leaves) is = is
  shaped_known plain b (Class class) is =
      object_known (codes "TBranchElement") (pos 110) (part [] plain ∷ part (codes "fClassName") (Text class) ∷ part (codes "fClassVersion") (Int b.class_version) ∷ []) refl (is, (text_known class, (int_known b.class_version, tt)))

  branches_known : (known : LeafLabels) (label : ℕ) (bs : List Branch) → Each Known (branch_pointers known label bs)
  unfolding branch_pointers branch_object
  branches_known known label [] = tt
  branches_known known label (b ∷ bs) = (
    pointer_known label (branch_object known (label + 1) b) (shaped_known (plain_branch_object known (label + 1) b) b b.def.shape (branch_plain_known known (label + 1) b)),
    branches_known (labels_behind known (label + 1) (branch_leaves b)) (label + branch_label_count b) bs,
  )

  each_two : (vs ws : List Value) → Each Known vs → Each Known ws → Each Known (vs ++ ws)
  each_two [] ws one two = two
  each_two (v ∷ vs) ws one two = (one.0, each_two vs ws one.1 two)

  backs_known : (label : ℕ) (leaves : List Leaf) → Each Known (backs_from label leaves)
  unfolding backs_from
  backs_known label [] = tt
  backs_known label (leaf ∷ leaves) = (back_known label, backs_known (label + 1) leaves)

  all_backs_known : (label : ℕ) (bs : List Branch) → Each Known (leaf_backs label bs)
  unfolding leaf_backs
  all_backs_known label [] = tt
  all_backs_known label (b ∷ bs) = each_two (backs_from (label + 1) (branch_leaves b)) (leaf_backs (label + branch_label_count b) bs) (backs_known (label + 1) (branch_leaves b)) (all_backs_known (label + branch_label_count b) bs)

  pub header_known : (name : List ℕ) (head : TreeHead) → Known (tree_value_of name head)
  unfolding tree_value_of tree_classes
  header_known name head =
      object_known (codes "TTree") (pos 120)
      (part [] (titled_object name []) ∷ number_part (codes "fEntries") head.entries ∷ part (codes "fBranches") (array_object (branch_pointers [] 0 head.branches)) ∷ part (codes "fLeaves") (array_object (leaf_backs 0 head.branches)) ∷ []) refl
      (titled_known name [], (int_known _, (array_known (branch_pointers [] 0 head.branches) (branches_known [] 0 head.branches), (array_known (leaf_backs 0 head.branches) (all_backs_known 0 head.branches), tt))))
