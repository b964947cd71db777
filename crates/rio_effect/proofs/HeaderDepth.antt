-- A written header isn't deep, and the versions of its objects can be written.
use Rattle.std.proofs.{Common.{◌≡◌, ◌≤◌, ◌∙◌, ℕ, ◌+◌, ℤ, pos, List, [], ◌∷◌, ◌++◌, map, codes, Bool, true, ◌&&◌, Option, Some, None, refl, ap, arith}, lemmas.Bool.{and_from}}
use Rattle.std.specs.{Prelude.{int_le}, List.{list_all}, Map.{lookup}, Str.{bytes_eq}}
use Rattle.rio_leaf.specs.{declared.branch.Shape.{Shape, TheVariants.{Leaves, Class}}, declared.leaf.Dim.{Dim, TheVariants.{One, Fixed, Counted}}, declared.leaf.Leaf.{Leaf}}
use Rattle.rio_format.specs.{Depth.{depth_of, depth_step, greatest}, declared.value.Part.{Part}, declared.value.Value.{Value, Int, Bool as Truth, Text, List as Items, Object, Pointed, Null, Back, TheFolds.{fold-Part, fold_out-Part}}}
use Rattle.rio_format.specs.{Laws.{has_versions, versions_step}, WrittenList.{array_object, plain_object, titled_object}}
use Rattle.rio_format.proofs.ValueCases.{fold_Back, fold_Bool, fold_Int, fold_List, fold_Null, fold_Object, fold_Pointed, fold_Text}
use Rattle.rio_tree.specs.{Header.{branch_leaves}, declared.basket_at.BasketAt.{BasketAt}, declared.head.Branch.{Branch}, declared.head.TreeHead.{TreeHead}}
use Rattle.rio_tree.specs.WrittenTree.{LeafLabels, back_or_null, backs_from, basket_arrays, basket_numbers, branch_label_count, branch_numbers, branch_object, branch_pointer_arrays, branch_pointers, counter_pointer, labels_behind, leaf_backs, leaf_object, leaf_pointers, plain_branch_object, plain_leaf_object, shaped_object, tree_value_of}

-- at most so deep, with versions that can be written
abbrev pub IsWithin : ℕ → Value → Type 0
IsWithin n v = (depth_of v ≤ n) × (has_versions v ≡ true)

abbrev PartsWithin : ℕ → List Part → Type 0
PartsWithin n [] = Unit {0}
PartsWithin n (p ∷ ps) = IsWithin n p.value × PartsWithin n ps

abbrev ItemsWithin : ℕ → List Value → Type 0
ItemsWithin n [] = Unit {0}
ItemsWithin n (v ∷ vs) = IsWithin n v × ItemsWithin n vs

deeper : (n k : ℕ) (v : Value) → n ≤ k → IsWithin n v → IsWithin k v
deeper n k v le w = (omega (arith, le, w.0), w.1)

more_parts : (n : ℕ) (ps qs : List Part) → PartsWithin n ps → PartsWithin n qs → PartsWithin n (ps ++ qs)
more_parts n [] qs w more = more
more_parts n (p ∷ ps) qs w more = (w.0, more_parts n ps qs w.1 more)

more_items : (n : ℕ) (vs ws : List Value) → ItemsWithin n vs → ItemsWithin n ws → ItemsWithin n (vs ++ ws)
more_items n [] ws w more = more
more_items n (v ∷ vs) ws w more = (w.0, more_items n vs ws w.1 more)

-- ---- values

no_deeper : (n : ℕ) (v : Value) → depth_of v ≡ 0 → has_versions v ≡ true → IsWithin n v
no_deeper n v d h = (omega (arith, d), h)

int : (n : ℕ) (z : ℤ) → IsWithin n (Int z)
int n z = no_deeper n (Int z) (fold_Int depth_step (λ p. p.value) z) (fold_Int versions_step (λ p. p.value) z)

text : (n : ℕ) (t : List ℕ) → IsWithin n (Text t)
text n t = no_deeper n (Text t) (fold_Text depth_step (λ p. p.value) t) (fold_Text versions_step (λ p. p.value) t)

truth : (n : ℕ) (b : Bool) → IsWithin n (Truth b)
truth n b = no_deeper n (Truth b) (fold_Bool depth_step (λ p. p.value) b) (fold_Bool versions_step (λ p. p.value) b)

null : (n : ℕ) → IsWithin n Null
null n = no_deeper n Null (fold_Null depth_step (λ p. p.value)) (fold_Null versions_step (λ p. p.value))

back : (n label : ℕ) → IsWithin n (Back label)
back n label = no_deeper n (Back label) (fold_Back depth_step (λ p. p.value) label) (fold_Back versions_step (λ p. p.value) label)

items_depth : (n : ℕ) (vs : List Value) → ItemsWithin n vs → greatest (map depth_of vs) ≤ n
items_depth n [] w = omega arith
items_depth n (v ∷ vs) w = omega (arith, w.0.0, items_depth n vs w.1)

items_versions : (n : ℕ) (vs : List Value) → ItemsWithin n vs → list_all (λ b. b) (map has_versions vs) ≡ true
items_versions n [] w = refl
items_versions n (v ∷ vs) w = and_from _ _ w.0.1 (items_versions n vs w.1)

items : (n : ℕ) (vs : List Value) → ItemsWithin n vs → IsWithin n (Items vs)
items n vs w =
    let d : depth_of (Items vs) ≡ greatest (map depth_of vs) = fold_List depth_step (λ p. p.value) vs in
    let h : has_versions (Items vs) ≡ list_all (λ b. b) (map has_versions vs) = fold_List versions_step (λ p. p.value) vs in
    (omega (arith, d, items_depth n vs w), h ∙ items_versions n vs w)

pointed : (n label : ℕ) (v : Value) → IsWithin n v → IsWithin n (Pointed label v)
pointed n label v w =
    let d : depth_of (Pointed label v) ≡ depth_of v = fold_Pointed depth_step (λ p. p.value) label v in
    let h : has_versions (Pointed label v) ≡ has_versions v = fold_Pointed versions_step (λ p. p.value) label v in
    (omega (arith, d, w.0), h ∙ w.1)

-- ---- objects

part_depth : (p : Part) → fold-Part ℕ ℕ depth_step (λ p. p.value) p ≡ depth_of p.value
part_depth p = fold_out-Part ℕ ℕ depth_step (λ p. p.value) p

part_versions : (p : Part) → fold-Part Bool Bool versions_step (λ p. p.value) p ≡ has_versions p.value
part_versions p = fold_out-Part Bool Bool versions_step (λ p. p.value) p

parts_depth : (n : ℕ) (ps : List Part) → PartsWithin n ps → greatest (map (λ (p : Part). depth_of p.value) ps) ≤ n
parts_depth n [] w = omega arith
parts_depth n (p ∷ ps) w = omega (arith, w.0.0, parts_depth n ps w.1)

parts_versions : (n : ℕ) (ps : List Part) → PartsWithin n ps → list_all (λ b. b) (map (λ (p : Part). has_versions p.value) ps) ≡ true
parts_versions n [] w = refl
parts_versions n (p ∷ ps) w = and_from _ _ w.0.1 (parts_versions n ps w.1)

object : (n : ℕ) (class : List ℕ) (version : ℤ) (ps : List Part) → (int_le (pos 1) version && int_le version (pos 65535)) ≡ true → PartsWithin n ps → IsWithin (n + 1) (Object class version ps)
object n class version ps stated w =
    let d : depth_of (Object class version ps) ≡ greatest (map (λ (p : Part). depth_of p.value) ps) + 1
    = fold_Object depth_step (λ p. p.value) class version ps ∙ ap (λ (g : Part → ℕ). greatest (map g ps) + 1) (λ i p. part_depth p i) in
    let h : has_versions (Object class version ps) ≡ (int_le (pos 1) version && int_le version (pos 65535) && list_all (λ b. b) (map (λ (p : Part). has_versions p.value) ps))
    = fold_Object versions_step (λ p. p.value) class version ps ∙ ap (λ (g : Part → Bool). int_le (pos 1) version && int_le version (pos 65535) && list_all (λ b. b) (map g ps)) (λ i p. part_versions p i) in
    (omega (arith, d, parts_depth n ps w), h ∙ and_from _ _ stated (parts_versions n ps w))

plain_within : IsWithin 1 plain_object
unfolding plain_object
plain_within = object 0 (codes "TObject") (pos 1) _ refl (int 0 (pos 0), (int 0 (pos 0), tt))

titled_within : (name title : List ℕ) → IsWithin 2 (titled_object name title)
unfolding titled_object
titled_within name title = object 1 (codes "TNamed") (pos 1) _ refl (plain_within, (text 1 name, (text 1 title, tt)))

array_within : (n : ℕ) (vs : List Value) → 1 ≤ n → ItemsWithin n vs → IsWithin (n + 1) (array_object vs)
unfolding array_object
array_within n vs some w = object n (codes "TObjArray") (pos 3) _ refl (deeper 1 n plain_object some plain_within, (text n [], (int n (pos 0), (items n vs w, tt))))

-- ---- leaves

back_within : (n : ℕ) (o : Option ℕ) → IsWithin n (back_or_null o)
back_within n None = null n
back_within n (Some label) = back n label

counter_within : (n : ℕ) (known : LeafLabels) (d : Dim) → IsWithin n (counter_pointer known d)
counter_within n known One = null n
counter_within n known (Fixed count) = null n
counter_within n known (Counted counter times) = back_within n (lookup (bytes_eq counter) known)

leaf_within : (known : LeafLabels) (leaf : Leaf) → IsWithin 4 (leaf_object known leaf)
unfolding leaf_object plain_leaf_object
leaf_within known leaf =
    object 3 _ (pos 101) _ refl (object 2 (codes "TLeaf") (pos 102) _ refl (titled_within _ _, (int 2 _, (int 2 _, (truth 2 _, (counter_within 2 known leaf.dim, tt))))), tt)

leaves_within : (known : LeafLabels) (label : ℕ) (leaves : List Leaf) → ItemsWithin 4 (leaf_pointers known label leaves)
unfolding leaf_pointers
leaves_within known label [] = tt
leaves_within known label (leaf ∷ leaves) = (pointed 4 label _ (leaf_within known leaf), leaves_within ((leaf.name, label) ∷ known) (label + 1) leaves)

-- ---- branches

numbers_within : (number : BasketAt → ℕ) (baskets : List BasketAt) (last : ℕ) → IsWithin 5 (basket_numbers number baskets last)
unfolding basket_numbers
numbers_within number baskets last = items 5 _ (more_items 5 (map (λ b. Int (pos (number b))) baskets) _ (each baskets) (int 5 (pos last), tt))
  where
    each : (bs : List BasketAt) → ItemsWithin 5 (map (λ b. Int (pos (number b))) bs)
    each [] = tt
    each (b ∷ bs) = (int 5 _, each bs)

said_within : (b : Branch) → PartsWithin 5 (branch_numbers b)
said_within b = (deeper 2 5 _ (omega arith) (titled_within _ _), (int 5 _, (int 5 _, (int 5 _, (int 5 _, tt)))))

pointers_within : (known : LeafLabels) (label : ℕ) (b : Branch) → PartsWithin 5 (branch_pointer_arrays known label b)
pointers_within known label b =
    (array_within 4 [] (omega arith) tt, (array_within 4 _ (omega arith) (leaves_within known label (branch_leaves b)), (array_within 4 [] (omega arith) tt, tt)))

places_within : (b : Branch) → PartsWithin 5 (basket_arrays b)
places_within b =
    (numbers_within (λ basket. basket.bytes) b.baskets 0, (numbers_within (λ basket. basket.first) b.baskets b.entries, (numbers_within (λ basket. basket.seek) b.baskets 0, tt)))

plain_branch_within : (known : LeafLabels) (label : ℕ) (b : Branch) → IsWithin 6 (plain_branch_object known label b)
unfolding plain_branch_object
plain_branch_within known label b =
    object 5 (codes "TBranch") (pos 113) (branch_numbers b ++ (branch_pointer_arrays known label b ++ basket_arrays b)) refl
    (more_parts 5 (branch_numbers b) (branch_pointer_arrays known label b ++ basket_arrays b) (said_within b)
    (more_parts 5 (branch_pointer_arrays known label b) (basket_arrays b) (pointers_within known label b) (places_within b)))

shaped_within : (plain : Value) (b : Branch) (shape : Shape) → IsWithin 6 plain → IsWithin 7 (shaped_object plain b shape)
shaped_within plain b (Leaves leaves) w = deeper 6 7 plain (omega arith) w
shaped_within plain b (Class class) w = object 6 (codes "TBranchElement") (pos 110) _ refl (w, (text 6 class, (int 6 b.class_version, tt)))

branch_within : (known : LeafLabels) (label : ℕ) (b : Branch) → IsWithin 7 (branch_object known label b)
unfolding branch_object
branch_within known label b = shaped_within _ b b.def.shape (plain_branch_within known label b)

branches_within : (known : LeafLabels) (label : ℕ) (bs : List Branch) → ItemsWithin 7 (branch_pointers known label bs)
unfolding branch_pointers
branches_within known label [] = tt
branches_within known label (b ∷ bs) =
    (pointed 7 label _ (branch_within known (label + 1) b), branches_within (labels_behind known (label + 1) (branch_leaves b)) (label + branch_label_count b) bs)

-- ---- the tree

some_backs_within : {A : Type 0} (label : ℕ) (xs : List A) → ItemsWithin 7 (backs_from label xs)
unfolding backs_from
some_backs_within label [] = tt
some_backs_within label (x ∷ xs) = (back 7 label, some_backs_within (label + 1) xs)

backs_within : (label : ℕ) (bs : List Branch) → ItemsWithin 7 (leaf_backs label bs)
unfolding leaf_backs
backs_within label [] = tt
backs_within label (b ∷ bs) = more_items 7 (backs_from (label + 1) (branch_leaves b)) _ (some_backs_within (label + 1) (branch_leaves b)) (backs_within (label + branch_label_count b) bs)

pub header_within : (name : List ℕ) (head : TreeHead) → IsWithin 9 (tree_value_of name head)
unfolding tree_value_of
header_within name head =
    object 8 (codes "TTree") (pos 120) _ refl
    (deeper 2 8 _ (omega arith) (titled_within name []), (int 8 (pos head.entries), (array_within 7 _ (omega arith) (branches_within [] 0 head.branches), (array_within 7 _ (omega arith) (backs_within 0 head.branches), tt))))
