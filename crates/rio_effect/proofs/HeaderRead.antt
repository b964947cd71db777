-- All of a written header is read: no object in it is opaque.
use Rattle.std.proofs.{Common.{◌≡◌, ◌∙◌, ℕ, ◌+◌, ℤ, pos, List, [], ◌∷◌, ◌++◌, map, codes, Bool, true, Option, Some, None, refl}, lemmas.Bool.{and_from}}
use Rattle.std.specs.{List.{list_all}, Map.{lookup}, Str.{bytes_eq}}
use Rattle.rio_leaf.specs.{declared.branch.Shape.{Shape, TheVariants.{Leaves, Class}}, declared.leaf.Dim.{Dim, TheVariants.{One, Fixed, Counted}}, declared.leaf.Leaf.{Leaf}}
use Rattle.rio_format.specs.{declared.value.Part.{Part}, declared.value.Value.{Value, Int, Bool as Truth, Text, List as Items, Object, Pointed, Back}}
use Rattle.rio_format.specs.{Growth.{all_read_step, is_all_read}, WrittenList.{array_object, plain_object, titled_object}}
use Rattle.rio_format.proofs.{AllRead.{AllRead, items_layer, parts_layer, pointed_layer}, ValueCases.{fold_Back, fold_Bool, fold_Int, fold_Null, fold_Text}}
use Rattle.rio_tree.specs.{Header.{branch_leaves}, declared.basket_at.BasketAt.{BasketAt}, declared.head.Branch.{Branch}, declared.head.TreeHead.{TreeHead}}
use Rattle.rio_tree.specs.WrittenTree.{LeafLabels, back_or_null, backs_from, basket_arrays, basket_numbers, branch_label_count, branch_numbers, branch_object, branch_pointer_arrays, branch_pointers, counter_pointer, labels_behind, leaf_backs, leaf_object, leaf_pointers, plain_branch_object, plain_leaf_object, shaped_object, tree_value_of}

-- ---- parts and items

abbrev ReadParts : List Part → Type 0
ReadParts [] = Unit {0}
ReadParts (p ∷ ps) = AllRead p.value × ReadParts ps

abbrev ReadItems : List Value → Type 0
ReadItems [] = Unit {0}
ReadItems (v ∷ vs) = AllRead v × ReadItems vs

all_parts : (ps : List Part) → ReadParts ps → list_all (λ b. b) (map (λ p. is_all_read p.value) ps) ≡ true
all_parts [] read = refl
all_parts (p ∷ ps) read = and_from _ _ read.0 (all_parts ps read.1)

all_items : (vs : List Value) → ReadItems vs → list_all (λ b. b) (map is_all_read vs) ≡ true
all_items [] read = refl
all_items (v ∷ vs) read = and_from _ _ read.0 (all_items vs read.1)

more_parts : (ps qs : List Part) → ReadParts ps → ReadParts qs → ReadParts (ps ++ qs)
more_parts [] qs read more = more
more_parts (p ∷ ps) qs read more = (read.0, more_parts ps qs read.1 more)

more_items : (vs ws : List Value) → ReadItems vs → ReadItems ws → ReadItems (vs ++ ws)
more_items [] ws read more = more
more_items (v ∷ vs) ws read more = (read.0, more_items vs ws read.1 more)

object : (class : List ℕ) (version : ℤ) (ps : List Part) → ReadParts ps → AllRead (Object class version ps)
object class version ps read = parts_layer class version ps ∙ all_parts ps read

items : (vs : List Value) → ReadItems vs → AllRead (Items vs)
items vs read = items_layer vs ∙ all_items vs read

pointed : (label : ℕ) (v : Value) → AllRead v → AllRead (Pointed label v)
pointed label v read = pointed_layer label v ∙ read

int : (z : ℤ) → AllRead (Int z)
int z = fold_Int all_read_step (λ p. p.value) z

text : (t : List ℕ) → AllRead (Text t)
text t = fold_Text all_read_step (λ p. p.value) t

truth : (b : Bool) → AllRead (Truth b)
truth b = fold_Bool all_read_step (λ p. p.value) b

back : (label : ℕ) → AllRead (Back label)
back label = fold_Back all_read_step (λ p. p.value) label

-- ---- bases

plain_read : AllRead plain_object
unfolding plain_object
plain_read = object (codes "TObject") (pos 1) _ (int (pos 0), (int (pos 0), tt))

titled_read : (name title : List ℕ) → AllRead (titled_object name title)
unfolding titled_object
titled_read name title = object (codes "TNamed") (pos 1) _ (plain_read, (text name, (text title, tt)))

array_read : (vs : List Value) → ReadItems vs → AllRead (array_object vs)
unfolding array_object
array_read vs read = object (codes "TObjArray") (pos 3) _ (plain_read, (text [], (int (pos 0), (items vs read, tt))))

-- ---- leaves

back_read : (o : Option ℕ) → AllRead (back_or_null o)
back_read None = fold_Null all_read_step (λ p. p.value)
back_read (Some label) = back label

counter_read : (known : LeafLabels) (d : Dim) → AllRead (counter_pointer known d)
counter_read known One = fold_Null all_read_step (λ p. p.value)
counter_read known (Fixed count) = fold_Null all_read_step (λ p. p.value)
counter_read known (Counted counter times) = back_read (lookup (bytes_eq counter) known)

leaf_read : (known : LeafLabels) (leaf : Leaf) → AllRead (leaf_object known leaf)
unfolding leaf_object plain_leaf_object
leaf_read known leaf =
    object _ (pos 101) _ (object (codes "TLeaf") (pos 102) _ (titled_read _ _, (int _, (int _, (truth _, (counter_read known leaf.dim, tt))))), tt)

leaves_read : (known : LeafLabels) (label : ℕ) (leaves : List Leaf) → ReadItems (leaf_pointers known label leaves)
unfolding leaf_pointers
leaves_read known label [] = tt
leaves_read known label (leaf ∷ leaves) = (pointed label _ (leaf_read known leaf), leaves_read ((leaf.name, label) ∷ known) (label + 1) leaves)

-- ---- branches

numbers_read : (number : BasketAt → ℕ) (baskets : List BasketAt) (last : ℕ) → AllRead (basket_numbers number baskets last)
unfolding basket_numbers
numbers_read number baskets last = items _ (more_items (map (λ b. Int (pos (number b))) baskets) _ (each baskets) (int (pos last), tt))
  where
    each : (bs : List BasketAt) → ReadItems (map (λ b. Int (pos (number b))) bs)
    each [] = tt
    each (b ∷ bs) = (int _, each bs)

said_read : (b : Branch) → ReadParts (branch_numbers b)
said_read b = (titled_read _ _, (int _, (int _, (int _, (int _, tt)))))

pointers_read : (known : LeafLabels) (label : ℕ) (b : Branch) → ReadParts (branch_pointer_arrays known label b)
pointers_read known label b = (array_read [] tt, (array_read _ (leaves_read known label (branch_leaves b)), (array_read [] tt, tt)))

places_read : (b : Branch) → ReadParts (basket_arrays b)
places_read b =
    (numbers_read (λ basket. basket.bytes) b.baskets 0, (numbers_read (λ basket. basket.first) b.baskets b.entries, (numbers_read (λ basket. basket.seek) b.baskets 0, tt)))

plain_branch_read : (known : LeafLabels) (label : ℕ) (b : Branch) → AllRead (plain_branch_object known label b)
unfolding plain_branch_object
plain_branch_read known label b =
    object (codes "TBranch") (pos 113) (branch_numbers b ++ (branch_pointer_arrays known label b ++ basket_arrays b))
    (more_parts (branch_numbers b) (branch_pointer_arrays known label b ++ basket_arrays b) (said_read b)
    (more_parts (branch_pointer_arrays known label b) (basket_arrays b) (pointers_read known label b) (places_read b)))

shaped_read : (plain : Value) (b : Branch) (shape : Shape) → AllRead plain → AllRead (shaped_object plain b shape)
shaped_read plain b (Leaves leaves) read = read
shaped_read plain b (Class class) read = object (codes "TBranchElement") (pos 110) _ (read, (text class, (int b.class_version, tt)))

branch_read : (known : LeafLabels) (label : ℕ) (b : Branch) → AllRead (branch_object known label b)
unfolding branch_object
branch_read known label b = shaped_read _ b b.def.shape (plain_branch_read known label b)

branches_read : (known : LeafLabels) (label : ℕ) (bs : List Branch) → ReadItems (branch_pointers known label bs)
unfolding branch_pointers
branches_read known label [] = tt
branches_read known label (b ∷ bs) = (pointed label _ (branch_read known (label + 1) b), branches_read (labels_behind known (label + 1) (branch_leaves b)) (label + branch_label_count b) bs)

-- ---- the tree

some_backs_read : {A : Type 0} (label : ℕ) (xs : List A) → ReadItems (backs_from label xs)
unfolding backs_from
some_backs_read label [] = tt
some_backs_read label (x ∷ xs) = (back label, some_backs_read (label + 1) xs)

backs_read : (label : ℕ) (bs : List Branch) → ReadItems (leaf_backs label bs)
unfolding leaf_backs
backs_read label [] = tt
backs_read label (b ∷ bs) = more_items (backs_from (label + 1) (branch_leaves b)) _ (some_backs_read (label + 1) (branch_leaves b)) (backs_read (label + branch_label_count b) bs)

pub header_all_read : (name : List ℕ) (head : TreeHead) → AllRead (tree_value_of name head)
unfolding tree_value_of
header_all_read name head =
    object (codes "TTree") (pos 120) _
    (titled_read name [], (int (pos head.entries), (array_read _ (branches_read [] 0 head.branches), (array_read _ (backs_read 0 head.branches), tt))))
