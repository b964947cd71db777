-- The leaves in a header, and the leaves that count others.
use Rattle.std.specs.Prelude.{ℕ, ℤ, pos, negsuc, max, List, [], ◌∷◌, ◌++◌, length, codes, Bool, true, false, ◌==◌, ◌&&◌, ◌||◌, nat_lt, Option, Some, None, is_none, slice_get, unwrap_or, option_map, option_and_then, Result, Ok, if◌then◌else◌}
use Rattle.std.specs.{Option.{ok_or, option_map_or}, Str.{bytes_eq}}
use Rattle.rio_num.specs.Reading.{some_if}
use Rattle.rio_format.specs.{declared.value.Part.{Part}, declared.value.Value.{Value, out-Value, TheOpen.{Value-F, Null, Pointed, Back}}, Accessors.{class_of_object}, PartsWithBases.{member_in}}
use Rattle.rio_leaf.specs.{declared.branch.Shape.{Shape, TheVariants.{Leaves, Class}}, declared.leaf.Dim.{Dim, TheVariants.{One, Fixed, Counted}}}
use Rattle.rio_leaf.specs.{declared.leaf.Leaf.{Leaf}, Leaves.{is_one}, Marks.{letter_of_counters, letter_of_texts}}
use Rattle.rio_tree.specs.{declared.head.Branch.{Branch}, declared.refusal.BranchRefusal.{BranchRefusal, TheVariants.{NoCounter}}}
use Rattle.rio_tree.specs.{Labels.{ObjectLabels, label_in, object_behind}, Members.{◌>>=◌, integer_member, name_member, truth_member}}

-- ---- one leaf

-- what a leaf says that has all members that are needed
pub record LeafSaid : Type 0 where
  pub name : List ℕ
  pub letter : ℕ
  pub len : ℤ
  -- the label of the leaf that counts it, if one does
  pub counter : Option ℕ

-- The letter of a leaf's class. Integers have two, the second for those without a sign.
abbrev pub letters : List (List ℕ × (ℕ × ℕ))
letters =
    (codes "TLeafB", (66, 98)) ∷ (codes "TLeafS", (83, 115)) ∷ (codes "TLeafI", (73, 105)) ∷ (codes "TLeafL", (76, 108))
    ∷ (codes "TLeafF", (70, 70)) ∷ (codes "TLeafD", (68, 68)) ∷ (codes "TLeafO", (79, 79)) ∷ (codes "TLeafC", (67, 67)) ∷ []

-- the letter of the first row of the class
abbrev pub letter_in_table : List (List ℕ × (ℕ × ℕ)) → List ℕ → Bool → Option ℕ
letter_in_table [] class unsigned = None
letter_in_table (row ∷ rows) class unsigned =
    if bytes_eq class row.0 then Some (if unsigned then row.1.1 else row.1.0) else letter_in_table rows class unsigned

-- the letter of a class of leaves
abbrev pub letter_of_class : List ℕ → Bool → Option ℕ
letter_of_class class unsigned = letter_in_table letters class unsigned

-- null, or a pointer to an object with a label
abbrev pub layer_counter : Value-F Value Part → Option (Option ℕ)
layer_counter Null = Some None
layer_counter (Pointed label object) = Some (Some label)
layer_counter (Back label) = Some (Some label)
layer_counter other = None

abbrev pub counter_in : Value → Option (Option ℕ)
counter_in v = layer_counter (out-Value v)

abbrev pub counter_member : List ℕ → Value → Option (Option ℕ)
counter_member name v = option_and_then counter_in (member_in name v)

-- how many values a leaf of this length has that isn't counted
abbrev pub uncounted_dim : ℤ → Dim
uncounted_dim (pos n) = if nat_lt 1 n then Fixed n else One
uncounted_dim (negsuc n) = One

-- how many values a leaf of this length has for each that is counted
abbrev pub least_one : ℤ → ℕ
least_one (pos n) = max n 1
least_one (negsuc n) = 1

-- what a leaf says; None where its class isn't in the table or a member is lacking
unfoldable pub leaf_said : Value → Option LeafSaid
leaf_said v = do
  name ← name_member (codes "fName") v
  len ← integer_member 32 (codes "fLen") v
  unsigned ← truth_member (codes "fIsUnsigned") v
  counter ← counter_member (codes "fLeafCount") v
  letter ← letter_of_class (class_of_object v) unsigned
  Some (record { name = name; letter = letter; len = len; counter = counter })

-- what the leaf says that a pointer leads to; None where there is none, or it is no leaf that has all members that are needed
abbrev pub leaf_at_pointer : ObjectLabels → Value → Option LeafSaid
leaf_at_pointer labels item = option_and_then leaf_said (object_behind labels item)

-- ---- the leaves before another one

-- a leaf as those behind it see it
pub record LeafMet : Type 0 where
  -- the number of its branch
  pub branch : ℕ
  pub label : Option ℕ
  -- empty where it says none
  pub name : List ℕ
  -- whether it is a signed integer of 4 bytes without a dimension
  pub counts : Bool

-- what the leaves before say: the nearest of each label, and the nearest of each name
pub record LeavesMet : Type 0 where
  pub of_label : ℕ → Option LeafMet
  pub of_name : List ℕ → Option LeafMet

-- no leaf stands before
abbrev pub no_leaves_met : LeavesMet
no_leaves_met = record { of_label = λ label. None; of_name = λ name. None }

-- whether a label, if there is one, is this one
abbrev pub is_label : ℕ → Option ℕ → Bool
is_label label None = false
is_label label (Some other) = other == label

-- one more leaf, which is nearer than the others: by its label, by its name, by both
abbrev pub with_label_met : LeafMet → LeavesMet → LeavesMet
with_label_met l met = record met { of_label = λ label. if is_label label l.label then Some l else met.of_label label }

abbrev pub with_name_met : LeafMet → LeavesMet → LeavesMet
with_name_met l met = record met { of_name = λ name. if bytes_eq l.name name then Some l else met.of_name name }

abbrev pub with_leaf_met : LeafMet → LeavesMet → LeavesMet
with_leaf_met l met = with_name_met l (with_label_met l met)

-- a signed integer of 4 bytes without a dimension
abbrev pub is_plain_number : LeafSaid → Bool
is_plain_number said = (said.letter == letter_of_counters) && (is_none said.counter && is_one (uncounted_dim said.len))

-- the name, empty where it is lacking
abbrev pub name_said : Option Value → List ℕ
name_said object = unwrap_or (option_and_then (name_member (codes "fName")) object) []

-- an object of this label as a leaf of a branch of this number; also one that is no leaf, or none
abbrev pub object_met : ℕ → Option ℕ → Option Value → LeafMet
object_met branch label object = record {
  branch = branch;
  label = label;
  name = name_said object;
  counts = option_map_or is_plain_number (option_and_then leaf_said object) false;
}

-- the leaf of a branch of this number that a pointer leads to
abbrev pub leaf_met : ObjectLabels → ℕ → Value → LeafMet
leaf_met labels branch item = object_met branch (label_in item) (object_behind labels item)

-- the leaves that these pointers lead to, behind others
abbrev pub leaves_met : ObjectLabels → ℕ → List Value → LeavesMet → LeavesMet
leaves_met labels branch [] met = met
leaves_met labels branch (item ∷ items) met = leaves_met labels branch items (with_leaf_met (leaf_met labels branch item) met)

-- ---- the leaf that counts another one

-- whether the nearest leaf of its name is of its label too, so that no other leaf of the name stands nearer
abbrev pub is_nearest_of_name : LeavesMet → ℕ → LeafMet → Bool
is_nearest_of_name met label l = option_map_or (λ n. is_label label n.label) (met.of_name l.name) false

-- whether a branch has leaves and no objects
abbrev pub is_leafy : Shape → Bool
is_leafy (Leaves leaves) = true
is_leafy (Class class) = false

-- whether entries of a branch say the values of its leaves
abbrev pub says_values : Option Branch → Bool
says_values None = false
says_values (Some b) = is_none b.refused && is_leafy b.def.shape

-- whether a leaf may count those of the branch behind these: it is of this branch, or of one that is read
abbrev pub can_count_behind : List Branch → LeafMet → Bool
can_count_behind branches l = l.counts && ((l.branch == length branches) || says_values (slice_get branches l.branch))

-- The leaf of the label that counts a leaf of the branch behind these: the nearest of the label, if it may count and no
-- other leaf of its name stands nearer.
unfoldable pub counter_of_label : List Branch → LeavesMet → ℕ → Option LeafMet
counter_of_label branches met label = do
  l ← met.of_label label
  some_if (is_nearest_of_name met label l && can_count_behind branches l) l

-- ---- the leaves of a branch

-- the counter of this label, if one is named
abbrev pub counter_named : List Branch → LeavesMet → Option ℕ → Result (Option LeafMet) BranchRefusal
counter_named branches met None = Ok None
counter_named branches met (Some label) = ok_or (option_map (λ l. Some l) (counter_of_label branches met label)) NoCounter

-- the counter of a leaf, if it has one; a text has none
abbrev pub counter_met : List Branch → LeavesMet → LeafSaid → Result (Option LeafMet) BranchRefusal
counter_met branches met said = if said.letter == letter_of_texts then Ok None else counter_named branches met said.counter

-- how many values a leaf has, with its counter
abbrev pub dim_by : LeafSaid → Option LeafMet → Dim
dim_by said None = if said.letter == letter_of_texts then One else uncounted_dim said.len
dim_by said (Some l) = Counted l.name (least_one said.len)

-- a leaf with its counter
abbrev pub leaf_by : LeafSaid → Option LeafMet → Leaf
leaf_by said counter = record { name = said.name; letter = said.letter; dim = dim_by said counter }

-- The leaves of a branch, and the numbers of the earlier branches whose leaves count some of them, rising.
pub record LeavesSaid : Type 0 where
  pub leaves : List Leaf
  pub counted_by : List ℕ

-- one more number, which they may have already
abbrev pub with_branch_number : ℕ → List ℕ → List ℕ
with_branch_number n [] = n ∷ []
with_branch_number n (m ∷ ms) = if nat_lt n m then n ∷ m ∷ ms else (if n == m then m ∷ ms else m ∷ with_branch_number n ms)

-- the number of the branch of a counter, if that is an earlier one
abbrev pub with_counter : ℕ → Option LeafMet → List ℕ → List ℕ
with_counter own None numbers = numbers
with_counter own (Some l) numbers = if l.branch == own then numbers else with_branch_number l.branch numbers

-- the numbers in what is read of a branch, with that of a counter
abbrev pub with_counter_in : ℕ → Option LeafMet → LeavesSaid → LeavesSaid
with_counter_in own counter read = record read { counted_by = with_counter own counter read.counted_by }

-- one more leaf, with its counter
abbrev pub with_leaf : ℕ → LeafSaid → Option LeafMet → LeavesSaid → LeavesSaid
with_leaf own said counter read =
    record { leaves = read.leaves ++ leaf_by said counter ∷ []; counted_by = with_counter own counter read.counted_by }
