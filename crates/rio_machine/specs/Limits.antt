-- What is too large, too deep or too many.
use Rattle.std.specs.{Prelude.{ℕ, ◌+◌, List, [], length, Bool, false, ◌||◌, nat_lt, nat_le}, List.{list_any}}
use Rattle.rio_key.specs.Written.{key_length_of}
pub use Rattle.rio_num.specs.Padding.{zeros_behind}
use Rattle.rio_leaf.specs.{declared.branch.BranchDef.{BranchDef}, declared.branch.Shape.{Shape, TheVariants.{Leaves, Class}}}
use Rattle.rio_format.specs.{Objects.{depth_limit}, Written.{written_form}, WrittenBytes.{length_limit}, declared.class.ClassDef.{ClassDef}, Depth.{depth_of}, LongestList.{longest_list_of}, declared.value.Value.{Value}}
use Rattle.rio_machine.specs.{Rows.{entries_of}, State.{State, item_count}}

-- the greatest cycle that a command gives, and the greatest that a tree may have to be filled or saved is one less
abbrev pub cycle_limit : ℕ
cycle_limit = 32767

-- the objects and trees of a state together
abbrev pub item_limit : ℕ
item_limit = 100000

-- the puts of a batch
abbrev pub batch_limit : ℕ
batch_limit = 1000

-- the values of a list
abbrev pub list_limit : ℕ
list_limit = 100000

-- the branches of a tree
abbrev pub branch_limit : ℕ
branch_limit = 64

-- the leaves of a branch
abbrev pub leaf_limit : ℕ
leaf_limit = 64

-- ---- lengths

-- how long the key of an object's record is: its title is empty
abbrev pub head_length : List ℕ → List ℕ → ℕ
head_length class name = key_length_of class name []

-- how long an object's data are, with the zero bytes that bring its record's length to a multiple of four
abbrev pub data_length : List ClassDef → List ℕ → List ℕ → Value → ℕ
data_length classes class name v =
    let size = length (written_form classes 0 v) in size + zeros_behind (head_length class name + size)

abbrev pub is_too_long : ℕ → Bool
is_too_long n = nat_lt length_limit n

-- one branch's entry is too long
abbrev pub has_long_entry : List ClassDef → List BranchDef → List Value → Bool
has_long_entry classes branches row = list_any (λ entry. is_too_long (length entry)) (entries_of classes branches row)

-- ---- depths and counts

abbrev pub is_too_deep : Value → Bool
is_too_deep v = nat_lt depth_limit (depth_of v)

abbrev pub has_long_list : Value → Bool
has_long_list v = nat_lt list_limit (longest_list_of v)

-- there is no room for one more object or tree
abbrev pub has_all_items : State → Bool
has_all_items m = nat_le item_limit (item_count m)

-- there is no room for so many more
abbrev pub lacks_items : State → ℕ → Bool
lacks_items m n = nat_lt item_limit (item_count m + n)

abbrev pub has_many_leaves : Shape → Bool
has_many_leaves (Leaves leaves) = nat_lt leaf_limit (length leaves)
has_many_leaves (Class class) = false

abbrev pub has_many_branches : List BranchDef → Bool
has_many_branches branches = nat_lt branch_limit (length branches) || list_any (λ b. has_many_leaves b.shape) branches
