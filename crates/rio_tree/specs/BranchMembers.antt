-- What a branch in a header says.
use Rattle.std.specs.{Prelude.{ℕ, ℤ, pos, negsuc, List, [], codes, ◌&&◌, Option, Some, None, unwrap_or, option_map, option_and_then, if◌then◌else◌}, Ordering.{int_eq}}
use Rattle.std.specs.Str.{bytes_eq}
use Rattle.rio_format.specs.{declared.value.Value.{Value}, Accessors.{class_of_object, version_of_object}}
use Rattle.rio_tree.specs.Members.{◌>>=◌, integer_member, integers_member, name_member, pointers_member}

-- what a branch says that has all members that are needed
pub record BranchSaid : Type 0 where
  -- the class of its entries, if it is a branch of objects
  pub class : Option (List ℕ)
  pub write_basket : ℤ
  pub entries : ℤ
  pub branches : List Value
  pub leaves : List Value
  pub baskets : List Value
  pub bytes : List Value
  pub firsts : List Value
  pub seeks : List Value

-- The class of the entries of a branch of objects, and no class for another branch. None where the object is no branch, or
-- says no class.
abbrev pub entry_class : Value → Option (Option (List ℕ))
entry_class v =
    if bytes_eq (class_of_object v) (codes "TBranch") then Some None
    else (if bytes_eq (class_of_object v) (codes "TBranchElement") && int_eq (version_of_object v) (pos 110) then option_map (λ c. Some c) (name_member (codes "fClassName") v) else None)

-- How many baskets a branch has, of which the arrays have numbers: none where it says a number below 0.
abbrev pub basket_count : ℤ → ℕ
basket_count (pos n) = n
basket_count (negsuc n) = 0

-- what a branch says; None where the object is no branch, or a member that is needed is lacking
unfoldable pub branch_said : Value → Option BranchSaid
branch_said v = do
  class ← entry_class v
  name ← name_member (codes "fName") v
  write_basket ← integer_member 32 (codes "fWriteBasket") v
  entries ← integer_member 64 (codes "fEntries") v
  branches ← pointers_member (codes "fBranches") v
  leaves ← pointers_member (codes "fLeaves") v
  baskets ← pointers_member (codes "fBaskets") v
  bytes ← integers_member 32 (codes "fBasketBytes") (basket_count write_basket) v
  firsts ← integers_member 64 (codes "fBasketEntry") (basket_count write_basket) v
  seeks ← integers_member 64 (codes "fBasketSeek") (basket_count write_basket) v
  Some (record {
    class = class;
    write_basket = write_basket;
    entries = entries;
    branches = branches;
    leaves = leaves;
    baskets = baskets;
    bytes = bytes;
    firsts = firsts;
    seeks = seeks;
  })

-- ---- what is told of any branch, whatever is lacking

-- the items of its leaves, none where they are lacking
abbrev pub leaf_items : Option Value → List Value
leaf_items object = unwrap_or (option_and_then (pointers_member (codes "fLeaves")) object) []

-- the version of its class, 0 where it is lacking
abbrev pub class_version_said : Option Value → ℤ
class_version_said object = unwrap_or (option_and_then (integer_member 32 (codes "fClassVersion")) object) (pos 0)
