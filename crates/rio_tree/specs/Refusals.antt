-- Why a branch can't be read, as far as the header tells: the first of the tests, in order, that it doesn't pass.
use Rattle.std.specs.Prelude.{ℕ, zero, suc, ◌+◌, ℤ, pos, negsuc, List, [], ◌∷◌, length, Bool, true, false, ◌==◌, ◌&&◌, nat_lt, Option, Some, None, is_some, slice_get, option_map, option_and_then, Result, Ok, Err, if◌then◌else◌}
use Rattle.std.specs.{List.{list_all}, Option.{ok_or}, Ordering.{int_eq}}
use Rattle.rio_num.specs.Reading.{◌>>=◌}
use Rattle.rio_format.specs.{declared.value.Part.{Part}, declared.value.Value.{Value, out-Value, TheOpen.{Value-F, Null}}, Accessors.{integer_in}}
use Rattle.rio_tree.specs.{declared.basket_at.BasketAt.{BasketAt}, declared.head.Branch.{Branch}}
use Rattle.rio_tree.specs.declared.refusal.BranchRefusal.{BranchRefusal, TheVariants.{BranchClass, SubBranches, EmbeddedBasket, LeafClass, EntryCount, BadBasketList}}
use Rattle.rio_tree.specs.BranchMembers.{BranchSaid, branch_said}
use Rattle.rio_tree.specs.HeaderLeaves.{LeavesMet, LeavesSaid, counter_met, leaf_at_pointer, leaf_met, with_leaf, with_leaf_met}
use Rattle.rio_tree.specs.{Labels.{ObjectLabels, object_behind}, Members.{natural}}

-- passed, if this holds, or else refused so
abbrev pub unless_refused : Bool → BranchRefusal → Result (Unit {0}) BranchRefusal
unless_refused passed why = if passed then Ok tt else Err why

-- ---- its members and leaves

abbrev pub layer_is_null : Value-F Value Part → Bool
layer_is_null Null = true
layer_is_null other = false

-- a pointer to nothing
abbrev pub is_null : Value → Bool
is_null v = layer_is_null (out-Value v)

-- whether a pointer leads to a leaf of a known class that has all its members
abbrev pub has_leaf_class : ObjectLabels → Value → Bool
has_leaf_class labels item = is_some (leaf_at_pointer labels item)

-- What the leaves of a branch are with one more, behind these branches and the leaves before it. LeafClass where it has no class
-- or lacks a member, NoCounter where its counter can't count.
unfoldable pub leaf_behind : ObjectLabels → List Branch → Value → LeavesMet → LeavesSaid → Result LeavesSaid BranchRefusal
leaf_behind labels branches item met read = do
  said ← ok_or (leaf_at_pointer labels item) LeafClass
  counter ← counter_met branches met said
  Ok (with_leaf (length branches) said counter read)

-- the leaves of a branch behind these, one by one
abbrev pub leaves_from : ObjectLabels → List Branch → List Value → LeavesMet → LeavesSaid → Result LeavesSaid BranchRefusal
leaves_from labels branches [] met read = Ok read
leaves_from labels branches (item ∷ items) met read = do
  more ← leaf_behind labels branches item met read
  leaves_from labels branches items (with_leaf_met (leaf_met labels (length branches) item) met) more

-- no leaf is read yet
abbrev pub no_leaves : LeavesSaid
no_leaves = record { leaves = []; counted_by = [] }

-- what a branch says, which has all its members, no branches of its own and no basket in the header
unfoldable pub readable_branch : ObjectLabels → Value → Result BranchSaid BranchRefusal
readable_branch labels item = do
  said ← ok_or (option_and_then branch_said (object_behind labels item)) BranchClass
  whole ← unless_refused (length said.branches == 0) SubBranches
  stored ← unless_refused (list_all is_null said.baskets) EmbeddedBasket
  known ← unless_refused (list_all (has_leaf_class labels) said.leaves) LeafClass
  Ok said

-- ---- its baskets

-- an integer of so many bits, not below 0
abbrev pub natural_in : ℕ → Value → Option ℕ
natural_in bits v = option_and_then natural (integer_in bits v)

-- a basket of these numbers, of which none is below 0
unfoldable pub basket_said : Value → Value → Value → Option BasketAt
basket_said bytes first seek =
    option_and_then (λ n. option_and_then (λ f. option_map (λ s. record { bytes = n; first = f; seek = s }) (natural_in 64 seek)) (natural_in 64 first)) (natural_in 32 bytes)

-- the basket of this number; None where a list is shorter or a number below 0
unfoldable pub basket_numbered : BranchSaid → ℕ → Option BasketAt
basket_numbered said k =
    option_and_then (λ b. option_and_then (λ f. option_and_then (λ s. basket_said b f s) (slice_get said.seeks k)) (slice_get said.firsts k)) (slice_get said.bytes k)

-- so many baskets from this number on
abbrev pub baskets_from : BranchSaid → ℕ → ℕ → Option (List BasketAt)
baskets_from said k zero = Some []
baskets_from said k (suc n) = option_and_then (λ b. option_map (λ more. b ∷ more) (baskets_from said (k + 1) n)) (basket_numbered said k)

-- the first entries rise behind this one
abbrev pub rise_behind : ℕ → List BasketAt → Bool
rise_behind first [] = true
rise_behind first (b ∷ bs) = nat_lt first b.first && rise_behind b.first bs

-- Baskets of a branch with so many entries: with entries there is one, the first begins at entry 0, and the first entries
-- rise. Whether the last begins before the entries end is seen when it is read.
abbrev pub are_in_order : ℕ → List BasketAt → Bool
are_in_order entries [] = entries == 0
are_in_order entries (b ∷ bs) = (b.first == 0) && rise_behind b.first bs

-- as many baskets as the branch says, if it says no number below 0
abbrev pub number_baskets : BranchSaid → ℤ → Option (List BasketAt)
number_baskets said (pos n) = baskets_from said 0 n
number_baskets said (negsuc n) = None

-- where the baskets of a branch stand, in a tree of so many entries
unfoldable pub listed_baskets : ℕ → BranchSaid → Result (List BasketAt) BranchRefusal
listed_baskets entries said = do
  counted ← unless_refused (int_eq said.entries (pos entries)) EntryCount
  baskets ← ok_or (number_baskets said said.write_basket) BadBasketList
  ordered ← unless_refused (are_in_order entries baskets) BadBasketList
  Ok baskets
