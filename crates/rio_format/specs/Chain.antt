-- The classes of one name, each leading to the one before it.
use Rattle.std.specs.{Prelude.{◌≡◌, ℕ, zero, suc, Bool, false, List, length, Option, Some, None, if◌then◌else◌, slice_get}, Option.{option_map_or}}
use Rattle.rio_format.specs.{Places.{is_named, place}, declared.chain.Chain.{Chain}, declared.class.ClassDef.{ClassDef}}

-- the place of the last class that passes, of so many at the front
abbrev pub last_before : (ClassDef → Bool) → List ClassDef → ℕ → Option ℕ
last_before test classes zero = None
last_before test classes (suc k) =
    if option_map_or test (slice_get classes k) false then Some k else last_before test classes k

-- at the first class of each name stands the place of the last of that name
abbrev pub LastLead : List ClassDef → List (Option ℕ) → Type 0
LastLead classes last = (name : List ℕ) (first : ℕ) → place (is_named name) classes ≡ Some first → slice_get last first ≡ Some (last_before (is_named name) classes (length classes))

-- at each class stands the place of the one before it of its name, if there is one
abbrev pub BeforeLead : List ClassDef → List (Option ℕ) → Type 0
BeforeLead classes before = (k : ℕ) (c : ClassDef) → slice_get classes k ≡ Some c → slice_get before k ≡ Some (last_before (is_named c.name) classes k)

pub record IsChainOf (classes : List ClassDef) (chain : Chain) : Type 0 where
  pub last_leads : LastLead classes chain.last.items
  pub before_leads : BeforeLead classes chain.before.items
  pub one_last : length chain.last.items ≡ length classes
  pub one_before : length chain.before.items ≡ length classes
