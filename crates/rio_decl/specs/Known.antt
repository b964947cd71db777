-- The names that are kept beside members and bases, so that no look-up goes through these.
use Rattle.std.specs.Prelude.{◌≡◌, ℕ, List, length, nat_le, Bool, true, false, ◌==◌, ◌&&◌, not}
use Rattle.rio_num.specs.Word.{is_among, is_name_text}
use Rattle.rio_format.specs.{declared.class.Base.{Base}, declared.class.Member.{Member}, declared.kind.Kind.{Kind, TheVariants.{Plain, Counter, Fixed, Counted, Text, Inline, Pointer, Other}}}
use Rattle.rio_model.specs.{ClassGrammar.{has_base_named, has_i32, has_member, is_counted_by, is_i32_of}, Stated.{has_counter, is_class_word}}

-- the names of the members, and of those that may count
pub record KnowsMembers (members : List Member) (names integers : List (List ℕ)) : Type 0 where
  pub all : (name : List ℕ) → is_among names name ≡ has_member members name
  pub may_count : (name : List ℕ) → is_among integers name ≡ has_i32 members name

-- the names of the bases
abbrev pub KnowsBases : List Base → List (List ℕ) → Type 0
KnowsBases bases names = (name : List ℕ) → is_among names name ≡ has_base_named bases name

-- the names of the members, and of the counters among them
pub record KnowsPassed (members : List Member) (names counters : List (List ℕ)) : Type 0 where
  pub all : (name : List ℕ) → is_among names name ≡ has_member members name
  pub count : (name : List ℕ) → is_among counters name ≡ has_counter members name

-- the names that count some of the members
abbrev pub KnowsCounters : List Member → List (List ℕ) → Type 0
KnowsCounters members names = (name : List ℕ) → is_among names name ≡ is_counted_by members name

-- a kind behind counters of these names, of a member that counts or doesn't
abbrev pub is_known_kind : (List ℕ → Bool) → Bool → Kind → Bool
is_known_kind counters counts (Plain prim) = not (is_i32_of prim && counts)
is_known_kind counters counts Counter = counts
is_known_kind counters counts (Fixed prim count) = nat_le 1 count && nat_le count 100000
is_known_kind counters counts (Counted prim counter) = counters counter
is_known_kind counters counts Text = true
is_known_kind counters counts (Inline class) = is_class_word class
is_known_kind counters counts (Pointer class) = is_name_text class
is_known_kind counters counts (Other code) = false

-- a member behind members of these names, among them these counters, where these names count
abbrev pub is_known_member : (List ℕ → Bool) → (List ℕ → Bool) → (List ℕ → Bool) → Member → Bool
is_known_member passed counters counting m =
    is_name_text m.name && not (passed m.name) && is_known_kind counters (counting m.name) m.kind && (length m.title == 0)
