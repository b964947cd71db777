-- The kinds of leaves.
use Rattle.std.proofs.Common.{◌≡◌, ℕ, List, [], ◌∷◌, Bool, true, false, cond, Option, Some, None, refl, sym, ap, subst}
use Rattle.std.specs.{Prelude.{ℤ, pos, negsuc, codes}, Map.{lookup}, Str.{bytes_eq}}
use Rattle.rio_leaf.specs.{declared.leaf.Dim.{Dim, TheVariants.{One, Fixed as Several, Counted}}, declared.leaf.Leaf.{Leaf}}
use Rattle.rio_format.specs.{Bodies.{Counters}, declared.kind.Kind.{Kind, TheVariants.{Plain, Fixed, Text as Texted, Other}}, declared.kind.Primitive.{Primitive}}
use Rattle.rio_machine.specs.Rows.{counted_leaf_kind, kind_of_nothing, leaf_kind, letter_kind, sized_kind}
use Rattle.rio_entry.specs.Leaves.{without_number}
use Rattle.rio_machine.specs.Entries.{counter_saying}
use Rattle.rio_entry.proofs.Counting.{same_name}

-- ---- which kinds a leaf may have

abbrev pub IsLeafy : Kind → Type 0
IsLeafy (Plain of) = Unit {0}
IsLeafy (Fixed of count) = Unit {0}
IsLeafy Texted = Unit {0}
IsLeafy (Other code) = Unit {0}
IsLeafy other = ⊥

pub kind_some : (counters : Counters) (leaf : Leaf) (of : Primitive) → letter_kind leaf.letter ≡ Some of → leaf_kind counters leaf ≡ sized_kind counters of leaf.dim
kind_some counters leaf of e = rw e refl

pub kind_none : (counters : Counters) (leaf : Leaf) → letter_kind leaf.letter ≡ None → leaf_kind counters leaf ≡ without_number leaf.letter
kind_none counters leaf e = rw e refl

counted_leafy : (of : Primitive) (times : ℕ) (n : Option ℤ) → IsLeafy (counted_leaf_kind of times n)
counted_leafy of times None = tt
counted_leafy of times (Some (pos n)) = tt
counted_leafy of times (Some (negsuc n)) = tt

sized_leafy : (counters : Counters) (of : Primitive) (dim : Dim) → IsLeafy (sized_kind counters of dim)
sized_leafy counters of One = tt
sized_leafy counters of (Several n) = tt
sized_leafy counters of (Counted counter times) = counted_leafy of times (lookup (bytes_eq counter) counters)

without_leafy : (b : Bool) → IsLeafy (cond b Texted kind_of_nothing)
without_leafy true = tt
without_leafy false = tt

pub kind_leafy : (counters : Counters) (leaf : Leaf) → IsLeafy (leaf_kind counters leaf)
kind_leafy counters leaf = by (letter_kind leaf.letter) refl
  where
    by : (o : Option Primitive) → letter_kind leaf.letter ≡ o → IsLeafy (leaf_kind counters leaf)
    by (Some of) e = subst IsLeafy (sym (kind_some counters leaf of e)) (sized_leafy counters of leaf.dim)
    by None e = subst IsLeafy (sym (kind_none counters leaf e)) (without_leafy (bytes_eq (leaf.letter ∷ []) (codes "C")))

-- ---- a counter that says so

pub counted_says : (counter : List ℕ) (n : ℤ) → lookup (bytes_eq counter) ((counter, n) ∷ []) ≡ Some n
counted_says counter n = rw (same_name counter) refl

pub sized_counted : (of : Primitive) (counter : List ℕ) (times : ℕ) (n : ℤ) → sized_kind (counter_saying (Counted counter times) n) of (Counted counter times) ≡ counted_leaf_kind of times (Some n)
sized_counted of counter times n = ap (counted_leaf_kind of times) (counted_says counter n)
