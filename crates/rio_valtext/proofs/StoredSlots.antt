-- What stands in a slot: how many brackets its text has within one another, and the names of parts.
use Rattle.std.proofs.{Common.{◌≡◌, ◌==◌, ℕ, suc, ◌+◌, ◌*◌, ◌≤◌, ℤ, pos, negsuc, Bool, true, false, cond, List, [], ◌∷◌, ◌++◌, length, map, Option, Some, None, refl, ap, ◌∙◌, arith}, lemmas.Bool.{and_parts}}
use Rattle.std.proofs.lemmas.Bool.Decides.{nat_tests}
use Rattle.std.specs.{List.{list_all}, Map.{lookup}, Str.{bytes_eq}}
use Rattle.rio_num.specs.Word.{is_name_text}
use Rattle.rio_format.specs.{declared.class.Base.{Base}, declared.class.Member.{Member}, declared.kind.Kind.{Kind, TheVariants.{Plain, Counter, Fixed, Counted, Text as Texted, Inline, Pointer, Other}}}
use Rattle.rio_format.specs.{declared.kind.Primitive.{Primitive}, Bodies.{Counters}, Fits.{counted_slot, fixed_by}, Slots.{Slot, kinded, based, flags, any_pointer, link, many, Field, field, base_field, member_field}}
use Rattle.rio_format.proofs.ValueCases.{Each}
use Rattle.rio_model.specs.Readable.{are_bases_first}

-- only objects stand there
abbrev pub is_object_slot : Slot → Bool
is_object_slot (kinded (Inline class)) = true
is_object_slot (based class version) = true
is_object_slot other = false

abbrev pub kind_levels : Kind → ℕ → ℕ
kind_levels (Plain of) d = 0
kind_levels Counter d = 0
kind_levels (Fixed of count) d = 1
kind_levels (Counted of counter) d = 1
kind_levels Texted d = 0
kind_levels (Inline class) d = 3 * d
kind_levels (Pointer class) d = 3 * d
kind_levels (Other code) d = 0

-- how many brackets are within one another in the text of a value of this depth
abbrev pub levels_of : Slot → ℕ → ℕ
levels_of (kinded kind) d = kind_levels kind d
levels_of (based class version) d = 3 * d
levels_of flags d = 0
levels_of any_pointer d = 3 * d
levels_of link d = 3 * d + 1
levels_of (many slot) d = levels_of slot d + 1

-- ---- counted slots

fixed_low : (of : Primitive) (o : Option ℤ) (d : ℕ) → levels_of (fixed_by of o) d ≤ 1
fixed_low of None d = omega arith
fixed_low of (Some (pos n)) d = omega arith
fixed_low of (Some (negsuc n)) d = omega arith

pub counted_low : (counters : Counters) (slot : Slot) (d : ℕ) → levels_of (counted_slot counters slot) d ≤ levels_of slot d
counted_low counters (kinded (Plain of)) d = omega arith
counted_low counters (kinded Counter) d = omega arith
counted_low counters (kinded (Fixed of count)) d = omega arith
counted_low counters (kinded (Counted of counter)) d = fixed_low of (lookup (bytes_eq counter) counters) d
counted_low counters (kinded Texted) d = omega arith
counted_low counters (kinded (Inline class)) d = omega arith
counted_low counters (kinded (Pointer class)) d = omega arith
counted_low counters (kinded (Other code)) d = omega arith
counted_low counters (based class version) d = omega arith
counted_low counters flags d = omega arith
counted_low counters any_pointer d = omega arith
counted_low counters link d = omega arith
counted_low counters (many slot) d = omega arith

pub counted_object : (counters : Counters) (slot : Slot) → is_object_slot slot ≡ true → is_object_slot (counted_slot counters slot) ≡ true
counted_object counters (kinded (Inline class)) e = refl
counted_object counters (based class version) e = refl
counted_object counters other e = absurd cc

-- ---- fields

-- a part's text has at most two brackets more within one another than three for each level below, and its name is a name or it is a base
pub record IsPlaced (f : Field) : Type 0 where
  pub low : (d : ℕ) → levels_of f.slot d ≤ 3 * d + 2
  pub named : cond (length f.name == 0) (is_object_slot f.slot) (is_name_text f.name) ≡ true

kind_low : (kind : Kind) (d : ℕ) → kind_levels kind d ≤ 3 * d + 2
kind_low (Plain of) d = omega arith
kind_low Counter d = omega arith
kind_low (Fixed of count) d = omega arith
kind_low (Counted of counter) d = omega arith
kind_low Texted d = omega arith
kind_low (Inline class) d = omega arith
kind_low (Pointer class) d = omega arith
kind_low (Other code) d = omega arith

some_length : (n : ℕ) → (suc n == 0) ≡ false
some_length n = grind (arith, nat_tests)

long : (name : List ℕ) (is_object : Bool) → is_name_text name ≡ true → cond (length name == 0) is_object (is_name_text name) ≡ true
long [] is_object e = absurd cc
long (b ∷ bs) is_object e = ap (λ (none : Bool). cond none is_object (is_name_text (b ∷ bs))) (some_length (length bs)) ∙ e

pub placed : (name : List ℕ) (slot : Slot) → is_name_text name ≡ true → ((d : ℕ) → levels_of slot d ≤ 3 * d + 2) → IsPlaced (field name slot)
placed name slot e low = record { low = low; named = long name (is_object_slot slot) e }

pub base_placed : (b : Base) → IsPlaced (base_field b)
base_placed b = record { low = λ d. omega arith; named = refl }

pub member_placed : (m : Member) → is_name_text m.name ≡ true → IsPlaced (member_field m)
member_placed m e = placed m.name (kinded m.kind) e (kind_low m.kind)

members_placed : (ms : List Member) → list_all (λ m. is_name_text m.name) ms ≡ true → Each IsPlaced (map member_field ms)
members_placed [] e = tt
members_placed (m ∷ ms) e = let n = and_parts (is_name_text m.name) (list_all (λ m. is_name_text m.name) ms) e in (member_placed m n.0, members_placed ms n.1)

pub described_placed : (bs : List Base) (ms : List Member) → list_all (λ m. is_name_text m.name) ms ≡ true → Each IsPlaced (map base_field bs ++ map member_field ms)
described_placed [] ms e = members_placed ms e
described_placed (b ∷ bs) ms e = (base_placed b, described_placed bs ms e)

-- ---- bases first

some_name : (name : List ℕ) → is_name_text name ≡ true → (length name == 0) ≡ false
some_name [] e = absurd cc
some_name (b ∷ bs) e = some_length (length bs)

members_first : (front : Bool) (ms : List Member) → list_all (λ m. is_name_text m.name) ms ≡ true → are_bases_first front (map (λ f. f.name) (map member_field ms)) ≡ true
members_first front [] e = refl
members_first front (m ∷ ms) e =
    let n = and_parts (is_name_text m.name) (list_all (λ m. is_name_text m.name) ms) e in
    rw (some_name m.name n.0) (members_first false ms n.1)

pub described_first : (bs : List Base) (ms : List Member) → list_all (λ m. is_name_text m.name) ms ≡ true → are_bases_first true (map (λ f. f.name) (map base_field bs ++ map member_field ms)) ≡ true
described_first [] ms e = members_first true ms e
described_first (b ∷ bs) ms e = described_first bs ms e
