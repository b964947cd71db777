-- Which classes have numbers that their elements can hold.
use Rattle.std.proofs.Common.{◌≡◌, ◌≤◌, ◌<◌, ◌∙◌, ◌&&◌, ◌==◌, ◌^◌, ◌*◌, not, ℕ, true, List, [], ◌∷◌, ◌++◌, length, refl, arith, nat_lt, nat_le}
use Rattle.std.proofs.{lemmas.Bool.{and_from, and_parts, leb-true, lt-ltb}, lemmas.List.Folds.{list_all-append}}
use Rattle.std.specs.List.{list_all}
use Rattle.rio_num.specs.Word.{is_name_text}
use Rattle.rio_format.specs.{declared.class.ClassDef.{ClassDef}, declared.class.Member.{Member}, declared.kind.Kind.{Kind, TheVariants.{Plain, Counter, Fixed, Counted, Text as Texted, Inline, Pointer, Other}}}
use Rattle.rio_format.specs.{declared.kind.Primitive.{Primitive, TheVariants.{I8, I16, I32, I64, U8, U16, U32, U64, Bool as Boolean, F32, F64}}, Fits.{fits_signed}, Prims.{width_of}}
use Rattle.rio_format.specs.TreeClasses.{branch_members, leaf_members, object_branch_members, tree_classes, tree_members}
use Rattle.rio_model.specs.ClassGrammar.{has_member, primitive_of}
use Rattle.rio_model.specs.Stated.{has_stated_parts, are_stated_bases, are_stated_members, is_class_version, is_stated_kind, is_stated_member}
use Rattle.rio_model.specs.Described.{DescribedHaveNumbers, HaveNumbers, WrittenAreDescribed, WrittenHaveNumbers, has_class_numbers, has_numbers, is_base_number, is_described, kind_has_numbers, member_has_numbers}
use Rattle.rio_model.proofs.DescribedClasses.{version_fits}

-- ---- classes that a declaration can give

size_low : (of : Primitive) (count : ℕ) → count ≤ 100000 → width_of of * count < 2 ^ 31
size_low I8 count low = omega (arith, low)
size_low I16 count low = omega (arith, low)
size_low I32 count low = omega (arith, low)
size_low I64 count low = omega (arith, low)
size_low U8 count low = omega (arith, low)
size_low U16 count low = omega (arith, low)
size_low U32 count low = omega (arith, low)
size_low U64 count low = omega (arith, low)
size_low Boolean count low = omega (arith, low)
size_low F32 count low = omega (arith, low)
size_low F64 count low = omega (arith, low)

kind_holds : (before : List Member) (name : List ℕ) (after : List Member) (kind : Kind) → is_stated_kind before name after kind ≡ true → kind_has_numbers kind ≡ true
kind_holds before name after (Plain of) e = refl
kind_holds before name after Counter e = refl
kind_holds before name after (Fixed of count) e =
    let h = and_parts (nat_le 1 count) (nat_le count 100000) e in
    lt-ltb (width_of of * count) (2 ^ 31) (size_low of count (leb-true count 100000 h.1))
kind_holds before name after (Counted of counter) e = refl
kind_holds before name after Texted e = refl
kind_holds before name after (Inline class) e = refl
kind_holds before name after (Pointer class) e = refl
kind_holds before name after (Other code) e = absurd cc

members_hold : (after before : List Member) → are_stated_members before after ≡ true → list_all member_has_numbers after ≡ true
members_hold [] before e = refl
members_hold (m ∷ after) before e =
    let h = and_parts (is_stated_member before m after) (are_stated_members (before ++ m ∷ []) after) e in
    let titled = and_parts (is_name_text m.name && not (has_member before m.name) && is_stated_kind before m.name after m.kind) (length m.title == 0) h.0 in
    let stated = and_parts (is_name_text m.name && not (has_member before m.name)) (is_stated_kind before m.name after m.kind) titled.0 in
    and_from (member_has_numbers m) (list_all member_has_numbers after) (kind_holds before m.name after m.kind stated.1) (members_hold after (before ++ m ∷ []) h.1)

class_holds : (c : ClassDef) → is_described c ≡ true → has_numbers c ≡ true
class_holds c e =
    let parts = and_parts (has_stated_parts c) (has_class_numbers c) e in
    let numbers = and_parts (nat_lt c.sum (2 ^ 32)) (list_all is_base_number c.bases) parts.1 in
    let members = and_parts (is_name_text c.name && is_class_version c.version && are_stated_bases [] c.bases) (are_stated_members [] c.members) parts.0 in
    let bases = and_parts (is_name_text c.name && is_class_version c.version) (are_stated_bases [] c.bases) members.0 in
    let version = and_parts (is_name_text c.name) (is_class_version c.version) bases.0 in
    and_from (nat_lt c.sum (2 ^ 32) && fits_signed 32 c.version && list_all is_base_number c.bases) (list_all member_has_numbers c.members)
    (and_from (nat_lt c.sum (2 ^ 32) && fits_signed 32 c.version) (list_all is_base_number c.bases) (and_from (nat_lt c.sum (2 ^ 32)) (fits_signed 32 c.version) numbers.0 (version_fits c.version version.1)) numbers.1)
    (members_hold c.members [] members.1)

pub described_have_numbers : DescribedHaveNumbers
described_have_numbers [] e = refl
described_have_numbers (c ∷ cs) e =
    let h = and_parts (is_described c) (list_all is_described cs) e in
    and_from (has_numbers c) (list_all has_numbers cs) (class_holds c h.0) (described_have_numbers cs h.1)

-- ---- the classes of trees

trees_hold : HaveNumbers tree_classes
unfolding tree_classes tree_members branch_members object_branch_members leaf_members
trees_hold = refl

pub written_have_numbers : WrittenHaveNumbers
written_have_numbers declared numbers = list_all-append has_numbers tree_classes declared ∙ and_from (list_all has_numbers tree_classes) (list_all has_numbers declared) trees_hold numbers

trees_described : list_all is_described tree_classes ≡ true
unfolding tree_classes tree_members branch_members object_branch_members leaf_members primitive_of
trees_described = refl

pub written_are_described : WrittenAreDescribed
written_are_described declared described = list_all-append is_described tree_classes declared ∙ and_from (list_all is_described tree_classes) (list_all is_described declared) trees_described described
