-- What a file stores is read from its text.
use Rattle.std.proofs.{Common.{◌≡◌, ◌&&◌, ◌==◌, true, List, [], ◌∷◌, ◌++◌, length, not, refl, arith}, lemmas.Bool.{and_from, and_parts}}
use Rattle.std.specs.List.{list_all}
use Rattle.rio_num.specs.Word.{is_name_text}
use Rattle.rio_num.proofs.Cases.{some_of}
use Rattle.rio_format.specs.{declared.class.ClassDef.{ClassDef}, declared.class.Member.{Member}, declared.kind.Kind.TheVariants.{Inline}, Fits.{fitting_of}, Objects.{depth_limit}, Slots.{kinded}}
use Rattle.rio_model.specs.ClassGrammar.{has_member}
use Rattle.rio_model.specs.Stated.{are_stated_bases, are_stated_members, has_stated_parts, is_class_version, is_stated_kind, is_stated_member}
use Rattle.rio_model.specs.ValueGrammar.{bracket_limit}
use Rattle.rio_model.proofs.ReadLayers.{values_are_read}
use Rattle.rio_valtext.specs.Stored.{StatedHasNames, StoredIsRead, StoredIsReadable, has_names}
use Rattle.rio_valtext.proofs.StoredValues.{each_read}

pub stored_is_readable : StoredIsReadable
stored_is_readable classes class v named fit deep held =
    let h = some_of ((fitting_of classes v).fits (kinded (Inline class)) []) fit in
    (each_read classes named v (kinded (Inline class)) [] h.0 depth_limit bracket_limit h.1 deep held (omega arith)).within

pub stored_is_read : StoredIsRead
stored_is_read front rest classes class v named fit deep held follows = values_are_read front rest v (stored_is_readable classes class v named fit deep held) follows

-- ---- stated classes

members_have_names : (before ms : List Member) → are_stated_members before ms ≡ true → list_all (λ m. is_name_text m.name) ms ≡ true
members_have_names before [] e = refl
members_have_names before (m ∷ ms) e =
    let n = and_parts (is_stated_member before m ms) (are_stated_members (before ++ m ∷ []) ms) e in
    let titled = and_parts (is_name_text m.name && not (has_member before m.name) && is_stated_kind before m.name ms m.kind) (length m.title == 0) n.0 in
    let kind = and_parts (is_name_text m.name && not (has_member before m.name)) (is_stated_kind before m.name ms m.kind) titled.0 in
    let name = and_parts (is_name_text m.name) (not (has_member before m.name)) kind.0 in
    and_from (is_name_text m.name) (list_all (λ m. is_name_text m.name) ms) name.0 (members_have_names (before ++ m ∷ []) ms n.1)

class_has_names : (c : ClassDef) → has_stated_parts c ≡ true → has_names c ≡ true
class_has_names c e =
    let words = is_name_text c.name && is_class_version c.version in
    let parts = and_parts (words && are_stated_bases [] c.bases) (are_stated_members [] c.members) e in
    let front = and_parts words (are_stated_bases [] c.bases) parts.0 in
    and_from words (list_all (λ m. is_name_text m.name) c.members) front.0 (members_have_names [] c.members parts.1)

pub stated_has_names : StatedHasNames
stated_has_names [] e = refl
stated_has_names (c ∷ cs) e =
    let parts = and_parts (has_stated_parts c) (list_all has_stated_parts cs) e in
    and_from (has_names c) (list_all has_names cs) (class_has_names c parts.0) (stated_has_names cs parts.1)
