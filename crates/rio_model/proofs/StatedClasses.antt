-- What a text declares is a class that a declaration can give.
use Rattle.std.proofs.{Common.{◌≡◌, ℕ, pos, List, [], codes, true, ◌==◌, ◌&&◌, Ok, Err, refl, ap, subst}, lemmas.Bool.{and_from, eq-eqb}}
use Rattle.rio_num.specs.{At.{At}, Reading.{◌>>=◌}, Word.{is_name_text}}
use Rattle.rio_num.proofs.ReadLaws.{bind_ok, ok_is}
use Rattle.rio_format.specs.{declared.class.Base.{Base}, declared.class.ClassDef.{ClassDef}, declared.class.Member.{Member}}
use Rattle.rio_token.specs.{Tokens.{standing_in}, Reading.{Read, end_at, keyword_at, list_at, name_at, version_at}}
use Rattle.rio_model.specs.{ClassText.{text_of_class}, ClassGrammar.{bases_at, checksum_of, class_at, class_of, member_at, only_class, with_counters, with_sum}}
use Rattle.rio_model.specs.Stated.{ReadClassesAreStated, are_stated_bases, are_stated_members, has_stated_parts, is_class_version, is_stated_class, with_plain_bases}
use Rattle.rio_model.proofs.{StatedKinds.{version_ok, word_that_ok}, StatedMembers.{bases_plain, bases_stated, members_stated}}
use Rattle.rio_model.proofs.StatedParts.{AllKeep, RawBase, RawMember, bases_ok, members_ok}

-- what is true of a class that is read
record Declared (class : ClassDef) : Type 0 where
  stated : is_stated_class class ≡ true
  plain : with_plain_bases class ≡ class

module _ (name : List ℕ) (version : ℕ) (bases : List Base) (members : List Member) where
  abbrev unsummed : ClassDef
  unsummed = record { name = name; version = pos version; sum = 0; bases = bases; members = with_counters members }

  same_sum : checksum_of unsummed ≡ checksum_of (with_sum unsummed)
  unfolding checksum_of text_of_class
  same_sum = refl

  declared : is_name_text name ≡ true → is_class_version (pos version) ≡ true → AllKeep RawBase [] bases → AllKeep RawMember [] members → Declared (class_of name version bases members)
  unfolding is_stated_class
  declared named numbered raw_bases raw_members =
      let words = and_from (is_name_text name) (is_class_version (pos version)) named numbered in
      let based = and_from (is_name_text name && is_class_version (pos version)) (are_stated_bases [] bases) words (bases_stated [] bases raw_bases) in
      let parts : has_stated_parts (class_of name version bases members) ≡ true = and_from (is_name_text name && is_class_version (pos version) && are_stated_bases [] bases) (are_stated_members [] (with_counters members)) based (members_stated members raw_members) in
      let summed : (checksum_of unsummed == checksum_of (with_sum unsummed)) ≡ true = eq-eqb (checksum_of unsummed) (checksum_of (with_sum unsummed)) same_sum in
      record {
        stated = and_from (has_stated_parts (class_of name version bases members)) (checksum_of unsummed == checksum_of (with_sum unsummed)) parts summed;
        plain = ap (λ (bs : List Base). let c : ClassDef = record { name = name; version = pos version; sum = checksum_of unsummed; bases = bs; members = with_counters members } in c) (bases_plain [] bases raw_bases);
      }

class_ok : (s : At) (y : ClassDef × At) → class_at s ≡ Ok y → Declared y.0
unfolding class_at
class_ok s y h =
    let a = bind_ok (keyword_at (codes "class") s) (λ keyword. name_at keyword.1 >>= λ name. version_at name.1 >>= λ version. bases_at version.1 >>= λ bases. list_at 125 member_at bases.1 >>= λ members. end_at members.1 >>= λ done. Ok (class_of name.0 version.0 bases.0 members.0, done.1)) y h in
    let b = bind_ok (name_at a.0.1) (λ name. version_at name.1 >>= λ version. bases_at version.1 >>= λ bases. list_at 125 member_at bases.1 >>= λ members. end_at members.1 >>= λ done. Ok (class_of name.0 version.0 bases.0 members.0, done.1)) y a.2 in
    let c = bind_ok (version_at b.0.1) (λ version. bases_at version.1 >>= λ bases. list_at 125 member_at bases.1 >>= λ members. end_at members.1 >>= λ done. Ok (class_of b.0.0 version.0 bases.0 members.0, done.1)) y b.2 in
    let d = bind_ok (bases_at c.0.1) (λ bases. list_at 125 member_at bases.1 >>= λ members. end_at members.1 >>= λ done. Ok (class_of b.0.0 c.0.0 bases.0 members.0, done.1)) y c.2 in
    let e = bind_ok (list_at 125 member_at d.0.1) (λ members. end_at members.1 >>= λ done. Ok (class_of b.0.0 c.0.0 d.0.0 members.0, done.1)) y d.2 in
    let f = bind_ok (end_at e.0.1) (λ done. Ok (class_of b.0.0 c.0.0 d.0.0 e.0.0, done.1)) y e.2 in
    let same : class_of b.0.0 c.0.0 d.0.0 e.0.0 ≡ y.0 = ap (λ (q : ClassDef × At). q.0) (ok_is (class_of b.0.0 c.0.0 d.0.0 e.0.0, f.0.1) y f.2) in
    subst (λ (class : ClassDef). Declared class) same (declared b.0.0 c.0.0 d.0.0 e.0.0 (word_that_ok is_name_text a.0.1 b.0 b.1) (version_ok b.0.1 c.0 c.1) (bases_ok c.0.1 d.0 d.1) (members_ok d.0.1 e.0 e.1))

only_ok : (r : Read ClassDef) (class : ClassDef) → only_class r ≡ Ok class → (y : ClassDef × At) × (r ≡ Ok y) × (y.0 ≡ class)
only_ok (Ok y) class h = (y, refl, ok_is y.0 class h)
only_ok (Err e) class h = absurd (cc)

pub read_classes_are_stated : ReadClassesAreStated
read_classes_are_stated text place class h =
    let read = only_ok (class_at (standing_in place text)) class h in
    let known : Declared class = subst (λ (c : ClassDef). Declared c) read.2 (class_ok (standing_in place text) read.0 read.1) in
    (known.stated, known.plain)
