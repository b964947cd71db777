-- The fields of an object that fits, and the names of its class.
use Rattle.std.proofs.Common.{◌≡◌, ◌&&◌, ℕ, ℤ, pos, Bool, true, false, cond, List, [], ◌∷◌, ◌++◌, map, codes, Option, Some, None, refl, ap, subst, arith}
use Rattle.std.proofs.{lemmas.Bool.{and_parts, Decides.{Decides-int_eq}}, lemmas.Slice.Eq.{bytes_eq-Decides}}
use Rattle.std.specs.{List.{list_all}, Ordering.{int_eq}, Str.{bytes_eq}}
use Rattle.rio_num.specs.Word.{is_name_text}
use Rattle.rio_format.specs.{Classes.{find_in}, declared.class.ClassDef.{ClassDef}, declared.kind.Kind.TheVariants.{Plain, Text as Texted}, declared.kind.Primitive.TheVariants.{I32, U32}}
use Rattle.rio_format.specs.Bodies.{form_of, Body, described, listed, arrayed, t_named, t_obj_string, t_object_base, built_in, headed_classes, headless_classes, row_of}
use Rattle.rio_format.specs.{declared.form.Form.{Form, TheVariants.{Bare as bare, Numbers as numbers, Headed as headed}}, Fits.{Labels, Fitting, fields_fit, parts_fit}}
use Rattle.rio_format.specs.Slots.{Field, kinded, flags, any_pointer, link, many, field, base_field, member_field, body_fields, form_fields, fields_of, is_headed}
use Rattle.rio_format.proofs.{BuiltInLaws.{of_body, of_each}, ValueCases.{Each}, WrittenObjects.{declared_from}}
use Rattle.rio_model.specs.{Readable.{are_bases_first}, Stated.{is_class_version}}
use Rattle.rio_valtext.specs.Stored.{has_names}
use Rattle.rio_valtext.proofs.StoredSlots.{IsPlaced, placed, base_placed, described_first, described_placed}

-- ---- names and versions

-- the class of an object and its version can be stated, and its members have names
record IsNamed (class : List ℕ) (version : ℤ) (c : ClassDef) : Type 0 where
  class_named : is_name_text class ≡ true
  version_stated : is_class_version version ≡ true
  members_named : list_all (λ m. is_name_text m.name) c.members ≡ true

named_by : (class : List ℕ) (version : ℤ) (c : ClassDef) → has_names c ≡ true → (bytes_eq c.name class && int_eq c.version version) ≡ true → IsNamed class version c
named_by class version c named same =
    let own = and_parts (bytes_eq c.name class) (int_eq c.version version) same in
    let parts = and_parts (is_name_text c.name && is_class_version c.version) (list_all (λ m. is_name_text m.name) c.members) named in
    let words = and_parts (is_name_text c.name) (is_class_version c.version) parts.0 in
    record {
      class_named = subst (λ (n : List ℕ). is_name_text n ≡ true) ((bytes_eq-Decides c.name class).0 own.0) words.0;
      version_stated = subst (λ (z : ℤ). is_class_version z ≡ true) ((Decides-int_eq c.version version).0 own.1) words.1;
      members_named = parts.1;
    }

found_named : (classes : List ClassDef) (class : List ℕ) (version : ℤ) (c : ClassDef) → list_all has_names classes ≡ true → find_in classes class version ≡ Some c → IsNamed class version c
found_named [] class version c named e = absurd cc
found_named (d ∷ ds) class version c named e =
    let n = and_parts (has_names d) (list_all has_names ds) named in
    by n.0 (bytes_eq d.name class && int_eq d.version version) refl e (found_named ds class version c n.1)
  where
    by : has_names d ≡ true → (b : Bool) → (bytes_eq d.name class && int_eq d.version version) ≡ b → cond b (Some d) (find_in ds class version) ≡ Some c → (find_in ds class version ≡ Some c → IsNamed class version c) → IsNamed class version c
    by own true t e rest = let same : d ≡ c = cc in subst (λ (x : ClassDef). IsNamed class version x) same (named_by class version d own t)
    by own false t e rest = rest e

-- ---- classes without a header

form_named : (class : List ℕ) → is_headed (form_of class) ≡ false → is_name_text class ≡ true
form_named class =
    of_each (λ (f : Form). is_headed f ≡ false → is_name_text class ≡ true) (λ b. (row_of b).form) headed headless_classes class
    ((λ c e. ap is_name_text c), ((λ c e. ap is_name_text c), ((λ c e. ap is_name_text c), ((λ c e. ap is_name_text c), ((λ c e. ap is_name_text c), ((λ c e. ap is_name_text c), ((λ c e. ap is_name_text c), tt)))))))
    (λ e. absurd cc)

-- ---- fields

-- the fields that the parts of an object fit
pub record IsFormed (class : List ℕ) (version : ℤ) (parts : List (List ℕ × Fitting)) (before after : Labels) : Type 0 where
  pub class_named : is_name_text class ≡ true
  pub version_stated : is_class_version version ≡ true
  pub fields : List Field
  pub all_placed : Each IsPlaced fields
  pub first : are_bases_first true (map (λ f. f.name) fields) ≡ true
  pub fit : fields_fit fields parts [] before ≡ Some after

-- fields that are there in version 1 alone
first_version : (class : List ℕ) (version : ℤ) (fields : List Field) (parts : List (List ℕ × Fitting)) (before after : Labels) (b : Bool) → is_name_text class ≡ true → Each IsPlaced fields → are_bases_first true (map (λ f. f.name) fields) ≡ true → int_eq version (pos 1) ≡ b
    → parts_fit (cond b (Some fields) None) parts before ≡ Some after → IsFormed class version parts before after
first_version class version fields parts before after true named all first t e = record { class_named = named; version_stated = ap is_class_version ((Decides-int_eq version (pos 1)).0 t); fields = fields; all_placed = all; first = first; fit = e }
first_version class version fields parts before after false named all first t e = absurd cc

abbrev IsBodyKnown : List ℕ → ℤ → Body → Type 0
IsBodyKnown class version body = (parts : List (List ℕ × Fitting)) (before after : Labels) → parts_fit (body_fields (Some body)) parts before ≡ Some after → IsFormed class version parts before after

described_known : (class : List ℕ) (version : ℤ) (c : ClassDef) → IsNamed class version c → IsBodyKnown class version (described c)
described_known class version c n parts before after e = record {
  class_named = n.class_named;
  version_stated = n.version_stated;
  fields = map base_field c.bases ++ map member_field c.members;
  all_placed = described_placed c.bases c.members n.members_named;
  first = described_first c.bases c.members n.members_named;
  fit = e;
}

listed_known : (class : List ℕ) (version : ℤ) → is_name_text class ≡ true → is_class_version version ≡ true → IsBodyKnown class version listed
listed_known class version named stated parts before after e = record {
  class_named = named;
  version_stated = stated;
  fields = base_field t_object_base ∷ field (codes "fName") (kinded Texted) ∷ field (codes "items") (many link) ∷ [];
  all_placed = (base_placed t_object_base, (placed (codes "fName") (kinded Texted) refl (λ d. omega arith), (placed (codes "items") (many link) refl (λ d. omega arith), tt)));
  first = refl;
  fit = e;
}

arrayed_known : (class : List ℕ) (version : ℤ) → is_name_text class ≡ true → is_class_version version ≡ true → IsBodyKnown class version arrayed
arrayed_known class version named stated parts before after e = record {
  class_named = named;
  version_stated = stated;
  fields = base_field t_object_base ∷ field (codes "fName") (kinded Texted) ∷ field (codes "fLowerBound") (kinded (Plain I32)) ∷ field (codes "items") (many any_pointer) ∷ [];
  all_placed = (base_placed t_object_base, (placed (codes "fName") (kinded Texted) refl (λ d. omega arith), (placed (codes "fLowerBound") (kinded (Plain I32)) refl (λ d. omega arith), (placed (codes "items") (many any_pointer) refl (λ d. omega arith), tt))));
  first = refl;
  fit = e;
}

built_known : (class : List ℕ) (version : ℤ) (body : Body) → built_in class version ≡ Some body → IsBodyKnown class version body
built_known class version body =
    of_body (λ o. o ≡ Some body → IsBodyKnown class version body) headed_classes class version (
      (λ c v. like t_named refl (ap is_name_text c) (ap is_class_version v)),
      (
        (λ c v. like t_obj_string refl (ap is_name_text c) (ap is_class_version v)),
        ((λ c v. by listed (listed_known class version (ap is_name_text c) (ap is_class_version v))), ((λ c v. by arrayed (arrayed_known class version (ap is_name_text c) (ap is_class_version v))), tt)),
      ),
    )
    (λ e. absurd cc)
  where
    by : (own : Body) → IsBodyKnown class version own → Some own ≡ Some body → IsBodyKnown class version body
    by own known e = let same : own ≡ body = cc in subst (IsBodyKnown class version) same known

    like : (own : ClassDef) → list_all (λ m. is_name_text m.name) own.members ≡ true → is_name_text class ≡ true → is_class_version version ≡ true → Some (described own) ≡ Some body → IsBodyKnown class version body
    like own members c v = by (described own) (described_known class version own (record { class_named = c; version_stated = v; members_named = members }))

declared_known : (class : List ℕ) (version : ℤ) (own : Option Body) (found : Option ClassDef) → ((body : Body) → own ≡ Some body → IsBodyKnown class version body) → ((c : ClassDef) → found ≡ Some c → IsNamed class version c)
    → (parts : List (List ℕ × Fitting)) (before after : Labels) → parts_fit (body_fields (declared_from found own)) parts before ≡ Some after → IsFormed class version parts before after
declared_known class version (Some body) found built named parts before after e = built body refl parts before after e
declared_known class version None (Some c) built named parts before after e = described_known class version c (named c refl) parts before after e
declared_known class version None None built named parts before after e = absurd cc

module _ (classes : List ClassDef) (named : list_all has_names classes ≡ true) where
  form_known : (class : List ℕ) (version : ℤ) (form : Form) → form_of class ≡ form → (parts : List (List ℕ × Fitting)) (before after : Labels) → parts_fit (form_fields classes class version form) parts before ≡ Some after → IsFormed class version parts before after
  form_known class version bare is parts before after e =
      first_version class version (field (codes "fUniqueID") (kinded (Plain U32)) ∷ field (codes "fBits") flags ∷ []) parts before after (int_eq version (pos 1)) (form_named class (ap is_headed is))
      (placed (codes "fUniqueID") (kinded (Plain U32)) refl (λ d. omega arith), (placed (codes "fBits") flags refl (λ d. omega arith), tt)) refl refl e
  form_known class version (numbers of) is parts before after e =
      first_version class version (field (codes "items") (many (kinded (Plain of))) ∷ []) parts before after (int_eq version (pos 1)) (form_named class (ap is_headed is))
      (placed (codes "items") (many (kinded (Plain of))) refl (λ d. omega arith), tt) refl refl e
  form_known class version headed is parts before after e =
      declared_known class version (built_in class version) (find_in classes class version) (built_known class version) (λ c found. found_named classes class version c named found) parts before after e

  pub object_formed : (class : List ℕ) (version : ℤ) (parts : List (List ℕ × Fitting)) (before after : Labels) → parts_fit (fields_of classes class version) parts before ≡ Some after → IsFormed class version parts before after
  object_formed class version parts before after e = form_known class version (form_of class) refl parts before after e
