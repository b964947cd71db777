-- What is had of a value, one layer at a time, and of the base or member of a name.
use Rattle.std.proofs.Common.{◌≡◌, ◌==◌, ◌&&◌, ℕ, ℤ, List, [], ◌∷◌, length, map, Bool, true, false, cond, Option, Some, None, Ok, Err, if◌then◌else◌, refl, ap, ◌∙◌}
use Rattle.std.specs.{Prelude.{find}, Option.{option_and_then, option_map}, Str.{bytes_eq}}
use Rattle.rio_num.specs.Reading.{◌>>=◌}
use Rattle.rio_format.specs.{declared.class.Base.{Base}, declared.class.ClassDef.{ClassDef}, declared.class.Member.{Member}, declared.kind.Kind.{Kind}, declared.value.Part.{Part, Part-F}}
use Rattle.rio_format.specs.{declared.value.Value.{Value, List as Items, Object, Pointed, out-Value, TheOpen.{Value-F}, TheFolds.{fold-Part, fold_out-Part}}, Bodies.{part}}
use Rattle.rio_format.proofs.ValueCases.{Each, by_cases, fold_Int, fold_Bits32, fold_Bits64, fold_Bool, fold_Text, fold_List, fold_Object, fold_Pointed, fold_Null, fold_Back, fold_Opaque}
use Rattle.rio_model.specs.Mapping.{Mapped, Mapping, PartMapping, base_mapped, base_part_of, class_named, convert, flat_mapped, items_mapped, kind_zero, mapping_step, member_mapped, member_part_of, object_as, or_changed, part_mapping, whole_part, zero_of_class}
use Rattle.rio_map.specs.Converting.{flat_as, stays}
use Rattle.rio_map.specs.Versions.{asked_in, base_found, converted, found_of_kind, has_base, if_there, is_base_part, mapped_in, mapping_in, mapping_of_part, member_found, or_else}
use Rattle.rio_map.proofs.ConvertLaws.{convert_is}

-- ---- options and results

map_cond : {A B : Type 0} (f : A → B) (b : Bool) (x : A) (o : Option A) → cond b (Some (f x)) (option_map f o) ≡ option_map f (cond b (Some x) o)
map_cond f true x o = refl
map_cond f false x o = refl

find_mapped : {A B : Type 0} (f : A → B) (test : B → Bool) (same : A → Bool) → ((x : A) → test (f x) ≡ same x) → (xs : List A) → find test (map f xs) ≡ option_map f (find same xs)
find_mapped f test same e [] = refl
find_mapped f test same e (x ∷ xs) =
    ap (λ (b : Bool). cond b (Some (f x)) (find test (map f xs))) (e x)
    ∙ ap (λ (o : Option _). cond (same x) (Some (f x)) o) (find_mapped f test same e xs)
    ∙ map_cond f (same x) x (find same xs)

there_again : {A : Type 0} (other : Mapped A) (r : Mapped A) → r ≡ ((r >>= λ y. Ok (Some y)) >>= or_else other)
there_again other (Ok x) = refl
there_again other (Err e) = refl

module _ (classes : List ClassDef) (asked : ClassDef) where
  abbrev step : Value-F Mapping PartMapping → Mapping
  step = mapping_step classes (asked_in asked)

  abbrev part_step : Part-F Mapping PartMapping → PartMapping
  part_step = λ p. part_mapping p.name p.value

  part_folds : (p : Part) → fold-Part Mapping PartMapping step part_step p ≡ mapping_of_part classes asked p
  part_folds p = fold_out-Part Mapping PartMapping step part_step p

  -- ---- one layer

  pub mapping-List : (vs : List Value) → mapping_in classes asked (Items vs) ≡ record { as_is = Items (map (λ m. m.as_is) (map (mapping_in classes asked) vs)); mapped = items_mapped (map (mapping_in classes asked) vs) >>= λ ws. Ok (Items ws) }
  mapping-List vs = fold_List step part_step vs

  pub mapping-Object : (class : List ℕ) (version : ℤ) (parts : List Part) → mapping_in classes asked (Object class version parts) ≡ record { as_is = Object class version (map whole_part (map (mapping_of_part classes asked) parts)); mapped = object_as classes (asked_in asked) class version (map (mapping_of_part classes asked) parts) }
  mapping-Object class version parts =
      fold_Object step part_step class version parts
      ∙ ap (λ (f : Part → PartMapping). let m : Mapping = record { as_is = Object class version (map whole_part (map f parts)); mapped = object_as classes (asked_in asked) class version (map f parts) } in m) (λ i p. part_folds p i)

  pub mapped-Object : (class : List ℕ) (version : ℤ) (parts : List Part) → mapped_in classes asked (Object class version parts) ≡ object_as classes (asked_in asked) class version (map (mapping_of_part classes asked) parts)
  mapped-Object class version parts = ap (λ (m : Mapping). m.mapped) (mapping-Object class version parts)

  pub mapping-Pointed : (label : ℕ) (object : Value) → mapping_in classes asked (Pointed label object) ≡ record { as_is = Pointed label (mapping_in classes asked object).as_is; mapped = mapped_in classes asked object >>= λ v. Ok (Pointed label v) }
  mapping-Pointed label object = fold_Pointed step part_step label object

  -- ---- a value is kept as it is

  abbrev IsKept : Value → Type 0
  IsKept v = (mapping_in classes asked v).as_is ≡ v

  abbrev kept : Mapping → Value
  kept m = m.as_is

  items_kept : (vs : List Value) → Each IsKept vs → map kept (map (mapping_in classes asked) vs) ≡ vs
  items_kept [] k = refl
  items_kept (v ∷ vs) k = ap (λ (w : Value). w ∷ map kept (map (mapping_in classes asked) vs)) k.0 ∙ ap (λ (ws : List Value). v ∷ ws) (items_kept vs k.1)

  parts_kept : (ps : List Part) → Each (λ p. IsKept p.value) ps → map whole_part (map (mapping_of_part classes asked) ps) ≡ ps
  parts_kept [] k = refl
  parts_kept (p ∷ ps) k =
      ap (λ (v : Value). part p.name v ∷ map whole_part (map (mapping_of_part classes asked) ps)) k.0 ∙ ap (λ (qs : List Part). p ∷ qs) (parts_kept ps k.1)

  pub is_kept : (v : Value) → IsKept v
  is_kept = by_cases IsKept (record {
    int = λ z. ap kept (fold_Int step part_step z);
    bits32 = λ n. ap kept (fold_Bits32 step part_step n);
    bits64 = λ n. ap kept (fold_Bits64 step part_step n);
    truth = λ b. ap kept (fold_Bool step part_step b);
    text = λ t. ap kept (fold_Text step part_step t);
    list = λ vs k. ap kept (mapping-List vs) ∙ ap Items (items_kept vs k);
    object = λ class version parts k. ap kept (mapping-Object class version parts) ∙ ap (Object class version) (parts_kept parts k);
    pointed = λ label object k. ap kept (mapping-Pointed label object) ∙ ap (Pointed label) k;
    null = ap kept (fold_Null step part_step);
    back = λ label. ap kept (fold_Back step part_step label);
    opaque = λ class len. ap kept (fold_Opaque step part_step class len);
  })

  -- ---- the part of a base

  abbrev had : Value → Mapped Value
  had = mapped_in classes asked

  abbrev within : List Part → List PartMapping
  within = map (mapping_of_part classes asked)

  abbrev is_base_mapping : List ℕ → PartMapping → Bool
  is_base_mapping class p = (length p.name == 0) && bytes_eq (class_named (out-Value p.value.as_is)) class

  base_test : (class : List ℕ) (p : Part) → is_base_mapping class (mapping_of_part classes asked p) ≡ is_base_part class p
  base_test class p = ap (λ (v : Value). (length p.name == 0) && bytes_eq (class_named (out-Value v)) class) (is_kept p.value)

  module _ (b : Base) where
    abbrev zero_base : Mapped Value
    zero_base = or_changed b.name (zero_of_class classes b.name)

    base_by : (has : Bool) (o : Option Part) → base_mapped classes b (if has then option_map (λ p. p.value) (option_map (mapping_of_part classes asked) o) else None) ≡ ((if has then if_there (λ p. had p.value) o else Ok None) >>= or_else zero_base)
    base_by true (Some p) = there_again zero_base (had p.value)
    base_by true None = refl
    base_by false o = refl

    base_mapped_is : (bases : List Base) (parts : List Part) → base_mapped classes b (base_part_of bases (within parts) b.name) ≡ (base_found had bases parts b >>= or_else zero_base)
    base_mapped_is bases parts =
        ap (λ (o : Option PartMapping). base_mapped classes b (if has_base bases b.name then option_map (λ p. p.value) o else None)) (find_mapped (mapping_of_part classes asked) (is_base_mapping b.name) (is_base_part b.name) (base_test b.name) parts)
        ∙ base_by (has_base bases b.name) (find (is_base_part b.name) parts)

    pub base_by_found : (bases : List Base) (parts : List Part) (r : Mapped (Option Value)) → base_found had bases parts b ≡ r → base_mapped classes b (base_part_of bases (within parts) b.name) ≡ (r >>= or_else zero_base)
    base_by_found bases parts r e = base_mapped_is bases parts ∙ ap (λ (q : Mapped (Option Value)). q >>= or_else zero_base) e

  -- ---- the part of a member

  module _ (m : Member) where
    abbrev zero_member : Mapped Value
    zero_member = or_changed m.name (kind_zero (zero_of_class classes) m.kind)

    abbrev named_part : Part → Bool
    named_part p = bytes_eq p.name m.name

    flat_is : (test : Bool) (v : Mapped Value) (o : Option Value) → flat_mapped m.name (if test then Some v else option_map Ok o) ≡ (if test then v else or_changed m.name o)
    flat_is true v o = refl
    flat_is false v (Some w) = refl
    flat_is false v None = refl

    converted_is : (from : Kind) (v : Value) → flat_mapped m.name (convert from m.kind (mapping_in classes asked v)) ≡ converted had from m v
    converted_is from v =
        ap (flat_mapped m.name) (convert_is (mapping_in classes asked v) from m.kind)
        ∙ ap (λ (w : Value). flat_mapped m.name (if stays from m.kind w then Some (had v) else option_map Ok (flat_as from m.kind w))) (is_kept v)
        ∙ flat_is (stays from m.kind v) (had v) (flat_as from m.kind v)

    some_by : (n : Member) (o : Option Part) → member_mapped classes m (option_map (λ q. (n.kind, q.value)) (option_map (mapping_of_part classes asked) o)) ≡ (if_there (λ q. converted had n.kind m q.value) o >>= or_else zero_member)
    some_by n None = refl
    some_by n (Some p) = converted_is n.kind p.value ∙ there_again zero_member (converted had n.kind m p.value)

    member_by : (parts : List Part) (o : Option Member) → member_mapped classes m (option_and_then (λ n. option_map (λ q. (n.kind, q.value)) (option_map (mapping_of_part classes asked) (find named_part parts))) o) ≡ (found_of_kind had m parts (option_map (λ n. n.kind) o) >>= or_else zero_member)
    member_by parts None = refl
    member_by parts (Some n) = some_by n (find named_part parts)

    member_mapped_is : (members : List Member) (parts : List Part) → member_mapped classes m (member_part_of members (within parts) m.name) ≡ (member_found had members parts m >>= or_else zero_member)
    member_mapped_is members parts =
        ap (λ (o : Option PartMapping). member_mapped classes m (option_and_then (λ n. option_map (λ q. (n.kind, q.value)) o) (find (λ n. bytes_eq n.name m.name) members))) (find_mapped (mapping_of_part classes asked) (λ q. bytes_eq q.name m.name) named_part (λ p. refl) parts)
        ∙ member_by parts (find (λ n. bytes_eq n.name m.name) members)

    pub member_by_found : (members : List Member) (parts : List Part) (r : Mapped (Option Value)) → member_found had members parts m ≡ r → member_mapped classes m (member_part_of members (within parts) m.name) ≡ (r >>= or_else zero_member)
    member_by_found members parts r e = member_mapped_is members parts ∙ ap (λ (q : Mapped (Option Value)). q >>= or_else zero_member) e
