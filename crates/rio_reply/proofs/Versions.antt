-- Why an object can't be had in a version of its class: a kind has changed, or, where the class isn't known in the version, for that.
use Rattle.std.proofs.Common.{◌≡◌, ℕ, ℤ, List, [], ◌∷◌, ◌++◌, map, length, Bool, true, false, cond, Option, Some, None, Ok, Err, refl, sym, ap, subst, ◌∙◌}
use Rattle.std.specs.{Prelude.{◌==◌, ◌&&◌, find, if◌then◌else◌, is_some, option_and_then}, List.{list_any}, Option.{option_map, option_map_or}, Ordering.{int_eq}, Str.{bytes_eq}}
use Rattle.rio_num.specs.Reading.{◌>>=◌}
use Rattle.rio_format.specs.{Classes.{find_in}, declared.class.Base.{Base}, declared.class.ClassDef.{ClassDef}, declared.class.Member.{Member}}
use Rattle.rio_format.specs.{declared.kind.Kind.{Kind, TheVariants.{Plain, Counter, Fixed, Counted, Text, Inline, Pointer, Other}}, declared.kind.Primitive.TheVariants.{I32}, declared.value.Part.{Part, Part-F}}
use Rattle.rio_format.specs.{declared.value.Value.{Value, Int, Bits32, Bits64, Bool as Truth, Text as Chars, List as Items, Object, Pointed, Null, Back, Opaque, out-Value, TheFolds.{fold-Part, fold_out-Part}}, Bodies.{part}}
use Rattle.rio_format.proofs.ValueCases.{Each, by_cases, fold_Int, fold_Bits32, fold_Bits64, fold_Bool, fold_Text, fold_List, fold_Object, fold_Pointed, fold_Null, fold_Back, fold_Opaque}
use Rattle.rio_model.specs.Mapping.{Asked, Mapped, Mapping, PartMapping, after_bases, as_version, base_mapped, base_part_of, class_named, convert, described_bases, described_members, each_mapped, flat_mapped, in_description, in_own_version, is_list_of, is_object_value, is_pointer_value, is_text_value, items_mapped, kind_zero, list_as, mapping_of, mapping_step, member_mapped, member_part_of, object_as, object_mapped, or_changed, part_mapping, single_as, zero_of_class}
use Rattle.rio_model.specs.{Resolving.{built_in_version, is_known_version}, declared.map_fault.MapFault.{MapFault, TheVariants.{KindChanged, NoVersion, NoMemory}}}

-- ---- what is had, or a changed kind

abbrev IsHad : {A : Type 0} → Mapped A → Type 0
IsHad (Ok x) = Unit {0}
IsHad (Err (KindChanged member)) = Unit {0}
IsHad (Err NoVersion) = ⊥
IsHad (Err NoMemory) = ⊥

then_had : {A B : Type 0} (x : Mapped A) (f : A → Mapped B) → IsHad x → ((a : A) → IsHad (f a)) → IsHad (x >>= f)
then_had (Ok x) f had each = each x
then_had (Err (KindChanged member)) f had each = tt
then_had (Err NoVersion) f had each = absurd had
then_had (Err NoMemory) f had each = absurd had

changed_had : {A : Type 0} (name : List ℕ) (o : Option A) → IsHad (or_changed name o)
changed_had name (Some x) = tt
changed_had name None = tt

each_had : {A : Type 0} (name : A → List ℕ) (value : A → Mapped Value) → ((x : A) → IsHad (value x)) → (xs : List A) → IsHad (each_mapped name value xs)
each_had name value had [] = tt
each_had name value had (x ∷ xs) =
    then_had (value x) (λ v. each_mapped name value xs >>= λ ps. Ok (part (name x) v ∷ ps)) (had x)
    (λ v. then_had (each_mapped name value xs) (λ ps. Ok (part (name x) v ∷ ps)) (each_had name value had xs) (λ ps. tt))

-- ---- parts

abbrev AreHad : List PartMapping → Type 0
AreHad [] = Unit {0}
AreHad (p ∷ ps) = IsHad p.value.mapped × AreHad ps

abbrev IsHadIfThere : Option Mapping → Type 0
IsHadIfThere None = Unit {0}
IsHadIfThere (Some m) = IsHad m.mapped

found_had : (test : PartMapping → Bool) (parts : List PartMapping) → AreHad parts → IsHadIfThere (option_map (λ p. p.value) (find test parts))
found_had test [] had = tt
found_had test (p ∷ ps) had = by (test p) (found_had test ps had.1)
  where
    by : (b : Bool) → IsHadIfThere (option_map (λ q. q.value) (find test ps)) → IsHadIfThere (option_map (λ q. q.value) (cond b (Some p) (find test ps)))
    by true later = had.0
    by false later = later

base_there : (bases : List Base) (parts : List PartMapping) (name : List ℕ) → AreHad parts → IsHadIfThere (base_part_of bases parts name)
base_there bases parts name had = by (list_any (λ b. bytes_eq b.name name) bases)
  where
    by : (b : Bool) → IsHadIfThere (if b then option_map (λ p. p.value) (find (λ p. (length p.name == 0) && bytes_eq (class_named (out-Value p.value.as_is)) name) parts) else None)
    by true = found_had (λ p. (length p.name == 0) && bytes_eq (class_named (out-Value p.value.as_is)) name) parts had
    by false = tt

base_had : (classes : List ClassDef) (b : Base) (o : Option Mapping) → IsHadIfThere o → IsHad (base_mapped classes b o)
base_had classes b (Some m) had = had
base_had classes b None had = changed_had b.name (zero_of_class classes b.name)

-- ---- members

abbrev IsHadIfSome : Option (Mapped Value) → Type 0
IsHadIfSome None = Unit {0}
IsHadIfSome (Some m) = IsHad m

value_had : (o : Option Value) → IsHadIfSome (option_map Ok o)
value_had None = tt
value_had (Some v) = tt

value_had_if : (b : Bool) (o : Option Value) → IsHadIfSome (if b then option_map Ok o else None)
value_had_if true o = value_had o
value_had_if false o = tt

had_if : (b : Bool) (m : Mapped Value) → IsHad m → IsHadIfSome (if b then Some m else None)
had_if true m had = had
had_if false m had = tt

convert_had : (from to : Kind) (m : Mapping) → IsHad m.mapped → IsHadIfSome (convert from to m)
convert_had (Plain from) (Plain to) m had = value_had (single_as from to m.as_is)
convert_had (Plain from) Counter m had = value_had (single_as from I32 m.as_is)
convert_had Counter (Plain to) m had = value_had (single_as I32 to m.as_is)
convert_had Counter Counter m had = value_had (single_as I32 I32 m.as_is)
convert_had (Fixed from count) (Fixed to wanted) m had = value_had_if ((count == wanted) && is_list_of count (out-Value m.as_is)) (list_as from to m.as_is)
convert_had (Counted from counter) (Counted to other) m had = value_had (list_as from to m.as_is)
convert_had Text Text m had = had_if (is_text_value (out-Value m.as_is)) (Ok m.as_is) tt
convert_had (Inline class) (Inline other) m had = had_if (bytes_eq class other && is_object_value (out-Value m.as_is)) m.mapped had
convert_had (Pointer class) (Pointer other) m had = had_if (bytes_eq class other && is_pointer_value (out-Value m.as_is)) m.mapped had
convert_had from to m had = tt

flat_had : (name : List ℕ) (o : Option (Mapped Value)) → IsHadIfSome o → IsHad (flat_mapped name o)
flat_had name (Some m) had = had
flat_had name None had = tt

abbrev IsPartHad : Option (Kind × Mapping) → Type 0
IsPartHad None = Unit {0}
IsPartHad (Some x) = IsHad x.1.mapped

part_had : (kind : Kind) (name : List ℕ) (parts : List PartMapping) → AreHad parts → IsPartHad (option_map (λ p. (kind, p.value)) (find (λ p. bytes_eq p.name name) parts))
part_had kind name [] had = tt
part_had kind name (p ∷ ps) had = by (bytes_eq p.name name) (part_had kind name ps had.1)
  where
    by : (b : Bool) → IsPartHad (option_map (λ q. (kind, q.value)) (find (λ q. bytes_eq q.name name) ps)) → IsPartHad (option_map (λ q. (kind, q.value)) (cond b (Some p) (find (λ q. bytes_eq q.name name) ps)))
    by true later = had.0
    by false later = later

member_there : (members : List Member) (parts : List PartMapping) (name : List ℕ) → AreHad parts → IsPartHad (member_part_of members parts name)
member_there members parts name had = by (find (λ m. bytes_eq m.name name) members)
  where
    by : (o : Option Member) → IsPartHad (option_and_then (λ m. option_map (λ p. (m.kind, p.value)) (find (λ p. bytes_eq p.name name) parts)) o)
    by None = tt
    by (Some m) = part_had m.kind name parts had

member_had : (classes : List ClassDef) (m : Member) (o : Option (Kind × Mapping)) → IsPartHad o → IsHad (member_mapped classes m o)
member_had classes m (Some x) had = flat_had m.name (convert x.0 m.kind x.1) (convert_had x.0 m.kind x.1 had)
member_had classes m None had = changed_had m.name (kind_zero (zero_of_class classes) m.kind)

-- ---- objects

-- a base and a member of the asked version
abbrev base_as : List ClassDef → Option ClassDef → List PartMapping → Base → Mapped Value
base_as classes old parts b = base_mapped classes b (base_part_of (described_bases old) parts b.name)

abbrev member_as : List ClassDef → Option ClassDef → List PartMapping → Member → Mapped Value
member_as classes old parts m = member_mapped classes m (member_part_of (described_members old) parts m.name)

after_had : (bases : List Base) (parts : List PartMapping) → AreHad parts → AreHad (after_bases (λ p. p.name) bases parts)
after_had [] parts had = had
after_had (b ∷ bs) [] had = tt
after_had (b ∷ bs) (p ∷ ps) had = by (length p.name == 0) (after_had bs ps had.1)
  where
    by : (c : Bool) → AreHad (after_bases (λ q. q.name) bs ps) → AreHad (cond c (after_bases (λ q. q.name) bs ps) (p ∷ ps))
    by true later = later
    by false later = had

abbrev own_parts : Option ClassDef → List PartMapping → List PartMapping
own_parts old parts = after_bases (λ p. p.name) (described_bases old) parts

object_had : (classes : List ClassDef) (old : Option ClassDef) (new : ClassDef) (parts : List PartMapping) → AreHad parts → IsHad (object_mapped classes old new parts)
object_had classes old new parts had =
    let own = own_parts old parts in
    let own_had : AreHad own = after_had (described_bases old) parts had in
    then_had (each_mapped (λ b. []) (base_as classes old parts) new.bases) (λ bases. each_mapped (λ m. m.name) (member_as classes old own) new.members >>= λ members. Ok (bases ++ members))
    (each_had (λ b. []) (base_as classes old parts) (λ b. base_had classes b (base_part_of (described_bases old) parts b.name) (base_there (described_bases old) parts b.name had)) new.bases)
    (λ bases. then_had (each_mapped (λ m. m.name) (member_as classes old own) new.members) (λ members. Ok (bases ++ members))
    (each_had (λ m. m.name) (member_as classes old own) (λ m. member_had classes m (member_part_of (described_members old) own m.name) (member_there (described_members old) own m.name own_had)) new.members)
    (λ members. tt))

parts_had : (parts : List PartMapping) → AreHad parts → IsHad (each_mapped (λ p. p.name) (λ p. p.value.mapped) parts)
parts_had [] had = tt
parts_had (p ∷ ps) had =
    then_had p.value.mapped (λ v. each_mapped (λ q. q.name) (λ q. q.value.mapped) ps >>= λ qs. Ok (part p.name v ∷ qs)) had.0
    (λ v. then_had (each_mapped (λ q. q.name) (λ q. q.value.mapped) ps) (λ qs. Ok (part p.name v ∷ qs)) (parts_had ps had.1) (λ qs. tt))

as_had : (classes : List ClassDef) (asked : Asked) (class : List ℕ) (version : ℤ) (parts : List PartMapping) → AreHad parts → IsHad (object_as classes asked class version parts)
as_had classes asked class version parts had = by (bytes_eq class asked.class)
  where
    by : (b : Bool) → IsHad (if b
        then (object_mapped classes (find_in classes class version) asked.described parts >>= λ ps. Ok (Object class asked.version ps))
        else (each_mapped (λ p. p.name) (λ p. p.value.mapped) parts >>= λ ps. Ok (Object class version ps)))
    by true =
        then_had (object_mapped classes (find_in classes class version) asked.described parts) (λ ps. Ok (Object class asked.version ps))
        (object_had classes (find_in classes class version) asked.described parts had) (λ ps. tt)
    by false = then_had (each_mapped (λ p. p.name) (λ p. p.value.mapped) parts) (λ ps. Ok (Object class version ps)) (parts_had parts had) (λ ps. tt)

-- ---- values

module _ (classes : List ClassDef) (asked : Asked) where
  abbrev step_part : Part-F Mapping PartMapping → PartMapping
  step_part p = part_mapping p.name p.value

  abbrev mapped : Value → Mapping
  mapped = mapping_of classes asked

  abbrev mapped_part : Part → PartMapping
  mapped_part = fold-Part Mapping PartMapping (mapping_step classes asked) step_part

  abbrev Had : Value → Type 0
  Had v = IsHad (mapping_of classes asked v).mapped

  leaf : (v : Value) (m : Mapping) → mapping_of classes asked v ≡ m → IsHad m.mapped → Had v
  leaf v m is had = subst (λ (n : Mapping). IsHad n.mapped) (sym is) had

  items_had : (vs : List Value) → Each Had vs → IsHad (items_mapped (map mapped vs))
  items_had [] had = tt
  items_had (v ∷ vs) had =
      then_had (mapped v).mapped (λ w. items_mapped (map mapped vs) >>= λ ws. Ok (w ∷ ws)) had.0
      (λ w. then_had (items_mapped (map mapped vs)) (λ ws. Ok (w ∷ ws)) (items_had vs had.1) (λ ws. tt))

  part_is : (p : Part) → mapped_part p ≡ part_mapping p.name (mapped p.value)
  part_is p = fold_out-Part Mapping PartMapping (mapping_step classes asked) step_part p

  all_had : (ps : List Part) → Each (λ p. Had p.value) ps → AreHad (map mapped_part ps)
  all_had [] had = tt
  all_had (p ∷ ps) had = (subst (λ (q : PartMapping). IsHad q.value.mapped) (sym (part_is p)) had.0, all_had ps had.1)

  value_is_had : (v : Value) → Had v
  value_is_had = by_cases Had (record {
    int = λ z. leaf (Int z) _ (fold_Int (mapping_step classes asked) step_part z) tt;
    bits32 = λ n. leaf (Bits32 n) _ (fold_Bits32 (mapping_step classes asked) step_part n) tt;
    bits64 = λ n. leaf (Bits64 n) _ (fold_Bits64 (mapping_step classes asked) step_part n) tt;
    truth = λ b. leaf (Truth b) _ (fold_Bool (mapping_step classes asked) step_part b) tt;
    text = λ t. leaf (Chars t) _ (fold_Text (mapping_step classes asked) step_part t) tt;
    list = λ vs had. leaf (Items vs) _ (fold_List (mapping_step classes asked) step_part vs)
        (then_had (items_mapped (map mapped vs)) (λ ws. Ok (Items ws)) (items_had vs had) (λ ws. tt));
    object = λ class version parts had. leaf (Object class version parts) _ (fold_Object (mapping_step classes asked) step_part class version parts)
        (as_had classes asked class version (map mapped_part parts) (all_had parts had));
    pointed = λ label object had. leaf (Pointed label object) _ (fold_Pointed (mapping_step classes asked) step_part label object)
        (then_had (mapped object).mapped (λ w. Ok (Pointed label w)) had (λ w. tt));
    null = leaf Null _ (fold_Null (mapping_step classes asked) step_part) tt;
    back = λ label. leaf (Back label) _ (fold_Back (mapping_step classes asked) step_part label) tt;
    opaque = λ class len. leaf (Opaque class len) _ (fold_Opaque (mapping_step classes asked) step_part class len) tt;
  })

-- ---- versions

-- an object is had where the class is known in the version, unless a kind has changed; where it isn't, that is why
abbrev pub IsHadByVersion : {A : Type 0} → Bool → Mapped A → Type 0
IsHadByVersion known (Ok x) = known ≡ true
IsHadByVersion known (Err (KindChanged member)) = known ≡ true
IsHadByVersion known (Err NoVersion) = known ≡ false
IsHadByVersion known (Err NoMemory) = ⊥

known_had : {A : Type 0} (known : Bool) (x : Mapped A) → known ≡ true → IsHad x → IsHadByVersion known x
known_had known (Ok x) is had = is
known_had known (Err (KindChanged member)) is had = is
known_had known (Err NoVersion) is had = absurd had
known_had known (Err NoMemory) is had = absurd had

pub had_by_version : (classes : List ClassDef) (class : List ℕ) (version : ℤ) (v : Value) → IsHadByVersion (is_known_version classes class version) (as_version classes class version v)
unfolding as_version
had_by_version classes class version v = by (built_in_version class) (find_in classes class version)
  where
    own_had : (b : Bool) → let r : Mapped Value = if b then Ok v else Err NoVersion in IsHadByVersion b r
    own_had true = refl
    own_had false = refl

    by : (built : Option ℤ) (found : Option ClassDef) → IsHadByVersion (option_map_or (int_eq version) built (is_some found)) (option_map_or (in_own_version version v) built (in_description classes class version v found))
    by (Some own) found = own_had (int_eq version own)
    by None None = refl
    by None (Some c) = known_had true (in_description classes class version v (Some c)) refl (value_is_had classes (record { class = class; version = version; described = c }) v)
