-- A value that fits is itself in the version of the objects of a class in it.
use Rattle.std.proofs.Common.{◌≡◌, ◌&&◌, ◌||◌, ◌==◌, ℕ, ℤ, List, [], ◌∷◌, ◌++◌, length, map, Bool, true, false, not, Option, Some, None, Ok, if◌then◌else◌, refl, sym, ap, subst, ◌∙◌}
use Rattle.std.proofs.lemmas.{Bool.{and_parts, Decides.{Decides-int_eq}}, Option.{option_and_then_some}, Slice.Eq.{bytes_eq-Decides}}
use Rattle.std.specs.{Prelude.{is_some}, List.{list_all}, Option.{option_map_or}, Ordering.{int_eq}, Str.{bytes_eq}}
use Rattle.rio_num.specs.Reading.{◌>>=◌}
use Rattle.rio_num.proofs.Cases.{some_of}
use Rattle.rio_format.specs.{Classes.{find_in}, declared.class.Base.{Base}, declared.class.ClassDef.{ClassDef}, declared.class.Member.{Member}, declared.kind.Kind.TheVariants.{Plain, Fixed, Text as Texted, Inline}}
use Rattle.rio_format.specs.{declared.value.Part.{Part}, declared.value.Value.{Value, List as Items, Object, Pointed, TheFolds.{fold-Part, fold_out-Part}}}
use Rattle.rio_format.specs.{Bodies.{Counters, part}, Fits.{Fitting, Labels, all_fit, counted_slot, counted_so_far, fields_fit, fitting_of, fitting_step, link_fits, list_fits, may_point, object_may_stand, parts_fit, pointed_fits}}
use Rattle.rio_format.specs.Slots.{Field, Slot, any_pointer, base_field, based, fields_of, kinded, link, many, member_field}
use Rattle.rio_format.proofs.{Tests.{named_as}, WrittenLists.{fittings}, WrittenValues.{fit_object}}
use Rattle.rio_format.proofs.ValueCases.{Each, by_cases, fold_Int, fold_Bits32, fold_Bits64, fold_Bool, fold_Text, fold_List, fold_Object, fold_Pointed, fold_Null, fold_Back, fold_Opaque}
use Rattle.rio_model.specs.Mapping.{Mapped, Mapping, PartMapping, after_bases, as_version, each_mapped, items_mapped, mapping_step, object_as, object_mapped, part_mapping}
use Rattle.rio_model.specs.{Resolving.{built_in_version}, Stated.{are_stated_bases, are_stated_members}}
use Rattle.rio_map.specs.{Laws.{SameVersionStays, is_in_version, is_in_version_step}, Versions.{asked_in, behind, mapped_in, mapping_in, mapping_of_part, members_as}}
use Rattle.rio_map.proofs.MappingLaws.{mapped-Object, mapping-List, mapping-Pointed}
use Rattle.rio_map.proofs.PairedLaws.{AreBases, AreMembers, bases_had, members_had}
use Rattle.rio_map.proofs.{SingleLaws.{base_named, kind_same, tested}, StatedLaws.{IsPlain, fields_found, plain_found}, VersionLaws.{after_bases_mapped, as_built_in, as_described, found_named, object_by_bases}}

module _ (classes : List ClassDef) (c : ClassDef) (plain : IsPlain c) (found : find_in classes c.name c.version ≡ Some c) where
  abbrev had : Value → Mapped Value
  had = mapped_in classes c

  abbrev fit : Value → Fitting
  fit = fitting_of classes

  abbrev holds : Value → Bool
  holds = is_in_version c.name c.version

  abbrev IsHad : Value → Type 0
  IsHad v = had v ≡ Ok v

  abbrev IsSame : Value → Type 0
  IsSame v = (slot : Slot) (before after : Labels) → (fit v).fits slot before ≡ Some after → holds v ≡ true → IsHad v

  record FitsSomewhere (v : Value) : Type 0 where
    slot : Slot
    before : Labels
    after : Labels
    fits : (fit v).fits slot before ≡ Some after

  somewhere : (v : Value) (slot : Slot) (before after : Labels) → (fit v).fits slot before ≡ Some after → FitsSomewhere v
  somewhere v slot before after e = record { slot = slot; before = before; after = after; fits = e }

  -- ---- lists

  all_somewhere : (slot : Slot) (vs : List Value) (before after : Labels) → all_fit slot (map fit vs) before ≡ Some after → Each FitsSomewhere vs
  all_somewhere slot [] before after e = tt
  all_somewhere slot (v ∷ vs) before after e =
      option_and_then_some (all_fit slot (map fit vs)) ((fit v).fits slot before) after e (λ mid first rest.
      (somewhere v slot before mid first, all_somewhere slot vs mid after rest))

  link_somewhere : (vs : List Value) (before after : Labels) → link_fits (map fit vs) before ≡ Some after → Each FitsSomewhere vs
  link_somewhere [] before after e = absurd cc
  link_somewhere (v ∷ []) before after e = absurd cc
  link_somewhere (v ∷ w ∷ []) before after e =
      option_and_then_some ((fit w).fits (kinded Texted)) ((fit v).fits any_pointer before) after e (λ mid first rest.
      (somewhere v any_pointer before mid first, (somewhere w (kinded Texted) mid after rest, tt)))
  link_somewhere (v ∷ w ∷ x ∷ vs) before after e = absurd cc

  list_somewhere : (vs : List Value) (slot : Slot) (before after : Labels) → list_fits (map fit vs) slot before ≡ Some after → Each FitsSomewhere vs
  list_somewhere vs (kinded (Fixed of count)) before after e =
      all_somewhere (kinded (Plain of)) vs before after (tested (length (map fit vs) == count) (all_fit (kinded (Plain of)) (map fit vs) before) after e).1
  list_somewhere vs link before after e = link_somewhere vs before after e
  list_somewhere vs (many slot) before after e = all_somewhere slot vs before after e
  list_somewhere vs other before after e = absurd cc

  each_had : (vs : List Value) → Each IsSame vs → Each FitsSomewhere vs → list_all (λ b. b) (map holds vs) ≡ true → Each IsHad vs
  each_had [] same fits in_version = tt
  each_had (v ∷ vs) same fits in_version =
      let h = and_parts (holds v) (list_all (λ b. b) (map holds vs)) in_version in
      (same.0 fits.0.slot fits.0.before fits.0.after fits.0.fits h.0, each_had vs same.1 fits.1 h.1)

  items_had : (vs : List Value) → Each IsHad vs → items_mapped (map (mapping_in classes c) vs) ≡ Ok vs
  items_had [] each = refl
  items_had (v ∷ vs) each =
      ap (λ (r : Mapped Value). r >>= λ w. items_mapped (map (mapping_in classes c) vs) >>= λ ws. Ok (w ∷ ws)) each.0
      ∙ ap (λ (r : Mapped (List Value)). r >>= λ ws. Ok (v ∷ ws)) (items_had vs each.1)

  list_same : (vs : List Value) → Each IsSame vs → IsSame (Items vs)
  list_same vs same slot before after e h =
      let fits : list_fits (map fit vs) slot before ≡ Some after = sym (ap (λ (f : Fitting). f.fits slot before) (fold_List (fitting_step classes) (λ p. (p.name, p.value)) vs)) ∙ e in
      let in_version : list_all (λ b. b) (map holds vs) ≡ true = sym (fold_List (is_in_version_step c.name c.version) (λ p. p.value) vs) ∙ h in
      ap (λ (m : Mapping). m.mapped) (mapping-List classes c vs)
      ∙ ap (λ (r : Mapped (List Value)). r >>= λ ws. Ok (Items ws)) (items_had vs (each_had vs same (list_somewhere vs slot before after fits) in_version))

  -- ---- objects

  fields_somewhere : (fs : List Field) (ps : List Part) (counters : Counters) (before after : Labels) → fields_fit fs (fittings classes ps) counters before ≡ Some after → Each (λ p. FitsSomewhere p.value) ps
  fields_somewhere [] [] counters before after e = tt
  fields_somewhere [] (p ∷ ps) counters before after e = absurd cc
  fields_somewhere (f ∷ fs) [] counters before after e = absurd cc
  fields_somewhere (f ∷ fs) (p ∷ ps) counters before after e =
      let n = named_as f.name p.name after (bytes_eq p.name f.name) _ refl e in
      let more = counted_so_far f (fit p.value).number counters in
      option_and_then_some (fields_fit fs (fittings classes ps) more) ((fit p.value).fits (counted_slot counters f.slot) before) after n.1 (λ mid first rest.
      (somewhere p.value (counted_slot counters f.slot) before mid first, fields_somewhere fs ps more mid after rest))

  parts_somewhere : (fields : Option (List Field)) (ps : List Part) (before after : Labels) → parts_fit fields (fittings classes ps) before ≡ Some after → Each (λ p. FitsSomewhere p.value) ps
  parts_somewhere None ps before after e = absurd cc
  parts_somewhere (Some fs) ps before after e = fields_somewhere fs ps [] before after e

  each_part_had : (ps : List Part) → Each (λ p. IsSame p.value) ps → Each (λ p. FitsSomewhere p.value) ps → list_all (λ b. b) (map (λ p. holds p.value) ps) ≡ true → Each (λ p. IsHad p.value) ps
  each_part_had [] same fits in_version = tt
  each_part_had (p ∷ ps) same fits in_version =
      let h = and_parts (holds p.value) (list_all (λ b. b) (map (λ q. holds q.value) ps)) in_version in
      (same.0 fits.0.slot fits.0.before fits.0.after fits.0.fits h.0, each_part_had ps same.1 fits.1 h.1)

  parts_had : (ps : List Part) → Each (λ p. IsHad p.value) ps → each_mapped (λ p. p.name) (λ p. p.value.mapped) (map (mapping_of_part classes c) ps) ≡ Ok ps
  parts_had [] each = refl
  parts_had (p ∷ ps) each =
      ap (λ (r : Mapped Value). r >>= λ v. each_mapped (λ q. q.name) (λ q. q.value.mapped) (map (mapping_of_part classes c) ps) >>= λ qs. Ok (part p.name v ∷ qs)) each.0
      ∙ ap (λ (r : Mapped (List Part)). r >>= λ qs. Ok (p ∷ qs)) (parts_had ps each.1)

  -- ---- objects of the class

  record AreAligned (bs : List Base) (ms : List Member) (ps : List Part) : Type 0 where
    front : List Part
    rest : List Part
    parts : ps ≡ front ++ rest
    bases : AreBases classes c bs front
    members : AreMembers classes c ms rest

  members_aligned : (ms : List Member) (ps : List Part) (counters : Counters) (before after : Labels) → fields_fit (map member_field ms) (fittings classes ps) counters before ≡ Some after → Each (λ p. IsHad p.value) ps → AreMembers classes c ms ps
  members_aligned [] [] counters before after e each = tt
  members_aligned [] (p ∷ ps) counters before after e each = absurd cc
  members_aligned (m ∷ ms) [] counters before after e each = absurd cc
  members_aligned (m ∷ ms) (p ∷ ps) counters before after e each =
      let n = named_as m.name p.name after (bytes_eq p.name m.name) _ refl e in
      let more = counted_so_far (member_field m) (fit p.value).number counters in
      option_and_then_some (fields_fit (map member_field ms) (fittings classes ps) more) ((fit p.value).fits (counted_slot counters (kinded m.kind)) before) after n.1 (λ mid first rest.
      (n.0, kind_same classes p.value (had p.value) each.0 m.kind m.name counters before mid first, members_aligned ms ps more mid after rest each.1))

  bases_aligned : (bs : List Base) (ms : List Member) (ps : List Part) (counters : Counters) (before after : Labels) → fields_fit (map base_field bs ++ map member_field ms) (fittings classes ps) counters before ≡ Some after → Each (λ p. IsHad p.value) ps → AreAligned bs ms ps
  bases_aligned [] ms ps counters before after e each = record { front = []; rest = ps; parts = refl; bases = tt; members = members_aligned ms ps counters before after e each }
  bases_aligned (b ∷ bs) ms [] counters before after e each = absurd cc
  bases_aligned (b ∷ bs) ms (p ∷ ps) counters before after e each =
      let n = named_as [] p.name after (bytes_eq p.name []) _ refl e in
      let more = counted_so_far (base_field b) (fit p.value).number counters in
      option_and_then_some (fields_fit (map base_field bs ++ map member_field ms) (fittings classes ps) more) ((fit p.value).fits (based b.name b.version) before) after n.1 (λ mid first rest.
      let a = bases_aligned bs ms ps more mid after rest each.1 in
      record {
        front = p ∷ a.front;
        rest = a.rest;
        parts = ap (λ (qs : List Part). p ∷ qs) a.parts;
        bases = (n.0, base_named classes p.value b.name b.version before mid first, each.0, a.bases);
        members = a.members;
      })

  stated_bases : are_stated_bases [] c.bases ≡ true
  stated_bases = (and_parts _ _ (and_parts _ (are_stated_members [] c.members) plain.stated).0).1

  stated_members : are_stated_members [] c.members ≡ true
  stated_members = (and_parts _ (are_stated_members [] c.members) plain.stated).1

  bases_passed : (bs : List Base) (front rest : List Part) → AreBases classes c bs front → after_bases (λ p. p.name) bs (front ++ rest) ≡ rest
  bases_passed [] [] rest are = refl
  bases_passed [] (p ∷ front) rest are = absurd are
  bases_passed (b ∷ bs) [] rest are = absurd are
  bases_passed (b ∷ bs) (p ∷ front) rest are =
      ap (λ (n : List ℕ). if length n == 0 then after_bases (λ q. q.name) bs (front ++ rest) else p ∷ (front ++ rest)) are.0
      ∙ bases_passed bs front rest are.3

  own_mappings : (ps : List Part) (a : AreAligned c.bases c.members ps) → after_bases (λ p. p.name) c.bases (map (mapping_of_part classes c) ps) ≡ map (mapping_of_part classes c) a.rest
  own_mappings ps a =
      after_bases_mapped classes c c.bases ps
      ∙ ap (λ (l : List Part). map (mapping_of_part classes c) (after_bases (λ p. p.name) c.bases l)) a.parts
      ∙ ap (map (mapping_of_part classes c)) (bases_passed c.bases a.front a.rest a.bases)

  own_parts : (ps : List Part) → AreAligned c.bases c.members ps → object_mapped classes (Some c) c (map (mapping_of_part classes c) ps) ≡ Ok ps
  own_parts ps a =
      let bases = bases_had classes c ps [] c.bases [] a.front a.rest refl a.parts tt a.bases stated_bases in
      let members = members_had classes c a.rest [] c.members [] a.rest refl refl tt a.members stated_members in
      object_by_bases classes (Some c) c (map (mapping_of_part classes c) ps) a.front bases
      ∙ ap (λ (parts : List PartMapping). behind a.front (members_as classes c.members c parts)) (own_mappings ps a)
      ∙ ap (behind a.front) members
      ∙ ap (λ (l : List Part). let r : Mapped (List Part) = Ok l in r) (sym a.parts)

  own_object : (ps : List Part) → AreAligned c.bases c.members ps → object_as classes (asked_in c) c.name c.version (map (mapping_of_part classes c) ps) ≡ Ok (Object c.name c.version ps)
  own_object ps a =
      let within = map (mapping_of_part classes c) ps in
      ap (λ (b : Bool). if b then (object_mapped classes (find_in classes c.name c.version) c within >>= λ qs. Ok (Object c.name c.version qs)) else (each_mapped (λ p. p.name) (λ p. p.value.mapped) within >>= λ qs. Ok (Object c.name c.version qs))) ((bytes_eq-Decides c.name c.name).1 refl)
      ∙ ap (λ (o : Option ClassDef). object_mapped classes o c within >>= λ qs. Ok (Object c.name c.version qs)) found
      ∙ ap (λ (r : Mapped (List Part)). r >>= λ qs. Ok (Object c.name c.version qs)) (own_parts ps a)

  fields_aligned : (ps : List Part) (before after : Labels) → parts_fit (fields_of classes c.name c.version) (fittings classes ps) before ≡ Some after → Each (λ p. IsHad p.value) ps → AreAligned c.bases c.members ps
  fields_aligned ps before after e each =
      let own = subst (λ (o : Option (List Field)). parts_fit o (fittings classes ps) before ≡ Some after) (fields_found classes c plain found) e in
      bases_aligned c.bases c.members ps [] before after own each

  -- ---- any object

  object_by : (own : List ℕ) (version : ℤ) (ps : List Part) (before after : Labels) (b : Bool) → bytes_eq own c.name ≡ b → (not b || int_eq version c.version) ≡ true → parts_fit (fields_of classes own version) (fittings classes ps) before ≡ Some after → Each (λ p. IsHad p.value) ps
      → object_as classes (asked_in c) own version (map (mapping_of_part classes c) ps) ≡ Ok (Object own version ps)
  object_by own version ps before after true is stated e each =
      let named : own ≡ c.name = (bytes_eq-Decides own c.name).0 is in
      let same : version ≡ c.version = (Decides-int_eq version c.version).0 stated in
      let fits : parts_fit (fields_of classes c.name c.version) (fittings classes ps) before ≡ Some after = (λ i. parts_fit (fields_of classes (sym named i) (sym same i)) (fittings classes ps) before) ∙ e in
      let at_class : object_as classes (asked_in c) own c.version (map (mapping_of_part classes c) ps) ≡ Ok (Object own c.version ps) =
      subst (λ (n : List ℕ). object_as classes (asked_in c) n c.version (map (mapping_of_part classes c) ps) ≡ Ok (Object n c.version ps)) (sym named) (own_object ps (fields_aligned ps before after fits each)) in
      subst (λ (z : ℤ). object_as classes (asked_in c) own z (map (mapping_of_part classes c) ps) ≡ Ok (Object own z ps)) (sym same) at_class
  object_by own version ps before after false is stated e each =
      let within = map (mapping_of_part classes c) ps in
      ap (λ (b : Bool). if b then (object_mapped classes (find_in classes own version) c within >>= λ qs. Ok (Object own c.version qs)) else (each_mapped (λ p. p.name) (λ p. p.value.mapped) within >>= λ qs. Ok (Object own version qs))) is
      ∙ ap (λ (r : Mapped (List Part)). r >>= λ qs. Ok (Object own version qs)) (parts_had ps each)

  part_holds : (p : Part) → fold-Part Bool Bool (is_in_version_step c.name c.version) (λ p. p.value) p ≡ holds p.value
  part_holds p = fold_out-Part Bool Bool (is_in_version_step c.name c.version) (λ p. p.value) p

  object_holds : (own : List ℕ) (version : ℤ) (ps : List Part) → holds (Object own version ps) ≡ ((not (bytes_eq own c.name) || int_eq version c.version) && list_all (λ b. b) (map (λ p. holds p.value) ps))
  object_holds own version ps =
      fold_Object (is_in_version_step c.name c.version) (λ p. p.value) own version ps
      ∙ ap (λ (g : Part → Bool). (not (bytes_eq own c.name) || int_eq version c.version) && list_all (λ b. b) (map g ps)) (λ i p. part_holds p i)

  object_same : (own : List ℕ) (version : ℤ) (ps : List Part) → Each (λ p. IsSame p.value) ps → IsSame (Object own version ps)
  object_same own version ps same slot before after e h =
      let fits = subst (λ (f : Fitting). f.fits slot before ≡ Some after) (fit_object classes own version ps) e in
      let t = tested (object_may_stand own version slot) (parts_fit (fields_of classes own version) (fittings classes ps) before) after fits in
      let in_version = and_parts (not (bytes_eq own c.name) || int_eq version c.version) (list_all (λ b. b) (map (λ p. holds p.value) ps)) (sym (object_holds own version ps) ∙ h) in
      let each = each_part_had ps same (parts_somewhere (fields_of classes own version) ps before after t.1) in_version.1 in
      mapped-Object classes c own version ps ∙ object_by own version ps before after (bytes_eq own c.name) refl in_version.0 t.1 each

  -- ---- pointers

  pointed_somewhere : (label : ℕ) (object : Value) (own : Option (List ℕ × ℤ)) (slot : Slot) (before after : Labels) → pointed_fits classes label (fit object) own slot before ≡ Some after → FitsSomewhere object
  pointed_somewhere label object None slot before after e = absurd cc
  pointed_somewhere label object (Some own) slot before after e =
      let t = tested (label == length before && may_point classes own slot) ((fit object).fits (kinded (Inline own.0)) (before ++ own ∷ [])) after e in
      somewhere object (kinded (Inline own.0)) (before ++ own ∷ []) after t.1

  pointed_same : (label : ℕ) (object : Value) → IsSame object → IsSame (Pointed label object)
  pointed_same label object same slot before after e h =
      let fits : pointed_fits classes label (fit object) (fit object).class slot before ≡ Some after =
      sym (ap (λ (f : Fitting). f.fits slot before) (fold_Pointed (fitting_step classes) (λ p. (p.name, p.value)) label object)) ∙ e in
      let s = pointed_somewhere label object (fit object).class slot before after fits in
      let own : holds object ≡ true = sym (fold_Pointed (is_in_version_step c.name c.version) (λ p. p.value) label object) ∙ h in
      ap (λ (m : Mapping). m.mapped) (mapping-Pointed classes c label object)
      ∙ ap (λ (r : Mapped Value). r >>= λ v. Ok (Pointed label v)) (same s.slot s.before s.after s.fits own)

  -- ---- values

  abbrev of_mapping : Mapping → Mapped Value
  of_mapping m = m.mapped

  value_same : (v : Value) → IsSame v
  value_same = by_cases IsSame (record {
    int = λ z slot before after e h. ap of_mapping (fold_Int (mapping_step classes (asked_in c)) (λ p. part_mapping p.name p.value) z);
    bits32 = λ n slot before after e h. ap of_mapping (fold_Bits32 (mapping_step classes (asked_in c)) (λ p. part_mapping p.name p.value) n);
    bits64 = λ n slot before after e h. ap of_mapping (fold_Bits64 (mapping_step classes (asked_in c)) (λ p. part_mapping p.name p.value) n);
    truth = λ b slot before after e h. ap of_mapping (fold_Bool (mapping_step classes (asked_in c)) (λ p. part_mapping p.name p.value) b);
    text = λ t slot before after e h. ap of_mapping (fold_Text (mapping_step classes (asked_in c)) (λ p. part_mapping p.name p.value) t);
    list = list_same;
    object = object_same;
    pointed = pointed_same;
    null = λ slot before after e h. ap of_mapping (fold_Null (mapping_step classes (asked_in c)) (λ p. part_mapping p.name p.value));
    back = λ label slot before after e h. ap of_mapping (fold_Back (mapping_step classes (asked_in c)) (λ p. part_mapping p.name p.value) label);
    opaque = λ own len slot before after e h. ap of_mapping (fold_Opaque (mapping_step classes (asked_in c)) (λ p. part_mapping p.name p.value) own len);
  })

pub same_version_stays_so : SameVersionStays
same_version_stays_so classes own class version v are fits known in_version = by (built_in_version class) refl known
  where
    by : (o : Option ℤ) → built_in_version class ≡ o → option_map_or (int_eq version) o (is_some (find_in classes class version)) ≡ true → as_version classes class version v ≡ Ok v
    by (Some built) is same = as_built_in classes class version v built is same
    by None is found_there =
        let described = some_of (find_in classes class version) found_there in
        let c = described.0 in
        let named = found_named classes class version c described.1 in
        let found : find_in classes c.name c.version ≡ Some c = (λ i. find_in classes (named.0 i) (named.1 i)) ∙ described.1 in
        let holds : is_in_version c.name c.version v ≡ true = (λ i. is_in_version (named.0 i) (named.1 i) v) ∙ in_version in
        let after = some_of ((fitting_of classes v).fits (kinded (Inline own)) []) fits in
        as_described classes class version v c is described.1
        ∙ value_same classes c (plain_found [] classes class version c are described.1) found v (kinded (Inline own)) [] after.0 after.1 holds
