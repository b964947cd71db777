-- What is written for an object that fits spells it.
use Rattle.std.proofs.Common.{◌≡◌, ◌&&◌, ℕ, ◌+◌, ◌^◌, ◌<◌, ◌≤◌, ℤ, pos, Bool, true, false, cond, List, [], ◌∷◌, ◌++◌, length, codes, unwrap_or, Option, Some, None, refl, sym, ap, subst, arith}
use Rattle.std.proofs.lemmas.Bool.Decides.{Decides-int_eq}
use Rattle.std.specs.{Option.{option_map}, Ordering.{int_eq}, Str.{bytes_eq}, Int.{w16, cast_unsigned}}
use Rattle.byteorder.specs.Endian.{big_bytes}
use Rattle.rio_format.specs.{Classes.{find_in}, declared.class.ClassDef.{ClassDef}, declared.kind.Kind.TheVariants.{Plain}, Members.{can_read_all}, declared.value.Value.{Value, Object}, declared.value.Part.{Part}}
use Rattle.rio_format.specs.Bodies.{Form, bare, numbers, headed, form_of, Body, described, listed, arrayed, opaque, t_named, t_obj_string, built_in, by_description, headed_classes, headless_classes, row_of}
use Rattle.rio_format.specs.{Fits.{Labels, Fitting, fields_fit, parts_fit}, Slots.{Field, bare_fields, field, kinded, many, body_fields, form_fields}, Written.{bare_bytes, number_array_bytes, body_bytes, form_bytes}}
use Rattle.rio_format.proofs.{BuiltInLaws.{of_body, of_each}, Composed.{Spellings, SpellsBody, SpellsForm, SpellsVersion, IsBare, IsArray}}
use Rattle.rio_format.proofs.{WrittenPlaces.{Stands, stands_more}, WrittenWays.{last_place}, WrittenLists.{AreKnown, fittings, writings, stands_at}, WrittenFields.{bases_written}, WrittenBodies.{bare_written, array_written}}
use Rattle.rio_format.proofs.WrittenArrays.{listed_written, arrayed_written}
use Rattle.rio_format.specs.ReaderState.{WordsMet}

-- ---- the bodies of classes

-- a body that a class has in this version
abbrev IsOfVersion : ℤ → Body → Type 0
IsOfVersion version (described c) = c.version ≡ version
IsOfVersion version listed = version ≡ pos 5
IsOfVersion version arrayed = version ≡ pos 3
IsOfVersion version opaque = ⊥

second : (a : Bool) (version own : ℤ) → (a && int_eq version own) ≡ true → version ≡ own
second true version own e = (Decides-int_eq version own).0 e
second false version own e = absurd cc

built_version : (class : List ℕ) (version : ℤ) (body : Body) → built_in class version ≡ Some body → IsOfVersion version body
built_version class version body =
    of_body (λ o. o ≡ Some body → IsOfVersion version body) headed_classes class version
    ((λ c v. by (described t_named) (sym v)), ((λ c v. by (described t_obj_string) (sym v)), ((λ c v. by listed v), ((λ c v. by arrayed v), tt))))
    (λ e. absurd cc)
  where
    by : (own : Body) → IsOfVersion version own → Some own ≡ Some body → IsOfVersion version body
    by own of e = let same : own ≡ body = cc in subst (IsOfVersion version) same of

-- a class that is found has the version
found_version : (classes : List ClassDef) (class : List ℕ) (version : ℤ) (c : ClassDef) → find_in classes class version ≡ Some c → c.version ≡ version
found_version [] class version c e = absurd cc
found_version (d ∷ ds) class version c e = by (bytes_eq d.name class && int_eq d.version version) refl e (found_version ds class version c)
  where
    by : (b : Bool) → (bytes_eq d.name class && int_eq d.version version) ≡ b → cond b (Some d) (find_in ds class version) ≡ Some c → (find_in ds class version ≡ Some c → c.version ≡ version) → c.version ≡ version
    by true t e rest = let same : d ≡ c = cc in subst (λ (x : ClassDef). x.version ≡ version) same (second _ d.version version t)
    by false t e rest = rest e

abbrev pub declared_from : Option ClassDef → Option Body → Option Body
declared_from found (Some body) = Some body
declared_from found None = option_map described found

-- the body behind a header with the version alone
abbrev headed_from : Option Body → Option ClassDef → Body
headed_from own found = unwrap_or own (by_description found)

bare_class : (class : List ℕ) → form_of class ≡ bare → class ≡ codes "TObject"
bare_class class =
    of_each (λ (f : Form). f ≡ bare → class ≡ codes "TObject") (λ b. (row_of b).form) headed headless_classes class
    ((λ c e. c), ((λ c e. absurd cc), ((λ c e. absurd cc), ((λ c e. absurd cc), ((λ c e. absurd cc), ((λ c e. absurd cc), ((λ c e. absurd cc), tt)))))))
    (λ e. absurd cc)

-- fields that are there in version 1 alone
first_version : (version : ℤ) (fields : List Field) (parts : List (List ℕ × Fitting)) (before after : Labels) (b : Bool) → int_eq version (pos 1) ≡ b → parts_fit (cond b (Some fields) None) parts before ≡ Some after → (version ≡ pos 1) × (fields_fit fields parts [] before ≡ Some after)
first_version version fields parts before after true t e = ((Decides-int_eq version (pos 1)).0 t, e)
first_version version fields parts before after false t e = absurd cc

module _ (object : Spellings) (classes : List ClassDef) where
  -- a body that the class has, and what is written of it
  record IsBodyWritten (class : List ℕ) (version : ℤ) (parts : List Part) (own : Option Body) (found : Option ClassDef) (after : Labels) (p : ℕ) (t : WordsMet) (b : List ℕ × WordsMet) : Type 0 where
    spelled : (count : ℕ) → SpellsBody object class count (headed_from own found) p t (Object class version parts) b.0 b.1
    stands : Stands after (p + length b.0) b.1

  described_written : (class : List ℕ) (version : ℤ) (c : ClassDef) (parts : List Part) (own : Option Body) (found : Option ClassDef) → AreKnown object classes parts → (before after : Labels) (p : ℕ) (t : WordsMet) → c.version ≡ version → (can_read_all [] c.members ≡ true → headed_from own found ≡ described c)
      → parts_fit (body_fields (Some (described c))) (fittings classes parts) before ≡ Some after → Stands before p t → p + length (body_bytes (Some (described c)) (writings classes parts) p t).0 ≤ last_place
      → IsBodyWritten class version parts own found after p t (body_bytes (Some (described c)) (writings classes parts) p t)
  described_written class version c parts own found ih before after p t same is e s room =
      let b = body_bytes (Some (described c)) (writings classes parts) p t in
      let f = bases_written object classes c.bases c.members parts ih [] before after p t e s room in
      let spelled : (count : ℕ) → SpellsBody object class count (described c) p t (Object class version parts) b.0 b.1 =
      λ count. record { parts = parts; value = ap (λ (v : ℤ). Object class v parts) (sym same); inside = record { counters = f.last; each = f.each } } in
      record { spelled = λ count. subst (λ (body : Body). SpellsBody object class count body p t (Object class version parts) b.0 b.1) (sym (is f.readable)) (spelled count); stands = f.stands }

  body_written : (class : List ℕ) (version : ℤ) (parts : List Part) (own : Option Body) (found : Option ClassDef) → AreKnown object classes parts → ((body : Body) → own ≡ Some body → IsOfVersion version body) → ((c : ClassDef) → found ≡ Some c → c.version ≡ version) → (before after : Labels) (p : ℕ) (t : WordsMet)
      → parts_fit (body_fields (declared_from found own)) (fittings classes parts) before ≡ Some after → Stands before p t → p + length (body_bytes (declared_from found own) (writings classes parts) p t).0 ≤ last_place
      → IsBodyWritten class version parts own found after p t (body_bytes (declared_from found own) (writings classes parts) p t)
  body_written class version parts (Some (described c)) found ih built listed_in before after p t e s room = described_written class version c parts (Some (described c)) found ih before after p t (built (described c) refl) (λ _. refl) e s room
  body_written class version parts (Some listed) found ih built listed_in before after p t e s room =
      let f = listed_written object classes parts ih before after p t e s room in
      record { spelled = λ count. record { parts = parts; value = ap (λ (v : ℤ). Object class v parts) (built listed refl); inside = f.0 }; stands = f.1 }
  body_written class version parts (Some arrayed) found ih built listed_in before after p t e s room =
      let f = arrayed_written object classes parts ih before after p t e s room in
      record { spelled = λ count. record { parts = parts; value = ap (λ (v : ℤ). Object class v parts) (built arrayed refl); inside = f.0 }; stands = f.1 }
  body_written class version parts (Some opaque) found ih built listed_in before after p t e s room = absurd (built opaque refl)
  body_written class version parts None (Some c) ih built listed_in before after p t e s room = described_written class version c parts None (Some c) ih before after p t (listed_in c refl) (λ readable. ap (λ (b : Bool). cond b (described c) opaque) readable) e s room
  body_written class version parts None None ih built listed_in before after p t e s room = absurd cc

  -- ---- objects by their form

  -- what is written for an object spells it
  abbrev IsFormWritten : List ℕ → ℤ → Form → List Part → Type 0
  IsFormWritten class version form parts = (before after : Labels) (p : ℕ) (t : WordsMet) → parts_fit (form_fields classes class version form) (fittings classes parts) before ≡ Some after → Stands before p t → p + length (form_bytes classes class version form (writings classes parts) p t).0 ≤ last_place
      → SpellsForm object classes class form p t (Object class version parts) (form_bytes classes class version form (writings classes parts) p t).0 (form_bytes classes class version form (writings classes parts) p t).1 × Stands after (p + length (form_bytes classes class version form (writings classes parts) p t).0) (form_bytes classes class version form (writings classes parts) p t).1

  headed_written : (class : List ℕ) (n : ℕ) (parts : List Part) → AreKnown object classes parts → 0 < n → n < 2 ^ 16 → cast_unsigned w16 (pos n) ≡ n → IsFormWritten class (pos n) headed parts
  headed_written class n parts ih some low same before after p t e s room =
      let own = built_in class (pos n) in
      let found = find_in classes class (pos n) in
      let version = big_bytes 2 (cast_unsigned w16 (pos n)) in
      let b = body_bytes (declared_from found own) (writings classes parts) (p + 4 + 2) t in
      let inner : List ℕ = version ++ b.0 in
      let f = body_written class (pos n) parts own found ih (built_version class (pos n)) (found_version classes class (pos n)) before after (p + 4 + 2) t e (stands_more before p (p + 4 + 2) t (omega arith) s) (omega (arith, room)) in
      let stated : SpellsVersion n None version = (some, low, ap (big_bytes 2) same) in (
        record { version = n; sum = None; version_bytes = version; inner = b.0; stated = stated; body = f.spelled (length inner); count = omega (arith, room); spelled = refl },
        stands_at after (p + 4 + 2 + length b.0) (p + length (big_bytes 4 (length inner + 2 ^ 30) ++ inner)) b.1 (omega arith) f.stands,
      )

  pub formed_written : (class : List ℕ) (n : ℕ) (parts : List Part) → AreKnown object classes parts → 0 < n → n < 2 ^ 16 → cast_unsigned w16 (pos n) ≡ n → (form : Form) → form_of class ≡ form → IsFormWritten class (pos n) form parts
  formed_written class n parts ih some low same bare is before after p t e s room =
      let b = bare_bytes (writings classes parts) p t in
      let f = first_version (pos n) bare_fields (fittings classes parts) before after (int_eq (pos n) (pos 1)) refl e in
      let r = bare_written object classes parts ih before after p t f.1 s room in
      (subst (λ (v : Value). IsBare t v b.0 b.1) (λ i. Object (sym (bare_class class is) i) (sym f.0 i) parts) r.0, r.1)
  formed_written class n parts ih some low same (numbers of) is before after p t e s room =
      let b = number_array_bytes of (writings classes parts) p t in
      let f = first_version (pos n) (field (codes "items") (many (kinded (Plain of))) ∷ []) (fittings classes parts) before after (int_eq (pos n) (pos 1)) refl e in
      let r = array_written object classes class of parts ih before after p t f.1 s room in
      (subst (λ (v : ℤ). IsArray class of p t (Object class v parts) b.0 b.1) (sym f.0) r.0, r.1)
  formed_written class n parts ih some low same headed is before after p t e s room = headed_written class n parts ih some low same before after p t e s room
