-- What is written for the parts of a described object that fit spells them.
use Rattle.std.proofs.Common.{◌≡◌, ◌&&◌, ◌||◌, ℕ, ◌+◌, ◌≤◌, ℤ, pos, negsuc, Bool, true, false, cond, List, [], ◌∷◌, ◌++◌, length, map, unwrap_or, Option, Some, None, refl, sym, ap, subst, ◌∙◌, arith}
use Rattle.std.proofs.{lemmas.List.{length-append}, lemmas.Option.{option_and_then_some}}
use Rattle.std.specs.{List.{list_any}, Map.{lookup}, Str.{bytes_eq}}
use Rattle.rio_format.specs.{declared.class.Base.{Base}, declared.class.Member.{Member}, declared.class.ClassDef.{ClassDef}}
use Rattle.rio_format.specs.{declared.kind.Kind.{Kind, TheVariants.{Plain, Counter, Fixed, Counted, Text as Texted, Inline, Pointer, Other}}, declared.kind.Primitive.{Primitive}, Members.{can_read, can_read_all, names_with}}
use Rattle.rio_format.specs.{declared.value.Value.{Value, out-Value, map-Value, TheOpen.{Value-F}, TheFolds.{fold_out-Value, fold-Part}}, declared.value.Part.{Part}, Accessors.{number_in}}
use Rattle.rio_format.specs.declared.value.Value.TheOpen as layer
use Rattle.rio_format.specs.{Bodies.{part, Counters, counters_with, count_by, base_slot}, Fits.{Labels, Fitting, fields_fit, fixed_by, counted_slot, counted_so_far, fitting_step, fitting_of}}
use Rattle.rio_format.specs.{Slots.{kinded, based, base_field, member_field}, Written.{fields_bytes, writing_of}, ReaderState.{WordsMet}}
use Rattle.rio_format.proofs.{Composed.{Spellings, SpellsKind, SpellsCounted, SpellsEach, IsPart}, Tests.{named_as}, WrittenPlaces.{Stands}, WrittenWays.{in_slot, in_counted, in_none, last_place}}
use Rattle.rio_format.proofs.WrittenLists.{AreKnown, fittings, writings, IsWrittenAnywhere, stands_at, some_is}

-- ---- counters

layer_number : (classes : List ClassDef) (x : Value-F Value Part) → (fitting_step classes (map-Value Value Part Fitting (List ℕ × Fitting) (fitting_of classes) (fold-Part Fitting (List ℕ × Fitting) (fitting_step classes) (λ p. (p.name, p.value))) x)).number ≡ number_in x
layer_number classes (layer.Int z) = refl
layer_number classes (layer.Bits32 n) = refl
layer_number classes (layer.Bits64 n) = refl
layer_number classes (layer.Bool b) = refl
layer_number classes (layer.Text t) = refl
layer_number classes (layer.List vs) = refl
layer_number classes (layer.Object class version parts) = refl
layer_number classes (layer.Pointed label object) = refl
layer_number classes layer.Null = refl
layer_number classes (layer.Back label) = refl
layer_number classes (layer.Opaque class len) = refl

number_is : (classes : List ClassDef) (v : Value) → (fitting_of classes v).number ≡ number_in (out-Value v)
number_is classes v = ap (λ (f : Fitting). f.number) (fold_out-Value Fitting (List ℕ × Fitting) (fitting_step classes) (λ p. (p.name, p.value)) v) ∙ layer_number classes (out-Value v)

abbrev names_in : Counters → List (List ℕ)
names_in counters = map (λ c. c.0) counters

-- the counters behind a member are the same, by what it says
counted_by : (m : Member) (kind : Kind) (v : Value) (number : ℤ) (counters : Counters) → m.kind ≡ kind → number ≡ number_in (out-Value v) → counted_so_far (member_field m) number counters ≡ counters_with m v counters
counted_by m (Plain of) v number counters is same = rw is refl
counted_by m Counter v number counters is same = rw is (ap (λ (z : ℤ). let cs : Counters = (m.name, z) ∷ counters in cs) same)
counted_by m (Fixed of count) v number counters is same = rw is refl
counted_by m (Counted of counter) v number counters is same = rw is refl
counted_by m Texted v number counters is same = rw is refl
counted_by m (Inline class) v number counters is same = rw is refl
counted_by m (Pointer class) v number counters is same = rw is refl
counted_by m (Other code) v number counters is same = rw is refl

names_by : (m : Member) (kind : Kind) (v : Value) (counters : Counters) → m.kind ≡ kind → names_in (counters_with m v counters) ≡ names_with m (names_in counters)
names_by m (Plain of) v counters is = rw is refl
names_by m Counter v counters is = rw is refl
names_by m (Fixed of count) v counters is = rw is refl
names_by m (Counted of counter) v counters is = rw is refl
names_by m Texted v counters is = rw is refl
names_by m (Inline class) v counters is = rw is refl
names_by m (Pointer class) v counters is = rw is refl
names_by m (Other code) v counters is = rw is refl

-- a counter that says something stands before
counter_there : (name : List ℕ) (counters : Counters) (z : ℤ) → lookup (bytes_eq name) counters ≡ Some z → list_any (bytes_eq name) (names_in counters) ≡ true
counter_there name [] z e = absurd cc
counter_there name (c ∷ cs) z e = by (bytes_eq name c.0) e (counter_there name cs z)
  where
    by : (b : Bool) → cond b (Some c.1) (lookup (bytes_eq name) cs) ≡ Some z → (lookup (bytes_eq name) cs ≡ Some z → list_any (bytes_eq name) (names_in cs) ≡ true) → (b || list_any (bytes_eq name) (names_in cs)) ≡ true
    by true e rest = refl
    by false e rest = rest e

module _ (object : Spellings) (classes : List ClassDef) where
  -- ---- one part

  record IsKindWritten (counters : Counters) (kind : Kind) (v : Value) (after : Labels) (p : ℕ) (t : WordsMet) (b : List ℕ × WordsMet) : Type 0 where
    spelled : SpellsKind object counters kind p t v b.0 b.1
    stands : Stands after (p + length b.0) b.1
    readable : can_read (names_in counters) kind ≡ true

  counted_kind : (v : Value) → IsWrittenAnywhere object classes v → (counters : Counters) (of : Primitive) (counter : List ℕ) (o : Option ℤ) (before after : Labels) (p : ℕ) (t : WordsMet) → lookup (bytes_eq counter) counters ≡ o
      → (fitting_of classes v).fits (fixed_by of o) before ≡ Some after → Stands before p t → p + length ((writing_of classes v).bytes (kinded (Counted of counter)) p t).0 ≤ last_place
      → IsKindWritten counters (Counted of counter) v after p t ((writing_of classes v).bytes (kinded (Counted of counter)) p t)
  counted_kind v ih counters of counter None before after p t look e s room = absurd ((ih (in_none (kinded (Counted of counter))) before after p t e s room).0)
  counted_kind v ih counters of counter (Some (negsuc n)) before after p t look e s room = absurd ((ih (in_none (kinded (Counted of counter))) before after p t e s room).0)
  counted_kind v ih counters of counter (Some (pos n)) before after p t look e s room =
      let b = (writing_of classes v).bytes (kinded (Counted of counter)) p t in
      let r = ih (in_counted of counter n) before after p t e s room in
      let says : pos n ≡ count_by counter counters = ap (λ (o : Option ℤ). unwrap_or o (pos 0)) (sym look) in
      record { spelled = subst (λ (z : ℤ). SpellsCounted of z p t v b.0 b.1) says r.0; stands = r.1; readable = counter_there counter counters (pos n) look }

  kind_written : (v : Value) → IsWrittenAnywhere object classes v → (counters : Counters) (kind : Kind) (before after : Labels) (p : ℕ) (t : WordsMet) → (fitting_of classes v).fits (counted_slot counters (kinded kind)) before ≡ Some after → Stands before p t
      → p + length ((writing_of classes v).bytes (kinded kind) p t).0 ≤ last_place → IsKindWritten counters kind v after p t ((writing_of classes v).bytes (kinded kind) p t)
  kind_written v ih counters (Plain of) before after p t e s room = let r = ih (in_slot (kinded (Plain of))) before after p t e s room in record { spelled = r.0; stands = r.1; readable = refl }
  kind_written v ih counters Counter before after p t e s room = let r = ih (in_slot (kinded Counter)) before after p t e s room in record { spelled = r.0; stands = r.1; readable = refl }
  kind_written v ih counters (Fixed of count) before after p t e s room = let r = ih (in_slot (kinded (Fixed of count))) before after p t e s room in record { spelled = r.0; stands = r.1; readable = refl }
  kind_written v ih counters (Counted of counter) before after p t e s room = counted_kind v ih counters of counter (lookup (bytes_eq counter) counters) before after p t refl e s room
  kind_written v ih counters Texted before after p t e s room = let r = ih (in_slot (kinded Texted)) before after p t e s room in record { spelled = r.0; stands = r.1; readable = refl }
  kind_written v ih counters (Inline class) before after p t e s room = let r = ih (in_slot (kinded (Inline class))) before after p t e s room in record { spelled = r.0; stands = r.1; readable = refl }
  kind_written v ih counters (Pointer class) before after p t e s room = let r = ih (in_slot (kinded (Pointer class))) before after p t e s room in record { spelled = r.0; stands = r.1; readable = refl }
  kind_written v ih counters (Other code) before after p t e s room = absurd ((ih (in_slot (kinded (Other code))) before after p t e s room).0)

  -- ---- the parts, one behind the other

  -- the parts of all slots, of which the last ones are these members'
  pub record AreParts (slots members : List Member) (counters : Counters) (parts : List Part) (after : Labels) (p : ℕ) (t : WordsMet) (b : List ℕ × WordsMet) : Type 0 where
    pub last : Counters
    pub each : SpellsEach (IsPart object) slots p (t, counters) parts b.0 (b.1, last)
    pub stands : Stands after (p + length b.0) b.1
    pub readable : can_read_all (names_in counters) members ≡ true

  part_is : (name : List ℕ) (y : Part) → y.name ≡ name → y ≡ part name y.value
  part_is name y same = ap (λ (n : List ℕ). part n y.value) same

  members_written : (ms : List Member) (parts : List Part) → AreKnown object classes parts → (counters : Counters) (before after : Labels) (p : ℕ) (t : WordsMet) → fields_fit (map member_field ms) (fittings classes parts) counters before ≡ Some after → Stands before p t
      → p + length (fields_bytes (map member_field ms) (writings classes parts) p t).0 ≤ last_place → AreParts ms ms counters parts after p t (fields_bytes (map member_field ms) (writings classes parts) p t)
  members_written [] [] ih counters before after p t e s room = record {
    last = counters;
    each = (refl, refl, refl);
    stands = subst (λ (l : Labels). Stands l (p + 0) t) (some_is before after e) (stands_at before p (p + 0) t (omega arith) s);
    readable = refl;
  }
  members_written [] (y ∷ ys) ih counters before after p t e s room = absurd cc
  members_written (m ∷ ms) [] ih counters before after p t e s room = absurd cc
  members_written (m ∷ ms) (y ∷ ys) ih counters before after p t e s room =
      let v = y.value in
      let a = (writing_of classes v).bytes (kinded m.kind) p t in
      let r = fields_bytes (map member_field ms) (writings classes ys) (p + length a.0) a.1 in
      let len = length-append a.0 r.0 in
      let n = named_as m.name y.name after (bytes_eq y.name m.name) _ refl e in
      let so_far = counted_by m m.kind v (fitting_of classes v).number counters refl (number_is classes v) in
      option_and_then_some (fields_fit (map member_field ms) (fittings classes ys) (counted_so_far (member_field m) (fitting_of classes v).number counters)) ((fitting_of classes v).fits (counted_slot counters (kinded m.kind)) before) after n.1 (λ mid first rest.
      let one = kind_written v ih.0 counters m.kind before mid p t first s (omega (arith, room, len)) in
      let rest1 = subst (λ (cs : Counters). fields_fit (map member_field ms) (fittings classes ys) cs mid ≡ Some after) so_far rest in
      let others = members_written ms ys ih.1 (counters_with m v counters) mid after (p + length a.0) a.1 rest1 one.stands (omega (arith, room, len)) in
      record {
        last = others.last;
        each = record {
          y = y;
          more = ys;
          front = a.0;
          back = r.0;
          s1 = (a.1, counters_with m v counters);
          values = refl;
          first = record { v = v; part = part_is m.name y n.0; value = one.spelled; counters = refl };
          others = others.each;
          spelled = refl;
        };
        stands = stands_at after (p + length a.0 + length r.0) (p + length (a.0 ++ r.0)) r.1 (omega (arith, len)) others.stands;
        readable = ap (λ (b : Bool). b && can_read_all (names_with m (names_in counters)) ms) one.readable ∙ ap (λ (names : List (List ℕ)). can_read_all names ms) (sym (names_by m m.kind v counters refl)) ∙ others.readable;
      })

  pub bases_written : (bs : List Base) (ms : List Member) (parts : List Part) → AreKnown object classes parts → (counters : Counters) (before after : Labels) (p : ℕ) (t : WordsMet)
      → fields_fit (map base_field bs ++ map member_field ms) (fittings classes parts) counters before ≡ Some after → Stands before p t
      → p + length (fields_bytes (map base_field bs ++ map member_field ms) (writings classes parts) p t).0 ≤ last_place → AreParts (map base_slot bs ++ ms) ms counters parts after p t (fields_bytes (map base_field bs ++ map member_field ms) (writings classes parts) p t)
  bases_written [] ms parts ih counters before after p t e s room = members_written ms parts ih counters before after p t e s room
  bases_written (b ∷ bs) ms [] ih counters before after p t e s room = absurd cc
  bases_written (b ∷ bs) ms (y ∷ ys) ih counters before after p t e s room =
      let v = y.value in
      let fields = map base_field bs ++ map member_field ms in
      let a = (writing_of classes v).bytes (based b.name b.version) p t in
      let r = fields_bytes fields (writings classes ys) (p + length a.0) a.1 in
      let len = length-append a.0 r.0 in
      let n = named_as [] y.name after (bytes_eq y.name []) _ refl e in
      option_and_then_some (fields_fit fields (fittings classes ys) counters) ((fitting_of classes v).fits (based b.name b.version) before) after n.1 (λ mid first rest.
      let one = ih.0 (in_slot (based b.name b.version)) before mid p t first s (omega (arith, room, len)) in
      let others = bases_written bs ms ys ih.1 counters mid after (p + length a.0) a.1 rest one.1 (omega (arith, room, len)) in
      record {
        last = others.last;
        each = record {
          y = y;
          more = ys;
          front = a.0;
          back = r.0;
          s1 = (a.1, counters);
          values = refl;
          first = record { v = v; part = part_is [] y n.0; value = one.0; counters = refl };
          others = others.each;
          spelled = refl;
        };
        stands = stands_at after (p + length a.0 + length r.0) (p + length (a.0 ++ r.0)) r.1 (omega (arith, len)) others.stands;
        readable = others.readable;
      })
