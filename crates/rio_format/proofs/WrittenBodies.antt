-- What is written for the bodies of built-in classes that fit spells them.
use Rattle.std.proofs.Common.{◌≡◌, ℕ, ◌+◌, ◌/◌, ◌<◌, ◌≤◌, pos, Bool, false, cond, List, [], ◌∷◌, ◌++◌, length, codes, Some, None, refl, sym, ap, subst, ◌∙◌, arith}
use Rattle.std.proofs.{lemmas.List.{length-append, length-map, append-nil}, lemmas.Option.{option_and_then_some}, Math.Nat.{div-le_self}}
use Rattle.std.specs.{Option.{option_and_then}, Str.{bytes_eq}}
use Rattle.byteorder.specs.Endian.{big_bytes}
use Rattle.rio_format.specs.{declared.class.ClassDef.{ClassDef}, declared.kind.Kind.TheVariants.{Plain}, declared.kind.Primitive.{Primitive, TheVariants.{U32}}}
use Rattle.rio_format.specs.{declared.value.Value.{Value, List as Items, Object}, declared.value.Part.{Part}}
use Rattle.rio_format.specs.{Bodies.{part}, Fits.{Labels, fields_fit, fitting_of}, Prims.{width_of}, Slots.{Slot, bare_fields, kinded, flags, many, Field, field}}
use Rattle.rio_format.specs.{Written.{Writing, bare_bytes, number_array_bytes, writing_step, writing_of}, ReaderState.{WordsMet}}
use Rattle.rio_format.proofs.{Composed.{Spelling, Spellings, SpellsTimes, SpellsNumber, SpellsPid, IsBare, IsArray}, Tests.{named_as}}
use Rattle.rio_format.proofs.{ComposedLengths.{IsLong, times_room, number_long, width_some}, ValueCases.{fold_List}, WrittenPlaces.{Stands, stands_more}}
use Rattle.rio_format.proofs.{WrittenWays.{in_slot, last_place}, WrittenLists.{AreKnown, fittings, writings, stands_at, some_is}}

-- how many there are is no more than how many bytes they have
pub times_low : (n width : ℕ) (spells : Spelling Value) → 0 < width → IsLong width spells → (p : ℕ) (t : WordsMet) (ys : List Value) (bytes : List ℕ) (t' : WordsMet) → SpellsTimes n spells p t ys bytes t' → n ≤ length bytes
times_low n width spells some long p t ys bytes t' c =
    let room : n ≤ length (bytes ++ []) / width = times_room n width spells some long p t ys bytes t' [] c in
    omega (arith, room, div-le_self (length (bytes ++ [])) width, length-append bytes [])

-- the number that is written before the items of a list
pub count_of_list : (classes : List ClassDef) (v : Value) (items : List Value) → v ≡ Items items → (writing_of classes v).count ≡ length items
count_of_list classes v items is = ap (λ (x : Value). (writing_of classes x).count) is ∙ ap (λ (w : Writing). w.count) (fold_List (writing_step classes) (λ p. p.value) items) ∙ length-map items (writing_of classes)

-- the first part fits in the first slot, and the others fit
pub record FirstFits (classes : List ClassDef) (f : Field) (fs : List Field) (y : Part) (ys : List Part) (before after : Labels) : Type 0 where
  pub part_is : y ≡ part f.name y.value
  pub mid : Labels
  pub first : (fitting_of classes y.value).fits f.slot before ≡ Some mid
  pub rest : fields_fit fs (fittings classes ys) [] mid ≡ Some after

-- where the slot is no counted member's
pub first_fits : (classes : List ClassDef) (name : List ℕ) (slot : Slot) (fs : List Field) (y : Part) (ys : List Part) (before after : Labels)
    → cond (bytes_eq y.name name) (option_and_then (fields_fit fs (fittings classes ys) []) ((fitting_of classes y.value).fits slot before)) None ≡ Some after → FirstFits classes (field name slot) fs y ys before after
first_fits classes name slot fs y ys before after e =
    let n = named_as name y.name after (bytes_eq y.name name) _ refl e in
    option_and_then_some (fields_fit fs (fittings classes ys) []) ((fitting_of classes y.value).fits slot before) after n.1 (λ mid first rest.
    record { part_is = ap (λ (x : List ℕ). part x y.value) n.0; mid = mid; first = first; rest = rest })

module _ (object : Spellings) (classes : List ClassDef) where
  -- ---- TObject

  pub bare_written : (parts : List Part) → AreKnown object classes parts → (before after : Labels) (p : ℕ) (t : WordsMet) → fields_fit bare_fields (fittings classes parts) [] before ≡ Some after → Stands before p t → p + length (bare_bytes (writings classes parts) p t).0 ≤ last_place
      → IsBare t (Object (codes "TObject") (pos 1) parts) (bare_bytes (writings classes parts) p t).0 (bare_bytes (writings classes parts) p t).1 × Stands after (p + length (bare_bytes (writings classes parts) p t).0) (bare_bytes (writings classes parts) p t).1
  bare_written [] ih before after p t e s room = absurd cc
  bare_written (y ∷ []) ih before after p t e s room =
      let f = first_fits classes (codes "fUniqueID") (kinded (Plain U32)) (field (codes "fBits") flags ∷ []) y [] before after e in
      absurd (let none = f.rest in cc)
  bare_written (y ∷ z ∷ x ∷ xs) ih before after p t e s room =
      let f = first_fits classes (codes "fUniqueID") (kinded (Plain U32)) (field (codes "fBits") flags ∷ []) y (z ∷ x ∷ xs) before after e in
      let g = first_fits classes (codes "fBits") flags [] z (x ∷ xs) f.mid after f.rest in
      absurd (let none = g.rest in cc)
  bare_written (y ∷ z ∷ []) ih before after p t e s room =
      let f = first_fits classes (codes "fUniqueID") (kinded (Plain U32)) (field (codes "fBits") flags ∷ []) y (z ∷ []) before after e in
      let g = first_fits classes (codes "fBits") flags [] z [] f.mid after f.rest in
      let a = (writing_of classes y.value).bytes (kinded (Plain U32)) (p + 2) t in
      let b = (writing_of classes z.value).bytes flags (p + 2 + length a.0) a.1 in
      let len = length-append a.0 b.0 in
      let id = ih.0 (in_slot (kinded (Plain U32))) before f.mid (p + 2) t f.first (stands_more before p (p + 2) t (omega arith) s) (omega (arith, room, len)) in
      let bits = ih.1.0 (in_slot flags) f.mid g.mid (p + 2 + length a.0) a.1 g.first id.1 (omega (arith, room, len)) in
      let own : IsBare t (Object (codes "TObject") (pos 1) (y ∷ z ∷ [])) (big_bytes 2 1 ++ (a.0 ++ b.0)) b.1 = record {
        id = id.0.n;
        bits = bits.0.n;
        pid = [];
        pid_bytes = [];
        value = λ i. Object (codes "TObject") (pos 1) ((f.part_is ∙ ap (part (codes "fUniqueID")) id.0.value) i ∷ (g.part_is ∙ ap (part (codes "fBits")) bits.0.value) i ∷ []);
        id_fits = omega (arith, id.0.fits);
        bits_fit = bits.0.low;
        pid_fits = let none : SpellsPid false [] [] = (refl, refl) in subst (λ (x : Bool). SpellsPid x [] []) (sym bits.0.plain) none;
        spelled = λ i. big_bytes 2 1 ++ (id.0.spelled i ++ (bits.0.spelled ∙ sym (append-nil (big_bytes 4 bits.0.n))) i);
        words = bits.0.words ∙ id.0.words;
      } in
      (own, subst (λ (l : Labels). Stands l (p + length (big_bytes 2 1 ++ (a.0 ++ b.0))) b.1) (some_is g.mid after g.rest) (stands_at g.mid (p + 2 + length a.0 + length b.0) (p + length (big_bytes 2 1 ++ (a.0 ++ b.0))) b.1 (omega (arith, len)) bits.1))

  -- ---- arrays of numbers

  pub array_written : (class : List ℕ) (of : Primitive) (parts : List Part) → AreKnown object classes parts → (before after : Labels) (p : ℕ) (t : WordsMet) → fields_fit (field (codes "items") (many (kinded (Plain of))) ∷ []) (fittings classes parts) [] before ≡ Some after → Stands before p t
      → p + length (number_array_bytes of (writings classes parts) p t).0 ≤ last_place
      → IsArray class of p t (Object class (pos 1) parts) (number_array_bytes of (writings classes parts) p t).0 (number_array_bytes of (writings classes parts) p t).1 × Stands after (p + length (number_array_bytes of (writings classes parts) p t).0) (number_array_bytes of (writings classes parts) p t).1
  array_written class of [] ih before after p t e s room = absurd cc
  array_written class of (y ∷ z ∷ ys) ih before after p t e s room =
      let f = first_fits classes (codes "items") (many (kinded (Plain of))) [] y (z ∷ ys) before after e in
      absurd (let none = f.rest in cc)
  array_written class of (y ∷ []) ih before after p t e s room =
      let f = first_fits classes (codes "items") (many (kinded (Plain of))) [] y [] before after e in
      let w = writing_of classes y.value in
      let a = w.bytes (many (kinded (Plain of))) (p + 4) t in
      let items = ih.0 (in_slot (many (kinded (Plain of)))) before f.mid (p + 4) t f.first (stands_more before p (p + 4) t (omega arith) s) (omega (arith, room)) in
      let count = length items.0.items in
      let low : count ≤ length a.0 = times_low count (width_of of) (SpellsNumber of) (width_some of) (number_long of) (p + 4) t items.0.items a.0 a.1 items.0.each in
      let own : IsArray class of p t (Object class (pos 1) (y ∷ [])) (big_bytes 4 w.count ++ a.0) a.1 = record {
        count = count;
        items = y.value;
        item_bytes = a.0;
        value = ap (λ (x : Part). Object class (pos 1) (x ∷ [])) f.part_is;
        low = omega (arith, low, room);
        each = record { items = items.0.items; value = items.0.value; each = items.0.each };
        spelled = ap (λ (n : ℕ). big_bytes 4 n ++ a.0) (count_of_list classes y.value items.0.items items.0.value);
      } in
      (own, subst (λ (l : Labels). Stands l (p + length (big_bytes 4 w.count ++ a.0)) a.1) (some_is f.mid after f.rest) (stands_at f.mid (p + 4 + length a.0) (p + length (big_bytes 4 w.count ++ a.0)) a.1 (omega arith) items.1))
