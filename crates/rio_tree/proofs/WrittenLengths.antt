-- What is written for a value is as long wherever it starts.
use Rattle.std.proofs.Common.{◌≡◌, ℕ, ◌+◌, ◌-◌, ◌^◌, ◌<◌, ◌≤◌, ℤ, pos, Bool, true, false, cond, eqb, ◌||◌, codes, List, [], ◌∷◌, ◌++◌, length, map, nat_eq, Option, Some, None, refl, sym, ap, subst, ◌∙◌, arith}
use Rattle.std.proofs.{lemmas.Bool.{ne_eqb}, lemmas.List.{length-append}}
use Rattle.std.specs.{List.{find, list_any}, Prelude.{slice_index}, Int.{w16, cast_unsigned}, Str.{bytes_eq}}
use Rattle.byteorder.specs.{Endian.{big_bytes}, Numbers.{length-bytes_high_first}}
use Rattle.indexmap.specs.IndexMap.{insert_entry}
use Rattle.rio_format.specs.{declared.class.ClassDef.{ClassDef}, declared.kind.Kind.TheVariants.{Plain, Counter, Fixed, Counted, Text as Texted, Inline, Pointer, Other}}
use Rattle.rio_format.specs.{declared.kind.Primitive.{Primitive, TheVariants.{I32, U16, U32}}, declared.value.Value.{Value, Int, Bits32, Bits64, Bool as Truth, Text, List as Items, Object, Pointed, Null, Back, Opaque}}
use Rattle.rio_format.specs.{declared.value.Part.{Part}, ReaderState.{WordsMet, no_words, with_label, with_name}, Writer.{Writer, class_by, class_bytes}}
use Rattle.rio_format.specs.{declared.form.Form.{Form, TheVariants.{Bare as bare, Numbers as numbers, Headed as headed}}, Bodies.{Body, described, form_of, listed, arrayed, opaque}}
use Rattle.rio_format.specs.Slots.{Field, Slot, any_pointer, based, body_fields, declared_body, flags, kinded, link, many}
use Rattle.rio_format.specs.Written.{Writing, all, number_array_bytes, arrayed_bytes, bare_bytes, body_bytes, both, counted, counted_bytes, described_bytes, fields_bytes, form_bytes, headed_bytes, just, labelled, link_bytes, list_bytes, listed_bytes, pointed_bytes, writing_of, writing_step, written_form}
use Rattle.rio_format.proofs.ValueCases.{Each, by_cases, fold_Int, fold_Bits32, fold_Bits64, fold_Bool, fold_Text, fold_List, fold_Pointed, fold_Null, fold_Back, fold_Opaque}
use Rattle.rio_format.proofs.{WrittenLists.{writings}, WrittenValues.{write_object}, WrittenPlaces.{Names, NamesBelow, names_more, names_push}}

-- ---- names that are met

-- a name at a place behind all others
pub pushed : (p : ℕ) (name : List ℕ) (es : Names) → NamesBelow p es → insert_entry nat_eq es p name ≡ es ++ (p, name) ∷ []
pushed p name [] h = refl
pushed p name (e ∷ es) h =
    let ne : eqb p e.0 ≡ false = ne_eqb _ _ (omega (arith, h.0)) in
    rw ne (ap (λ (x : Names). e ∷ x) (pushed p name es h.1))

abbrev pub is_named : List ℕ → Names → Bool
is_named class es = list_any (λ e. bytes_eq e.1 class) es

pub named_push : (class name : List ℕ) (p : ℕ) (es : Names) → is_named class (es ++ (p, name) ∷ []) ≡ (is_named class es || bytes_eq name class)
named_push class name p [] = by (bytes_eq name class)
  where
    by : (b : Bool) → (b || false) ≡ b
    by true = refl
    by false = refl
named_push class name p (e ∷ es) = by (bytes_eq e.1 class) (named_push class name p es)
  where
    by : (b : Bool) → is_named class (es ++ (p, name) ∷ []) ≡ (is_named class es || bytes_eq name class)
        → (b || is_named class (es ++ (p, name) ∷ [])) ≡ ((b || is_named class es) || bytes_eq name class)
    by true rest = refl
    by false rest = rest

pub named_found : (class : List ℕ) (es : Names) (e : ℕ × List ℕ) → find (λ e. bytes_eq e.1 class) es ≡ Some e → is_named class es ≡ true
named_found class [] e is = absurd cc
named_found class (x ∷ es) e is = by (bytes_eq x.1 class) is (named_found class es e)
  where
    by : (b : Bool) → cond b (Some x) (find (λ e. bytes_eq e.1 class) es) ≡ Some e → (find (λ e. bytes_eq e.1 class) es ≡ Some e → is_named class es ≡ true) → (b || is_named class es) ≡ true
    by true is rest = refl
    by false is rest = rest is

pub not_named : (class : List ℕ) (es : Names) → find (λ e. bytes_eq e.1 class) es ≡ None → is_named class es ≡ false
not_named class [] is = refl
not_named class (x ∷ es) is = by (bytes_eq x.1 class) is (not_named class es)
  where
    by : (b : Bool) → cond b (Some x) (find (λ e. bytes_eq e.1 class) es) ≡ None → (find (λ e. bytes_eq e.1 class) es ≡ None → is_named class es ≡ false) → (b || is_named class es) ≡ false
    by true is rest = absurd cc
    by false is rest = rest is

-- at two places the same names are known
pub record Alike (p : ℕ) (t : WordsMet) (q : ℕ) (u : WordsMet) : Type 0 where
  pub left : NamesBelow p t.names
  pub right : NamesBelow q u.names
  pub same : (class : List ℕ) → is_named class t.names ≡ is_named class u.names

pub alike_later : (p p' q q' : ℕ) (t u : WordsMet) → p ≤ p' → q ≤ q' → Alike p t q u → Alike p' t q' u
alike_later p p' q q' t u le lf h = record { left = names_more p p' t.names le h.left; right = names_more q q' u.names lf h.right; same = h.same }

-- ---- writers

-- what is written at the two places is as long, and the same names are known behind it
pub record AreAsLong (p q : ℕ) (a b : List ℕ × WordsMet) : Type 0 where
  pub long : length a.0 ≡ length b.0
  pub alike : Alike (p + length a.0) a.1 (q + length b.0) b.1

abbrev pub WriteAsLong : Writer → Writer → Type 0
WriteAsLong f g = (p q : ℕ) (t u : WordsMet) → Alike p t q u → AreAsLong p q (f p t) (g q u)

abbrev pub IsSteady : Writer → Type 0
IsSteady f = WriteAsLong f f

pub just_long : (xs ys : List ℕ) → length xs ≡ length ys → WriteAsLong (just xs) (just ys)
just_long xs ys e p q t u h = record { long = e; alike = alike_later p (p + length xs) q (q + length ys) t u (omega arith) (omega arith) h }

just_steady : (xs : List ℕ) → IsSteady (just xs)
just_steady xs = just_long xs xs refl

pub both_long : (f g f' g' : Writer) → WriteAsLong f f' → WriteAsLong g g' → WriteAsLong (both f g) (both f' g')
both_long f g f' g' one two p q t u h =
    let a = f p t in
    let b = f' q u in
    let first = one p q t u h in
    let x = g (p + length a.0) a.1 in
    let y = g' (q + length b.0) b.1 in
    let second = two (p + length a.0) (q + length b.0) a.1 b.1 first.alike in
    let la = length-append a.0 x.0 in
    let lb = length-append b.0 y.0 in
    record {
      long = omega (arith, la, lb, first.long, second.long);
      alike = alike_later (p + length a.0 + length x.0) (p + length (a.0 ++ x.0)) (q + length b.0 + length y.0) (q + length (b.0 ++ y.0)) x.1 y.1
          (omega (arith, la)) (omega (arith, lb)) second.alike;
    }

pub word_long : (x y : ℕ) → length (big_bytes 4 x) ≡ length (big_bytes 4 y)
word_long x y = length-bytes_high_first 4 x ∙ sym (length-bytes_high_first 4 y)

-- a count before what it counts
pub counted_long : (p q : ℕ) (a b : List ℕ × WordsMet) → AreAsLong (p + 4) (q + 4) a b → AreAsLong p q (counted a) (counted b)
counted_long p q a b h =
    let x = length a.0 + 2 ^ 30 in
    let y = length b.0 + 2 ^ 30 in
    let la = length-append (big_bytes 4 x) a.0 in
    let lb = length-append (big_bytes 4 y) b.0 in
    let wa = length-bytes_high_first 4 x in
    let wb = length-bytes_high_first 4 y in
    record {
      long = omega (arith, la, lb, wa, wb, h.long);
      alike = alike_later (p + 4 + length a.0) (p + length (big_bytes 4 x ++ a.0)) (q + 4 + length b.0) (q + length (big_bytes 4 y ++ b.0)) a.1 b.1
          (omega (arith, la, wa)) (omega (arith, lb, wb)) h.alike;
    }

-- ---- class words

pub named_alike : (class : List ℕ) (p q n : ℕ) (t u : WordsMet) → 0 < n → Alike p t q u → Alike (p + n) (with_name t p class) (q + n) (with_name u q class)
named_alike class p q n t u some h = record {
  left = names_push p (p + n) class t.names (omega (arith, some)) h.left;
  right = names_push q (q + n) class u.names (omega (arith, some)) h.right;
  same = λ c.
      ap (is_named c) (pushed p class t.names h.left) ∙ named_push c class p t.names ∙ ap (λ b. b || bytes_eq class c) (h.same c)
      ∙ sym (ap (is_named c) (pushed q class u.names h.right) ∙ named_push c class q u.names);
}

pub class_long : (class : List ℕ) → IsSteady (class_bytes class)
class_long class p q t u h = by (find (λ e. bytes_eq e.1 class) t.names) (find (λ e. bytes_eq e.1 class) u.names) refl refl
  where
    some : 0 < length (big_bytes 4 (2 ^ 32 - 1) ++ (class ++ 0 ∷ []))
    some = omega (arith, length-append (big_bytes 4 (2 ^ 32 - 1)) (class ++ 0 ∷ []), length-append class (0 ∷ []))

    by : (x y : Option (ℕ × List ℕ)) → find (λ e. bytes_eq e.1 class) t.names ≡ x → find (λ e. bytes_eq e.1 class) u.names ≡ y → AreAsLong p q (class_by class x p t) (class_by class y q u)
    by None None l r = record { long = refl; alike = named_alike class p q (length (big_bytes 4 (2 ^ 32 - 1) ++ (class ++ 0 ∷ []))) t u some h }
    by None (Some y) l r = let a = not_named class t.names l in let b = named_found class u.names y r in let c = h.same class in absurd cc
    by (Some x) None l r = let a = named_found class t.names x l in let b = not_named class u.names r in let c = h.same class in absurd cc
    by (Some x) (Some y) l r = just_long (big_bytes 4 (x.0 + (2 ^ 31 + 2))) (big_bytes 4 (y.0 + (2 ^ 31 + 2))) (word_long (x.0 + (2 ^ 31 + 2)) (y.0 + (2 ^ 31 + 2))) p q t u h

pub labelled_long : (i j : ℕ) (f : Writer) → IsSteady f → WriteAsLong (labelled i f) (labelled j f)
labelled_long i j f steady p q t u h = steady p q (with_label t i) (with_label u j) (record { left = h.left; right = h.right; same = h.same })

pointed_long : (w : Writing) → ((slot : Slot) → IsSteady (w.bytes slot)) → IsSteady (pointed_bytes w)
pointed_long w steady p q t u h =
    let own = w.bytes (kinded (Inline w.class)) in
    let inner = both_long (class_bytes w.class) (labelled p own) (class_bytes w.class) (labelled q own) (class_long w.class) (labelled_long p q own (steady (kinded (Inline w.class)))) in
    counted_long p q _ _ (inner (p + 4) (q + 4) t u (alike_later p (p + 4) q (q + 4) t u (omega arith) (omega arith) h))

-- ---- lists

abbrev pub Steady : Writing → Type 0
Steady w = (slot : Slot) → IsSteady (w.bytes slot)

all_long : (slot : Slot) (ws : List Writing) → Each Steady ws → IsSteady (all slot ws)
all_long slot [] known = just_steady []
all_long slot (w ∷ ws) known = both_long (w.bytes slot) (all slot ws) (w.bytes slot) (all slot ws) (known.0 slot) (all_long slot ws known.1)

twice_long : (f g : Writer) → IsSteady f → IsSteady g → IsSteady (both f g)
twice_long f g one two = both_long f g f g one two

counted_values_long : (of : Primitive) (ws : List Writing) → Each Steady ws → IsSteady (counted_bytes of ws)
counted_values_long of [] known = just_steady (0 ∷ [])
counted_values_long of (w ∷ ws) known = twice_long (just (1 ∷ [])) (all (kinded (Plain of)) (w ∷ ws)) (just_steady (1 ∷ [])) (all_long (kinded (Plain of)) (w ∷ ws) known)

link_long : (ws : List Writing) → Each Steady ws → IsSteady (link_bytes ws)
link_long [] known = just_steady []
link_long (a ∷ []) known = just_steady []
link_long (a ∷ b ∷ []) known = twice_long (a.bytes any_pointer) (b.bytes (kinded Texted)) (known.0 any_pointer) (known.1.0 (kinded Texted))
link_long (a ∷ b ∷ c ∷ ws) known = just_steady []

pub list_long : (ws : List Writing) → Each Steady ws → (slot : Slot) → IsSteady (list_bytes ws slot)
list_long ws known (kinded (Fixed of count)) = all_long (kinded (Plain of)) ws known
list_long ws known (kinded (Counted of counter)) = counted_values_long of ws known
list_long ws known link = link_long ws known
list_long ws known (many slot) = all_long slot ws known
list_long ws known (kinded (Plain of)) = just_steady []
list_long ws known (kinded Counter) = just_steady []
list_long ws known (kinded Texted) = just_steady []
list_long ws known (kinded (Inline class)) = just_steady []
list_long ws known (kinded (Pointer class)) = just_steady []
list_long ws known (kinded (Other code)) = just_steady []
list_long ws known (based class version) = just_steady []
list_long ws known flags = just_steady []
list_long ws known any_pointer = just_steady []

-- ---- objects

fields_long : (fs : List Field) (ws : List Writing) → Each Steady ws → IsSteady (fields_bytes fs ws)
fields_long [] ws known = just_steady []
fields_long (f ∷ fs) [] known = just_steady []
fields_long (f ∷ fs) (w ∷ ws) known = twice_long (w.bytes f.slot) (fields_bytes fs ws) (known.0 f.slot) (fields_long fs ws known.1)

described_long : (fields : Option (List Field)) (ws : List Writing) → Each Steady ws → IsSteady (described_bytes fields ws)
described_long None ws known = just_steady []
described_long (Some fs) ws known = fields_long fs ws known

listed_long : (ws : List Writing) → Each Steady ws → IsSteady (listed_bytes ws)
listed_long [] known = just_steady []
listed_long (a ∷ []) known = just_steady []
listed_long (a ∷ b ∷ []) known = just_steady []
listed_long (a ∷ b ∷ c ∷ []) known =
    let count = just_steady (big_bytes 4 c.count) in
    let items = twice_long (just (big_bytes 4 c.count)) (c.bytes (many link)) count (known.1.1.0 (many link)) in
    let name = twice_long (b.bytes (kinded Texted)) (both (just (big_bytes 4 c.count)) (c.bytes (many link))) (known.1.0 (kinded Texted)) items in
    twice_long (a.bytes (based (codes "TObject") (pos 1))) (both (b.bytes (kinded Texted)) (both (just (big_bytes 4 c.count)) (c.bytes (many link)))) (known.0 (based (codes "TObject") (pos 1))) name
listed_long (a ∷ b ∷ c ∷ d ∷ ws) known = just_steady []

arrayed_long : (ws : List Writing) → Each Steady ws → IsSteady (arrayed_bytes ws)
arrayed_long [] known = just_steady []
arrayed_long (a ∷ []) known = just_steady []
arrayed_long (a ∷ b ∷ []) known = just_steady []
arrayed_long (a ∷ b ∷ c ∷ []) known = just_steady []
arrayed_long (a ∷ b ∷ c ∷ d ∷ []) known =
    let lower = c.bytes (kinded (Plain I32)) in
    let items = d.bytes (many any_pointer) in
    let count = just (big_bytes 4 d.count) in
    let last = twice_long lower items (known.1.1.0 (kinded (Plain I32))) (known.1.1.1.0 (many any_pointer)) in
    let counted_last = twice_long count (both lower items) (just_steady (big_bytes 4 d.count)) last in
    let named = twice_long (b.bytes (kinded Texted)) (both count (both lower items)) (known.1.0 (kinded Texted)) counted_last in
    twice_long (a.bytes (based (codes "TObject") (pos 1))) (both (b.bytes (kinded Texted)) (both count (both lower items))) (known.0 (based (codes "TObject") (pos 1))) named
arrayed_long (a ∷ b ∷ c ∷ d ∷ e ∷ ws) known = just_steady []

body_long : (body : Option Body) (ws : List Writing) → Each Steady ws → IsSteady (body_bytes body ws)
body_long None ws known = just_steady []
body_long (Some (described c)) ws known = described_long (body_fields (Some (described c))) ws known
body_long (Some listed) ws known = listed_long ws known
body_long (Some arrayed) ws known = arrayed_long ws known
body_long (Some opaque) ws known = just_steady []

bare_long : (ws : List Writing) → Each Steady ws → IsSteady (bare_bytes ws)
bare_long [] known = just_steady []
bare_long (a ∷ []) known = just_steady []
bare_long (a ∷ b ∷ []) known =
    let version = just (big_bytes 2 1) in
    let id = a.bytes (kinded (Plain U32)) in
    twice_long version (both id (b.bytes flags)) (just_steady (big_bytes 2 1)) (twice_long id (b.bytes flags) (known.0 (kinded (Plain U32))) (known.1.0 flags))
bare_long (a ∷ b ∷ c ∷ []) known =
    let version = just (big_bytes 2 1) in
    let id = a.bytes (kinded (Plain U32)) in
    let pid = c.bytes (kinded (Plain U16)) in
    let last = twice_long (b.bytes flags) pid (known.1.0 flags) (known.1.1.0 (kinded (Plain U16))) in
    twice_long version (both id (both (b.bytes flags) pid)) (just_steady (big_bytes 2 1)) (twice_long id (both (b.bytes flags) pid) (known.0 (kinded (Plain U32))) last)
bare_long (a ∷ b ∷ c ∷ d ∷ ws) known = just_steady []

array_long : (of : Primitive) (ws : List Writing) → Each Steady ws → IsSteady (number_array_bytes of ws)
array_long of [] known = just_steady []
array_long of (a ∷ []) known = twice_long (just (big_bytes 4 a.count)) (a.bytes (many (kinded (Plain of)))) (just_steady (big_bytes 4 a.count)) (known.0 (many (kinded (Plain of))))
array_long of (a ∷ b ∷ ws) known = just_steady []

headed_long : (version : ℤ) (f : Writer) → IsSteady f → IsSteady (headed_bytes version f)
headed_long version f steady p q t u h =
    let first = just (big_bytes 2 (cast_unsigned w16 version)) in
    counted_long p q _ _ (twice_long first f (just_steady (big_bytes 2 (cast_unsigned w16 version))) steady (p + 4) (q + 4) t u (alike_later p (p + 4) q (q + 4) t u (omega arith) (omega arith) h))

form_long : (classes : List ClassDef) (class : List ℕ) (version : ℤ) (form : Form) (ws : List Writing) → Each Steady ws → IsSteady (form_bytes classes class version form ws)
form_long classes class version bare ws known = bare_long ws known
form_long classes class version (numbers of) ws known = array_long of ws known
form_long classes class version headed ws known = headed_long version (body_bytes (declared_body classes class version) ws) (body_long (declared_body classes class version) ws known)

-- ---- values

module _ (classes : List ClassDef) where
  abbrev pub Long : Value → Type 0
  Long v = Steady (writing_of classes v)

  as_layer : (v : Value) (w : Writing) → writing_of classes v ≡ w → Steady w → Long v
  as_layer v w is steady = subst Steady (sym is) steady

  each_steady : (vs : List Value) → Each Long vs → Each Steady (map (writing_of classes) vs)
  each_steady [] known = tt
  each_steady (v ∷ vs) known = (known.0, each_steady vs known.1)

  parts_steady : (ps : List Part) → Each (λ p. Long p.value) ps → Each Steady (writings classes ps)
  parts_steady [] known = tt
  parts_steady (p ∷ ps) known = (known.0, parts_steady ps known.1)

  pub long : (v : Value) → Long v
  long = by_cases Long (record {
    int = λ z. as_layer (Int z) _ (fold_Int (writing_step classes) (λ p. p.value) z) (λ slot. just_steady _);
    bits32 = λ n. as_layer (Bits32 n) _ (fold_Bits32 (writing_step classes) (λ p. p.value) n) (λ slot. just_steady _);
    bits64 = λ n. as_layer (Bits64 n) _ (fold_Bits64 (writing_step classes) (λ p. p.value) n) (λ slot. just_steady _);
    truth = λ b. as_layer (Truth b) _ (fold_Bool (writing_step classes) (λ p. p.value) b) (λ slot. just_steady _);
    text = λ t. as_layer (Text t) _ (fold_Text (writing_step classes) (λ p. p.value) t) (λ slot. just_steady _);
    list = λ vs known. as_layer (Items vs) _ (fold_List (writing_step classes) (λ p. p.value) vs) (list_long (map (writing_of classes) vs) (each_steady vs known));
    object = λ class version ps known. as_layer (Object class version ps) _ (write_object classes class version ps) (λ slot. form_long classes class version (form_of class) (writings classes ps) (parts_steady ps known));
    pointed = λ label object known. as_layer (Pointed label object) _ (fold_Pointed (writing_step classes) (λ p. p.value) label object) (λ slot. pointed_long (writing_of classes object) known);
    null = as_layer Null _ (fold_Null (writing_step classes) (λ p. p.value)) (λ slot. just_steady _);
    back = λ label. as_layer (Back label) _ (fold_Back (writing_step classes) (λ p. p.value) label)
        (λ slot p q t u h. just_long (big_bytes 4 (slice_index t.labels label + 2)) (big_bytes 4 (slice_index u.labels label + 2)) (word_long (slice_index t.labels label + 2) (slice_index u.labels label + 2)) p q t u h);
    opaque = λ class len. as_layer (Opaque class len) _ (fold_Opaque (writing_step classes) (λ p. p.value) class len) (λ slot. just_steady _);
  })

  pub written_length : (p q : ℕ) (v : Value) → length (written_form classes p v) ≡ length (written_form classes q v)
  written_length p q v =
      let w = writing_of classes v in
      (long v (kinded (Inline w.class)) p q no_words no_words (record { left = tt; right = tt; same = λ c. refl })).long
