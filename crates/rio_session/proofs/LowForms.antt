-- How long at most is what is written for a value, wherever it starts and whatever was met before.
use Rattle.std.proofs.Common.{◌≡◌, ℕ, ◌+◌, ◌-◌, ◌≤◌, ◌^◌, ℤ, pos, Bool, true, false, cond, ltb, codes, List, [], ◌∷◌, ◌++◌, length, map, Option, Some, None, refl, sym, ap, subst, ◌∙◌, arith}
use Rattle.std.proofs.lemmas.List.{length-append}
use Rattle.std.specs.{List.{find}, Int.{cast_unsigned, w16, w32}, Prelude.{slice_index}, Str.{bytes_eq}}
use Rattle.byteorder.specs.{Endian.{big_bytes}, Numbers.{length-bytes_high_first}}
use Rattle.rio_num.specs.Text.{long_form, short_form, text_bytes}
use Rattle.rio_format.specs.{declared.class.ClassDef.{ClassDef}, declared.kind.Kind.{Kind, TheVariants.{Plain, Counter, Fixed, Counted, Text as Texted, Inline, Pointer, Other}}}
use Rattle.rio_format.specs.declared.kind.Primitive.{Primitive, TheVariants.{I8, I16, I32, I64, U8, U16, U32, U64, Bool as Boolean, F32, F64}}
use Rattle.rio_format.specs.{declared.value.Value.{Value, Int, Bool as Truth, Text, List as Items, Object, Pointed, Null, Back}, declared.value.Part.{Part}}
use Rattle.rio_format.specs.{ReaderState.{WordsMet, with_label}, Writer.{Writer, class_by, class_bytes}}
use Rattle.rio_format.specs.{Bodies.{Body, form_of, described, listed, arrayed, opaque}, Prims.{width_of}, declared.form.Form.{Form, TheVariants.{Bare as bare, Numbers as numbers, Headed as headed}}}
use Rattle.rio_format.specs.Slots.{Field, Slot, any_pointer, based, body_fields, declared_body, flags, kinded, link, many}
use Rattle.rio_format.specs.Written.{Writing, all, width_in_bits, arrayed_bytes, bare_bytes, body_bytes, both, counted, counted_bytes, described_bytes, fields_bytes, form_bytes, headed_bytes, int_bytes, just, labelled, link_bytes, list_bytes, listed_bytes, number_array_bytes, pointed_bytes, writing_of, writing_step}
use Rattle.rio_format.proofs.{ValueCases.{fold_Int, fold_Bool, fold_Text, fold_List, fold_Pointed, fold_Null, fold_Back}, WrittenLists.{writings}, WrittenValues.{write_object}}

-- ---- writers

-- it writes no more bytes than so many
abbrev pub Writes : Writer → ℕ → Type 0
Writes f n = (p : ℕ) (t : WordsMet) → length (f p t).0 ≤ n

-- of a value, also with the name of its class
abbrev pub IsLow : Writing → ℕ → Type 0
IsLow w n = (slot : Slot) (p : ℕ) (t : WordsMet) → length (w.bytes slot p t).0 + length w.class ≤ n

-- of several together
abbrev pub AllLow : List Writing → ℕ → Type 0
AllLow [] n = Unit {0}
AllLow (w ∷ ws) n = (k : ℕ) × (m : ℕ) × IsLow w k × AllLow ws m × (k + m ≤ n)

both_low : (f g : Writer) (a b : ℕ) → Writes f a → Writes g b → Writes (both f g) (a + b)
both_low f g a b one two p t =
    let x = f p t in
    let y = g (p + length x.0) x.1 in
    let first = one p t in
    let second = two (p + length x.0) x.1 in
    omega (arith, length-append x.0 y.0, first, second)

more_low : (f : Writer) (a b : ℕ) → a ≤ b → Writes f a → Writes f b
more_low f a b le low p t = let l = low p t in omega (arith, l, le)

just_low : (bytes : List ℕ) (n : ℕ) → length bytes ≤ n → Writes (just bytes) n
just_low bytes n le p t = le

slot_low : (w : Writing) (n : ℕ) (slot : Slot) → IsLow w n → Writes (w.bytes slot) n
slot_low w n slot low p t = let l = low slot p t in omega (arith, l)

word : (n : ℕ) → length (big_bytes 4 n) ≤ 4
word n = omega (arith, length-bytes_high_first 4 n)

all_low : (slot : Slot) (ws : List Writing) (n : ℕ) → AllLow ws n → Writes (all slot ws) n
all_low slot [] n low p t = omega arith
all_low slot (w ∷ ws) n low p t =
    more_low (all slot (w ∷ ws)) (low.0 + low.1) n low.4 (both_low (w.bytes slot) (all slot ws) low.0 low.1 (slot_low w low.0 slot low.2) (all_low slot ws low.1 low.3)) p t

fields_low : (fs : List Field) (ws : List Writing) (n : ℕ) → AllLow ws n → Writes (fields_bytes fs ws) n
fields_low [] ws n low p t = omega arith
fields_low (f ∷ fs) [] n low p t = omega arith
fields_low (f ∷ fs) (w ∷ ws) n low p t =
    more_low (fields_bytes (f ∷ fs) (w ∷ ws)) (low.0 + low.1) n low.4 (both_low (w.bytes f.slot) (fields_bytes fs ws) low.0 low.1 (slot_low w low.0 f.slot low.2) (fields_low fs ws low.1 low.3)) p t

counted_low : (a : List ℕ × WordsMet) (n : ℕ) → length a.0 ≤ n → length (counted a).0 ≤ n + 4
counted_low a n le = omega (arith, length-append (big_bytes 4 (length a.0 + 2 ^ 30)) a.0, length-bytes_high_first 4 (length a.0 + 2 ^ 30), le)

class_low : (class : List ℕ) → Writes (class_bytes class) (length class + 5)
class_low class p t = by (find (λ e. bytes_eq e.1 class) t.names)
  where
    by : (o : Option (ℕ × List ℕ)) → length (class_by class o p t).0 ≤ length class + 5
    by None = omega (arith, length-append (big_bytes 4 (2 ^ 32 - 1)) (class ++ 0 ∷ []), length-append class (0 ∷ []), length-bytes_high_first 4 (2 ^ 32 - 1))
    by (Some e) = omega (arith, word (e.0 + (2 ^ 31 + 2)))

pointed_low : (w : Writing) (n : ℕ) → IsLow w n → Writes (pointed_bytes w) (n + 9)
pointed_low w n low p t =
    let object = λ (q : ℕ) (u : WordsMet). labelled p (w.bytes (kinded (Inline w.class))) q u in
    let a = class_bytes w.class (p + 4) t in
    let b = object (p + 4 + length a.0) a.1 in
    let own = low (kinded (Inline w.class)) (p + 4 + length a.0) (with_label a.1 p) in
    let class = class_low w.class (p + 4) t in
    let all = counted_low (both (class_bytes w.class) object (p + 4) t) (n + 5) (omega (arith, length-append a.0 b.0, own, class)) in
    omega (arith, all)

-- ---- bodies

listed_low : (ws : List Writing) (n : ℕ) → AllLow ws n → Writes (listed_bytes ws) (n + 4)
listed_low [] n low p t = omega arith
listed_low (a ∷ []) n low p t = omega arith
listed_low (a ∷ b ∷ []) n low p t = omega arith
listed_low (a ∷ b ∷ c ∷ d ∷ ws) n low p t = omega arith
listed_low (base ∷ name ∷ items ∷ []) n low p t =
    let one = slot_low base low.0 (based (codes "TObject") (pos 1)) low.2 in
    let rest = low.3 in
    let two = slot_low name rest.0 (kinded Texted) rest.2 in
    let last = rest.3 in
    let three = slot_low items last.0 (many link) last.2 in
    let end = both_low (just (big_bytes 4 items.count)) (items.bytes (many link)) 4 last.0 (just_low (big_bytes 4 items.count) 4 (word items.count)) three in
    let all = both_low (base.bytes (based (codes "TObject") (pos 1))) (both (name.bytes (kinded Texted)) (both (just (big_bytes 4 items.count)) (items.bytes (many link)))) low.0 (rest.0 + (4 + last.0)) one
    (both_low (name.bytes (kinded Texted)) (both (just (big_bytes 4 items.count)) (items.bytes (many link))) rest.0 (4 + last.0) two end) p t in
    omega (arith, all, low.4, rest.4, last.4)

arrayed_low : (ws : List Writing) (n : ℕ) → AllLow ws n → Writes (arrayed_bytes ws) (n + 4)
arrayed_low [] n low p t = omega arith
arrayed_low (a ∷ []) n low p t = omega arith
arrayed_low (a ∷ b ∷ []) n low p t = omega arith
arrayed_low (a ∷ b ∷ c ∷ []) n low p t = omega arith
arrayed_low (a ∷ b ∷ c ∷ d ∷ e ∷ ws) n low p t = omega arith
arrayed_low (base ∷ name ∷ lower ∷ items ∷ []) n low p t =
    let one = slot_low base low.0 (based (codes "TObject") (pos 1)) low.2 in
    let rest = low.3 in
    let two = slot_low name rest.0 (kinded Texted) rest.2 in
    let more = rest.3 in
    let three = slot_low lower more.0 (kinded (Plain I32)) more.2 in
    let last = more.3 in
    let four = slot_low items last.0 (many any_pointer) last.2 in
    let end = both_low (lower.bytes (kinded (Plain I32))) (items.bytes (many any_pointer)) more.0 last.0 three four in
    let mid = both_low (just (big_bytes 4 items.count)) (both (lower.bytes (kinded (Plain I32))) (items.bytes (many any_pointer))) 4 (more.0 + last.0) (just_low (big_bytes 4 items.count) 4 (word items.count)) end in
    let named = both_low (name.bytes (kinded Texted)) (both (just (big_bytes 4 items.count)) (both (lower.bytes (kinded (Plain I32))) (items.bytes (many any_pointer)))) rest.0 (4 + (more.0 + last.0)) two mid in
    let all = both_low (base.bytes (based (codes "TObject") (pos 1)))
    (both (name.bytes (kinded Texted)) (both (just (big_bytes 4 items.count)) (both (lower.bytes (kinded (Plain I32))) (items.bytes (many any_pointer))))) low.0 (rest.0 + (4 + (more.0 + last.0))) one named p t in
    omega (arith, all, low.4, rest.4, more.4, last.4)

described_low : (fs : Option (List Field)) (ws : List Writing) (n : ℕ) → AllLow ws n → Writes (described_bytes fs ws) n
described_low None ws n low p t = omega arith
described_low (Some fs) ws n low p t = fields_low fs ws n low p t

body_low : (body : Option Body) (ws : List Writing) (n : ℕ) → AllLow ws n → Writes (body_bytes body ws) (n + 4)
body_low None ws n low p t = omega arith
body_low (Some (described c)) ws n low p t = more_low (described_bytes (body_fields (Some (described c))) ws) n (n + 4) (omega arith) (described_low (body_fields (Some (described c))) ws n low) p t
body_low (Some listed) ws n low p t = listed_low ws n low p t
body_low (Some arrayed) ws n low p t = arrayed_low ws n low p t
body_low (Some opaque) ws n low p t = omega arith

bare_low : (ws : List Writing) (n : ℕ) → AllLow ws n → Writes (bare_bytes ws) (n + 2)
bare_low [] n low p t = omega arith
bare_low (a ∷ []) n low p t = omega arith
bare_low (a ∷ b ∷ c ∷ d ∷ ws) n low p t = omega arith
bare_low (id ∷ bits ∷ []) n low p t =
    let rest = low.3 in
    let one = slot_low id low.0 (kinded (Plain U32)) low.2 in
    let two = slot_low bits rest.0 flags rest.2 in
    let start = just_low (big_bytes 2 1) 2 (omega (arith, length-bytes_high_first 2 1)) in
    let all = both_low (just (big_bytes 2 1)) (both (id.bytes (kinded (Plain U32))) (bits.bytes flags)) 2 (low.0 + rest.0) start (both_low (id.bytes (kinded (Plain U32))) (bits.bytes flags) low.0 rest.0 one two) p t in
    omega (arith, all, low.4, rest.4)
bare_low (id ∷ bits ∷ pid ∷ []) n low p t =
    let rest = low.3 in
    let last = rest.3 in
    let one = slot_low id low.0 (kinded (Plain U32)) low.2 in
    let two = slot_low bits rest.0 flags rest.2 in
    let three = slot_low pid last.0 (kinded (Plain U16)) last.2 in
    let start = just_low (big_bytes 2 1) 2 (omega (arith, length-bytes_high_first 2 1)) in
    let end = both_low (bits.bytes flags) (pid.bytes (kinded (Plain U16))) rest.0 last.0 two three in
    let all = both_low (just (big_bytes 2 1)) (both (id.bytes (kinded (Plain U32))) (both (bits.bytes flags) (pid.bytes (kinded (Plain U16))))) 2 (low.0 + (rest.0 + last.0)) start
    (both_low (id.bytes (kinded (Plain U32))) (both (bits.bytes flags) (pid.bytes (kinded (Plain U16)))) low.0 (rest.0 + last.0) one end) p t in
    omega (arith, all, low.4, rest.4, last.4)

numbers_low : (prim : Primitive) (ws : List Writing) (n : ℕ) → AllLow ws n → Writes (number_array_bytes prim ws) (n + 4)
numbers_low prim [] n low p t = omega arith
numbers_low prim (a ∷ b ∷ ws) n low p t = omega arith
numbers_low prim (items ∷ []) n low p t =
    let one = slot_low items low.0 (many (kinded (Plain prim))) low.2 in
    let all = both_low (just (big_bytes 4 items.count)) (items.bytes (many (kinded (Plain prim)))) 4 low.0 (just_low (big_bytes 4 items.count) 4 (word items.count)) one p t in
    omega (arith, all, low.4)

headed_low : (version : ℤ) (body : Writer) (n : ℕ) → Writes body n → Writes (headed_bytes version body) (n + 6)
headed_low version body n low p t =
    let start = just_low (big_bytes 2 (cast_unsigned w16 version)) 2 (omega (arith, length-bytes_high_first 2 (cast_unsigned w16 version))) in
    let inner = both_low (just (big_bytes 2 (cast_unsigned w16 version))) body 2 n start low (p + 4) t in
    let all = counted_low (both (just (big_bytes 2 (cast_unsigned w16 version))) body (p + 4) t) (2 + n) inner in
    omega (arith, all)

form_low : (classes : List ClassDef) (class : List ℕ) (version : ℤ) (form : Form) (ws : List Writing) (n : ℕ) → AllLow ws n → Writes (form_bytes classes class version form ws) (n + 10)
form_low classes class version bare ws n low p t = let l = bare_low ws n low p t in omega (arith, l)
form_low classes class version (numbers prim) ws n low p t = let l = numbers_low prim ws n low p t in omega (arith, l)
form_low classes class version headed ws n low p t =
    let l = headed_low version (body_bytes (declared_body classes class version) ws) (n + 4) (body_low (declared_body classes class version) ws n low) p t in omega (arith, l)

-- ---- values

width_low : (prim : Primitive) → width_of prim ≤ 8
width_low I8 = omega arith
width_low I16 = omega arith
width_low I32 = omega arith
width_low I64 = omega arith
width_low U8 = omega arith
width_low U16 = omega arith
width_low U32 = omega arith
width_low U64 = omega arith
width_low Boolean = omega arith
width_low F32 = omega arith
width_low F64 = omega arith

int_low : (z : ℤ) (slot : Slot) → length (int_bytes z slot) ≤ 8
int_low z (kinded (Plain prim)) = let w = width_low prim in omega (arith, length-bytes_high_first (width_of prim) (cast_unsigned (width_in_bits prim) z), w)
int_low z (kinded Counter) = omega (arith, word (cast_unsigned w32 z))
int_low z (kinded (Fixed of count)) = omega arith
int_low z (kinded (Counted of counter)) = omega arith
int_low z (kinded Texted) = omega arith
int_low z (kinded (Inline class)) = omega arith
int_low z (kinded (Pointer class)) = omega arith
int_low z (kinded (Other code)) = omega arith
int_low z flags = omega (arith, word (cast_unsigned w32 z))
int_low z (based class version) = omega arith
int_low z any_pointer = omega arith
int_low z link = omega arith
int_low z (many slot) = omega arith

pub text_most : (text : List ℕ) → length (text_bytes text) ≤ length text + 5
text_most text = by (ltb (length text) 255)
  where
    by : (b : Bool) → length (cond b (short_form text) (long_form text)) ≤ length text + 5
    by true = omega arith
    by false = omega (arith, length-append (big_bytes 4 (length text)) text, word (length text))

counted_items : (prim : Primitive) (ws : List Writing) (n : ℕ) → AllLow ws n → Writes (counted_bytes prim ws) (n + 1)
counted_items prim [] n low p t = omega arith
counted_items prim (w ∷ ws) n low p t =
    let l = both_low (just (1 ∷ [])) (all (kinded (Plain prim)) (w ∷ ws)) 1 n (just_low (1 ∷ []) 1 (omega arith)) (all_low (kinded (Plain prim)) (w ∷ ws) n low) p t in
    omega (arith, l)

link_low : (ws : List Writing) (n : ℕ) → AllLow ws n → Writes (link_bytes ws) n
link_low [] n low p t = omega arith
link_low (a ∷ []) n low p t = omega arith
link_low (a ∷ b ∷ c ∷ ws) n low p t = omega arith
link_low (pointer ∷ text ∷ []) n low p t =
    let rest = low.3 in
    let l = both_low (pointer.bytes any_pointer) (text.bytes (kinded Texted)) low.0 rest.0 (slot_low pointer low.0 any_pointer low.2) (slot_low text rest.0 (kinded Texted) rest.2) p t in
    omega (arith, l, low.4, rest.4)

list_low : (slot : Slot) (ws : List Writing) (n : ℕ) → AllLow ws n → Writes (list_bytes ws slot) (n + 1)
list_low (kinded (Plain prim)) ws n low p t = omega arith
list_low (kinded Counter) ws n low p t = omega arith
list_low (kinded (Fixed prim count)) ws n low p t = let l = all_low (kinded (Plain prim)) ws n low p t in omega (arith, l)
list_low (kinded (Counted prim counter)) ws n low p t = counted_items prim ws n low p t
list_low (kinded Texted) ws n low p t = omega arith
list_low (kinded (Inline class)) ws n low p t = omega arith
list_low (kinded (Pointer class)) ws n low p t = omega arith
list_low (kinded (Other code)) ws n low p t = omega arith
list_low flags ws n low p t = omega arith
list_low (based class version) ws n low p t = omega arith
list_low any_pointer ws n low p t = omega arith
list_low link ws n low p t = let l = link_low ws n low p t in omega (arith, l)
list_low (many slot) ws n low p t = let l = all_low slot ws n low p t in omega (arith, l)

pub all_less : (ws : List Writing) (a b : ℕ) → a ≤ b → AllLow ws a → AllLow ws b
all_less [] a b le low = tt
all_less (w ∷ ws) a b le low = let l = low.4 in (low.0, low.1, low.2, low.3, omega (arith, l, le))

-- ---- what is written for values

module _ (classes : List ClassDef) where
  abbrev pub LowValue : Value → ℕ → Type 0
  LowValue v n = IsLow (writing_of classes v) n

  pub low_less : (v : Value) (a b : ℕ) → a ≤ b → LowValue v a → LowValue v b
  low_less v a b le low slot p t = let l = low slot p t in omega (arith, l, le)

  pub low_int : (z : ℤ) → LowValue (Int z) 8
  low_int z = subst (λ (w : Writing). IsLow w 8) (sym (fold_Int (writing_step classes) (λ p. p.value) z)) (λ slot p t. omega (arith, int_low z slot))

  pub low_truth : (b : Bool) → LowValue (Truth b) 1
  low_truth b = subst (λ (w : Writing). IsLow w 1) (sym (fold_Bool (writing_step classes) (λ p. p.value) b)) (λ slot p t. omega arith)

  pub low_text : (text : List ℕ) → LowValue (Text text) (length text + 5)
  low_text text = subst (λ (w : Writing). IsLow w (length text + 5)) (sym (fold_Text (writing_step classes) (λ p. p.value) text)) (λ slot p t. omega (arith, text_most text))

  pub low_null : LowValue Null 4
  low_null = subst (λ (w : Writing). IsLow w 4) (sym (fold_Null (writing_step classes) (λ p. p.value))) (λ slot p t. omega (arith, word 0))

  pub low_back : (label : ℕ) → LowValue (Back label) 4
  low_back label = subst (λ (w : Writing). IsLow w 4) (sym (fold_Back (writing_step classes) (λ p. p.value) label)) (λ slot p t. omega (arith, word (slice_index t.labels label + 2)))

  pub low_list : (vs : List Value) (n : ℕ) → AllLow (map (writing_of classes) vs) n → LowValue (Items vs) (n + 1)
  low_list vs n low =
      subst (λ (w : Writing). IsLow w (n + 1)) (sym (fold_List (writing_step classes) (λ p. p.value) vs)) (λ slot p t. let l = list_low slot (map (writing_of classes) vs) n low p t in omega (arith, l))

  pub low_pointed : (label : ℕ) (object : Value) (n : ℕ) → LowValue object n → LowValue (Pointed label object) (n + 9)
  low_pointed label object n low =
      subst (λ (w : Writing). IsLow w (n + 9)) (sym (fold_Pointed (writing_step classes) (λ p. p.value) label object)) (λ slot p t. let l = pointed_low (writing_of classes object) n low p t in omega (arith, l))

  pub low_object : (class : List ℕ) (version : ℤ) (parts : List Part) (n : ℕ) → AllLow (writings classes parts) n → LowValue (Object class version parts) (n + 10 + length class)
  low_object class version parts n low =
      subst (λ (w : Writing). IsLow w (n + 10 + length class)) (sym (write_object classes class version parts))
      (λ slot p t. let l = form_low classes class version (form_of class) (writings classes parts) n low p t in omega (arith, l))

  -- with one value more
  pub low_more : (v : Value) (vs : List Value) (k m n : ℕ) → LowValue v k → AllLow (map (writing_of classes) vs) m → k + m ≤ n → AllLow (map (writing_of classes) (v ∷ vs)) n
  low_more v vs k m n one rest le = (k, m, one, rest, le)

  pub low_append : (vs us : List Value) (m n : ℕ) → AllLow (map (writing_of classes) vs) m → AllLow (map (writing_of classes) us) n → AllLow (map (writing_of classes) (vs ++ us)) (m + n)
  low_append [] us m n one two = all_less (map (writing_of classes) us) n (m + n) (omega arith) two
  low_append (v ∷ vs) us m n one two =
      let rest = low_append vs us one.1 n one.3 two in
      let le = one.4 in
      (one.0, one.1 + n, one.2, rest, omega (arith, le))
