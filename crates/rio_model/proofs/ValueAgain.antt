-- What tokens spell as a value is read as it.
use Rattle.std.proofs.Common.{◌≡◌, ℕ, zero, suc, nat_le, length, ℤ, pos, negsuc, List, [], ◌∷◌, ◌++◌, codes, Bool, true, false, ◌==◌, ◌&&◌, ◌||◌, not, if◌then◌else◌, Option, Some, None, Ok, refl, sym, ◌∙◌, ap, subst, arith}
use Rattle.std.proofs.lemmas.Bool.{and_left, and_parts, and_right, eqb-true, false_from_ne_true, not-true, Decides.{nat_tests}}
use Rattle.std.specs.{List.{list_all}, Option.{option_map}}
use Rattle.rio_num.specs.{At.{At}, Word.{begins_name, goes_on_name, is_name_text}}
use Rattle.rio_format.specs.declared.value.Part.{Part}
use Rattle.rio_format.specs.declared.value.Value.{Value, Int, Bits32, Bits64, Bool as Truth, Text as Chars, List as Items, Object, Pointed, Null, Back, Opaque, out-Value, roll-Value, roll-out-Value, TheOpen.{Value-F}, TheVariants.{rolls-Int, rolls-Bits32, rolls-Bits64, rolls-Bool, rolls-Text, rolls-List, rolls-Object, rolls-Pointed, rolls-Null, rolls-Back}}
use Rattle.rio_format.specs.declared.value.Value.TheOpen as layer
use Rattle.rio_token.specs.{declared.words.Bits.{Bits, TheVariants.{Four, Eight}}, Reading.{Read, marked}, Tokens.{behind}}
use Rattle.rio_token.specs.Words.{bits_of, decimal as decimal_of, digit_in, has_no_leading_zero, num_of, number_of, written}
use Rattle.rio_format.specs.Bodies.{part}
use Rattle.rio_model.specs.Lexemes.{IsNext, Lexeme, SpellsItems, Stand, chars, mark, word}
use Rattle.rio_model.specs.ValueGrammar.{Reader, class_version_at, enclosed_at, enclosed_by, listed, named_object_at, object_at, object_of, opens_object, part_at, pointer_at, text_value_at, value_in_text, value_of_bits, values_at, word_value, word_value_at}
use Rattle.rio_model.specs.ValueSpelling.{SpelledAreRead, Spelling, SpellsAsObject, SpellsLayer, SpellsNamed, SpellsRow, SpellsValue, SpellsVersion, SpellsWithin, ends_here, in_brackets, truth_word}
use Rattle.rio_model.proofs.ItemLaws.{ItemAgain, items_again}
use Rattle.rio_model.proofs.LexemeLaws.{mark_again, marked_again, num_again, num_between_again, stand_split, string_again, word_again, word_that_again}
use Rattle.rio_model.proofs.ReadValues.{part_begins, value_begins}
use Rattle.rio_model.proofs.ReadWords.{bits_value_of, false_no_number, no_digit, not_named, null_no_number, true_no_number}

-- ---- words that are values

pub number_value : (w : List ℕ) (z : ℤ) → number_of w ≡ Some z → word_value w ≡ Some (Int z)
unfolding word_value
number_value w z n =
    rw (not_named w z n (codes "true") true_no_number, not_named w z n (codes "false") false_no_number, not_named w z n (codes "null") null_no_number, n) refl

bits_split : (w : List ℕ) (bits : Bits) → bits_of w ≡ Some bits → (ds : List ℕ) × (w ≡ 48 ∷ 120 ∷ ds)
unfolding bits_of
bits_split [] bits h = absurd (cc)
bits_split (a ∷ []) bits h = absurd (cc)
bits_split (a ∷ x ∷ ds) bits h = by ((a == 48) && (x == 120)) refl
  where
    by : (b : Bool) → ((a == 48) && (x == 120)) ≡ b → (d : List ℕ) × (a ∷ x ∷ ds ≡ 48 ∷ 120 ∷ d)
    by true e =
        let p = and_parts (a == 48) (x == 120) e in
        let first : a ≡ 48 = eqb-true a 48 p.0 in
        let second : x ≡ 120 = eqb-true x 120 p.1 in
        (ds, rw (first, second) refl)
    by false e = absurd (let none : Option Bits = None in let clash : none ≡ Some bits = rw e at h in cc)

pub bits_are_value : (w : List ℕ) (bits : Bits) → bits_of w ≡ Some bits → word_value w ≡ Some (value_of_bits bits)
bits_are_value w bits h =
    let p = bits_split w bits h in
    let is : bits_of (48 ∷ 120 ∷ p.0) ≡ Some bits = subst (λ (v : List ℕ). bits_of v ≡ Some bits) p.1 h in
    ap word_value p.1 ∙ bits_value_of p.0 bits is

pub truth_value : (b : Bool) → word_value (truth_word b) ≡ Some (Truth b)
unfolding word_value
truth_value true = refl
truth_value false = refl

pub null_value : word_value (codes "null") ≡ Some Null
unfolding word_value
null_value = refl

-- ---- words that are no names

no_minus : (b : ℕ) → begins_name b ≡ true → (b == 45) ≡ false
no_minus b h = grind (arith, nat_tests)

either : (b : Bool) → (let none : Option ℕ = None in option_map pos (if b then none else none) ≡ None)
either true = refl
either false = refl

name_no_number : (w : List ℕ) → is_name_text w ≡ true → number_of w ≡ None
unfolding number_of decimal_of written
name_no_number [] h = absurd (cc)
name_no_number (b ∷ bs) h =
    let outer = and_parts (begins_name b && list_all goes_on_name bs) (nat_le (length (b ∷ bs)) 100) h in
    let inner = and_parts (begins_name b) (list_all goes_on_name bs) outer.0 in
    let first : begins_name b ≡ true = inner.0 in
    let minus : (b == 45) ≡ false = no_minus b first in
    let digit : digit_in 10 b ≡ None = no_digit b first in
    rw (minus, digit) (either (has_no_leading_zero (b ∷ bs)))

pub number_no_name : (w : List ℕ) (z : ℤ) → number_of w ≡ Some z → is_name_text w ≡ false
number_no_name w z h =
    false_from_ne_true (is_name_text w) (λ t.
    let some : Option ℤ = Some z in
    let nothing : Option ℤ = None in
    let clash : some ≡ nothing = sym h ∙ name_no_number w t in cc)

pub bits_no_name : (w : List ℕ) (bits : Bits) → bits_of w ≡ Some bits → is_name_text w ≡ false
bits_no_name w bits h = let p = bits_split w bits h in ap is_name_text p.1

-- ---- what follows a value

pub ends_at : (b : ℕ) (y : Value-F Value Part) (s : At) → IsNext (mark b) s → not ((b == 123) || (b == 35)) ≡ true → not (b == 61) ≡ true → ends_here y s ≡ true
ends_at b (layer.Bool t) s h object equals = rw h object
ends_at b layer.Null s h object equals = rw h object
ends_at b (layer.Back label) s h object equals = rw h equals
ends_at b other s h object equals = refl

-- where a part ends: a member where its value does
abbrev pub ends_part : List ℕ → Value → At → Bool
ends_part [] v s = true
ends_part (b ∷ bs) v s = ends_here (out-Value v) s

part_ends_at : (b : ℕ) (name : List ℕ) (v : Value) (s : At) → IsNext (mark b) s → not ((b == 123) || (b == 35)) ≡ true → not (b == 61) ≡ true → ends_part name v s ≡ true
part_ends_at b [] v s h object equals = refl
part_ends_at b (c ∷ cs) v s h object equals = ends_at b (out-Value v) s h object equals

-- what is read as an equal value
as_read : (v : Value) {w : Value} (t : At) → v ≡ w → (let r : Read Value = Ok (w, t) in r ≡ Ok (v, t))
as_read v t e = rw e refl

-- ---- versions

-- where a version ends: behind none, no number sign comes next
abbrev pub ends_version : ℤ → At → Bool
ends_version (pos zero) s = not (marked 35 s)
ends_version other s = true

pub version_again : (z : ℤ) (ls : List Lexeme) (s t : At) → SpellsVersion z ls → Stand ls s t → ends_version z t ≡ true → class_version_at s ≡ Ok (z, t)
unfolding class_version_at
version_again (pos zero) ls s t e h ends =
    let same : t ≡ s = subst (λ (l : List Lexeme). Stand l s t) e h in
    let here : marked 35 s ≡ false = subst (λ (a : At). marked 35 a ≡ false) same (not-true (marked 35 t) ends) in
    rw (here, same) refl
version_again (pos (suc n)) ls s t c h ends =
    let k = subst (λ (l : List Lexeme). Stand l s t) c.3 h in
    let here : marked 35 s ≡ true = marked_again 35 35 s k.0 in
    let num = num_between_again 1 32767 c.0 (suc n) (behind s) k.1.0 c.1 (omega arith) c.2 in
    rw (here, num, k.1.1) refl
version_again (negsuc n) ls s t c h ends = absurd c

brace_ends : (z : ℤ) (s : At) → IsNext (mark 123) s → ends_version z s ≡ true
brace_ends (pos zero) s h = rw h refl
brace_ends other s h = refl

-- what begins behind a class: a version, or a brace
abbrev Begins : At → Type 0
Begins s = (opens_object s ≡ true) × (marked 58 s ≡ false)

begins_version : (z : ℤ) (ls ms : List Lexeme) (s m t : At) → SpellsVersion z ls → Stand ls s m → IsNext (mark 123) m → Begins s
begins_version (pos zero) ls ms s m t e h n =
    let same : m ≡ s = subst (λ (l : List Lexeme). Stand l s m) e h in
    let here : IsNext (mark 123) s = subst (λ (a : At). IsNext (mark 123) a) same n in
    (rw here refl, rw here refl)
begins_version (pos (suc n)) ls ms s m t c h next =
    let k = subst (λ (l : List Lexeme). Stand l s m) c.3 h in
    (rw k.0 refl, rw k.0 refl)
begins_version (negsuc n) ls ms s m t c h next = absurd c

-- ---- values, by what is read in brackets

-- what brackets spell is read, and so they begin
pub record EnclosedAgain (E : Reader) (R : Spelling) : Type 0 where
  pub opens_list : (items : List Value) (ls : List Lexeme) (s t : At) → R (layer.List items) ls → Stand ls s t → IsNext (mark 91) s
  pub opens_braces : (class : List ℕ) (version : ℤ) (parts : List Part) (ls : List Lexeme) (s t : At) → R (layer.Object class version parts) ls → Stand ls s t → IsNext (mark 123) s
  pub list : (items : List Value) (ls : List Lexeme) (s t : At) → R (layer.List items) ls → Stand ls s t → E listed s ≡ Ok (Items items, t)
  pub object : (class : List ℕ) (version : ℤ) (parts : List Part) (ls : List Lexeme) (s t : At) → R (layer.Object class version parts) ls → Stand ls s t → E (object_of class version) s ≡ Ok (Object class version parts, t)

-- an object that stands here
record ObjectRead (E : Reader) (v : Value) (s t : At) : Type 0 where
  class : List ℕ
  next : IsNext (word class) s
  named : is_name_text class ≡ true
  begins : Begins (behind s)
  read : object_at E class (behind s) ≡ Ok (v, t)

module _ (E : Reader) (R : Spelling) (e : EnclosedAgain E R) where
  object_again : (class : List ℕ) (z : ℤ) (parts : List Part) (vs braces : List Lexeme) (s t : At) → SpellsVersion z vs → R (layer.Object class z parts) braces → Stand (vs ++ braces) s t
      → Begins s × (object_at E class s ≡ Ok (Object class z parts, t))
  unfolding object_at
  object_again class z parts vs braces s t sv r h =
      let k = stand_split vs braces s t h in
      let brace = e.opens_braces class z parts braces k.0 t r k.2 in
      let version = version_again z vs s k.0 sv k.1 (brace_ends z k.0 brace) in
      let body = e.object class z parts braces k.0 t r k.2 in
      (begins_version z vs braces s k.0 t sv k.1 brace, rw (version, body) refl)

  object_read : (v : Value) (y : Value-F Value Part) → v ≡ roll-Value y → (ls : List Lexeme) (s t : At) → SpellsAsObject R y ls → Stand ls s t → ObjectRead E v s t
  object_read v (layer.Object class z parts) rolled ls s t c h =
      let k = subst (λ (l : List Lexeme). Stand l s t) c.2 h in
      let o = object_again class z parts c.0 c.1 (behind s) t c.4 c.5 k.1 in
      let is : v ≡ Object class z parts = rolled ∙ rolls-Object class z parts in
      record { class = class; next = k.0; named = c.3; begins = o.0; read = o.1 ∙ as_read v t is }
  object_read v other rolled ls s t c h = absurd c

  object_value : (v : Value) (s t : At) → ObjectRead E v s t → value_in_text E s ≡ Ok (v, t)
  unfolding value_in_text word_value_at
  object_value v s t o =
      let one = word_again o.class s o.next in
      rw (o.next.0, one, o.named, o.begins.0) o.read

  named_object : (v : Value) (s t : At) → ObjectRead E v s t → named_object_at E s ≡ Ok (v, t)
  unfolding named_object_at
  named_object v s t o =
      let one = word_that_again is_name_text o.class s o.next o.named in
      rw one o.read

  base_part : (v : Value) (s t : At) → ObjectRead E v s t → part_at E s ≡ Ok (part [] v, t)
  unfolding part_at
  base_part v s t o =
      let one = word_that_again is_name_text o.class s o.next o.named in
      rw (one, o.begins.1, o.read) refl

  -- ---- words, strings and pointers

  word_is : (w : List ℕ) (v : Value) (s t : At) → word_value w ≡ Some v → IsNext (word w) s → t ≡ behind s → (is_name_text w && opens_object t) ≡ false → value_in_text E s ≡ Ok (v, t)
  unfolding value_in_text word_value_at
  word_is w v s t is next goes ends =
      let one = word_again w s next in
      let none : (is_name_text w && opens_object (behind s)) ≡ false = subst (λ (a : At). (is_name_text w && opens_object a) ≡ false) goes ends in
      rw (next.0, one, none, is, goes) refl

  lone_word : (w : List ℕ) (v v' : Value) (ls : List Lexeme) (s t : At) → v ≡ v' → word_value w ≡ Some v' → ls ≡ word w ∷ [] → Stand ls s t → (is_name_text w && opens_object t) ≡ false → value_in_text E s ≡ Ok (v, t)
  lone_word w v v' ls s t same is l h ends =
      let k = subst (λ (x : List Lexeme). Stand x s t) l h in
      word_is w v' s t is k.0 k.1 ends ∙ as_read v t same

  no_name : (w : List ℕ) (t : At) → is_name_text w ≡ false → (is_name_text w && opens_object t) ≡ false
  no_name w t h = and_left (is_name_text w) (opens_object t) h

  no_object : (w : List ℕ) (t : At) → not (opens_object t) ≡ true → (is_name_text w && opens_object t) ≡ false
  no_object w t h = and_right (is_name_text w) (opens_object t) (not-true (opens_object t) h)

  text_is : (text : List ℕ) (ls : List Lexeme) (s t : At) → ls ≡ chars text ∷ [] → Stand ls s t → value_in_text E s ≡ Ok (Chars text, t)
  unfolding value_in_text text_value_at
  text_is text ls s t l h =
      let k = subst (λ (x : List Lexeme). Stand x s t) l h in
      let one = string_again text s k.0 in
      rw (k.0.0, one, k.1) refl

  marked_list : (s : At) → IsNext (mark 91) s → value_in_text E s ≡ E listed s
  unfolding value_in_text
  marked_list s h = rw h refl

  marked_pointer : (s : At) → IsNext (mark 64) s → value_in_text E s ≡ pointer_at E (behind s)
  unfolding value_in_text
  marked_pointer s h = rw h refl

  back_is : (digits : List ℕ) (label : ℕ) (s t : At) → num_of digits ≡ Some label → IsNext (word digits) s → t ≡ behind s → not (marked 61 t) ≡ true → pointer_at E s ≡ Ok (Back label, t)
  unfolding pointer_at
  back_is digits label s t num next goes ends =
      let one = num_again digits label s next num in
      let none : marked 61 (behind s) ≡ false = subst (λ (a : At). marked 61 a ≡ false) goes (not-true (marked 61 t) ends) in
      rw (one, none, goes) refl

  pointed_is : (digits : List ℕ) (label : ℕ) (object : Value) (s t : At) → num_of digits ≡ Some label → IsNext (word digits) s → IsNext (mark 61) (behind s) → ObjectRead E object (behind (behind s)) t
      → pointer_at E s ≡ Ok (Pointed label object, t)
  unfolding pointer_at
  pointed_is digits label object s t num next equals o =
      let one = num_again digits label s next num in
      let goes : marked 61 (behind s) ≡ true = marked_again 61 61 (behind s) equals in
      rw (one, goes, named_object object (behind (behind s)) t o) refl

  -- ---- values

  value_again : (v : Value) (y : Value-F Value Part) → v ≡ roll-Value y → (ls : List Lexeme) (s t : At) → SpellsLayer R y ls → Stand ls s t → ends_here y t ≡ true → value_in_text E s ≡ Ok (v, t)
  value_again v (layer.Int z) rolled ls s t c h ends = lone_word c.0 v (Int z) ls s t (rolled ∙ rolls-Int z) (number_value c.0 z c.1) c.2 h (no_name c.0 t (number_no_name c.0 z c.1))
  value_again v (layer.Bits32 n) rolled ls s t c h ends = lone_word c.0 v (Bits32 n) ls s t (rolled ∙ rolls-Bits32 n) (bits_are_value c.0 (Four n) c.1) c.2 h (no_name c.0 t (bits_no_name c.0 (Four n) c.1))
  value_again v (layer.Bits64 n) rolled ls s t c h ends = lone_word c.0 v (Bits64 n) ls s t (rolled ∙ rolls-Bits64 n) (bits_are_value c.0 (Eight n) c.1) c.2 h (no_name c.0 t (bits_no_name c.0 (Eight n) c.1))
  value_again v (layer.Bool b) rolled ls s t c h ends = lone_word (truth_word b) v (Truth b) ls s t (rolled ∙ rolls-Bool b) (truth_value b) c h (no_object (truth_word b) t ends)
  value_again v (layer.Text text) rolled ls s t c h ends = text_is text ls s t c h ∙ as_read v t (rolled ∙ rolls-Text text)
  value_again v (layer.List items) rolled ls s t c h ends =
      marked_list s (e.opens_list items ls s t c h) ∙ e.list items ls s t c h ∙ as_read v t (rolled ∙ rolls-List items)
  value_again v (layer.Object class z parts) rolled ls s t c h ends = object_value v s t (object_read v (layer.Object class z parts) rolled ls s t c h)
  value_again v (layer.Pointed label object) rolled ls s t c h ends =
      let k = subst (λ (l : List Lexeme). Stand l s t) c.2 h in
      let o = object_read object (out-Value object) (sym (roll-out-Value object)) c.1 (behind (behind (behind s))) t c.4 k.1.1.1 in
      marked_pointer s k.0 ∙ pointed_is c.0 label object (behind s) t c.3 k.1.0 k.1.1.0 o ∙ as_read v t (rolled ∙ rolls-Pointed label object)
  value_again v layer.Null rolled ls s t c h ends = lone_word (codes "null") v Null ls s t (rolled ∙ rolls-Null) null_value c h (no_object (codes "null") t ends)
  value_again v (layer.Back label) rolled ls s t c h ends =
      let k = subst (λ (l : List Lexeme). Stand l s t) c.2 h in
      marked_pointer s k.0 ∙ back_is c.0 label (behind s) t c.1 k.1.0 k.1.1 ends ∙ as_read v t (rolled ∙ rolls-Back label)
  value_again v (layer.Opaque class len) rolled ls s t c h ends = absurd c

  pub item_again : (v : Value) (ls : List Lexeme) (s t : At) → SpellsLayer R (out-Value v) ls → Stand ls s t → ends_here (out-Value v) t ≡ true → value_in_text E s ≡ Ok (v, t)
  item_again v = value_again v (out-Value v) (sym (roll-out-Value v))

  -- ---- parts

  member_again : (name : List ℕ) (v : Value) (own : List Lexeme) (s t : At) → is_name_text name ≡ true → IsNext (word name) s → IsNext (mark 58) (behind s) → value_in_text E (behind (behind s)) ≡ Ok (v, t)
      → part_at E s ≡ Ok (part name v, t)
  unfolding part_at
  member_again name v own s t named next colon value =
      let one = word_that_again is_name_text name s next named in
      let goes : marked 58 (behind s) ≡ true = marked_again 58 58 (behind s) colon in
      rw (one, goes, value) refl

  pub named_again : (name : List ℕ) (v : Value) (ls : List Lexeme) (s t : At) → SpellsNamed R name v ls → Stand ls s t → ends_part name v t ≡ true → part_at E s ≡ Ok (part name v, t)
  named_again [] v ls s t c h ends = base_part v s t (object_read v (out-Value v) (sym (roll-out-Value v)) ls s t c h)
  named_again (b ∷ bs) v ls s t c h ends =
      let k = subst (λ (l : List Lexeme). Stand l s t) c.1 h in
      member_again (b ∷ bs) v c.0 s t c.2 k.0 k.1.0 (item_again v c.0 (behind (behind s)) t c.3 k.1.1 ends)

  -- ---- lists

  abbrev pub ValueItems : Type 0
  ValueItems = ItemAgain {A = Value} 93 (λ before. value_in_text E) (λ before v. SpellsLayer R (out-Value v)) (λ v. ends_here (out-Value v))

  abbrev pub PartItems : Type 0
  PartItems = ItemAgain {A = Part} 125 (λ before. part_at E) (λ before p. SpellsNamed R p.name p.value) (λ p. ends_part p.name p.value)

  pub value_items : ValueItems
  value_items = record {
    other = refl;
    comma = λ v s h. ends_at 44 (out-Value v) s h refl refl;
    last = λ v s h. ends_at 93 (out-Value v) s h refl refl;
    begins = λ s x h. value_begins E s x h;
    again = λ front x own s t c h ends. item_again x own s t c h ends;
  }

  pub part_items : PartItems
  part_items = record {
    other = refl;
    comma = λ p s h. part_ends_at 44 p.name p.value s h refl refl;
    last = λ p s h. part_ends_at 125 p.name p.value s h refl refl;
    begins = λ s x h. part_begins E s x h;
    again = λ front x own s t c h ends. named_again x.name x.value own s t c h ends;
  }

  pub values_again : (items : List Value) (inside : List Lexeme) (s t : At) → SpellsItems (λ before v. SpellsLayer R (out-Value v)) items inside → Stand (in_brackets 91 inside 93) s t → values_at E s ≡ Ok (items, t)
  unfolding values_at
  values_again items inside s t c h =
      let opening = mark_again 91 s h.0 in
      rw opening (items_again {A = Value} 93 (λ before. value_in_text E) (λ before v. SpellsLayer R (out-Value v)) (λ v. ends_here (out-Value v)) value_items items inside (behind s) t c h.1)

  list_again : (items : List Value) (ls : List Lexeme) (s t : At) → (inside : List Lexeme) → ls ≡ in_brackets 91 inside 93 → SpellsItems (λ before v. SpellsLayer R (out-Value v)) items inside → Stand ls s t → enclosed_by E listed s ≡ Ok (Items items, t)
  unfolding enclosed_by
  list_again items ls s t inside l c h =
      let k = subst (λ (x : List Lexeme). Stand x s t) l h in
      rw (values_again items inside s t c k) refl

  braces_again : (class : List ℕ) (z : ℤ) (parts : List Part) (ls : List Lexeme) (s t : At) → (inside : List Lexeme) → ls ≡ in_brackets 123 inside 125 → SpellsItems (λ before p. SpellsNamed R p.name p.value) parts inside → Stand ls s t
      → enclosed_by E (object_of class z) s ≡ Ok (Object class z parts, t)
  unfolding enclosed_by
  braces_again class z parts ls s t inside l c h =
      let k = subst (λ (x : List Lexeme). Stand x s t) l h in
      let opening = mark_again 123 s k.0 in
      let all = items_again {A = Part} 125 (λ before. part_at E) (λ before p. SpellsNamed R p.name p.value) (λ p. ends_part p.name p.value) part_items parts inside (behind s) t c k.1 in
      rw (opening, all) refl

-- ---- with so many brackets

pub levels_again : (levels : ℕ) → EnclosedAgain (enclosed_at levels) (SpellsWithin levels)
unfolding enclosed_at
levels_again zero = record {
  opens_list = λ items ls s t c h. absurd c;
  opens_braces = λ class version parts ls s t c h. absurd c;
  list = λ items ls s t c h. absurd c;
  object = λ class version parts ls s t c h. absurd c;
}
levels_again (suc levels) =
    let inner = levels_again levels in
    record {
      opens_list = λ items ls s t c h. (subst (λ (l : List Lexeme). Stand l s t) c.1 h).0;
      opens_braces = λ class version parts ls s t c h. (subst (λ (l : List Lexeme). Stand l s t) c.1 h).0;
      list = λ items ls s t c h. list_again (enclosed_at levels) (SpellsWithin levels) inner items ls s t c.0 c.1 c.2 h;
      object = λ class version parts ls s t c h. braces_again (enclosed_at levels) (SpellsWithin levels) inner class version parts ls s t c.0 c.1 c.2 h;
    }

pub spelled_are_read : SpelledAreRead
unfolding SpellsValue SpellsRow
spelled_are_read = record {
  value = λ levels v ls s t c h ends. item_again (enclosed_at levels) (SpellsWithin levels) (levels_again levels) v ls s t c h ends;
  row = λ levels values ls s t c h. values_again (enclosed_at levels) (SpellsWithin levels) (levels_again levels) values c.0 s t c.2 (subst (λ (l : List Lexeme). Stand l s t) c.1 h);
}
