-- The first token that can't stand in a value.
use Rattle.std.proofs.Common.{◌≡◌, ◌⊎◌, inl, inr, ℕ, zero, suc, ℤ, pos, List, [], ◌∷◌, ◌++◌, codes, Bool, true, false, ◌==◌, ◌&&◌, not, if◌then◌else◌, Option, Some, None, Ok, Err, refl, sym, ◌∙◌, ap, subst, append_assoc, arith, ◌≤◌}
use Rattle.std.proofs.lemmas.Bool.{eqb-true}
use Rattle.rio_num.specs.{At.{At}, Reading.{◌>>=◌}, Word.{is_name_text}}
use Rattle.rio_format.specs.declared.value.Part.{Part}
use Rattle.rio_format.specs.declared.value.Value.{Value, Text as Chars, List as Items, Object, Pointed, Null, Back, out-Value, TheOpen.{Value-F}, TheVariants.{outs-Text, outs-List, outs-Object, outs-Pointed, outs-Null, outs-Back}}
use Rattle.rio_format.specs.declared.value.Value.TheOpen as layer
use Rattle.rio_token.specs.{declared.fault.TextFault.{TextFault}, declared.token.Token.{Token, TheVariants.{Word, Text, Mark, Bad, Cut, End}}}
use Rattle.rio_token.specs.{Reading.{bad_at, list_at, mark_at, marked, name_at, num_at, string_at, version_at, word_at}, Tokens.{behind, next_at}}
use Rattle.rio_token.specs.Words.{decimal as decimal_of, num_of, written}
use Rattle.rio_format.specs.Bodies.{part}
use Rattle.rio_model.specs.{Lexemes.{IsNext, Lexeme, SpellsItems, chars, mark, word}, ToldPlaces.{Begin, HaveSameNext, TellsBadToken, PlacesAreTold}}
use Rattle.rio_model.specs.ValueGrammar.{Reader, class_version_at, enclosed_at, enclosed_by, listed, named_object_at, object_at, object_of, opens_object, part_at, pointer_at, text_value_at, value_by, value_in_text, values_at, word_value, word_value_at, worded}
use Rattle.rio_model.specs.ValueSpelling.{Spelling, SpellsAsObject, SpellsBrackets, SpellsLayer, SpellsNamed, SpellsRow, SpellsValue, SpellsVersion, SpellsWithin, ends_here, in_brackets}
use Rattle.rio_model.proofs.ItemTold.{ItemTold, items_told}
use Rattle.rio_model.proofs.LexemeLaws.{mark_again, mark_found, marked_again, marked_is, num_again, num_found, word_again, word_found, word_that_again, word_that_found, with_place}
use Rattle.rio_model.proofs.SpellingUp.{layer_up, named_up, within_up}
use Rattle.rio_model.proofs.ToldLaws.{bad_here, bad_is, bind_bad, handed_bad, mark_told, marked_same, num_between_told, num_told, opens_same, string_told, told_behind, told_here, word_same, word_that_told, word_told}
use Rattle.rio_model.proofs.ValueAgain.{EnclosedAgain, ends_part, ends_version, levels_again, part_items, value_items, version_again}
use Rattle.rio_model.proofs.ValueFound.{EnclosedFound, levels_found, member_named, part_found, value_found, version_found}

-- nothing stands before
abbrev Nothing : List Lexeme → Type 0
Nothing ls = ls ≡ []

abbrev empty_braces : List Lexeme
empty_braces = mark 123 ∷ mark 125 ∷ []

-- ---- where things end, by the next token

version_ends_same : (z : ℤ) (s t : At) → HaveSameNext s t → ends_version z s ≡ true → ends_version z t ≡ true
version_ends_same (pos zero) s t same h = ap not (sym (marked_same 35 s t same)) ∙ h
version_ends_same other s t same h = refl

pub value_ends_same : (y : Value-F Value Part) (s t : At) → HaveSameNext s t → ends_here y s ≡ true → ends_here y t ≡ true
value_ends_same (layer.Bool b) s t same h = ap not (sym (opens_same s t same)) ∙ h
value_ends_same layer.Null s t same h = ap not (sym (opens_same s t same)) ∙ h
value_ends_same (layer.Back label) s t same h = ap not (sym (marked_same 61 s t same)) ∙ h
value_ends_same other s t same h = refl

part_ends_same : (name : List ℕ) (v : Value) (s t : At) → HaveSameNext s t → ends_part name v s ≡ true → ends_part name v t ≡ true
part_ends_same [] v s t same h = refl
part_ends_same (b ∷ bs) v s t same h = value_ends_same (out-Value v) s t same h

-- ---- versions

pub one_is_number : num_of (codes "1") ≡ Some 1
unfolding decimal_of written
one_is_number = refl

zero_is_number : num_of (codes "0") ≡ Some 0
unfolding decimal_of written
zero_is_number = refl

one_is_small : suc 0 ≤ 32767
one_is_small = omega arith

version_by : (s : At) (e : TextFault) (b : Bool) → marked 35 s ≡ b → (if b then (version_at (behind s) >>= with_place pos) else Ok (pos 0, s)) ≡ Err e → TellsBadToken class_version_at (Begin SpellsVersion) s e
unfolding class_version_at
version_by s e true m h =
    let bad = handed_bad (version_at (behind s)) pos e h in
    told_behind class_version_at version_at Nothing (Begin SpellsVersion) (mark 35 ∷ []) s (behind s) e (marked_is 35 s m, refl)
    (λ t n k same g fault.
    let goes : marked 35 t ≡ true = marked_again 35 35 t k.0 in
    let here : version_at (behind t) ≡ Err g = subst (λ (x : At). version_at x ≡ Err g) k.1 fault in
    rw (goes, here) refl)
    (λ ms is. subst (λ (l : List Lexeme). Begin SpellsVersion (mark 35 ∷ l)) (sym is) (word (codes "1") ∷ [], pos 1, (codes "1", one_is_number, one_is_small, refl)))
    (num_between_told 1 32767 Nothing (behind s) e refl bad)
version_by s e false m h = absurd (cc)

version_told : (s : At) (e : TextFault) → class_version_at s ≡ Err e → TellsBadToken class_version_at (Begin SpellsVersion) s e
unfolding class_version_at
version_told s e h = version_by s e (marked 35 s) refl h

-- ---- values, by what is read in brackets

abbrev pub Lists : Spelling → List Value → List Lexeme → Type 0
Lists R items ls = R (layer.List items) ls

abbrev pub Braces : Spelling → List ℕ → ℤ → List Part → List Lexeme → Type 0
Braces R class z parts ls = R (layer.Object class z parts) ls

-- what is told of brackets, where one more may be open
pub record EnclosedTold (E : Reader) (R : Spelling) : Type 0 where
  pub none : (class : List ℕ) (z : ℤ) → R (layer.Object class z []) empty_braces
  pub list : (s : At) (e : TextFault) → E listed s ≡ Err e → TellsBadToken (E listed) (Begin (Lists R)) s e
  pub object : (class : List ℕ) (z : ℤ) (s : At) (e : TextFault) → E (object_of class z) s ≡ Err e → TellsBadToken (E (object_of class z)) (Begin (Braces R class z)) s e

-- what stands behind a class, of some version and parts
pub record IsTail (R : Spelling) (class : List ℕ) (ls : List Lexeme) : Type 0 where
  pub version : ℤ
  pub parts : List Part
  pub own : List Lexeme
  pub braces : List Lexeme
  pub both : ls ≡ own ++ braces
  pub numbered : SpellsVersion version own
  pub enclosed : R (layer.Object class version parts) braces

module _ (E : Reader) (R S : Spelling) (again : EnclosedAgain E R) (found : EnclosedFound E R) (up : (y : Value-F Value Part) (ls : List Lexeme) → R y ls → S y ls) (told : EnclosedTold E S) where
  abbrev Tail : List ℕ → List Lexeme → Type 0
  Tail class ls = (more : List Lexeme) × IsTail S class (ls ++ more)

  abbrev Objects : Value → List Lexeme → Type 0
  Objects v ls = SpellsAsObject S (out-Value v) ls

  abbrev Values : Value → List Lexeme → Type 0
  Values v ls = SpellsLayer S (out-Value v) ls

  abbrev Parts : Part → List Lexeme → Type 0
  Parts p ls = SpellsNamed S p.name p.value ls

  -- ---- completions

  no_tail : (class : List ℕ) → Tail class []
  no_tail class = (empty_braces, record { version = pos 0; parts = []; own = []; braces = empty_braces; both = refl; numbered = refl; enclosed = told.none class (pos 0) })

  object_of_tail : (class : List ℕ) (ls : List Lexeme) → is_name_text class ≡ true → Tail class ls → Begin Objects (word class ∷ ls)
  object_of_tail class ls named t =
      let i = t.1 in
      let o = Object class i.version i.parts in
      let whole : word class ∷ (ls ++ t.0) ≡ word class ∷ (i.own ++ i.braces) = ap (λ (l : List Lexeme). word class ∷ l) i.both in
      let spelled : SpellsAsObject S (layer.Object class i.version i.parts) (word class ∷ (ls ++ t.0)) = (i.own, i.braces, whole, named, i.numbered, i.enclosed) in
      (t.0, o, subst (λ (y : Value-F Value Part). SpellsAsObject S y (word class ∷ (ls ++ t.0))) (sym (outs-Object class i.version i.parts)) spelled)

  no_object : Begin Objects []
  no_object = let o = object_of_tail (codes "a") [] refl (no_tail (codes "a")) in (word (codes "a") ∷ o.0, o.1, o.2)

  object_value : (y : Value-F Value Part) (ls : List Lexeme) → SpellsAsObject S y ls → SpellsLayer S y ls
  object_value (layer.Object class z parts) ls c = c
  object_value other ls c = absurd c

  value_of_object : (ls : List Lexeme) → Begin Objects ls → Begin Values ls
  value_of_object ls b = (b.0, b.1, object_value (out-Value b.1) (ls ++ b.0) b.2)

  value_as : (v : Value) (y : Value-F Value Part) (ls more : List Lexeme) → out-Value v ≡ y → SpellsLayer S y (ls ++ more) → Begin Values ls
  value_as v y ls more outs h = (more, v, subst (λ (x : Value-F Value Part). SpellsLayer S x (ls ++ more)) (sym outs) h)

  no_value : Begin Values []
  no_value = value_as Null layer.Null [] (word (codes "null") ∷ []) outs-Null refl

  -- ---- objects

  object_told : (class : List ℕ) (s : At) (e : TextFault) → object_at E class s ≡ Err e → TellsBadToken (object_at E class) (Tail class) s e
  unfolding object_at
  object_told class s e h =
      elim (bind_bad Value (class_version_at s) (λ version. E (object_of class version.0) version.1) e h) [
        | inl bad ↦
            told_here (object_at E class) class_version_at (Begin SpellsVersion) (Tail class) s e (λ t same g fault. rw fault refl)
            (λ ms b. (
              b.0 ++ empty_braces,
              record {
                version = b.1;
                parts = [];
                own = ms ++ b.0;
                braces = empty_braces;
                both = sym (append_assoc ms b.0 empty_braces);
                numbered = b.2;
                enclosed = told.none class b.1;
              },
            ))
            (version_told s e bad)
        | inr w ↦
            let z = w.0.0 in
            let m = w.0.1 in
            let v = version_found s z m w.1 in
            told_behind (object_at E class) (E (object_of class z)) (Begin (Braces S class z)) (Tail class) v.0 s m e v.2
            (λ t n k same g fault.
            let version : class_version_at t ≡ Ok (z, n) = version_again z v.0 t n v.1 k (version_ends_same z m n same v.3) in
            rw version fault)
            (λ ms b. (
              b.0,
              record {
                version = z;
                parts = b.1;
                own = v.0;
                braces = ms ++ b.0;
                both = append_assoc v.0 ms b.0;
                numbered = v.1;
                enclosed = b.2;
              },
            ))
            (told.object class z m e w.2)
      ]

  named_object_told : (s : At) (e : TextFault) → named_object_at E s ≡ Err e → TellsBadToken (named_object_at E) (Begin Objects) s e
  unfolding named_object_at
  named_object_told s e h =
      elim (bind_bad Value (name_at s) (λ class. object_at E class.0 class.1) e h) [
        | inl bad ↦
            told_here (named_object_at E) name_at Nothing (Begin Objects) s e (λ t same g fault. rw fault refl) (λ ms is. subst (Begin Objects) (sym is) no_object) (word_that_told is_name_text Nothing s e refl bad)
        | inr w ↦
            let class = w.0.0 in
            let n = word_that_found is_name_text s class w.0.1 w.1 in
            told_behind (named_object_at E) (object_at E class) (Tail class) (Begin Objects) (word class ∷ []) s w.0.1 e (n.0, n.2)
            (λ t x k same g fault.
            let here : object_at E class (behind t) ≡ Err g = subst (λ (a : At). object_at E class a ≡ Err g) k.1 fault in
            let one = word_that_again is_name_text class t k.0 n.1 in
            rw (one, here) refl)
            (λ ms b. object_of_tail class ms n.1 b)
            (object_told class w.0.1 e w.2)
      ]

  -- ---- pointers, behind their @

  abbrev Pointers : Value → List Lexeme → Type 0
  Pointers v ls = Values v (mark 64 ∷ ls)

  pointed : (digits : List ℕ) (label : ℕ) (ms : List Lexeme) → num_of digits ≡ Some label → Begin Objects ms → Begin Pointers (word digits ∷ mark 61 ∷ ms)
  pointed digits label ms num b =
      let ls = mark 64 ∷ word digits ∷ mark 61 ∷ (ms ++ b.0) in
      let spelled : SpellsLayer S (layer.Pointed label b.1) ls = (digits, ms ++ b.0, refl, num, b.2) in
      (b.0, Pointed label b.1, subst (λ (y : Value-F Value Part). SpellsLayer S y ls) (sym (outs-Pointed label b.1)) spelled)

  no_pointer : Begin Pointers []
  no_pointer =
      let ls = mark 64 ∷ word (codes "0") ∷ [] in
      let spelled : SpellsLayer S (layer.Back 0) ls = (codes "0", zero_is_number, refl) in
      (word (codes "0") ∷ [], Back 0, subst (λ (y : Value-F Value Part). SpellsLayer S y ls) (sym (outs-Back 0)) spelled)

  label_told : (label : ℕ) (digits : List ℕ) (s : At) (e : TextFault) → IsNext (word digits) s → num_of digits ≡ Some label → (b : Bool) → marked 61 (behind s) ≡ b
      → (if b then (named_object_at E (behind (behind s)) >>= with_place (Pointed label)) else Ok (Back label, behind s)) ≡ Err e → TellsBadToken (pointer_at E) (Begin Pointers) s e
  unfolding pointer_at
  label_told label digits s e next num true m h =
      let bad = handed_bad (named_object_at E (behind (behind s))) (Pointed label) e h in
      told_behind (pointer_at E) (named_object_at E) (Begin Objects) (Begin Pointers) (word digits ∷ mark 61 ∷ []) s (behind (behind s)) e (next, (marked_is 61 (behind s) m, refl))
      (λ t x k same g fault.
      let one = num_again digits label t k.0 num in
      let goes : marked 61 (behind t) ≡ true = marked_again 61 61 (behind t) k.1.0 in
      let here : named_object_at E (behind (behind t)) ≡ Err g = subst (λ (a : At). named_object_at E a ≡ Err g) k.1.1 fault in
      rw (one, goes, here) refl)
      (λ ms b. pointed digits label ms num b)
      (named_object_told (behind (behind s)) e bad)
  label_told label digits s e next num false m h = absurd (cc)

  pointer_told : (s : At) (e : TextFault) → pointer_at E s ≡ Err e → TellsBadToken (pointer_at E) (Begin Pointers) s e
  unfolding pointer_at
  pointer_told s e h =
      elim (bind_bad Value (num_at s) (λ label. if marked 61 label.1 then (named_object_at E (behind label.1) >>= with_place (Pointed label.0)) else Ok (Back label.0, label.1)) e h) [
        | inl bad ↦
            told_here (pointer_at E) num_at Nothing (Begin Pointers) s e (λ t same g fault. rw fault refl) (λ ms is. subst (Begin Pointers) (sym is) no_pointer) (num_told Nothing s e refl bad)
        | inr w ↦
            let label = w.0.0 in
            let n = num_found s label w.0.1 w.1 in
            let rest = subst (λ (x : At). (if marked 61 x then (named_object_at E (behind x) >>= with_place (Pointed label)) else Ok (Back label, x)) ≡ Err e) n.3 w.2 in
            label_told label n.0 s e n.1 n.2 (marked 61 (behind s)) refl rest
      ]

  -- ---- words

  word_goes : (w : List ℕ) (t : At) (name opens : Bool) → IsNext (word w) t → is_name_text w ≡ name → opens_object (behind t) ≡ opens
      → word_value_at E t ≡ (if name && opens then object_at E w (behind t) else worded (word_value w) name t (behind t))
  unfolding word_value_at
  word_goes w t name opens next named goes = let one = word_again w t next in rw (one, named, goes) refl

  -- an object whose class stands here
  object_bad : (w : List ℕ) (s : At) (e : TextFault) → IsNext (word w) s → is_name_text w ≡ true → opens_object (behind s) ≡ true → object_at E w (behind s) ≡ Err e → TellsBadToken (word_value_at E) (Begin Values) s e
  object_bad w s e next named goes h =
      told_behind (word_value_at E) (object_at E w) (Tail w) (Begin Values) (word w ∷ []) s (behind s) e (next, refl)
      (λ t x k same g fault.
      let there : opens_object (behind t) ≡ true = subst (λ (a : At). opens_object a ≡ true) k.1 (sym (opens_same (behind s) x same) ∙ goes) in
      let here : object_at E w (behind t) ≡ Err g = subst (λ (a : At). object_at E w a ≡ Err g) k.1 fault in
      word_goes w t true true k.0 named there ∙ here)
      (λ ms b. value_of_object (word w ∷ ms) (object_of_tail w ms named b))
      (object_told w (behind s) e h)

  -- a name behind which no object goes on
  name_bad : (w : List ℕ) (s : At) (e : TextFault) → IsNext (word w) s → is_name_text w ≡ true → opens_object (behind s) ≡ false → (o : Option Value) → word_value w ≡ o → worded o true s (behind s) ≡ Err e → TellsBadToken (word_value_at E) (Begin Values) s e
  name_bad w s e next named goes (Some v) is h = absurd (cc)
  name_bad w s e next named goes None is h =
      told_behind (word_value_at E) (bad_at {A = Value}) Nothing (Begin Values) (word w ∷ []) s (behind s) e (next, refl)
      (λ t x k same g fault.
      let there : opens_object (behind t) ≡ false = subst (λ (a : At). opens_object a ≡ false) k.1 (sym (opens_same (behind s) x same) ∙ goes) in
      let here : bad_at {A = Value} (behind t) ≡ Err g = subst (λ (a : At). bad_at {A = Value} a ≡ Err g) k.1 fault in
      word_goes w t true false k.0 named there ∙ rw is here)
      (λ ms none. subst (λ (l : List Lexeme). Begin Values (word w ∷ l)) (sym none) (value_of_object (word w ∷ []) (object_of_tail w [] named (no_tail w))))
      (bad_here (bad_at {A = Value}) Nothing (behind s) e (λ t same. refl) refl (bad_is {A = Value} (behind s) e h))

  -- a word that is neither a value nor a name
  word_bad : (w : List ℕ) (s : At) (e : TextFault) → IsNext (word w) s → is_name_text w ≡ false → (o : Option Value) → word_value w ≡ o → worded o false s (behind s) ≡ Err e → TellsBadToken (word_value_at E) (Begin Values) s e
  word_bad w s e next named (Some v) is h = absurd (cc)
  word_bad w s e next named None is h =
      bad_here (word_value_at E) (Begin Values) s e (λ t same.
      word_goes w t false (opens_object (behind t)) (word_same w s t same next) named refl ∙ rw is refl) no_value (bad_is {A = Value} s e h)

  word_by : (w : List ℕ) (s : At) (e : TextFault) → IsNext (word w) s → (name opens : Bool) → is_name_text w ≡ name → opens_object (behind s) ≡ opens
      → (if name && opens then object_at E w (behind s) else worded (word_value w) name s (behind s)) ≡ Err e → TellsBadToken (word_value_at E) (Begin Values) s e
  word_by w s e next true true named goes h = object_bad w s e next named goes h
  word_by w s e next true false named goes h = name_bad w s e next named goes (word_value w) refl h
  word_by w s e next false opens named goes h = word_bad w s e next named (word_value w) refl h

  word_value_told : (s : At) (e : TextFault) → word_value_at E s ≡ Err e → TellsBadToken (word_value_at E) (Begin Values) s e
  unfolding word_value_at
  word_value_told s e h =
      elim (bind_bad Value (word_at s) (λ x. if is_name_text x.0 && opens_object x.1 then object_at E x.0 x.1 else worded (word_value x.0) (is_name_text x.0) s x.1) e h) [
        | inl bad ↦
            told_here (word_value_at E) word_at Nothing (Begin Values) s e (λ t same g fault. rw fault refl) (λ ms is. subst (Begin Values) (sym is) no_value) (word_told Nothing s e refl bad)
        | inr c ↦
            let w = c.0.0 in
            let n = word_found s w c.0.1 c.1 in
            let rest = subst (λ (x : At). (if is_name_text w && opens_object x then object_at E w x else worded (word_value w) (is_name_text w) s x) ≡ Err e) n.1 c.2 in
            word_by w s e n.0 (is_name_text w) (opens_object (behind s)) refl refl rest
      ]

  -- ---- strings

  abbrev NothingOrChars : List Lexeme → Type 0
  NothingOrChars ls = Nothing ls ⊎ ((text : List ℕ) × (ls ≡ chars text ∷ []))

  text_begins : (ms : List Lexeme) → NothingOrChars ms → Begin Values ms
  text_begins ms (inl is) = subst (Begin Values) (sym is) no_value
  text_begins ms (inr c) = subst (Begin Values) (sym c.1) (value_as (Chars c.0) (layer.Text c.0) (chars c.0 ∷ []) [] (outs-Text c.0) refl)

  text_told : (s : At) (e : TextFault) → text_value_at s ≡ Err e → TellsBadToken text_value_at (Begin Values) s e
  unfolding text_value_at
  text_told s e h =
      let bad = handed_bad (string_at s) Chars e h in
      told_here text_value_at string_at NothingOrChars (Begin Values) s e (λ t same g fault. rw fault refl) text_begins (string_told NothingOrChars s e (inl refl) (λ text. inr (text, refl)) bad)

  -- ---- values

  value_goes : (token : Token) (t : At) → (next_at t).token ≡ token → value_in_text E t ≡ value_by E token t
  unfolding value_in_text
  value_goes token t next = ap (λ (k : Token). value_by E k t) next

  by_token : (token : Token) (s : At) (e : TextFault) → (next_at s).token ≡ token → TellsBadToken (value_by E token) (Begin Values) s e → TellsBadToken (value_in_text E) (Begin Values) s e
  by_token token s e next b =
      told_here (value_in_text E) (value_by E token) (Begin Values) (Begin Values) s e (λ t same g fault. value_goes token t (sym same.token ∙ next) ∙ fault) (λ ms b. b) b

  list_begins : (ms : List Lexeme) → Begin (Lists S) ms → Begin Values ms
  list_begins ms b = value_as (Items b.1) (layer.List b.1) ms b.0 (outs-List b.1) b.2

  by_mark : (b : ℕ) (s : At) (e : TextFault) → (next_at s).token ≡ Mark b → (list pointer : Bool) → (b == 91) ≡ list → (b == 64) ≡ pointer
      → (if list then E listed s else if pointer then pointer_at E (behind s) else bad_at s) ≡ Err e → TellsBadToken (value_by E (Mark b)) (Begin Values) s e
  by_mark b s e next true pointer l p h =
      told_here (value_by E (Mark b)) (E listed) (Begin (Lists S)) (Begin Values) s e (λ t same g fault. rw l fault) list_begins (told.list s e h)
  by_mark b s e next false true l p h =
      let sign : IsNext (mark 64) s = next ∙ ap (λ (k : ℕ). let o : Token = Mark k in o) (eqb-true b 64 p) in
      told_behind (value_by E (Mark b)) (pointer_at E) (Begin Pointers) (Begin Values) (mark 64 ∷ []) s (behind s) e (sign, refl)
      (λ t x k same g fault.
      let here : pointer_at E (behind t) ≡ Err g = subst (λ (a : At). pointer_at E a ≡ Err g) k.1 fault in
      rw (l, p) here)
      (λ ms b. (b.0, b.1, b.2))
      (pointer_told (behind s) e h)
  by_mark b s e next false false l p h =
      bad_here (value_by E (Mark b)) (Begin Values) s e (λ t same. rw (l, p) refl) no_value (bad_is {A = Value} s e h)

  value_by_told : (token : Token) (s : At) (e : TextFault) → (next_at s).token ≡ token → value_by E token s ≡ Err e → TellsBadToken (value_by E token) (Begin Values) s e
  value_by_told Word s e next h = word_value_told s e h
  value_by_told (Mark b) s e next h = by_mark b s e next (b == 91) (b == 64) refl refl h
  value_by_told Text s e next h = text_told s e h
  value_by_told Bad s e next h = text_told s e h
  value_by_told Cut s e next h = text_told s e h
  value_by_told End s e next h = text_told s e h

  pub value_told : (s : At) (e : TextFault) → value_in_text E s ≡ Err e → TellsBadToken (value_in_text E) (Begin Values) s e
  value_told s e h = by_token (next_at s).token s e refl (value_by_told (next_at s).token s e refl (sym (value_goes (next_at s).token s refl) ∙ h))

  -- ---- parts

  no_part : Begin Parts []
  no_part =
      let ls = word (codes "a") ∷ mark 58 ∷ word (codes "null") ∷ [] in
      let null : SpellsLayer S (out-Value Null) (word (codes "null") ∷ []) = subst (λ (y : Value-F Value Part). SpellsLayer S y (word (codes "null") ∷ [])) (sym outs-Null) refl in
      (ls, part (codes "a") Null, (word (codes "null") ∷ [], refl, refl, null))

  member_bad : (name : List ℕ) (s : At) (e : TextFault) → IsNext (word name) s → is_name_text name ≡ true → marked 58 (behind s) ≡ true → value_in_text E (behind (behind s)) ≡ Err e → TellsBadToken (part_at E) (Begin Parts) s e
  unfolding part_at
  member_bad name s e next named m bad =
      told_behind (part_at E) (value_in_text E) (Begin Values) (Begin Parts) (word name ∷ mark 58 ∷ []) s (behind (behind s)) e (next, (marked_is 58 (behind s) m, refl))
      (λ t x k same g fault.
      let one = word_that_again is_name_text name t k.0 named in
      let goes : marked 58 (behind t) ≡ true = marked_again 58 58 (behind t) k.1.0 in
      let here : value_in_text E (behind (behind t)) ≡ Err g = subst (λ (a : At). value_in_text E a ≡ Err g) k.1.1 fault in
      rw (one, goes, here) refl)
      (λ ms b. (b.0, part name b.1, member_named S name b.1 (ms ++ b.0) named b.2))
      (value_told (behind (behind s)) e bad)

  base_bad : (name : List ℕ) (s : At) (e : TextFault) → IsNext (word name) s → is_name_text name ≡ true → marked 58 (behind s) ≡ false → object_at E name (behind s) ≡ Err e → TellsBadToken (part_at E) (Begin Parts) s e
  unfolding part_at
  base_bad name s e next named m bad =
      told_behind (part_at E) (object_at E name) (Tail name) (Begin Parts) (word name ∷ []) s (behind s) e (next, refl)
      (λ t x k same g fault.
      let one = word_that_again is_name_text name t k.0 named in
      let there : marked 58 (behind t) ≡ false = subst (λ (a : At). marked 58 a ≡ false) k.1 (sym (marked_same 58 (behind s) x same) ∙ m) in
      let here : object_at E name (behind t) ≡ Err g = subst (λ (a : At). object_at E name a ≡ Err g) k.1 fault in
      rw (one, there, here) refl)
      (λ ms b. let o = object_of_tail name ms named b in (o.0, part [] o.1, o.2))
      (object_told name (behind s) e bad)

  part_by : (name : List ℕ) (s : At) (e : TextFault) → IsNext (word name) s → is_name_text name ≡ true → (b : Bool) → marked 58 (behind s) ≡ b
      → (if b then (value_in_text E (behind (behind s)) >>= with_place (part name)) else (object_at E name (behind s) >>= with_place (part []))) ≡ Err e → TellsBadToken (part_at E) (Begin Parts) s e
  part_by name s e next named true m h = member_bad name s e next named m (handed_bad (value_in_text E (behind (behind s))) (part name) e h)
  part_by name s e next named false m h = base_bad name s e next named m (handed_bad (object_at E name (behind s)) (part []) e h)

  part_told : (s : At) (e : TextFault) → part_at E s ≡ Err e → TellsBadToken (part_at E) (Begin Parts) s e
  unfolding part_at
  part_told s e h =
      elim (bind_bad Part (name_at s) (λ name. if marked 58 name.1 then (value_in_text E (behind name.1) >>= with_place (part name.0)) else (object_at E name.0 name.1 >>= with_place (part []))) e h) [
        | inl bad ↦
            told_here (part_at E) name_at Nothing (Begin Parts) s e (λ t same g fault. rw fault refl) (λ ms is. subst (Begin Parts) (sym is) no_part) (word_that_told is_name_text Nothing s e refl bad)
        | inr w ↦
            let name = w.0.0 in
            let n = word_that_found is_name_text s name w.0.1 w.1 in
            let rest = subst (λ (x : At). (if marked 58 x then (value_in_text E (behind x) >>= with_place (part name)) else (object_at E name x >>= with_place (part []))) ≡ Err e) n.2 w.2 in
            part_by name s e n.0 n.1 (marked 58 (behind s)) refl rest
      ]

  -- ---- lists

  told_values : ItemTold {A = Value} 93 (λ before. value_in_text E) (λ before v. SpellsLayer R (out-Value v)) (λ before. Values) (λ v. ends_here (out-Value v))
  told_values = record {
    again = value_items E R again;
    found = λ front x s t h. value_found E R found s x t h;
    up = λ front v ls c. layer_up R S up (out-Value v) ls c;
    told = λ front s e h. value_told s e h;
    ends_same = λ v s t same h. value_ends_same (out-Value v) s t same h;
  }

  told_parts : ItemTold {A = Part} 125 (λ before. part_at E) (λ before p. SpellsNamed R p.name p.value) (λ before. Parts) (λ p. ends_part p.name p.value)
  told_parts = record {
    again = part_items E R again;
    found = λ front x s t h. part_found E R found s x t h;
    up = λ front p ls c. named_up R S up p.name p.value ls c;
    told = λ front s e h. part_told s e h;
    ends_same = λ p s t same h. part_ends_same p.name p.value s t same h;
  }

  -- a row, with its brackets
  abbrev Rows : List Value → List Lexeme → Type 0
  Rows items ls = (inside : List Lexeme) × (ls ≡ in_brackets 91 inside 93) × SpellsItems (λ before. Values) items inside

  enclosing : (opening closing : ℕ) (ms more : List Lexeme) → (mark opening ∷ ms) ++ (more ++ mark closing ∷ []) ≡ in_brackets opening (ms ++ more) closing
  enclosing opening closing ms more = ap (λ (l : List Lexeme). mark opening ∷ l) (sym (append_assoc ms more (mark closing ∷ [])))

  pub values_told : (s : At) (e : TextFault) → values_at E s ≡ Err e → TellsBadToken (values_at E) (Begin Rows) s e
  unfolding values_at
  values_told s e h =
      elim (bind_bad (List Value) (mark_at 91 s) (λ opening. list_at 93 (λ before. value_in_text E) opening.1) e h) [
        | inl bad ↦
            told_here (values_at E) (mark_at 91) Nothing (Begin Rows) s e (λ t same g fault. rw fault refl) (λ ms is. subst (Begin Rows) (sym is) (mark 91 ∷ mark 93 ∷ [], [], ([], refl, refl))) (mark_told 91 Nothing s e refl bad)
        | inr w ↦
            let m = mark_found 91 s w.0.0 w.0.1 w.1 in
            told_behind (values_at E) (list_at 93 (λ before. value_in_text E)) (Begin (SpellsItems (λ before. Values))) (Begin Rows) (mark 91 ∷ []) s w.0.1 e m
            (λ t x k same g fault.
            let one = mark_again 91 t k.0 in
            let here : list_at 93 (λ before. value_in_text E) (behind t) ≡ Err g = subst (λ (a : At). list_at 93 (λ before. value_in_text E) a ≡ Err g) k.1 fault in
            rw one here)
            (λ ms b. (b.0 ++ mark 93 ∷ [], b.1, (ms ++ b.0, enclosing 91 93 ms b.0, b.2)))
            (items_told {A = Value} 93 (λ before. value_in_text E) (λ before v. SpellsLayer R (out-Value v)) (λ before. Values) (λ v. ends_here (out-Value v)) told_values w.0.1 e w.2)
      ]

  list_told : (s : At) (e : TextFault) → enclosed_by E listed s ≡ Err e → TellsBadToken (enclosed_by E listed) (Begin (Lists (SpellsBrackets S))) s e
  unfolding enclosed_by
  list_told s e h =
      let bad = handed_bad (values_at E s) Items e h in
      told_here (enclosed_by E listed) (values_at E) (Begin Rows) (Begin (Lists (SpellsBrackets S))) s e (λ t same g fault. rw fault refl) (λ ms b. (b.0, b.1, b.2)) (values_told s e bad)

  braces_told : (class : List ℕ) (z : ℤ) (s : At) (e : TextFault) → enclosed_by E (object_of class z) s ≡ Err e → TellsBadToken (enclosed_by E (object_of class z)) (Begin (Braces (SpellsBrackets S) class z)) s e
  unfolding enclosed_by
  braces_told class z s e h =
      elim (bind_bad Value (mark_at 123 s) (λ opening. list_at 125 (λ before. part_at E) opening.1 >>= with_place (Object class z)) e h) [
        | inl bad ↦
            told_here (enclosed_by E (object_of class z)) (mark_at 123) Nothing (Begin (Braces (SpellsBrackets S) class z)) s e (λ t same g fault. rw fault refl)
            (λ ms is. subst (Begin (Braces (SpellsBrackets S) class z)) (sym is) (empty_braces, [], ([], refl, refl))) (mark_told 123 Nothing s e refl bad)
        | inr w ↦
            let m = mark_found 123 s w.0.0 w.0.1 w.1 in
            let bad = handed_bad (list_at 125 (λ before. part_at E) w.0.1) (Object class z) e w.2 in
            told_behind (enclosed_by E (object_of class z)) (list_at 125 (λ before. part_at E)) (Begin (SpellsItems (λ before. Parts))) (Begin (Braces (SpellsBrackets S) class z)) (mark 123 ∷ []) s w.0.1 e m
            (λ t x k same g fault.
            let one = mark_again 123 t k.0 in
            let here : list_at 125 (λ before. part_at E) (behind t) ≡ Err g = subst (λ (a : At). list_at 125 (λ before. part_at E) a ≡ Err g) k.1 fault in
            rw (one, here) refl)
            (λ ms b. (b.0 ++ mark 125 ∷ [], b.1, (ms ++ b.0, enclosing 123 125 ms b.0, b.2)))
            (items_told {A = Part} 125 (λ before. part_at E) (λ before p. SpellsNamed R p.name p.value) (λ before. Parts) (λ p. ends_part p.name p.value) told_parts w.0.1 e bad)
      ]

-- ---- with so many brackets

levels_told : (levels : ℕ) → EnclosedTold (enclosed_at levels) (SpellsWithin (suc levels))
unfolding enclosed_at
levels_told zero = record {
  none = λ class z. ([], refl, refl);
  list = λ s e h. bad_here (enclosed_at zero listed) (Begin (Lists (SpellsWithin 1))) s e (λ t same. refl) (mark 91 ∷ mark 93 ∷ [], [], ([], refl, refl)) (bad_is {A = Value} s e h);
  object = λ class z s e h. bad_here (enclosed_at zero (object_of class z)) (Begin (Braces (SpellsWithin 1) class z)) s e (λ t same. refl) (empty_braces, [], ([], refl, refl)) (bad_is {A = Value} s e h);
}
levels_told (suc levels) =
    let inner = levels_told levels in
    record {
      none = λ class z. ([], refl, refl);
      list = λ s e h. list_told (enclosed_at levels) (SpellsWithin levels) (SpellsWithin (suc levels)) (levels_again levels) (levels_found levels) (within_up levels) inner s e h;
      object = λ class z s e h. braces_told (enclosed_at levels) (SpellsWithin levels) (SpellsWithin (suc levels)) (levels_again levels) (levels_found levels) (within_up levels) inner class z s e h;
    }

pub places_are_told : PlacesAreTold
unfolding SpellsValue SpellsRow
places_are_told = record {
  value = λ levels s e h. value_told (enclosed_at levels) (SpellsWithin levels) (SpellsWithin (suc levels)) (levels_again levels) (levels_found levels) (within_up levels) (levels_told levels) s e h;
  row = λ levels s e h. values_told (enclosed_at levels) (SpellsWithin levels) (SpellsWithin (suc levels)) (levels_again levels) (levels_found levels) (within_up levels) (levels_told levels) s e h;
}
