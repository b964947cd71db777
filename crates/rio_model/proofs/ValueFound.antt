-- A value that is read is spelled by the tokens that were passed over.
use Rattle.std.proofs.Common.{◌≡◌, ℕ, zero, suc, ◌≤◌, ℤ, pos, List, [], ◌∷◌, ◌++◌, codes, Bool, true, false, ◌==◌, ◌&&◌, not, if◌then◌else◌, Option, Some, None, Ok, refl, sym, ◌∙◌, ap, subst, arith}
use Rattle.std.proofs.{lemmas.Bool.{and_left, and_right, eqb-true, not_from_false}, lemmas.Slice.Eq.{bytes_eq-Decides}}
use Rattle.std.specs.Str.{bytes_eq}
use Rattle.rio_num.specs.{At.{At}, Reading.{◌>>=◌}, Word.{is_name_text}}
use Rattle.rio_format.specs.declared.value.Part.{Part}
use Rattle.rio_format.specs.declared.value.Value.{Value, Int, Bits32, Bits64, Bool as Truth, Text as Chars, List as Items, Object, Pointed, Null, Back, out-Value, TheOpen.{Value-F}, TheVariants.{outs-Int, outs-Bits32, outs-Bits64, outs-Bool, outs-Text, outs-List, outs-Object, outs-Pointed, outs-Null, outs-Back}}
use Rattle.rio_format.specs.declared.value.Value.TheOpen as layer
use Rattle.rio_token.specs.{declared.token.Token.{Token, TheVariants.{Word, Text, Mark, Bad, Cut, End}}, declared.words.Bits.{Bits, TheVariants.{Four, Eight}}}
use Rattle.rio_token.specs.{Reading.{bad_at, list_at, mark_at, marked, name_at, num_at, string_at, version_at, word_at}, Tokens.{behind, next_at}}
use Rattle.rio_token.specs.Words.{bits_of, num_of, number_of}
use Rattle.rio_format.specs.Bodies.{part}
use Rattle.rio_model.specs.Lexemes.{IsNext, Lexeme, SpellsItems, Stand, chars, mark, word}
use Rattle.rio_model.specs.ValueGrammar.{Reader, bits_value, class_version_at, enclosed_at, enclosed_by, listed, named_object_at, number_or, object_at, object_of, opens_object, part_at, pointer_at, text_value_at, value_by, value_in_text, values_at, word_value, word_value_at, worded}
use Rattle.rio_model.specs.ValueSpelling.{ReadAreSpelled, Spelling, SpellsAsObject, SpellsBrackets, SpellsLayer, SpellsNamed, SpellsRow, SpellsValue, SpellsVersion, SpellsWithin, ends_here, in_brackets}
use Rattle.rio_model.proofs.{ItemLaws.{items_found, read_is}, ValueAgain.{ends_part, ends_version}}
use Rattle.rio_model.proofs.LexemeLaws.{bad_not_ok, mark_found, marked_is, num_between_found, num_found, stand_joined, string_found, then_ok, word_found, word_that_found, with_place}

-- ---- versions

version_number : (n : ℕ) (digits : List ℕ) → num_of digits ≡ Some n → 1 ≤ n → n ≤ 32767 → SpellsVersion (pos n) (mark 35 ∷ word digits ∷ [])
version_number zero digits num low high = absurd (omega (arith, low))
version_number (suc n) digits num low high = (digits, num, high, refl)

-- what was found of a version
abbrev VersionFound : ℤ → At → At → Type 0
VersionFound z s t = (ls : List Lexeme) × SpellsVersion z ls × Stand ls s t × (ends_version z t ≡ true)

number_ends : (n : ℕ) (t : At) → 1 ≤ n → ends_version (pos n) t ≡ true
number_ends zero t h = absurd (omega (arith, h))
number_ends (suc n) t h = refl

version_by : (b : Bool) (s : At) (z : ℤ) (t : At) → marked 35 s ≡ b
    → (if b then (version_at (behind s) >>= with_place pos) else Ok (pos 0, s)) ≡ Ok (z, t) → VersionFound z s t
version_by true s z t m h =
    let a = then_ok (version_at (behind s)) (with_place pos) z t h in
    let e = read_is (pos a.0.0) z a.0.1 t a.2 in
    let n = num_between_found 1 32767 (behind s) a.0.0 a.0.1 a.1 in
    let ls = mark 35 ∷ word n.0 ∷ [] in
    let spelled = version_number a.0.0 n.0 n.2 n.3 n.4 in
    let ends = number_ends a.0.0 t n.3 in
    (ls, subst (λ (v : ℤ). SpellsVersion v ls) e.0 spelled, (marked_is 35 s m, (n.1, sym e.1 ∙ n.5)), subst (λ (v : ℤ). ends_version v t ≡ true) e.0 ends)
version_by false s z t m h =
    let e = read_is (pos 0) z s t h in
    let ends : ends_version (pos 0) s ≡ true = not_from_false (marked 35 s) m in
    ([], subst (λ (v : ℤ). SpellsVersion v []) e.0 refl, sym e.1, subst (λ (v : ℤ). ends_version v t ≡ true) e.0 (subst (λ (x : At). ends_version (pos 0) x ≡ true) e.1 ends))

pub version_found : (s : At) (z : ℤ) (t : At) → class_version_at s ≡ Ok (z, t) → VersionFound z s t
unfolding class_version_at
version_found s z t h = version_by (marked 35 s) s z t refl h

-- ---- words

-- the word alone spells the value, where the value ends
abbrev Lone : Spelling → List ℕ → Value-F Value Part → Type 0
Lone R w y = SpellsLayer R y (word w ∷ []) × ((s : At) → (is_name_text w && opens_object s) ≡ false → ends_here y s ≡ true)

lone_as : (R : Spelling) (w : List ℕ) (v v' : Value) (y : Value-F Value Part) → out-Value v' ≡ y → v' ≡ v → Lone R w y → Lone R w (out-Value v)
lone_as R w v v' y outs same h = subst (λ (x : Value-F Value Part). Lone R w x) (sym outs ∙ ap out-Value same) h

spelled_as : (R : Spelling) (ls : List Lexeme) (v v' : Value) (y : Value-F Value Part) → out-Value v' ≡ y → v' ≡ v → SpellsLayer R y ls → SpellsLayer R (out-Value v) ls
spelled_as R ls v v' y outs same h = subst (λ (x : Value-F Value Part). SpellsLayer R x ls) (sym outs ∙ ap out-Value same) h

ends_as : (t : At) (v v' : Value) (y : Value-F Value Part) → out-Value v' ≡ y → v' ≡ v → ends_here y t ≡ true → ends_here (out-Value v) t ≡ true
ends_as t v v' y outs same h = subst (λ (x : Value-F Value Part). ends_here x t ≡ true) (sym outs ∙ ap out-Value same) h

-- what an option that is known to be something holds
some_is : {A : Type 0} (x y : A) → (let o : Option A = Some x in o ≡ Some y) → x ≡ y
some_is x y h = cc

module _ (R : Spelling) (w : List ℕ) (v : Value) where
  bits_by : (o : Option Bits) → bits_of w ≡ o → bits_value o ≡ Some v → Lone R w (out-Value v)
  bits_by None is h = absurd (cc)
  bits_by (Some (Four n)) is h = lone_as R w v (Bits32 n) (layer.Bits32 n) (outs-Bits32 n) (some_is (Bits32 n) v h) ((w, is, refl), λ s e. refl)
  bits_by (Some (Eight n)) is h = lone_as R w v (Bits64 n) (layer.Bits64 n) (outs-Bits64 n) (some_is (Bits64 n) v h) ((w, is, refl), λ s e. refl)

  number_by : (o : Option ℤ) → number_of w ≡ o → number_or o (bits_value (bits_of w)) ≡ Some v → Lone R w (out-Value v)
  number_by None is h = bits_by (bits_of w) refl h
  number_by (Some z) is h = lone_as R w v (Int z) (layer.Int z) (outs-Int z) (some_is (Int z) v h) ((w, is, refl), λ s e. refl)

  -- the word is this one, and so is the value
  known_word : (name : List ℕ) (u : Value) (y : Value-F Value Part) → bytes_eq w name ≡ true → out-Value u ≡ y → u ≡ v → Lone R name y → Lone R w (out-Value v)
  known_word name u y t outs is lone =
      let same : w ≡ name = (bytes_eq-Decides w name).0 t in
      let made = lone_as R name v u y outs is lone in
      subst (λ (x : List ℕ). Lone R x (out-Value v)) (sym same) made

  null_by : (b : Bool) → bytes_eq w (codes "null") ≡ b → (if b then Some Null else number_or (number_of w) (bits_value (bits_of w))) ≡ Some v → Lone R w (out-Value v)
  null_by true t h = known_word (codes "null") Null layer.Null t outs-Null (some_is Null v h) (refl, λ s e. not_from_false (opens_object s) e)
  null_by false t h = number_by (number_of w) refl h

  false_by : (b : Bool) → bytes_eq w (codes "false") ≡ b → (if b then Some (Truth false) else if bytes_eq w (codes "null") then Some Null else number_or (number_of w) (bits_value (bits_of w))) ≡ Some v → Lone R w (out-Value v)
  false_by true t h = known_word (codes "false") (Truth false) (layer.Bool false) t (outs-Bool false) (some_is (Truth false) v h) (refl, λ s e. not_from_false (opens_object s) e)
  false_by false t h = null_by (bytes_eq w (codes "null")) refl h

  true_by : (b : Bool) → bytes_eq w (codes "true") ≡ b
      → (if b then Some (Truth true) else if bytes_eq w (codes "false") then Some (Truth false) else if bytes_eq w (codes "null") then Some Null else number_or (number_of w) (bits_value (bits_of w))) ≡ Some v → Lone R w (out-Value v)
  true_by true t h = known_word (codes "true") (Truth true) (layer.Bool true) t (outs-Bool true) (some_is (Truth true) v h) (refl, λ s e. not_from_false (opens_object s) e)
  true_by false t h = false_by (bytes_eq w (codes "false")) refl h

  word_spells : word_value w ≡ Some v → Lone R w (out-Value v)
  unfolding word_value
  word_spells h = true_by (bytes_eq w (codes "true")) refl h

-- ---- values, by what is read in brackets

-- what is read in brackets is spelled
pub record EnclosedFound (E : Reader) (R : Spelling) : Type 0 where
  pub list : (s : At) (v : Value) (t : At) → E listed s ≡ Ok (v, t) → (items : List Value) × (ls : List Lexeme) × (v ≡ Items items) × R (layer.List items) ls × Stand ls s t
  pub object : (class : List ℕ) (z : ℤ) (s : At) (v : Value) (t : At) → E (object_of class z) s ≡ Ok (v, t)
      → (parts : List Part) × (ls : List Lexeme) × (v ≡ Object class z parts) × R (layer.Object class z parts) ls × Stand ls s t

pub member_named : (R : Spelling) (name : List ℕ) (v : Value) (own : List Lexeme) → is_name_text name ≡ true → SpellsLayer R (out-Value v) own → SpellsNamed R name v (word name ∷ mark 58 ∷ own)
member_named R [] v own named c = absurd (cc)
member_named R (b ∷ bs) v own named c = (own, refl, named, c)

member_ends : (name : List ℕ) (v : Value) (t : At) → ends_here (out-Value v) t ≡ true → ends_part name v t ≡ true
member_ends [] v t ends = refl
member_ends (b ∷ bs) v t ends = ends

module _ (E : Reader) (R : Spelling) (f : EnclosedFound E R) where
  abbrev ValueFound : At → Value → At → Type 0
  ValueFound s v t = (ls : List Lexeme) × SpellsLayer R (out-Value v) ls × Stand ls s t × (ends_here (out-Value v) t ≡ true)

  abbrev ObjectFound : At → Value → At → Type 0
  ObjectFound s v t = (ls : List Lexeme) × SpellsAsObject R (out-Value v) ls × Stand ls s t

  -- an object whose class comes next
  object_found : (class : List ℕ) (s : At) (v : Value) (t : At) → IsNext (word class) s → is_name_text class ≡ true → object_at E class (behind s) ≡ Ok (v, t) → ObjectFound s v t
  unfolding object_at
  object_found class s v t next named h =
      let a = then_ok (class_version_at (behind s)) (λ version. E (object_of class version.0) version.1) v t h in
      let version = version_found (behind s) a.0.0 a.0.1 a.1 in
      let o = f.object class a.0.0 a.0.1 v t a.2 in
      let ls = word class ∷ (version.0 ++ o.1) in
      let spelled : SpellsAsObject R (layer.Object class a.0.0 o.0) ls = (version.0, o.1, refl, named, version.1, o.3) in
      let outs : out-Value v ≡ layer.Object class a.0.0 o.0 = ap out-Value o.2 ∙ outs-Object class a.0.0 o.0 in
      (ls, subst (λ (y : Value-F Value Part). SpellsAsObject R y ls) (sym outs) spelled, (next, stand_joined version.0 o.1 (behind s) a.0.1 t version.2 o.4))

  as_value : (y : Value-F Value Part) (ls : List Lexeme) (t : At) → SpellsAsObject R y ls → SpellsLayer R y ls × (ends_here y t ≡ true)
  as_value (layer.Object class z parts) ls t c = (c, refl)
  as_value other ls t c = absurd c

  object_is_value : (s : At) (v : Value) (t : At) → ObjectFound s v t → ValueFound s v t
  object_is_value s v t o = let a = as_value (out-Value v) o.0 t o.1 in (o.0, a.0, o.2, a.1)

  named_object_found : (s : At) (v : Value) (t : At) → named_object_at E s ≡ Ok (v, t) → ObjectFound s v t
  unfolding named_object_at
  named_object_found s v t h =
      let a = then_ok (name_at s) (λ class. object_at E class.0 class.1) v t h in
      let n = word_that_found is_name_text s a.0.0 a.0.1 a.1 in
      object_found a.0.0 s v t n.0 n.1 (subst (λ (x : At). object_at E a.0.0 x ≡ Ok (v, t)) n.2 a.2)

  -- ---- words

  worded_found : (w : List ℕ) (s : At) (v : Value) (t : At) → IsNext (word w) s → (is_name_text w && opens_object (behind s)) ≡ false → (o : Option Value) → word_value w ≡ o → (name : Bool) → worded o name s (behind s) ≡ Ok (v, t) → ValueFound s v t
  worded_found w s v t next ends (Some u) is name h =
      let e = read_is u v (behind s) t h in
      let lone = word_spells R w v (is ∙ ap (λ (x : Value). let o : Option Value = Some x in o) e.0) in
      let here : (is_name_text w && opens_object t) ≡ false = subst (λ (x : At). (is_name_text w && opens_object x) ≡ false) e.1 ends in
      (word w ∷ [], lone.0, (next, sym e.1), lone.1 t here)
  worded_found w s v t next ends None is true h = absurd (bad_not_ok (behind s) (v, t) h)
  worded_found w s v t next ends None is false h = absurd (bad_not_ok s (v, t) h)

  word_by : (w : List ℕ) (s : At) (v : Value) (t : At) → IsNext (word w) s → (name opens : Bool) → is_name_text w ≡ name → opens_object (behind s) ≡ opens
      → (if name && opens then object_at E w (behind s) else worded (word_value w) name s (behind s)) ≡ Ok (v, t) → ValueFound s v t
  word_by w s v t next true true is goes h = object_is_value s v t (object_found w s v t next is h)
  word_by w s v t next true false is goes h = worded_found w s v t next (and_right (is_name_text w) (opens_object (behind s)) goes) (word_value w) refl true h
  word_by w s v t next false opens is goes h = worded_found w s v t next (and_left (is_name_text w) (opens_object (behind s)) is) (word_value w) refl false h

  word_value_found : (s : At) (v : Value) (t : At) → word_value_at E s ≡ Ok (v, t) → ValueFound s v t
  unfolding word_value_at
  word_value_found s v t h =
      let a = then_ok (word_at s) (λ x. if is_name_text x.0 && opens_object x.1 then object_at E x.0 x.1 else worded (word_value x.0) (is_name_text x.0) s x.1) v t h in
      let w = a.0.0 in
      let n = word_found s w a.0.1 a.1 in
      let rest = subst (λ (x : At). (if is_name_text w && opens_object x then object_at E w x else worded (word_value w) (is_name_text w) s x) ≡ Ok (v, t)) n.1 a.2 in
      word_by w s v t n.0 (is_name_text w) (opens_object (behind s)) refl refl rest

  text_value_found : (s : At) (v : Value) (t : At) → text_value_at s ≡ Ok (v, t) → ValueFound s v t
  unfolding text_value_at
  text_value_found s v t h =
      let a = then_ok (string_at s) (with_place Chars) v t h in
      let e = read_is (Chars a.0.0) v a.0.1 t a.2 in
      let n = string_found s a.0.0 a.0.1 a.1 in
      let ls = chars a.0.0 ∷ [] in
      (ls, spelled_as R ls v (Chars a.0.0) (layer.Text a.0.0) (outs-Text a.0.0) e.0 refl, (n.0, sym e.1 ∙ n.1), ends_as t v (Chars a.0.0) (layer.Text a.0.0) (outs-Text a.0.0) e.0 refl)

  -- ---- pointers

  label_by : (b : Bool) (digits : List ℕ) (label : ℕ) (s : At) (v : Value) (t : At) → IsNext (mark 64) s → IsNext (word digits) (behind s) → num_of digits ≡ Some label → marked 61 (behind (behind s)) ≡ b
      → (if b then (named_object_at E (behind (behind (behind s))) >>= with_place (Pointed label)) else Ok (Back label, behind (behind s))) ≡ Ok (v, t) → ValueFound s v t
  label_by true digits label s v t sign next num m h =
      let a = then_ok (named_object_at E (behind (behind (behind s)))) (with_place (Pointed label)) v t h in
      let e = read_is (Pointed label a.0.0) v a.0.1 t a.2 in
      let o = named_object_found (behind (behind (behind s))) a.0.0 a.0.1 a.1 in
      let ls = mark 64 ∷ word digits ∷ mark 61 ∷ o.0 in
      let stands : Stand o.0 (behind (behind (behind s))) t = subst (λ (x : At). Stand o.0 (behind (behind (behind s))) x) e.1 o.2 in
      (ls, spelled_as R ls v (Pointed label a.0.0) (layer.Pointed label a.0.0) (outs-Pointed label a.0.0) e.0 (digits, o.0, refl, num, o.1), (sign, (next, (marked_is 61 (behind (behind s)) m, stands))), ends_as t v (Pointed label a.0.0) (layer.Pointed label a.0.0) (outs-Pointed label a.0.0) e.0 refl)
  label_by false digits label s v t sign next num m h =
      let e = read_is (Back label) v (behind (behind s)) t h in
      let ls = mark 64 ∷ word digits ∷ [] in
      let ends : ends_here (layer.Back label) t ≡ true = subst (λ (x : At). not (marked 61 x) ≡ true) e.1 (not_from_false (marked 61 (behind (behind s))) m) in
      (ls, spelled_as R ls v (Back label) (layer.Back label) (outs-Back label) e.0 (digits, num, refl), (sign, (next, sym e.1)), ends_as t v (Back label) (layer.Back label) (outs-Back label) e.0 ends)

  pointer_found : (s : At) (v : Value) (t : At) → IsNext (mark 64) s → pointer_at E (behind s) ≡ Ok (v, t) → ValueFound s v t
  unfolding pointer_at
  pointer_found s v t sign h =
      let a = then_ok (num_at (behind s)) (λ label. if marked 61 label.1 then (named_object_at E (behind label.1) >>= with_place (Pointed label.0)) else Ok (Back label.0, label.1)) v t h in
      let label = a.0.0 in
      let n = num_found (behind s) label a.0.1 a.1 in
      let rest = subst (λ (x : At). (if marked 61 x then (named_object_at E (behind x) >>= with_place (Pointed label)) else Ok (Back label, x)) ≡ Ok (v, t)) n.3 a.2 in
      label_by (marked 61 (behind (behind s))) n.0 label s v t sign n.1 n.2 refl rest

  -- ---- values

  list_value_found : (s : At) (v : Value) (t : At) → E listed s ≡ Ok (v, t) → ValueFound s v t
  list_value_found s v t h =
      let l = f.list s v t h in
      (l.1, spelled_as R l.1 v (Items l.0) (layer.List l.0) (outs-List l.0) (sym l.2) l.3, l.4, ends_as t v (Items l.0) (layer.List l.0) (outs-List l.0) (sym l.2) refl)

  mark_by : (mark_byte : ℕ) (list pointer : Bool) (s : At) (v : Value) (t : At) → (next_at s).token ≡ Mark mark_byte → (mark_byte == 64) ≡ pointer
      → (if list then E listed s else if pointer then pointer_at E (behind s) else bad_at s) ≡ Ok (v, t) → ValueFound s v t
  mark_by b true pointer s v t next p h = list_value_found s v t h
  mark_by b false true s v t next p h =
      let sign : IsNext (mark 64) s = next ∙ ap (λ (k : ℕ). let o : Token = Mark k in o) (eqb-true b 64 p) in
      pointer_found s v t sign h
  mark_by b false false s v t next p h = absurd (bad_not_ok s (v, t) h)

  value_by_found : (token : Token) (s : At) (v : Value) (t : At) → (next_at s).token ≡ token → value_by E token s ≡ Ok (v, t) → ValueFound s v t
  value_by_found Word s v t next h = word_value_found s v t h
  value_by_found (Mark b) s v t next h = mark_by b (b == 91) (b == 64) s v t next refl h
  value_by_found Text s v t next h = text_value_found s v t h
  value_by_found Bad s v t next h = text_value_found s v t h
  value_by_found Cut s v t next h = text_value_found s v t h
  value_by_found End s v t next h = text_value_found s v t h

  pub value_found : (s : At) (v : Value) (t : At) → value_in_text E s ≡ Ok (v, t) → ValueFound s v t
  unfolding value_in_text
  value_found s v t h = value_by_found (next_at s).token s v t refl h

  -- ---- parts

  abbrev PartFound : At → Part → At → Type 0
  PartFound s p t = (ls : List Lexeme) × SpellsNamed R p.name p.value ls × Stand ls s t × (ends_part p.name p.value t ≡ true)

  part_by : (b : Bool) (name : List ℕ) (s : At) (p : Part) (t : At) → IsNext (word name) s → is_name_text name ≡ true → marked 58 (behind s) ≡ b
      → (if b then (value_in_text E (behind (behind s)) >>= with_place (part name)) else (object_at E name (behind s) >>= with_place (part []))) ≡ Ok (p, t) → PartFound s p t
  part_by true name s p t next named m h =
      let a = then_ok (value_in_text E (behind (behind s))) (with_place (part name)) p t h in
      let e = read_is (part name a.0.0) p a.0.1 t a.2 in
      let v = value_found (behind (behind s)) a.0.0 a.0.1 a.1 in
      let ls = word name ∷ mark 58 ∷ v.0 in
      let stands : Stand v.0 (behind (behind s)) t = subst (λ (x : At). Stand v.0 (behind (behind s)) x) e.1 v.2 in
      (ls, subst (λ (q : Part). SpellsNamed R q.name q.value ls) e.0 (member_named R name a.0.0 v.0 named v.1), (next, (marked_is 58 (behind s) m, stands)), subst (λ (q : Part). ends_part q.name q.value t ≡ true) e.0 (member_ends name a.0.0 t (subst (λ (x : At). ends_here (out-Value a.0.0) x ≡ true) e.1 v.3)))
  part_by false name s p t next named m h =
      let a = then_ok (object_at E name (behind s)) (with_place (part [])) p t h in
      let e = read_is (part [] a.0.0) p a.0.1 t a.2 in
      let o = object_found name s a.0.0 a.0.1 next named a.1 in
      let stands : Stand o.0 s t = subst (λ (x : At). Stand o.0 s x) e.1 o.2 in
      (o.0, subst (λ (q : Part). SpellsNamed R q.name q.value o.0) e.0 o.1, stands, subst (λ (q : Part). ends_part q.name q.value t ≡ true) e.0 refl)

  pub part_found : (s : At) (p : Part) (t : At) → part_at E s ≡ Ok (p, t) → PartFound s p t
  unfolding part_at
  part_found s p t h =
      let a = then_ok (name_at s) (λ name. if marked 58 name.1 then (value_in_text E (behind name.1) >>= with_place (part name.0)) else (object_at E name.0 name.1 >>= with_place (part []))) p t h in
      let name = a.0.0 in
      let n = word_that_found is_name_text s name a.0.1 a.1 in
      let rest = subst (λ (x : At). (if marked 58 x then (value_in_text E (behind x) >>= with_place (part name)) else (object_at E name x >>= with_place (part []))) ≡ Ok (p, t)) n.2 a.2 in
      part_by (marked 58 (behind s)) name s p t n.0 n.1 refl rest

  -- ---- brackets

  pub values_found : (s : At) (items : List Value) (t : At) → values_at E s ≡ Ok (items, t)
      → (inside : List Lexeme) × SpellsItems (λ before v. SpellsLayer R (out-Value v)) items inside × Stand (in_brackets 91 inside 93) s t
  unfolding values_at
  values_found s items t h =
      let a = then_ok (mark_at 91 s) (λ opening. list_at 93 (λ before. value_in_text E) opening.1) items t h in
      let m = mark_found 91 s a.0.0 a.0.1 a.1 in
      let all = subst (λ (x : At). list_at 93 (λ before. value_in_text E) x ≡ Ok (items, t)) m.1 a.2 in
      let i = items_found {A = Value} 93 (λ before. value_in_text E) (λ before v. SpellsLayer R (out-Value v)) (λ v. ends_here (out-Value v)) (λ front x s t h. value_found s x t h) items (behind s) t all in
      (i.0, i.1, (m.0, i.2))

  list_found : (s : At) (v : Value) (t : At) → enclosed_by E listed s ≡ Ok (v, t) → (items : List Value) × (ls : List Lexeme) × (v ≡ Items items) × SpellsBrackets R (layer.List items) ls × Stand ls s t
  unfolding enclosed_by
  list_found s v t h =
      let a = then_ok (values_at E s) (with_place Items) v t h in
      let e = read_is (Items a.0.0) v a.0.1 t a.2 in
      let i = values_found s a.0.0 a.0.1 a.1 in
      let ls = in_brackets 91 i.0 93 in
      (a.0.0, ls, sym e.0, (i.0, refl, i.1), subst (λ (x : At). Stand ls s x) e.1 i.2)

  braces_found : (class : List ℕ) (z : ℤ) (s : At) (v : Value) (t : At) → enclosed_by E (object_of class z) s ≡ Ok (v, t)
      → (parts : List Part) × (ls : List Lexeme) × (v ≡ Object class z parts) × SpellsBrackets R (layer.Object class z parts) ls × Stand ls s t
  unfolding enclosed_by
  braces_found class z s v t h =
      let a = then_ok (mark_at 123 s) (λ opening. list_at 125 (λ before. part_at E) opening.1 >>= with_place (Object class z)) v t h in
      let m = mark_found 123 s a.0.0 a.0.1 a.1 in
      let b = then_ok (list_at 125 (λ before. part_at E) a.0.1) (with_place (Object class z)) v t a.2 in
      let e = read_is (Object class z b.0.0) v b.0.1 t b.2 in
      let all = subst (λ (x : At). list_at 125 (λ before. part_at E) x ≡ Ok b.0) m.1 b.1 in
      let i = items_found {A = Part} 125 (λ before. part_at E) (λ before p. SpellsNamed R p.name p.value) (λ p. ends_part p.name p.value) (λ front x s t h. part_found s x t h) b.0.0 (behind s) b.0.1 all in
      let ls = in_brackets 123 i.0 125 in
      let stands : Stand ls s b.0.1 = (m.0, i.2) in
      (b.0.0, ls, sym e.0, (i.0, refl, i.1), subst (λ (x : At). Stand ls s x) e.1 stands)

-- ---- with so many brackets

pub levels_found : (levels : ℕ) → EnclosedFound (enclosed_at levels) (SpellsWithin levels)
unfolding enclosed_at
levels_found zero = record {
  list = λ s v t h. absurd (bad_not_ok s (v, t) h);
  object = λ class z s v t h. absurd (bad_not_ok s (v, t) h);
}
levels_found (suc levels) =
    let inner = levels_found levels in
    record {
      list = λ s v t h. list_found (enclosed_at levels) (SpellsWithin levels) inner s v t h;
      object = λ class z s v t h. braces_found (enclosed_at levels) (SpellsWithin levels) inner class z s v t h;
    }

pub read_are_spelled : ReadAreSpelled
unfolding SpellsValue SpellsRow
read_are_spelled = record {
  value = λ levels v s t h. value_found (enclosed_at levels) (SpellsWithin levels) (levels_found levels) s v t h;
  row = λ levels values s t h.
      let i = values_found (enclosed_at levels) (SpellsWithin levels) (levels_found levels) s values t h in
      (in_brackets 91 i.0 93, (i.0, refl, i.1), i.2);
}
