-- What tokens spell as a declaration is read as its class.
use Rattle.std.proofs.Common.{◌≡◌, ℕ, ℤ, pos, List, [], ◌∷◌, codes, Bool, true, false, ◌==◌, ◌&&◌, not, Option, Some, None, Ok, refl, sym, ◌∙◌, ap, subst}
use Rattle.std.proofs.lemmas.Bool.{and_parts, not-true}
use Rattle.std.specs.Str.{bytes_eq}
use Rattle.rio_num.specs.{At.{At}, Reading.{◌>>=◌}, Word.{is_name_text}}
use Rattle.rio_format.specs.{declared.class.Base.{Base}, declared.class.ClassDef.{ClassDef}, declared.class.Member.{Member}}
use Rattle.rio_format.specs.{declared.kind.Kind.{Kind, TheVariants.{Plain, Fixed, Counted, Text, Inline, Pointer}}, declared.kind.Primitive.{Primitive}, Bodies.{member}}
use Rattle.rio_token.specs.{declared.token.Token.TheVariants.{End}, Reading.{Read, end_at, mark_at, marked, word_that_at}, Tokens.{behind, next_at}}
use Rattle.rio_token.specs.Words.{num_between_of}
use Rattle.rio_model.specs.ClassGrammar.{base, base_at, bases_at, class_at, class_of, dimension_of, has_i32, is_new_base, is_new_member, kind_at, member_at, plain_at, primitive_of, sized_at}
use Rattle.rio_model.specs.ClassSpelling.{SpelledClassesAreRead, SpellsBase, SpellsBases, SpellsDeclaration, SpellsKind, SpellsMember, ends_kind}
use Rattle.rio_model.specs.{ClassText.{primitive_text}, Lexemes.{IsNext, Lexeme, Stand, mark, word}, Stated.{is_class_word, is_none}}
use Rattle.rio_model.proofs.ItemLaws.{ItemAgain, ended, items_again, some_again}
use Rattle.rio_model.proofs.LexemeLaws.{bounded_again, mark_again, marked_again, stand_split, then_ok, word_not_marked, word_that_again, word_that_found}
use Rattle.rio_model.proofs.ReadKinds.{primitive_back, primitive_named}

-- ---- kinds

none_is : (o : Option Primitive) → is_none o ≡ true → o ≡ None
none_is None h = refl
none_is (Some of) h = absurd (cc)

-- a word that is the class of an object
record ClassWord (class : List ℕ) : Type 0 where
  named : is_name_text class ≡ true
  no_primitive : primitive_of class ≡ None
  no_text : bytes_eq class (codes "text") ≡ false

class_word : (class : List ℕ) → is_class_word class ≡ true → ClassWord class
class_word class h =
    let outer = and_parts (is_name_text class && is_none (primitive_of class)) (not (bytes_eq class (codes "text"))) h in
    let inner = and_parts (is_name_text class) (is_none (primitive_of class)) outer.0 in
    record { named = inner.0; no_primitive = none_is (primitive_of class) inner.1; no_text = not-true (bytes_eq class (codes "text")) outer.1 }

text_no_primitive : primitive_of (codes "text") ≡ None
unfolding primitive_of
text_no_primitive = refl

module _ (before : List Member) where
  -- behind its first word
  kind_goes : (w : List ℕ) (s : At) (o : Option Primitive) → IsNext (word w) s → is_name_text w ≡ true → marked 42 (behind s) ≡ false → primitive_of w ≡ o → kind_at before s ≡ plain_at before w o (behind s)
  unfolding kind_at
  kind_goes w s o next named star of =
      let one = word_that_again is_name_text w s next named in
      rw (one, star, of) refl

  pointer_goes : (w : List ℕ) (s : At) → IsNext (word w) s → is_name_text w ≡ true → IsNext (mark 42) (behind s) → kind_at before s ≡ Ok (Pointer w, behind (behind s))
  unfolding kind_at
  pointer_goes w s next named star =
      let one = word_that_again is_name_text w s next named in
      let goes : marked 42 (behind s) ≡ true = marked_again 42 42 (behind s) star in
      rw (one, goes) refl

  sized_again : (of : Primitive) (w : List ℕ) (k : Kind) (s : At) → IsNext (word w) s → dimension_of before of w ≡ Some k → IsNext (mark 93) (behind s) → sized_at before of s ≡ Ok (k, behind (behind s))
  unfolding sized_at
  sized_again of w k s next says close =
      let one = mark_again 93 (behind s) close in
      rw (next.0, next.1, says, one) refl

  -- a primitive kind, and a word in brackets behind it
  in_brackets_again : (of : Primitive) (w : List ℕ) (k : Kind) (ls : List Lexeme) (s t : At) → ls ≡ word (primitive_text of) ∷ mark 91 ∷ word w ∷ mark 93 ∷ [] → Stand ls s t → dimension_of before of w ≡ Some k → kind_at before s ≡ Ok (k, t)
  in_brackets_again of w k ls s t l h says =
      let n = subst (λ (x : List Lexeme). Stand x s t) l h in
      let star : marked 42 (behind s) ≡ false = marked_again 91 42 (behind s) n.1.0 in
      let goes : marked 91 (behind s) ≡ true = marked_again 91 91 (behind s) n.1.0 in
      let size = sized_again of w k (behind (behind s)) n.1.1.0 says n.1.1.1.0 in
      kind_goes (primitive_text of) s (Some of) n.0 (primitive_named of) star (primitive_back of) ∙ rw (goes, size, n.1.1.1.1) refl

  fixed_says : (of : Primitive) (w : List ℕ) (count : ℕ) → num_between_of 1 100000 w ≡ Some count → dimension_of before of w ≡ Some (Fixed of count)
  unfolding dimension_of
  fixed_says of w count h = rw h refl

  counted_says : (of : Primitive) (w : List ℕ) → num_between_of 1 100000 w ≡ None → has_i32 before w ≡ true → dimension_of before of w ≡ Some (Counted of w)
  unfolding dimension_of
  counted_says of w h i = rw (h, i) refl

  pub kind_again : (k : Kind) (ls : List Lexeme) (s t : At) → SpellsKind before k ls → Stand ls s t → ends_kind k t ≡ true → kind_at before s ≡ Ok (k, t)
  kind_again (Plain of) ls s t c h ends =
      let n = subst (λ (x : List Lexeme). Stand x s t) c h in
      let tests = and_parts (not (marked 42 t)) (not (marked 91 t)) ends in
      let star : marked 42 (behind s) ≡ false = subst (λ (x : At). marked 42 x ≡ false) n.1 (not-true (marked 42 t) tests.0) in
      let bracket : marked 91 (behind s) ≡ false = subst (λ (x : At). marked 91 x ≡ false) n.1 (not-true (marked 91 t) tests.1) in
      kind_goes (primitive_text of) s (Some of) n.0 (primitive_named of) star (primitive_back of) ∙ rw (bracket, n.1) refl
  kind_again (Fixed of count) ls s t c h ends = in_brackets_again of c.0 (Fixed of count) ls s t c.2 h (fixed_says of c.0 count c.1)
  kind_again (Counted of counter) ls s t c h ends = in_brackets_again of counter (Counted of counter) ls s t c.2 h (counted_says of counter c.0 c.1)
  kind_again Text ls s t c h ends =
      let n = subst (λ (x : List Lexeme). Stand x s t) c h in
      let star : marked 42 (behind s) ≡ false = subst (λ (x : At). marked 42 x ≡ false) n.1 (not-true (marked 42 t) ends) in
      kind_goes (codes "text") s None n.0 refl star text_no_primitive ∙ rw n.1 refl
  kind_again (Inline class) ls s t c h ends =
      let n = subst (λ (x : List Lexeme). Stand x s t) c.1 h in
      let w = class_word class c.0 in
      let star : marked 42 (behind s) ≡ false = subst (λ (x : At). marked 42 x ≡ false) n.1 (not-true (marked 42 t) ends) in
      kind_goes class s None n.0 w.named star w.no_primitive ∙ rw (w.no_text, n.1) refl
  kind_again (Pointer class) ls s t c h ends =
      let n = subst (λ (x : List Lexeme). Stand x s t) c.1 h in
      pointer_goes class s n.0 c.0 n.1.0 ∙ rw n.1.1 refl
  kind_again other ls s t c h ends = absurd c

-- ---- members

untitled : (m : Member) → m.title ≡ [] → member m.name m.kind ≡ m
untitled m h = ap (λ (t : List ℕ). let x : Member = record { name = m.name; kind = m.kind; title = t } in x) (sym h)

pub member_again : (before : List Member) (m : Member) (ls : List Lexeme) (s t : At) → SpellsMember before m ls → Stand ls s t → ends_kind m.kind t ≡ true → member_at before s ≡ Ok (m, t)
unfolding member_at
member_again before m ls s t c h ends =
    let n = subst (λ (x : List Lexeme). Stand x s t) c.1 h in
    let one = word_that_again (is_new_member before) m.name s n.0 c.2 in
    let two = mark_again 58 (behind s) n.1.0 in
    let kind = kind_again before m.kind c.0 (behind (behind s)) t c.4 n.1.1 ends in
    let same = untitled m c.3 in
    rw (one, two, kind, same) refl

kind_ends_at : (b : ℕ) (k : Kind) (s : At) → IsNext (mark b) s → not (b == 42) ≡ true → not (b == 91) ≡ true → ends_kind k s ≡ true
kind_ends_at b (Plain of) s h star bracket = rw (h, star, bracket) refl
kind_ends_at b Text s h star bracket = rw h star
kind_ends_at b (Inline class) s h star bracket = rw h star
kind_ends_at b other s h star bracket = refl

begins_word : (test : List ℕ → Bool) (b : ℕ) (s : At) (w : List ℕ × At) → word_that_at test s ≡ Ok w → marked b s ≡ false
begins_word test b s w h = word_not_marked w.0 b s (word_that_found test s w.0 w.1 h).0

member_begins : (before : List Member) (b : ℕ) (s : At) (x : Member × At) → member_at before s ≡ Ok x → marked b s ≡ false
unfolding member_at
member_begins before b s x h =
    let a = then_ok (word_that_at (is_new_member before) s) (λ name. mark_at 58 name.1 >>= λ passed. kind_at before passed.1 >>= λ kind. Ok (member name.0 kind.0, kind.1)) x.0 x.1 h in
    begins_word (is_new_member before) b s a.0 a.1

pub member_items : ItemAgain {A = Member} 125 member_at SpellsMember (λ m. ends_kind m.kind)
member_items = record {
  other = refl;
  comma = λ m s h. kind_ends_at 44 m.kind s h refl refl;
  last = λ m s h. kind_ends_at 125 m.kind s h refl refl;
  begins = λ s x h. member_begins [] 125 s x h;
  again = λ front x own s t c h ends. member_again front x own s t c h ends;
}

-- ---- bases

unversioned : (b : Base) → b.version ≡ pos 0 → base b.name ≡ b
unversioned b h = ap (λ (v : ℤ). let x : Base = record { name = b.name; version = v } in x) (sym h)

pub base_again : (before : List Base) (b : Base) (ls : List Lexeme) (s t : At) → SpellsBase before b ls → Stand ls s t → base_at before s ≡ Ok (b, t)
unfolding base_at
base_again before b ls s t c h =
    let n = subst (λ (x : List Lexeme). Stand x s t) c.0 h in
    let one = word_that_again (is_new_base before) b.name s n.0 c.1 in
    let same = unversioned b c.2 in
    rw (one, same, n.1) refl

base_begins : (before : List Base) (b : ℕ) (s : At) (x : Base × At) → base_at before s ≡ Ok x → marked b s ≡ false
unfolding base_at
base_begins before b s x h =
    let a = then_ok (word_that_at (is_new_base before) s) (λ name. Ok (base name.0, name.1)) x.0 x.1 h in
    begins_word (is_new_base before) b s a.0 a.1

pub base_items : ItemAgain {A = Base} 123 base_at SpellsBase (λ b s. true)
base_items = record {
  other = refl;
  comma = λ b s h. refl;
  last = λ b s h. refl;
  begins = λ s x h. base_begins [] 123 s x h;
  again = λ front x own s t c h ends. base_again front x own s t c h;
}

pub bases_again : (bases : List Base) (ls : List Lexeme) (s t : At) → SpellsBases bases ls → Stand ls s t → bases_at s ≡ Ok (bases, t)
unfolding bases_at
bases_again [] ls s t c h =
    let n = subst (λ (x : List Lexeme). Stand x s t) c h in
    let goes : marked 58 s ≡ false = marked_again 123 58 s n.0 in
    let one = mark_again 123 s n.0 in
    rw (goes, one, n.1) refl
bases_again (b ∷ bs) ls s t c h =
    let n = subst (λ (x : List Lexeme). Stand x s t) c.1 h in
    let goes : marked 58 s ≡ true = marked_again 58 58 s n.0 in
    let all = some_again {A = Base} 123 base_at SpellsBase (λ b s. true) base_items b bs c.0 (behind s) t c.2 n.1 in
    rw (goes, all) refl

-- ---- classes

pub end_again : (s : At) → (next_at s).token ≡ End → end_at s ≡ Ok (tt, behind s)
unfolding end_at
end_again s h = rw h refl

class_tokens : (class : ClassDef) (ls : List Lexeme) (s here : At) (c : SpellsDeclaration class ls) → Stand ls s here → (next_at here).token ≡ End → class_at s ≡ Ok (class_of class.name c.version class.bases c.members, behind here)
unfolding class_at
class_tokens class ls s here c h end =
    let n = subst (λ (x : List Lexeme). Stand x s here) c.tokens h in
    let keyword = word_that_again (λ w. bytes_eq w (codes "class")) (codes "class") s n.0 refl in
    let name = word_that_again is_name_text class.name (behind s) n.1.0 c.named in
    let version = bounded_again 1 32767 c.digits c.version (behind (behind s)) n.1.1.0 c.numbered in
    let r = stand_split c.front (ended 125 c.inside) (behind (behind (behind s))) here n.1.1.1 in
    let bases = bases_again class.bases c.front (behind (behind (behind s))) r.0 c.based r.1 in
    let members = items_again {A = Member} 125 member_at SpellsMember (λ m. ends_kind m.kind) member_items c.members c.inside r.0 here c.listed r.2 in
    let done = end_again here end in
    rw (keyword, name, version, bases, members, done) refl

pub spelled_classes_are_read : SpelledClassesAreRead
spelled_classes_are_read class ls s here c h end =
    class_tokens class ls s here c h end ∙ ap (λ (x : ClassDef). let r : Read ClassDef = Ok (x, behind here) in r) (sym c.whole)
