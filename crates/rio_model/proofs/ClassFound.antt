-- A class that is read is declared by the tokens that were passed over.
use Rattle.std.proofs.Common.{◌≡◌, ℕ, List, [], ◌∷◌, ◌++◌, codes, Bool, true, false, not, if◌then◌else◌, Option, Some, None, option_and_then, Ok, refl, sym, ◌∙◌, ap, subst}
use Rattle.std.proofs.{lemmas.Bool.{and_from, not_from_false}, lemmas.Slice.Eq.{bytes_eq-Decides}}
use Rattle.std.specs.Str.{bytes_eq}
use Rattle.rio_num.specs.{At.{At}, Reading.{◌>>=◌}, Word.{is_name_text}}
use Rattle.rio_num.proofs.ReadLaws.{if_is}
use Rattle.rio_format.specs.{declared.class.Base.{Base}, declared.class.ClassDef.{ClassDef}, declared.class.Member.{Member}, declared.kind.Kind.{Kind, TheVariants.{Plain, Fixed, Counted, Text, Inline, Pointer}}}
use Rattle.rio_format.specs.{declared.kind.Primitive.{Primitive, TheVariants.{I8, I16, I32, I64, U8, U16, U32, U64, Bool as Truth, F32, F64}}, Bodies.{member}}
use Rattle.rio_token.specs.declared.token.Token.{Token, TheVariants.{Word, Text as Chars, Mark, Bad, Cut, End}}
use Rattle.rio_token.specs.Reading.{Read, end_at, is_end, keyword_at, list_at, mark_at, marked, name_at, next_word, some_at, some_if, version_at, word_that_at}
use Rattle.rio_token.specs.{Tokens.{behind, next_at}, Words.{num_between_of}}
use Rattle.rio_model.specs.ClassGrammar.{base, base_at, bases_at, class_at, class_of, counted_by, dimension_at, dimension_of, fixed_or, has_i32, is_new_base, is_new_member, kind_at, member_at, plain_at, primitive_of, sized_at}
use Rattle.rio_model.specs.ClassSpelling.{ReadClassesAreSpelled, SpellsBase, SpellsBases, SpellsDeclaration, SpellsKind, SpellsMember, ends_kind}
use Rattle.rio_model.specs.{ClassText.{primitive_text}, Lexemes.{IsNext, Lexeme, SpellsItems, Stand, mark, word}, Stated.{is_class_word}}
use Rattle.rio_model.proofs.ItemLaws.{ended, items_found, read_is, some_found}
use Rattle.rio_model.proofs.LexemeLaws.{bounded_found, mark_found, marked_is, next_word_is, stand_joined, taken_is, then_is, then_ok, word_that_found, with_place}

abbrev read_to : {A : Type 0} → A → At → Read A
read_to x t = Ok (x, t)

-- ---- primitive kinds

module _ (w : List ℕ) (of : Primitive) where
  -- one word after the other
  or_this : (p : Primitive) (rest : Option Primitive) → (rest ≡ Some of → w ≡ primitive_text of) → (if bytes_eq w (primitive_text p) then Some p else rest) ≡ Some of → w ≡ primitive_text of
  or_this p rest others h = by (bytes_eq w (primitive_text p)) refl h
    where
      by : (b : Bool) → bytes_eq w (primitive_text p) ≡ b → (if b then Some p else rest) ≡ Some of → w ≡ primitive_text of
      by true t h =
          let same : w ≡ primitive_text p = (bytes_eq-Decides w (primitive_text p)).0 t in
          let is : p ≡ of = cc in
          same ∙ ap primitive_text is
      by false t h = others h

  none_left : (let none : Option Primitive = None in none ≡ Some of) → w ≡ primitive_text of
  none_left h = absurd (cc)

  pub primitive_is : primitive_of w ≡ Some of → w ≡ primitive_text of
  unfolding primitive_of
  primitive_is =
      or_this I8 _ (or_this I16 _ (or_this I32 _ (or_this I64 _ (or_this U8 _ (or_this U16 _ (or_this U32 _ (or_this U64 _ (or_this Truth _ (or_this F32 _ (or_this F64 _ none_left))))))))))

-- ---- kinds

module _ (before : List Member) where
  abbrev KindFound : At → Kind → At → Type 0
  KindFound s k t = (ls : List Lexeme) × SpellsKind before k ls × Stand ls s t × (ends_kind k t ≡ true)

  -- what a word in brackets says
  abbrev pub Says : Primitive → List ℕ → Kind → Type 0
  Says of w k = SpellsKind before k (word (primitive_text of) ∷ mark 91 ∷ word w ∷ mark 93 ∷ []) × ((s : At) → ends_kind k s ≡ true)

  fixed_by : (of : Primitive) (w : List ℕ) (k : Kind) (o : Option ℕ) → num_between_of 1 100000 w ≡ o → fixed_or of o (counted_by before of w) ≡ Some k → Says of w k
  fixed_by of w k (Some count) is h = subst (λ (x : Kind). Says of w x) (some_kind (Fixed of count) k h) ((w, is, refl), λ s. refl)
    where
      some_kind : (x y : Kind) → (let o : Option Kind = Some x in o ≡ Some y) → x ≡ y
      some_kind x y h = cc
  fixed_by of w k None is h =
      let c = if_is (has_i32 before w) (Counted of w) k h in
      subst (λ (x : Kind). Says of w x) c.1 ((is, c.0, refl), λ s. refl)

  pub says_found : (of : Primitive) (w : List ℕ) (k : Kind) → dimension_of before of w ≡ Some k → Says of w k
  unfolding dimension_of
  says_found of w k h = fixed_by of w k (num_between_of 1 100000 w) refl h

  pub dimension_found : (of : Primitive) (s : At) (k : Kind) (t : At) → dimension_at before of s ≡ Ok (k, t) → (w : List ℕ) × IsNext (word w) s × Says of w k × (t ≡ behind s) × (dimension_of before of w ≡ Some k)
  dimension_found of s k t h =
      let p = taken_is (option_and_then (dimension_of before of) (next_word s)) s k t h in
      let q = then_is (dimension_of before of) (next_word s) k p.0 in
      (q.0, next_word_is s q.0 q.1, says_found of q.0 k q.2, p.1, q.2)

  sized_found : (of : Primitive) (s : At) (k : Kind) (t : At) → sized_at before of s ≡ Ok (k, t) → (w : List ℕ) × Says of w k × Stand (word w ∷ mark 93 ∷ []) s t
  unfolding sized_at
  sized_found of s k t h =
      let a = then_ok (dimension_at before of s) (λ kind. mark_at 93 kind.1 >>= λ close. Ok (kind.0, close.1)) k t h in
      let d = dimension_found of s a.0.0 a.0.1 a.1 in
      let b = then_ok (mark_at 93 a.0.1) (λ close. Ok (a.0.0, close.1)) k t a.2 in
      let e = read_is a.0.0 k b.0.1 t b.2 in
      let m = mark_found 93 a.0.1 b.0.0 b.0.1 b.1 in
      let close : IsNext (mark 93) (behind s) = subst (λ (x : At). IsNext (mark 93) x) d.3 m.0 in
      let place : t ≡ behind (behind s) = sym e.1 ∙ m.1 ∙ ap behind d.3 in
      (d.0, subst (λ (x : Kind). Says of d.0 x) e.0 d.2, (d.1, (close, place)))

  -- what a kind begins with
  primitive_found : (of : Primitive) (w : List ℕ) (s : At) (k : Kind) (t : At) → IsNext (word w) s → primitive_of w ≡ Some of → marked 42 (behind s) ≡ false → (b : Bool) → marked 91 (behind s) ≡ b
      → (if b then sized_at before of (behind (behind s)) else Ok (Plain of, behind s)) ≡ Ok (k, t) → KindFound s k t
  primitive_found of w s k t next is star true m h =
      let z = sized_found of (behind (behind s)) k t h in
      let name : IsNext (word (primitive_text of)) s = subst (λ (x : List ℕ). IsNext (word x) s) (primitive_is w of is) next in
      (word (primitive_text of) ∷ mark 91 ∷ word z.0 ∷ mark 93 ∷ [], z.1.0, (name, (marked_is 91 (behind s) m, z.2)), z.1.1 t)
  primitive_found of w s k t next is star false m h =
      let e = read_is (Plain of) k (behind s) t h in
      let name : IsNext (word (primitive_text of)) s = subst (λ (x : List ℕ). IsNext (word x) s) (primitive_is w of is) next in
      let ls = word (primitive_text of) ∷ [] in
      let tests : ends_kind (Plain of) (behind s) ≡ true = and_from (not (marked 42 (behind s))) (not (marked 91 (behind s))) (not_from_false (marked 42 (behind s)) star) (not_from_false (marked 91 (behind s)) m) in
      (ls, subst (λ (x : Kind). SpellsKind before x ls) e.0 refl, (name, sym e.1), subst (λ (x : Kind). ends_kind x t ≡ true) e.0 (subst (λ (x : At). ends_kind (Plain of) x ≡ true) e.1 tests))

  is_text : (w : List ℕ) (s : At) (k : Kind) (t : At) → IsNext (word w) s → is_name_text w ≡ true → primitive_of w ≡ None → marked 42 (behind s) ≡ false → (b : Bool) → bytes_eq w (codes "text") ≡ b
      → (if b then read_to Text (behind s) else read_to (Inline w) (behind s)) ≡ Ok (k, t) → KindFound s k t
  is_text w s k t next named none star true is h =
      let e = read_is Text k (behind s) t h in
      let name : IsNext (word (codes "text")) s = subst (λ (x : List ℕ). IsNext (word x) s) ((bytes_eq-Decides w (codes "text")).0 is) next in
      let ls = word (codes "text") ∷ [] in
      let ends : ends_kind Text t ≡ true = subst (λ (x : At). ends_kind Text x ≡ true) e.1 (not_from_false (marked 42 (behind s)) star) in
      (ls, subst (λ (x : Kind). SpellsKind before x ls) e.0 refl, (name, sym e.1), subst (λ (x : Kind). ends_kind x t ≡ true) e.0 ends)
  is_text w s k t next named none star false is h =
      let e = read_is (Inline w) k (behind s) t h in
      let ls = word w ∷ [] in
      let class : is_class_word w ≡ true = rw (named, none, is) refl in
      let ends : ends_kind (Inline w) t ≡ true = subst (λ (x : At). ends_kind (Inline w) x ≡ true) e.1 (not_from_false (marked 42 (behind s)) star) in
      (ls, subst (λ (x : Kind). SpellsKind before x ls) e.0 (class, refl), (next, sym e.1), subst (λ (x : Kind). ends_kind x t ≡ true) e.0 ends)

  plain_found : (w : List ℕ) (s : At) (k : Kind) (t : At) → IsNext (word w) s → is_name_text w ≡ true → marked 42 (behind s) ≡ false → (o : Option Primitive) → primitive_of w ≡ o → plain_at before w o (behind s) ≡ Ok (k, t) → KindFound s k t
  plain_found w s k t next named star (Some of) is h = primitive_found of w s k t next is star (marked 91 (behind s)) refl h
  plain_found w s k t next named star None is h = is_text w s k t next named is star (bytes_eq w (codes "text")) refl h

  kind_by : (w : List ℕ) (s : At) (k : Kind) (t : At) → IsNext (word w) s → is_name_text w ≡ true → (b : Bool) → marked 42 (behind s) ≡ b
      → (if b then Ok (Pointer w, behind (behind s)) else plain_at before w (primitive_of w) (behind s)) ≡ Ok (k, t) → KindFound s k t
  kind_by w s k t next named true m h =
      let e = read_is (Pointer w) k (behind (behind s)) t h in
      let ls = word w ∷ mark 42 ∷ [] in
      (ls, subst (λ (x : Kind). SpellsKind before x ls) e.0 (named, refl), (next, (marked_is 42 (behind s) m, sym e.1)), subst (λ (x : Kind). ends_kind x t ≡ true) e.0 refl)
  kind_by w s k t next named false m h = plain_found w s k t next named m (primitive_of w) refl h

  pub kind_found : (s : At) (k : Kind) (t : At) → kind_at before s ≡ Ok (k, t) → KindFound s k t
  unfolding kind_at
  kind_found s k t h =
      let a = then_ok (name_at s) (λ x. if marked 42 x.1 then Ok (Pointer x.0, behind x.1) else plain_at before x.0 (primitive_of x.0) x.1) k t h in
      let w = a.0.0 in
      let n = word_that_found is_name_text s w a.0.1 a.1 in
      let rest = subst (λ (y : At). (if marked 42 y then Ok (Pointer w, behind y) else plain_at before w (primitive_of w) y) ≡ Ok (k, t)) n.2 a.2 in
      kind_by w s k t n.0 n.1 (marked 42 (behind s)) refl rest

-- ---- members and bases

pub member_found : (before : List Member) (m : Member) (s t : At) → member_at before s ≡ Ok (m, t) → (ls : List Lexeme) × SpellsMember before m ls × Stand ls s t × (ends_kind m.kind t ≡ true)
unfolding member_at
member_found before m s t h =
    let a = then_ok (word_that_at (is_new_member before) s) (λ name. mark_at 58 name.1 >>= λ passed. kind_at before passed.1 >>= with_place (member name.0)) m t h in
    let name = a.0.0 in
    let n = word_that_found (is_new_member before) s name a.0.1 a.1 in
    let b = then_ok (mark_at 58 a.0.1) (λ passed. kind_at before passed.1 >>= with_place (member name)) m t a.2 in
    let colon = mark_found 58 a.0.1 b.0.0 b.0.1 b.1 in
    let c = then_ok (kind_at before b.0.1) (with_place (member name)) m t b.2 in
    let e = read_is (member name c.0.0) m c.0.1 t c.2 in
    let k = kind_found before b.0.1 c.0.0 c.0.1 c.1 in
    let ls = word name ∷ mark 58 ∷ k.0 in
    let next : IsNext (mark 58) (behind s) = subst (λ (x : At). IsNext (mark 58) x) n.2 colon.0 in
    let from : b.0.1 ≡ behind (behind s) = colon.1 ∙ ap behind n.2 in
    let stands : Stand k.0 (behind (behind s)) t = subst (λ (x : At). Stand k.0 (behind (behind s)) x) e.1 (subst (λ (x : At). Stand k.0 x c.0.1) from k.2) in
    let spelled : SpellsMember before (member name c.0.0) ls = (k.0, refl, n.1, refl, k.1) in
    let ends : ends_kind c.0.0 t ≡ true = subst (λ (x : At). ends_kind c.0.0 x ≡ true) e.1 k.3 in
    (ls, subst (λ (x : Member). SpellsMember before x ls) e.0 spelled, (n.0, (next, stands)), subst (λ (x : Member). ends_kind x.kind t ≡ true) e.0 ends)

pub base_found : (before : List Base) (b : Base) (s t : At) → base_at before s ≡ Ok (b, t) → (ls : List Lexeme) × SpellsBase before b ls × Stand ls s t × (true ≡ true)
unfolding base_at
base_found before b s t h =
    let a = then_ok (word_that_at (is_new_base before) s) (with_place base) b t h in
    let n = word_that_found (is_new_base before) s a.0.0 a.0.1 a.1 in
    let e = read_is (base a.0.0) b a.0.1 t a.2 in
    let ls = word a.0.0 ∷ [] in
    let spelled : SpellsBase before (base a.0.0) ls = (refl, n.1, refl) in
    (ls, subst (λ (x : Base). SpellsBase before x ls) e.0 spelled, (n.0, sym e.1 ∙ n.2), refl)

abbrev BasesFound : List Base → At → At → Type 0
BasesFound bases s t = (ls : List Lexeme) × SpellsBases bases ls × Stand ls s t

bases_by : (b : Bool) (bases : List Base) (s t : At) → marked 58 s ≡ b → (if b then some_at 123 base_at (behind s) else (mark_at 123 s >>= λ opening. Ok ([], opening.1))) ≡ Ok (bases, t) → BasesFound bases s t
bases_by true bases s t m h =
    let o = some_found {A = Base} 123 base_at SpellsBase (λ b s. true) (λ front x s t h. base_found front x s t h) bases (behind s) t h in
    let ls = mark 58 ∷ ended 123 o.2 in
    let spelled : SpellsBases (o.0 ∷ o.1) ls = (o.2, refl, o.4) in
    (ls, subst (λ (x : List Base). SpellsBases x ls) (sym o.3) spelled, (marked_is 58 s m, o.5))
bases_by false bases s t m h =
    let a = then_ok (mark_at 123 s) (λ opening. Ok ([], opening.1)) bases t h in
    let e = read_is [] bases a.0.1 t a.2 in
    let k = mark_found 123 s a.0.0 a.0.1 a.1 in
    let ls = mark 123 ∷ [] in
    (ls, subst (λ (x : List Base). SpellsBases x ls) e.0 refl, (k.0, sym e.1 ∙ k.1))

pub bases_found : (bases : List Base) (s t : At) → bases_at s ≡ Ok (bases, t) → BasesFound bases s t
unfolding bases_at
bases_found bases s t h = bases_by (marked 58 s) bases s t refl h

-- ---- classes

pub is_end_is : (token : Token) → is_end token ≡ true → token ≡ End
is_end_is End h = refl
is_end_is Word h = absurd (cc)
is_end_is (Mark k) h = absurd (cc)
is_end_is Chars h = absurd (cc)
is_end_is Bad h = absurd (cc)
is_end_is Cut h = absurd (cc)

pub end_found : (s : At) (x : Unit {0}) (t : At) → end_at s ≡ Ok (x, t) → ((next_at s).token ≡ End) × (t ≡ behind s)
unfolding end_at
end_found s x t h =
    let w = taken_is (some_if (is_end (next_at s).token) tt) s x t h in
    (is_end_is (next_at s).token (if_is (is_end (next_at s).token) tt x w.0).0, w.1)

module _ (class : ClassDef) (s new : At) (word_read name_read : List ℕ) (version : ℕ) (bases : List Base) (members : List Member) (digits : List ℕ) (front inside : List Lexeme) (s1 s2 s3 s4 s5 : At) where
  -- what was read, part by part
  pub record IsDeclared : Type 0 where
    pub keyword : IsNext (word word_read) s
    pub is_class : bytes_eq word_read (codes "class") ≡ true
    pub behind_keyword : s1 ≡ behind s
    pub name : IsNext (word name_read) s1
    pub named : is_name_text name_read ≡ true
    pub behind_name : s2 ≡ behind s1
    pub number : IsNext (word digits) s2
    pub numbered : num_between_of 1 32767 digits ≡ Some version
    pub behind_number : s3 ≡ behind s2
    pub based : SpellsBases bases front
    pub bases_stand : Stand front s3 s4
    pub listed : SpellsItems SpellsMember members inside
    pub members_stand : Stand (ended 125 inside) s4 s5
    pub whole : class_of name_read version bases members ≡ class
    pub ends : (next_at s5).token ≡ End
    pub behind_end : new ≡ behind s5

  -- its tokens
  abbrev declared_tokens : List Lexeme
  declared_tokens = word (codes "class") ∷ word name_read ∷ word digits ∷ (front ++ ended 125 inside)

  declared_stand : IsDeclared → Stand declared_tokens s s5
  declared_stand d =
      let is : word_read ≡ codes "class" = (bytes_eq-Decides word_read (codes "class")).0 d.is_class in
      let third : s3 ≡ behind (behind (behind s)) = d.behind_number ∙ ap behind (d.behind_name ∙ ap behind d.behind_keyword) in
      let keyword : IsNext (word (codes "class")) s = subst (λ (w : List ℕ). IsNext (word w) s) is d.keyword in
      let name : IsNext (word name_read) (behind s) = subst (λ (x : At). IsNext (word name_read) x) d.behind_keyword d.name in
      let number : IsNext (word digits) (behind (behind s)) = subst (λ (x : At). IsNext (word digits) x) (d.behind_name ∙ ap behind d.behind_keyword) d.number in
      let rest : Stand (front ++ ended 125 inside) (behind (behind (behind s))) s5 = subst (λ (x : At). Stand (front ++ ended 125 inside) x s5) third (stand_joined front (ended 125 inside) s3 s4 s5 d.bases_stand d.members_stand) in
      (keyword, (name, (number, rest)))

  declared : IsDeclared → (ls : List Lexeme) × (here : At) × SpellsDeclaration class ls × Stand ls s here × ((next_at here).token ≡ End) × (new ≡ behind here)
  declared d =
      let made : SpellsDeclaration (class_of name_read version bases members) declared_tokens = record {
        version = version;
        digits = digits;
        members = members;
        front = front;
        inside = inside;
        tokens = refl;
        named = d.named;
        numbered = d.numbered;
        based = d.based;
        listed = d.listed;
        whole = refl;
      } in
      (declared_tokens, s5, subst (λ (x : ClassDef). SpellsDeclaration x declared_tokens) d.whole made, declared_stand d, d.ends, d.behind_end)

pub read_classes_are_spelled : ReadClassesAreSpelled
unfolding class_at
read_classes_are_spelled class s new h =
    let a = then_ok (keyword_at (codes "class") s) (λ keyword. name_at keyword.1 >>= λ name. version_at name.1 >>= λ version. bases_at version.1 >>= λ bases. list_at 125 member_at bases.1 >>= λ members. end_at members.1 >>= λ done. Ok (class_of name.0 version.0 bases.0 members.0, done.1)) class new h in
    let keyword = word_that_found (λ w. bytes_eq w (codes "class")) s a.0.0 a.0.1 a.1 in
    let b = then_ok (name_at a.0.1) (λ name. version_at name.1 >>= λ version. bases_at version.1 >>= λ bases. list_at 125 member_at bases.1 >>= λ members. end_at members.1 >>= λ done. Ok (class_of name.0 version.0 bases.0 members.0, done.1)) class new a.2 in
    let name = word_that_found is_name_text a.0.1 b.0.0 b.0.1 b.1 in
    let c = then_ok (version_at b.0.1) (λ version. bases_at version.1 >>= λ bases. list_at 125 member_at bases.1 >>= λ members. end_at members.1 >>= λ done. Ok (class_of b.0.0 version.0 bases.0 members.0, done.1)) class new b.2 in
    let version = bounded_found 1 32767 b.0.1 c.0.0 c.0.1 c.1 in
    let d = then_ok (bases_at c.0.1) (λ bases. list_at 125 member_at bases.1 >>= λ members. end_at members.1 >>= λ done. Ok (class_of b.0.0 c.0.0 bases.0 members.0, done.1)) class new c.2 in
    let bases = bases_found d.0.0 c.0.1 d.0.1 d.1 in
    let e = then_ok (list_at 125 member_at d.0.1) (λ members. end_at members.1 >>= λ done. Ok (class_of b.0.0 c.0.0 d.0.0 members.0, done.1)) class new d.2 in
    let members = items_found {A = Member} 125 member_at SpellsMember (λ m. ends_kind m.kind) (λ front x s t h. member_found front x s t h) e.0.0 d.0.1 e.0.1 e.1 in
    let f = then_ok (end_at e.0.1) (λ done. Ok (class_of b.0.0 c.0.0 d.0.0 e.0.0, done.1)) class new e.2 in
    let end = end_found e.0.1 f.0.0 f.0.1 f.1 in
    let same = read_is (class_of b.0.0 c.0.0 d.0.0 e.0.0) class f.0.1 new f.2 in
    declared class s new a.0.0 b.0.0 c.0.0 d.0.0 e.0.0 version.0 bases.0 members.0 a.0.1 b.0.1 c.0.1 d.0.1 e.0.1 (record {
      keyword = keyword.0;
      is_class = keyword.1;
      behind_keyword = keyword.2;
      name = name.0;
      named = name.1;
      behind_name = name.2;
      number = version.1;
      numbered = version.2;
      behind_number = version.3;
      based = bases.1;
      bases_stand = bases.2;
      listed = members.1;
      members_stand = members.2;
      whole = same.0;
      ends = end.0;
      behind_end = sym same.1 ∙ end.1;
    })
