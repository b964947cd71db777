-- Members and bases of a declaration: what is read, and the first tokens that can't stand.
use Rattle.std.proofs.Common.{◌≡◌, inl, inr, ℕ, ◌+◌, ◌<◌, ◌≤◌, ◌^◌, List, [], ◌∷◌, ◌++◌, length, codes, Bool, true, false, if◌then◌else◌, Option, Some, None, option_and_then, Ok, refl, sym, ◌∙◌, ap, subst, arith}
use Rattle.std.proofs.lemmas.Slice.Eq.{bytes_eq-Decides}
use Rattle.std.specs.Str.{bytes_eq}
use Rattle.rio_num.specs.{Reading.{◌>>=◌}, Word.{is_name_text}}
use Rattle.rio_format.specs.{declared.class.Base.{Base}, declared.class.Member.{Member}, declared.kind.Kind.{Kind, TheVariants.{Plain, Fixed, Text, Inline, Pointer}}, declared.kind.Primitive.{Primitive}, Bodies.{member}}
use Rattle.rio_token.specs.{Reading.{list_at, mark_at, marked, name_at, next_word, some_at, word_that_at}, Tokens.{behind}, Words.{decimal, written}}
use Rattle.rio_model.specs.ClassGrammar.{base, base_at, bases_at, dimension_at, dimension_of, is_new_base, is_new_member, kind_at, member_at, plain_at, primitive_at, primitive_of, sized_at}
use Rattle.rio_model.specs.{ClassSpelling.{SpellsBase, SpellsBases, SpellsKind, SpellsMember}, ClassText.{primitive_text}, Lexemes.{Lexeme, mark, word}}
use Rattle.rio_model.specs.Stated.{is_class_word}
use Rattle.rio_model.proofs.{ClassFound.{primitive_is, says_found}, LexemeLaws.{with_place}}
use Rattle.rio_step.proofs.{AlikeLaws.{Tells}, AskedTells.{MarkOf, WordOf, mark_tells, word_of}, NamedTells.{Named, named_tells}, FreshNames.{new_among}}
use Rattle.rio_step.proofs.{ListTells.{ListOf, SomeOf, list_tells, some_tells}, TellsLaws.{SaysOne, SaysWord, mark_test, one_tells, word_said}}
use Rattle.rio_step.proofs.TurnLaws.{Behind, EitherOf, InTurn, Nothing, choice_tells, handed_tells, nothing_tells, tells_as, turn_tells}

new_member : (members : List Member) → length members < 2 ^ 32 → (name : List ℕ) × (is_new_member members name ≡ true)
new_member members few =
    let n = new_among (λ (m : Member). m.name) members few in
    let named = n.1 in
    let free = n.2 in
    (n.0, rw (named, free) refl)

abbrev OfKind : List Member → List ℕ → Member → List Lexeme → Type 0
OfKind before name m ls = (kind : Kind) × (m ≡ member name kind) × SpellsKind before kind ls

abbrev ColonKind : List Member → List ℕ → Member → List Lexeme → Type 0
ColonKind before name = InTurn (MarkOf 58) (λ u. OfKind before name)

any_kind : (before : List Member) (name : List ℕ) → ColonKind before name (member name (Pointer (codes "A"))) (mark 58 ∷ word (codes "A") ∷ mark 42 ∷ [])
any_kind before name = (tt, mark 58 ∷ [], word (codes "A") ∷ mark 42 ∷ [], refl, refl, (Pointer (codes "A"), refl, (refl, refl)))

member_spelled : (before : List Member) (m : Member) (ls : List Lexeme) → InTurn (Named (is_new_member before)) (ColonKind before) m ls → SpellsMember before m ls
member_spelled before m ls c =
    let d = c.5 in
    let back : c.2 ≡ mark 58 ∷ d.2 = d.3 ∙ ap (λ (l : List Lexeme). l ++ d.2) d.4 in
    let tokens : ls ≡ word c.0 ∷ mark 58 ∷ d.2 = c.3 ∙ ap (λ (l : List Lexeme). l ++ c.2) c.4.0 ∙ ap (λ (l : List Lexeme). word c.0 ∷ l) back in
    subst (λ (x : Member). SpellsMember before x ls) (sym d.5.1) (d.2, tokens, c.4.1, refl, d.5.2)

pub member_takes : (front : List Member) (m : Member) (own : List Lexeme) → SpellsMember front m own → 0 < length own
member_takes front m own c = let e = ap (λ (l : List Lexeme). length l) c.1 in omega (arith, e)

pub some_member : (front : List Member) → 0 + length front < 2 ^ 32 → (m : Member) × (own : List Lexeme) × SpellsMember front m own
some_member front few =
    let c = new_member front (omega (arith, few)) in
    (member c.0 (Pointer (codes "A")), word c.0 ∷ mark 58 ∷ word (codes "A") ∷ mark 42 ∷ [], (word (codes "A") ∷ mark 42 ∷ [], refl, c.1, refl, (refl, refl)))

new_base : (bases : List Base) → length bases < 2 ^ 32 → (name : List ℕ) × (is_new_base bases name ≡ true)
new_base bases few =
    let n = new_among (λ (b : Base). b.name) bases few in
    let named = n.1 in
    let free = n.2 in
    (n.0, rw (named, free) refl)

base_takes : (front : List Base) (b : Base) (own : List Lexeme) → SpellsBase front b own → 0 < length own
base_takes front b own c = let e = ap (λ (l : List Lexeme). length l) c.0 in omega (arith, e)

some_base : (front : List Base) → 0 + length front < 2 ^ 32 → (b : Base) × (own : List Lexeme) × SpellsBase front b own
some_base front few = let c = new_base front (omega (arith, few)) in (base c.0, word c.0 ∷ [], (refl, c.1, refl))

abbrev NoBases : List Base → List Lexeme → Type 0
NoBases bases ls = (bases ≡ []) × (ls ≡ mark 123 ∷ [])

module _ (strict : Bool) where
  -- ---- kinds

  module _ (before : List Member) where
    abbrev DimOf : Primitive → Kind → List Lexeme → Type 0
    DimOf of = WordOf (dimension_of before of)

    one_says : (of : Primitive) → dimension_of before of (codes "1") ≡ Some (Fixed of 1)
    unfolding dimension_of decimal written
    one_says of = refl

    dimension_tells : (of : Primitive) (n : ℕ) → Tells strict (dimension_at before of) (DimOf of) (DimOf of) n
    dimension_tells of n =
        tells_as strict (λ s. dimension_at before of s) (SaysOne (SaysWord (dimension_of before of))) (SaysOne (SaysWord (dimension_of before of))) (DimOf of) (DimOf of) n
        (one_tells strict (λ s. option_and_then (dimension_of before of) (next_word s)) (SaysWord (dimension_of before of)) (word_said strict (dimension_of before of)) n (λ few. (Fixed of 1, word (codes "1"), (codes "1", one_says of, refl))))
        (word_of strict (dimension_of before of)) (word_of strict (dimension_of before of)) (λ y ls c. c)

    abbrev ClosedKind : Kind → Kind → List Lexeme → Type 0
    ClosedKind kind k ls = (k ≡ kind) × (ls ≡ mark 93 ∷ [])

    closed_tells : (kind : Kind) (n : ℕ) → Tells strict (λ m. mark_at 93 m >>= with_place (λ u. kind)) (ClosedKind kind) (ClosedKind kind) n
    closed_tells kind n = handed_tells strict (mark_at 93) (λ u. kind) (MarkOf 93) (MarkOf 93) (ClosedKind kind) (ClosedKind kind) n (mark_tells strict 93 n) (λ u ls c. (refl, c)) (λ u ls c. (refl, c)) (λ y ls c. c)

    -- behind its opening bracket
    abbrev SizedKind : Primitive → Kind → List Lexeme → Type 0
    SizedKind of k ls = (w : List ℕ) × (dimension_of before of w ≡ Some k) × (ls ≡ word w ∷ mark 93 ∷ [])

    sized_tells : (of : Primitive) (n : ℕ) → Tells strict (sized_at before of) (SizedKind of) (SizedKind of) n
    unfolding sized_at
    sized_tells of n =
        tells_as strict (λ s. sized_at before of s) (InTurn (DimOf of) ClosedKind) (InTurn (DimOf of) ClosedKind) (SizedKind of) (SizedKind of) n
        (turn_tells strict (dimension_at before of) (λ kind m. mark_at 93 m >>= with_place (λ u. kind)) (DimOf of) (DimOf of) ClosedKind ClosedKind n (λ kind. n)
        (dimension_tells of n) (λ kind. closed_tells kind n) (λ x own c. omega arith) (λ kind few. (kind, mark 93 ∷ [], (refl, refl))))
        to to (λ y ls c. c)
      where
        to : (k : Kind) (ls : List Lexeme) → InTurn (DimOf of) ClosedKind k ls → SizedKind of k ls
        to k ls c =
            let w = c.4 in
            let says : dimension_of before of w.0 ≡ Some k = w.1 ∙ ap (λ (x : Kind). let o : Option Kind = Some x in o) (sym c.5.0) in
            (w.0, says, c.3 ∙ ap (λ (l : List Lexeme). l ++ c.2) w.2 ∙ ap (λ (l : List Lexeme). word w.0 ∷ l) c.5.1)

    -- behind its first word
    abbrev OfPrimitive : Primitive → Kind → List Lexeme → Type 0
    OfPrimitive of k ls = SpellsKind before k (word (primitive_text of) ∷ ls)

    primitive_tells : (of : Primitive) (n : ℕ) → Tells strict (primitive_at before of) (OfPrimitive of) (OfPrimitive of) n
    primitive_tells of n =
        tells_as strict (primitive_at before of) (EitherOf (Behind (mark 91) (SizedKind of)) (Nothing (Plain of))) (EitherOf (Behind (mark 91) (SizedKind of)) (Nothing (Plain of))) (OfPrimitive of) (OfPrimitive of) n
        (choice_tells strict (marked 91) (mark 91) (mark_test strict 91) (sized_at before of) (λ s. Ok (Plain of, s)) (SizedKind of) (SizedKind of) (Nothing (Plain of)) (Nothing (Plain of)) n (sized_tells of n) (nothing_tells strict (Plain of) n))
        to to (λ y ls c. c)
      where
        to : (k : Kind) (ls : List Lexeme) → EitherOf (Behind (mark 91) (SizedKind of)) (Nothing (Plain of)) k ls → OfPrimitive of k ls
        to k ls (inl c) =
            let d = c.2 in
            let tokens : ls ≡ mark 91 ∷ word d.0 ∷ mark 93 ∷ [] = c.1 ∙ ap (λ (l : List Lexeme). mark 91 ∷ l) d.2 in
            subst (λ (l : List Lexeme). SpellsKind before k (word (primitive_text of) ∷ l)) (sym tokens) (says_found before of d.0 k d.1).0
        to k ls (inr c) =
            subst (λ (x : Kind). SpellsKind before x (word (primitive_text of) ∷ ls)) (sym c.0) (ap (λ (l : List Lexeme). word (primitive_text of) ∷ l) c.1)

    abbrev KindOf : List ℕ → Kind → List Lexeme → Type 0
    KindOf w k ls = is_name_text w ≡ true → SpellsKind before k (word w ∷ ls)

    other_tells : (w : List ℕ) (n : ℕ) → primitive_of w ≡ None → (b : Bool) → bytes_eq w (codes "text") ≡ b → Tells strict (λ s. if b then Ok (Text, s) else Ok (Inline w, s)) (KindOf w) (KindOf w) n
    other_tells w n none true text =
        tells_as strict (λ s. Ok (Text, s)) (Nothing Text) (Nothing Text) (KindOf w) (KindOf w) n (nothing_tells strict Text n) to to (λ y ls c. c)
      where
        to : (k : Kind) (ls : List Lexeme) → Nothing Text k ls → KindOf w k ls
        to k ls c named =
            let same : w ≡ codes "text" = (bytes_eq-Decides w (codes "text")).0 text in
            subst (λ (x : Kind). SpellsKind before x (word w ∷ ls)) (sym c.0) (ap (λ (l : List Lexeme). word w ∷ l) c.1 ∙ ap (λ (v : List ℕ). word v ∷ []) same)
    other_tells w n none false text =
        tells_as strict (λ s. Ok (Inline w, s)) (Nothing (Inline w)) (Nothing (Inline w)) (KindOf w) (KindOf w) n (nothing_tells strict (Inline w) n) to to (λ y ls c. c)
      where
        to : (k : Kind) (ls : List Lexeme) → Nothing (Inline w) k ls → KindOf w k ls
        to k ls c named =
            let class : is_class_word w ≡ true = rw (named, none, text) refl in
            subst (λ (x : Kind). SpellsKind before x (word w ∷ ls)) (sym c.0) (class, ap (λ (l : List Lexeme). word w ∷ l) c.1)

    plain_tells : (w : List ℕ) (n : ℕ) (o : Option Primitive) → primitive_of w ≡ o → Tells strict (plain_at before w o) (KindOf w) (KindOf w) n
    plain_tells w n (Some of) is = tells_as strict (primitive_at before of) (OfPrimitive of) (OfPrimitive of) (KindOf w) (KindOf w) n (primitive_tells of n) to to (λ y ls c. c)
      where
        to : (k : Kind) (ls : List Lexeme) → OfPrimitive of k ls → KindOf w k ls
        to k ls c named = subst (λ (v : List ℕ). SpellsKind before k (word v ∷ ls)) (sym (primitive_is w of is)) c
    plain_tells w n None is = other_tells w n is (bytes_eq w (codes "text")) refl

    -- behind its first word
    behind_tells : (w : List ℕ) (n : ℕ) → Tells strict (λ m. if marked 42 m then Ok (Pointer w, behind m) else plain_at before w (primitive_of w) m) (KindOf w) (KindOf w) n
    behind_tells w n =
        tells_as strict (λ m. if marked 42 m then Ok (Pointer w, behind m) else plain_at before w (primitive_of w) m) (EitherOf (Behind (mark 42) (Nothing (Pointer w))) (KindOf w)) (EitherOf (Behind (mark 42) (Nothing (Pointer w))) (KindOf w)) (KindOf w) (KindOf w) n
        (choice_tells strict (marked 42) (mark 42) (mark_test strict 42) (λ s. Ok (Pointer w, s)) (plain_at before w (primitive_of w)) (Nothing (Pointer w)) (Nothing (Pointer w)) (KindOf w) (KindOf w) n (nothing_tells strict (Pointer w) n) (plain_tells w n (primitive_of w) refl))
        to to (λ y ls c. c)
      where
        to : (k : Kind) (ls : List Lexeme) → EitherOf (Behind (mark 42) (Nothing (Pointer w))) (KindOf w) k ls → KindOf w k ls
        to k ls (inl c) named =
            let tokens : ls ≡ mark 42 ∷ [] = c.1 ∙ ap (λ (l : List Lexeme). mark 42 ∷ l) c.2.1 in
            subst (λ (x : Kind). SpellsKind before x (word w ∷ ls)) (sym c.2.0) (named, ap (λ (l : List Lexeme). word w ∷ l) tokens)
        to k ls (inr c) named = c named

    kind_tells : (n : ℕ) → Tells strict (kind_at before) (SpellsKind before) (SpellsKind before) n
    unfolding kind_at
    kind_tells n =
        tells_as strict (λ s. kind_at before s) (InTurn (Named is_name_text) KindOf) (InTurn (Named is_name_text) KindOf) (SpellsKind before) (SpellsKind before) n
        (turn_tells strict name_at (λ w m. if marked 42 m then Ok (Pointer w, behind m) else plain_at before w (primitive_of w) m) (Named is_name_text) (Named is_name_text) KindOf KindOf n (λ w. n)
        (named_tells strict is_name_text n (λ few. (codes "A", refl))) (λ w. behind_tells w n) (λ x own c. omega arith) (λ w few. (Pointer w, mark 42 ∷ [], (λ named. (named, refl)))))
        to to (λ y ls c. c)
      where
        to : (k : Kind) (ls : List Lexeme) → InTurn (Named is_name_text) KindOf k ls → SpellsKind before k ls
        to k ls c = subst (SpellsKind before k) (sym (c.3 ∙ ap (λ (l : List Lexeme). l ++ c.2) c.4.0)) (c.5 c.4.1)

  -- ---- members

  colon_tells : (before : List Member) (name : List ℕ) (n : ℕ) → Tells strict (λ m. mark_at 58 m >>= λ passed. kind_at before passed.1 >>= with_place (member name)) (ColonKind before name) (ColonKind before name) n
  colon_tells before name n =
      turn_tells strict (mark_at 58) (λ u m. kind_at before m >>= with_place (member name)) (MarkOf 58) (MarkOf 58) (λ u. OfKind before name) (λ u. OfKind before name) n (λ u. n)
      (mark_tells strict 58 n)
      (λ u. handed_tells strict (kind_at before) (member name) (SpellsKind before) (SpellsKind before) (OfKind before name) (OfKind before name) n (kind_tells before n) (λ x ls c. (x, refl, c)) (λ x ls c. (x, refl, c)) (λ y ls c. c))
      (λ x own c. omega arith) (λ u few. (member name (Pointer (codes "A")), word (codes "A") ∷ mark 42 ∷ [], (Pointer (codes "A"), refl, (refl, refl))))

  member_tells : (before : List Member) (n : ℕ) → length before ≤ n → Tells strict (member_at before) (SpellsMember before) (SpellsMember before) n
  unfolding member_at
  member_tells before n le =
      tells_as strict (λ s. member_at before s) (InTurn (Named (is_new_member before)) (ColonKind before)) (InTurn (Named (is_new_member before)) (ColonKind before)) (SpellsMember before) (SpellsMember before) n
      (turn_tells strict (word_that_at (is_new_member before)) (λ name m. mark_at 58 m >>= λ passed. kind_at before passed.1 >>= with_place (member name)) (Named (is_new_member before)) (Named (is_new_member before)) (ColonKind before) (ColonKind before) n (λ name. n)
      (named_tells strict (is_new_member before) n (λ few. new_member before (omega (arith, le, few)))) (λ name. colon_tells before name n) (λ x own c. omega arith)
      (λ name few. (member name (Pointer (codes "A")), mark 58 ∷ word (codes "A") ∷ mark 42 ∷ [], any_kind before name)))
      (member_spelled before) (member_spelled before) (λ y ls c. c)

  pub one_member : (front : List Member) → Tells strict (member_at front) (SpellsMember front) (SpellsMember front) (0 + length front)
  one_member front = member_tells front (0 + length front) (omega arith)

  abbrev pub Members : List Member → List Lexeme → Type 0
  Members = ListOf strict 125 member_at SpellsMember SpellsMember 0 one_member member_takes some_member SpellsMember

  pub members_tells : Tells strict (list_at 125 member_at) Members Members 0
  members_tells = list_tells strict 125 member_at SpellsMember SpellsMember 0 one_member member_takes some_member

  -- ---- bases

  base_tells : (before : List Base) (n : ℕ) → length before ≤ n → Tells strict (base_at before) (SpellsBase before) (SpellsBase before) n
  unfolding base_at
  base_tells before n le =
      handed_tells strict (word_that_at (is_new_base before)) base (Named (is_new_base before)) (Named (is_new_base before)) (SpellsBase before) (SpellsBase before) n
      (named_tells strict (is_new_base before) n (λ few. new_base before (omega (arith, le, few)))) (λ x ls c. (c.0, c.1, refl)) (λ x ls c. (c.0, c.1, refl)) (λ y ls c. c)

  one_base : (front : List Base) → Tells strict (base_at front) (SpellsBase front) (SpellsBase front) (0 + length front)
  one_base front = base_tells front (0 + length front) (omega arith)

  abbrev SomeBases : List Base → List Lexeme → Type 0
  SomeBases = SomeOf strict 123 base_at SpellsBase SpellsBase 0 one_base base_takes some_base SpellsBase

  pub bases_tells : Tells strict bases_at SpellsBases SpellsBases 0
  unfolding bases_at
  bases_tells =
      tells_as strict (λ s. bases_at s) (EitherOf (Behind (mark 58) SomeBases) NoBases) (EitherOf (Behind (mark 58) SomeBases) NoBases) SpellsBases SpellsBases 0
      (choice_tells strict (marked 58) (mark 58) (mark_test strict 58) (some_at 123 base_at) (λ s. mark_at 123 s >>= with_place (λ u. [])) SomeBases SomeBases NoBases NoBases 0
      (some_tells strict 123 base_at SpellsBase SpellsBase 0 one_base base_takes some_base)
      (handed_tells strict (mark_at 123) (λ u. []) (MarkOf 123) (MarkOf 123) NoBases NoBases 0 (mark_tells strict 123 0) (λ u ls c. (refl, c)) (λ u ls c. (refl, c)) (λ y ls c. c)))
      to to (λ y ls c. c)
    where
      to : (bases : List Base) (ls : List Lexeme) → EitherOf (Behind (mark 58) SomeBases) NoBases bases ls → SpellsBases bases ls
      to bases ls (inl c) =
          let d = c.2 in
          let all = d.3 in
          subst (λ (bs : List Base). SpellsBases bs ls) (sym d.2) (all.0, c.1 ∙ ap (λ (l : List Lexeme). mark 58 ∷ l) all.1, all.2)
      to bases ls (inr c) = subst (λ (bs : List Base). SpellsBases bs ls) (sym c.0) c.1
