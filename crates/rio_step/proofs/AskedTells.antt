-- What may stand behind a name: what is read, and the first tokens that can't stand.
use Rattle.std.proofs.Common.{◌≡◌, inl, inr, ℕ, ℤ, pos, List, [], ◌∷◌, ◌++◌, codes, true, false, Option, Some, None, option_and_then, Ok, refl, sym, ◌∙◌, ap, subst, arith, Bool}
use Rattle.std.proofs.lemmas.Slice.Eq.{bytes_eq-Decides}
use Rattle.std.specs.{Option.{option_map_or}, Str.{bytes_eq}}
use Rattle.rio_num.specs.{At.{At}, Reading.{◌>>=◌}, Word.{is_name_text}}
use Rattle.rio_format.specs.declared.class.Base.{Base}
use Rattle.rio_token.specs.Reading.{mark_at, marked, name_at, next_word, num_at, num_between_at, some_if, version_at}
use Rattle.rio_token.specs.Words.{decimal, num_between_of, num_of, written}
use Rattle.rio_model.specs.Lexemes.{IsNext, Lexeme, mark, word}
use Rattle.rio_model.proofs.{LexemeLaws.{next_word_is, with_place}, ValueTold.{one_is_number}}
use Rattle.rio_step.specs.CommandSpelling.{IsVersion, SpellsAskedClass, SpellsAskedVersion, SpellsCycle, SpellsIfSome}
use Rattle.rio_step.specs.Script.{asked_class_at, asked_version_at, class_version_in, comes_next, cycle_at, in_version}
use Rattle.rio_step.proofs.{AlikeLaws.{Tells}, NamedTells.{Named, named_tells}}
use Rattle.rio_step.proofs.TellsLaws.{IsLexeme, IsTest, SaysOne, SaysWord, mark_test, next_again, one_tells, test_said, word_said}
use Rattle.rio_step.proofs.TurnLaws.{Behind, EitherOf, InTurn, Nothing, choice_tells, handed_tells, nothing_tells, tells_as, turn_tells}

abbrev pub MarkOf : ℕ → Unit {0} → List Lexeme → Type 0
MarkOf b u ls = ls ≡ mark b ∷ []

-- what a word says
abbrev pub WordOf : {A : Type 0} → (List ℕ → Option A) → A → List Lexeme → Type 0
WordOf f x ls = (w : List ℕ) × (f w ≡ Some x) × (ls ≡ word w ∷ [])

abbrev pub version_of : List ℕ → Option ℕ
version_of = num_between_of 1 32767

pub one_version : version_of (codes "1") ≡ Some 1
unfolding decimal written
one_version = refl

-- a mark or word, and what stands behind it, if it comes next
abbrev IfSome : {A : Type 0} → Lexeme → (A → List Lexeme → Type 0) → Option A → List Lexeme → Type 0
IfSome {A} k G o ls = EitherOf (Behind k (λ (p : Option A) (own : List Lexeme). (x : A) × (p ≡ Some x) × G x own)) (Nothing None) o ls

abbrev Versioned : ℤ → List Lexeme → Type 0
Versioned z ls = (digits : List ℕ) × IsVersion digits z × (ls ≡ word digits ∷ [])

-- a class and its version
abbrev ClassOf : Option Base → List Lexeme → Type 0
ClassOf o ls = (class : Base) × (o ≡ Some class) × (digits : List ℕ) × IsVersion digits class.version × (is_name_text class.name ≡ true) × (ls ≡ word class.name ∷ mark 35 ∷ word digits ∷ [])

abbrev NumberOf : List ℕ → Option Base → List Lexeme → Type 0
NumberOf name o ls = (v : ℕ) × (digits : List ℕ) × (o ≡ Some (in_version name v)) × (version_of digits ≡ Some v) × (ls ≡ word digits ∷ [])

abbrev SignOf : List ℕ → Option Base → List Lexeme → Type 0
SignOf name = InTurn (MarkOf 35) (λ u. NumberOf name)

module _ (strict : Bool) where
  -- ---- single tokens

  pub mark_tells : (b n : ℕ) → Tells strict (mark_at b) (MarkOf b) (MarkOf b) n
  unfolding mark_at
  mark_tells b n =
      tells_as strict (λ s. mark_at b s) (SaysOne (IsLexeme (mark b))) (SaysOne (IsLexeme (mark b))) (MarkOf b) (MarkOf b) n
      (one_tells strict (λ s. some_if (marked b s) tt) (IsLexeme (mark b)) (test_said strict (marked b) (mark b) (mark_test strict b)) n (λ few. (tt, mark b, refl)))
      to to (λ u ls c. c)
    where
      to : (u : Unit {0}) (ls : List Lexeme) → SaysOne (IsLexeme (mark b)) u ls → MarkOf b u ls
      to u ls c = c.1 ∙ ap (λ (l : Lexeme). l ∷ []) c.2

  pub word_of : {A : Type 0} (f : List ℕ → Option A) (y : A) (ls : List Lexeme) → SaysOne (SaysWord f) y ls → WordOf f y ls
  word_of f y ls c = (c.2.0, c.2.1, c.1 ∙ ap (λ (l : Lexeme). l ∷ []) c.2.2)

  pub num_tells : (n : ℕ) → Tells strict num_at (WordOf num_of) (WordOf num_of) n
  unfolding num_at
  num_tells n =
      tells_as strict (λ s. num_at s) (SaysOne (SaysWord num_of)) (SaysOne (SaysWord num_of)) (WordOf num_of) (WordOf num_of) n
      (one_tells strict (λ s. option_and_then num_of (next_word s)) (SaysWord num_of) (word_said strict num_of) n (λ few. (1, word (codes "1"), (codes "1", one_is_number, refl))))
      (word_of num_of) (word_of num_of) (λ y ls c. c)

  pub version_tells : (n : ℕ) → Tells strict version_at (WordOf version_of) (WordOf version_of) n
  unfolding num_between_at
  version_tells n =
      tells_as strict (λ s. version_at s) (SaysOne (SaysWord version_of)) (SaysOne (SaysWord version_of)) (WordOf version_of) (WordOf version_of) n
      (one_tells strict (λ s. option_and_then version_of (next_word s)) (SaysWord version_of) (word_said strict version_of) n (λ few. (1, word (codes "1"), (codes "1", one_version, refl))))
      (word_of version_of) (word_of version_of) (λ y ls c. c)

  -- this word comes next
  pub word_test : (keyword : List ℕ) → IsTest strict (comes_next keyword) (word keyword)
  word_test keyword = record {
    same = λ s t h. ap (λ (o : Option (List ℕ)). option_map_or (λ w. bytes_eq w keyword) o false) h.next.word;
    is = λ s h. by s (next_word s) refl h;
    back = λ s h. let next = next_again keyword s h in let same = (bytes_eq-Decides keyword keyword).1 refl in rw (next, same) refl;
  }
    where
      by : (s : At) (o : Option (List ℕ)) → next_word s ≡ o → option_map_or (λ w. bytes_eq w keyword) o false ≡ true → IsNext (word keyword) s
      by s None is e = absurd cc
      by s (Some w) is e = subst (λ (v : List ℕ). IsNext (word v) s) ((bytes_eq-Decides w keyword).0 e) (next_word_is s w is)

  -- ---- what may stand behind a name

  module _ {A : Type 0} (k : Lexeme) (G : A → List Lexeme → Type 0) (S : A → List Lexeme → Type 0) (to : (x : A) (ls : List Lexeme) → G x ls → S x (k ∷ ls)) where
    if_some : (o : Option A) (ls : List Lexeme) → IfSome k G o ls → SpellsIfSome S o ls
    if_some o ls (inl c) = subst (λ (p : Option A). SpellsIfSome S p ls) (sym c.2.1) (subst (S c.2.0) (sym c.1) (to c.2.0 c.0 c.2.2))
    if_some o ls (inr c) = subst (λ (p : Option A). SpellsIfSome S p ls) (sym c.0) c.1

  pub cycle_tells : (n : ℕ) → Tells strict cycle_at (SpellsIfSome SpellsCycle) (SpellsIfSome SpellsCycle) n
  unfolding cycle_at
  cycle_tells n =
      let W = WordOf num_of in
      let M = λ (p : Option ℕ) (own : List Lexeme). (x : ℕ) × (p ≡ Some x) × W x own in
      tells_as strict (λ s. cycle_at s) (IfSome (mark 59) W) (IfSome (mark 59) W) (SpellsIfSome SpellsCycle) (SpellsIfSome SpellsCycle) n
      (choice_tells strict (marked 59) (mark 59) (mark_test strict 59) (λ m. num_at m >>= with_place (λ x. Some x)) (λ s. Ok (None, s)) M M (Nothing None) (Nothing None) n
      (handed_tells strict num_at (λ x. Some x) W W M M n (num_tells n) (λ x ls c. (x, refl, c)) (λ x ls c. (x, refl, c)) (λ y ls c. c)) (nothing_tells strict None n))
      (if_some (mark 59) W SpellsCycle to) (if_some (mark 59) W SpellsCycle to) (λ y ls c. c)
    where
      to : (x : ℕ) (ls : List Lexeme) → WordOf num_of x ls → SpellsCycle x (mark 59 ∷ ls)
      to x ls c = (c.0, c.1, ap (λ (o : List Lexeme). mark 59 ∷ o) c.2)

  pub asked_version_tells : (n : ℕ) → Tells strict asked_version_at (SpellsIfSome SpellsAskedVersion) (SpellsIfSome SpellsAskedVersion) n
  unfolding asked_version_at
  asked_version_tells n =
      let W = WordOf version_of in
      let M = λ (p : Option ℤ) (own : List Lexeme). (x : ℤ) × (p ≡ Some x) × Versioned x own in
      let k = word (codes "as") in
      tells_as strict (λ s. asked_version_at s) (IfSome k Versioned) (IfSome k Versioned) (SpellsIfSome SpellsAskedVersion) (SpellsIfSome SpellsAskedVersion) n
      (choice_tells strict (comes_next (codes "as")) k (word_test (codes "as")) (λ m. version_at m >>= with_place (λ v. Some (pos v))) (λ s. Ok (None, s)) M M (Nothing None) (Nothing None) n
      (handed_tells strict version_at (λ v. Some (pos v)) W W M M n (version_tells n) (λ x ls c. (pos x, refl, (c.0, (x, refl, c.1), c.2))) (λ x ls c. (pos x, refl, (c.0, (x, refl, c.1), c.2))) (λ y ls c. c)) (nothing_tells strict None n))
      (if_some k Versioned SpellsAskedVersion to) (if_some k Versioned SpellsAskedVersion to) (λ y ls c. c)
    where
      to : (x : ℤ) (ls : List Lexeme) → Versioned x ls → SpellsAskedVersion x (word (codes "as") ∷ ls)
      to x ls c = (c.0, c.1, ap (λ (o : List Lexeme). word (codes "as") ∷ o) c.2)

  number_tells : (name : List ℕ) (n : ℕ) → Tells strict (λ m. version_at m >>= with_place (λ v. Some (in_version name v))) (NumberOf name) (NumberOf name) n
  number_tells name n =
      handed_tells strict version_at (λ v. Some (in_version name v)) (WordOf version_of) (WordOf version_of) (NumberOf name) (NumberOf name) n (version_tells n)
      (λ x ls c. (x, c.0, refl, c.1, c.2)) (λ x ls c. (x, c.0, refl, c.1, c.2)) (λ y ls c. c)

  sign_tells : (name : List ℕ) (n : ℕ) → Tells strict (λ m. mark_at 35 m >>= λ passed. version_at passed.1 >>= with_place (λ v. Some (in_version name v))) (SignOf name) (SignOf name) n
  sign_tells name n =
      turn_tells strict (mark_at 35) (λ u m. version_at m >>= with_place (λ v. Some (in_version name v))) (MarkOf 35) (MarkOf 35) (λ u. NumberOf name) (λ u. NumberOf name) n (λ u. n)
      (mark_tells 35 n) (λ u. number_tells name n) (λ x own c. omega arith) (λ u few. (Some (in_version name 1), word (codes "1") ∷ [], (1, codes "1", refl, one_version, refl)))

  class_of_tells : (n : ℕ) → Tells strict class_version_in ClassOf ClassOf n
  class_of_tells n =
      tells_as strict class_version_in (InTurn (Named is_name_text) SignOf) (InTurn (Named is_name_text) SignOf) ClassOf ClassOf n
      (turn_tells strict name_at (λ name m. mark_at 35 m >>= λ passed. version_at passed.1 >>= with_place (λ v. Some (in_version name v))) (Named is_name_text) (Named is_name_text) SignOf SignOf n (λ name. n)
      (named_tells strict is_name_text n (λ few. (codes "A", refl))) (λ name. sign_tells name n) (λ x own c. omega arith)
      (λ name few. (Some (in_version name 1), mark 35 ∷ word (codes "1") ∷ [], (tt, mark 35 ∷ [], word (codes "1") ∷ [], refl, refl, (1, codes "1", refl, one_version, refl)))))
      to to (λ y ls c. c)
    where
      to : (o : Option Base) (ls : List Lexeme) → InTurn (Named is_name_text) SignOf o ls → ClassOf o ls
      to o ls c =
          let q = c.5 in
          let v = q.5 in
          let back : c.2 ≡ mark 35 ∷ word v.1 ∷ [] = q.3 ∙ ap (λ (k : List Lexeme). k ++ q.2) q.4 ∙ ap (λ (k : List Lexeme). mark 35 ∷ k) v.4 in
          let tokens : ls ≡ word c.0 ∷ mark 35 ∷ word v.1 ∷ [] = c.3 ∙ ap (λ (k : List Lexeme). k ++ c.2) c.4.0 ∙ ap (λ (k : List Lexeme). word c.0 ∷ k) back in
          (in_version c.0 v.0, v.2, v.1, (v.0, refl, v.3), c.4.1, tokens)

  pub asked_class_tells : (n : ℕ) → Tells strict asked_class_at (SpellsIfSome SpellsAskedClass) (SpellsIfSome SpellsAskedClass) n
  unfolding asked_class_at
  asked_class_tells n =
      let k = word (codes "as") in
      tells_as strict (λ s. asked_class_at s) (EitherOf (Behind k ClassOf) (Nothing None)) (EitherOf (Behind k ClassOf) (Nothing None)) (SpellsIfSome SpellsAskedClass) (SpellsIfSome SpellsAskedClass) n
      (choice_tells strict (comes_next (codes "as")) k (word_test (codes "as")) class_version_in (λ s. Ok (None, s)) ClassOf ClassOf (Nothing None) (Nothing None) n (class_of_tells n) (nothing_tells strict None n))
      to to (λ y ls c. c)
    where
      to : (o : Option Base) (ls : List Lexeme) → EitherOf (Behind (word (codes "as")) ClassOf) (Nothing None) o ls → SpellsIfSome SpellsAskedClass o ls
      to o ls (inl c) =
          let q = c.2 in
          subst (λ (p : Option Base). SpellsIfSome SpellsAskedClass p ls) (sym q.1) (q.2, q.3, q.4, c.1 ∙ ap (λ (l : List Lexeme). word (codes "as") ∷ l) q.5)
      to o ls (inr c) = subst (λ (p : Option Base). SpellsIfSome SpellsAskedClass p ls) (sym c.0) c.1
