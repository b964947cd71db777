-- Declarations: what is read, and the first tokens that can't stand.
use Rattle.std.proofs.{Common.{◌≡◌, ℕ, List, [], ◌∷◌, ◌++◌, codes, Bool, false, Ok, Err, refl, sym, ◌∙◌, ap, subst, arith}, lemmas.Slice.Eq.{bytes_eq-Decides}}
use Rattle.std.specs.Str.{bytes_eq}
use Rattle.rio_num.specs.{At.{At}, Reading.{◌>>=◌}, Word.{is_name_text}}
use Rattle.rio_format.specs.{declared.class.Base.{Base}, declared.class.ClassDef.{ClassDef}, declared.class.Member.{Member}}
use Rattle.rio_token.specs.{declared.fault.TextFault.{TextFault}, Reading.{Read, end_at, keyword_at, list_at, name_at, version_at}}
use Rattle.rio_model.specs.{ClassGrammar.{bases_at, class_at, class_of, member_at}, ClassSpelling.{SpellsBases, SpellsDeclaration}}
use Rattle.rio_model.specs.Lexemes.{Lexeme, mark, word}
use Rattle.rio_model.proofs.LexemeLaws.{with_place}
use Rattle.rio_machine.specs.declared.command.Command.{Command, TheVariants.{Class}}
use Rattle.rio_step.specs.{CommandLaws.{DeclarationPlacesAreTold}, CommandSpelling.{SpellsCommand}, Script.{class_command_at}}
use Rattle.rio_step.proofs.{AlikeLaws.{Tells}, AskedTells.{WordOf, one_version, version_of, version_tells}, NamedTells.{Named, named_tells}}
use Rattle.rio_step.proofs.{KindTells.{Members, bases_tells, members_tells}, LineTells.{TellsLine, line_equal, line_tells}}
use Rattle.rio_step.proofs.TurnLaws.{InTurn, handed_tells, tells_as, turn_tells}

abbrev made : List ℕ → ℕ → List Base → List Member → Command
made name version bases members = Class (class_of name version bases members)

-- a command for the class that these tokens declare
abbrev pub Declares : Command → List Lexeme → Type 0
Declares c ls = (class : ClassDef) × (c ≡ Class class) × SpellsDeclaration class ls

abbrev is_keyword : List ℕ → Bool
is_keyword w = bytes_eq w (codes "class")

abbrev to_class : ClassDef × At → Read Command
to_class x = Ok (Class x.0, x.1)

abbrev to_end : Command × At → Read Command
to_end c = end_at c.1 >>= λ done. Ok (c.0, done.1)

-- one reader in front of two that read alike
step : {A : Type 0} (r : Read A) (f : A × At → Read ClassDef) (g : A × At → Read Command) → ((x : A × At) → (f x >>= to_class) ≡ (g x >>= to_end)) → ((r >>= f) >>= to_class) ≡ ((r >>= g) >>= to_end)
step (Ok x) f g h = h x
step (Err e) f g h = refl

at_end : (class : ClassDef) (r : Read (Unit {0})) → ((r >>= λ done. Ok (class, done.1)) >>= to_class) ≡ (r >>= λ done. Ok (Class class, done.1))
at_end class (Ok x) = refl
at_end class (Err e) = refl

module _ (strict : Bool) where
  -- ---- a declaration up to its closing brace, from the last part on

  abbrev OfMembers : List ℕ → ℕ → List Base → Command → List Lexeme → Type 0
  OfMembers name version bases c ls = (members : List Member) × (c ≡ made name version bases members) × Members strict members ls

  abbrev members_for : List ℕ → ℕ → List Base → At → Read Command
  members_for name version bases m = list_at 125 member_at m >>= with_place (made name version bases)

  members_for_tells : (name : List ℕ) (version : ℕ) (bases : List Base) → Tells strict (members_for name version bases) (OfMembers name version bases) (OfMembers name version bases) 0
  members_for_tells name version bases =
      handed_tells strict (list_at 125 member_at) (made name version bases) (Members strict) (Members strict) (OfMembers name version bases) (OfMembers name version bases) 0 (members_tells strict) (λ x ls c. (x, refl, c)) (λ x ls c. (x, refl, c)) (λ y ls c. c)

  abbrev OfBases : List ℕ → ℕ → Command → List Lexeme → Type 0
  OfBases name version = InTurn SpellsBases (OfMembers name version)

  abbrev bases_for : List ℕ → ℕ → At → Read Command
  bases_for name version m = bases_at m >>= λ bases. members_for name version bases.0 bases.1

  bases_for_tells : (name : List ℕ) (version : ℕ) → Tells strict (bases_for name version) (OfBases name version) (OfBases name version) 0
  bases_for_tells name version =
      turn_tells strict bases_at (λ bases m. members_for name version bases m) SpellsBases SpellsBases (OfMembers name version) (OfMembers name version) 0 (λ bases. 0) (bases_tells strict) (λ bases. members_for_tells name version bases) (λ x own c. omega arith)
      (λ bases few. (made name version bases [], mark 125 ∷ [], ([], refl, ([], refl, refl))))

  abbrev OfVersion : List ℕ → Command → List Lexeme → Type 0
  OfVersion name = InTurn (WordOf version_of) (OfBases name)

  abbrev version_for : List ℕ → At → Read Command
  version_for name m = version_at m >>= λ version. bases_for name version.0 version.1

  no_bases : (name : List ℕ) (version : ℕ) → OfBases name version (made name version [] []) (mark 123 ∷ mark 125 ∷ [])
  no_bases name version = ([], mark 123 ∷ [], mark 125 ∷ [], refl, refl, ([], refl, ([], refl, refl)))

  version_for_tells : (name : List ℕ) → Tells strict (version_for name) (OfVersion name) (OfVersion name) 0
  version_for_tells name =
      turn_tells strict version_at (λ version m. bases_for name version m) (WordOf version_of) (WordOf version_of) (OfBases name) (OfBases name) 0 (λ version. 0) (version_tells strict 0) (λ version. bases_for_tells name version) (λ x own c. omega arith)
      (λ version few. (made name version [] [], mark 123 ∷ mark 125 ∷ [], no_bases name version))

  abbrev OfName : Command → List Lexeme → Type 0
  OfName = InTurn (Named is_name_text) OfVersion

  abbrev name_for : At → Read Command
  name_for m = name_at m >>= λ name. version_for name.0 name.1

  first_version : (name : List ℕ) → OfVersion name (made name 1 [] []) (word (codes "1") ∷ mark 123 ∷ mark 125 ∷ [])
  first_version name = (1, word (codes "1") ∷ [], mark 123 ∷ mark 125 ∷ [], refl, (codes "1", one_version, refl), no_bases name 1)

  name_for_tells : Tells strict name_for OfName OfName 0
  name_for_tells =
      turn_tells strict name_at (λ name m. version_for name m) (Named is_name_text) (Named is_name_text) OfVersion OfVersion 0 (λ name. 0) (named_tells strict is_name_text 0 (λ few. (codes "A", refl))) version_for_tells (λ x own c. omega arith)
      (λ name few. (made name 1 [] [], word (codes "1") ∷ mark 123 ∷ mark 125 ∷ [], first_version name))

  abbrev OfKeyword : Command → List Lexeme → Type 0
  OfKeyword = InTurn (Named is_keyword) (λ w. OfName)

  declared_at : At → Read Command
  declared_at s = keyword_at (codes "class") s >>= λ keyword. name_for keyword.1

  -- ---- the declaration that is spelled

  declared : (c : Command) (ls : List Lexeme) → OfKeyword c ls → Declares c ls
  declared c ls d =
      let n = d.5 in
      let v = n.5 in
      let b = v.5 in
      let m = b.5 in
      let l = m.2 in
      let same : d.0 ≡ codes "class" = (bytes_eq-Decides d.0 (codes "class")).0 d.4.1 in
      let first : ls ≡ word (codes "class") ∷ d.2 = d.3 ∙ ap (λ (o : List Lexeme). o ++ d.2) (d.4.0 ∙ ap (λ (w : List ℕ). word w ∷ []) same) in
      let second : d.2 ≡ word n.0 ∷ n.2 = n.3 ∙ ap (λ (o : List Lexeme). o ++ n.2) n.4.0 in
      let third : n.2 ≡ word v.4.0 ∷ v.2 = v.3 ∙ ap (λ (o : List Lexeme). o ++ v.2) v.4.2 in
      let fourth : v.2 ≡ b.1 ++ (l.0 ++ mark 125 ∷ []) = b.3 ∙ ap (λ (o : List Lexeme). b.1 ++ o) l.1 in
      let tokens : ls ≡ word (codes "class") ∷ word n.0 ∷ word v.4.0 ∷ (b.1 ++ (l.0 ++ mark 125 ∷ [])) =
      first ∙ ap (λ (o : List Lexeme). word (codes "class") ∷ o) (second ∙ ap (λ (o : List Lexeme). word n.0 ∷ o) (third ∙ ap (λ (o : List Lexeme). word v.4.0 ∷ o) fourth)) in
      let whole : SpellsDeclaration (class_of n.0 v.0 b.0 m.0) ls =
      record {
        version = v.0;
        digits = v.4.0;
        members = m.0;
        front = b.1;
        inside = l.0;
        tokens = tokens;
        named = n.4.1;
        numbered = v.4.1;
        based = b.4;
        listed = l.2;
        whole = refl;
      } in
      (class_of n.0 v.0 b.0 m.0, m.1, whole)

  declared_tells : Tells strict declared_at Declares Declares 0
  unfolding declared_at
  declared_tells =
      tells_as strict (λ s. declared_at s) OfKeyword OfKeyword Declares Declares 0
      (turn_tells strict (keyword_at (codes "class")) (λ w m. name_for m) (Named is_keyword) (Named is_keyword) (λ w. OfName) (λ w. OfName) 0 (λ w. 0)
      (named_tells strict is_keyword 0 (λ few. (codes "class", refl))) (λ w. name_for_tells) (λ x own c. omega arith)
      (λ w few. (
        made (codes "A") 1 [] [],
        word (codes "A") ∷ word (codes "1") ∷ mark 123 ∷ mark 125 ∷ [],
        (codes "A", word (codes "A") ∷ [], word (codes "1") ∷ mark 123 ∷ mark 125 ∷ [], refl, (refl, refl), first_version (codes "A")),
      )))
      declared declared (λ c ls d. d)

  -- ---- the end of the line

  reads_alike : (s : At) → class_command_at s ≡ (declared_at s >>= to_end)
  unfolding class_at declared_at
  reads_alike s =
      step (keyword_at (codes "class") s) (λ keyword. name_at keyword.1 >>= λ name. version_at name.1 >>= λ version. bases_at version.1 >>= λ bases. list_at 125 member_at bases.1 >>= λ members. end_at members.1 >>= λ done. Ok (class_of name.0 version.0 bases.0 members.0, done.1)) (λ keyword. name_for keyword.1) (λ keyword.
      step (name_at keyword.1) (λ name. version_at name.1 >>= λ version. bases_at version.1 >>= λ bases. list_at 125 member_at bases.1 >>= λ members. end_at members.1 >>= λ done. Ok (class_of name.0 version.0 bases.0 members.0, done.1)) (λ name. version_for name.0 name.1) (λ name.
      step (version_at name.1) (λ version. bases_at version.1 >>= λ bases. list_at 125 member_at bases.1 >>= λ members. end_at members.1 >>= λ done. Ok (class_of name.0 version.0 bases.0 members.0, done.1)) (λ version. bases_for name.0 version.0 version.1) (λ version.
      step (bases_at version.1) (λ bases. list_at 125 member_at bases.1 >>= λ members. end_at members.1 >>= λ done. Ok (class_of name.0 version.0 bases.0 members.0, done.1)) (λ bases. members_for name.0 version.0 bases.0 bases.1) (λ bases.
      step (list_at 125 member_at bases.1) (λ members. end_at members.1 >>= λ done. Ok (class_of name.0 version.0 bases.0 members.0, done.1)) (with_place (made name.0 version.0 bases.0)) (λ members.
      at_end (class_of name.0 version.0 bases.0 members.0) (end_at members.1))))))

  declares_line : TellsLine strict class_command_at Declares Declares
  declares_line =
      line_equal strict (λ s. declared_at s >>= to_end) class_command_at Declares Declares reads_alike
      (line_tells strict declared_at Declares Declares declared_tells)

  as_command : (levels : ℕ) (c : Command) (ls : List Lexeme) → Declares c ls → SpellsCommand levels c ls
  as_command levels c ls d = subst (λ (e : Command). SpellsCommand levels e ls) (sym d.1) d.2

  pub class_line : (levels above : ℕ) → ((c : Command) (ls : List Lexeme) → SpellsCommand levels c ls → SpellsCommand above c ls) → TellsLine strict class_command_at (SpellsCommand levels) (SpellsCommand above)
  class_line levels above up =
      line_equal strict (λ s. declared_at s >>= to_end) class_command_at (SpellsCommand levels) (SpellsCommand above) reads_alike
      (line_tells strict declared_at (SpellsCommand levels) (SpellsCommand above)
      (tells_as strict (λ s. declared_at s) Declares Declares (SpellsCommand levels) (SpellsCommand above) 0 declared_tells (as_command levels) (as_command above) up))

-- ---- declarations by themselves

fails_so : (r : Read ClassDef) (e : TextFault) → r ≡ Err e → (r >>= to_class) ≡ Err e
fails_so r e h = rw h refl

failed_so : (r : Read ClassDef) (e : TextFault) → (r >>= to_class) ≡ Err e → r ≡ Err e
failed_so (Ok x) e h = absurd cc
failed_so (Err f) e h = cc

pub declaration_places_are_told : DeclarationPlacesAreTold
declaration_places_are_told old fault h =
    let t = (declares_line false).told old fault (fails_so (class_at old) fault h) in
    record {
      before = t.before;
      here = t.here;
      cut = t.cut;
      stands = t.stands;
      unended = t.unended;
      told = t.told;
      always = λ s u st. failed_so (class_at s) _ (t.always s u st);
      begins = λ last is few. let b = t.begins last is (omega (arith, few)) in (b.0, b.2.0, b.2.2);
    }
