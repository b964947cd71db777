-- The puts of a batch: what is read, and the first tokens that can't stand.
use Rattle.std.proofs.Common.{◌≡◌, ℕ, suc, ◌+◌, ◌-◌, ◌<◌, ◌^◌, List, [], ◌∷◌, ◌++◌, length, codes, Bool, refl, sym, ◌∙◌, ap, subst, arith}
use Rattle.rio_num.specs.{Reading.{◌>>=◌}, Word.{is_item_text}}
use Rattle.rio_format.specs.declared.value.Value.{Value, Null}
use Rattle.rio_token.specs.Reading.{item_at, mark_at, some_at}
use Rattle.rio_model.specs.{Lexemes.{Lexeme, SpellsFurther, mark, word}, ValueGrammar.{bracket_limit, enclosed_at, value_in_text}, ValueSpelling.{SpellsValue}}
use Rattle.rio_model.proofs.LexemeLaws.{with_place}
use Rattle.rio_machine.specs.declared.command.{Command.{Command, TheVariants.{Batch}}, PutItem.{PutItem}}
use Rattle.rio_step.specs.{CommandSpelling.{SpellsPut, SpellsPuts}, Script.{batch_command_at, batch_put_at}}
use Rattle.rio_step.proofs.{AlikeLaws.{Tells}, AskedTells.{MarkOf, mark_tells}, ListTells.{SomeOf, some_tells}, NamedTells.{Named, named_tells}}
use Rattle.rio_step.proofs.{TurnLaws.{InTurn, handed_tells, tells_as, turn_tells}, ValueTells.{null_spelled, value_tells, value_up}}

-- brackets within those of a batch
abbrev inner : ℕ
inner = bracket_limit - 1

abbrev put_of : List ℕ → Value → PutItem
put_of name v = record { name = name; value = v }

-- ---- one bracket more may be open

put_up : (levels : ℕ) (p : PutItem) (ls : List Lexeme) → SpellsPut levels p ls → SpellsPut (suc levels) p ls
put_up levels p ls c = (c.0, c.1, c.2, value_up levels p.value c.0 c.3)

further_up : (levels : ℕ) (ps front : List PutItem) (ls : List Lexeme) → SpellsFurther (λ before. SpellsPut levels) front ps ls → SpellsFurther (λ before. SpellsPut (suc levels)) front ps ls
further_up levels [] front ls c = c
further_up levels (p ∷ ps) front ls c = (c.0, c.1, c.2, put_up levels p c.0 c.3, further_up levels ps (front ++ p ∷ []) c.1 c.4)

pub puts_up : (levels : ℕ) (puts : List PutItem) (ls : List Lexeme) → SpellsPuts levels puts ls → SpellsPuts (suc levels) puts ls
puts_up levels [] ls c = c
puts_up levels (p ∷ ps) ls c =
    let items = c.2 in
    (c.0, c.1, (items.0, items.1, items.2, put_up levels p items.0 items.3, further_up levels ps (p ∷ []) items.1 items.4))

-- ---- something that is spelled

abbrev any_put : PutItem
any_put = put_of (codes "A") Null

abbrev any_tokens : List Lexeme
any_tokens = word (codes "A") ∷ word (codes "null") ∷ []

any_spelled : (levels : ℕ) → SpellsPut levels any_put any_tokens
any_spelled levels = (word (codes "null") ∷ [], refl, refl, null_spelled levels)

pub put_takes : (front : List PutItem) (p : PutItem) (own : List Lexeme) → SpellsPut inner p own → 0 < length own
put_takes front p own c = let e = ap (λ (l : List Lexeme). length l) c.1 in omega (arith, e)

pub some_put : (front : List PutItem) → 0 + length front < 2 ^ 32 → (p : PutItem) × (own : List Lexeme) × SpellsPut (suc inner) p own
some_put front few = (any_put, any_tokens, any_spelled (suc inner))

-- ---- a put

abbrev Valued : ℕ → List ℕ → PutItem → List Lexeme → Type 0
Valued levels name p ls = (v : Value) × (p ≡ put_of name v) × SpellsValue levels v ls

put_spelled : (levels : ℕ) (p : PutItem) (ls : List Lexeme) → InTurn (Named is_item_text) (Valued levels) p ls → SpellsPut levels p ls
put_spelled levels p ls c =
    let d = c.5 in
    subst (λ (q : PutItem). SpellsPut levels q ls) (sym d.1) (c.2, c.3 ∙ ap (λ (l : List Lexeme). l ++ c.2) c.4.0, c.4.1, d.2)

module _ (strict : Bool) where
  valued_tells : (name : List ℕ) (n : ℕ) → Tells strict (λ m. value_in_text (enclosed_at inner) m >>= with_place (put_of name)) (Valued inner name) (Valued (suc inner) name) n
  valued_tells name n =
      handed_tells strict (value_in_text (enclosed_at inner)) (put_of name) (SpellsValue inner) (SpellsValue (suc inner)) (Valued inner name) (Valued (suc inner) name) n (value_tells strict inner n)
      (λ x ls c. (x, refl, c)) (λ x ls c. (x, refl, c)) (λ y ls c. (c.0, c.1, value_up inner c.0 ls c.2))

  put_tells : (n : ℕ) → Tells strict batch_put_at (SpellsPut inner) (SpellsPut (suc inner)) n
  unfolding batch_put_at
  put_tells n =
      tells_as strict (λ s. batch_put_at s) (InTurn (Named is_item_text) (Valued inner)) (InTurn (Named is_item_text) (Valued (suc inner))) (SpellsPut inner) (SpellsPut (suc inner)) n
      (turn_tells strict item_at (λ name m. value_in_text (enclosed_at inner) m >>= with_place (put_of name)) (Named is_item_text) (Named is_item_text) (Valued inner) (Valued (suc inner)) n (λ name. n)
      (named_tells strict is_item_text n (λ few. (codes "A", refl))) (λ name. valued_tells name n) (λ x own c. omega arith)
      (λ name few. (put_of name Null, word (codes "null") ∷ [], (Null, refl, null_spelled (suc inner)))))
      (put_spelled inner) (put_spelled (suc inner)) (put_up inner)

  pub one_put : (front : List PutItem) → Tells strict batch_put_at (SpellsPut inner) (SpellsPut (suc inner)) (0 + length front)
  one_put front = put_tells (0 + length front)

  -- ---- the puts and their braces

  abbrev SomePuts : ℕ → List PutItem → List Lexeme → Type 0
  SomePuts levels =
      SomeOf strict 125 (λ before. batch_put_at) (λ before. SpellsPut inner) (λ before. SpellsPut (suc inner)) 0 one_put put_takes some_put (λ before. SpellsPut levels)

  puts_tells : Tells strict (some_at 125 (λ before. batch_put_at)) (SomePuts inner) (SomePuts (suc inner)) 0
  puts_tells = some_tells strict 125 (λ before. batch_put_at) (λ before. SpellsPut inner) (λ before. SpellsPut (suc inner)) 0 one_put put_takes some_put

  abbrev OfPuts : ℕ → Command → List Lexeme → Type 0
  OfPuts levels c ls = (puts : List PutItem) × (c ≡ Batch puts) × SomePuts levels puts ls

  abbrev pub OfBatch : ℕ → Command → List Lexeme → Type 0
  OfBatch levels = InTurn (MarkOf 123) (λ u. OfPuts levels)

  -- what stands behind the verb of a batch
  pub batched : (levels : ℕ) (c : Command) (ls : List Lexeme) → OfBatch levels c ls → (puts : List PutItem) × (c ≡ Batch puts) × SpellsPuts levels puts ls
  batched levels c ls d =
      let own = d.5 in
      let some = own.2 in
      let all = some.3 in
      let tokens = d.3 ∙ ap (λ (l : List Lexeme). l ++ d.2) d.4 ∙ ap (λ (l : List Lexeme). mark 123 ∷ l) all.1 in
      (own.0, own.1, subst (λ (ps : List PutItem). SpellsPuts levels ps ls) (sym some.2) (all.0, tokens, all.2))

  pub braces_tells : Tells strict batch_command_at (OfBatch inner) (OfBatch (suc inner)) 0
  unfolding batch_command_at
  braces_tells =
      turn_tells strict (mark_at 123) (λ u m. some_at 125 (λ before. batch_put_at) m >>= with_place (λ puts. Batch puts)) (MarkOf 123) (MarkOf 123) (λ u. OfPuts inner) (λ u. OfPuts (suc inner)) 0 (λ u. 0)
      (mark_tells strict 123 0)
      (λ u. handed_tells strict (some_at 125 (λ before. batch_put_at)) (λ puts. Batch puts) (SomePuts inner) (SomePuts (suc inner)) (OfPuts inner) (OfPuts (suc inner)) 0 puts_tells
      (λ x ls c. (x, refl, c)) (λ x ls c. (x, refl, c)) (λ y ls c. (c.0, c.1, puts_tells.up c.0 ls c.2)))
      (λ x own c. omega arith)
      (λ u few. (Batch (any_put ∷ []), any_tokens ++ mark 125 ∷ [], (any_put ∷ [], refl, (any_put, [], refl, (any_tokens, refl, (any_tokens, [], refl, any_spelled (suc inner), refl))))))
