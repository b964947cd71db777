-- What is spelled with some brackets is spelled where more may be open.
use Rattle.std.proofs.Common.{ℕ, zero, suc, List, [], ◌∷◌, ◌++◌}
use Rattle.rio_format.specs.{declared.value.Part.{Part}, declared.value.Value.{Value, out-Value, TheOpen.{Value-F}}}
use Rattle.rio_format.specs.declared.value.Value.TheOpen as layer
use Rattle.rio_model.specs.Lexemes.{Lexeme, SpellsItems, SpellsFurther}
use Rattle.rio_model.specs.ValueSpelling.{Spelling, SpellsAsObject, SpellsBrackets, SpellsLayer, SpellsNamed, SpellsWithin}

module _ {A : Type 0} (S T : List A → A → List Lexeme → Type 0) (up : (front : List A) (x : A) (ls : List Lexeme) → S front x ls → T front x ls) where
  more_up : (xs front : List A) (ls : List Lexeme) → SpellsFurther S front xs ls → SpellsFurther T front xs ls
  more_up [] front ls c = c
  more_up (x ∷ xs) front ls c = (c.0, c.1, c.2, up front x c.0 c.3, more_up xs (front ++ x ∷ []) c.1 c.4)

  items_up : (xs : List A) (ls : List Lexeme) → SpellsItems S xs ls → SpellsItems T xs ls
  items_up [] ls c = c
  items_up (x ∷ xs) ls c = (c.0, c.1, c.2, up [] x c.0 c.3, more_up xs (x ∷ []) c.1 c.4)

module _ (R S : Spelling) (up : (y : Value-F Value Part) (ls : List Lexeme) → R y ls → S y ls) where
  pub object_up : (y : Value-F Value Part) (ls : List Lexeme) → SpellsAsObject R y ls → SpellsAsObject S y ls
  object_up (layer.Object class z parts) ls c = (c.0, c.1, c.2, c.3, c.4, up (layer.Object class z parts) c.1 c.5)
  object_up other ls c = absurd c

  pub layer_up : (y : Value-F Value Part) (ls : List Lexeme) → SpellsLayer R y ls → SpellsLayer S y ls
  layer_up (layer.List items) ls c = up (layer.List items) ls c
  layer_up (layer.Object class z parts) ls c = object_up (layer.Object class z parts) ls c
  layer_up (layer.Pointed label object) ls c = (c.0, c.1, c.2, c.3, object_up (out-Value object) c.1 c.4)
  layer_up other ls c = c

  pub named_up : (name : List ℕ) (v : Value) (ls : List Lexeme) → SpellsNamed R name v ls → SpellsNamed S name v ls
  named_up [] v ls c = object_up (out-Value v) ls c
  named_up (b ∷ bs) v ls c = (c.0, c.1, c.2, layer_up (out-Value v) c.0 c.3)

  brackets_up : (y : Value-F Value Part) (ls : List Lexeme) → SpellsBrackets R y ls → SpellsBrackets S y ls
  brackets_up (layer.List items) ls c = (c.0, c.1, items_up (λ front v. SpellsLayer R (out-Value v)) (λ front v. SpellsLayer S (out-Value v)) (λ front v. layer_up (out-Value v)) items c.0 c.2)
  brackets_up (layer.Object class z parts) ls c = (c.0, c.1, items_up (λ front p. SpellsNamed R p.name p.value) (λ front p. SpellsNamed S p.name p.value) (λ front p. named_up p.name p.value) parts c.0 c.2)
  brackets_up other ls c = c

pub within_up : (levels : ℕ) (y : Value-F Value Part) (ls : List Lexeme) → SpellsWithin levels y ls → SpellsWithin (suc levels) y ls
within_up zero y ls c = absurd c
within_up (suc levels) y ls c = brackets_up (SpellsWithin levels) (SpellsWithin (suc levels)) (within_up levels) y ls c
