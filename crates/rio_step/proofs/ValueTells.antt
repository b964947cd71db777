-- Values and rows in a command: what is read, and the first tokens that can't stand.
use Rattle.std.proofs.Common.{ℕ, suc, List, [], ◌∷◌, ◌++◌, Bool, codes, refl, sym, subst}
use Rattle.rio_num.specs.At.{At}
use Rattle.rio_format.specs.{declared.value.Value.{Value, Null, out-Value, TheOpen.{Value-F}, TheVariants.{outs-Null}}, declared.value.Part.{Part}}
use Rattle.rio_token.specs.{declared.fault.TextFault.{TextFault}, Reading.{Read}}
use Rattle.rio_model.specs.{Lexemes.{Lexeme, SpellsFurther, word}, ToldPlaces.{Begin}, ValueGrammar.{enclosed_at, value_in_text, values_at}}
use Rattle.rio_model.specs.ValueSpelling.{SpellsLayer, SpellsRow, SpellsValue, SpellsWithin}
use Rattle.rio_model.proofs.{SpellingUp.{layer_up, within_up}, ValueAgain.{spelled_are_read}, ValueFound.{read_are_spelled}}
use Rattle.rio_model.proofs.ValueTold.{places_are_told, value_ends_same}
use Rattle.rio_step.specs.CommandLaws.{IsFirstBadToken}
use Rattle.rio_step.proofs.AlikeLaws.{BeginBehind, Tells, alike_end, alike_stand, bad_alike, bad_there}

pub null_spelled : (levels : ℕ) → SpellsValue levels Null (word (codes "null") ∷ [])
unfolding SpellsValue
null_spelled levels = subst (λ (y : Value-F Value Part). SpellsLayer (SpellsWithin levels) y (word (codes "null") ∷ [])) (sym outs-Null) refl

pub value_up : (levels : ℕ) (v : Value) (ls : List Lexeme) → SpellsValue levels v ls → SpellsValue (suc levels) v ls
unfolding SpellsValue
value_up levels v ls c = layer_up (SpellsWithin levels) (SpellsWithin (suc levels)) (within_up levels) (out-Value v) ls c

further_up : (levels : ℕ) (vs front : List Value) (ls : List Lexeme) → SpellsFurther (λ before. SpellsValue levels) front vs ls → SpellsFurther (λ before. SpellsValue (suc levels)) front vs ls
further_up levels [] front ls c = c
further_up levels (v ∷ vs) front ls c = (c.0, c.1, c.2, value_up levels v c.0 c.3, further_up levels vs (front ++ v ∷ []) c.1 c.4)

pub row_up : (levels : ℕ) (vs : List Value) (ls : List Lexeme) → SpellsRow levels vs ls → SpellsRow (suc levels) vs ls
unfolding SpellsRow
row_up levels [] ls c = c
row_up levels (v ∷ vs) ls c =
    let d = c.2 in
    (c.0, c.1, (d.0, d.1, d.2, value_up levels v d.0 d.3, further_up levels vs (v ∷ []) d.1 d.4))

module _ (strict : Bool) where
  -- what can be begun needs no few names here
  surely : {A : Type 0} (r : At → Read A) (H : A → List Lexeme → Type 0) (n : ℕ) (s : At) (e : TextFault) → IsFirstBadToken strict r (Begin H) s e → IsFirstBadToken strict r (BeginBehind n H) s e
  surely r H n s e b = bad_there strict r r (Begin H) (BeginBehind n H) s e (λ t same g bad. bad) (λ ls c few. c) b

  pub value_tells : (levels n : ℕ) → Tells strict (value_in_text (enclosed_at levels)) (SpellsValue levels) (SpellsValue (suc levels)) n
  value_tells levels n = record {
    known = λ s v m h.
        let f = read_are_spelled.value levels v s m h in
        record {
          passed = f.0;
          spelled = f.1;
          stands = f.2;
          again = λ u k st. spelled_are_read.value levels v f.0 u k f.1 (alike_stand strict f.0 s u k st) (value_ends_same (out-Value v) m k (alike_end strict f.0 s m u k f.2 st).next f.3);
        };
    up = value_up levels;
    told = λ s e h. surely (value_in_text (enclosed_at levels)) (SpellsValue (suc levels)) n s e (bad_alike strict (value_in_text (enclosed_at levels)) (Begin (SpellsValue (suc levels))) s e (places_are_told.value levels s e h));
  }

  pub row_tells : (levels n : ℕ) → Tells strict (values_at (enclosed_at levels)) (SpellsRow levels) (SpellsRow (suc levels)) n
  row_tells levels n = record {
    known = λ s v m h.
        let f = read_are_spelled.row levels v s m h in
        record { passed = f.0; spelled = f.1; stands = f.2; again = λ u k st. spelled_are_read.row levels v f.0 u k f.1 (alike_stand strict f.0 s u k st) };
    up = row_up levels;
    told = λ s e h. surely (values_at (enclosed_at levels)) (SpellsRow (suc levels)) n s e (bad_alike strict (values_at (enclosed_at levels)) (Begin (SpellsRow (suc levels))) s e (places_are_told.row levels s e h));
  }
