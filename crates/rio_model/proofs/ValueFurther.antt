-- The reading of a value goes on in the same text.
use Rattle.std.proofs.Common.{◌&&◌, ◌==◌, ℕ, zero, suc, ◌-◌, List, Bool, true, false, Option, Some, None}
use Rattle.rio_num.specs.{At.{At}, Word.{is_name_text}}
use Rattle.rio_format.specs.declared.value.Value.{Value}
use Rattle.rio_token.specs.{declared.token.Token.{Token, TheVariants.{Word, Mark}}, Further.{EndsFurther}}
use Rattle.rio_token.specs.Marks.{at_sign, closing_brace, closing_bracket, colon, equals_sign, number_sign, opening_brace, opening_bracket}
use Rattle.rio_token.specs.{Reading.{list_at, mark_at, marked, name_at, num_at, string_at, version_at, word_at}, Tokens.{behind, next_at}}
use Rattle.rio_token.proofs.FurtherLaws.{behind_further, bind_further, from_further, further_here, if_further, list_further, takes_end_further}
use Rattle.rio_model.specs.ValueGrammar.{Enclosed, Reader, ValuesEndFurther, bracket_limit, class_version_at, enclosed_at, enclosed_by, listed, marked_value_at, named_object_at, object_at, object_of, opens_object, part_at, pointer_at, text_value_at, value_by, value_in_text, values_at, word_value, word_value_at, worded}

class_version_further : (s : At) → EndsFurther s (class_version_at s)
unfolding class_version_at
class_version_further s =
    if_further s (marked number_sign s) _ _
    (from_further s (behind s) _ (behind_further s) (bind_further (behind s) (version_at (behind s)) _ (takes_end_further.num_between 1 32767 (behind s)) (λ version. further_here version.1)))
    (further_here s)

text_further : (s : At) → EndsFurther s (text_value_at s)
unfolding text_value_at
text_further s = bind_further s (string_at s) _ (takes_end_further.string s) (λ text. further_here text.1)

-- ---- by what is read in brackets

module _ (inner : Reader) (each : (what : Enclosed) (s : At) → EndsFurther s (inner what s)) where
  object_further : (class : List ℕ) (s : At) → EndsFurther s (object_at inner class s)
  unfolding object_at
  object_further class s =
      bind_further s (class_version_at s) _ (class_version_further s) (λ version. each (object_of class version.0) version.1)

  named_object_further : (s : At) → EndsFurther s (named_object_at inner s)
  unfolding named_object_at
  named_object_further s =
      bind_further s (name_at s) _ (takes_end_further.tested_word is_name_text s) (λ class. object_further class.0 class.1)

  pointer_further : (s : At) → EndsFurther s (pointer_at inner s)
  unfolding pointer_at
  pointer_further s =
      bind_further s (num_at s) _ (takes_end_further.num s) (λ label.
      if_further label.1 (marked equals_sign label.1) _ _
      (from_further label.1 (behind label.1) _ (behind_further label.1)
      (bind_further (behind label.1) (named_object_at inner (behind label.1)) _ (named_object_further (behind label.1)) (λ object. further_here object.1)))
      (further_here label.1))

  word_further : (s : At) → EndsFurther s (word_value_at inner s)
  unfolding word_value_at
  word_further s =
      bind_further s (word_at s) _ (takes_end_further.word s) (λ word.
      if_further word.1 (is_name_text word.0 && opens_object word.1) _ _ (object_further word.0 word.1)
      (alone (word_value word.0) (is_name_text word.0) word.1))
    where
      alone : (value : Option Value) (name : Bool) (next : At) → EndsFurther next (worded value name s next)
      alone (Some value) name next = further_here next
      alone None true next = tt
      alone None false next = tt

  marked_further : (mark : ℕ) (s : At) → EndsFurther s (marked_value_at inner mark s)
  marked_further mark s =
      if_further s (mark == opening_bracket) _ _ (each listed s)
      (if_further s (mark == at_sign) _ _ (from_further s (behind s) (pointer_at inner (behind s)) (behind_further s) (pointer_further (behind s))) tt)

  value_by_further : (token : Token) (s : At) → EndsFurther s (value_by inner token s)
  value_by_further Word s = word_further s
  value_by_further (Mark mark) s = marked_further mark s
  value_by_further other s = text_further s

  value_further : (s : At) → EndsFurther s (value_in_text inner s)
  unfolding value_in_text
  value_further s = value_by_further (next_at s).token s

  part_further : (s : At) → EndsFurther s (part_at inner s)
  unfolding part_at
  part_further s =
      bind_further s (name_at s) _ (takes_end_further.tested_word is_name_text s) (λ name.
      if_further name.1 (marked colon name.1) _ _
      (from_further name.1 (behind name.1) _ (behind_further name.1)
      (bind_further (behind name.1) (value_in_text inner (behind name.1)) _ (value_further (behind name.1)) (λ value. further_here value.1)))
      (bind_further name.1 (object_at inner name.0 name.1) _ (object_further name.0 name.1) (λ object. further_here object.1)))

  values_further : (s : At) → EndsFurther s (values_at inner s)
  unfolding values_at
  values_further s =
      bind_further s (mark_at opening_bracket s) _ (takes_end_further.mark opening_bracket s) (λ opening.
      list_further closing_bracket (λ before. value_in_text inner) (λ before. value_further) opening.1)

  enclosed_further : (what : Enclosed) (s : At) → EndsFurther s (enclosed_by inner what s)
  unfolding enclosed_by
  enclosed_further listed s = bind_further s (values_at inner s) _ (values_further s) (λ items. further_here items.1)
  enclosed_further (object_of class version) s =
      bind_further s (mark_at opening_brace s) _ (takes_end_further.mark opening_brace s) (λ opening.
      bind_further opening.1 (list_at closing_brace (λ before. part_at inner) opening.1) _
      (list_further closing_brace (λ before. part_at inner) (λ before. part_further) opening.1) (λ parts.
      further_here parts.1))

-- ---- with so many brackets

levels_further : (levels : ℕ) (what : Enclosed) (s : At) → EndsFurther s (enclosed_at levels what s)
unfolding enclosed_at
levels_further zero what s = tt
levels_further (suc levels) what s = enclosed_further (enclosed_at levels) (levels_further levels) what s

pub values_end_further : ValuesEndFurther
values_end_further = record {
  value = value_further (enclosed_at bracket_limit) (levels_further bracket_limit);
  row = values_further (enclosed_at (bracket_limit - 1)) (levels_further (bracket_limit - 1));
}
