-- The reading of a declaration goes on in the same text.
use Rattle.std.proofs.Common.{ℕ, List, codes, Option, Some, None}
use Rattle.std.specs.Str.{bytes_eq}
use Rattle.rio_num.specs.{At.{At}, Word.{is_name_text}}
use Rattle.rio_format.specs.{declared.class.Base.{Base}, declared.class.Member.{Member}, declared.kind.Primitive.{Primitive}}
use Rattle.rio_token.specs.{Further.{EndsFurther}, Marks.{asterisk, closing_brace, closing_bracket, colon, opening_brace, opening_bracket}}
use Rattle.rio_token.specs.{Reading.{end_at, keyword_at, list_at, mark_at, marked, name_at, version_at, word_that_at}, Tokens.{behind}}
use Rattle.rio_token.proofs.FurtherLaws.{behind_further, bind_further, from_further, further_here, if_further, list_further, some_further, taken_further, takes_end_further}
use Rattle.rio_model.specs.ClassGrammar.{ClassesEndFurther, base_at, bases_at, class_at, dimension_at, is_new_base, is_new_member, kind_at, member_at, plain_at, primitive_at, primitive_of, sized_at}

-- ---- kinds

module _ (before : List Member) where
  sized_further : (of : Primitive) (s : At) → EndsFurther s (sized_at before of s)
  unfolding sized_at
  sized_further of s =
      bind_further s (dimension_at before of s) _ (taken_further _ s) (λ kind.
      bind_further kind.1 (mark_at closing_bracket kind.1) _ (takes_end_further.mark closing_bracket kind.1) (λ close.
      further_here close.1))

  primitive_further : (of : Primitive) (s : At) → EndsFurther s (primitive_at before of s)
  primitive_further of s =
      if_further s (marked opening_bracket s) _ _
      (from_further s (behind s) (sized_at before of (behind s)) (behind_further s) (sized_further of (behind s)))
      (further_here s)

  plain_further : (word : List ℕ) (primitive : Option Primitive) (s : At) → EndsFurther s (plain_at before word primitive s)
  plain_further word (Some of) s = primitive_further of s
  plain_further word None s = if_further s (bytes_eq word (codes "text")) _ _ (further_here s) (further_here s)

  kind_further : (s : At) → EndsFurther s (kind_at before s)
  unfolding kind_at
  kind_further s =
      bind_further s (name_at s) _ (takes_end_further.tested_word is_name_text s) (λ word.
      if_further word.1 (marked asterisk word.1) _ _ (behind_further word.1) (plain_further word.0 (primitive_of word.0) word.1))

-- ---- members and bases

member_further : (before : List Member) (s : At) → EndsFurther s (member_at before s)
unfolding member_at
member_further before s =
    bind_further s (word_that_at (is_new_member before) s) _ (takes_end_further.tested_word _ s) (λ name.
    bind_further name.1 (mark_at colon name.1) _ (takes_end_further.mark colon name.1) (λ passed.
    bind_further passed.1 (kind_at before passed.1) _ (kind_further before passed.1) (λ kind.
    further_here kind.1)))

base_further : (before : List Base) (s : At) → EndsFurther s (base_at before s)
unfolding base_at
base_further before s =
    bind_further s (word_that_at (is_new_base before) s) _ (takes_end_further.tested_word _ s) (λ name. further_here name.1)

bases_further : (s : At) → EndsFurther s (bases_at s)
unfolding bases_at
bases_further s =
    if_further s (marked colon s) _ _
    (from_further s (behind s) _ (behind_further s) (some_further opening_brace base_at base_further (behind s)))
    (bind_further s (mark_at opening_brace s) _ (takes_end_further.mark opening_brace s) (λ opening. further_here opening.1))

-- ---- classes

pub classes_end_further : ClassesEndFurther
unfolding class_at
classes_end_further s =
    bind_further s (keyword_at (codes "class") s) _ (takes_end_further.tested_word _ s) (λ keyword.
    bind_further keyword.1 (name_at keyword.1) _ (takes_end_further.tested_word _ keyword.1) (λ name.
    bind_further name.1 (version_at name.1) _ (takes_end_further.num_between 1 32767 name.1) (λ version.
    bind_further version.1 (bases_at version.1) _ (bases_further version.1) (λ bases.
    bind_further bases.1 (list_at closing_brace member_at bases.1) _ (list_further closing_brace member_at member_further bases.1) (λ members.
    bind_further members.1 (end_at members.1) _ (takes_end_further.end members.1) (λ done.
    further_here done.1))))))
