-- Some texts, and what they are read as.
use Rattle.std.proofs.Common.{◌≡◌, pos, [], ◌∷◌, Err, refl}
use Rattle.std.specs.{Prelude.{codes}, Fmt.{digits}}
use Rattle.rio_format.specs.{declared.class.ClassDef.{ClassDef}, declared.kind.Kind.TheVariants.{Plain, Pointer}, declared.kind.Primitive.TheVariants.{I32}, Bodies.{member}}
use Rattle.rio_token.specs.declared.fault.TextFault.TheVariants.{BadText}
use Rattle.rio_token.specs.{Reading.{list_at, mark_at, more_at, num_between_at, some_at, string_at, word_at, word_that_at}, Tokens.{scan_of}}
use Rattle.rio_token.specs.Words.{decimal, number_of, written}
use Rattle.rio_num.specs.Printed.{name_text}
use Rattle.rio_model.specs.{ClassGrammar.{bases_at, class_at, class_in, dimension_of, kind_at, member_at, primitive_of, sized_at}, ClassText.{text_of_class}}
use Rattle.rio_model.specs.Lexemes.{Stand, chars, mark}
use Rattle.rio_model.specs.ValueGrammar.{class_version_at, enclosed_at, enclosed_by, object_at, part_at, text_value_at, value_and_end, value_in, value_in_text, values_at, word_value, word_value_at}

node_class : ClassDef
node_class = record { name = codes "Node"; version = pos 1; sum = 0; bases = []; members = member (codes "val") (Plain I32) ∷ member (codes "next") (Pointer (codes "Node")) ∷ [] }

-- a class as it is printed
node_printed : text_of_class node_class ≡ codes "class Node 1 { val: i32, next: Node* }"
unfolding node_class text_of_class name_text digits
node_printed = refl

-- a counted array without its counter is bad where the counter stands
no_counter : class_in (codes "class D 1 { w: u8[n] }") 0 ≡ Err (BadText 18)
unfolding scan_of class_at word_that_at num_between_at bases_at list_at some_at more_at member_at mark_at kind_at sized_at dimension_of primitive_of word_at decimal written
no_counter = refl

-- a string where none may stand is bad at its opening quote, also where it isn't ended
no_string : class_in (codes "class \"abc") 0 ≡ Err (BadText 6)
unfolding scan_of class_at word_that_at
no_string = refl

-- an object that ends too early is bad at the text's length
cut_object : value_and_end (value_in (codes "put s TObjString{") 6) ≡ Err (BadText 17)
unfolding scan_of value_in_text word_value_at object_at class_version_at enclosed_at enclosed_by list_at some_at part_at mark_at word_at word_that_at
cut_object = refl

-- a string that isn't ended is bad at the text's length where a string may stand, and at its quote where none may
cut_string : value_and_end (value_in (codes "[\"x") 0) ≡ Err (BadText 3)
unfolding scan_of value_in_text enclosed_at enclosed_by values_at list_at some_at mark_at text_value_at string_at
cut_string = refl

no_string_behind : value_and_end (value_in (codes "[1 \"x") 0) ≡ Err (BadText 3)
unfolding scan_of value_in_text enclosed_at enclosed_by values_at list_at some_at more_at mark_at word_value_at word_at word_value number_of decimal written
no_string_behind = refl

-- blanks between tokens, and an escape in a string, spell nothing of their own
escaped_list : Stand (mark 91 ∷ chars (codes "A") ∷ mark 93 ∷ []) (record { place = 0; rest = codes "[ \"\\x41\"]" }) (record { place = 9; rest = [] })
unfolding scan_of
escaped_list = (refl, ((refl, refl), (refl, refl)))
