use Rattle.std.proofs.Common.{◌≡◌, ◌++◌, codes, drop, map}
use Rattle.std.specs.List.{flat_map}
use Rattle.rio_model.specs.{Lists.{separated}, ValueText.{between_braces, part_texts, printed_part, text_of_value}}
use Rattle.rio_valtext.proofs.print.+put.Given as goal

abbrev pub invariant-put_items-loop-item : goal.invariant-put_items-loop-item
invariant-put_items-loop-item l = l.text.bytes ++ flat_map (λ v. codes ", " ++ text_of_value v) (drop l.item-index l.rest) ≡ l.fn.text.bytes ++ separated text_of_value l.items

abbrev pub invariant-put_parts-loop-part : goal.invariant-put_parts-loop-part
invariant-put_parts-loop-part l = l.text.bytes ++ flat_map (λ t. codes ", " ++ t) (part_texts l.alone (map printed_part (drop l.part-index l.rest))) ≡ l.fn.text.bytes ++ between_braces (map printed_part l.parts)
