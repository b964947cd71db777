-- The record that is written for the header of a tree is read as it.
use Rattle.std.proofs.Common.{◌≡◌, ◌∙◌, ℕ, ◌≤◌, codes, List, ◌++◌, length, not, replicate, Bool, true, ◌&&◌, Some, Result, refl, ap, arith}
use Rattle.std.proofs.lemmas.Bool.{and_from, and_parts}
use Rattle.std.specs.{Prelude.{option_and_then}, List.{list_any}, Result.{result_ok}}
use Rattle.rio_num.specs.{Reading.{some_if}, Room.{is_padding}}
use Rattle.rio_num.proofs.Puts.{zeros_pad}
use Rattle.rio_leaf.specs.Stated.{are_stated_branches}
use Rattle.rio_format.specs.{CodeLaws.{coded_decides}, Depth.{depth_of}, declared.value.Value.{Value}, Objects.{SpellsObject, depth_limit, first_at}, TreeClasses.{tree_classes}}
use Rattle.rio_format.specs.contracts.value.Value as values
use Rattle.rio_format.proofs.{GrowthLaws.{read_stays}, ObjectLaws.{spelled_is_read}, WrittenValues.{written_is_spelled}}
use Rattle.rio_model.specs.Declaring.{shape_lacks_class}
use Rattle.rio_machine.specs.Limits.{has_many_branches}
use Rattle.rio_chain.specs.{NewRecords.{IsNewRecord}, Record.{key_size, new_key, record_bytes}, declared.key_words.KeyWords.{KeyWords}}
use Rattle.rio_chain.proofs.Records.{are_new_records}
use Rattle.rio_tree.specs.{HeaderLength.{basket_count, header_length}, WrittenLaws.{WrittenTreeFits, WrittenTreeIsRead, stated_defs}, WrittenTree.{tree_value_of}}
use Rattle.rio_tree.specs.{declared.fault.TreeFault.{TreeFault}, declared.head.TreeHead.{TreeHead}}
use Rattle.rio_tree.proofs.HeaderLengths.{header_length_is_known}
use Rattle.rio_state.specs.{Contents.{FileClasses}, KeyedRecords.{KeyedRecord}, Trees.{header_by, header_in, is_written_header}}
use Rattle.rio_effect.specs.{HeaderRecords.{CanBeWritten, HeadersHaveRecords, IsHeaderRecord}, TreeRecords.{header_data, header_key, header_record, header_words}}
use Rattle.rio_effect.proofs.{HeaderDepth.{header_within}, HeaderRead.{header_all_read}, PutEffect.{padded_as}}

module _ (written_tree_fits : WrittenTreeFits) (written_tree_is_read : WrittenTreeIsRead) (classes : FileClasses) (place datime : ℕ) (name : List ℕ) (cycle : ℕ) (head : TreeHead) (can : CanBeWritten classes place datime name cycle head) where
  abbrev words : KeyWords
  words = header_words place datime name cycle

  abbrev value : Value
  value = tree_value_of name head

  abbrev contents : List ℕ
  contents = header_data words name head

  abbrev keylen : ℕ
  keylen = key_size words

  new_record : IsNewRecord words contents
  new_record = are_new_records words contents can.words

  abbrev zeros : List ℕ
  zeros = replicate new_record.zeros 0

  abbrev r : KeyedRecord
  r = record { head = new_key words (length contents); bytes = record_bytes words contents }

  stated : are_stated_branches (stated_defs head.branches) ≡ true
  stated =
      let two = and_parts (are_stated_branches (stated_defs head.branches) && not (has_many_branches (stated_defs head.branches))) (not (list_any (λ b. shape_lacks_class classes.declared b.shape) (stated_defs head.branches))) can.branches in
      (and_parts (are_stated_branches (stated_defs head.branches)) (not (has_many_branches (stated_defs head.branches))) two.0).0

  spelled : SpellsObject tree_classes keylen (codes "TTree") value contents
  spelled =
      let within = header_within name head in
      let shallow : depth_of value ≤ depth_limit = omega (arith, within.0) in
      written_is_spelled tree_classes (codes "TTree") keylen value (written_tree_fits name head stated can.fits) shallow within.1 can.room

  tested : is_written_header classes.declared name value head ≡ true
  unfolding is_written_header
  tested = and_from _ _ can.branches ((coded_decides values.the_row.coded value value).1 refl)

  read_back : header_in classes r ≡ Some head
  unfolding header_in
  read_back =
      let read = spelled_is_read tree_classes (codes "TTree") keylen value contents zeros spelled in
      let again = read_stays tree_classes classes.described can.described (codes "TTree") keylen (contents ++ zeros) value read.0 (header_all_read name head) read.1 in
      let padded : is_padding read.0.at.rest ≡ true = ap is_padding read.2 ∙ zeros_pad new_record.zeros new_record.few in
      let whole : (is_padding read.0.at.rest && is_written_header classes.declared name value head) ≡ true = and_from _ _ padded tested in
      ap (λ (b : List ℕ). header_by classes.declared name (first_at classes.described (codes "TTree") keylen b)) new_record.contents_are
      ∙ ap (header_by classes.declared name) again
      ∙ ap (λ (t : Result TreeHead TreeFault). option_and_then (λ h. some_if (is_padding read.0.at.rest && is_written_header classes.declared name value h) h) (result_ok t))
      (written_tree_is_read name head stated can.fits can.readable)
      ∙ ap (λ (b : Bool). some_if b head) whole

  header_is : IsHeaderRecord classes place datime name cycle head
  unfolding header_key header_record
  header_is = record {
    whole = new_record.whole;
    read = new_record.key_read place;
    top = ap not can.other;
    tree = refl;
    named = and_from _ _ can.item refl;
    long = new_record.size ∙ padded_as keylen (length contents) (header_length name (stated_defs head.branches) (basket_count head)) (header_length_is_known keylen name head);
    header = read_back;
  }

pub headers_have_records : WrittenTreeFits → WrittenTreeIsRead → HeadersHaveRecords
headers_have_records fits read classes place datime name cycle head can = header_is fits read classes place datime name cycle head can
