-- The record of a tree's header as tree and save write it: it is read as the header.
use Rattle.std.specs.Prelude.{◌≡◌, ◌≤◌, ℕ, ◌+◌, ◌-◌, ◌^◌, List, [], length, true, false, Some}
use Rattle.rio_num.specs.Word.{is_item_text}
use Rattle.rio_chain.specs.{Record.{FitsWords, key_size}, Segments.{IsRecord}}
use Rattle.rio_format.specs.{Growth.{PicksStay}, TreeClasses.{tree_classes}}
use Rattle.rio_tree.specs.{HeaderLength.{basket_count, header_length}, WrittenLaws.{AreReadableBranches, FitsTreeHeader, stated_defs}, declared.head.TreeHead.{TreeHead}}
use Rattle.rio_machine.specs.Limits.{head_length}
use Rattle.std.specs.Prelude.{codes}
use Rattle.rio_state.specs.{Closing.{padded_length}, Contents.{FileClasses}, KeyedRecords.{is_top_key, is_tree_key}, OneMore.{KeyIsRead, keyed_bytes}, Reads.{is_named_key}, Trees.{can_be_branches, header_in}}
use Rattle.rio_step.specs.Refusing.{is_list_name}
use Rattle.rio_effect.specs.TreeRecords.{header_data, header_key, header_record, header_words}

-- The name is one of the script language and not the class list's. The header is that of a tree that can be declared by the classes of a
-- file, no branch of it is refused, and its numbers and those of the record fit their fields. The file describes the classes of trees.
pub record CanBeWritten (classes : FileClasses) (place datime : ℕ) (name : List ℕ) (cycle : ℕ) (head : TreeHead) : Type 0 where
  pub item : is_item_text name ≡ true
  pub other : is_list_name name ≡ false
  pub branches : can_be_branches classes.declared (stated_defs head.branches) ≡ true
  pub described : PicksStay tree_classes classes.described
  pub fits : FitsTreeHeader head
  pub readable : AreReadableBranches head.entries [] head.branches
  pub words : FitsWords (header_words place datime name cycle) (length (header_data (header_words place datime name cycle) name head))
  pub room : key_size (header_words place datime name cycle) + length (header_data (header_words place datime name cycle) name head) ≤ 2 ^ 30 - 2

-- The record is a whole one, of a tree's key, as long as the number of its baskets makes it, and is read as the header.
pub record IsHeaderRecord (classes : FileClasses) (place datime : ℕ) (name : List ℕ) (cycle : ℕ) (head : TreeHead) : Type 0 where
  pub whole : IsRecord place (header_record place datime name cycle head)
  pub read : KeyIsRead place (header_record place datime name cycle head) (header_key place datime name cycle head)
  pub top : is_top_key (header_key place datime name cycle head) ≡ true
  pub tree : is_tree_key (header_key place datime name cycle head) ≡ true
  pub named : is_named_key (header_key place datime name cycle head) ≡ true
  pub long : length (header_record place datime name cycle head)
      ≡ padded_length (head_length (codes "TTree") name + header_length name (stated_defs head.branches) (basket_count head))
  pub header : header_in classes (keyed_bytes (header_key place datime name cycle head) (header_record place datime name cycle head)) ≡ Some head

abbrev pub HeadersHaveRecords : Type 0
HeadersHaveRecords = (classes : FileClasses) (place datime : ℕ) (name : List ℕ) (cycle : ℕ) (head : TreeHead) → CanBeWritten classes place datime name cycle head
    → IsHeaderRecord classes place datime name cycle head
