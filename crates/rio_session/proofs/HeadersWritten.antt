-- The header of a tree has a record, where its numbers fit and it names few baskets.
use Rattle.std.proofs.Common.{◌≡◌, ◌&&◌, ℕ, ◌+◌, ◌-◌, ◌*◌, ◌%◌, ◌<◌, ◌≤◌, ◌^◌, pos, negsuc, ℤ, codes, List, [], ◌∷◌, ◌++◌, length, map, Bool, true, false, cond, not, int_le, Option, Some, None, refl, sym, ap, subst, ◌∙◌, arith}
use Rattle.std.proofs.{lemmas.Bool.{and_from, and_parts}, lemmas.Int.{ints}, lemmas.List.Sums.{sum_by-cons}}
use Rattle.std.specs.{List.{list_all, list_any}, Option.{option_map_or}, Result.{result_unwrap_or}, Str.{bytes_eq}}
use Rattle.rio_num.specs.{Text.{text_bytes}, Word.{is_item_text}}
use Rattle.rio_num.proofs.TextLengths.{short_text_bytes}
use Rattle.rio_leaf.specs.{Stated.{are_stated_branches}, declared.branch.BranchDef.{BranchDef}, declared.branch.Shape.{Shape, TheVariants.{Leaves, Class}}}
use Rattle.rio_format.specs.{Classes.{newer_of, newest_in}, declared.class.ClassDef.{ClassDef}, Integers.{fits_signed}, Growth.{PicksStay}, TreeClasses.{tree_classes, written_classes}}
use Rattle.rio_chain.specs.Record.{key_size}
use Rattle.rio_format.proofs.Picks.{later_leave_picks}
use Rattle.rio_model.specs.{Declaring.{shape_lacks_class}, Described.{has_class_numbers, is_described}, StateClasses.{StateClasses}, Stated.{has_stated_parts, is_class_version}}
use Rattle.rio_machine.specs.{Limits.{has_many_branches}, State.{State}}
use Rattle.rio_tree.specs.{HeaderLength.{basket_count, header_length}, WrittenLaws.{AreReadableBranches, FitsTreeHeader, IsVersionFor, branch_fits_header, stated_defs}, declared.head.Branch.{Branch}, declared.head.TreeHead.{TreeHead}}
use Rattle.rio_tree.proofs.{HeaderLengths.{header_length_is_known}}
use Rattle.rio_state.specs.{Contents.{FileClasses, HasStateClasses, file_classes, state_classes}, KeyedRecords.{KeyedRecord, info_key}, Reads.{AreRecordsOf}, Trees.{can_be_branches}}
use Rattle.rio_step.specs.Refusing.{is_list_name}
use Rattle.rio_effect.specs.{HeaderRecords.{HeadersHaveRecords, IsHeaderRecord}, TreeRecords.{header_data, header_words, new_branch, new_branches, new_head, version_in_header}}
use Rattle.rio_effect.proofs.{PutClasses.{short_item}, StatesDescribed.{states_are_described}}
use Rattle.rio_session.proofs.HeaderBound.{header_low}

-- ---- the file's classes

listed_described : (info : KeyedRecord) → HasStateClasses (Some info) → PicksStay tree_classes (file_classes (Some info)).described
listed_described info has =
    let is = ap (λ r. result_unwrap_or r []) has.list in
    subst (PicksStay tree_classes) (sym is) (later_leave_picks tree_classes (state_classes (Some info)))

-- where a class list counts it describes the classes of trees
pub tree_described : (records : List KeyedRecord) (m : State) (info : KeyedRecord) → AreRecordsOf records m → info_key records ≡ Some info → PicksStay tree_classes (file_classes (info_key records)).described
tree_described records m info are is =
    subst (λ (o : Option KeyedRecord). PicksStay tree_classes (file_classes o).described) (sym is) (listed_described info (subst HasStateClasses is are.stand.listed))

-- ---- its record

-- of so many baskets at most
abbrev pub basket_limit : ℕ
basket_limit = 50000000

pub header_short : (name : List ℕ) (head : TreeHead) → length name ≤ 100 → are_stated_branches (stated_defs head.branches) ≡ true → has_many_branches (stated_defs head.branches) ≡ false → basket_count head ≤ basket_limit
    → header_length name (stated_defs head.branches) (basket_count head) ≤ 1003000000
header_short name head short stated few baskets = omega (arith, header_low name (stated_defs head.branches) short stated few, baskets)

pub header_written : HeadersHaveRecords → (classes : FileClasses) (place datime : ℕ) (name : List ℕ) (cycle : ℕ) (head : TreeHead) → is_item_text name ≡ true → is_list_name name ≡ false → can_be_branches classes.declared (stated_defs head.branches) ≡ true
    → PicksStay tree_classes classes.described → FitsTreeHeader head → AreReadableBranches head.entries [] head.branches → place < 2 ^ 32 → datime < 2 ^ 32 → cycle < 2 ^ 16 → basket_count head ≤ basket_limit
    → IsHeaderRecord classes place datime name cycle head
header_written headers classes place datime name cycle head item other branches described fits readable low soon few_cycles baskets =
    let defs = stated_defs head.branches in
    let words = header_words place datime name cycle in
    let one = and_parts (are_stated_branches defs && not (has_many_branches defs)) (not (list_any (λ b. shape_lacks_class classes.declared b.shape) defs)) branches in
    let two = and_parts (are_stated_branches defs) (not (has_many_branches defs)) one.0 in
    let few : has_many_branches defs ≡ false = by (has_many_branches defs) two.1 in
    let short = short_item name item in
    let long : length (header_data words name head) ≡ header_length name defs (basket_count head) = header_length_is_known (key_size words) name head in
    let most = header_short name head short two.0 few baskets in
    let key_low : key_size words ≤ 140 = key_most place datime name cycle short in
    headers classes place datime name cycle head (record {
      item = item;
      other = other;
      branches = branches;
      described = described;
      fits = fits;
      readable = readable;
      words = record {
        place = low;
        directory = omega arith;
        datime = soon;
        cycle = few_cycles;
        key = omega (arith, key_low);
        whole = omega (arith, key_low, long, most);
      };
      room = omega (arith, key_low, long, most);
    })
  where
    by : (b : Bool) → not b ≡ true → b ≡ false
    by true e = absurd cc
    by false e = refl

    key_most : (place datime : ℕ) (name : List ℕ) (cycle : ℕ) → length name ≤ 100 → key_size (header_words place datime name cycle) ≤ 140
    key_most place datime name cycle short =
        let class : length (text_bytes (codes "TTree")) ≡ 6 = refl in
        let title : length (text_bytes []) ≡ 1 = refl in
        omega (arith, short_text_bytes name short, class, title)

-- ---- the header of a new tree

version_fits : (version : ℤ) → is_class_version version ≡ true → fits_signed 32 version ≡ true
version_fits (pos n) e = grind (arith, ints)
version_fits (negsuc n) e = absurd (grind (arith, ints))

abbrev is_fit : ClassDef → Bool
is_fit c = fits_signed 32 c.version

described_fit : (classes : List ClassDef) → list_all is_described classes ≡ true → list_all is_fit classes ≡ true
described_fit [] all = refl
described_fit (c ∷ cs) all =
    let parts = and_parts (is_described c) (list_all is_described cs) all in
    let stated = and_parts (has_stated_parts c) (has_class_numbers c) parts.0 in
    let words = and_parts _ _ (and_parts _ _ (and_parts _ _ stated.0).0).0 in
    and_from (is_fit c) (list_all is_fit cs) (version_fits c.version words.1) (described_fit cs parts.1)

newer_fit : (c : ClassDef) (o : Option ClassDef) → is_fit c ≡ true → option_map_or is_fit o true ≡ true → is_fit (newer_of c o) ≡ true
newer_fit c None own e = own
newer_fit c (Some d) own e = by (int_le d.version c.version)
  where
    by : (b : Bool) → is_fit (cond b c d) ≡ true
    by true = own
    by false = e

newest_fit : (classes : List ClassDef) (name : List ℕ) → list_all is_fit classes ≡ true → option_map_or is_fit (newest_in classes name) true ≡ true
newest_fit [] name all = refl
newest_fit (c ∷ cs) name all =
    let two = and_parts (is_fit c) (list_all is_fit cs) all in
    by (bytes_eq c.name name) two.0 (newest_fit cs name two.1)
  where
    by : (b : Bool) → is_fit c ≡ true → option_map_or is_fit (newest_in cs name) true ≡ true → option_map_or is_fit (cond b (Some (newer_of c (newest_in cs name))) (newest_in cs name)) true ≡ true
    by true own rest = newer_fit c (newest_in cs name) own rest
    by false own rest = rest

version_or_none : (o : Option ClassDef) → option_map_or is_fit o true ≡ true → fits_signed 32 (option_map_or (λ c. c.version) o (pos 0)) ≡ true
version_or_none None e = refl
version_or_none (Some c) e = e

shape_version : (classes : List ClassDef) (shape : Shape) → list_all is_fit classes ≡ true → fits_signed 32 (version_in_header classes shape) ≡ true
shape_version classes (Leaves leaves) all = refl
shape_version classes (Class class) all = version_or_none (newest_in classes class) (newest_fit classes class all)

branches_fit : (classes : List ClassDef) (before branches : List BranchDef) → list_all is_fit classes ≡ true → list_all branch_fits_header (new_branches classes before branches) ≡ true
branches_fit classes before [] all = refl
branches_fit classes before (b ∷ bs) all =
    and_from _ _ (and_from _ _ (and_from _ _ (and_from _ _ (shape_version classes b.shape all) refl) refl) refl) (branches_fit classes (before ++ b ∷ []) bs all)

pub new_fits : (classes : List ClassDef) (branches : List BranchDef) → StateClasses classes → FitsTreeHeader (new_head classes branches)
new_fits classes branches are = record { entries = refl; branches = branches_fit classes [] branches (described_fit classes (states_are_described classes are)) }

new_readable : (classes : List ClassDef) (before branches : List BranchDef) → AreReadableBranches 0 before (new_branches classes before branches)
new_readable classes before [] = tt
new_readable classes before (b ∷ bs) =
    (record { refused = refl; entries_as_tree = refl; offsets_as_shape = refl; version_as_shape = by b.shape; counted = refl; in_order = refl }, new_readable classes (before ++ b ∷ []) bs)
  where
    by : (shape : Shape) → IsVersionFor shape (version_in_header classes shape)
    by (Leaves leaves) = refl
    by (Class class) = tt

pub new_is_readable : (classes : List ClassDef) (branches : List BranchDef) → AreReadableBranches 0 [] (new_head classes branches).branches
new_is_readable classes branches = new_readable classes [] branches

pub none_named : (classes : List ClassDef) (before branches : List BranchDef) → basket_count (record { entries = 0; branches = new_branches classes before branches }) ≡ 0
none_named classes before [] = refl
none_named classes before (b ∷ bs) = let rest = none_named classes (before ++ b ∷ []) bs in omega (arith, rest, sum_by-cons (λ (c : Branch). length c.baskets) (new_branch classes before b) (new_branches classes (before ++ b ∷ []) bs))
