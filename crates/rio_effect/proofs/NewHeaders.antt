-- The header of a new tree, among the keys that are kept beside a file and in what its close needs.
use Rattle.std.proofs.Common.{◌≡◌, inr, ⊎_elim, false, ℕ, ◌+◌, ◌*◌, ◌≤◌, ◌∙◌, codes, List, [], ◌∷◌, ◌++◌, length, map, true, ◌==◌, Option, Some, None, refl, sym, ap, subst, arith}
use Rattle.std.proofs.lemmas.{Bool.{and_parts}, List.Sums.{sum_by-cons}}
use Rattle.std.specs.{List.{find, flat_map, list_any, sum_by}, Option.{option_map_or}, Str.{bytes_eq}}
use Rattle.rio_leaf.specs.declared.branch.BranchDef.{BranchDef}
use Rattle.rio_format.specs.declared.class.ClassDef.{ClassDef}
use Rattle.rio_num.specs.{Text.{text_bytes}, Word.{is_item_text}}
use Rattle.rio_num.proofs.TextLengths.{short_text_bytes}
use Rattle.rio_key.specs.{Written.{written_key}, declared.head.KeyHead.{KeyHead}}
use Rattle.rio_chain.specs.{Changes.{with_record}, Record.{key_size}, Segments.{IsChain, Link, chain_end}}
use Rattle.rio_chain.proofs.Records.{key_long}
use Rattle.rio_dir.specs.Table.{is_at_cycle}
use Rattle.rio_machine.specs.Limits.{head_length}
use Rattle.rio_state.specs.{Closing.{item_heads, kept_with, padded_length}, Contents.{FileClasses, file_classes}, DirectoryKeys.{AreKeysOf}, OneMore.{HasOneMoreIn, keyed_bytes}, Referred.{is_tree_item}, Trees.{basket_places, header_in}}
use Rattle.rio_state.specs.KeyedRecords.{KeyedRecord, info_key, keyed_records, object_records, top_keys, tree_records}
use Rattle.rio_state.specs.TreeLengths.{PendingRows, cuts_of, put_among, put_count, tree_lengths}
use Rattle.rio_state.proofs.{Insertion.{find_none}, KeysFollow.{heads_in}, Members.{filter_in, in_either, map_in, none_at, none_from}, MoreRecords.{first_stays, record_more}, NonePending.{all_idle, idle_tree}, Stays.{info_same}}
use Rattle.rio_tree.specs.{HeaderLength.{basket_count, header_length, header_size}, WrittenLaws.{stated_defs}, declared.head.Branch.{Branch}, declared.head.TreeHead.{TreeHead}}
use Rattle.rio_effect.specs.{NewHeaders.{IsNewHeader, NewHeaderHeldGrows, NewHeaderKeepsMore, NewHeaderKeyFollows}, TreeDeletes.{KeepsTreeLess, put_since}}
use Rattle.rio_effect.specs.TreeRecords.{header_data, header_key, header_record, header_words, new_branch, new_branches, new_head}
use Rattle.rio_effect.proofs.{AllItems.{AllItems, items_more}, HeaderLess.{heads_less}, HeaderMore.{counts}, Held.{chain_low}, KeysMore.{keys_more}, Needs.{not_info}, PendingNames.{put_of}, PutClasses.{short_item}}
use Rattle.rio_effect.proofs.TreeNeeds.{held_is, keeps_tree_less, tree_weight, weight, weight_is}

-- no key of a new name is kept
pub none_kept : (records : List KeyedRecord) (head : KeyHead) → list_any (λ s. bytes_eq s.head.name head.name) (top_keys records) ≡ false → (heads : List KeyHead) → AreKeysOf records heads
    → find (is_at_cycle head.name head.cycle) heads ≡ None
none_kept records head new heads are = find_none (is_at_cycle head.name head.cycle) heads (none_from (is_at_cycle head.name head.cycle) heads (λ h i e.
    let tops = top_keys records in
    let from = map_in (λ (s : KeyedRecord). s.head) h (object_records tops ++ tree_records tops) (heads_in records heads are h i) in
    let there = ⊎_elim (λ j. (filter_in _ from.0 tops j).0) (λ j. (filter_in _ from.0 tops j).0) (in_either from.0 (object_records tops) (tree_records tops) from.1) in
    let name = (and_parts (bytes_eq h.name head.name) (h.cycle == head.cycle) e).0 in
    none_at (λ s. bytes_eq s.head.name head.name) from.0 tops new there (ap (λ (k : KeyHead). bytes_eq k.name head.name) from.2 ∙ name)))

module _ (links : List Link) (place : ℕ) (bytes : List ℕ) (head : KeyHead) (said : TreeHead) (is : IsNewHeader links place bytes head said) (items : AllItems (keyed_records links)) where
  abbrev old : List KeyedRecord
  old = keyed_records links

  abbrev new : List KeyedRecord
  new = keyed_records (with_record place bytes links)

  abbrev r : KeyedRecord
  r = keyed_bytes head bytes

  more : HasOneMoreIn old new r
  more = record_more links place bytes head is.read

  items_then : AllItems new
  items_then = items_more old new r more (inr is.new) items

  header : is_tree_item (top_keys new) r ≡ true
  header = counts old new r more (inr is.new) items is.top is.tree

  heads_more : HasOneMoreIn (item_heads (top_keys old)) (item_heads (top_keys new)) head
  heads_more = heads_less new old r more items_then header

  info_stays : info_key new ≡ info_key old
  info_stays = info_same old new r more (not_info head is.top)

  module _ (file : List ℕ) (chain : IsChain links file) (pending : PendingRows) where
    pub new_header_keeps : KeepsTreeLess pending (file_classes (info_key old)) r said (kept_with pending (with_record place bytes links)) (kept_with pending links)
    unfolding kept_with
    new_header_keeps =
        let reads = ap (λ (o : Option KeyedRecord). header_in (file_classes o) r) info_stays ∙ is.header in
        let name = sym (first_stays file links place bytes chain) in
        subst (λ (o : Option KeyedRecord). KeepsTreeLess pending (file_classes o) r said (kept_with pending (with_record place bytes links)) (kept_with pending links)) info_stays
        (keeps_tree_less new old r more items_then header said reads name pending)

pub new_header_key_follows : NewHeaderKeyFollows
new_header_key_follows links place bytes head said heads is items are =
    keys_more (keyed_records links) (keyed_records (with_record place bytes links)) head heads (heads_more links place bytes head said is items) (none_kept (keyed_records links) head is.new heads are) are

pub new_header_keeps_more : NewHeaderKeepsMore
new_header_keeps_more pending file links place bytes head said chain is items = new_header_keeps links place bytes head said is items file chain pending

-- ---- what is held

-- the header of a tree that is made has the branches that are declared, and no baskets
pub new_defs : (classes : List ClassDef) (before branches : List BranchDef) → stated_defs (new_branches classes before branches) ≡ branches
new_defs classes before [] = refl
new_defs classes before (b ∷ bs) = ap (λ (l : List BranchDef). b ∷ l) (new_defs classes (before ++ b ∷ []) bs)

new_baskets : (classes : List ClassDef) (before branches : List BranchDef) → sum_by (λ (b : Branch). length b.baskets) (new_branches classes before branches) ≡ 0
new_baskets classes before [] = refl
new_baskets classes before (b ∷ bs) =
    let rest = new_baskets classes (before ++ b ∷ []) bs in
    omega (arith, rest, sum_by-cons (λ (c : Branch). length c.baskets) (new_branch classes before b) (new_branches classes (before ++ b ∷ []) bs))

pub new_places : (classes : List ClassDef) (before branches : List BranchDef) → flat_map (λ (b : Branch). map (λ at. at.seek) b.baskets) (new_branches classes before branches) ≡ []
new_places classes before [] = refl
new_places classes before (b ∷ bs) = new_places classes (before ++ b ∷ []) bs

-- a name has at most 100 bytes, and so the key of a header fewer than 140
pub key_short : (place datime : ℕ) (name : List ℕ) (cycle : ℕ) → is_item_text name ≡ true → key_size (header_words place datime name cycle) ≤ 140
key_short place datime name cycle named =
    let long = short_text_bytes name (short_item name named) in
    let class : length (text_bytes (codes "TTree")) ≡ 6 = refl in
    let title : length (text_bytes []) ≡ 1 = refl in
    omega (arith, long, class, title)

-- none of its baskets was put since, where no rows are pending
pub none_put : (pending : PendingRows) (classes : FileClasses) (r : KeyedRecord) (said : TreeHead) → header_in classes r ≡ Some said → pending r.head.name ≡ [] → put_since pending classes r said ≡ 0
unfolding put_among
none_put pending classes r said reads none =
    let idle = (all_idle classes (r ∷ [])).put in
    let own : put_of classes r [] ≡ put_count (cuts_of classes.declared (stated_defs said.branches) []) =
    ap (λ (o : Option TreeHead). option_map_or (λ h. put_count (cuts_of classes.declared (stated_defs h.branches) [])) o 0) reads in
    let rows : put_since pending classes r said ≡ put_count (cuts_of classes.declared (stated_defs said.branches) []) = ap (λ rs. put_count (cuts_of classes.declared (stated_defs said.branches) rs)) none in
    omega (arith, idle, own, rows, sum_by-cons (λ s. put_of classes s []) r [])

-- the weight of a tree without pending rows: its next header
pub idle_weight : (classes : List ClassDef) (name : List ℕ) (head : TreeHead)
    → tree_weight (tree_lengths classes name [] head) ≡ head_length (codes "TTree") name + header_length name (stated_defs head.branches) (basket_count head) + 3
idle_weight classes name head =
    let i = idle_tree classes name head in
    let saves = ap (sum_by (λ n. n + 3)) i.saves in
    omega (arith, saves, i.idle, i.opened, i.fillings)

sums_low : (end end' before after n head own key size : ℕ) → end' ≤ end + n → n ≡ padded_length (head + size) → after ≡ before + key + 10 * (1 + 0 + 0) + own → own ≡ head + size + 3 → key ≡ head → head ≤ 140
    → end' + after ≤ end + before + (500 + 2 * size)
sums_low end end' before after n head own key size one two three four five six = omega (arith, one, two, three, four, five, six)

pub new_header_held_grows : NewHeaderHeldGrows
unfolding header_key header_record
new_header_held_grows pending file links classes place datime name branches chain items new named none is at =
    let said = new_head classes branches in
    let words = header_words place datime name 1 in
    let n = length (header_data words name said) in
    let bytes = header_record place datime name 1 said in
    let head = header_key place datime name 1 said in
    let r = keyed_bytes head bytes in
    let here : IsNewHeader links place bytes head said = record { read = is.read; top = is.top; tree = is.tree; new = new; header = is.header } in
    let k = new_header_keeps_more pending file links place bytes head said chain here items in
    let in_file = file_classes (info_key (keyed_records links)) in
    let defs = new_defs classes [] branches in
    let count = new_baskets classes [] branches in
    let places : length (basket_places said) ≡ 0 = ap length (new_places classes [] branches) in
    let put = none_put pending in_file r said is.header none in
    let size : header_length name (stated_defs said.branches) (basket_count said) ≡ header_size name branches = (λ i. header_length name (defs i) (count i)) ∙ omega arith in
    let own : tree_weight (tree_lengths in_file.declared name (pending name) said) ≡ head_length (codes "TTree") name + header_size name branches + 3 =
    ap (λ rs. tree_weight (tree_lengths in_file.declared name rs said)) none ∙ idle_weight in_file.declared name said ∙ ap (λ (x : ℕ). head_length (codes "TTree") name + x + 3) size in
    let heavier = weight_is (kept_with pending (with_record place bytes links)) (kept_with pending links) head (tree_lengths in_file.declared name (pending name) said)
    (1 + length (basket_places said) + put_since pending in_file r said) k.name k.heads k.count k.trees in
    let exact : weight (kept_with pending (with_record place bytes links)) ≡ weight (kept_with pending links) + length (written_key head) + 10 * (1 + 0 + 0) + tree_weight (tree_lengths in_file.declared name (pending name) said) =
    heavier ∙ (λ i. weight (kept_with pending links) + length (written_key head) + 10 * (1 + places i + put i) + tree_weight (tree_lengths in_file.declared name (pending name) said)) in
    let long : length bytes ≡ padded_length (head_length (codes "TTree") name + header_size name branches) = is.long ∙ ap (λ (x : ℕ). padded_length (head_length (codes "TTree") name + x)) size in
    let end = chain_low file links place bytes chain (omega (arith, long)) is.whole.aligned at in
    let sum = sums_low (chain_end links) (chain_end (with_record place bytes links)) (weight (kept_with pending links)) (weight (kept_with pending (with_record place bytes links))) (length bytes) (head_length (codes "TTree") name)
    (tree_weight (tree_lengths in_file.declared name (pending name) said)) (length (written_key head)) (header_size name branches) end long exact own (key_long words n) (key_short place datime name 1 named) in
    omega (arith, sum, held_is pending links, held_is pending (with_record place bytes links))
