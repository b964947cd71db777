-- A save that is due takes no more room than a close needs for it: behind it there is room for a close again. So it is by what is kept alone,
-- whatever a host tells.
use Rattle.std.proofs.Common.{◌≡◌, ◌∙◌, ◌==◌, ℕ, ◌+◌, ◌%◌, ◌<◌, ◌≤◌, ◌^◌, codes, Bool, true, false, not, List, [], ◌∷◌, ◌++◌, length, map, Some, None, refl, sym, ap, arith}
use Rattle.std.proofs.Math.Dec.{eqb-suc-zero}
use Rattle.std.proofs.lemmas.{Bool.{and_from, eqb-true, le-leb, lt-ltb}, List.Sums.{sum_by-append, sum_by-cons}}
use Rattle.std.specs.{Prelude.{if◌then◌else◌}, List.{find, sum_by}}
use Rattle.rio_key.specs.{Written.{written_key}, declared.head.KeyHead.{KeyHead}}
use Rattle.rio_dir.specs.Table.{head_of, heads_size, without_head}
use Rattle.rio_chain.specs.{Adjoining.{AreSegments}, FewerRecords.{IsLeftWithout}, Placing.{file_end, place_of, record_count, with_segment}, Releasing.{without_segment}, declared.segment.Segment.{Segment}}
use Rattle.rio_chain.proofs.Laying.{laid_put}
use Rattle.rio_close.proofs.Fitting.{count_with}
use Rattle.rio_machine.specs.Limits.{head_length}
use Rattle.rio_tree.specs.declared.head.TreeHead.{TreeHead}
use Rattle.rio_fill.specs.Fill.{BranchFill, TreeFill, all_saved, entry_count, has_no_entries}
use Rattle.rio_state.specs.{Closing.{end_limit, padded_length}, Sizes.{close_size}, TreeLengths.{BasketLengths, basket_lengths}}
use Rattle.rio_recover.specs.Closable.{is_fit_key, is_sized}
use Rattle.rio_effect.specs.TreeRecords.{header_key, length_of_basket}
use Rattle.rio_session.specs.{Due.{IsClosableWith, due_of, due_of_fill, lengths_of_fill, need_with, open_lengths}, Fillings.{BasketsPut, branches_become, open_list, put_open, saving_with, words_of_open}}
use Rattle.rio_session.specs.{Fills.{AreNamesOrdered, FilledTree, header_of, is_tree_of}, SessionState.{SessionState}}
use Rattle.rio_session.proofs.{FillSums.{need_by_due, sum_changed}, FilledTrees.{found_name}, Keeps.{size_with}, PutsFit.{end_with}, PutsKept.{basket_aligned, basket_some, puts_kept}}
use Rattle.rio_session.proofs.{SaveAgrees.{header_sized}, SaveHeads.{AreReady}, SaveKept.{heads_then, key, left, long, out, put_segments, ready, save_kept, trees_then, with_both}}

-- ---- the open baskets

-- END rises by no more than their records
pub puts_end : (datime : ℕ) (tree : List ℕ) (count : ℕ) (segments : List Segment) (bs : List BranchFill) (flags : List Bool) → AreSegments segments
    → file_end (put_open datime tree count segments bs flags).segments ≤ file_end segments + sum_by (λ (n : ℕ). n) (put_open datime tree count segments bs flags).lengths
puts_end datime tree count segments [] flags shape = omega arith
puts_end datime tree count segments (b ∷ bs) [] shape = omega arith
puts_end datime tree count segments (b ∷ bs) (true ∷ flags) shape =
    let words = words_of_open tree datime b in
    let n = length_of_basket words in
    let place = place_of segments n in
    let form = (laid_put segments n shape (basket_some words) (basket_aligned words)).0 in
    let end = end_with segments n shape (basket_some words) (basket_aligned words) in
    let rest = puts_end datime tree count (with_segment place n segments) bs flags form in
    omega (arith, end, rest, sum_by-cons (λ (k : ℕ). k) n (put_open datime tree count (with_segment place n segments) bs flags).lengths)
puts_end datime tree count segments (b ∷ bs) (false ∷ flags) shape = omega (arith, puts_end datime tree count segments bs flags shape)

-- they are as long as a close reckons
pub record AreReckoned (datime : ℕ) (tree : List ℕ) (count : ℕ) (segments : List Segment) (bs : List BranchFill) : Type 0 where
  pub sum_is : sum_by (λ (n : ℕ). n) (put_open datime tree count segments bs (open_list bs)).lengths ≡ sum_by padded_length (map (λ (l : BasketLengths). l.size) (open_lengths tree bs))
  pub many : length (put_open datime tree count segments bs (open_list bs)).lengths ≡ length (open_lengths tree bs)

pub reckoned : (datime : ℕ) (tree : List ℕ) (count : ℕ) (segments : List Segment) (bs : List BranchFill) → AreReckoned datime tree count segments bs
reckoned datime tree count segments [] = record { sum_is = refl; many = refl }
reckoned datime tree count segments (b ∷ bs) = by b.entries (λ segs. reckoned datime tree count segs bs)
  where
    by : (es : List (List ℕ)) → ((segs : List Segment) → AreReckoned datime tree count segs bs) → AreReckoned datime tree count segments (record b { entries = es } ∷ bs)
    by [] later = record { sum_is = (later segments).sum_is; many = (later segments).many }
    by (e ∷ es) later =
        let c : BranchFill = record b { entries = e ∷ es } in
        let words = words_of_open tree datime c in
        let n = length_of_basket words in
        let next = with_segment (place_of segments n) n segments in
        let one : n ≡ padded_length (basket_lengths tree b.def (e ∷ es)).size = omega arith in
        let rest = later next in
        let done : BasketsPut = put_open datime tree count next bs (open_list bs) in
        let others : List ℕ = map (λ (l : BasketLengths). l.size) (open_lengths tree bs) in
        let flag : not (has_no_entries c) ≡ true = ap not (eqb-suc-zero (length es)) in
        let put_is : put_open datime tree count segments (c ∷ bs) (open_list (c ∷ bs)) ≡ put_open datime tree count segments (c ∷ bs) (true ∷ open_list bs) =
        ap (λ (f : Bool). put_open datime tree count segments (c ∷ bs) (f ∷ open_list bs)) flag in
        let sums : sum_by (λ (k : ℕ). k) (n ∷ done.lengths) ≡ sum_by padded_length ((basket_lengths tree b.def (e ∷ es)).size ∷ others) =
        omega (arith, one, rest.sum_is, sum_by-cons (λ (k : ℕ). k) n done.lengths, sum_by-cons padded_length (basket_lengths tree b.def (e ∷ es)).size others) in
        let counts : length (n ∷ done.lengths) ≡ length (basket_lengths tree b.def (e ∷ es) ∷ open_lengths tree bs) = omega (arith, rest.many) in
        record {
          sum_is = ap (λ (p : BasketsPut). sum_by (λ (k : ℕ). k) p.lengths) put_is ∙ sums;
          many = ap (λ (p : BasketsPut). length p.lengths) put_is ∙ counts;
        }

-- behind a save none is open
none_open : (saved count : ℕ) (tree : List ℕ) (bs cs : List BranchFill) → AreReady saved count bs cs → open_lengths tree cs ≡ []
none_open saved count tree [] [] are = refl
none_open saved count tree [] (c ∷ cs) are = absurd are
none_open saved count tree (b ∷ bs) [] are = absurd are
none_open saved count tree (b ∷ bs) (c ∷ cs) are =
    ap (λ (es : List (List ℕ)). open_lengths tree (record c { entries = es } ∷ cs)) are.0.none ∙ none_open saved count tree bs cs are.1

-- ---- the key of a header

pub header_fit : (place datime : ℕ) (name : List ℕ) (cycle : ℕ) (head : TreeHead) → place < 2 ^ 32 → length name ≤ 100 → is_fit_key (header_key place datime name cycle head) ≡ true
unfolding header_key
header_fit place datime name cycle head low short =
    and_from _ _ (and_from _ _ (and_from _ _ (and_from _ _ (lt-ltb place (256 ^ 4) (omega (arith, low))) refl) refl) (le-leb (length name) 65535 (omega (arith, short)))) refl

pub key_names : (place datime : ℕ) (name : List ℕ) (cycle : ℕ) (head : TreeHead) → (header_key place datime name cycle head).name ≡ name
unfolding header_key
key_names place datime name cycle head = refl

key_classes : (place datime : ℕ) (name : List ℕ) (cycle : ℕ) (head : TreeHead) → (header_key place datime name cycle head).class ≡ codes "TTree"
unfolding header_key
key_classes place datime name cycle head = refl

-- ---- the save of a tree with pending rows

module _ (s : SessionState) (k : KeyHead) (t : FilledTree) (found_tree : find (is_tree_of k.name) s.trees ≡ Some t) (first : head_of k.name None s.heads ≡ Some k)
    (closable : IsClosableWith s.segments s.heads s.trees s.info s.name) (ordered : AreNamesOrdered s.trees) (form : AreSegments s.segments) where
  abbrev n : ℕ
  n = long s k t found_tree first closable ordered form

  abbrev behind : List Segment
  behind = without_segment k.seek (with_both s k t found_tree first closable ordered form)

  abbrev next : KeyHead
  next = key s k t found_tree first closable ordered form

  abbrev trees_later : List FilledTree
  trees_later = trees_then s k t found_tree first closable ordered form

  abbrev heads_later : List KeyHead
  heads_later = heads_then s k t found_tree first closable ordered form

  abbrev cs : List BranchFill
  cs = (put_open s.datime k.name (entry_count t.fill) s.segments t.fill.branches (open_list t.fill.branches)).branches

  abbrev head : TreeHead
  head = header_of (all_saved (branches_become cs t.fill))

  -- the header's record has some bytes, in words of four, and is as long as a close reckons; its place fits a word, and the key before is a tree's
  module _ (some : 4 ≤ n) (aligned : n % 4 ≡ 0) (reckoned_is : n ≡ padded_length (lengths_of_fill k.name t.fill).header) (low : place_of (put_segments s k t found_tree first closable ordered form) n < 2 ^ 32)
      (short : length k.name ≤ 100) (kind : k.class ≡ codes "TTree") (due : (t.fill.pending == 0) ≡ false) where
    sized : is_sized next ≡ true
    sized = header_sized (place_of (put_segments s k t found_tree first closable ordered form) n) s.datime k.name (k.cycle + 1) head

    fit : is_fit_key next ≡ true
    fit = header_fit (place_of (put_segments s k t found_tree first closable ordered form) n) s.datime k.name (k.cycle + 1) head low short

    without : IsLeftWithout k.seek (left s k t found_tree first closable ordered form some aligned sized fit).0 (with_both s k t found_tree first closable ordered form) behind
    without = (left s k t found_tree first closable ordered form some aligned sized fit).1

    -- the keys are as long
    written_same : length (written_key next) ≡ length (written_key k)
    written_same =
        let taken = out s k t found_tree first closable ordered form in
        let own = eqb-true (length (written_key k)) (head_length k.class k.name) (taken.own is_sized closable.closable.sized) in
        let new = eqb-true (length (written_key next)) (head_length next.class next.name) sized in
        let name = key_names (place_of (put_segments s k t found_tree first closable ordered form) n) s.datime k.name (k.cycle + 1) head in
        let class = key_classes (place_of (put_segments s k t found_tree first closable ordered form) n) s.datime k.name (k.cycle + 1) head in
        new ∙ (λ i. head_length (class i) (name i)) ∙ ap (λ (c : List ℕ). head_length c k.name) (sym kind) ∙ sym own

    heads_same : heads_size heads_later ≡ heads_size s.heads
    heads_same =
        let taken = out s k t found_tree first closable ordered form in
        omega (arith, size_with next (without_head k.name k.cycle s.heads), taken.bytes, written_same)

    -- how many records there are, and where END is
    abbrev opens : List BasketLengths
    opens = open_lengths k.name t.fill.branches

    asked : AreReckoned s.datime k.name (entry_count t.fill) s.segments t.fill.branches
    asked = reckoned s.datime k.name (entry_count t.fill) s.segments t.fill.branches

    count_then : record_count behind ≡ record_count s.segments + length opens
    count_then =
        let put = puts_kept s.datime k.name (entry_count t.fill) s.segments t.fill.branches (open_list t.fill.branches) form in
        omega (arith, without.count, count_with (place_of (put_segments s k t found_tree first closable ordered form) n) n (put_segments s k t found_tree first closable ordered form), put.count, asked.many)

    end_then : file_end behind ≤ file_end s.segments + sum_by padded_length (map (λ (l : BasketLengths). l.size) opens) + n
    end_then =
        let put = puts_kept s.datime k.name (entry_count t.fill) s.segments t.fill.branches (open_list t.fill.branches) form in
        let one = end_with (put_segments s k t found_tree first closable ordered form) n put.shape some aligned in
        let baskets = puts_end s.datime k.name (entry_count t.fill) s.segments t.fill.branches (open_list t.fill.branches) form in
        omega (arith, without.end, one, baskets, asked.sum_is)

    abbrev bytes_of : FilledTree → ℕ
    bytes_of u = (due_of_fill u.name u.fill).bytes

    abbrev baskets_of : FilledTree → ℕ
    baskets_of u = (due_of_fill u.name u.fill).baskets

    abbrev changed_one : FilledTree
    changed_one = record t { fill = all_saved (branches_become cs t.fill) }

    name_of : t.name ≡ k.name
    name_of = found_name k.name t s.trees found_tree

    own_bytes : bytes_of t ≡ sum_by padded_length (map (λ (l : BasketLengths). l.size) opens) + n
    own_bytes =
        let named = ap (λ (name : List ℕ). (due_of_fill name t.fill).bytes) name_of in
        let ls = map (λ (l : BasketLengths). l.size) opens in
        let header = (lengths_of_fill k.name t.fill).header in
        let all : (due_of_fill k.name t.fill).bytes ≡ sum_by padded_length (ls ++ header ∷ []) = ap (λ (b : Bool). sum_by padded_length (if not b then ls ++ header ∷ [] else [])) due in
        omega (arith, named, all, sum_by-append padded_length ls (header ∷ []), sum_by-cons padded_length header [], reckoned_is)

    own_baskets : baskets_of t ≡ length opens
    own_baskets = ap (λ (name : List ℕ). (due_of_fill name t.fill).baskets) name_of

    none_baskets : baskets_of changed_one ≡ 0
    none_baskets = ap (λ (ls : List BasketLengths). length ls) (none_open t.fill.saved (entry_count t.fill) t.name t.fill.branches cs (ready s k t found_tree first closable ordered form))

    abbrev change : TreeFill → TreeFill
    change f = all_saved (branches_become cs f)

    bytes_later : (due_of trees_later).bytes + bytes_of t ≡ (due_of s.trees).bytes
    bytes_later =
        let sums = sum_changed bytes_of k.name change t s.trees ordered found_tree in
        let none : bytes_of changed_one ≡ 0 = refl in
        omega (arith, sums, none)

    baskets_later : (due_of trees_later).baskets + length opens ≡ (due_of s.trees).baskets
    baskets_later =
        let sums = sum_changed baskets_of k.name change t s.trees ordered found_tree in
        omega (arith, sums, own_baskets, none_baskets)

    size_later : close_size s.name (heads_size heads_later) (record_count behind + (due_of trees_later).baskets) ≡ close_size s.name (heads_size s.heads) (record_count s.segments + (due_of s.trees).baskets)
    size_later =
        let heads = heads_same in
        let count : record_count behind + (due_of trees_later).baskets ≡ record_count s.segments + (due_of s.trees).baskets = omega (arith, count_then, baskets_later) in
        λ i. close_size s.name (heads i) (count i)

    room_then : file_end behind + need_with s.name heads_later (record_count behind) trees_later ≤ end_limit
    room_then =
        omega (
          arith,
          need_by_due s.name heads_later (record_count behind) trees_later,
          need_by_due s.name s.heads (record_count s.segments) s.trees,
          size_later,
          bytes_later,
          own_bytes,
          end_then,
          closable.room,
        )

    -- so it can be closed then
    pub closable_by_kept : IsClosableWith (saving_with s k.name t.fill k).kept.segments (saving_with s k.name t.fill k).kept.heads (saving_with s k.name t.fill k).kept.trees s.info s.name
    closable_by_kept = save_kept s k t found_tree first closable ordered form some aligned sized fit room_then
