-- Where there is no room for a save, the costs with its own pass what there is room for.
use Rattle.std.proofs.Common.{◌≡◌, ◌∙◌, ◌==◌, ℕ, ◌+◌, ◌*◌, ◌-◌, ◌^◌, ◌<◌, ◌≤◌, codes, min, List, [], ◌∷◌, ◌++◌, length, map, Bool, true, false, not, nat_lt, Some, None, refl, sym, ap, mul_assoc, suc-mul, arith}
use Rattle.std.proofs.lemmas.{Bool.{and_parts, eqb-true, ltb-true}, List.{length-map, Sums.{sum_by-append, sum_by-cons, sum_by_push}}}
use Rattle.std.specs.{Prelude.{if◌then◌else◌}, List.{All, find, sum_by}}
use Rattle.rio_key.specs.{Written.{written_key}, declared.head.KeyHead.{KeyHead}}
use Rattle.rio_dir.specs.Table.{head_of, heads_size, with_head, without_head}
use Rattle.rio_chain.specs.{Placing.{place_of, record_count}}
use Rattle.rio_machine.specs.{Limits.{head_length}, State.{State}}
use Rattle.rio_tree.specs.{HeaderLength.{header_size}, Refusals.{are_in_order, rise_behind}, declared.basket_at.BasketAt.{BasketAt}, declared.head.TreeHead.{TreeHead}}
use Rattle.rio_fill.specs.Fill.{BranchFill, TreeFill, count_before, defs_of, entry_count}
use Rattle.rio_state.specs.{Closing.{KeptRecords, end_limit, held_with, is_full, list_length, padded_length}, Sizes.{close_size}, TreeLengths.{BasketLengths, pending_in}}
use Rattle.rio_step.specs.Costs.{room_limit}
use Rattle.rio_effect.specs.TreeRecords.{header_key, header_record}
use Rattle.rio_session.specs.{Due.{IsBranchSound, IsClosableWith, due_of_fill, kept_records, lengths_of_fill, open_lengths, written_count}, Fillings.{BasketsPut}, Fills.{FilledTree, is_tree_of}}
use Rattle.rio_session.specs.{SavePlans.{due_of_save, head_now, need_of_save, next_key, put_now, saving_now}, Session.{HoldsState}, SessionState.{SessionState}, declared.open_tree.Due.{Due}}
use Rattle.rio_session.proofs.{KeptRoom.{reckoned}, FilledFiles.{filled_now, held_most}, FillSums.{due_baskets, sum_without}, HeaderMade.{key_low}, Keeps.{size_with}, KeepsGone.{bytes_less}, LaidLengths.{all_most}, Lacking.{lacking}, PlanRoom.{plan_full_is}}
use Rattle.rio_session.proofs.{SaveAgrees.{header_sized}, SaveHeads.{AreSound, are_early, early_before}, SaveLengths.{next_long, opened_many, sound_now}, SaveRoom.{tree_named}}
use Rattle.rio_judge.proofs.KeysOfState.{first_is_found}

-- ---- baskets are no more than entries

rise_few : (count first : ℕ) (ats : List BasketAt) → first < count → rise_behind first ats ≡ true → are_early count ats ≡ true → first + 1 + length ats ≤ count
rise_few count first [] low rises early = omega (arith, low)
rise_few count first (at ∷ ats) low rises early =
    let one = and_parts (nat_lt first at.first) (rise_behind at.first ats) rises in
    let two = and_parts (nat_lt at.first count) (are_early count ats) early in
    let rest = rise_few count at.first ats (ltb-true at.first count two.0) one.1 two.1 in
    omega (arith, rest, ltb-true first at.first one.0)

few_baskets : (count order : ℕ) (ats : List BasketAt) → are_in_order order ats ≡ true → are_early count ats ≡ true → length ats ≤ count
few_baskets count order [] in_order early = omega arith
few_baskets count order (at ∷ ats) in_order early =
    let one = and_parts (at.first == 0) (rise_behind at.first ats) in_order in
    let two = and_parts (nat_lt at.first count) (are_early count ats) early in
    let rest = rise_few count at.first ats (ltb-true at.first count two.0) one.1 two.1 in
    omega (arith, rest)

few_written : (saved pending : ℕ) (bs : List BranchFill) → AreSound saved pending bs → written_count bs ≤ length bs * (saved + pending)
few_written saved pending [] sound = omega arith
few_written saved pending (b ∷ bs) sound =
    let count = saved + pending in
    let own = few_baskets count (count_before count b) b.baskets sound.0.order (early_before count b b.baskets sound.0.begins) in
    let rest = few_written saved pending bs sound.1 in
    let all : length (b ∷ bs) * (saved + pending) ≡ length bs * (saved + pending) + (saved + pending) = suc-mul (length bs) (saved + pending) in
    omega (arith, own, rest, all, sum_by-cons (λ (c : BranchFill). length c.baskets) b bs)

-- without pending rows no basket is open
idle_opens : (tree : List ℕ) (saved pending : ℕ) (bs : List BranchFill) → pending ≡ 0 → AreSound saved pending bs → open_lengths tree bs ≡ []
idle_opens tree saved pending [] none sound = refl
idle_opens tree saved pending (b ∷ bs) none sound =
    ap (λ (es : List (List ℕ)). open_lengths tree (record b { entries = es } ∷ bs)) (empty b.entries (omega (arith, none, sound.0.few))) ∙ idle_opens tree saved pending bs none sound.1
  where
    empty : (es : List (List ℕ)) → length es ≤ 0 → es ≡ []
    empty [] low = refl
    empty (e ∷ es) low = absurd (omega (arith, low))

-- ---- the key

pub class_named : (place datime : ℕ) (name : List ℕ) (cycle : ℕ) (head : TreeHead) → head_length (header_key place datime name cycle head).class (header_key place datime name cycle head).name ≡ head_length (codes "TTree") name
unfolding header_key
class_named place datime name cycle head = refl

-- ---- a save of a tree

module _ (s : SessionState) (k : KeyHead) (f : TreeFill) (found : find (is_tree_of k.name) s.trees ≡ Some (tree_named k f)) (first : head_of k.name None s.heads ≡ Some k)
    (short : length k.name ≤ 100) (sound : All (IsBranchSound f.saved f.pending) f.branches) where
  abbrev t : FilledTree
  t = tree_named k f

  abbrev put : BasketsPut
  put = put_now s (tree_named k f)

  abbrev key : KeyHead
  key = next_key s (tree_named k f) k

  abbrev sizes : List ℕ
  sizes = map (λ (l : BasketLengths). l.size) (open_lengths k.name f.branches)

  abbrev header : ℕ
  header = (lengths_of_fill k.name f).header

  abbrev mine : KeptRecords
  mine = kept_records s.name s.heads (record_count s.segments) s.trees

  abbrev own : Due
  own = due_of_fill k.name f

  -- its records together
  lengths_sum : sum_by (λ (n : ℕ). n) (saving_now s (tree_named k f) k).lengths ≡ sum_by padded_length sizes + padded_length header
  lengths_sum =
      let n = length (header_record 0 s.datime k.name (k.cycle + 1) (head_now s t)) in
      omega (arith, sum_by_push (λ (m : ℕ). m) put.lengths n, (reckoned s.datime k.name (entry_count f) s.segments f.branches).sum_is, next_long s t sound k)

  opens_many : length put.lengths ≡ own.baskets
  opens_many = opened_many s.datime k.name (entry_count f) s.segments f.branches

  -- what a close needs then, but for what the saves write
  size_most : (live : ℕ) → close_size s.name (heads_size (with_head key (without_head k.name k.cycle s.heads))) live
      ≤ list_length mine + 137 + (head_length (codes "TFile") s.name + 10 * (live + 2) + 3)
  unfolding close_size
  size_most live =
      let n = length (header_record 0 s.datime k.name (k.cycle + 1) (head_now s t)) in
      let place = place_of put.segments n in
      let sized = eqb-true (length (written_key key)) (head_length key.class key.name) (header_sized place s.datime k.name (k.cycle + 1) (head_now s t)) in
      let class = class_named place s.datime k.name (k.cycle + 1) (head_now s t) in
      omega (
        arith,
        size_with key (without_head k.name k.cycle s.heads),
        bytes_less s.heads k (first_is_found k.name s.heads k first),
        sized,
        class,
        key_low k.name short,
      )

  -- what it writes, if it is due
  own_due : (f.pending == 0) ≡ false → own.bytes ≡ sum_by padded_length sizes + padded_length header
  own_due due =
      let all : own.bytes ≡ sum_by padded_length (sizes ++ header ∷ []) = ap (λ (b : Bool). sum_by padded_length (if not b then sizes ++ header ∷ [] else [])) due in
      omega (arith, all, sum_by-append padded_length sizes (header ∷ []), sum_by-cons padded_length header [])

  own_idle : (f.pending == 0) ≡ true → own.bytes ≡ 0
  own_idle idle = ap (λ (b : Bool). sum_by padded_length (if not b then sizes ++ header ∷ [] else [])) idle

  -- without pending rows only the header
  header_most : (f.pending == 0) ≡ true → sum_by padded_length sizes + padded_length header ≤ 137 + header_size k.name (defs_of f.branches) + 20 * length (defs_of f.branches) * (f.saved + f.pending)
  header_most idle =
      let none = idle_opens k.name f.saved f.pending f.branches (eqb-true f.pending 0 idle) (sound_now s t sound) in
      let sums : sum_by padded_length sizes ≡ 0 = ap (λ (ls : List BasketLengths). sum_by padded_length (map (λ (l : BasketLengths). l.size) ls)) none in
      let many : length (open_lengths k.name f.branches) ≡ 0 = ap (λ (ls : List BasketLengths). length ls) none in
      let wide : length (defs_of f.branches) ≡ length f.branches = length-map f.branches (λ (b : BranchFill). b.def) in
      let product : length (defs_of f.branches) * (f.saved + f.pending) ≡ length f.branches * (f.saved + f.pending) = ap (λ (n : ℕ). n * (f.saved + f.pending)) wide in
      let padded : padded_length header ≤ header + 3 = omega arith in
      omega (
        arith,
        sums,
        many,
        padded,
        product,
        few_written f.saved f.pending f.branches (sound_now s t sound),
        mul_assoc 20 (length (defs_of f.branches)) (f.saved + f.pending),
        key_low k.name short,
      )

  module _ (m : State) (file : List ℕ) (h : HoldsState s m file) (closable : IsClosableWith s.segments s.heads s.trees s.info s.name)
      (full : is_full s.segments (saving_now s (tree_named k f) k).lengths (need_of_save s (tree_named k f) k) ≡ true) where
    abbrev cost : ℕ
    cost = 240 + header_size k.name (defs_of f.branches) + 20 * length (defs_of f.branches) * (f.saved + f.pending)

    much : end_limit < held_with (pending_in m) h.links + cost + 100000
    much = by (f.pending == 0) refl
      where
        by : (b : Bool) → (f.pending == 0) ≡ b → end_limit < held_with (pending_in m) h.links + cost + 100000
        by true idle =
            omega (
              arith,
              plan_full_is s.segments (saving_now s t k).lengths (need_of_save s t k) full,
              all_most (saving_now s t k).lengths s.segments,
              held_most s m h.links (filled_now s m file h closable) (sym h.chain.same),
              sum_without (λ (u : FilledTree). (due_of_fill u.name u.fill).bytes) k.name t s.trees found,
              sum_without (λ (u : FilledTree). (due_of_fill u.name u.fill).baskets) k.name t s.trees found,
              lengths_sum,
              opens_many,
              size_most (record_count s.segments + length put.lengths + (due_of_save s t).baskets),
              due_baskets s.trees,
              own_idle idle,
              header_most idle,
            )
        by false due =
            omega (
              arith,
              plan_full_is s.segments (saving_now s t k).lengths (need_of_save s t k) full,
              all_most (saving_now s t k).lengths s.segments,
              held_most s m h.links (filled_now s m file h closable) (sym h.chain.same),
              sum_without (λ (u : FilledTree). (due_of_fill u.name u.fill).bytes) k.name t s.trees found,
              sum_without (λ (u : FilledTree). (due_of_fill u.name u.fill).baskets) k.name t s.trees found,
              lengths_sum,
              opens_many,
              size_most (record_count s.segments + length put.lengths + (due_of_save s t).baskets),
              due_baskets s.trees,
              own_due due,
            )

    pub save_lacks : room_limit < 3 * s.opened + min (s.costs + (240 + header_size k.name (defs_of f.branches) + 20 * length (defs_of f.branches) * (f.saved + f.pending))) (2 ^ 64 - 1)
    save_lacks = lacking (3 * s.opened) s.costs cost (held_with (pending_in m) h.links) h.held much
