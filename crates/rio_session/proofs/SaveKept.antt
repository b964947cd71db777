-- What a session keeps can be closed behind a save: the baskets and the next header are someone's, and the header before is no more.
use Rattle.std.proofs.Common.{◌≡◌, ◌∙◌, ◌==◌, ◌||◌, ℕ, ◌+◌, ◌%◌, ◌≤◌, Bool, true, false, List, [], ◌∷◌, ◌++◌, length, nat_lt, Option, Some, None, refl, sym, ap, subst, arith}
use Rattle.std.proofs.lemmas.{Bool.{and_from, and_parts, ne_eqb}, List.Elements.{All-from_recursion, recursion_from_All}}
use Rattle.std.specs.{Prelude.{if◌then◌else◌}, List.{All, AllByRecursion, find, list_all, list_any}}
use Rattle.rio_key.specs.declared.head.KeyHead.{KeyHead}
use Rattle.rio_dir.specs.Table.{head_of, is_at_cycle, is_before, with_head, without_head}
use Rattle.rio_chain.specs.{Adjoining.{AreSegments}, FewerRecords.{IsLeftWithout}, Placing.{file_end, place_of, record_count, with_segment}, Releasing.{without_segment}, declared.segment.Segment.{Segment}}
use Rattle.rio_chain.proofs.Laying.{laid_put}
use Rattle.rio_tree.specs.{Refusals.{are_in_order}, declared.head.TreeHead.{TreeHead}}
use Rattle.rio_fill.specs.Fill.{BranchFill, TreeFill, all_saved, count_before, entry_count}
use Rattle.rio_state.specs.Closing.{end_limit}
use Rattle.rio_judge.proofs.KeysOfState.{first_is_found}
use Rattle.rio_recover.specs.Closable.{IsClosable, begins_at, is_fit_key, is_placed, is_sized}
use Rattle.rio_effect.specs.TreeRecords.{header_key, header_record}
use Rattle.rio_session.specs.{Due.{IsBranchSound, IsClosableWith, need_with}, Fillings.{branches_become, open_list, put_open, saving_with}, Fills.{AreNamesOrdered, FilledTree, header_of, is_tree_of, places_of_trees, with_change}}
use Rattle.rio_session.specs.SessionState.{SessionState}
use Rattle.rio_session.proofs.{Apart.{is_among}, BasketsPlaced.{puts_are}, FilledChanges.{changed_all}, FilledFiles.{all_in}, FilledTrees.{found_among}, Keeps.{all_with, any_new, any_still, length_with}, KeepsTrees.{with_saves}, Needs.{need_least}}
use Rattle.rio_session.proofs.KeepsLess.{IsOneLess, IsTakenOut, all_owned, any_append, baskets_in, first_in, heads_in, left_without, list_in, list_place, listed_less, own_places, owned_by, owned_less, owns_counted, placed_less, seeks, seeks_any, stored_less, taken_out}
use Rattle.rio_session.proofs.PutsClosable.{StandRight, new_places, one_header, put_among, put_long, puts_right, rebased, stacked, stacked_among, stacked_long, trees_among, trees_long}
use Rattle.rio_session.proofs.{PutsKept.{puts_kept}, SaveHeads.{AreReady, AreSound, all_ready}}

-- ---- keys

any_with : (test : KeyHead → Bool) (h : KeyHead) (heads : List KeyHead) → list_any test (with_head h heads) ≡ true → (test h || list_any test heads) ≡ true
any_with test h [] e = e
any_with test h (k ∷ ks) e = by (is_before h.name h.cycle k) e (any_with test h ks)
  where
    turned : (a b c : Bool) → (a || b) ≡ true → (b ≡ true → (c || list_any test ks) ≡ true) → (c || (a || list_any test ks)) ≡ true
    turned true b true f next = refl
    turned true b false f next = refl
    turned false b true f next = refl
    turned false b false f next = next f

    by : (b : Bool) → list_any test (if b then k ∷ with_head h ks else h ∷ k ∷ ks) ≡ true → (list_any test (with_head h ks) ≡ true → (test h || list_any test ks) ≡ true) → (test h || list_any test (k ∷ ks)) ≡ true
    by true f next = turned (test k) (list_any test (with_head h ks)) (test h) f next
    by false f next = f

all_back : (test : KeyHead → Bool) (h : KeyHead) (heads : List KeyHead) → list_all test (with_head h heads) ≡ true → (test h ≡ true) × (list_all test heads ≡ true)
all_back test h [] e = and_parts (test h) true e
all_back test h (k ∷ ks) e = by (is_before h.name h.cycle k) e (all_back test h ks)
  where
    by : (b : Bool) → list_all test (if b then k ∷ with_head h ks else h ∷ k ∷ ks) ≡ true → (list_all test (with_head h ks) ≡ true → (test h ≡ true) × (list_all test ks ≡ true)) → (test h ≡ true) × (list_all test (k ∷ ks) ≡ true)
    by true f next = let parts = and_parts (test k) (list_all test (with_head h ks)) f in let rest = next parts.1 in (rest.0, and_from (test k) (list_all test ks) parts.0 rest.1)
    by false f next = and_parts (test h) (list_all test (k ∷ ks)) f

-- ---- a record less, of which no key is left

module _ (x : ℕ) (segments : List Segment) (heads left : List KeyHead) (info : Option KeyHead) (baskets : List ℕ) (shape : AreSegments segments) (right : StandRight segments heads info baskets) (one : length left + 1 ≡ length heads)
    (others : (p : ℕ) → list_any (λ h. h.seek == p) heads ≡ true → (x ≡ p → ⊥) → list_any (λ h. h.seek == p) left ≡ true) (placed : list_all (is_placed segments) left ≡ true) (begins : list_any (begins_at x) segments ≡ true) where
  abbrev owners : List ℕ
  owners = own_places info heads baskets

  abbrev fewer : List ℕ
  fewer = own_places info left baskets

  or_still : (a l b c d : Bool) → (a || (l || (b || d))) ≡ true → (b ≡ true → c ≡ true) → (a || (l || (c || d))) ≡ true
  or_still true l b c d e next = refl
  or_still false true b c d e next = refl
  or_still false false true c d e next = ap (λ (y : Bool). y || d) (next refl)
  or_still false false false true d e next = refl
  or_still false false false false d e next = e

  told : (hs : List KeyHead) (p : ℕ) → is_among (own_places info hs baskets) p ≡ ((100 == p) || (is_among (list_place info) p || (is_among (seeks hs) p || is_among baskets p)))
  told hs p = ap (λ (b : Bool). (100 == p) || b) (any_append p (list_place info) (seeks hs ++ baskets) ∙ ap (λ (b : Bool). is_among (list_place info) p || b) (any_append p (seeks hs) baskets))

  less : IsOneLess x (own_places info heads baskets) (own_places info left baskets)
  less = record {
    one = omega (arith, owns_counted info heads baskets, owns_counted info left baskets, one);
    others = λ p e other.
        told left p
        ∙ or_still (100 == p) (is_among (list_place info) p) (is_among (seeks heads) p) (is_among (seeks left) p) (is_among baskets p) (sym (told heads p) ∙ e) (λ f. seeks_any left p ∙ others p (sym (seeks_any heads p) ∙ f) other);
  }

  owned : list_all (owned_by (own_places info heads baskets)) segments ≡ true
  owned = sym (all_owned info heads baskets segments) ∙ right.owned

  count : record_count segments ≡ length (own_places info heads baskets)
  count = right.count ∙ sym (owns_counted info heads baskets)

  pub without : (n : ℕ) × IsLeftWithout x n segments (without_segment x segments)
  without = left_without x owners fewer less segments shape owned count (first_in info left baskets) begins

  pub right_without : StandRight (without_segment x segments) left info baskets
  right_without =
      let out = without.1 in
      record {
        placed = placed_less x owners fewer less segments shape owned count left (heads_in info left baskets) placed;
        listed = listed_less x owners fewer less segments shape owned count info (list_in info left baskets) right.listed;
        stored = stored_less x owners fewer less segments shape owned count baskets (baskets_in info left baskets) right.stored;
        owned = all_owned info left baskets (without_segment x segments) ∙ owned_less x owners fewer less segments shape owned count 100 segments shape.adjacent owned;
        count = omega (arith, out.count, one, right.count);
      }

-- ---- the branches behind a save

ready_sound : (saved pending : ℕ) (bs cs : List BranchFill) → AreSound saved pending bs → AreReady saved (saved + pending) bs cs → AllByRecursion (IsBranchSound (saved + pending) 0) cs
ready_sound saved pending [] [] sound are = tt
ready_sound saved pending [] (c ∷ cs) sound are = absurd are
ready_sound saved pending (b ∷ bs) [] sound are = absurd are
ready_sound saved pending (b ∷ bs) (c ∷ cs) sound are =
    let none = ap length are.0.none in
    let small = sound.0.small in
    let same : saved + pending ≡ count_before (saved + pending + 0) c = omega (arith, none) in (
      record {
        few = omega (arith, none);
        begins = subst (λ (n : ℕ). list_all (λ at. nat_lt at.first n) c.baskets ≡ true) same are.0.early;
        order = subst (λ (n : ℕ). are_in_order n c.baskets ≡ true) same are.0.order;
        small = omega (arith, small);
      },
      ready_sound saved pending bs cs sound.1 are.1,
    )

key_place_is : (place datime : ℕ) (name : List ℕ) (cycle : ℕ) (head : TreeHead) → (header_key place datime name cycle head).seek ≡ place
unfolding header_key
key_place_is place datime name cycle head = refl

-- ---- a save

-- by what is kept alone, whatever a host tells
module _ (s : SessionState) (k : KeyHead) (t : FilledTree) (found_tree : find (is_tree_of k.name) s.trees ≡ Some t) (first : head_of k.name None s.heads ≡ Some k)
    (closable : IsClosableWith s.segments s.heads s.trees s.info s.name) (ordered : AreNamesOrdered s.trees) (form : AreSegments s.segments) where
  abbrev cs : List BranchFill
  cs = (put_open s.datime k.name (entry_count t.fill) s.segments t.fill.branches (open_list t.fill.branches)).branches

  abbrev head : TreeHead
  head = header_of (all_saved (branches_become cs t.fill))

  abbrev pub long : ℕ
  long = length (header_record 0 s.datime k.name (k.cycle + 1) head)

  abbrev pub put_segments : List Segment
  put_segments = (put_open s.datime k.name (entry_count t.fill) s.segments t.fill.branches (open_list t.fill.branches)).segments

  abbrev pub key : KeyHead
  key = header_key (place_of put_segments long) s.datime k.name (k.cycle + 1) head

  abbrev change : TreeFill → TreeFill
  change f = all_saved (branches_become cs f)

  abbrev pub trees_then : List FilledTree
  trees_then = with_change k.name change s.trees

  abbrev pub with_both : List Segment
  with_both = with_segment (place_of put_segments long) long put_segments

  abbrev fewer_heads : List KeyHead
  fewer_heads = without_head k.name k.cycle s.heads

  abbrev pub heads_then : List KeyHead
  heads_then = with_head key fewer_heads

  abbrev new : List ℕ
  new = new_places s.datime k.name s.segments t.fill.branches (open_list t.fill.branches)

  abbrev base : List ℕ
  base = places_of_trees s.trees

  pub out : IsTakenOut k s.heads (without_head k.name k.cycle s.heads)
  out = taken_out (is_at_cycle k.name k.cycle) k s.heads (first_is_found k.name s.heads k first)

  begun : StandRight s.segments s.heads s.info base
  begun = record { placed = closable.closable.placed; listed = closable.closable.listed; stored = closable.closable.stored; owned = closable.closable.owned; count = closable.closable.count }

  put_right : StandRight put_segments s.heads s.info (stacked new base)
  put_right = puts_right s.datime k.name (entry_count t.fill) s.segments t.fill.branches (open_list t.fill.branches) s.heads s.info base begun

  tree_right : StandRight put_segments s.heads s.info (places_of_trees trees_then)
  tree_right =
      let among = λ (p : ℕ).
      trees_among k.name change new t p (put_among s.datime k.name (entry_count t.fill) s.segments t.fill.branches (open_list t.fill.branches) p) s.trees ordered found_tree ∙ sym (stacked_among new base p) in
      let many = trees_long k.name change new t (put_long s.datime k.name (entry_count t.fill) s.segments t.fill.branches (open_list t.fill.branches)) s.trees ordered found_tree ∙ sym (stacked_long new base) in
      rebased put_segments s.heads s.info (stacked new base) (places_of_trees trees_then) among many put_right

  both_right : StandRight with_both (with_head key s.heads) s.info (places_of_trees trees_then)
  both_right =
      subst (λ (p : ℕ). StandRight (with_segment p long put_segments) (with_head key s.heads) s.info (places_of_trees trees_then)) (key_place_is (place_of put_segments long) s.datime k.name (k.cycle + 1) head)
      (one_header key long put_segments s.heads s.info (places_of_trees trees_then) tree_right)

  others : (p : ℕ) → list_any (λ j. j.seek == p) (with_head key s.heads) ≡ true → (k.seek ≡ p → ⊥) → list_any (λ j. j.seek == p) heads_then ≡ true
  others p e other = by (key.seek == p) refl (any_with (λ j. j.seek == p) key s.heads e)
    where
      by : (b : Bool) → (key.seek == p) ≡ b → (b || list_any (λ j. j.seek == p) s.heads) ≡ true → list_any (λ j. j.seek == p) heads_then ≡ true
      by true is f = any_new (λ j. j.seek == p) key fewer_heads is
      by false is f = any_still (λ j. j.seek == p) key fewer_heads (out.any (λ j. j.seek == p) f (ne_eqb k.seek p other))

  one : length heads_then + 1 ≡ length (with_head key s.heads)
  one = omega (arith, length_with key fewer_heads, length_with key s.heads, out.one)

  parts : (is_placed with_both key ≡ true) × (list_all (is_placed with_both) s.heads ≡ true)
  parts = all_back (is_placed with_both) key s.heads both_right.placed

  own_sound : AreSound t.fill.saved t.fill.pending t.fill.branches
  own_sound =
      recursion_from_All (IsBranchSound t.fill.saved t.fill.pending) t.fill.branches
      (all_in (λ (u : FilledTree). All (IsBranchSound u.fill.saved u.fill.pending) u.fill.branches) t s.trees closable.sound (found_among k.name t s.trees found_tree))

  pub ready : AreReady t.fill.saved (entry_count t.fill) t.fill.branches cs
  ready = all_ready t.fill.saved t.fill.pending t.fill.branches cs own_sound (puts_are s.datime k.name (entry_count t.fill) s.segments t.fill.branches (open_list t.fill.branches))

  abbrev is_all_sound : FilledTree → Type 0
  is_all_sound u = All (IsBranchSound u.fill.saved u.fill.pending) u.fill.branches

  sound_then : All (λ (u : FilledTree). All (IsBranchSound u.fill.saved u.fill.pending) u.fill.branches) trees_then
  sound_then =
      changed_all k.name change is_all_sound t s.trees ordered found_tree
      (All-from_recursion (IsBranchSound (entry_count t.fill) 0) cs (ready_sound t.fill.saved t.fill.pending t.fill.branches cs own_sound ready)) closable.sound

  -- the next header's record has some bytes, in words of four, and its key can be written; behind the save there is room for a close
  module _ (some : 4 ≤ long) (aligned : long % 4 ≡ 0) (sized : is_sized key ≡ true) (fit : is_fit_key key ≡ true) where
    shape : AreSegments with_both
    shape =
        let put = (puts_kept s.datime k.name (entry_count t.fill) s.segments t.fill.branches (open_list t.fill.branches) form).shape in
        (laid_put put_segments long put some aligned).0

    placed_then : list_all (is_placed with_both) heads_then ≡ true
    placed_then = all_with (is_placed with_both) key fewer_heads parts.0 (out.all (is_placed with_both) parts.1)

    begins : list_any (begins_at k.seek) with_both ≡ true
    begins = out.own (is_placed with_both) parts.1

    pub left : (n : ℕ) × IsLeftWithout k.seek n with_both (without_segment k.seek with_both)
    left = without k.seek with_both (with_head key s.heads) heads_then s.info (places_of_trees trees_then) shape both_right one others placed_then begins

    right_then : StandRight (without_segment k.seek with_both) heads_then s.info (places_of_trees trees_then)
    right_then = right_without k.seek with_both (with_head key s.heads) heads_then s.info (places_of_trees trees_then) shape both_right one others placed_then begins

    module _ (room : file_end (without_segment k.seek with_both) + need_with s.name heads_then (record_count (without_segment k.seek with_both)) trees_then ≤ end_limit) where
      closable_then : IsClosable (without_segment k.seek with_both) heads_then s.info (places_of_trees trees_then) s.name
      closable_then = record {
        sized = all_with is_sized key fewer_heads sized (out.all is_sized closable.closable.sized);
        fit = all_with is_fit_key key fewer_heads fit (out.all is_fit_key closable.closable.fit);
        placed = right_then.placed;
        listed = right_then.listed;
        stored = right_then.stored;
        owned = right_then.owned;
        short = closable.closable.short;
        count = right_then.count;
        room = let least = need_least s.name heads_then (record_count (without_segment k.seek with_both)) trees_then in omega (arith, least, room);
      }

      pub save_kept : IsClosableWith (saving_with s k.name t.fill k).kept.segments (saving_with s k.name t.fill k).kept.heads (saving_with s k.name t.fill k).kept.trees s.info s.name
      save_kept = let out_of = left in with_saves (without_segment k.seek with_both) heads_then trees_then s.info s.name out_of.1.shape closable_then room sound_then
