-- The records that a delete releases: that of a key, and those of the baskets of a tree.
use Rattle.std.proofs.Common.{◌≡◌, ◌∙◌, ℕ, ◌+◌, ◌≤◌, ◌==◌, ◌||◌, ◌&&◌, Bool, true, false, cond, List, [], ◌∷◌, ◌++◌, append_assoc, length, nat_lt, Option, Some, None, refl, sym, ap, subst, arith}
use Rattle.std.proofs.lemmas.{Bool.{and_from, eqb-true, lt-ltb, or_parts}, Option.{same_Some}}
use Rattle.std.proofs.lemmas.List.{Concat.{length-flat_map}, Elements.{All-cons, All-head, All-tail}}
use Rattle.std.proofs.lemmas.List.Sorted.{IsPermutation-append_comm, IsPermutation-append_left, IsPermutation-append_right, IsPermutation-refl, IsPermutation-trans}
use Rattle.std.specs.{List.{All, find, list_all, list_any, sum_by, Sorted.{IsPermutation, IsSortedByKey, IsStrictlyIncreasing}}, Option.{option_map_or}, Ordering.{nat_cmp}}
use Rattle.rio_key.specs.declared.head.KeyHead.{KeyHead}
use Rattle.rio_dir.specs.Table.{head_of, is_at_cycle, without_head}
use Rattle.rio_chain.specs.{Adjoining.{AreSegments}, Placing.{file_end, record_count}, Releasing.{without_segment}, declared.segment.Segment.{Segment, TheVariants.{Record, Gap}}}
use Rattle.rio_recover.specs.{Cleaning.{without_segments}, Closable.{IsClosable, begins_at}, Whole.{HoldsDirectory}}
use Rattle.rio_session.specs.{Due.{IsBranchSound, IsClosableWith, due_of_fill}, Fills.{FilledTree, is_tree_of, places_of_fill, places_of_trees, without_filled}}
use Rattle.rio_session.specs.{Kept.{key_place, places_among, record_places, released_by, tree_places}, Releases.{AreReleasable}, SessionState.{SessionState, baskets_of}}
use Rattle.rio_session.proofs.{Apart.{IsWithin, is_among}, CloseRoom.{directory_left}, FillSums.{sum_without}, KeepsLess.{any_append, taken_out}, KeepsTrees.{with_saves}}
use Rattle.rio_session.proofs.KeepsGone.{baskets_gone, baskets_left, baskets_moved, bytes_less, directory_gone, key_apart, key_begins, key_later, key_left, kept_less, need_with_less, places_releasable}
use Rattle.rio_session.proofs.PlacesInOrder.{among_increase, among_moved, sorted_are}

-- ---- the baskets of one tree, and those of the others

moved_front : (xs ys zs : List ℕ) → IsPermutation (xs ++ (ys ++ zs)) (ys ++ (xs ++ zs))
moved_front xs ys zs =
    subst (λ (l : List ℕ × List ℕ). IsPermutation l.0 l.1) (λ i. (append_assoc xs ys zs i, append_assoc ys xs zs i)) (IsPermutation-append_left zs (xs ++ ys) (ys ++ xs) (IsPermutation-append_comm xs ys))

pub baskets_apart : (name : List ℕ) (t : FilledTree) (trees : List FilledTree) → find (is_tree_of name) trees ≡ Some t → IsPermutation (places_of_trees trees) (places_of_fill t.fill ++ places_of_trees (without_filled name trees))
baskets_apart name t [] found = absurd cc
baskets_apart name t (u ∷ us) found = by (is_tree_of name u) found (baskets_apart name t us)
  where
    by : (b : Bool) → cond b (Some u) (find (is_tree_of name) us) ≡ Some t
        → (find (is_tree_of name) us ≡ Some t → IsPermutation (places_of_trees us) (places_of_fill t.fill ++ places_of_trees (without_filled name us)))
        → IsPermutation (places_of_fill u.fill ++ places_of_trees us) (places_of_fill t.fill ++ places_of_trees (cond b us (u ∷ without_filled name us)))
    by true is rest = subst (λ (v : FilledTree). IsPermutation (places_of_fill u.fill ++ places_of_trees us) (places_of_fill v.fill ++ places_of_trees us)) (same_Some u t is) (IsPermutation-refl (places_of_fill u.fill ++ places_of_trees us))
    by false is rest =
        IsPermutation-trans (places_of_fill u.fill ++ places_of_trees us) (places_of_fill u.fill ++ (places_of_fill t.fill ++ places_of_trees (without_filled name us))) (places_of_fill t.fill ++ (places_of_fill u.fill ++ places_of_trees (without_filled name us)))
        (IsPermutation-append_right (places_of_fill u.fill) (places_of_trees us) (places_of_fill t.fill ++ places_of_trees (without_filled name us)) (rest is))
        (moved_front (places_of_fill u.fill) (places_of_fill t.fill) (places_of_trees (without_filled name us)))

pub none_removed : (name : List ℕ) (trees : List FilledTree) → find (is_tree_of name) trees ≡ None → without_filled name trees ≡ trees
none_removed name [] none = refl
none_removed name (u ∷ us) none = by (is_tree_of name u) none (none_removed name us)
  where
    by : (b : Bool) → cond b (Some u) (find (is_tree_of name) us) ≡ None → (find (is_tree_of name) us ≡ None → without_filled name us ≡ us) → cond b us (u ∷ without_filled name us) ≡ u ∷ us
    by true is rest = absurd cc
    by false is rest = ap (λ (l : List FilledTree). u ∷ l) (rest is)

-- what a close writes of the others
pub sum_less : (f : FilledTree → ℕ) (name : List ℕ) (trees : List FilledTree) → sum_by f (without_filled name trees) ≤ sum_by f trees
sum_less f name trees = by (find (is_tree_of name) trees) refl
  where
    by : (o : Option FilledTree) → find (is_tree_of name) trees ≡ o → sum_by f (without_filled name trees) ≤ sum_by f trees
    by (Some t) is = omega (arith, sum_without f name t trees is)
    by None is = omega (arith, ap (sum_by f) (none_removed name trees is))

pub places_less : (name : List ℕ) (trees : List FilledTree) → length (places_of_trees (without_filled name trees)) ≤ length (places_of_trees trees)
places_less name trees =
    omega (
      arith,
      length-flat_map (λ (t : FilledTree). places_of_fill t.fill) (without_filled name trees),
      length-flat_map (λ (t : FilledTree). places_of_fill t.fill) trees,
      sum_less (λ (t : FilledTree). length (places_of_fill t.fill)) name trees,
    )

-- and what holds of all trees
all_without : (P : FilledTree → Type 0) (name : List ℕ) (trees : List FilledTree) → All P trees → All P (without_filled name trees)
all_without P name [] all = all
all_without P name (u ∷ us) all = by (is_tree_of name u) (all_without P name us (All-tail P u us all))
  where
    by : (b : Bool) → All P (without_filled name us) → All P (cond b us (u ∷ without_filled name us))
    by true rest = All-tail P u us all
    by false rest = All-cons P u (without_filled name us) (All-head P u us all) rest

begins_among : (p : ℕ) (segments : List Segment) → list_any (begins_at p) segments ≡ is_among (record_places segments) p
begins_among p [] = refl
begins_among p (Record q n ∷ segments) = ap (λ (b : Bool). (q == p) || b) (begins_among p segments)
begins_among p (Gap q n ∷ segments) = begins_among p segments

all_within : (places : List ℕ) (segments : List Segment) → list_all (λ p. list_any (begins_at p) segments) places ≡ true → IsWithin places (record_places segments)
all_within [] segments all p e = absurd cc
all_within (q ∷ places) segments all p e = by (list_any (begins_at q) segments) refl all (λ f g. all_within places segments f p g)
  where
    by : (b : Bool) → list_any (begins_at q) segments ≡ b → (b && list_all (λ p. list_any (begins_at p) segments) places) ≡ true
        → (list_all (λ p. list_any (begins_at p) segments) places ≡ true → is_among places p ≡ true → is_among (record_places segments) p ≡ true) → is_among (record_places segments) p ≡ true
    by false is f rest = absurd cc
    by true is f rest = first (q == p) refl e
      where
        first : (c : Bool) → (q == p) ≡ c → (c || is_among places p) ≡ true → is_among (record_places segments) p ≡ true
        first true at g = subst (λ (r : ℕ). is_among (record_places segments) r ≡ true) (eqb-true q p at) (sym (begins_among q segments) ∙ is)
        first false at g = rest f g

module _ (s : SessionState) (shape : AreSegments s.segments) (kept : IsClosable s.segments s.heads s.info (baskets_of s) s.name) where
  abbrev left : List ℕ → List ℕ
  left name = places_of_trees (without_filled name s.trees)

  -- ---- a tree

  module _ (name : List ℕ) (t : FilledTree) (found : find (is_tree_of name) s.trees ≡ Some t) where
    abbrev its : List ℕ
    its = places_of_fill t.fill

    own_kept : IsClosable s.segments s.heads s.info (places_of_fill t.fill ++ places_of_trees (without_filled name s.trees)) s.name
    own_kept = baskets_moved s.segments s.heads s.info (baskets_of s) (its ++ left name) s.name (baskets_apart name t s.trees found) kept

    own_there : AreReleasable s.segments (places_of_fill t.fill)
    own_there = places_releasable s.heads s.info (left name) s.name its s.segments shape own_kept

    within : IsWithin (places_of_fill t.fill) (record_places s.segments)
    within = all_within its s.segments own_there.there

    places_are : tree_places s name ≡ places_among (places_of_fill t.fill) s.segments
    places_are = ap (λ (o : Option FilledTree). option_map_or (λ u. places_among (places_of_fill u.fill) s.segments) o []) found

    -- its baskets in order
    pub sorted_places : (sorted : List ℕ) → IsPermutation (places_of_fill t.fill) sorted → IsSortedByKey (λ x. x) nat_cmp sorted → sorted ≡ tree_places s name
    sorted_places sorted moved up = sorted_are its s.segments shape own_there.apart within sorted moved up ∙ sym places_are

    pub places_moved : IsPermutation (places_of_fill t.fill) (tree_places s name)
    places_moved = subst (IsPermutation its) (sym places_are) (among_moved its s.segments shape own_there.apart within)

    pub places_increase : IsStrictlyIncreasing (tree_places s name)
    places_increase = subst IsStrictlyIncreasing (sym places_are) (among_increase its s.segments shape own_there.apart within)

    some_kept : IsClosable s.segments s.heads s.info (tree_places s name ++ places_of_trees (without_filled name s.trees)) s.name
    some_kept =
        subst (λ (ps : List ℕ). IsClosable s.segments s.heads s.info (ps ++ left name) s.name) (sym places_are)
        (baskets_moved s.segments s.heads s.info (its ++ left name) (places_among its s.segments ++ left name) s.name
        (IsPermutation-append_left (left name) its (places_among its s.segments) (among_moved its s.segments shape own_there.apart within)) own_kept)

  -- ---- of a name

  pub no_places : (name : List ℕ) → find (is_tree_of name) s.trees ≡ None → tree_places s name ≡ []
  no_places name none = ap (λ (o : Option FilledTree). option_map_or (λ u. places_among (places_of_fill u.fill) s.segments) o []) none

  pub tree_kept : (name : List ℕ) → IsClosable s.segments s.heads s.info (tree_places s name ++ places_of_trees (without_filled name s.trees)) s.name
  tree_kept name = by (find (is_tree_of name) s.trees) refl
    where
      by : (o : Option FilledTree) → find (is_tree_of name) s.trees ≡ o → IsClosable s.segments s.heads s.info (tree_places s name ++ places_of_trees (without_filled name s.trees)) s.name
      by (Some t) is = some_kept name t is
      by None is =
          let same : tree_places s name ++ places_of_trees (without_filled name s.trees) ≡ baskets_of s = λ i. no_places name is i ++ places_of_trees (none_removed name s.trees is i) in
          subst (λ (ps : List ℕ). IsClosable s.segments s.heads s.info ps s.name) (sym same) kept

  -- ---- by a delete

  module _ (h : KeyHead) (found : head_of h.name (Some h.cycle) s.heads ≡ Some h) where
    pub released_are : released_by s h.name h.cycle ≡ h.seek ∷ tree_places s h.name
    released_are = ap (λ (o : Option KeyHead). key_place o ++ tree_places s h.name) found

    abbrev gone : List ℕ
    gone = tree_places s h.name

    abbrev fewer : List KeyHead
    fewer = without_head h.name h.cycle s.heads

    first_kept : IsClosable (without_segment h.seek s.segments) (without_head h.name h.cycle s.heads) s.info (tree_places s h.name ++ places_of_trees (without_filled h.name s.trees)) s.name
    first_kept = kept_less s.segments s.heads s.info (gone ++ left h.name) s.name h shape (tree_kept h.name) found

    first_shape : AreSegments (without_segment h.seek s.segments)
    first_shape = (key_left s.segments s.heads s.info (gone ++ left h.name) s.name h shape (tree_kept h.name) found).1.shape

    -- what is kept without the records can be closed
    pub all_gone : IsClosable (without_segments (released_by s h.name h.cycle) s.segments) (without_head h.name h.cycle s.heads) s.info (places_of_trees (without_filled h.name s.trees)) s.name
    all_gone =
        subst (λ (ps : List ℕ). IsClosable (without_segments ps s.segments) fewer s.info (left h.name) s.name) (sym released_are)
        (baskets_gone fewer s.info (left h.name) s.name gone (without_segment h.seek s.segments) first_shape first_kept)

    -- with the saves that are due of the other trees
    pub all_gone_with : IsClosableWith s.segments s.heads s.trees s.info s.name
        → IsClosableWith (without_segments (released_by s h.name h.cycle) s.segments) (without_head h.name h.cycle s.heads) (without_filled h.name s.trees) s.info s.name
    all_gone_with with =
        let then = without_segments (released_by s h.name h.cycle) s.segments in
        let formed = baskets_left fewer s.info (left h.name) s.name gone (without_segment h.seek s.segments) first_shape first_kept in
        let is : without_segments gone (without_segment h.seek s.segments) ≡ then = ap (λ (ps : List ℕ). without_segments ps s.segments) (sym released_are) in
        let first = (key_left s.segments s.heads s.info (gone ++ left h.name) s.name h shape (tree_kept h.name) found).1 in
        let bytes = bytes_less s.heads h found in
        let own = all_gone in
        let one = taken_out (is_at_cycle h.name h.cycle) h s.heads found in
        let few : record_count then ≤ record_count s.segments = omega (arith, own.count, kept.count, one.one, places_less h.name s.trees) in
        let need = need_with_less s.name s.heads fewer (record_count s.segments) (record_count then) s.trees (without_filled h.name s.trees) (omega (arith, bytes)) few
        (sum_less (λ (t : FilledTree). (due_of_fill t.name t.fill).bytes) h.name s.trees) (sum_less (λ (t : FilledTree). (due_of_fill t.name t.fill).baskets) h.name s.trees) in
        let end : file_end then ≤ file_end s.segments = omega (arith, ap file_end is, formed.1, first.end) in
        with_saves then fewer (without_filled h.name s.trees) s.info s.name (subst AreSegments is formed.0) own (omega (arith, need, end, with.room))
        (all_without (λ t. All (IsBranchSound t.fill.saved t.fill.pending) t.fill.branches) h.name s.trees with.sound)

    -- and they can be released
    pub all_releasable : AreReleasable s.segments (released_by s h.name h.cycle)
    all_releasable =
        let there = places_releasable s.heads s.info (left h.name) s.name gone s.segments shape (tree_kept h.name) in
        let begins = key_begins s.segments s.heads s.info (gone ++ left h.name) s.name h shape (tree_kept h.name) found in
        let later = key_later s.segments s.heads s.info (gone ++ left h.name) s.name h shape (tree_kept h.name) found in
        let apart = key_apart s.segments s.heads s.info (gone ++ left h.name) s.name h shape (tree_kept h.name) found in
        subst (λ (ps : List ℕ). AreReleasable s.segments ps) (sym released_are) (record {
          there = and_from (list_any (begins_at h.seek) s.segments) (list_all (λ p. list_any (begins_at p) s.segments) gone) begins there.there;
          later = and_from (nat_lt 100 h.seek) (list_all (nat_lt 100) gone) (lt-ltb 100 h.seek later) there.later;
          apart = ((or_parts (is_among gone h.seek) (is_among (left h.name) h.seek) (sym (any_append h.seek gone (left h.name)) ∙ apart)).0, there.apart);
        })

    pub directory_without : (nbytes_name : ℕ) → HoldsDirectory nbytes_name s.segments → HoldsDirectory nbytes_name (without_segments (released_by s h.name h.cycle) s.segments)
    directory_without nbytes_name holds =
        let later = key_later s.segments s.heads s.info (gone ++ left h.name) s.name h shape (tree_kept h.name) found in
        subst (λ (ps : List ℕ). HoldsDirectory nbytes_name (without_segments ps s.segments)) (sym released_are)
        (directory_gone fewer s.info (left h.name) s.name nbytes_name gone (without_segment h.seek s.segments) first_shape first_kept
        (directory_left nbytes_name h.seek s.segments (without_segment h.seek s.segments) refl later shape.adjacent holds))
