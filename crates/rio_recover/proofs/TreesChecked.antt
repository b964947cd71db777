-- One key more that was checked, with its tree.
use Rattle.std.proofs.Common.{◌≡◌, ◌∙◌, ℕ, ◌+◌, ◌≤◌, List, [], ◌∷◌, ◌++◌, append-nil, length, map, Bool, true, false, cond, not, ◌&&◌, ◌||◌, ◌==◌, Option, Some, None, refl, sym, ap, subst, arith}
use Rattle.std.proofs.lemmas.{Bool.{and_from, and_parts}, List.{map-append, Concat.{flat_map-append}, Elements.{All-cons, All-push, filter-append, filter_map-append}, Sorted.{All-permutation, IsPermutation-cons, IsPermutation-map, IsPermutation-sym, IsPermutation-to_front, IsPermutation-trans, list_any-IsPermutation, sum_by-IsPermutation}, Sums.{sum_by-append, sum_by-cons}}}
use Rattle.std.specs.{List.{All, cons_option, filter, filter_map, flat_map, list_all, list_any, sum_by, Sorted.{IsPermutation}}, Option.{option_map}}
use Rattle.rio_key.specs.declared.head.KeyHead.{KeyHead}
use Rattle.rio_tree.specs.declared.head.TreeHead.{TreeHead}
use Rattle.rio_dir.specs.Table.{with_head}
use Rattle.rio_state.specs.{Contents.{FileClasses}, KeyedRecords.{KeyedRecord, is_tree_record, top_keys}, Reasons.{Beside}, Trees.{all_places_named, basket_places, header_in}}
use Rattle.rio_recover.specs.{Baskets.{AreOnce, HasPlaces, has_baskets}, Checks.{AreDataBytes, GivesTree, HasChecked, HasNamed, IsChecking, IsNext, NotesHeader, PassesKey, header_records, is_header_key, is_item_key, is_item_kind, is_untitled, kind_of, tree_named, with_key}}
use Rattle.rio_recover.specs.{Keys.{keyed_by, record_heads}, Names.{IndexesNames}, Trees.{AreWholeBranches, places_of, tree_at, trees_at}, TreeTable.{with_tree}}
use Rattle.rio_recover.specs.{declared.judge.KeyCheck.{KeyCheck}, declared.named.NamedPlaces.{NamedPlaces}, declared.trees.TreeAt.{TreeAt}}
use Rattle.rio_recover.specs.declared.judge.KeyKind.{KeyKind}
use Rattle.rio_recover.proofs.{Checking.{moved_with}, ItemsChecked.{items_more, outdated_more}, KeyJudged.{untitled_with}, KeyKinds.{item_kind}, OncePlaces.{once_more, once_moved}, PlacesNoted.{SamePlaces, places_same}, Tables.{any-append}, TreeJudged.{headers_more, headers_same}, TreeOrder.{with_moved}}

-- a tree that is put is the last of some others
pub moved_tree : (before old new : List TreeAt) (t : TreeAt) → IsPermutation before old → new ≡ with_tree t old → IsPermutation (before ++ t ∷ []) new
moved_tree before old new t moved is =
    subst (IsPermutation (before ++ t ∷ [])) (sym is)
    (IsPermutation-trans (before ++ t ∷ []) (t ∷ old) (with_tree t old)
    (IsPermutation-trans (before ++ t ∷ []) (t ∷ before) (t ∷ old) (IsPermutation-to_front before t) (IsPermutation-cons t before old moved)) (with_moved t old))

-- ---- the places of the baskets of trees, one tree more in its place

pub any_flat : {A B : Type 0} (p : B → Bool) (f : A → List B) (xs : List A) → list_any p (flat_map f xs) ≡ list_any (λ x. list_any p (f x)) xs
any_flat p f [] = refl
any_flat p f (x ∷ xs) = any-append p (f x) (flat_map f xs) ∙ ap (λ (b : Bool). list_any p (f x) || b) (any_flat p f xs)

sum_flat : {A B : Type 0} (g : B → ℕ) (f : A → List B) (xs : List A) → sum_by g (flat_map f xs) ≡ sum_by (λ x. sum_by g (f x)) xs
sum_flat g f [] = refl
sum_flat g f (x ∷ xs) = omega (arith, sum_by-append g (f x) (flat_map f xs), sum_flat g f xs, sum_by-cons (λ y. sum_by g (f y)) x xs)

abbrev tree_places : TreeAt → List ℕ
tree_places t = basket_places t.head

same_places : (t : TreeAt) (ts : List TreeAt) → SamePlaces (places_of ts ++ tree_places t) (places_of (with_tree t ts))
same_places t ts p =
    any-append (λ q. p == q) (places_of ts) (tree_places t)
    ∙ turned (list_any (λ q. p == q) (places_of ts)) (list_any (λ q. p == q) (tree_places t))
    ∙ ap (λ (b : Bool). list_any (λ q. p == q) (tree_places t) || b) (any_flat (λ q. p == q) tree_places ts)
    ∙ list_any-IsPermutation (λ u. list_any (λ q. p == q) (tree_places u)) (t ∷ ts) (with_tree t ts) (with_moved t ts)
    ∙ sym (any_flat (λ q. p == q) tree_places (with_tree t ts))
  where
    turned : (a b : Bool) → (a || b) ≡ (b || a)
    turned true true = refl
    turned true false = refl
    turned false true = refl
    turned false false = refl

same_once : (t : TreeAt) (ts : List TreeAt) → AreOnce (places_of ts ++ tree_places t) → AreOnce (places_of (with_tree t ts))
same_once t ts once p =
    let count : ℕ → ℕ = λ q. cond (p == q) 1 0 in
    omega (
      arith,
      once p,
      sum_by-append count (places_of ts) (tree_places t),
      sum_flat count tree_places ts,
      sum_flat count tree_places (with_tree t ts),
      sum_by-IsPermutation (λ u. sum_by count (tree_places u)) (t ∷ ts) (with_tree t ts) (with_moved t ts),
      sum_by-cons (λ u. sum_by count (tree_places u)) t ts,
    )

-- ---- by the records of the file

module _ (beside : Beside) (before : List KeyedRecord) (r : KeyedRecord) (head : KeyHead) (same : r.head ≡ head) (kind : KeyKind) (kinds : kind ≡ kind_of beside.tops head) (old mid : KeyCheck) (so : IsChecking beside before old)
    (named : NamedPlaces) (passes : PassesKey head kind (record old { named = named }) mid) (noted : HasNamed beside (before ++ r ∷ []) named) where
  item : is_item_key beside.tops head ≡ is_item_kind kind
  item = sym (item_kind beside.tops head) ∙ ap is_item_kind (sym kinds)

  -- with these trees
  with_trees : (trees : List TreeAt) → IsPermutation (trees_at beside.classes (header_records beside.tops (before ++ r ∷ []))) trees → All AreDataBytes (header_records beside.tops (before ++ r ∷ [])) → IsChecking beside (before ++ r ∷ []) (record mid { trees = trees })
  with_trees trees moved bytes = record {
    keys = record {
      names = subst (IndexesNames beside.tops) (sym passes.names) so.keys.names;
      items = items_more beside before r head same (is_item_kind kind) old.items.heads mid.items.heads item so.keys.items passes.items;
      outdated = outdated_more beside before r head same (not (is_item_kind kind)) old.outdated.heads mid.outdated.heads (ap not item) so.keys.outdated passes.outdated;
    };
    trees = moved;
    named = subst (HasNamed beside (before ++ r ∷ [])) (sym passes.named) noted;
    plain = bytes;
  }

  -- no tree
  pub no_tree_more : is_tree_record beside.tops r ≡ false → IsChecking beside (before ++ r ∷ []) mid
  no_tree_more e =
      with_trees mid.trees
      (subst (λ (rs : List KeyedRecord). IsPermutation (trees_at beside.classes rs) mid.trees) (sym (headers_same beside before r e)) (subst (IsPermutation (trees_at beside.classes (header_records beside.tops before))) (sym passes.trees) so.trees))
      (subst (All AreDataBytes) (sym (headers_same beside before r e)) so.plain)

  -- one tree more
  pub tree_more : (tree : TreeHead) (new : KeyCheck) → is_tree_record beside.tops r ≡ true → AreDataBytes r → header_in beside.classes r ≡ Some tree
      → new ≡ record mid { trees = with_tree (tree_named head tree) mid.trees } → IsChecking beside (before ++ r ∷ []) new
  tree_more tree new e bytes is are =
      let t = tree_named head tree in
      let mine : tree_at beside.classes r ≡ Some t = ap (λ (o : Option TreeHead). option_map (λ h. tree_named r.head h) o) is ∙ ap (λ (k : KeyHead). some (tree_named k tree)) same in
      let all : trees_at beside.classes (header_records beside.tops (before ++ r ∷ [])) ≡ trees_at beside.classes (header_records beside.tops before) ++ t ∷ [] =
      ap (trees_at beside.classes) (headers_more beside before r e)
      ∙ filter_map-append (tree_at beside.classes) (header_records beside.tops before) (r ∷ [])
      ∙ ap (λ (o : Option TreeAt). trees_at beside.classes (header_records beside.tops before) ++ cons_option o []) mine in
      let moved = moved_tree (trees_at beside.classes (header_records beside.tops before)) old.trees (with_tree t mid.trees) t so.trees (ap (with_tree t) passes.trees) in
      let all_bytes = subst (All AreDataBytes) (sym (headers_more beside before r e)) (All-push AreDataBytes (header_records beside.tops before) r so.plain bytes) in
      subst (IsChecking beside (before ++ r ∷ [])) (sym are) (with_trees (with_tree t mid.trees) (subst (λ (ts : List TreeAt). IsPermutation ts (with_tree t mid.trees)) (sym all) moved) all_bytes)
    where
      some : TreeAt → Option TreeAt
      some x = Some x

-- ---- whatever the host tells

module _ (all before : List KeyHead) (head : KeyHead) (kind : KeyKind) (old mid : KeyCheck) (named : NamedPlaces) (passes : PassesKey head kind (record old { named = named }) mid) (so : HasChecked all before old)
    (untitled : is_untitled head ≡ true) (kinds : kind ≡ kind_of (top_keys (keyed_by all)) head) where
  abbrev tops : List KeyedRecord
  tops = top_keys (keyed_by all)

  item_key : is_item_key tops head ≡ is_item_kind kind
  item_key = sym (item_kind tops head) ∙ ap is_item_kind (sym kinds)

  keys_with : (b : Bool) → is_item_kind kind ≡ b → (filter (is_item_key tops) (before ++ head ∷ []) ≡ filter (is_item_key tops) before ++ cond b (head ∷ []) []) × (mid.items.heads ≡ with_key b head old.items.heads)
  keys_with b e = (
    filter-append (is_item_key tops) before (head ∷ []) ∙ ap (λ (c : Bool). filter (is_item_key tops) before ++ cond c (head ∷ []) []) (item_key ∙ e),
    passes.items ∙ ap (λ (c : Bool). with_key c head old.items.heads) e,
  )

  record ItemsMore : Type 0 where
    items : IsPermutation (filter (is_item_key tops) (before ++ head ∷ [])) mid.items.heads
    plain : list_all is_untitled mid.items.heads ≡ true

  items_with : (b : Bool) → is_item_kind kind ≡ b → ItemsMore
  items_with true e =
      let w = keys_with true e in
      record {
        items = subst (λ (hs : List KeyHead). IsPermutation hs mid.items.heads) (sym w.0) (moved_with (filter (is_item_key tops) before) old.items.heads mid.items.heads head so.items w.1);
        plain = ap (list_all is_untitled) w.1 ∙ untitled_with head old.items.heads untitled so.untitled;
      }
  items_with false e =
      let w = keys_with false e in
      record {
        items = subst (λ (hs : List KeyHead). IsPermutation hs mid.items.heads) (sym (w.0 ∙ append-nil (filter (is_item_key tops) before))) (subst (IsPermutation (filter (is_item_key tops) before)) (sym w.1) so.items);
        plain = ap (list_all is_untitled) w.1 ∙ so.untitled;
      }

  names_with : (b : Bool) → is_header_key tops head ≡ b
      → map (λ h. h.name) (filter (is_header_key tops) (before ++ head ∷ [])) ≡ map (λ h. h.name) (filter (is_header_key tops) before) ++ cond b (head.name ∷ []) []
  names_with b e =
      ap (map (λ h. h.name)) (filter-append (is_header_key tops) before (head ∷ []) ∙ ap (λ (c : Bool). filter (is_header_key tops) before ++ cond c (head ∷ []) []) e)
      ∙ map-append (λ h. h.name) (filter (is_header_key tops) before) (cond b (head ∷ []) [])
      ∙ ap (λ (ns : List (List ℕ)). map (λ h. h.name) (filter (is_header_key tops) before) ++ ns) (by b)
    where
      by : (c : Bool) → map (λ (h : KeyHead). h.name) (cond c (head ∷ []) []) ≡ cond c (head.name ∷ []) []
      by true = refl
      by false = refl

  pub no_tree_checked : is_header_key tops head ≡ false → named ≡ old.named → HasChecked all (before ++ head ∷ []) mid
  no_tree_checked e same =
      let more = items_with (is_item_kind kind) refl in
      record {
        names = subst (IndexesNames tops) (sym passes.names) so.names;
        items = more.items;
        untitled = more.plain;
        trees = subst (λ (ns : List (List ℕ)). IsPermutation ns (map (λ t. t.name) mid.trees)) (sym (names_with false e ∙ append-nil (map (λ h. h.name) (filter (is_header_key tops) before))))
            (subst (λ (ts : List TreeAt). IsPermutation (map (λ h. h.name) (filter (is_header_key tops) before)) (map (λ t. t.name) ts)) (sym passes.trees) so.trees);
        heads_are = subst (All (λ t. AreWholeBranches t.head)) (sym passes.trees) so.heads_are;
        baskets = subst (All (λ t. has_baskets all t.head ≡ true)) (sym passes.trees) so.baskets;
        named = subst (HasPlaces (places_of mid.trees)) (sym (passes.named ∙ same)) (subst (λ (ts : List TreeAt). HasPlaces (places_of ts) old.named) (sym passes.trees) so.named);
        once = subst (λ (ts : List TreeAt). AreOnce (places_of ts)) (sym passes.trees) so.once;
      }

  pub tree_checked : (tree : TreeHead) (new : KeyCheck) → is_header_key tops head ≡ true → NotesHeader all old.named named tree → new ≡ record mid { trees = with_tree (tree_named head tree) mid.trees }
      → HasChecked all (before ++ head ∷ []) new
  tree_checked tree new e notes are =
      let t = tree_named head tree in
      let more = items_with (is_item_kind kind) refl in
      let trees : new.trees ≡ with_tree t old.trees = ap (λ (k : KeyCheck). k.trees) are ∙ ap (with_tree t) passes.trees in
      let moved = with_moved t old.trees in
      let noted = notes.noted (places_of old.trees) so.named in
      let twice = once_more (places_of old.trees) (basket_places tree) so.once (sym noted.once_is) in
      record {
        names = subst (IndexesNames tops) (sym (ap (λ (k : KeyCheck). k.names) are ∙ passes.names)) so.names;
        items = subst (λ (k : KeyCheck). IsPermutation (filter (is_item_key tops) (before ++ head ∷ [])) k.items.heads) (sym are) more.items;
        untitled = ap (λ (k : KeyCheck). list_all is_untitled k.items.heads) are ∙ more.plain;
        trees = subst (λ (ns : List (List ℕ)). IsPermutation ns (map (λ u. u.name) new.trees)) (sym (names_with true e))
            (subst (λ (ts : List TreeAt). IsPermutation (map (λ h. h.name) (filter (is_header_key tops) before) ++ head.name ∷ []) (map (λ u. u.name) ts)) (sym trees)
            (IsPermutation-trans (map (λ h. h.name) (filter (is_header_key tops) before) ++ head.name ∷ []) (head.name ∷ map (λ u. u.name) old.trees) (map (λ u. u.name) (with_tree t old.trees))
            (IsPermutation-trans (map (λ h. h.name) (filter (is_header_key tops) before) ++ head.name ∷ []) (head.name ∷ map (λ h. h.name) (filter (is_header_key tops) before)) (head.name ∷ map (λ u. u.name) old.trees)
            (IsPermutation-to_front (map (λ h. h.name) (filter (is_header_key tops) before)) head.name)
            (IsPermutation-cons head.name (map (λ h. h.name) (filter (is_header_key tops) before)) (map (λ u. u.name) old.trees) so.trees))
            (IsPermutation-map (λ (u : TreeAt). u.name) (t ∷ old.trees) (with_tree t old.trees) moved)));
        heads_are = subst (All (λ u. AreWholeBranches u.head)) (sym trees)
            (All-permutation (λ u. AreWholeBranches u.head) (t ∷ old.trees) (with_tree t old.trees) moved (All-cons (λ u. AreWholeBranches u.head) t old.trees notes.whole so.heads_are));
        baskets = subst (All (λ u. has_baskets all u.head ≡ true)) (sym trees)
            (All-permutation (λ u. has_baskets all u.head ≡ true) (t ∷ old.trees) (with_tree t old.trees) moved (All-cons (λ u. has_baskets all u.head ≡ true) t old.trees notes.baskets so.baskets));
        named = subst (λ (ts : List TreeAt). HasPlaces (places_of ts) new.named) (sym trees)
            (subst (HasPlaces (places_of (with_tree t old.trees))) (sym (ap (λ (k : KeyCheck). k.named) are ∙ passes.named))
            (places_same (places_of old.trees ++ basket_places tree) (places_of (with_tree t old.trees)) named (same_places t old.trees) (noted.noted refl)));
        once = subst (λ (ts : List TreeAt). AreOnce (places_of ts)) (sym trees) (same_once t old.trees twice);
      }
