-- What is kept of the pending rows of other trees stays at a delete.
use Rattle.std.proofs.Common.{◌≡◌, ◌∙◌, ◌==◌, inl, inr, ⊎_elim, ℕ, zero, suc, ◌+◌, ◌≤◌, List, [], ◌∷◌, ◌++◌, length, map, not, take, Bool, true, false, cond, Option, Some, None, refl, sym, ap, subst, arith}
use Rattle.std.proofs.lemmas.{Bool.{and_from, and_parts}, Map.Text.{is_eq-slice_cmp}, Slice.Eq.{bytes_eq-Decides}}
use Rattle.std.specs.{Prelude.{if◌then◌else◌, is_some}, FinMap.{get, get-remove, remove}, List.{find, flat_map, list_any}, Option.{option_map_or}, Ordering.{eq_by_cmp}, Str.{bytes_eq}}
use Rattle.rio_num.specs.Word.{name_order}
use Rattle.rio_key.specs.{declared.head.KeyHead.{KeyHead}, Cut.{Cut}}
use Rattle.rio_format.specs.declared.class.ClassDef.{ClassDef}
use Rattle.rio_chain.specs.{Changes.{without_record}, Segments.{IsChain, Link}}
use Rattle.rio_machine.proofs.OrderLaws.{names_total}
use Rattle.rio_machine.specs.{State.{State, Tree, names_tree}, declared.command.Command.TheVariants.{Delete}}
use Rattle.rio_state.specs.{Contents.{file_classes}, KeyedRecords.{KeyedRecord, info_key, keyed_records, record_at, top_keys, tree_records}, OneLess.{HasRecord, links_without}, OneMore.{HasOneMoreIn}, TreeLengths.{cuts_of}, Trees.{are_named_once, header_in, places_named}}
use Rattle.rio_state.proofs.{LessRecords.{record_less}, Members.{In, any_from, in_either, in_left, in_right, none_from}, Places.{AreDistinct}}
use Rattle.rio_step.specs.Step.{state_behind}
use Rattle.rio_effect.specs.{BasketRuns.{places_put}, Changes.{all_changed}, Garbage.{ArePassed, IsGarbageAt, releases}, TreeCommands.{KeepsTree}}
use Rattle.rio_effect.proofs.Garbage.{garbage_is_released}
use Rattle.rio_recover.proofs.TreeOrder.{behind_other}
use Rattle.rio_session.specs.{Fills.{AreAfterName, AreNamesOrdered, FilledTree, is_tree_of, put_in, put_of, without_filled}, Kept.{kept_by}, Session.{OpensRows, file_records}, SessionState.{SessionState}}
use Rattle.rio_session.proofs.{KeysWithout.{classes_stay}, RowsBeside.{hold_then, hold_without}, RowsKept.{HoldStill, named_in, rows_still}}

-- ---- lists

-- what is named once among some is named once among fewer
once_fewer : (fewer others ps : List ℕ) → ((p : ℕ) → In p fewer → In p others) → are_named_once others ps ≡ true → are_named_once fewer ps ≡ true
once_fewer fewer others [] within once = refl
once_fewer fewer others (q ∷ qs) within once =
    let parts = and_parts (not (list_any (λ p. q == p) others)) (are_named_once (q ∷ others) qs) once in
    let none : list_any (λ p. q == p) fewer ≡ false = none_from (λ p. q == p) fewer (λ p i e. taken (list_any (λ r. q == r) others) parts.0 (any_from (λ r. q == r) p others (within p i) e)) in
    let rest = once_fewer (q ∷ fewer) (q ∷ others) qs (λ p i. more p i) parts.1 in
    and_from (not (list_any (λ p. q == p) fewer)) (are_named_once (q ∷ fewer) qs) (ap not none) rest
  where
    taken : (b : Bool) → not b ≡ true → b ≡ true → ⊥
    taken true e f = absurd cc
    taken false e f = absurd cc

    more : (p : ℕ) → In p (q ∷ fewer) → In p (q ∷ others)
    more p (inl same) = inl same
    more p (inr i) = inr (within p i)

-- one that doesn't pass isn't missed
find_beside : {A : Type 0} (p : A → Bool) (r : A) → p r ≡ false → (front back : List A) → find p (front ++ r ∷ back) ≡ find p (front ++ back)
find_beside p r other [] back = ap (λ (b : Bool). cond b (Some r) (find p back)) other
find_beside p r other (x ∷ front) back = ap (λ (o : Option _). cond (p x) (Some x) o) (find_beside p r other front back)

flat_beside : {A : Type 0} (f : A → List ℕ) (r : A) (p : ℕ) (front back : List A) → In p (flat_map f (front ++ back)) → In p (flat_map f (front ++ r ∷ back))
flat_beside f r p [] back i = in_right p (f r) (flat_map f back) i
flat_beside f r p (x ∷ front) back i =
    ⊎_elim (λ j. in_left p (f x) (flat_map f (front ++ r ∷ back)) j) (λ j. in_right p (f x) (flat_map f (front ++ r ∷ back)) (flat_beside f r p front back j)) (in_either p (f x) (flat_map f (front ++ back)) i)

-- ---- a tree of another name

module _ (s t : SessionState) (m n : State) (links after : List Link) (r : KeyedRecord) (less : HasOneMoreIn (keyed_records after) (keyed_records links) r) (info : info_key (keyed_records after) ≡ info_key (keyed_records links))
    (fewer : HasOneMoreIn (tree_records (top_keys (keyed_records after))) (tree_records (top_keys (keyed_records links))) r) where
  fewer_named : (p : ℕ) → In p (named_in after) → In p (named_in links)
  fewer_named p i =
      let f = places_named (file_classes (info_key (keyed_records links))) in
      let one : In p (flat_map f (tree_records (top_keys (keyed_records after)))) = subst (λ (o : Option KeyedRecord). In p (flat_map (places_named (file_classes o)) (tree_records (top_keys (keyed_records after))))) info i in
      subst (λ (l : List KeyedRecord). In p (flat_map f l)) (sym fewer.after) (flat_beside f r p fewer.front fewer.back (subst (λ (l : List KeyedRecord). In p (flat_map f l)) fewer.before one))

  pub rows_less : (name : List ℕ) (x : Tree) → KeepsTree (file_records s links) m name x → bytes_eq r.head.name name ≡ false → put_in t.trees name ≡ put_in s.trees name → n.classes ≡ m.classes
      → (In r.head.seek (places_put (put_in s.trees name)) → ⊥) → KeepsTree (file_records t after) n name x
  rows_less name x k other put classes apart =
      let named = λ (h : KeyedRecord). bytes_eq h.head.name name in
      let same : find named (tree_records (top_keys (keyed_records after))) ≡ find named (tree_records (top_keys (keyed_records links)))
      = ap (find named) fewer.before ∙ sym (find_beside named r other fewer.front fewer.back) ∙ ap (find named) (sym fewer.after) in
      rows_still (file_records s links) (file_records t after) m n name x x k
      (same ∙ k.record_is)
      (ap (λ (o : Option KeyedRecord). header_in (file_classes o) k.r) info ∙ k.head_is)
      put (ap (λ (cs : List ClassDef). cuts_of cs x.branches x.pending) classes)
      (hold_without (keyed_records after) (keyed_records links) r less (places_put (put_in s.trees name)) apart)
      (once_fewer (named_in after) (named_in links) (places_put (put_in s.trees name)) fewer_named k.fresh)

-- ---- records that nothing refers to

pub held_stay : (links : List Link) (places : List ℕ) (k : ℕ) (targets : List ℕ) → ((p : ℕ) → In p places → In p targets → ⊥) → ((p : ℕ) → In p places → IsGarbageAt links p) → AreDistinct places → k ≤ length places
    → ArePassed links (releases places) k → HoldStill (record_at (keyed_records links)) (record_at (keyed_records (all_changed links (take k (releases places))))) targets
held_stay links [] zero targets none each apart within passed = λ offsets at entries i h. h
held_stay links [] (suc k) targets none each apart within passed = absurd (omega (arith, within))
held_stay links (p ∷ ps) zero targets none each apart within passed = λ offsets at entries i h. h
held_stay links (p ∷ ps) (suc k) targets none each apart within passed =
    let now = passed 0 (omega arith) in
    let one = garbage_is_released now.0 links p now.1 (each p (inl refl)) in
    let rest = held_stay (without_record p links) ps k targets (λ q i j. none q (inr i) j) (λ q i. one.others q (λ same. apart.0 (subst (λ (x : ℕ). In x ps) same i)) (each q (inr i))) apart.1 (omega (arith, within))
    (λ j low. passed (suc j) (omega (arith, low))) in
    hold_then (record_at (keyed_records links)) (record_at (keyed_records (without_record p links))) (record_at (keyed_records (all_changed (without_record p links) (take k (releases ps))))) targets (first now.0 now.1) rest
  where
    first : (file : List ℕ) → IsChain links file → HoldStill (record_at (keyed_records links)) (record_at (keyed_records (without_record p links))) targets
    first file chain =
        let g = each p (inl refl) in
        let has : HasRecord file links g.r = record { chain = chain; among = g.among } in
        subst (λ (q : ℕ). HoldStill (record_at (keyed_records links)) (record_at (keyed_records (without_record q links))) targets) g.seek
        (hold_without (keyed_records (links_without links g.r)) (keyed_records links) g.r (record_less file links g.r has) targets (λ i. none p (inl refl) (subst (λ (q : ℕ). In q targets) g.seek i)))

-- ---- the other trees of the state, and of the session

pub find_other : (a name : List ℕ) (trees : List FilledTree) → bytes_eq a name ≡ false → find (is_tree_of name) (without_filled a trees) ≡ find (is_tree_of name) trees
find_other a name [] other = refl
find_other a name (t ∷ ts) other = by (is_tree_of a t) refl (find_other a name ts other)
  where
    by : (b : Bool) → is_tree_of a t ≡ b → find (is_tree_of name) (without_filled a ts) ≡ find (is_tree_of name) ts
        → find (is_tree_of name) (cond b ts (t ∷ without_filled a ts)) ≡ cond (is_tree_of name t) (Some t) (find (is_tree_of name) ts)
    by true is rest =
        let not_its : is_tree_of name t ≡ false = ap (λ (n : List ℕ). bytes_eq n name) ((bytes_eq-Decides t.name a).0 is) ∙ other in
        sym (ap (λ (c : Bool). cond c (Some t) (find (is_tree_of name) ts)) not_its)
    by false is rest = ap (λ (o : Option FilledTree). cond (is_tree_of name t) (Some t) o) rest

none_found : (name : List ℕ) (trees : List FilledTree) → AreAfterName name trees → find (is_tree_of name) trees ≡ None
none_found name [] are = refl
none_found name (t ∷ ts) are = ap (λ (b : Bool). cond b (Some t) (find (is_tree_of name) ts)) (behind_other name t.name are.0) ∙ none_found name ts are.1

-- the tree of the name isn't there
pub find_gone : (name : List ℕ) (trees : List FilledTree) → AreNamesOrdered trees → find (is_tree_of name) (without_filled name trees) ≡ None
find_gone name [] are = refl
find_gone name (t ∷ ts) are = by (is_tree_of name t) refl (find_gone name ts are.1)
  where
    by : (b : Bool) → is_tree_of name t ≡ b → find (is_tree_of name) (without_filled name ts) ≡ None → find (is_tree_of name) (cond b ts (t ∷ without_filled name ts)) ≡ None
    by true is rest = none_found name ts (subst (λ (n : List ℕ). AreAfterName n ts) ((bytes_eq-Decides t.name name).0 is) are.0)
    by false is rest = ap (λ (b : Bool). cond b (Some t) (find (is_tree_of name) (without_filled name ts))) is ∙ rest

-- a tree that is there after the delete was there before, under another name
pub record IsOther (m : State) (a name : List ℕ) (x : Tree) : Type 0 where
  pub there : get m.trees name ≡ Some x
  pub other : bytes_eq a name ≡ false

pub turned : (a b : List ℕ) → bytes_eq a b ≡ false → bytes_eq b a ≡ false
turned a b e = by (bytes_eq b a) refl
  where
    by : (c : Bool) → bytes_eq b a ≡ c → c ≡ false
    by true is = let f : true ≡ false = sym ((bytes_eq-Decides a b).1 (sym ((bytes_eq-Decides b a).0 is))) ∙ e in absurd cc
    by false is = refl

pub other_tree : (m : State) (a : List ℕ) (cycle : ℕ) (name : List ℕ) (x : Tree) → get (state_behind m (Delete a cycle)).trees name ≡ Some x → IsOther m a name x
other_tree m a cycle name x there = by (names_tree m a) refl there
  where
    gone : (b : Bool) → eq_by_cmp name_order name a ≡ b → cond b None (get m.trees name) ≡ Some x → IsOther m a name x
    gone true e f = absurd cc
    gone false e f = record { there = f; other = turned name a (sym (is_eq-slice_cmp name a) ∙ e) }

    by : (b : Bool) → names_tree m a ≡ b → get (if b then record m { trees = remove m.trees a } else record m { objects = remove m.objects (a, cycle) }).trees name ≡ Some x → IsOther m a name x
    by true is f = gone (eq_by_cmp name_order name a) refl (sym (get-remove names_total m.trees a name) ∙ f)
    by false is f = record { there = f; other = apart (bytes_eq a name) refl }
      where
        apart : (c : Bool) → bytes_eq a name ≡ c → c ≡ false
        apart false e = refl
        apart true e =
            let own : names_tree m a ≡ true = ap (λ (n : List ℕ). is_some (get m.trees n)) ((bytes_eq-Decides a name).0 e) ∙ ap is_some f in
            let g : true ≡ false = sym own ∙ is in absurd cc

module _ (s : SessionState) (m : State) (h : KeyHead) where
  -- their open baskets are those of before
  pub opens_left : OpensRows s m → OpensRows (kept_by s m (Delete h.name h.cycle)) (state_behind m (Delete h.name h.cycle))
  opens_left opens name t x found there =
      let o = other_tree m h.name h.cycle name x there in
      opens name t x (sym (find_other h.name name s.trees o.other) ∙ found) o.there
      ∙ ap (λ (cs : List ClassDef). map (λ (cut : Cut). cut.rest) (cuts_of cs x.branches x.pending)) (sym (classes_stay m h))

  pub put_left : (name : List ℕ) → bytes_eq h.name name ≡ false → put_in (without_filled h.name s.trees) name ≡ put_in s.trees name
  put_left name other = ap (λ (o : Option FilledTree). option_map_or (λ (u : FilledTree). put_of u.fill) o []) (find_other h.name name s.trees other)
