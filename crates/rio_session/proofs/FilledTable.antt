-- What a search among the trees of a session finds, and what they are once one is put in or taken out.
use Rattle.std.proofs.Common.{◌≡◌, inl, inr, ℕ, zero, suc, ◌+◌, ◌<◌, ◌≤◌, Bool, true, false, cond, List, [], ◌∷◌, length, get_or, Option, Some, None, Result, Ok, Err, IsOk, is_ok, unwrap_or, rules, refl, ap, subst, sym, ◌∙◌, arith}
use Rattle.std.proofs.{Math.Numerals.{one-add}, lemmas.Bool.{cases_lt}, lemmas.Option.{get_or_from_slice_get}, lemmas.Cmp.{nat_list_cmp_total}}
use Rattle.std.proofs.lemmas.{List.Sums.{prefix_len-le-length, prefix_len_passes, prefix_len_stops}, Map.Text.{is_eq-slice_cmp}}
use Rattle.std.specs.{List.{find, insert, prefix_len, remove, slice_get, Sorted.{IsPartitionedBy, IsPartitionPoint}}, Option.{option_map_or}, Set.{remove_key}}
use Rattle.std.specs.{Ordering.{is_eq, ordering_reverse}, Str.{bytes_eq}}
use Rattle.std.specs.declared.cmp.Ordering.{Ordering, TheVariants.{Less, Equal, Greater}}
use Rattle.std.specs.{Cmp.Lexicographic.{slice_cmp}, Ordering.{nat_cmp}}
use Rattle.rio_dir.specs.Table.{first_by}
use Rattle.rio_entry.proofs.Counting.{same_name}
use Rattle.rio_fill.specs.Fill.{TreeFill}
use Rattle.rio_recover.specs.TreeTable.{is_name_before}
use Rattle.rio_session.specs.{Fills.{AreAfterName, AreNamesOrdered, FilledTree, changed_tree, is_tree_of, with_change, with_filled}, Noted.{if_matching, is_before_name}}

some_tree : FilledTree
some_tree = record { name = []; fill = record { saved = 0; pending = 0; branches = [] } }

-- ---- names

is_less : (a b : List ℕ) → is_name_before a b ≡ true → slice_cmp nat_cmp a b ≡ Less
is_less a b e = by (slice_cmp nat_cmp a b) refl e
  where
    by : (r : Ordering) → slice_cmp nat_cmp a b ≡ r → first_by r false ≡ true → slice_cmp nat_cmp a b ≡ Less
    by Less is e = is
    by Equal is e = absurd cc
    by Greater is e = absurd cc

before_as : (a b : List ℕ) → slice_cmp nat_cmp a b ≡ Less → is_name_before a b ≡ true
before_as a b is = ap (λ (r : Ordering). first_by r false) is

pub before_trans : (a b c : List ℕ) → is_name_before a b ≡ true → is_name_before b c ≡ true → is_name_before a c ≡ true
before_trans a b c e f = before_as a c (nat_list_cmp_total.trans a b c (is_less a b e) (is_less b c f))

other_names : (a b : List ℕ) (r : Ordering) → slice_cmp nat_cmp a b ≡ r → is_eq r ≡ false → bytes_eq a b ≡ false
other_names a b r is differ = sym (is_eq-slice_cmp a b) ∙ ap is_eq is ∙ differ

-- a tree before a name hasn't it, and none behind it has
pub before_not_of : (name : List ℕ) (t : FilledTree) → is_before_name name t ≡ true → is_tree_of name t ≡ false
before_not_of name t e = other_names t.name name Less (is_less t.name name e) refl

pub behind_not_of : (name : List ℕ) (t : FilledTree) → is_name_before name t.name ≡ true → is_tree_of name t ≡ false
behind_not_of name t e = other_names t.name name Greater (nat_list_cmp_total.antisymm t.name name ∙ ap ordering_reverse (is_less name t.name e)) refl

-- one of the three holds
pub else_behind : (name : List ℕ) (t : FilledTree) → is_before_name name t ≡ false → is_tree_of name t ≡ false → is_name_before name t.name ≡ true
else_behind name t e f = by (slice_cmp nat_cmp t.name name) refl e
  where
    by : (r : Ordering) → slice_cmp nat_cmp t.name name ≡ r → first_by r false ≡ false → is_name_before name t.name ≡ true
    by Less is e = absurd cc
    by Equal is e = let named : bytes_eq t.name name ≡ true = sym (is_eq-slice_cmp t.name name) ∙ ap is_eq is in absurd cc
    by Greater is e = before_as name t.name (nat_list_cmp_total.antisymm name t.name ∙ ap ordering_reverse is)

-- ---- trees in order

behind_at : (name : List ℕ) (trees : List FilledTree) → AreAfterName name trees → (k : ℕ) (d : FilledTree) → k < length trees → is_name_before name (get_or trees k d).name ≡ true
behind_at name [] are k d lt = absurd (omega (arith, lt))
behind_at name (t ∷ ts) are zero d lt = are.0
behind_at name (t ∷ ts) are (suc k) d lt = behind_at name ts are.1 k d (omega (arith, lt))

behind_too : (name : List ℕ) (t : FilledTree) (ts : List FilledTree) → is_name_before name t.name ≡ true → AreAfterName t.name ts → AreAfterName name ts
behind_too name t [] e are = tt
behind_too name t (u ∷ us) e are = (before_trans name t.name u.name e are.0, behind_too name t us e are.1)

-- none of those behind a name has it
pub none_named : (name : List ℕ) (trees : List FilledTree) → AreAfterName name trees → find (is_tree_of name) trees ≡ None
none_named name [] are = refl
none_named name (t ∷ ts) are = rw (behind_not_of name t are.0) (none_named name ts are.1)

pub partitioned : (name : List ℕ) (trees : List FilledTree) → AreNamesOrdered trees → IsPartitionedBy (is_before_name name) trees
partitioned name [] are i j d le lt holds = absurd (omega (arith, lt))
partitioned name (t ∷ ts) are zero zero d le lt holds = holds
partitioned name (t ∷ ts) are zero (suc j) d le lt holds = before_trans t.name (get_or ts j d).name name (behind_at t.name ts are.0 j d (omega (arith, lt))) holds
partitioned name (t ∷ ts) are (suc i) zero d le lt holds = absurd (omega (arith, le))
partitioned name (t ∷ ts) are (suc i) (suc j) d le lt holds = partitioned name ts are.1 i j d (omega (arith, le)) (omega (arith, lt)) holds

-- where the trees that pass a test end
pub point_is : (p : FilledTree → Bool) (trees : List FilledTree) (i : ℕ) → i ≤ length trees → IsPartitionPoint (λ t. p t ≡ true) (λ t. p t ≡ false) trees i → i ≡ prefix_len p trees
point_is p trees i le point =
    elim (cases_lt i (prefix_len p trees)) [
      | inl lt ↦ let yes = prefix_len_passes p trees i some_tree lt in let no = point.1 i some_tree (omega arith) (omega (arith, prefix_len-le-length p trees)) in absurd cc
      | inr ge ↦ elim (cases_lt (prefix_len p trees) i) [
        | inl lt ↦ let yes = point.0 (prefix_len p trees) some_tree (omega arith) lt in let no = prefix_len_stops p trees some_tree (omega arith) in absurd cc
        | inr same ↦ omega arith
      ]
    ]

module _ (name : List ℕ) where
  pub searched : (trees : List FilledTree) → AreNamesOrdered trees → if_matching (is_tree_of name) (slice_get trees (prefix_len (is_before_name name) trees)) ≡ find (is_tree_of name) trees
  searched [] are = refl
  searched (t ∷ ts) are = by (searched ts are.1) (is_before_name name t) refl
    where
      by : if_matching (is_tree_of name) (slice_get ts (prefix_len (is_before_name name) ts)) ≡ find (is_tree_of name) ts → (b : Bool) → is_before_name name t ≡ b
          → if_matching (is_tree_of name) (slice_get (t ∷ ts) (cond b (1 + prefix_len (is_before_name name) ts) 0)) ≡ cond (is_tree_of name t) (Some t) (find (is_tree_of name) ts)
      by ih true e = rw (one-add, before_not_of name t e) ih
      by ih false e = first (is_tree_of name t) refl
        where
          first : (c : Bool) → is_tree_of name t ≡ c → cond c (Some t) None ≡ cond c (Some t) (find (is_tree_of name) ts)
          first true f = refl
          first false f = sym (none_named name ts (behind_too name t ts (else_behind name t e f) are.0))

  pub removed : (trees : List FilledTree) → AreNamesOrdered trees → option_map_or (is_tree_of name) (slice_get trees (prefix_len (is_before_name name) trees)) false ≡ true → remove trees (prefix_len (is_before_name name) trees) ≡ remove_key (is_tree_of name) trees
  removed [] are found = absurd cc
  removed (t ∷ ts) are found = by (removed ts are.1) (is_before_name name t) refl found
    where
      by : (option_map_or (is_tree_of name) (slice_get ts (prefix_len (is_before_name name) ts)) false ≡ true → remove ts (prefix_len (is_before_name name) ts) ≡ remove_key (is_tree_of name) ts) → (b : Bool) → is_before_name name t ≡ b
          → option_map_or (is_tree_of name) (slice_get (t ∷ ts) (cond b (1 + prefix_len (is_before_name name) ts) 0)) false ≡ true
          → remove (t ∷ ts) (cond b (1 + prefix_len (is_before_name name) ts) 0) ≡ cond (is_tree_of name t) ts (t ∷ remove_key (is_tree_of name) ts)
      by ih true e found = rw (one-add, before_not_of name t e) (ap (λ (l : List FilledTree). t ∷ l) (ih (rw one-add at found)))
      by ih false e found = rw found refl

-- ---- one more, and one less

module _ (t : FilledTree) where
  pub inserted_is : (trees : List FilledTree) → insert trees (prefix_len (is_before_name t.name) trees) t ≡ with_filled t trees
  inserted_is [] = refl
  inserted_is (u ∷ us) = by (inserted_is us) (is_before_name t.name u)
    where
      by : insert us (prefix_len (is_before_name t.name) us) t ≡ with_filled t us → (b : Bool) → insert (u ∷ us) (cond b (1 + prefix_len (is_before_name t.name) us) 0) t ≡ cond b (u ∷ with_filled t us) (t ∷ u ∷ us)
      by ih true = rw one-add (ap (λ (l : List FilledTree). u ∷ l) ih)
      by ih false = refl

  behind_with : (u : FilledTree) (us : List FilledTree) → AreAfterName u.name us → is_before_name t.name u ≡ true → AreAfterName u.name (with_filled t us)
  behind_with u [] are e = (e, tt)
  behind_with u (v ∷ vs) are e = by (behind_with u vs are.1 e) (is_before_name t.name v)
    where
      by : AreAfterName u.name (with_filled t vs) → (b : Bool) → AreAfterName u.name (cond b (v ∷ with_filled t vs) (t ∷ v ∷ vs))
      by ih true = (are.0, ih)
      by ih false = (e, are)

  pub ordered_with : (trees : List FilledTree) → AreNamesOrdered trees → find (is_tree_of t.name) trees ≡ None → AreNamesOrdered (with_filled t trees)
  ordered_with [] are new = (tt, tt)
  ordered_with (u ∷ us) are new = by (ordered_with us are.1) (is_before_name t.name u) (is_tree_of t.name u) refl refl new
    where
      by : (find (is_tree_of t.name) us ≡ None → AreNamesOrdered (with_filled t us)) → (b c : Bool) → is_before_name t.name u ≡ b → is_tree_of t.name u ≡ c
          → cond c (Some u) (find (is_tree_of t.name) us) ≡ None → AreNamesOrdered (cond b (u ∷ with_filled t us) (t ∷ u ∷ us))
      by ih b true e f new = absurd cc
      by ih true false e f new = (behind_with u us are.0 e, ih new)
      by ih false false e f new =
          let behind = else_behind t.name u e f in
          ((behind, behind_too t.name u us behind are.0), are)

behind_without : (name : List ℕ) (p : FilledTree → Bool) (us : List FilledTree) → AreAfterName name us → AreAfterName name (remove_key p us)
behind_without name p [] are = tt
behind_without name p (u ∷ us) are = by (behind_without name p us are.1) (p u)
  where
    by : AreAfterName name (remove_key p us) → (b : Bool) → AreAfterName name (cond b us (u ∷ remove_key p us))
    by ih true = are.1
    by ih false = (are.0, ih)

pub ordered_without : (p : FilledTree → Bool) (trees : List FilledTree) → AreNamesOrdered trees → AreNamesOrdered (remove_key p trees)
ordered_without p [] are = tt
ordered_without p (u ∷ us) are = by (ordered_without p us are.1) (p u)
  where
    by : AreNamesOrdered (remove_key p us) → (b : Bool) → AreNamesOrdered (cond b us (u ∷ remove_key p us))
    by ih true = are.1
    by ih false = (behind_without u.name p us are.0, ih)

-- ---- what the code reads at the place where its search ends

taken_tree : (p : FilledTree → Bool) (trees : List FilledTree) (at : ℕ) (d : FilledTree) → option_map_or p (slice_get trees at) false ≡ true → d ≡ get_or trees at d → if_matching p (slice_get trees at) ≡ Some d
taken_tree p trees at d found read = by (slice_get trees at) refl found
  where
    by : (o : Option FilledTree) → slice_get trees at ≡ o → option_map_or p o false ≡ true → if_matching p o ≡ Some d
    by None is found = absurd cc
    by (Some t) is found =
        let same : d ≡ t = read ∙ get_or_from_slice_get trees at t d is in
        rw found (ap (λ (u : FilledTree). let o : Option FilledTree = Some u in o) (sym same))

not_taken : (p : FilledTree → Bool) (o : Option FilledTree) → option_map_or p o false ≡ false → if_matching p o ≡ None
not_taken p None found = refl
not_taken p (Some t) found = rw found refl

passing : (p : FilledTree → Bool) (o : Option FilledTree) → option_map_or p o false ≡ true → if_matching p o ≡ o
passing p None found = refl
passing p (Some t) found = rw found refl

-- a search among the items of a table, which are its trees, ends at a place; `seen` are the items that the code looks at
module _ (name : List ℕ) (items trees seen : List FilledTree) (at : ℕ) (same : items ≡ trees) (seen_is : seen ≡ items) (are : AreNamesOrdered items) (at_is : at ≡ prefix_len (is_before_name name) trees) where
  ends : at ≡ prefix_len (is_before_name name) items
  ends = at_is ∙ ap (prefix_len (is_before_name name)) (sym same)

  pub found_there : if_matching (is_tree_of name) (slice_get seen at) ≡ find (is_tree_of name) trees
  found_there = ap (λ (l : List FilledTree). if_matching (is_tree_of name) (slice_get l at)) seen_is ∙ ap (λ (k : ℕ). if_matching (is_tree_of name) (slice_get items k)) ends ∙ searched name items are ∙ ap (find (is_tree_of name)) same

  module _ (b : Bool) (test : b ≡ option_map_or (is_tree_of name) (slice_get seen at) false) where
    tested : option_map_or (is_tree_of name) (slice_get items at) false ≡ b
    tested = ap (λ (l : List FilledTree). option_map_or (is_tree_of name) (slice_get l at) false) (sym seen_is) ∙ sym test

    found_in : if_matching (is_tree_of name) (slice_get items at) ≡ find (is_tree_of name) trees
    found_in = ap (λ (l : List FilledTree). if_matching (is_tree_of name) (slice_get l at)) (sym seen_is) ∙ found_there

    pub taken_there : b ≡ true → (d : FilledTree) → d ≡ get_or items at d → find (is_tree_of name) trees ≡ Some d
    taken_there hit d read = sym found_in ∙ taken_tree (is_tree_of name) items at d (tested ∙ hit) read

    pub removed_there : b ≡ true → remove items at ≡ remove_key (is_tree_of name) trees
    removed_there hit =
        let here = subst (λ (k : ℕ). option_map_or (is_tree_of name) (slice_get items k) false ≡ true) ends (tested ∙ hit) in
        ap (remove items) ends ∙ removed name items are here ∙ ap (remove_key (is_tree_of name)) same

    pub there_at : b ≡ true → find (is_tree_of name) trees ≡ slice_get trees at
    there_at hit = sym found_in ∙ passing (is_tree_of name) (slice_get items at) (tested ∙ hit) ∙ ap (λ (l : List FilledTree). slice_get l at) same

    pub none_there : b ≡ false → find (is_tree_of name) trees ≡ None
    none_there miss = sym found_in ∙ not_taken (is_tree_of name) (slice_get items at) (tested ∙ miss)

pub nothing_removed : (p : FilledTree → Bool) (trees : List FilledTree) → find p trees ≡ None → remove_key p trees ≡ trees
nothing_removed p [] none = refl
nothing_removed p (t ∷ ts) none = by (nothing_removed p ts) (p t) none
  where
    by : (find p ts ≡ None → remove_key p ts ≡ ts) → (b : Bool) → cond b (Some t) (find p ts) ≡ None → cond b ts (t ∷ remove_key p ts) ≡ t ∷ ts
    by ih true none = absurd cc
    by ih false none = ap (λ (l : List FilledTree). t ∷ l) (ih none)

-- what an insert leaves that found room
pub found_room : {A E : Type 0} (r : Result A E) (new one other : List FilledTree) → IsOk r → new ≡ cond (is_ok r) one other → new ≡ one
found_room (Ok x) new one other ok is = is
found_room (Err e) new one other ok is = absurd (search rules)

-- ---- the tree at a place, and that of a name

after_at : (name : List ℕ) (trees : List FilledTree) → AreAfterName name trees → (at : ℕ) (t : FilledTree) → slice_get trees at ≡ Some t → is_name_before name t.name ≡ true
after_at name [] are at t is = absurd cc
after_at name (u ∷ us) are zero t is = subst (λ (x : FilledTree). is_name_before name x.name ≡ true) (ap (λ (o : Option FilledTree). unwrap_or o u) is) are.0
after_at name (u ∷ us) are (suc at) t is = after_at name us are.1 at t is

none_changed : (name : List ℕ) (f : TreeFill → TreeFill) (trees : List FilledTree) → AreAfterName name trees → with_change name f trees ≡ trees
none_changed name f [] are = refl
none_changed name f (t ∷ ts) are = let rest = none_changed name f ts are.1 in rw (behind_not_of name t are.0) (ap (λ (l : List FilledTree). t ∷ l) rest)

-- a change of the tree at a place is a change of the tree of its name
pub changed_named : (name : List ℕ) (f : TreeFill → TreeFill) (trees : List FilledTree) → AreNamesOrdered trees → (at : ℕ) (t : FilledTree) → slice_get trees at ≡ Some t → t.name ≡ name → changed_tree at f trees ≡ with_change name f trees
changed_named name f [] are at t is own = absurd cc
changed_named name f (u ∷ us) are zero t is own =
    let same : u ≡ t = ap (λ (o : Option FilledTree). unwrap_or o u) is in
    let named : is_tree_of name u ≡ true = ap (λ (n : List ℕ). bytes_eq n name) (ap (λ (x : FilledTree). x.name) same ∙ own) ∙ same_name name in
    let rest = none_changed name f us (subst (λ (n : List ℕ). AreAfterName n us) (ap (λ (x : FilledTree). x.name) same ∙ own) are.0) in
    rw named (ap (λ (l : List FilledTree). record u { fill = f u.fill } ∷ l) (sym rest))
changed_named name f (u ∷ us) are (suc at) t is own =
    let before : is_name_before u.name t.name ≡ true = after_at u.name us are.0 at t is in
    let other : is_tree_of name u ≡ false = before_not_of name u (subst (λ (n : List ℕ). is_name_before u.name n ≡ true) own before) in
    rw other (ap (λ (l : List FilledTree). u ∷ l) (changed_named name f us are.1 at t is own))
