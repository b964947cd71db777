-- The keys and trees stand for the state after a delete.
use Rattle.std.proofs.Common.{◌≡◌, ◌==◌, ◌&&◌, ◌||◌, ℕ, List, [], ◌∷◌, map, Bool, true, false, cond, not, Option, Some, None, refl, sym, ap, subst, ◌∙◌}
use Rattle.std.proofs.lemmas.{Bool.{and_from, and_parts, eq-eqb, eqb-true, not-true}, Map.Views.{tells_apart}, Slice.Eq.{bytes_eq-Decides}}
use Rattle.std.specs.{Prelude.{if◌then◌else◌, is_some}, Cmp.{IsTotalOrder, eq_by_cmp_equiv}, FinMap.{FinMap, IsAntisymmetric, entries, entries-insert, find as find_key, get, get-entries, get-insert, get-remove, insert, remove, same_map, Entries.{by_order, put}}}
use Rattle.std.specs.{List.{filter, find, list_all, list_any}, Ordering.{eq_by_cmp, is_eq}, Set.{remove_key}, Str.{bytes_eq}, declared.cmp.Ordering.{Ordering, TheVariants.{Less, Equal, Greater}}}
use Rattle.rio_num.proofs.Cases.{some_of}
use Rattle.rio_num.specs.Word.{name_order}
use Rattle.rio_key.specs.declared.head.KeyHead.{KeyHead}
use Rattle.rio_format.specs.declared.value.Value.{Value}
use Rattle.rio_dir.proofs.TableLists.{ordered_without}
use Rattle.rio_dir.specs.Table.{head_of, is_at_cycle, without_head}
use Rattle.rio_tree_table.specs.{Table.{is_of_name, tree_of, without_tree}, declared.table.KeptTree.{KeptTree}}
use Rattle.rio_machine.proofs.OrderLaws.{items_tie, items_total, names_tie, names_total}
use Rattle.rio_machine.specs.{State.{NameAndCycle, State, Tree, item_order, names_tree}, declared.command.Command.TheVariants.{Delete}}
use Rattle.rio_state.proofs.Members.{any_from, found, in_filter, in_map}
use Rattle.rio_judge.proofs.ItemsOfState.{names_objects, tree_is}
use Rattle.rio_step.specs.KeptItems as items
use Rattle.rio_step.specs.{ItemKeys.{told_by_key}, KeptItems.{AreItemsOfState, is_object_key, item_of_key, item_of_tree, kept_tree}, Step.{Listed, listed_object, state_behind}}
use Rattle.rio_session.specs.{Fills.{without_filled}, Items.{AreTreeKeys, IsOfKeys}, Kept.{kept_by}, SessionState.{SessionState, kept_tree_of, kept_trees}}
use Rattle.rio_session.proofs.KeysBehind.{same_kind}

-- ---- a map without one entry

pub none_parts : {X : Type 0} (b : Bool) (x : X) (o : Option X) → cond b (Some x) o ≡ None → (b ≡ false) × (o ≡ None)
none_parts true x o e = absurd cc
none_parts false x o e = (refl, e)

module _ {K X : Type 0} {R : K → K → Ordering} (total : IsTotalOrder R) (tie : IsAntisymmetric R) (m : FinMap R X) (k : K) where
  -- an entry that is taken out and put back
  put_back : (x : X) → get m k ≡ Some x → insert (remove m k) k x ≡ m
  put_back x there = same_map total tie (insert (remove m k) k x) m (λ q.
      get-insert total (remove m k) k x q
      ∙ ap (cond (eq_by_cmp R q k) (Some x)) (get-remove total m k q)
      ∙ by q (eq_by_cmp R q k) refl)
    where
      by : (q : K) (b : Bool) → eq_by_cmp R q k ≡ b → cond b (Some x) (cond b None (get m q)) ≡ get m q
      by q true e = sym (ap (get m) (tells_apart tie q k e) ∙ there)
      by q false e = refl

  pub back : (x : X) → get m k ≡ Some x → entries m ≡ put R k x (entries (remove m k))
  back x there = sym (ap entries (put_back x there)) ∙ entries-insert total (remove m k) k x

  pub none_left : find_key R k (entries (remove m k)) ≡ None
  none_left = sym (get-entries (remove m k) k) ∙ get-remove total m k k ∙ ap (λ (b : Bool). cond b None (get m k)) ((eq_by_cmp_equiv total).refl k)

-- what is told of entries, without the one that passes a test
module _ {K X B : Type 0} (R : K → K → Ordering) (f : K × X → B) (q : B → Bool) (k : K) (x : X) (own : q (f (k, x)) ≡ true) (other : (e : K × X) → eq_by_cmp R k e.0 ≡ false → q (f e) ≡ false) where
  one_removed : (es : List (K × X)) → find_key R k es ≡ None → remove_key q (map f (put R k x es)) ≡ map f es
  one_removed [] none = ap (λ (b : Bool). cond b [] (f (k, x) ∷ [])) own
  one_removed (e ∷ es) none = by (R k e.0) refl (one_removed es parts.1)
    where
      parts : (eq_by_cmp R k e.0 ≡ false) × (find_key R k es ≡ None)
      parts = none_parts (eq_by_cmp R k e.0) e.1 (find_key R k es) none

      by : (o : Ordering) → R k e.0 ≡ o → remove_key q (map f (put R k x es)) ≡ map f es
          → remove_key q (map f (by_order o ((k, x) ∷ e ∷ es) ((e.0, x) ∷ es) (e ∷ put R k x es))) ≡ map f (e ∷ es)
      by Less is later = ap (λ (b : Bool). cond b (map f (e ∷ es)) (f (k, x) ∷ remove_key q (map f (e ∷ es)))) own
      by Equal is later = let never : true ≡ false = sym (ap is_eq is) ∙ parts.0 in absurd cc
      by Greater is later =
          ap (λ (b : Bool). cond b (map f (put R k x es)) (f e ∷ remove_key q (map f (put R k x es)))) (other e parts.0)
          ∙ ap (λ (l : List B). f e ∷ l) later

-- ---- lists without one element

pub map_removed : {A B : Type 0} (f : A → B) (q : B → Bool) (xs : List A) → map f (remove_key (λ x. q (f x)) xs) ≡ remove_key q (map f xs)
map_removed f q [] = refl
map_removed f q (x ∷ xs) = by (q (f x)) (map_removed f q xs)
  where
    by : (b : Bool) → map f (remove_key (λ x. q (f x)) xs) ≡ remove_key q (map f xs) → map f (cond b xs (x ∷ remove_key (λ x. q (f x)) xs)) ≡ cond b (map f xs) (f x ∷ remove_key q (map f xs))
    by true later = refl
    by false later = λ i. f x ∷ later i

module _ {A : Type 0} (keep q : A → Bool) where
  -- what is taken out is kept by a test, or it isn't
  pub filter_kept : ((x : A) → q x ≡ true → keep x ≡ true) → (xs : List A) → filter keep (remove_key q xs) ≡ remove_key q (filter keep xs)
  filter_kept kept [] = refl
  filter_kept kept (x ∷ xs) = by (q x) (keep x) refl refl (filter_kept kept xs)
    where
      by : (b c : Bool) → q x ≡ b → keep x ≡ c → filter keep (remove_key q xs) ≡ remove_key q (filter keep xs)
          → filter keep (cond b xs (x ∷ remove_key q xs)) ≡ remove_key q (cond c (x ∷ filter keep xs) (filter keep xs))
      by true true e f later = sym (ap (λ (b : Bool). cond b (filter keep xs) (x ∷ remove_key q (filter keep xs))) e)
      by true false e f later = let never : true ≡ false = sym (kept x e) ∙ f in absurd cc
      by false true e f later =
          ap (λ (b : Bool). cond b (x ∷ filter keep (remove_key q xs)) (filter keep (remove_key q xs))) f
          ∙ ap (λ (l : List A). x ∷ l) later
          ∙ sym (ap (λ (b : Bool). cond b (filter keep xs) (x ∷ remove_key q (filter keep xs))) e)
      by false false e f later = ap (λ (b : Bool). cond b (x ∷ filter keep (remove_key q xs)) (filter keep (remove_key q xs))) f ∙ later

  pub filter_dropped : ((x : A) → q x ≡ true → keep x ≡ false) → (xs : List A) → filter keep (remove_key q xs) ≡ filter keep xs
  filter_dropped dropped [] = refl
  filter_dropped dropped (x ∷ xs) = by (q x) (keep x) refl refl (filter_dropped dropped xs)
    where
      by : (b c : Bool) → q x ≡ b → keep x ≡ c → filter keep (remove_key q xs) ≡ filter keep xs → filter keep (cond b xs (x ∷ remove_key q xs)) ≡ cond c (x ∷ filter keep xs) (filter keep xs)
      by true true e f later = let never : true ≡ false = sym f ∙ dropped x e in absurd cc
      by true false e f later = refl
      by false c e f later = ap (λ (b : Bool). cond b (x ∷ filter keep (remove_key q xs)) (filter keep (remove_key q xs))) f ∙ (λ i. cond c (x ∷ later i) (later i))

-- tests that agree on all elements keep the same
filter_agrees : {A : Type 0} (apart p q : A → Bool) → ((x : A) → apart x ≡ true → p x ≡ q x) → (xs : List A) → list_all apart xs ≡ true → filter p xs ≡ filter q xs
filter_agrees apart p q same [] all = refl
filter_agrees apart p q same (x ∷ xs) all =
    let parts = and_parts (apart x) (list_all apart xs) all in
    let one = same x parts.0 in
    let more = filter_agrees apart p q same xs parts.1 in
    λ i. cond (one i) (x ∷ more i) (more i)

-- where nothing passes the test nothing is taken out
none_removed : {A : Type 0} (q : A → Bool) (xs : List A) → find q xs ≡ None → remove_key q xs ≡ xs
none_removed q [] none = refl
none_removed q (x ∷ xs) none =
    let parts = none_parts (q x) x (find q xs) none in
    ap (λ (b : Bool). cond b xs (x ∷ remove_key q xs)) parts.0 ∙ (λ i. x ∷ none_removed q xs parts.1 i)

pub kinds_less : (trees : List KeptTree) (q : KeyHead → Bool) (ks : List KeyHead) → AreTreeKeys ks trees → AreTreeKeys (remove_key q ks) trees
kinds_less trees q [] are = tt
kinds_less trees q (k ∷ ks) are = by (q k) (kinds_less trees q ks are.1)
  where
    by : (b : Bool) → AreTreeKeys (remove_key q ks) trees → AreTreeKeys (cond b ks (k ∷ remove_key q ks)) trees
    by true later = are.1
    by false later = (are.0, later)

-- another name doesn't tie
pub apart_name : (name other : List ℕ) → eq_by_cmp name_order name other ≡ false → bytes_eq other name ≡ false
apart_name name other apart = by (bytes_eq other name) refl
  where
    by : (b : Bool) → bytes_eq other name ≡ b → b ≡ false
    by false is = refl
    by true is =
        let same : other ≡ name = (bytes_eq-Decides other name).0 is in
        let tied : eq_by_cmp name_order name other ≡ true = ap (eq_by_cmp name_order name) same ∙ (eq_by_cmp_equiv names_total).refl name in
        let never : true ≡ false = sym tied ∙ apart in
        absurd cc

-- ---- trees of other names

abbrev is_apart : List ℕ → KeyHead → Bool
is_apart name k = not (bytes_eq k.name name)

still_found : (gone name : List ℕ) → bytes_eq name gone ≡ false → (ts : List KeptTree) → find (is_of_name name) (remove_key (is_of_name gone) ts) ≡ find (is_of_name name) ts
still_found gone name apart [] = refl
still_found gone name apart (u ∷ us) = by (bytes_eq u.name gone) (bytes_eq u.name name) refl refl (still_found gone name apart us)
  where
    by : (b c : Bool) → bytes_eq u.name gone ≡ b → bytes_eq u.name name ≡ c → find (is_of_name name) (remove_key (is_of_name gone) us) ≡ find (is_of_name name) us
        → find (is_of_name name) (cond b us (u ∷ remove_key (is_of_name gone) us)) ≡ cond c (Some u) (find (is_of_name name) us)
    by true true e f later =
        let same : name ≡ gone = sym ((bytes_eq-Decides u.name name).0 f) ∙ (bytes_eq-Decides u.name gone).0 e in
        let never : true ≡ false = sym ((bytes_eq-Decides name gone).1 same) ∙ apart in
        absurd cc
    by true false e f later = refl
    by false c e f later = ap (λ (b : Bool). cond b (Some u) (find (is_of_name name) (remove_key (is_of_name gone) us))) f ∙ ap (cond c (Some u)) later

-- a key of another name is of the kind of before
kind_still : (trees : List KeptTree) (name : List ℕ) (k : KeyHead) → is_apart name k ≡ true → items.is_tree_key (without_tree name trees) k ≡ items.is_tree_key trees k
kind_still trees name k apart = ap is_some (still_found name k.name (not-true (bytes_eq k.name name) apart) trees)

kinds_apart : (name : List ℕ) (trees : List KeptTree) (ks : List KeyHead) → list_all (is_apart name) ks ≡ true → AreTreeKeys ks trees → AreTreeKeys ks (without_tree name trees)
kinds_apart name trees [] apart are = tt
kinds_apart name trees (k ∷ ks) apart are =
    let parts = and_parts (is_apart name k) (list_all (is_apart name) ks) apart in
    (kind_still trees name k parts.0 ∙ are.0, kinds_apart name trees ks parts.1 are.1)

-- ---- an object

-- whether what is told of an object is of this name and cycle
abbrev is_told : List ℕ → ℕ → NameAndCycle × Listed → Bool
is_told name cycle t = bytes_eq t.0.0 name && (t.0.1 == cycle)

pair_is : (a : List ℕ) (n : ℕ) (b : List ℕ) (k : ℕ) → (bytes_eq a b && (n == k)) ≡ true → ◌≡◌ {A = NameAndCycle} (b, k) (a, n)
pair_is a n b k e =
    let parts = and_parts (bytes_eq a b) (n == k) e in
    let name = (bytes_eq-Decides a b).0 parts.0 in
    let cycle = eqb-true n k parts.1 in
    λ i. (sym name i, sym cycle i)

module _ (heads : List KeyHead) (trees : List KeptTree) (m : State) (h : KeyHead) (are : AreItemsOfState heads trees m) where
  abbrev left : List KeyHead
  left = without_head h.name h.cycle heads

  module _ (free : tree_of h.name trees ≡ None) (v : Value) (there : get m.objects (h.name, h.cycle) ≡ Some v) where
    other_object : (e : NameAndCycle × Value) → eq_by_cmp item_order (h.name, h.cycle) e.0 ≡ false → is_told h.name h.cycle (listed_object e) ≡ false
    other_object e apart = by (is_told h.name h.cycle (listed_object e)) refl
      where
        by : (b : Bool) → is_told h.name h.cycle (listed_object e) ≡ b → b ≡ false
        by false is = refl
        by true is =
            let same : ◌≡◌ {A = NameAndCycle} (h.name, h.cycle) e.0 = pair_is e.0.0 e.0.1 h.name h.cycle is in
            let tied : eq_by_cmp item_order (h.name, h.cycle) e.0 ≡ true = sym (ap (eq_by_cmp item_order (h.name, h.cycle)) same) ∙ (eq_by_cmp_equiv items_total).refl (h.name, h.cycle) in
            let never : true ≡ false = sym tied ∙ apart in
            absurd cc

    own_object : is_told h.name h.cycle (listed_object ((h.name, h.cycle), v)) ≡ true
    own_object = and_from (bytes_eq h.name h.name) (h.cycle == h.cycle) ((bytes_eq-Decides h.name h.name).1 refl) (eq-eqb h.cycle h.cycle refl)

    object_kind : (k : KeyHead) → is_at_cycle h.name h.cycle k ≡ true → items.is_tree_key trees k ≡ false
    object_kind k at = same_kind trees h.name h.cycle k at ∙ ap is_some free

    without_object : AreItemsOfState left trees (record m { objects = remove m.objects (h.name, h.cycle) })
    without_object = record {
      ordered = ordered_without (is_at_cycle h.name h.cycle) heads are.ordered;
      objects =
          ap (map told_by_key) (filter_kept (is_object_key trees) (is_at_cycle h.name h.cycle) (λ k at. ap not (object_kind k at)) heads)
          ∙ map_removed told_by_key (is_told h.name h.cycle) (filter (is_object_key trees) heads)
          ∙ ap (remove_key (is_told h.name h.cycle)) (are.objects ∙ ap (map listed_object) (back items_total items_tie m.objects (h.name, h.cycle) v there))
          ∙ one_removed item_order listed_object (is_told h.name h.cycle) (h.name, h.cycle) v own_object other_object (entries (remove m.objects (h.name, h.cycle))) (none_left items_total items_tie m.objects (h.name, h.cycle));
      cycles = ap (map item_of_key) (filter_dropped (items.is_tree_key trees) (is_at_cycle h.name h.cycle) object_kind heads) ∙ are.cycles;
      kept = are.kept;
    }

  -- ---- a tree

  module _ (kt : KeptTree) (named : tree_of h.name trees ≡ Some kt) (t : Tree) (there : get m.trees h.name ≡ Some t) (cycle : t.cycle ≡ h.cycle) where
    abbrev others : List (List ℕ × Tree)
    others = entries (remove m.trees h.name)

    abbrev is_item : NameAndCycle → Bool
    is_item x = bytes_eq x.0 h.name && (x.1 == h.cycle)

    -- the cycles of the keys of trees
    pub cycles_without : map item_of_key (remove_key (is_at_cycle h.name h.cycle) (filter (items.is_tree_key trees) heads)) ≡ map item_of_tree others
    cycles_without =
        map_removed item_of_key is_item (filter (items.is_tree_key trees) heads)
        ∙ ap (remove_key is_item) (are.cycles ∙ ap (map item_of_tree) (back names_total names_tie m.trees h.name t there))
        ∙ one_removed name_order item_of_tree is_item h.name t
        (and_from (bytes_eq h.name h.name) (t.cycle == h.cycle) ((bytes_eq-Decides h.name h.name).1 refl) (eq-eqb t.cycle h.cycle cycle))
        (λ e apart. ap (λ (b : Bool). b && (e.1.cycle == h.cycle)) (apart_name h.name e.0 apart))
        others (none_left names_total names_tie m.trees h.name)

    kept_without : without_tree h.name trees ≡ map kept_tree others
    kept_without =
        ap (remove_key (is_of_name h.name)) (are.kept ∙ ap (map kept_tree) (back names_total names_tie m.trees h.name t there))
        ∙ one_removed name_order kept_tree (is_of_name h.name) h.name t ((bytes_eq-Decides h.name h.name).1 refl) (λ e apart. apart_name h.name e.0 apart)
        others (none_left names_total names_tie m.trees h.name)

    tree_kind : (k : KeyHead) → is_at_cycle h.name h.cycle k ≡ true → items.is_tree_key trees k ≡ true
    tree_kind k at = same_kind trees h.name h.cycle k at ∙ ap is_some named

    pub trees_left : filter (items.is_tree_key trees) left ≡ remove_key (is_at_cycle h.name h.cycle) (filter (items.is_tree_key trees) heads)
    trees_left = filter_kept (items.is_tree_key trees) (is_at_cycle h.name h.cycle) tree_kind heads

    -- ---- no key that is left has the name

    tells_apart_names : (ks : List KeyHead) (es : List (List ℕ × Tree)) → map item_of_key ks ≡ map item_of_tree es → find_key name_order h.name es ≡ None → list_all (is_apart h.name) ks ≡ true
    tells_apart_names [] es same none = refl
    tells_apart_names (k ∷ ks) [] same none = absurd cc
    tells_apart_names (k ∷ ks) (e ∷ es) same none =
        let first : item_of_key k ≡ item_of_tree e = cc in
        let rest : map item_of_key ks ≡ map item_of_tree es = cc in
        let parts = none_parts (eq_by_cmp name_order h.name e.0) e.1 (find_key name_order h.name es) none in
        and_from (is_apart h.name k) (list_all (is_apart h.name) ks)
        (ap (λ (x : NameAndCycle). not (bytes_eq x.0 h.name)) first ∙ ap not (apart_name h.name e.0 parts.0)) (tells_apart_names ks es rest parts.1)

    -- a key that isn't a tree's has another name
    apart_by_kind : (k : KeyHead) → items.is_tree_key trees k ≡ false → is_apart h.name k ≡ true
    apart_by_kind k other = by (bytes_eq k.name h.name) refl
      where
        by : (b : Bool) → bytes_eq k.name h.name ≡ b → not b ≡ true
        by false is = refl
        by true is =
            let tree : items.is_tree_key trees k ≡ true = ap (λ (n : List ℕ). is_some (tree_of n trees)) ((bytes_eq-Decides k.name h.name).0 is) ∙ ap is_some named in
            let never : true ≡ false = sym tree ∙ other in
            absurd cc

    all_apart : (ks : List KeyHead) → list_all (is_apart h.name) (filter (items.is_tree_key trees) ks) ≡ true → list_all (is_apart h.name) ks ≡ true
    all_apart [] some = refl
    all_apart (k ∷ ks) some = by (items.is_tree_key trees k) refl (all_apart ks) some
      where
        by : (b : Bool) → items.is_tree_key trees k ≡ b → (list_all (is_apart h.name) (filter (items.is_tree_key trees) ks) ≡ true → list_all (is_apart h.name) ks ≡ true)
            → list_all (is_apart h.name) (cond b (k ∷ filter (items.is_tree_key trees) ks) (filter (items.is_tree_key trees) ks)) ≡ true → list_all (is_apart h.name) (k ∷ ks) ≡ true
        by true is later some =
            let parts = and_parts (is_apart h.name k) (list_all (is_apart h.name) (filter (items.is_tree_key trees) ks)) some in
            and_from (is_apart h.name k) (list_all (is_apart h.name) ks) parts.0 (later parts.1)
        by false is later some = and_from (is_apart h.name k) (list_all (is_apart h.name) ks) (apart_by_kind k is) (later some)

    left_apart : list_all (is_apart h.name) left ≡ true
    left_apart = all_apart left (ap (list_all (is_apart h.name)) trees_left ∙ tells_apart_names (remove_key (is_at_cycle h.name h.cycle) (filter (items.is_tree_key trees) heads)) others cycles_without (none_left names_total names_tie m.trees h.name))

    without_one_tree : AreItemsOfState left (without_tree h.name trees) (record m { trees = remove m.trees h.name })
    without_one_tree = record {
      ordered = ordered_without (is_at_cycle h.name h.cycle) heads are.ordered;
      objects =
          ap (map told_by_key) (filter_agrees (is_apart h.name) (is_object_key (without_tree h.name trees)) (is_object_key trees) (λ k apart. ap not (kind_still trees h.name k apart)) left left_apart)
          ∙ ap (map told_by_key) (filter_dropped (is_object_key trees) (is_at_cycle h.name h.cycle) (λ k at. ap not (tree_kind k at)) heads)
          ∙ are.objects;
      cycles =
          ap (map item_of_key) (filter_agrees (is_apart h.name) (items.is_tree_key (without_tree h.name trees)) (items.is_tree_key trees) (kind_still trees h.name) left left_apart ∙ trees_left)
          ∙ cycles_without;
      kept = kept_without;
    }

-- ---- the cycle of a tree is that of its key

module _ {K X B : Type 0} (R : K → K → Ordering) (f : K × X → B) (q : B → Bool) (k : K) (other : (e : K × X) → eq_by_cmp R k e.0 ≡ false → q (f e) ≡ false) where
  none_other : (es : List (K × X)) → find_key R k es ≡ None → list_any q (map f es) ≡ false
  none_other [] none = refl
  none_other (e ∷ es) none =
      let parts = none_parts (eq_by_cmp R k e.0) e.1 (find_key R k es) none in
      ap (λ (b : Bool). b || list_any q (map f es)) (other e parts.0) ∙ none_other es parts.1

  own_or_none : (b : Bool) (es : List (K × X)) → find_key R k es ≡ None → (b || list_any q (map f es)) ≡ b
  own_or_none true es none = refl
  own_or_none false es none = none_other es none

  any_put : (x : X) (es : List (K × X)) → find_key R k es ≡ None → list_any q (map f (put R k x es)) ≡ q (f (k, x))
  any_put x [] none = own_or_none (q (f (k, x))) [] none
  any_put x (e ∷ es) none = by (R k e.0) refl (any_put x es parts.1)
    where
      parts : (eq_by_cmp R k e.0 ≡ false) × (find_key R k es ≡ None)
      parts = none_parts (eq_by_cmp R k e.0) e.1 (find_key R k es) none

      by : (o : Ordering) → R k e.0 ≡ o → list_any q (map f (put R k x es)) ≡ q (f (k, x))
          → list_any q (map f (by_order o ((k, x) ∷ e ∷ es) ((e.0, x) ∷ es) (e ∷ put R k x es))) ≡ q (f (k, x))
      by Less is later = own_or_none (q (f (k, x))) (e ∷ es) none
      by Equal is later = let never : true ≡ false = sym (ap is_eq is) ∙ parts.0 in absurd cc
      by Greater is later = ap (λ (b : Bool). b || list_any q (map f (put R k x es))) (other e parts.0) ∙ later

module _ (heads : List KeyHead) (trees : List KeptTree) (m : State) (h : KeyHead) (are : AreItemsOfState heads trees m) (is : head_of h.name (Some h.cycle) heads ≡ Some h) where
  pub tree_cycle : (kt : KeptTree) → tree_of h.name trees ≡ Some kt → (t : Tree) → get m.trees h.name ≡ Some t → t.cycle ≡ h.cycle
  tree_cycle kt named t there =
      let of_trees = filter (items.is_tree_key trees) heads in
      let own = found (is_at_cycle h.name h.cycle) h heads is in
      let kind : items.is_tree_key trees h ≡ true = ap is_some named in
      let among = in_map item_of_key h of_trees (in_filter (items.is_tree_key trees) h heads own.among kind) in
      let test : NameAndCycle → Bool = λ x. bytes_eq x.0 h.name && (x.1 == h.cycle) in
      let some = any_from test (item_of_key h) (map item_of_key of_trees) among own.passes in
      let all : map item_of_key of_trees ≡ map item_of_tree (put name_order h.name t (entries (remove m.trees h.name))) = are.cycles ∙ ap (map item_of_tree) (back names_total names_tie m.trees h.name t there) in
      let one = any_put name_order item_of_tree test h.name (λ e apart. ap (λ (b : Bool). b && (e.1.cycle == h.cycle)) (apart_name h.name e.0 apart)) t (entries (remove m.trees h.name)) (none_left names_total names_tie m.trees h.name) in
      let both = and_parts (bytes_eq h.name h.name) (t.cycle == h.cycle) (sym one ∙ sym (ap (list_any test) all) ∙ some) in
      eqb-true t.cycle h.cycle both.1

  -- ---- what is left

  abbrev gone : Bool → State
  gone b = if b then record m { trees = remove m.trees h.name } else record m { objects = remove m.objects (h.name, h.cycle) }

  items_left : (o : Option KeptTree) → tree_of h.name trees ≡ o → AreItemsOfState (without_head h.name h.cycle heads) (without_tree h.name trees) (gone (is_some o))
  items_left None free =
      let v = some_of (get m.objects (h.name, h.cycle)) ((names_objects heads trees m are h.name free).has h.cycle ∙ ap is_some is) in
      subst (λ (ts : List KeptTree). AreItemsOfState (without_head h.name h.cycle heads) ts (gone false)) (sym (none_removed (is_of_name h.name) trees free)) (without_object heads trees m h are free v.0 v.1)
  items_left (Some kt) named =
      let t = some_of (get m.trees h.name) (tree_is heads trees m are h.name ∙ ap is_some named) in
      without_one_tree heads trees m h are kt named t.0 t.1 (tree_cycle kt named t.0 t.1)

  kinds_left : AreTreeKeys heads trees → (o : Option KeptTree) → tree_of h.name trees ≡ o → AreTreeKeys (without_head h.name h.cycle heads) (without_tree h.name trees)
  kinds_left kinds None free =
      subst (λ (ts : List KeptTree). AreTreeKeys (without_head h.name h.cycle heads) ts) (sym (none_removed (is_of_name h.name) trees free))
      (kinds_less trees (is_at_cycle h.name h.cycle) heads kinds)
  kinds_left kinds (Some kt) named =
      let t = some_of (get m.trees h.name) (tree_is heads trees m are h.name ∙ ap is_some named) in
      kinds_apart h.name trees (without_head h.name h.cycle heads) (left_apart heads trees m h are kt named t.0 t.1 (tree_cycle kt named t.0 t.1))
      (kinds_less trees (is_at_cycle h.name h.cycle) heads kinds)

same_classes : (b : Bool) (m : State) (h : KeyHead) → (if b then record m { trees = remove m.trees h.name } else record m { objects = remove m.objects (h.name, h.cycle) }).classes ≡ m.classes
same_classes true m h = refl
same_classes false m h = refl

pub classes_stay : (m : State) (h : KeyHead) → (state_behind m (Delete h.name h.cycle)).classes ≡ m.classes
classes_stay m h = same_classes (names_tree m h.name) m h

-- what a session keeps after a delete stands for the state after it
pub delete_stands : (s : SessionState) (m : State) (h : KeyHead) → IsOfKeys s m → head_of h.name (Some h.cycle) s.heads ≡ Some h → IsOfKeys (kept_by s m (Delete h.name h.cycle)) (state_behind m (Delete h.name h.cycle))
delete_stands s m h keys is =
    let trees = kept_trees s in
    let same : without_tree h.name trees ≡ map kept_tree_of (without_filled h.name s.trees) = sym (map_removed kept_tree_of (is_of_name h.name) s.trees) in
    let kind : is_some (tree_of h.name trees) ≡ names_tree m h.name = sym (tree_is s.heads trees m keys.keys h.name) in
    let left = without_head h.name h.cycle s.heads in
    record {
      classes = classes_stay m h ∙ keys.classes;
      keys = subst (λ (x : List KeptTree × Bool). AreItemsOfState left x.0 (gone s.heads trees m h keys.keys is x.1)) (λ i. (same i, kind i)) (items_left s.heads trees m h keys.keys is (tree_of h.name trees) refl);
      trees = subst (λ (ts : List KeptTree). AreTreeKeys left ts) same (kinds_left s.heads trees m h keys.keys is keys.trees (tree_of h.name trees) refl);
    }
