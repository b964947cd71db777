-- Two headers of one name that both count have the same cycle.
use Rattle.std.proofs.Common.{◌≡◌, ◌⊎◌, inl, inr, ◌∙◌, ℕ, ◌+◌, ◌<◌, ◌≤◌, List, [], ◌∷◌, ◌++◌, Bool, true, false, cond, not, ◌&&◌, ◌||◌, ◌==◌, ltb, Option, Some, None, refl, sym, ap, subst, arith}
use Rattle.std.proofs.lemmas.{Bool.{and_from, and_parts, eq-eqb, lt-ltb, ltb-false, not-true, cases_lt}, List.Sorted.{list_any-IsPermutation}, Slice.Eq.{bytes_eq-Decides}}
use Rattle.std.specs.{List.{All, Contains, cons_option, find, list_any, Sorted.{IsPermutation}}, Option.{is_none, is_some, option_map}, Str.{bytes_eq}}
use Rattle.std.proofs.lemmas.List.Elements.{All-contains}
use Rattle.rio_tree.specs.declared.head.TreeHead.{TreeHead}
use Rattle.rio_state.specs.{Contents.{FileClasses}, KeyedRecords.{KeyedRecord, has_item, is_outdated, is_tree_key, is_tree_record, item_of_key}, Trees.{header_in}}
use Rattle.rio_state.proofs.Members.{In, any_from, contains_in, filter_in, in_contained, none_at}
use Rattle.rio_recover.specs.{Checks.{header_records}, Trees.{tree_at, trees_at}, TreeTable.{has_name}, declared.trees.TreeAt.{TreeAt}}
use Rattle.rio_recover.proofs.Tables.{some_found}

module _ (tops : List KeyedRecord) where
  -- none of a header that counts is lower than another one of its name
  no_higher : (r s : KeyedRecord) → is_tree_record tops r ≡ true → is_tree_key s.head ≡ true → In s tops → bytes_eq s.head.name r.head.name ≡ true → s.head.cycle ≤ r.head.cycle
  no_higher r s counts tree i named =
      elim (cases_lt r.head.cycle s.head.cycle) [
        | inl lt ↦
            let fresh = not-true (is_outdated tops r) (and_parts (is_tree_key r.head) (not (is_outdated tops r)) counts).1 in
            absurd (none_at (λ t. is_tree_key t.head && bytes_eq t.head.name r.head.name && ltb r.head.cycle t.head.cycle) s tops fresh i
            (and_from _ _ (and_from _ _ tree named) (lt-ltb r.head.cycle s.head.cycle lt)))
        | inr ge ↦ ge
      ]

  same_cycle : (r s : KeyedRecord) → is_tree_record tops r ≡ true → is_tree_record tops s ≡ true → In r tops → In s tops → s.head.name ≡ r.head.name → s.head.cycle ≡ r.head.cycle
  same_cycle r s a b i j named =
      let x = no_higher r s a (and_parts (is_tree_key s.head) (not (is_outdated tops s)) b).0 j ((bytes_eq-Decides s.head.name r.head.name).1 named) in
      let y = no_higher s r b (and_parts (is_tree_key r.head) (not (is_outdated tops r)) a).0 i ((bytes_eq-Decides r.head.name s.head.name).1 (sym named)) in
      omega (arith, x, y)

-- ---- a tree of a name

-- the header of a tree among those of some records
record HasHeader (classes : FileClasses) (name : List ℕ) (rs : List KeyedRecord) : Type 0 where
  r : KeyedRecord
  among : In r rs
  named : r.head.name ≡ name

header_of : (classes : FileClasses) (name : List ℕ) (rs : List KeyedRecord) → list_any (has_name name) (trees_at classes rs) ≡ true → HasHeader classes name rs
header_of classes name [] e = absurd cc
header_of classes name (r ∷ rs) e = by (header_in classes r) e (header_of classes name rs)
  where
    later : HasHeader classes name rs → HasHeader classes name (r ∷ rs)
    later h = record { r = h.r; among = inr h.among; named = h.named }

    here : (b : Bool) → bytes_eq r.head.name name ≡ b → (b || list_any (has_name name) (trees_at classes rs)) ≡ true → (list_any (has_name name) (trees_at classes rs) ≡ true → HasHeader classes name rs)
        → HasHeader classes name (r ∷ rs)
    here true is f rest = record { r = r; among = inl refl; named = (bytes_eq-Decides r.head.name name).0 is }
    here false is f rest = later (rest f)

    by : (o : Option TreeHead) → list_any (has_name name) (cons_option (option_map (λ (head : TreeHead). let t : TreeAt = record { name = r.head.name; head = head } in t) o) (trees_at classes rs)) ≡ true
        → (list_any (has_name name) (trees_at classes rs) ≡ true → HasHeader classes name rs) → HasHeader classes name (r ∷ rs)
    by None f rest = later (rest f)
    by (Some head) f rest = here (bytes_eq r.head.name name) refl f rest

-- where a tree of the name is there already, a key of the name and cycle was checked
pub named_twice : (tops before : List KeyedRecord) (classes : FileClasses) (r : KeyedRecord) (trees : List TreeAt) → is_tree_record tops r ≡ true → Contains tops r → All (Contains tops) before
    → IsPermutation (trees_at classes (header_records tops before)) trees → is_none (find (has_name r.head.name) trees) ≡ false → list_any (has_item (item_of_key r.head)) before ≡ true
named_twice tops before classes r trees counts top others moved there =
    let some : is_some (find (has_name r.head.name) trees) ≡ true = some_of (find (has_name r.head.name) trees) there in
    let any : list_any (has_name r.head.name) (trees_at classes (header_records tops before)) ≡ true =
    list_any-IsPermutation (has_name r.head.name) (trees_at classes (header_records tops before)) trees moved ∙ sym (some_found (has_name r.head.name) trees) ∙ some in
    let h = header_of classes r.head.name (header_records tops before) any in
    let f = filter_in (is_tree_record tops) h.r before h.among in
    let j = All-contains (Contains tops) before h.r others (contains_in h.r before f.0) in
    let cycles = same_cycle tops r h.r counts f.1 (in_contained r tops top) (in_contained h.r tops j) h.named in
    any_from (has_item (item_of_key r.head)) h.r before f.0 (and_from _ _ ((bytes_eq-Decides h.r.head.name r.head.name).1 h.named) (eq-eqb h.r.head.cycle r.head.cycle cycles))
  where
    some_of : {X : Type 0} (o : Option X) → is_none o ≡ false → is_some o ≡ true
    some_of None e = absurd cc
    some_of (Some x) e = refl
