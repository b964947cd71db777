-- What a state doesn't have, none of the records that stand for it has.
use Rattle.std.proofs.Common.{◌≡◌, inl, inr, ⊎_elim, ℕ, ◌≤◌, ◌∙◌, List, [], ◌∷◌, Bool, true, false, not, ◌&&◌, ◌||◌, Option, Some, None, refl, sym, ap, subst, arith}
use Rattle.std.proofs.{lemmas.Bool.{and_from, and_parts, cases_lt, ltb-true}, lemmas.Slice.Eq.{bytes_eq-Decides}}
use Rattle.std.specs.{Prelude.{is_some, nat_lt, option_and_then}, FinMap.{get}, List.{find, list_all, list_any}, Str.{bytes_eq}}
use Rattle.rio_machine.specs.State.{NameAndCycle, State, names_tree}
use Rattle.rio_state.specs.{Contents.{object_in, state_classes}, Trees.{tree_of, trees_beside}}
use Rattle.rio_state.specs.{KeyedRecords.{KeyedRecord, has_item, is_tree_key, is_tree_record, object_records, tree_records}, Reads.{StandsForState}}
use Rattle.rio_state.proofs.{Insertion.{any_none}, Members.{In, all_at, found, in_filter, none_at, none_from}}

abbrev pub is_tree_named : List ℕ → KeyedRecord → Bool
is_tree_named name s = bytes_eq s.head.name name && is_tree_key s.head

-- ---- the greatest cycle of a tree's name

record IsHighest (name : List ℕ) (rs : List KeyedRecord) : Type 0 where
  top : KeyedRecord
  among : In top rs
  named : is_tree_named name top ≡ true
  above : (s : KeyedRecord) → In s rs → is_tree_named name s ≡ true → s.head.cycle ≤ top.head.cycle

module _ (name : List ℕ) where
  -- the first is the highest
  first_highest : (r : KeyedRecord) (rs : List KeyedRecord) → is_tree_named name r ≡ true → ((s : KeyedRecord) → In s rs → is_tree_named name s ≡ true → s.head.cycle ≤ r.head.cycle) → IsHighest name (r ∷ rs)
  first_highest r rs named above = record { top = r; among = inl refl; named = named; above = λ s i e. by s i e }
    where
      by : (s : KeyedRecord) → In s (r ∷ rs) → is_tree_named name s ≡ true → s.head.cycle ≤ r.head.cycle
      by s (inl same) e = let is = ap (λ (t : KeyedRecord). t.head.cycle) same in omega (arith, is)
      by s (inr i) e = above s i e

  -- one of the others is
  later_highest : (r : KeyedRecord) (rs : List KeyedRecord) (h : IsHighest name rs) → (is_tree_named name r ≡ true → r.head.cycle ≤ h.top.head.cycle) → IsHighest name (r ∷ rs)
  later_highest r rs h below = record { top = h.top; among = inr h.among; named = h.named; above = λ s i e. by s i e }
    where
      by : (s : KeyedRecord) → In s (r ∷ rs) → is_tree_named name s ≡ true → s.head.cycle ≤ h.top.head.cycle
      by s (inl same) e = subst (λ (t : KeyedRecord). t.head.cycle ≤ h.top.head.cycle) same (below (ap (is_tree_named name) same ∙ e))
      by s (inr i) e = h.above s i e

  highest : (rs : List KeyedRecord) → list_any (is_tree_named name) rs ≡ true → IsHighest name rs
  highest [] e = absurd cc
  highest (r ∷ rs) e = by (is_tree_named name r) (list_any (is_tree_named name) rs) refl refl (highest rs) e
    where
      by : (a b : Bool) → is_tree_named name r ≡ a → list_any (is_tree_named name) rs ≡ b → (list_any (is_tree_named name) rs ≡ true → IsHighest name rs) → (a || b) ≡ true → IsHighest name (r ∷ rs)
      by true true own there rest e =
          let h = rest there in
          ⊎_elim
          (λ lt. first_highest r rs own (λ s i n. let le = h.above s i n in omega (arith, le, lt)))
          (λ ge. later_highest r rs h (λ n. ge))
          (cases_lt h.top.head.cycle r.head.cycle)
      by true false own there rest e = first_highest r rs own (λ s i n. absurd (none_at (is_tree_named name) s rs there i n))
      by false true own there rest e = later_highest r rs (rest there) (λ n. absurd cc)
      by false false own there rest e = absurd cc

  module _ (tops : List KeyedRecord) (h : IsHighest name tops) where
    own_parts : (bytes_eq h.top.head.name name ≡ true) × (is_tree_key h.top.head ≡ true)
    own_parts = and_parts (bytes_eq h.top.head.name name) (is_tree_key h.top.head) h.named

    not_above : (s : KeyedRecord) → In s tops → (is_tree_key s.head && bytes_eq s.head.name h.top.head.name && nat_lt h.top.head.cycle s.head.cycle) ≡ true → ⊥
    not_above s i e =
        let x = and_parts (is_tree_key s.head && bytes_eq s.head.name h.top.head.name) (nat_lt h.top.head.cycle s.head.cycle) e in
        let y = and_parts (is_tree_key s.head) (bytes_eq s.head.name h.top.head.name) x.0 in
        let same = (bytes_eq-Decides h.top.head.name name).0 own_parts.0 in
        let named : bytes_eq s.head.name name ≡ true = ap (bytes_eq s.head.name) (sym same) ∙ y.1 in
        let le = h.above s i (and_from _ _ named y.0) in
        let lt = ltb-true h.top.head.cycle s.head.cycle x.1 in
        omega (arith, le, lt)

    -- it is a tree's record
    highest_record : In h.top (tree_records tops)
    highest_record =
        let last = none_from (λ s. is_tree_key s.head && bytes_eq s.head.name h.top.head.name && nat_lt h.top.head.cycle s.head.cycle) tops not_above in
        in_filter (is_tree_record tops) h.top tops h.among (and_from _ _ own_parts.1 (ap not last))

-- ---- names and cycles

-- a record that is found is read, where all are
none_found : {A : Type 0} (read : KeyedRecord → Option A) (p : KeyedRecord → Bool) (rs : List KeyedRecord) → list_all (λ s. is_some (read s)) rs ≡ true
    → is_some (option_and_then read (find p rs)) ≡ false → list_any p rs ≡ false
none_found read p rs all none = any_none p rs (by (find p rs) refl none)
  where
    by : (o : Option KeyedRecord) → find p rs ≡ o → is_some (option_and_then read o) ≡ false → o ≡ None
    by None is e = refl
    by (Some s) is e = let some = all_at (λ t. is_some (read t)) s rs all (found p s rs is).among in absurd cc

module _ (records : List KeyedRecord) (info : Option KeyedRecord) (tops : List KeyedRecord) (m : State) (s : StandsForState records info tops m) where
  pub no_tree_named : (name : List ℕ) → names_tree m name ≡ false → list_any (is_tree_named name) tops ≡ false
  no_tree_named name e = by (list_any (is_tree_named name) tops) refl
    where
      none : list_any (λ t. bytes_eq t.head.name name) (tree_records tops) ≡ false
      none =
          none_found (tree_of (trees_beside info records tops)) (λ t. bytes_eq t.head.name name) (tree_records tops) s.tree_readable
          (ap is_some (sym (s.trees name)) ∙ e)

      by : (b : Bool) → list_any (is_tree_named name) tops ≡ b → b ≡ false
      by true is =
          let h = highest name tops is in
          absurd (none_at (λ t. bytes_eq t.head.name name) h.top (tree_records tops) none (highest_record name tops h) (own_parts name tops h).0)
      by false is = refl

  pub no_item : (item : NameAndCycle) → get m.objects item ≡ None → list_any (is_tree_named item.0) tops ≡ false → list_any (has_item item) tops ≡ false
  no_item item free no_tree =
      let none = none_found (object_in (state_classes info)) (has_item item) (object_records tops) s.readable (ap is_some (sym (s.objects item) ∙ free)) in
      none_from (has_item item) tops (λ t i e. by t i e (is_tree_key t.head) refl none)
    where
      by : (t : KeyedRecord) → In t tops → has_item item t ≡ true → (b : Bool) → is_tree_key t.head ≡ b → list_any (has_item item) (object_records tops) ≡ false → ⊥
      by t i e true is none =
          let name = (and_parts (bytes_eq t.head.name item.0) _ e).0 in
          none_at (is_tree_named item.0) t tops no_tree i (and_from _ _ name is)
      by t i e false is none = none_at (has_item item) t (object_records tops) none (in_filter (λ u. not (is_tree_key u.head)) t tops i (ap not is)) e
