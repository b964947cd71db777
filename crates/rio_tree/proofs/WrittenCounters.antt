-- The leaf that counts another one is found again by its label.
use Rattle.std.proofs.Common.{◌≡◌, ◌∙◌, ◌&&◌, ◌||◌, ◌<◌, ◌⊎◌, inl, inr, ℕ, ◌+◌, pos, Bool, true, false, List, [], ◌∷◌, ◌++◌, length, Option, Some, None, refl, ap, sym, subst, arith, nat_lt}
use Rattle.std.proofs.{lemmas.Bool.{and_parts, eq-eqb, eqb-true, ne_eqb, not-true, or_left, or_right, Decides.{nat_tests}}, lemmas.List.Folds.{list_any-append}}
use Rattle.std.proofs.lemmas.Slice.Eq.{bytes_eq-Decides}
use Rattle.std.specs.{Map.{lookup}, Prelude.{◌==◌, not, slice_get, nat_le, Result, Ok}, Str.{bytes_eq}}
use Rattle.rio_num.proofs.BytesEq.{bytes_eq-sym}
use Rattle.rio_num.specs.Word.{is_name_text}
use Rattle.rio_leaf.specs.Leaves.{can_count, has_counting_leaf, has_leaf, is_dim, is_leaf_count, is_letter_of, is_one}
use Rattle.rio_leaf.specs.{Marks.{is_leaf_letter, letter_of_texts}, Stated.{is_stated_leaf}, declared.leaf.Dim.{Dim, TheVariants.{One, Fixed, Counted}}}
use Rattle.rio_leaf.specs.declared.leaf.Leaf.{Leaf}
use Rattle.rio_tree.specs.{declared.head.Branch.{Branch}, declared.refusal.BranchRefusal.{BranchRefusal}}
use Rattle.rio_tree.specs.HeaderLeaves.{LeafMet, LeavesMet, counter_met, counter_of_label, is_plain_number, leaf_by, says_values, uncounted_dim, with_counter, with_leaf_met}
use Rattle.rio_tree.specs.{WrittenLaws.{branch_of_leaf, stated_defs, with_counting_branch}, WrittenTree.{LeafLabels}}
use Rattle.rio_tree.proofs.{WrittenLeaves.{either_way}, WrittenSaid.{said_of_leaf}}

-- ---- where a counter stands

-- it is a leaf of the branch behind these, of which these leaves are done
abbrev pub OwnPlace : List Branch → List Leaf → List ℕ → ℕ → Type 0
OwnPlace branches done name n = (n ≡ length branches) × (branch_of_leaf (stated_defs branches) name ≡ None) × (has_leaf done name ≡ true)

-- it is a leaf of one of these branches
abbrev pub EarlierPlace : List Branch → List ℕ → ℕ → Type 0
EarlierPlace branches name n = (n < length branches) × (branch_of_leaf (stated_defs branches) name ≡ Some n) × (says_values (slice_get branches n) ≡ true)

-- What is known of a leaf that may count: its label, which is below the next one, and what those behind it see of it.
pub record Leads (branches : List Branch) (done : List Leaf) (known : LeafLabels) (met : LeavesMet) (next : ℕ) (name : List ℕ) : Type 0 where
  pub label : ℕ
  pub leaf : LeafMet
  pub below : label < next
  pub found : lookup (bytes_eq name) known ≡ Some label
  pub by_label : met.of_label label ≡ Some leaf
  pub by_name : met.of_name name ≡ Some leaf
  pub own_label : leaf.label ≡ Some label
  pub named : leaf.name ≡ name
  pub counts : leaf.counts ≡ true
  pub place : OwnPlace branches done name leaf.branch ⊎ EarlierPlace branches name leaf.branch

-- all of these leaves that may count are known
abbrev pub AllLead : List Branch → List Leaf → List Leaf → LeafLabels → LeavesMet → ℕ → Type 0
AllLead branches before done known met next = (name : List ℕ) → has_counting_leaf before name ≡ true → Leads branches done known met next name

-- ---- the counter of a leaf

may_count : (branches : List Branch) (done : List Leaf) (name : List ℕ) (n : ℕ) → OwnPlace branches done name n ⊎ EarlierPlace branches name n → ((n == length branches) || says_values (slice_get branches n)) ≡ true
may_count branches done name n (inl own) = rw (eq-eqb n (length branches) own.0) refl
may_count branches done name n (inr earlier) = or_right (n == length branches) (says_values (slice_get branches n)) earlier.2

counter_again : (branches : List Branch) (done : List Leaf) (known : LeafLabels) (met : LeavesMet) (next : ℕ) (name : List ℕ) (leads : Leads branches done known met next name) → counter_of_label branches met leads.label ≡ Some leads.leaf
unfolding counter_of_label
counter_again branches done known met next name leads =
    rw (
      leads.by_label,
      leads.named,
      leads.by_name,
      leads.own_label,
      eq-eqb leads.label leads.label refl,
      leads.counts,
      may_count branches done name leads.leaf.branch leads.place,
    ) refl

numbers_again : (branches : List Branch) (done : List Leaf) (name : List ℕ) (times : ℕ) (leaf : LeafMet) → OwnPlace branches done name leaf.branch ⊎ EarlierPlace branches name leaf.branch → (numbers : List ℕ)
    → with_counter (length branches) (Some leaf) numbers ≡ with_counting_branch (stated_defs branches) (Counted name times) numbers
numbers_again branches done name times leaf (inl own) numbers = rw (eq-eqb leaf.branch (length branches) own.0, own.1) refl
numbers_again branches done name times leaf (inr earlier) numbers = rw (ne_eqb leaf.branch (length branches) (λ e. absurd (omega (arith, e, earlier.0))), earlier.1) refl

-- what reading says of the counter of a leaf, and what it makes of the leaf
pub record LeafReads (branches : List Branch) (known : LeafLabels) (met : LeavesMet) (leaf : Leaf) : Type 0 where
  pub counter : Option LeafMet
  pub found : counter_met branches met (said_of_leaf known leaf) ≡ Ok counter
  pub again : leaf_by (said_of_leaf known leaf) counter ≡ leaf
  pub numbers : (numbers : List ℕ) → with_counter (length branches) counter numbers ≡ with_counting_branch (stated_defs branches) leaf.dim numbers
  pub counts : is_plain_number (said_of_leaf known leaf) ≡ can_count leaf

abbrev leaf_with : List ℕ → ℕ → Dim → Leaf
leaf_with name letter dim = record { name = name; letter = letter; dim = dim }

-- ---- what is stated of a leaf

pub record IsStated (before : List Leaf) (leaf : Leaf) : Type 0 where
  pub fresh : has_leaf before leaf.name ≡ false
  pub dim : is_dim (has_counting_leaf before) leaf.dim ≡ true
  pub letter : is_leaf_letter leaf.letter ≡ true
  pub text : (is_one leaf.dim || not (leaf.letter == letter_of_texts)) ≡ true

pub stated_leaf : (before : List Leaf) (leaf : Leaf) → is_stated_leaf before leaf ≡ true → IsStated before leaf
stated_leaf before leaf e =
    let letter = and_parts (is_name_text leaf.name && not (has_leaf before leaf.name) && is_dim (has_counting_leaf before) leaf.dim) (is_letter_of leaf.dim leaf.letter) e in
    let dim = and_parts (is_name_text leaf.name && not (has_leaf before leaf.name)) (is_dim (has_counting_leaf before) leaf.dim) letter.0 in
    let fresh = and_parts (is_name_text leaf.name) (not (has_leaf before leaf.name)) dim.0 in
    let text = and_parts (is_leaf_letter leaf.letter) (is_one leaf.dim || not (leaf.letter == letter_of_texts)) letter.1 in
    record { fresh = not-true (has_leaf before leaf.name) fresh.1; dim = dim.1; letter = text.0; text = text.1 }

-- ---- one leaf

-- at least two
is_list : (n : ℕ) → is_leaf_count n ≡ true → uncounted_dim (pos n) ≡ Fixed n
is_list n e =
    let h = and_parts (nat_le 2 n) (nat_le n 100000) e in
    let more : nat_lt 1 n ≡ true = grind (arith, nat_tests, h.0) in
    rw more refl

leaf_reads_as : (branches : List Branch) (before done : List Leaf) (known : LeafLabels) (met : LeavesMet) (next : ℕ) (name : List ℕ) (letter : ℕ) (dim : Dim)
    → is_dim (has_counting_leaf before) dim ≡ true → (is_one dim || not (letter == letter_of_texts)) ≡ true → AllLead branches before done known met next → LeafReads branches known met (leaf_with name letter dim)
leaf_reads_as branches before done known met next name letter One e text leads = record {
  counter = None;
  found = either_way (λ (r : Result (Option LeafMet) BranchRefusal). r ≡ Ok None) (letter == letter_of_texts) (Ok None) (Ok None) refl refl;
  again = either_way (λ (d : Dim). leaf_with name letter d ≡ leaf_with name letter One) (letter == letter_of_texts) One One refl refl;
  numbers = λ numbers. refl;
  counts = refl;
}
leaf_reads_as branches before done known met next name letter (Fixed n) e text leads =
    let number : (letter == letter_of_texts) ≡ false = not-true (letter == letter_of_texts) text in
    record {
      counter = None;
      found = rw number refl;
      again = rw (number, is_list n e) refl;
      numbers = λ numbers. refl;
      counts = rw (is_list n e) refl;
    }
leaf_reads_as branches before done known met next name letter (Counted counter times) e text leads =
    let number : (letter == letter_of_texts) ≡ false = not-true (letter == letter_of_texts) text in
    let once = and_parts (is_name_text counter && has_counting_leaf before counter) (times == 1) e in
    let counts = and_parts (is_name_text counter) (has_counting_leaf before counter) once.0 in
    let to = leads counter counts.1 in
    record {
      counter = Some to.leaf;
      found = rw (number, to.found, counter_again branches done known met next counter to) refl;
      again = rw (to.named, eqb-true times 1 once.1) refl;
      numbers = numbers_again branches done counter times to.leaf to.place;
      counts = rw to.found refl;
    }

pub leaf_reads : (branches : List Branch) (before done : List Leaf) (known : LeafLabels) (met : LeavesMet) (next : ℕ) (leaf : Leaf) → IsStated before leaf → AllLead branches before done known met next → LeafReads branches known met leaf
leaf_reads branches before done known met next leaf stated leads = leaf_reads_as branches before done known met next leaf.name leaf.letter leaf.dim stated.dim stated.text leads

-- ---- one more leaf

-- what those behind it see of a leaf
abbrev pub written_met : ℕ → ℕ → Leaf → LeafMet
written_met branch label leaf = record { branch = branch; label = Some label; name = leaf.name; counts = can_count leaf }

not_counting : (leaves : List Leaf) (name : List ℕ) → has_leaf leaves name ≡ false → has_counting_leaf leaves name ≡ false
not_counting [] name e = refl
not_counting (l ∷ ls) name e = elim (bytes_eq l.name name) as (λ b. (b || has_leaf ls name) ≡ false → ((b && can_count l) || has_counting_leaf ls name) ≡ false) [ true ↦ λ h. absurd cc | false ↦ λ h. not_counting ls name h ] e

or_false : (a b : Bool) → (a || (b || false)) ≡ true → a ≡ false → b ≡ true
or_false true b e f = absurd cc
or_false false true e f = refl
or_false false false e f = absurd cc

or_false_left : (a b : Bool) → (a || (b || false)) ≡ true → b ≡ false → a ≡ true
or_false_left true b e f = refl
or_false_left false true e f = absurd cc
or_false_left false false e f = absurd cc

done_more : (done : List Leaf) (leaf : Leaf) (name : List ℕ) → has_leaf done name ≡ true → has_leaf (done ++ leaf ∷ []) name ≡ true
done_more done leaf name e = list_any-append (λ l. bytes_eq l.name name) done (leaf ∷ []) ∙ or_left (has_leaf done name) (has_leaf (leaf ∷ []) name) e

done_last : (done : List Leaf) (leaf : Leaf) (name : List ℕ) → bytes_eq leaf.name name ≡ true → has_leaf (done ++ leaf ∷ []) name ≡ true
done_last done leaf name e = list_any-append (λ l. bytes_eq l.name name) done (leaf ∷ []) ∙ or_right (has_leaf done name) (has_leaf (leaf ∷ []) name) (or_left (bytes_eq leaf.name name) false e)

place_more : (branches : List Branch) (done : List Leaf) (leaf : Leaf) (name : List ℕ) (n : ℕ) → OwnPlace branches done name n ⊎ EarlierPlace branches name n → OwnPlace branches (done ++ leaf ∷ []) name n ⊎ EarlierPlace branches name n
place_more branches done leaf name n (inl own) = inl (own.0, own.1, done_more done leaf name own.2)
place_more branches done leaf name n (inr earlier) = inr earlier

module _ (branches : List Branch) (before done : List Leaf) (known : LeafLabels) (met : LeavesMet) (next : ℕ) (leaf : Leaf) where
  abbrev own_met : LeafMet
  own_met = written_met (length branches) next leaf

  abbrev LeadsNow : List ℕ → Type 0
  LeadsNow name = Leads branches (done ++ leaf ∷ []) ((leaf.name, next) ∷ known) (with_leaf_met own_met met) (next + 1) name

  -- it is the leaf itself
  this_leads : (name : List ℕ) → bytes_eq name leaf.name ≡ true → can_count leaf ≡ true → branch_of_leaf (stated_defs branches) leaf.name ≡ None → LeadsNow name
  this_leads name e counts none =
      let same : name ≡ leaf.name = (bytes_eq-Decides name leaf.name).0 e in
      let other : bytes_eq leaf.name name ≡ true = bytes_eq-sym leaf.name name ∙ e in
      record {
        label = next;
        leaf = own_met;
        below = omega arith;
        found = rw e refl;
        by_label = rw (eq-eqb next next refl) refl;
        by_name = rw other refl;
        own_label = refl;
        named = sym same;
        counts = counts;
        place = inl (refl, subst (λ (n : List ℕ). branch_of_leaf (stated_defs branches) n ≡ None) (sym same) none, done_last done leaf name other);
      }

  -- it is one before
  other_leads : (name : List ℕ) → bytes_eq name leaf.name ≡ false → Leads branches done known met next name → LeadsNow name
  other_leads name e to =
      let other : bytes_eq leaf.name name ≡ false = bytes_eq-sym leaf.name name ∙ e in
      let apart : (next == to.label) ≡ false = ne_eqb next to.label (λ e. absurd (omega (arith, e, to.below))) in
      record {
        label = to.label;
        leaf = to.leaf;
        below = omega (arith, to.below);
        found = rw (e, to.found) refl;
        by_label = rw (apart, to.by_label) refl;
        by_name = rw (other, to.by_name) refl;
        own_label = to.own_label;
        named = to.named;
        counts = to.counts;
        place = place_more branches done leaf name to.leaf.branch to.place;
      }

  pub all_lead_more : has_leaf before leaf.name ≡ false → branch_of_leaf (stated_defs branches) leaf.name ≡ None → AllLead branches before done known met next
      → AllLead branches (before ++ leaf ∷ []) (done ++ leaf ∷ []) ((leaf.name, next) ∷ known) (with_leaf_met own_met met) (next + 1)
  all_lead_more fresh none leads name h =
      let split : (has_counting_leaf before name || ((bytes_eq leaf.name name && can_count leaf) || false)) ≡ true = sym (list_any-append (λ l. bytes_eq l.name name && can_count l) before (leaf ∷ [])) ∙ h in
      elim (bytes_eq name leaf.name) as (λ b. bytes_eq name leaf.name ≡ b → LeadsNow name) [
        | true ↦ λ e.
            let same : name ≡ leaf.name = (bytes_eq-Decides name leaf.name).0 e in
            let free : has_counting_leaf before name ≡ false = ap (has_counting_leaf before) same ∙ not_counting before leaf.name fresh in
            let here = or_false (has_counting_leaf before name) (bytes_eq leaf.name name && can_count leaf) split free in
            this_leads name e (and_parts (bytes_eq leaf.name name) (can_count leaf) here).1 none
        | false ↦ λ e.
            let other : bytes_eq leaf.name name ≡ false = bytes_eq-sym leaf.name name ∙ e in
            let none_here : (bytes_eq leaf.name name && can_count leaf) ≡ false = rw other refl in
            other_leads name e (leads name (or_false_left (has_counting_leaf before name) (bytes_eq leaf.name name && can_count leaf) split none_here))
      ] refl
