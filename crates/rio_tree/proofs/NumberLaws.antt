-- Numbers of branches, one more.
use Rattle.std.proofs.Common.{◌≡◌, ◌≢◌, ℕ, Bool, false, cond, eqb, ltb, List, [], ◌∷◌, Option, Some, nat_cmp, refl, sym, ap, ◌∙◌, arith}
use Rattle.std.proofs.lemmas.Bool.Decides.{nat_tests}
use Rattle.std.specs.{BTreeSet.{insert_key}, Ordering.{match_ordering}}
use Rattle.rio_tree.specs.HeaderLeaves.{LeafMet, LeavesSaid, with_branch_number, with_counter_in}

in_order : {X : Type 0} (n m : ℕ) (less same more : X) → match_ordering (nat_cmp n m) less same more ≡ cond (ltb n m) less (cond (eqb n m) same more)
in_order n m less same more = grind (arith, nat_tests)

put_number : (ns : List ℕ) (n : ℕ) → insert_key nat_cmp ns n ≡ with_branch_number n ns
put_number [] n = refl
put_number (m ∷ ns) n =
    in_order n m (n ∷ m ∷ ns) (m ∷ ns) (m ∷ insert_key nat_cmp ns n)
    ∙ ap (λ (rest : List ℕ). cond (ltb n m) (n ∷ m ∷ ns) (cond (eqb n m) (m ∷ ns) (m ∷ rest))) (put_number ns n)

apart : (a b : ℕ) → a ≢ b → eqb a b ≡ false
apart a b h = grind (arith, nat_tests)

pub counter_noted : (own : ℕ) (counter : Option LeafMet) (l : LeafMet) (read : LeavesSaid) (numbers : List ℕ) → counter ≡ Some l → l.branch ≢ own → numbers ≡ insert_key nat_cmp read.counted_by l.branch
    → record { leaves = read.leaves; counted_by = numbers } ≡ with_counter_in own counter read
counter_noted own counter l read numbers is other put =
    let test : eqb l.branch own ≡ false = apart l.branch own other in
    let noted : numbers ≡ cond (eqb l.branch own) read.counted_by (with_branch_number l.branch read.counted_by) = put ∙ put_number read.counted_by l.branch ∙ ap (λ (b : Bool). cond b read.counted_by (with_branch_number l.branch read.counted_by)) (sym test) in
    ap (λ (ns : List ℕ). let r : LeavesSaid = record { leaves = read.leaves; counted_by = ns } in r) noted ∙ ap (λ (k : Option LeafMet). with_counter_in own k read) (sym is)
