-- What is found of the puts of a batch, one after the other.
use Rattle.std.proofs.Common.{◌≡◌, ◌∙◌, ℕ, ◌+◌, ◌<◌, ◌≤◌, List, [], ◌∷◌, ◌++◌, append_assoc, Bool, true, false, cond, drop, get_or, length, take, IfOk, Option, Some, None, Result, Ok, Err, refl, sym, ap, subst, arith}
use Rattle.std.proofs.{lemmas.List.{append-nil, drop_all, drop_more, length-take, take_all, take_more}, lemmas.Slice.Eq.{bytes_eq-Decides}}
use Rattle.std.specs.{List.{filter}, Borrow.{Bor}, BTreeMap.{BTreeMap}, Str.{bytes_eq}}
use Rattle.rio_num.proofs.BytesEq.{bytes_eq-sym}
use Rattle.rio_key.specs.declared.head.KeyHead.{KeyHead}
use Rattle.rio_format.specs.declared.class.ClassDef.{ClassDef}
use Rattle.rio_tree_table.specs.declared.table.KeptTree.{KeptTree}
use Rattle.rio_machine.specs.declared.{command.PutItem.{PutItem}, refusal.Refusal.{Refusal, TheVariants.{TooMany}}}
use Rattle.rio_step.{specs.Refusing.{first_of, refused_if, times_put}, proofs.BatchLaws.{times_more}}
use Rattle.rio_judge.specs.{Judging.{CanBePut, CanEachBePut}, Lowest.{IsFound, WithPut, lowest_of, times_by_name}, Stops.{GoesByTests, has_many_puts, lower, object_tests}}
use Rattle.rio_judge.specs.declared.{batch.Found.{Found}, stop.Stop.{Stop, TheVariants.{Refused, NoMemory}}, work.StoredObject.{StoredObject}}
use Rattle.rio_judge.proofs.LowestLaws.{lower_associates, lower_none, none_parts}

-- ---- how often a name is put

-- these puts were counted, each by its name
abbrev pub CountsPuts : BTreeMap (Bor (List ℕ)) ℕ → List PutItem → Type 0
CountsPuts counts before = (name : List ℕ) → times_by_name counts name ≡ times_put name before

times_at_most : (name : List ℕ) (puts : List PutItem) → times_put name puts ≤ length puts
times_at_most name [] = omega arith
times_at_most name (p ∷ ps) = by (bytes_eq p.name name) (times_at_most name ps)
  where
    by : (b : Bool) → times_put name ps ≤ length ps
        → length (cond b (p ∷ filter (λ q. bytes_eq q.name name) ps) (filter (λ q. bytes_eq q.name name) ps)) ≤ length (p ∷ ps)
    by true few = omega (arith, few)
    by false few = omega (arith, few)

pub times_few : (name : List ℕ) (k : ℕ) (puts : List PutItem) → times_put name (take k puts) ≤ k
times_few name k puts = omega (arith, times_at_most name (take k puts), length-take k puts)

-- one put more is counted
count_more : (counts new : BTreeMap (Bor (List ℕ)) ℕ) (before : List PutItem) (p : PutItem) → CountsPuts counts before
    → ((q : List ℕ) → times_by_name new q ≡ cond (bytes_eq q p.name) (times_by_name counts p.name + 1) (times_by_name counts q)) → CountsPuts new (before ++ p ∷ [])
count_more counts new before p counted put q =
    put q ∙ by (bytes_eq q p.name) refl (times_more q before p)
  where
    by : (b : Bool) → bytes_eq q p.name ≡ b → times_put q (before ++ p ∷ []) ≡ times_put q before + length (cond (bytes_eq p.name q) (p ∷ []) [])
        → cond b (times_by_name counts p.name + 1) (times_by_name counts q) ≡ times_put q (before ++ p ∷ [])
    by true is more =
        let same : q ≡ p.name = (bytes_eq-Decides q p.name).0 is in
        let own : bytes_eq p.name q ≡ true = bytes_eq-sym p.name q ∙ is in
        let once = ap (λ (b : Bool). length (cond b (p ∷ []) [])) own in
        let there : times_by_name counts p.name ≡ times_put q before = counted p.name ∙ ap (λ (name : List ℕ). times_put name before) (sym same) in
        omega (arith, more, once, there)
    by false is more =
        let own : bytes_eq p.name q ≡ false = bytes_eq-sym p.name q ∙ is in
        let none = ap (λ (b : Bool). length (cond b (p ∷ []) [])) own in
        let there = counted q in
        omega (arith, more, none, there)

-- ---- the puts so far

-- one put more
each_more : (classes : List ClassDef) (heads : List KeyHead) (before puts : List PutItem) (os : List StoredObject) (p : PutItem) (o : StoredObject) → CanEachBePut classes heads before puts os
    → o.name ≡ p.name → CanBePut classes heads (times_put p.name (before ++ puts)) p.value o → CanEachBePut classes heads before (puts ++ p ∷ []) (os ++ o ∷ [])
each_more classes heads before [] [] p o each named can = (named, subst (λ (l : List PutItem). CanBePut classes heads (times_put p.name l) p.value o) (append-nil before) can, tt)
each_more classes heads before [] (x ∷ xs) p o each named can = absurd each
each_more classes heads before (q ∷ qs) [] p o each named can = absurd each
each_more classes heads before (q ∷ qs) (x ∷ xs) p o each named can =
    let same = sym (append_assoc before (q ∷ []) qs) in
    (each.0, each.1, each_more classes heads (before ++ q ∷ []) qs xs p o each.2 named (subst (λ (l : List PutItem). CanBePut classes heads (times_put p.name l) p.value o) same can))

module _ (classes : List ClassDef) (heads : List KeyHead) (trees : List KeptTree) (puts : List PutItem) where
  abbrev first_refusal : Option Refusal
  first_refusal = refused_if (has_many_puts heads (length puts)) TooMany

  -- what is found of the first k puts
  pub record IsFoundTo (k : ℕ) (found : Found) : Type 0 where
    pub lowest : lower found.lowest (lowest_of classes heads trees (take k puts) (drop k puts)) ≡ lower first_refusal (lowest_of classes heads trees [] puts)
    pub objects : found.lowest ≡ None → CanEachBePut classes heads [] (take k puts) found.objects

  pub found_begins : (found : Found) → found.lowest ≡ first_refusal → found.objects ≡ [] → IsFoundTo 0 found
  found_begins found lowest none = record {
    lowest = ap (λ (o : Option Refusal). lower o (lowest_of classes heads trees [] puts)) lowest;
    objects = λ e. subst (λ (os : List StoredObject). CanEachBePut classes heads [] [] os) (sym none) tt;
  }

  module _ (k : ℕ) (p : PutItem) (lt : k < length puts) (is : p ≡ get_or puts k p) where
    abbrev rest : List PutItem
    rest = drop (k + 1) puts

    abbrev so_far : List PutItem
    so_far = take k puts

    left : drop k puts ≡ p ∷ rest
    left = drop_more puts k p lt ∙ ap (λ (x : PutItem). x ∷ rest) (sym is)

    taken : take (k + 1) puts ≡ so_far ++ p ∷ []
    taken = take_more puts k p lt ∙ ap (λ (x : PutItem). so_far ++ x ∷ []) (sym is)

    abbrev own_tests : List (Option Refusal)
    own_tests = object_tests classes heads trees p.name p.value (times_put p.name so_far)

    abbrev later : Option Refusal
    later = lowest_of classes heads trees (so_far ++ p ∷ []) rest

    module _ (old new : Found) (sofar : IsFoundTo k old) where
      -- the lowest, with the refusal of this put
      lowest_more : (own : Option Refusal) → first_of own_tests ≡ own → new.lowest ≡ lower old.lowest own
          → lower new.lowest (lowest_of classes heads trees (take (k + 1) puts) rest) ≡ lower first_refusal (lowest_of classes heads trees [] puts)
      lowest_more own told is' =
          (λ i. lower (is' i) (lowest_of classes heads trees (taken i) rest))
          ∙ lower_associates old.lowest own later
          ∙ ap (λ (o : Option Refusal). lower old.lowest (lower o later)) (sym told)
          ∙ ap (λ (l : List PutItem). lower old.lowest (lowest_of classes heads trees so_far l)) (sym left)
          ∙ sofar.lowest

      found_by : (r : Result StoredObject Stop) → GoesByTests own_tests r → IfOk r (λ o. o.name ≡ p.name) → IfOk r (CanBePut classes heads (times_put p.name so_far) p.value)
          → WithPut old r new → IsFoundTo (k + 1) new
      found_by (Ok o) told named can with = record {
        lowest = lowest_more None told (with.0 ∙ sym (lower_none old.lowest));
        objects = λ e.
            subst (λ (l : List PutItem). CanEachBePut classes heads [] l new.objects) (sym taken)
            (subst (λ (os : List StoredObject). CanEachBePut classes heads [] (so_far ++ p ∷ []) os) (sym with.1)
            (each_more classes heads [] so_far old.objects p o (sofar.objects (sym with.0 ∙ e)) named can));
      }
      found_by (Err (Refused refusal)) told named can with =
          let some : Option Refusal = Some refusal in
          record {
            lowest = lowest_more some told with;
            objects = λ e. absurd (let none : some ≡ None = (none_parts old.lowest some (sym with ∙ e)).1 in cc);
          }
      found_by (Err NoMemory) told named can with = absurd with

      pub found_goes_on : (times : ℕ) (r : Result StoredObject Stop) → times ≡ times_put p.name so_far → GoesByTests (object_tests classes heads trees p.name p.value times) r
          → IfOk r (λ o. o.name ≡ p.name) → IfOk r (CanBePut classes heads times p.value) → WithPut old r new → IsFoundTo (k + 1) new
      found_goes_on times r is' told named can with =
          found_by r (subst (λ (n : ℕ). GoesByTests (object_tests classes heads trees p.name p.value n) r) is' told) named
          (subst (λ (n : ℕ). IfOk r (CanBePut classes heads n p.value)) is' can) with

    pub counts_go_on : (counts new : BTreeMap (Bor (List ℕ)) ℕ) → CountsPuts counts so_far
        → ((q : List ℕ) → times_by_name new q ≡ cond (bytes_eq q p.name) (times_by_name counts p.name + 1) (times_by_name counts q)) → CountsPuts new (take (k + 1) puts)
    counts_go_on counts new counted put = subst (CountsPuts new) (sym taken) (count_more counts new so_far p counted put)

  pub found_ends : (k : ℕ) (found : Found) → IsFoundTo k found → length puts ≤ k → IsFound classes heads trees puts found
  found_ends k found f end = record {
    lowest = sym (lower_none found.lowest) ∙ ap (λ (l : List PutItem). lower found.lowest (lowest_of classes heads trees (take k puts) l)) (sym (drop_all k puts end)) ∙ f.lowest;
    objects = λ e. subst (λ (l : List PutItem). CanEachBePut classes heads [] l found.objects) (take_all k puts end) (f.objects e);
  }
