-- The entries of a branch in the header of a save: those of the header before, and behind them the pending ones.
use Rattle.std.proofs.Common.{◌≡◌, ℕ, zero, suc, ◌+◌, ◌-◌, ◌<◌, ◌≤◌, List, [], ◌∷◌, ◌++◌, length, map, Bool, true, false, not, ◌==◌, ◌&&◌, Option, Some, None, Result, Ok, Err, refl, sym, ap, ◌∙◌, append_assoc, append-nil, arith}
use Rattle.std.proofs.lemmas.Bool.{and_parts, eq-eqb, eqb-true, ltb-true}
use Rattle.std.proofs.lemmas.List.{length-append}
use Rattle.std.specs.{Prelude.{is_none, nat_lt, option_and_then}, Option.{option_map}, Result.{result_ok}}
use Rattle.rio_num.specs.Reading.{some_if}
use Rattle.rio_key.specs.{Cut.{all_entries, cut_into_baskets, firsts_from}, BasketEntries.{entries_in}, declared.basket_fault.BasketFault.{BasketFault}}
use Rattle.rio_tree.specs.{Index.{basket_counts, counts_from}, Refusals.{are_in_order, rise_behind}, WrittenLaws.{IsReadableBranch}}
use Rattle.rio_tree.specs.{declared.basket_at.BasketAt.{BasketAt}, declared.head.Branch.{Branch}}
use Rattle.rio_leaf.specs.declared.branch.BranchDef.{BranchDef}
use Rattle.rio_tree.specs.SavedEntries.{branch_entries, counted_entries, entries_of_baskets}
use Rattle.rio_state.specs.Trees.{RecordsAt, basket_bytes}
use Rattle.rio_effect.specs.SavedRows.{HoldAllEntries, HoldsEntries, IsBranchSaved}
use Rattle.rio_key.proofs.CutAll.{cut_holds_all}

-- ---- how many entries each basket has

abbrev firsts : List BasketAt → List ℕ
firsts ats = map (λ at. at.first) ats

-- of baskets that begin where these entries do, one basket behind the other
counts_by_firsts : (first n : ℕ) (ats : List BasketAt) (bs : List (List (List ℕ))) → firsts ats ≡ firsts_from (first + n) bs
    → counts_from first ats (first + n + length (all_entries bs)) ≡ n ∷ map length bs
counts_by_firsts first n [] [] e = let k : first + n + 0 - first ≡ n = omega arith in ap (λ (x : ℕ). x ∷ []) k
counts_by_firsts first n [] (b ∷ bs) e = absurd cc
counts_by_firsts first n (at ∷ ats) [] e = absurd cc
counts_by_firsts first n (at ∷ ats) (b ∷ bs) e =
    let here : at.first ≡ first + n = cc in
    let rest : firsts ats ≡ firsts_from (first + n + length b) bs = cc in
    let rest_there : firsts ats ≡ firsts_from (at.first + length b) bs = rest ∙ ap (λ (x : ℕ). firsts_from (x + length b) bs) (sym here) in
    let more = counts_by_firsts at.first (length b) ats bs rest_there in
    let long = length-append b (all_entries bs) in
    let total : at.first + length b + length (all_entries bs) ≡ first + n + length (b ++ all_entries bs) = omega (arith, long, here) in
    let one : at.first - first ≡ n = omega (arith, here) in
    ap (λ (x : ℕ). (at.first - first) ∷ counts_from at.first ats x) (sym total) ∙ ap (λ (l : List ℕ). (at.first - first) ∷ l) more ∙ ap (λ (x : ℕ). x ∷ length b ∷ map length bs) one

counts_of_more : (saved : ℕ) (ats : List BasketAt) (bs : List (List (List ℕ))) → firsts ats ≡ firsts_from saved bs
    → basket_counts ats (saved + length (all_entries bs)) ≡ map length bs
counts_of_more saved [] [] e = refl
counts_of_more saved [] (b ∷ bs) e = absurd cc
counts_of_more saved (at ∷ ats) [] e = absurd cc
counts_of_more saved (at ∷ ats) (b ∷ bs) e =
    let here : at.first ≡ saved = cc in
    let rest : firsts ats ≡ firsts_from (saved + length b) bs = cc in
    let rest_there : firsts ats ≡ firsts_from (at.first + length b) bs = rest ∙ ap (λ (x : ℕ). firsts_from (x + length b) bs) (sym here) in
    let more = counts_by_firsts at.first (length b) ats bs rest_there in
    let long = length-append b (all_entries bs) in
    let total : at.first + length b + length (all_entries bs) ≡ saved + length (b ++ all_entries bs) = omega (arith, long, here) in
    ap (counts_from at.first ats) (sym total) ∙ more

-- baskets behind others leave what those have
counts_behind : (first n : ℕ) (os : List BasketAt) (at : BasketAt) (ats : List BasketAt)
    → counts_from first (os ++ at ∷ ats) n ≡ counts_from first os at.first ++ counts_from at.first ats n
counts_behind first n [] at ats = refl
counts_behind first n (o ∷ os) at ats = ap (λ (l : List ℕ). (o.first - first) ∷ l) (counts_behind o.first n os at ats)

counts_with_more : (saved : ℕ) (os ats : List BasketAt) (bs : List (List (List ℕ))) → firsts ats ≡ firsts_from saved bs
    → basket_counts (os ++ ats) (saved + length (all_entries bs)) ≡ basket_counts os saved ++ map length bs
counts_with_more saved [] ats bs e = counts_of_more saved ats bs e
counts_with_more saved (o ∷ os) [] [] e =
    let none : saved + 0 ≡ saved = omega arith in
    ap (λ (l : List BasketAt). counts_from o.first l (saved + 0)) (append-nil os) ∙ ap (counts_from o.first os) none ∙ sym (append-nil (counts_from o.first os saved))
counts_with_more saved (o ∷ os) [] (b ∷ bs) e = absurd cc
counts_with_more saved (o ∷ os) (at ∷ ats) [] e = absurd cc
counts_with_more saved (o ∷ os) (at ∷ ats) (b ∷ bs) e =
    let here : at.first ≡ saved = cc in
    counts_behind o.first (saved + length (all_entries (b ∷ bs))) os at ats
    ∙ ap (λ (l : List ℕ). counts_from o.first os at.first ++ l) (counts_of_more saved (at ∷ ats) (b ∷ bs) e)
    ∙ ap (λ (x : ℕ). counts_from o.first os x ++ map length (b ∷ bs)) here

length-counts_from : (first n : ℕ) (os : List BasketAt) → length (counts_from first os n) ≡ length os + 1
length-counts_from first n [] = refl
length-counts_from first n (o ∷ os) = let more = length-counts_from o.first n os in omega (arith, more)

length-basket_counts : (n : ℕ) (os : List BasketAt) → length (basket_counts os n) ≡ length os
length-basket_counts n [] = refl
length-basket_counts n (o ∷ os) = let more = length-counts_from o.first n os in omega (arith, more)

-- ---- the entries of baskets

not_none : (n : ℕ) → not (n == 0) ≡ true → 0 < n
not_none zero e = absurd cc
not_none (suc n) e = omega arith

not_zero : (n : ℕ) → 0 < n → not (n == 0) ≡ true
not_zero n some = by (n == 0) refl
  where
    by : (b : Bool) → (n == 0) ≡ b → not b ≡ true
    by true e = absurd (let z = eqb-true n 0 e in omega arith)
    by false e = refl

-- The first basket is read, and so are the others.
record AreReadBehind (f : RecordsAt) (offsets : Bool) (at : BasketAt) (count : ℕ) (ats : List BasketAt) (counts : List ℕ) (all : List (List ℕ)) : Type 0 where
  first : List (List ℕ)
  others : List (List ℕ)
  many : length first ≡ count
  some : 0 < count
  others_are : entries_of_baskets (basket_bytes f) offsets ats counts ≡ Some others
  all_are : all ≡ first ++ others
  goes_on : (fs : List BasketAt) (cs : List ℕ) (more : List (List ℕ)) → entries_of_baskets (basket_bytes f) offsets fs cs ≡ Some more → entries_of_baskets (basket_bytes f) offsets (at ∷ fs) (count ∷ cs) ≡ Some (first ++ more)

module _ (f : RecordsAt) (offsets : Bool) where
  module _ (at : BasketAt) (count : ℕ) (ats : List BasketAt) (counts : List ℕ) (all : List (List ℕ)) where
    abbrev Parts : Type 0
    Parts = AreReadBehind f offsets at count ats counts all

    by_others : (bytes : List ℕ) (entries : List (List ℕ)) → basket_bytes f at ≡ Some bytes → counted_entries offsets count bytes ≡ Some entries → length entries ≡ count → 0 < count
        → (others : Option (List (List ℕ))) → entries_of_baskets (basket_bytes f) offsets ats counts ≡ others → option_map (λ more. entries ++ more) others ≡ Some all → Parts
    by_others bytes entries there read many some None others_are e = absurd cc
    by_others bytes entries there read many some (Some others) others_are e = record {
      first = entries;
      others = others;
      many = many;
      some = some;
      others_are = others_are;
      all_are = cc;
      goes_on = λ fs cs more is. rw (there, read, is) refl;
    }

    by_entries : (bytes : List ℕ) (r : Result (List (List ℕ)) BasketFault) → basket_bytes f at ≡ Some bytes → entries_in offsets bytes ≡ r
        → option_and_then (λ entries. option_map (λ more. entries ++ more) (entries_of_baskets (basket_bytes f) offsets ats counts))
        (option_and_then (λ entries. some_if (not (count == 0) && (length entries == count)) entries) (result_ok r)) ≡ Some all → Parts
    by_entries bytes (Err fault) there read e = absurd cc
    by_entries bytes (Ok entries) there read e = by (not (count == 0) && (length entries == count)) refl e
      where
        by : (b : Bool) → not (count == 0) && (length entries == count) ≡ b
            → option_and_then (λ entries. option_map (λ more. entries ++ more) (entries_of_baskets (basket_bytes f) offsets ats counts)) (some_if b entries) ≡ Some all → Parts
        by false t e = absurd cc
        by true t e =
            let parts = and_parts (not (count == 0)) (length entries == count) t in
            let many = eqb-true (length entries) count parts.1 in
            let some : 0 < count = not_none count parts.0 in
            let counted : counted_entries offsets count bytes ≡ Some entries = rw (read, t) refl in
            by_others bytes entries there counted many some (entries_of_baskets (basket_bytes f) offsets ats counts) refl e

    by_bytes : (o : Option (List ℕ)) → basket_bytes f at ≡ o
        → option_and_then (λ bytes. option_and_then (λ entries. option_map (λ more. entries ++ more) (entries_of_baskets (basket_bytes f) offsets ats counts)) (counted_entries offsets count bytes)) o ≡ Some all → Parts
    by_bytes None there e = absurd cc
    by_bytes (Some bytes) there e = by_entries bytes (entries_in offsets bytes) there refl e

    -- baskets that are read, one after the other
    read_parts : entries_of_baskets (basket_bytes f) offsets (at ∷ ats) (count ∷ counts) ≡ Some all → Parts
    read_parts e = by_bytes (basket_bytes f at) refl e

  -- baskets that are read behind baskets that are read
  entries_behind : (fs bs : List BasketAt) (cs ds : List ℕ) (xs ys : List (List ℕ)) → length cs ≡ length fs → entries_of_baskets (basket_bytes f) offsets fs cs ≡ Some xs → entries_of_baskets (basket_bytes f) offsets bs ds ≡ Some ys
      → entries_of_baskets (basket_bytes f) offsets (fs ++ bs) (cs ++ ds) ≡ Some (xs ++ ys)
  entries_behind [] bs [] ds xs ys long first last = let none : xs ≡ [] = cc in last ∙ ap (λ (l : List (List ℕ)). Some (l ++ ys)) (sym none)
  entries_behind [] bs (c ∷ cs) ds xs ys long first last = absurd (omega arith)
  entries_behind (a ∷ fs) bs [] ds xs ys long first last = absurd (omega arith)
  entries_behind (a ∷ fs) bs (c ∷ cs) ds xs ys long first last =
      let parts = read_parts a c fs cs xs first in
      let shorter : length cs ≡ length fs = omega arith in
      let more = entries_behind fs bs cs ds parts.others ys shorter parts.others_are last in
      parts.goes_on (fs ++ bs) (cs ++ ds) (parts.others ++ ys) more ∙ ap Some (sym (append_assoc parts.first parts.others ys) ∙ ap (λ (l : List (List ℕ)). l ++ ys) (sym parts.all_are))

  -- baskets that hold entries are read as them
  entries_held : (ats : List BasketAt) (bs : List (List (List ℕ))) → HoldAllEntries f offsets ats bs → entries_of_baskets (basket_bytes f) offsets ats (map length bs) ≡ Some (all_entries bs)
  entries_held [] [] hold = refl
  entries_held [] (b ∷ bs) hold = absurd hold
  entries_held (at ∷ ats) [] hold = absurd hold
  entries_held (at ∷ ats) (b ∷ bs) hold =
      let more = entries_held ats bs hold.1 in
      let h = hold.0 in
      rw (h.there, counted b h, more) refl
    where
      counted : (b : List (List ℕ)) → (h : HoldsEntries f offsets at b) → counted_entries offsets (length b) h.bytes ≡ Some b
      counted b h = rw (h.read, eq-eqb (length b) (length b) refl, not_zero (length b) h.some) refl

  -- ---- how many there are

  -- each basket has an entry or more
  pub at_least : (ats : List BasketAt) (counts : List ℕ) (xs : List (List ℕ)) → entries_of_baskets (basket_bytes f) offsets ats counts ≡ Some xs → length ats ≤ length xs
  at_least [] counts xs e = omega arith
  at_least (at ∷ ats) [] xs e = absurd cc
  at_least (at ∷ ats) (count ∷ counts) xs e =
      let parts = read_parts at count ats counts xs e in
      let rest = at_least ats counts parts.others parts.others_are in
      omega (arith, rest, parts.some, parts.many, ap length parts.all_are, length-append parts.first parts.others)

  entries_long : (at : BasketAt) (ats : List BasketAt) (n : ℕ) (xs : List (List ℕ)) → rise_behind at.first ats ≡ true → entries_of_baskets (basket_bytes f) offsets (at ∷ ats) (counts_from at.first ats n) ≡ Some xs
      → length xs + at.first ≡ n
  entries_long at [] n xs rise e =
      let parts = read_parts at (n - at.first) [] [] xs e in
      let none : parts.others ≡ [] = let o = parts.others_are in cc in
      let long : length xs ≡ n - at.first = ap length (parts.all_are ∙ ap (λ (l : List (List ℕ)). parts.first ++ l) none ∙ append-nil parts.first) ∙ parts.many in
      let some = parts.some in
      omega arith
  entries_long at (b ∷ bs) n xs rise e =
      let parts = read_parts at (b.first - at.first) (b ∷ bs) (counts_from b.first bs n) xs e in
      let tests = and_parts (nat_lt at.first b.first) (rise_behind b.first bs) rise in
      let less = ltb-true at.first b.first tests.0 in
      let rest = entries_long b bs n parts.others tests.1 parts.others_are in
      let long = length-append parts.first parts.others in
      let all = ap length parts.all_are in
      let many = parts.many in
      omega arith

  -- as many as the branch says
  pub as_many : (n : ℕ) (ats : List BasketAt) (xs : List (List ℕ)) → are_in_order n ats ≡ true → entries_of_baskets (basket_bytes f) offsets ats (basket_counts ats n) ≡ Some xs → length xs ≡ n
  as_many n [] xs order e = let none : xs ≡ [] = cc in ap length none ∙ sym (eqb-true n 0 order)
  as_many n (at ∷ ats) xs order e =
      let tests = and_parts (at.first == 0) (rise_behind at.first ats) (let o : (at.first == 0) && rise_behind at.first ats ≡ true = order in o) in
      let begins = eqb-true at.first 0 tests.0 in
      let all = entries_long at ats n xs tests.1 e in
      omega arith

-- ---- a branch

-- A branch that isn't refused has the entries of its baskets.
pub entries_from : (f : RecordsAt) (b : Branch) → b.refused ≡ None → branch_entries (basket_bytes f) b ≡ entries_of_baskets (basket_bytes f) b.offsets b.baskets (basket_counts b.baskets b.entries)
entries_from f b none = ap (λ r. option_and_then (some_if (is_none r)) (entries_of_baskets (basket_bytes f) b.offsets b.baskets (basket_counts b.baskets b.entries))) none ∙ kept (entries_of_baskets (basket_bytes f) b.offsets b.baskets (basket_counts b.baskets b.entries))
  where
    kept : (o : Option (List (List ℕ))) → option_and_then (some_if true) o ≡ o
    kept None = refl
    kept (Some xs) = refl

-- What is read of the branch in the header of a save: what was read before, and the pending entries.
pub branch_saved : (behind : RecordsAt) (saved : ℕ) (defs : List BranchDef) (pending : List (List ℕ)) (old new : Branch) (xs : List (List ℕ)) → IsReadableBranch saved defs old
    → IsBranchSaved behind saved (saved + length pending) pending old new → branch_entries (basket_bytes behind) old ≡ Some xs → branch_entries (basket_bytes behind) new ≡ Some (xs ++ pending)
branch_saved behind saved defs pending old new xs readable is read =
    let olds : entries_of_baskets (basket_bytes behind) old.offsets old.baskets (basket_counts old.baskets saved) ≡ Some xs
    = ap (λ (n : ℕ). entries_of_baskets (basket_bytes behind) old.offsets old.baskets (basket_counts old.baskets n)) (sym readable.entries_as_tree) ∙ sym (entries_from behind old readable.refused) ∙ read in
    let all = cut_holds_all pending in
    let count : saved + length pending ≡ saved + length (all_entries (cut_into_baskets pending)) = ap (λ (l : List (List ℕ)). saved + length l) (sym all) in
    let news = entries_held behind old.offsets is.more (cut_into_baskets pending) is.hold in
    let counts = counts_with_more saved old.baskets is.more (cut_into_baskets pending) is.firsts in
    let both = entries_behind behind old.offsets old.baskets is.more (basket_counts old.baskets saved) (map length (cut_into_baskets pending)) xs (all_entries (cut_into_baskets pending)) (length-basket_counts saved old.baskets) olds news in
    entries_from behind new is.refused
    ∙ ap (λ (o : Bool). entries_of_baskets (basket_bytes behind) o new.baskets (basket_counts new.baskets new.entries)) is.offsets
    ∙ ap (λ (n : ℕ). entries_of_baskets (basket_bytes behind) old.offsets new.baskets (basket_counts new.baskets n)) (is.entries ∙ count)
    ∙ ap (λ (l : List BasketAt). entries_of_baskets (basket_bytes behind) old.offsets l (basket_counts l (saved + length (all_entries (cut_into_baskets pending))))) is.baskets
    ∙ ap (entries_of_baskets (basket_bytes behind) old.offsets (old.baskets ++ is.more)) counts
    ∙ both
    ∙ ap (λ (l : List (List ℕ)). Some (xs ++ l)) all
