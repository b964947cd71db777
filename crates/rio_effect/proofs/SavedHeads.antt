-- The header of a save names the baskets of the pending rows behind its own: those that were put since the save before, and the open ones.
use Rattle.std.proofs.Common.{◌≡◌, inl, inr, ⊎_elim, ℕ, ◌+◌, ◌-◌, ◌∙◌, List, [], ◌∷◌, ◌++◌, length, map, drop, Bool, true, false, Some, None, refl, sym, ap, subst, arith, ◌≤◌, ◌*◌, ◌==◌}
use Rattle.std.proofs.lemmas.Bool.{and_from, and_parts, eq-eqb, eqb-true}
use Rattle.std.proofs.lemmas.List.{length-append, length-map, map-append, Elements.{All-cons}, Sums.{sum_by-cons}}
use Rattle.std.specs.{Prelude.{is_some, slice_get, unwrap_or}, List.{flat_map, All, list_all}}
use Rattle.rio_leaf.specs.declared.branch.BranchDef.{BranchDef}
use Rattle.rio_format.specs.declared.class.ClassDef.{ClassDef}
use Rattle.rio_key.specs.Cut.{Cut, all_entries, basket_with, baskets_of_cut, cut_into_baskets, cut_of, firsts_from}
use Rattle.rio_key.proofs.CutAll.{all_of_cut, cut_holds_all}
use Rattle.rio_model.specs.StateClasses.{StateClasses}
use Rattle.rio_machine.specs.{RowEntries.{fitting_row}, Rows.{entries_of}, State.{Row}}
use Rattle.rio_step.specs.Storable.{is_stored_row}
use Rattle.rio_tree.specs.{Header.{has_offsets}, WrittenLaws.{AreReadableBranches, stated_defs}, declared.basket_at.BasketAt.{BasketAt}, declared.head.Branch.{Branch}}
use Rattle.rio_state.specs.{KeyedRecords.{KeyedRecord, begins_at, record_at}, TreeLengths.{cut_count, entries_by_branch}, Trees.{RecordsAt}}
use Rattle.rio_state.proofs.{Members.{In, in_either}, TreesSame.{none_there}}
use Rattle.rio_effect.specs.{BasketRuns.{ArePlaced, places_put}, PutBaskets.{AreAllPut, ArePutBaskets}, SavedRows.{AreBranchesSaved, HoldAllEntries, HoldsEntries, IsBranchSaved}, TreeChanges.{all_behind}, TreeRecords.{branch_with, branches_with}}
use Rattle.rio_effect.proofs.{PutBaskets.{pending_rows_are_read}, SavedRows.{baskets_in, product_more}}

abbrev firsts : List BasketAt → List ℕ
firsts ats = map (λ at. at.first) ats

-- ---- one branch

firsts_behind : (first : ℕ) (xs ys : List (List (List ℕ))) → firsts_from first (xs ++ ys) ≡ firsts_from first xs ++ firsts_from (first + length (all_entries xs)) ys
firsts_behind first [] ys = ap (λ (n : ℕ). firsts_from n ys) (omega arith)
firsts_behind first (x ∷ xs) ys =
    let rest = firsts_behind (first + length x) xs ys in
    let long : first + length x + length (all_entries xs) ≡ first + length (x ++ all_entries xs) = omega (arith, length-append x (all_entries xs)) in
    ap (λ (l : List ℕ). first ∷ l) (rest ∙ ap (λ (n : ℕ). firsts_from (first + length x) xs ++ firsts_from n ys) long)

hold_behind : (f : RecordsAt) (offsets : Bool) (xs ys : List BasketAt) (bs cs : List (List (List ℕ))) → HoldAllEntries f offsets xs bs → HoldAllEntries f offsets ys cs → HoldAllEntries f offsets (xs ++ ys) (bs ++ cs)
hold_behind f offsets [] ys [] cs one two = two
hold_behind f offsets [] ys (b ∷ bs) cs one two = absurd one
hold_behind f offsets (x ∷ xs) ys [] cs one two = absurd one
hold_behind f offsets (x ∷ xs) ys (b ∷ bs) cs one two = (one.0, hold_behind f offsets xs ys bs cs one.1 two)

module _ (f : RecordsAt) (saved count : ℕ) (b : Branch) (es : List (List ℕ)) (ats more : List BasketAt) where
  abbrev own : Cut
  own = cut_of es

  branch_is_saved : count ≡ saved + length es → b.offsets ≡ has_offsets b.def.shape → ArePutBaskets f saved b own ats → HoldAllEntries f (has_offsets b.def.shape) more (basket_with own.rest)
      → firsts more ≡ firsts_from (count - length own.rest) (basket_with own.rest) → b.refused ≡ None → IsBranchSaved f saved count es b (branch_with count b (ats ++ more))
  branch_is_saved many offsets put hold first none =
      let long = ap length (all_of_cut es) in
      let parts = length-append (all_entries own.put) own.rest in
      let from : count - length own.rest ≡ saved + length (all_entries own.put) = omega (arith, many, long, parts) in
      record {
        def = refl;
        refused = none;
        entries = refl;
        offsets = refl;
        more = ats ++ more;
        baskets = refl;
        firsts = map-append (λ (at : BasketAt). at.first) ats more
            ∙ (λ i. put.firsts i ++ (first ∙ ap (λ (n : ℕ). firsts_from n (basket_with own.rest)) from) i)
            ∙ sym (firsts_behind saved own.put (basket_with own.rest));
        hold = hold_behind f b.offsets ats more own.put (basket_with own.rest) put.hold (subst (λ (o : Bool). HoldAllEntries f o more (basket_with own.rest)) (sym offsets) hold);
      }

-- ---- all branches

abbrev pub open_of : List BranchDef → List (List (List ℕ)) → List (List (List ℕ))
open_of defs rows = map (λ cut. cut.rest) (map cut_of (entries_by_branch defs rows))

pub branches_are_saved : (f : RecordsAt) (saved count : ℕ) (defs : List BranchDef) (bs : List Branch) (rows : List (List (List ℕ))) (put placed : List (List BasketAt)) → count ≡ saved + length rows
    → AreReadableBranches saved defs bs → AreAllPut f saved bs (map cut_of (entries_by_branch (stated_defs bs) rows)) put → ArePlaced f count (stated_defs bs) (open_of (stated_defs bs) rows) placed
    → AreBranchesSaved f saved count (entries_by_branch (stated_defs bs) rows) bs (branches_with count bs (all_behind put placed))
branches_are_saved f saved count defs [] rows put placed many readable are there = tt
branches_are_saved f saved count defs (b ∷ bs) rows put [] many readable are there = absurd there
branches_are_saved f saved count defs (b ∷ bs) rows [] (p ∷ placed) many readable are there =
    let es = map (λ entries. unwrap_or (slice_get entries 0) []) rows in
    let rests = map (λ entries. drop 1 entries) rows in
    let one : count ≡ saved + length es = many ∙ ap (λ (n : ℕ). saved + n) (sym (length-map rows (λ entries. unwrap_or (slice_get entries 0) []))) in
    let others : count ≡ saved + length rests = many ∙ ap (λ (n : ℕ). saved + n) (sym (length-map rows (λ entries. drop 1 entries))) in (
      branch_is_saved f saved count b es [] p one readable.0.offsets_as_shape are.0 there.0 there.1 readable.0.refused,
      branches_are_saved f saved count (defs ++ b.def ∷ []) bs rests [] placed others readable.1 are.1 there.2,
    )
branches_are_saved f saved count defs (b ∷ bs) rows (ats ∷ put) (p ∷ placed) many readable are there =
    let es = map (λ entries. unwrap_or (slice_get entries 0) []) rows in
    let rests = map (λ entries. drop 1 entries) rows in
    let one : count ≡ saved + length es = many ∙ ap (λ (n : ℕ). saved + n) (sym (length-map rows (λ entries. unwrap_or (slice_get entries 0) []))) in
    let others : count ≡ saved + length rests = many ∙ ap (λ (n : ℕ). saved + n) (sym (length-map rows (λ entries. drop 1 entries))) in (
      branch_is_saved f saved count b es ats p one readable.0.offsets_as_shape are.0 there.0 there.1 readable.0.refused,
      branches_are_saved f saved count (defs ++ b.def ∷ []) bs rests put placed others readable.1 are.1 there.2,
    )

-- ---- where they stand

-- a record begins where a basket was put
put_begins : (records : List KeyedRecord) (offsets : Bool) (ats : List BasketAt) (bs : List (List (List ℕ))) → HoldAllEntries (record_at records) offsets ats bs → (p : ℕ) → In p (map (λ at. at.seek) ats) → begins_at records p ≡ true
put_begins records offsets [] bs hold p i = absurd i
put_begins records offsets (at ∷ ats) [] hold p i = absurd hold
put_begins records offsets (at ∷ ats) (b ∷ bs) hold p (inl same) = ap (begins_at records) (sym same) ∙ by (begins_at records at.seek) refl
  where
    by : (c : Bool) → begins_at records at.seek ≡ c → c ≡ true
    by true e = refl
    by false e = let f : true ≡ false = ap is_some (sym hold.0.there) ∙ none_there records at e in absurd cc
put_begins records offsets (at ∷ ats) (b ∷ bs) hold p (inr i) = put_begins records offsets ats bs hold.1 p i

pub all_begin : (records : List KeyedRecord) (saved : ℕ) (bs : List Branch) (cuts : List Cut) (put : List (List BasketAt)) → AreAllPut (record_at records) saved bs cuts put → (p : ℕ) → In p (places_put put)
    → begins_at records p ≡ true
all_begin records saved [] cuts [] are p i = absurd i
all_begin records saved [] cuts (ats ∷ put) are p i = absurd are
all_begin records saved (b ∷ bs) [] put are p i = absurd are
all_begin records saved (b ∷ bs) (cut ∷ cuts) [] are p i = absurd i
all_begin records saved (b ∷ bs) (cut ∷ cuts) (ats ∷ put) are p i =
    ⊎_elim (λ j. put_begins records b.offsets ats cut.put are.0.hold p j) (λ j. all_begin records saved bs cuts put are.1 p j) (in_either p (map (λ at. at.seek) ats) (places_put put) i)

-- ---- among other records

module _ (f g : RecordsAt) (still : (offsets : Bool) (at : BasketAt) (entries : List (List ℕ)) → HoldsEntries f offsets at entries → HoldsEntries g offsets at entries) where
  hold_still : (offsets : Bool) (ats : List BasketAt) (bs : List (List (List ℕ))) → HoldAllEntries f offsets ats bs → HoldAllEntries g offsets ats bs
  hold_still offsets [] [] hold = tt
  hold_still offsets [] (b ∷ bs) hold = absurd hold
  hold_still offsets (at ∷ ats) [] hold = absurd hold
  hold_still offsets (at ∷ ats) (b ∷ bs) hold = (still offsets at b hold.0, hold_still offsets ats bs hold.1)

  put_still : (saved : ℕ) (b : Branch) (cut : Cut) (ats : List BasketAt) → ArePutBaskets f saved b cut ats → ArePutBaskets g saved b cut ats
  put_still saved b cut ats put = record { firsts = put.firsts; hold = hold_still b.offsets ats cut.put put.hold }

  pub all_put_still : (saved : ℕ) (bs : List Branch) (cuts : List Cut) (put : List (List BasketAt)) → AreAllPut f saved bs cuts put → AreAllPut g saved bs cuts put
  all_put_still saved [] cuts [] are = tt
  all_put_still saved [] cuts (ats ∷ put) are = absurd are
  all_put_still saved (b ∷ bs) [] put are = absurd are
  all_put_still saved (b ∷ bs) (cut ∷ cuts) [] are = (put_still saved b cut [] are.0, all_put_still saved bs cuts [] are.1)
  all_put_still saved (b ∷ bs) (cut ∷ cuts) (ats ∷ put) are = (put_still saved b cut ats are.0, all_put_still saved bs cuts put are.1)

-- ---- rows

-- what is written for rows that a state can hold is read as them
pub stored_rows_read : (classes : List ClassDef) (branches : List BranchDef) (rows : List Row) → StateClasses classes → list_all (is_stored_row classes branches) rows ≡ true
    → All (λ row. fitting_row classes branches (entries_of classes branches row) ≡ Some row) rows
stored_rows_read classes branches [] are stored = λ i d low. absurd (omega (arith, low))
stored_rows_read classes branches (row ∷ rows) are stored =
    let parts = and_parts (is_stored_row classes branches row) (list_all (is_stored_row classes branches) rows) stored in
    All-cons (λ x. fitting_row classes branches (entries_of classes branches x) ≡ Some x) row rows (pending_rows_are_read classes branches row are parts.0) (stored_rows_read classes branches rows are parts.1)

-- ---- how many they are

length-firsts_from : (first : ℕ) (bs : List (List (List ℕ))) → length (firsts_from first bs) ≡ length bs
length-firsts_from first [] = refl
length-firsts_from first (b ∷ bs) = let rest = length-firsts_from (first + length b) bs in omega (arith, rest)

-- a basket that is read has an entry or more
held_entries : (f : RecordsAt) (offsets : Bool) (ats : List BasketAt) (bs : List (List (List ℕ))) → HoldAllEntries f offsets ats bs → length bs ≤ length (all_entries bs)
held_entries f offsets [] [] hold = omega arith
held_entries f offsets [] (b ∷ bs) hold = absurd hold
held_entries f offsets (at ∷ ats) [] hold = absurd hold
held_entries f offsets (at ∷ ats) (b ∷ bs) hold = let rest = held_entries f offsets ats bs hold.1 in omega (arith, rest, hold.0.some, length-append b (all_entries bs))

-- the later header names as many baskets more as the pending rows are cut into, and of each branch no more than these have entries
pub record NamesMore (old new : List Branch) (ps : List (List (List ℕ))) (long : ℕ) : Type 0 where
  pub more : baskets_in new ≡ baskets_in old + cut_count (map cut_of ps)
  pub few : cut_count (map cut_of ps) ≤ length old * long
  pub many : length new ≡ length old

pub names_more : (f : RecordsAt) (saved count long : ℕ) (ps : List (List (List ℕ))) (old new : List Branch) → list_all (λ p. length p == long) ps ≡ true → AreBranchesSaved f saved count ps old new → NamesMore old new ps long
names_more f saved count long [] [] [] each are = record { more = refl; few = omega arith; many = refl }
names_more f saved count long [] [] (c ∷ cs) each are = absurd are
names_more f saved count long [] (b ∷ bs) [] each are = absurd are
names_more f saved count long [] (b ∷ bs) (c ∷ cs) each are = absurd are
names_more f saved count long (p ∷ ps) [] [] each are = absurd are
names_more f saved count long (p ∷ ps) [] (c ∷ cs) each are = absurd are
names_more f saved count long (p ∷ ps) (b ∷ bs) [] each are = absurd are
names_more f saved count long (p ∷ ps) (b ∷ bs) (c ∷ cs) each are =
    let parts = and_parts (length p == long) (list_all (λ q. length q == long) ps) each in
    let rest = names_more f saved count long ps bs cs parts.1 are.1 in
    let own = are.0 in
    let cut = cut_into_baskets p in
    let put = sym (length-map own.more (λ (at : BasketAt). at.first)) ∙ ap length own.firsts ∙ length-firsts_from saved cut in
    let all = ap length own.baskets ∙ length-append b.baskets own.more in
    let entries = held_entries f b.offsets own.more cut own.hold in
    let held = ap length (cut_holds_all p) in
    let product : length (b ∷ bs) * long ≡ (length bs + 1) * long = ap (λ (k : ℕ). k * long) (omega arith) in
    let count_is = sum_by-cons (λ (x : Cut). length (baskets_of_cut x)) (cut_of p) (map cut_of ps) in
    record {
      more = omega (arith, rest.more, put, all, count_is, sum_by-cons (λ (x : Branch). length x.baskets) b bs, sum_by-cons (λ (x : Branch). length x.baskets) c cs);
      few = omega (arith, rest.few, entries, held, eqb-true (length p) long parts.0, product, product_more (length bs) long, count_is);
      many = omega (arith, rest.many);
    }

-- every branch has as many pending entries as there are rows
pub as_many_each : (defs : List BranchDef) (rows : List (List (List ℕ))) → list_all (λ p. length p == length rows) (entries_by_branch defs rows) ≡ true
as_many_each [] rows = refl
as_many_each (b ∷ bs) rows =
    let first = length-map rows (λ entries. unwrap_or (slice_get entries 0) []) in
    let same = length-map rows (λ entries. drop 1 entries) in
    and_from _ _ (eq-eqb (length (map (λ entries. unwrap_or (slice_get entries 0) []) rows)) (length rows) first)
    (ap (λ (n : ℕ). list_all (λ p. length p == n) (entries_by_branch bs (map (λ entries. drop 1 entries) rows))) (sym same) ∙ as_many_each bs (map (λ entries. drop 1 entries) rows))

-- the places of branches' baskets
pub places_count : (bs : List Branch) → length (flat_map (λ (b : Branch). map (λ at. at.seek) b.baskets) bs) ≡ baskets_in bs
places_count [] = refl
places_count (b ∷ bs) =
    let rest = places_count bs in
    omega (arith, rest, length-append (map (λ (at : BasketAt). at.seek) b.baskets) (flat_map (λ (c : Branch). map (λ at. at.seek) c.baskets) bs), length-map b.baskets (λ (at : BasketAt). at.seek), sum_by-cons (λ (c : Branch). length c.baskets) b bs)
