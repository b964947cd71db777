-- The baskets of pending rows of a tree, with those that a row finds full: they hold the entries that are cut off then.
use Rattle.std.proofs.Common.{◌≡◌, ◌⊎◌, ⊎_elim, ℕ, ◌+◌, ◌-◌, ◌∙◌, List, [], ◌∷◌, ◌++◌, length, map, drop, Bool, true, false, ◌==◌, ◌||◌, ◌&&◌, nat_lt, refl, sym, ap, subst, arith}
use Rattle.std.proofs.lemmas.{Bool.{eqb-true}, List.{append-nil, length-map, map-append}}
use Rattle.std.specs.{Prelude.{if◌then◌else◌, nat_le, slice_get, unwrap_or}, List.{flat_map}}
use Rattle.rio_leaf.specs.declared.branch.BranchDef.{BranchDef}
use Rattle.rio_chain.specs.Segments.{Link}
use Rattle.rio_machine.specs.State.{State}
use Rattle.rio_key.specs.{Cut.{Cut, all_entries, basket_with, cut_more, cut_of, firsts_from}, OpenBasket.{entries_length, takes_entry}}
use Rattle.rio_tree.specs.{Header.{has_offsets}, WrittenLaws.{AreReadableBranches, stated_defs}, declared.basket_at.BasketAt.{BasketAt}, declared.head.Branch.{Branch}}
use Rattle.rio_state.specs.{Contents.{file_classes}, KeyedRecords.{KeyedRecord, begins_at, info_key, keyed_records, top_keys, tree_records}, Reads.{AreRecordsOf}}
use Rattle.rio_state.specs.{TreeLengths.{entries_by_branch}, Trees.{RecordsAt, all_places_named, are_named_once, places_named}}
use Rattle.rio_state.proofs.{Members.{In, in_map, passing}, Places.{basket_there, flat_map_in, once_apart, once_distinct}}
use Rattle.rio_fill.proofs.CutLaws.{count_put, cut_full, cut_taken, firsts_more}
use Rattle.rio_effect.specs.Changes.{basket_added, changed}
use Rattle.rio_effect.specs.{BasketRuns.{ArePlaced, places_put}, PutBaskets.{AreAllPut, ArePutBaskets}, SavedRows.{HoldAllEntries}, TreeChanges.{all_behind, baskets_placed, full_entries}, TreeRecords.{words_of_basket}}
use Rattle.rio_effect.proofs.{DistinctPlaces.{behind_in, distinct_behind, once_from}, TreeDeletes.{beside_in, holds}}
use Rattle.rio_session.proofs.CutFills.{cuts_more}

-- ---- one branch

hold_behind : (f : RecordsAt) (offsets : Bool) (xs ys : List BasketAt) (bs cs : List (List (List ℕ))) → HoldAllEntries f offsets xs bs → HoldAllEntries f offsets ys cs → HoldAllEntries f offsets (xs ++ ys) (bs ++ cs)
hold_behind f offsets [] ys [] cs one two = two
hold_behind f offsets [] ys (b ∷ bs) cs one two = absurd one
hold_behind f offsets (x ∷ xs) ys [] cs one two = absurd one
hold_behind f offsets (x ∷ xs) ys (b ∷ bs) cs one two = (one.0, hold_behind f offsets xs ys bs cs one.1 two)

-- a basket that doesn't take an entry has some
some_basket : (rest : List (List ℕ)) (n : ℕ) → takes_entry rest n ≡ false → basket_with rest ≡ rest ∷ []
some_basket [] n e = absurd cc
some_basket (x ∷ xs) n e = refl

module _ (f : RecordsAt) (saved count : ℕ) (b : Branch) (es : List (List ℕ)) (ats more : List BasketAt) (x : List ℕ) (many : count ≡ saved + length es) (offsets : b.offsets ≡ has_offsets b.def.shape)
    (put : ArePutBaskets f saved b (cut_of es) ats) where
  abbrev own : Cut
  own = cut_of es

  abbrev full : Bool → List (List ℕ)
  full t = if t then [] else (cut_of es).rest

  none_more : (ms : List BasketAt) → HoldAllEntries f (has_offsets b.def.shape) ms [] → ms ≡ []
  none_more [] hold = refl
  none_more (m ∷ ms) hold = absurd hold

  one_put : (t : Bool) → takes_entry (cut_of es).rest (length x) ≡ t → HoldAllEntries f (has_offsets b.def.shape) more (basket_with (if t then [] else (cut_of es).rest))
      → map (λ at. at.first) more ≡ firsts_from (count - length (if t then [] else (cut_of es).rest)) (basket_with (if t then [] else (cut_of es).rest)) → ArePutBaskets f saved b (cut_more (cut_of es) x) (ats ++ more)
  one_put true is hold first =
      let none : ats ≡ ats ++ more = sym (append-nil ats) ∙ ap (λ (l : List BasketAt). ats ++ l) (sym (none_more more hold)) in
      let same = sym (cut_taken own x is) in
      subst (λ (p : Cut × List BasketAt). ArePutBaskets f saved b p.0 p.1) (λ i. (same i, none i)) (record { firsts = put.firsts; hold = put.hold })
  one_put false is hold first =
      let some = some_basket own.rest (length x) is in
      let same = sym (cut_full own x is) in
      let there : firsts_from (count - length own.rest) (basket_with own.rest) ≡ (saved + length (all_entries own.put)) ∷ [] =
      ap (firsts_from (count - length own.rest)) some ∙ ap (λ (n : ℕ). n ∷ []) (ap (λ (n : ℕ). n - length own.rest) many ∙ count_put saved es) in
      let begins = put.firsts in
      let begin = first ∙ there in
      subst (λ (c : Cut). ArePutBaskets f saved b c (ats ++ more)) same (record {
        firsts = map-append (λ (at : BasketAt). at.first) ats more ∙ (λ i. begins i ++ begin i) ∙ sym (firsts_more saved own.put own.rest);
        hold = hold_behind f b.offsets ats more own.put (own.rest ∷ []) put.hold
            (subst (λ (p : Bool × List (List (List ℕ))). HoldAllEntries f p.0 more p.1) (λ i. (sym offsets i, some i)) hold);
      })

-- ---- all branches

pub all_put_more : (f : RecordsAt) (saved count : ℕ) (defs : List BranchDef) (bs : List Branch) (rows : List (List (List ℕ))) (row : List (List ℕ)) (put placed : List (List BasketAt)) → count ≡ saved + length rows
    → length row ≡ length bs → length placed ≡ length bs → AreReadableBranches saved defs bs → AreAllPut f saved bs (map cut_of (entries_by_branch (stated_defs bs) rows)) put
    → ArePlaced f count (stated_defs bs) (full_entries (map cut_of (entries_by_branch (stated_defs bs) rows)) row) placed
    → AreAllPut f saved bs (cuts_more (map cut_of (entries_by_branch (stated_defs bs) rows)) row) (all_behind put placed)
all_put_more f saved count defs [] rows row [] [] many wide long readable are there = tt
all_put_more f saved count defs [] rows row [] (p ∷ placed) many wide long readable are there = absurd (omega (arith, long))
all_put_more f saved count defs [] rows row (ats ∷ put) placed many wide long readable are there = absurd are
all_put_more f saved count defs (b ∷ bs) rows [] put placed many wide long readable are there = absurd (omega (arith, wide))
all_put_more f saved count defs (b ∷ bs) rows (x ∷ row) put [] many wide long readable are there = absurd there
all_put_more f saved count defs (b ∷ bs) rows (x ∷ row) [] (p ∷ placed) many wide long readable are there =
    let es = map (λ entries. unwrap_or (slice_get entries 0) []) rows in
    let rests = map (λ entries. drop 1 entries) rows in
    let one : count ≡ saved + length es = many ∙ ap (λ (n : ℕ). saved + n) (sym (length-map rows (λ entries. unwrap_or (slice_get entries 0) []))) in
    let others : count ≡ saved + length rests = many ∙ ap (λ (n : ℕ). saved + n) (sym (length-map rows (λ entries. drop 1 entries))) in (
      one_put f saved count b es [] p x one readable.0.offsets_as_shape are.0 (takes_entry (cut_of es).rest (length x)) refl there.0 there.1,
      all_put_more f saved count (defs ++ b.def ∷ []) bs rests row [] placed others (omega (arith, wide)) (omega (arith, long)) readable.1 are.1 there.2,
    )
all_put_more f saved count defs (b ∷ bs) rows (x ∷ row) (ats ∷ put) (p ∷ placed) many wide long readable are there =
    let es = map (λ entries. unwrap_or (slice_get entries 0) []) rows in
    let rests = map (λ entries. drop 1 entries) rows in
    let one : count ≡ saved + length es = many ∙ ap (λ (n : ℕ). saved + n) (sym (length-map rows (λ entries. unwrap_or (slice_get entries 0) []))) in
    let others : count ≡ saved + length rests = many ∙ ap (λ (n : ℕ). saved + n) (sym (length-map rows (λ entries. drop 1 entries))) in (
      one_put f saved count b es ats p x one readable.0.offsets_as_shape are.0 (takes_entry (cut_of es).rest (length x)) refl there.0 there.1,
      all_put_more f saved count (defs ++ b.def ∷ []) bs rests row put placed others (omega (arith, wide)) (omega (arith, long)) readable.1 are.1 there.2,
    )

-- of each branch there is a list of places
pub placed_long : (datime : ℕ) (tree : List ℕ) (count : ℕ) (links : List Link) (branches : List BranchDef) (entries : List (List (List ℕ))) → length (baskets_placed datime tree count links branches entries) ≡ length branches
placed_long datime tree count links [] entries = refl
placed_long datime tree count links (b ∷ bs) [] = let rest = placed_long datime tree count links bs [] in omega (arith, rest)
placed_long datime tree count links (b ∷ bs) ([] ∷ entries) = let rest = placed_long datime tree count links bs entries in omega (arith, rest)
placed_long datime tree count links (b ∷ bs) ((e ∷ es) ∷ entries) =
    let rest = placed_long datime tree count (changed links (basket_added (words_of_basket tree b datime (e ∷ es)))) bs entries in omega (arith, rest)

-- ---- where they stand

module _ (records : List KeyedRecord) (m : State) (are : AreRecordsOf records m) where
  abbrev seeks : List ℕ
  seeks = map (λ r. r.head.seek) records

  abbrev named : List ℕ
  named = all_places_named (file_classes (info_key records)) (tree_records (top_keys records))

  begun : (p : ℕ) → begins_at records p ≡ true → In p seeks
  begun p e =
      let there = passing (λ r. r.head.seek == p) records e in
      subst (λ (q : ℕ). In q seeks) (eqb-true there.x.head.seek p there.passes) (in_map (λ (r : KeyedRecord). r.head.seek) there.x records there.among)

  named_begun : (p : ℕ) → In p named → In p seeks
  named_begun p i =
      let from = flat_map_in (places_named (file_classes (info_key records))) p (tree_records (top_keys records)) i in
      let b = basket_there (beside_in records) from.0 (holds records m from.0 are from.1) p from.2 in
      subst (λ (q : ℕ). In q seeks) b.seek (in_map (λ (r : KeyedRecord). r.head.seek) b.b records b.among)

  -- no header names those that are put at new places behind them
  pub fresh_behind : (put placed : List (List BasketAt)) → ((p : ℕ) → In p (places_put put) → begins_at records p ≡ true)
      → are_named_once (all_places_named (file_classes (info_key records)) (tree_records (top_keys records))) (places_put put) ≡ true
      → are_named_once (map (λ r. r.head.seek) records) (places_put placed) ≡ true
      → are_named_once (all_places_named (file_classes (info_key records)) (tree_records (top_keys records))) (places_put (all_behind put placed)) ≡ true
  fresh_behind put placed begin fresh new =
      let later : (p : ℕ) → In p (places_put placed) → In p seeks → ⊥ = λ p i j. once_apart seeks (places_put placed) new p i j in
      once_from named (places_put (all_behind put placed))
      (distinct_behind put placed (once_distinct named (places_put put) fresh) (once_distinct seeks (places_put placed) new) (λ p i j. later p j (begun p (begin p i))))
      (λ p i j.
      ⊎_elim
      (λ k. once_apart named (places_put put) fresh p k j)
      (λ k. later p k (named_begun p j))
      (behind_in p put placed i))
