-- The baskets that a fill and a save put, one after the other: the records stand for the same, and each basket is there then.
use Rattle.std.specs.Prelude.{◌≡◌, ◌≤◌, ◌-◌, ◌+◌, ℕ, List, [], ◌∷◌, length, map, take, Bool, true, false, sum}
use Rattle.std.specs.List.{Contains, flat_map}
use Rattle.rio_leaf.specs.declared.branch.BranchDef.{BranchDef}
use Rattle.rio_chain.specs.Segments.{IsChain, Link}
use Rattle.rio_key.specs.Cut.{basket_with, firsts_from}
use Rattle.rio_tree.specs.{Header.{has_offsets}, declared.basket_at.BasketAt.{BasketAt}}
use Rattle.rio_machine.specs.State.{State}
use Rattle.rio_state.specs.{Closing.{held_with}, KeyedRecords.{begins_at, keyed_records, record_at, top_keys}, Reads.{AreRecordsOf}, TreeLengths.{PendingRows}, Trees.{RecordsAt, are_named_once}}
use Rattle.rio_effect.specs.Changes.{all_changed, basket_added, basket_place, changed, lengths_of}
use Rattle.rio_effect.specs.Garbage.{ArePassed, IsGarbageAt, StandsAlike}
use Rattle.rio_effect.specs.{PutBaskets.{CanBePut}, SavedRows.{HoldAllEntries, HoldsEntries}, TreeChanges.{basket_changes, baskets_placed}, TreeRecords.{BasketWords, basket_at, length_of_basket, words_of_basket}}

-- ---- one basket

-- Baskets that were there are there still, and what nothing referred to; and the keys of the directory are the same.
pub record LeavesBaskets (before after : List Link) : Type 0 where
  pub tops : top_keys (keyed_records after) ≡ top_keys (keyed_records before)
  pub hold : (offsets : Bool) (at : BasketAt) (entries : List (List ℕ)) → HoldsEntries (record_at (keyed_records before)) offsets at entries → HoldsEntries (record_at (keyed_records after)) offsets at entries
  pub garbage : (place : ℕ) → IsGarbageAt before place → IsGarbageAt after place

-- With the basket, where no record began, the records stand for the same. It is there, as a header names it, nothing refers to it yet, and
-- the file holds no more than it is long.
pub record IsBasketPut (links : List Link) (words : BasketWords) : Type 0 where
  pub alike : StandsAlike links (changed links (basket_added words))
  pub leaves : LeavesBaskets links (changed links (basket_added words))
  pub there : (first : ℕ) → HoldsEntries (record_at (keyed_records (changed links (basket_added words)))) words.offsets (basket_at (basket_place links words) first words) words.entries
  pub new : begins_at (keyed_records links) (basket_place links words) ≡ false
  pub garbage : (m : State) → AreRecordsOf (keyed_records links) m → IsGarbageAt (changed links (basket_added words)) (basket_place links words)
  pub held : (pending : PendingRows) → held_with pending (changed links (basket_added words)) ≤ held_with pending links + length_of_basket words

abbrev pub BasketIsPut : Type 0
BasketIsPut = (file : List ℕ) (links : List Link) (words : BasketWords) → IsChain links file → CanBePut (basket_place links words) words → IsBasketPut links words

-- ---- those of a tree

-- Each of the baskets of these entries, branch by branch, can be put, where those before it were.
abbrev pub CanAllBePut : ℕ → List ℕ → List Link → List BranchDef → List (List (List ℕ)) → Type 0
CanAllBePut datime tree links [] entries = Unit {0}
CanAllBePut datime tree links (b ∷ bs) [] = Unit {0}
CanAllBePut datime tree links (b ∷ bs) ([] ∷ entries) = CanAllBePut datime tree links bs entries
CanAllBePut datime tree links (b ∷ bs) ((e ∷ es) ∷ entries) =
    let words = words_of_basket tree b datime (e ∷ es) in
    CanBePut (basket_place links words) words × CanAllBePut datime tree (changed links (basket_added words)) bs entries

-- after the first k of them the records stand for the same
abbrev pub BasketsKeepAll : Type 0
BasketsKeepAll = (datime : ℕ) (tree : List ℕ) (links : List Link) (branches : List BranchDef) (entries : List (List (List ℕ))) (k : ℕ) → CanAllBePut datime tree links branches entries
    → k ≤ length (basket_changes datime tree branches entries) → ArePassed links (basket_changes datime tree branches entries) k
    → StandsAlike links (all_changed links (take k (basket_changes datime tree branches entries)))

-- these baskets hold the entries, branch by branch: the last ones of a tree that has so many
abbrev pub ArePlaced : RecordsAt → ℕ → List BranchDef → List (List (List ℕ)) → List (List BasketAt) → Type 0
ArePlaced at_place count [] entries placed = Unit {0}
ArePlaced at_place count (b ∷ bs) entries [] = ⊥
ArePlaced at_place count (b ∷ bs) [] (ats ∷ placed) = (ats ≡ []) × ArePlaced at_place count bs [] placed
ArePlaced at_place count (b ∷ bs) (es ∷ entries) (ats ∷ placed) =
    HoldAllEntries at_place (has_offsets b.shape) ats (basket_with es) × (map (λ at. at.first) ats ≡ firsts_from (count - length es) (basket_with es)) × ArePlaced at_place count bs entries placed

-- where baskets of branches stand
abbrev pub places_put : List (List BasketAt) → List ℕ
places_put put = flat_map (map (λ at. at.seek)) put

-- When all are put they are there, and those that were there before. No record began at their places, and nothing refers to them yet.
pub record AreBasketsPut (datime : ℕ) (tree : List ℕ) (count : ℕ) (links : List Link) (branches : List BranchDef) (entries : List (List (List ℕ))) : Type 0 where
  pub alike : StandsAlike links (all_changed links (basket_changes datime tree branches entries))
  pub leaves : LeavesBaskets links (all_changed links (basket_changes datime tree branches entries))
  pub placed : ArePlaced (record_at (keyed_records (all_changed links (basket_changes datime tree branches entries)))) count branches entries (baskets_placed datime tree count links branches entries)
  pub new : are_named_once (map (λ r. r.head.seek) (keyed_records links)) (places_put (baskets_placed datime tree count links branches entries)) ≡ true
  pub garbage : (m : State) → AreRecordsOf (keyed_records links) m → (place : ℕ) → Contains (places_put (baskets_placed datime tree count links branches entries)) place
      → IsGarbageAt (all_changed links (basket_changes datime tree branches entries)) place
  pub held : (pending : PendingRows) → held_with pending (all_changed links (basket_changes datime tree branches entries))
      ≤ held_with pending links + sum (lengths_of (basket_changes datime tree branches entries))

abbrev pub BasketsArePut : Type 0
BasketsArePut = (datime : ℕ) (tree : List ℕ) (count : ℕ) (links : List Link) (branches : List BranchDef) (entries : List (List (List ℕ))) → CanAllBePut datime tree links branches entries
    → ArePassed links (basket_changes datime tree branches entries) (length (basket_changes datime tree branches entries)) → AreBasketsPut datime tree count links branches entries
