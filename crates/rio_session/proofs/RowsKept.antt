-- What is kept of the pending rows of a tree stays, where its header and its baskets do.
use Rattle.std.proofs.Common.{◌≡◌, inl, inr, ℕ, List, [], ◌∷◌, map, Bool, true, Option, Some, refl, sym, ap, subst, ◌∙◌}
use Rattle.std.specs.{List.{find, flat_map}, Str.{bytes_eq}}
use Rattle.rio_chain.specs.Segments.{Link}
use Rattle.rio_machine.specs.State.{State, Tree}
use Rattle.rio_key.specs.Cut.{Cut}
use Rattle.rio_tree.specs.{declared.basket_at.BasketAt.{BasketAt}, declared.head.Branch.{Branch}, declared.head.TreeHead.{TreeHead}}
use Rattle.rio_state.specs.{Contents.{file_classes}, KeyedRecords.{KeyedRecord, info_key, keyed_records, record_at, top_keys, tree_records}}
use Rattle.rio_state.specs.Trees.{RecordsAt, all_places_named, are_named_once, header_in}
use Rattle.rio_state.proofs.Members.{In, in_left, in_right}
use Rattle.rio_effect.specs.{BasketRuns.{LeavesBaskets, places_put}, PutBaskets.{AreAllPut, ArePutBaskets}, SavedRows.{HoldAllEntries, HoldsEntries}}
use Rattle.rio_effect.specs.{TreeChanges.{FileRecords, cuts_of_tree, header_of, header_record_of}, TreeCommands.{KeepsTree}}

-- ---- baskets among other records

-- the baskets at some places are read as they were
abbrev pub HoldStill : RecordsAt → RecordsAt → List ℕ → Type 0
HoldStill f g places = (offsets : Bool) (at : BasketAt) (entries : List (List ℕ)) → In at.seek places → HoldsEntries f offsets at entries → HoldsEntries g offsets at entries

module _ (f g : RecordsAt) where
  hold_at : (offsets : Bool) (ats : List BasketAt) (bs : List (List (List ℕ))) → HoldStill f g (map (λ at. at.seek) ats) → HoldAllEntries f offsets ats bs → HoldAllEntries g offsets ats bs
  hold_at offsets [] [] still hold = tt
  hold_at offsets [] (b ∷ bs) still hold = absurd hold
  hold_at offsets (at ∷ ats) [] still hold = absurd hold
  hold_at offsets (at ∷ ats) (b ∷ bs) still hold = (still offsets at b (inl refl) hold.0, hold_at offsets ats bs (λ o a es i. still o a es (inr i)) hold.1)

  put_at : (saved : ℕ) (b : Branch) (cut : Cut) (ats : List BasketAt) → HoldStill f g (map (λ at. at.seek) ats) → ArePutBaskets f saved b cut ats → ArePutBaskets g saved b cut ats
  put_at saved b cut ats still put = record { firsts = put.firsts; hold = hold_at b.offsets ats cut.put still put.hold }

  pub all_put_at : (saved : ℕ) (bs : List Branch) (cuts : List Cut) (put : List (List BasketAt)) → HoldStill f g (places_put put) → AreAllPut f saved bs cuts put → AreAllPut g saved bs cuts put
  all_put_at saved [] cuts [] still are = tt
  all_put_at saved [] cuts (ats ∷ put) still are = absurd are
  all_put_at saved (b ∷ bs) [] put still are = absurd are
  all_put_at saved (b ∷ bs) (cut ∷ cuts) [] still are = (put_at saved b cut [] (λ o a es i. absurd i) are.0, all_put_at saved bs cuts [] still are.1)
  all_put_at saved (b ∷ bs) (cut ∷ cuts) (ats ∷ put) still are = (
    put_at saved b cut ats (λ o a es i. still o a es (in_left a.seek (map (λ at. at.seek) ats) (places_put put) i)) are.0,
    all_put_at saved bs cuts put (λ o a es i. still o a es (in_right a.seek (map (λ at. at.seek) ats) (places_put put) i)) are.1,
  )

-- ---- a tree

-- the places that headers name
abbrev pub named_in : List Link → List ℕ
named_in links = all_places_named (file_classes (info_key (keyed_records links))) (tree_records (top_keys (keyed_records links)))

-- With the same header and the same baskets of pending rows, which no header names, the rows are kept.
pub rows_still : (now then : FileRecords) (m n : State) (name : List ℕ) (t u : Tree) (k : KeepsTree now m name t) → header_record_of then.links name ≡ Some k.r → header_of then.links k.r ≡ Some k.head
    → then.put name ≡ now.put name → cuts_of_tree n u ≡ cuts_of_tree m t → HoldStill (record_at (keyed_records now.links)) (record_at (keyed_records then.links)) (places_put (now.put name))
    → are_named_once (named_in then.links) (places_put (now.put name)) ≡ true → KeepsTree then n name u
rows_still now then m n name t u k record_is head_is put cuts still fresh = record {
  r = k.r;
  record_is = record_is;
  head = k.head;
  head_is = head_is;
  readable = k.readable;
  fits = k.fits;
  put = subst (λ (x : List Cut × List (List BasketAt)). AreAllPut (record_at (keyed_records then.links)) k.head.entries k.head.branches x.0 x.1) (λ i. (sym cuts i, sym put i))
      (all_put_at (record_at (keyed_records now.links)) (record_at (keyed_records then.links)) k.head.entries k.head.branches (cuts_of_tree m t) (now.put name) still k.put);
  fresh = ap (λ (p : List (List BasketAt)). are_named_once (named_in then.links) (places_put p)) put ∙ fresh;
}

-- ---- where baskets are put

module _ (before after : List Link) (leaves : LeavesBaskets before after) (info : info_key (keyed_records after) ≡ info_key (keyed_records before)) where
  pub named_same : all_places_named (file_classes (info_key (keyed_records after))) (tree_records (top_keys (keyed_records after)))
      ≡ all_places_named (file_classes (info_key (keyed_records before))) (tree_records (top_keys (keyed_records before)))
  named_same = let tops = leaves.tops in λ i. all_places_named (file_classes (info i)) (tree_records (tops i))

  pub record_same : (name : List ℕ) → header_record_of after name ≡ header_record_of before name
  record_same name = ap (λ (tops : List KeyedRecord). find (λ r. bytes_eq r.head.name name) (tree_records tops)) leaves.tops

  pub header_same : (r : KeyedRecord) → header_of after r ≡ header_of before r
  header_same r = ap (λ (o : Option KeyedRecord). header_in (file_classes o) r) info

  -- the rows of a tree are kept whose baskets stay
  pub rows_beside : (put : List ℕ → List (List BasketAt)) (then : List ℕ → List (List BasketAt)) (m n : State) (name : List ℕ) (t u : Tree) → KeepsTree (record { links = before; put = put }) m name t
      → then name ≡ put name → cuts_of_tree n u ≡ cuts_of_tree m t → KeepsTree (record { links = after; put = then }) n name u
  rows_beside put then m n name t u k same cuts =
      rows_still (record { links = before; put = put }) (record { links = after; put = then }) m n name t u k
      (record_same name ∙ k.record_is)
      (header_same k.r ∙ k.head_is)
      same cuts
      (λ offsets at entries i hold. leaves.hold offsets at entries hold)
      (ap (λ (ps : List ℕ). are_named_once ps (places_put (put name))) named_same ∙ k.fresh)
