-- The entries of a row: those that stand in the baskets that are held, and in the open ones.
use Rattle.std.proofs.Common.{◌≡◌, ℕ, zero, suc, ◌+◌, ◌-◌, ◌<◌, ◌≤◌, ◌^◌, ◌==◌, Bool, true, false, cond, leb, ltb, List, [], ◌∷◌, ◌++◌, length, map, slice_get, Option, Some, None, Result, Ok, Err, unwrap_or, is_some, IsTrue, refl, sym, ap, subst, ◌∙◌, arith}
use Rattle.std.proofs.lemmas.Bool.{eqb-true, le-leb, le-ltb, leb-false, leb-true, lt-ltb, ltb-false, ltb-true}
use Rattle.std.proofs.lemmas.List.{append-nil, length-append}
use Rattle.std.proofs.lemmas.Option.{same_Some, slice_get_within}
use Rattle.std.specs.{Prelude.{if◌then◌else◌, option_and_then, nat_lt}, List.{Contains, find}}
use Rattle.rio_num.specs.Reading.{some_if}
use Rattle.rio_key.specs.{Cut.{all_entries, firsts_from}, BasketEntries.{entries_in}}
use Rattle.rio_chain.specs.{Chains.{HasChain}, Segments.{HoldsLinks, Link, RecordAt}}
use Rattle.rio_effect.specs.SavedRows.{HoldAllEntries, HoldsEntries}
use Rattle.rio_effect.proofs.KeyReads.{placed}
use Rattle.rio_entry.specs.{StoredEntries.{StoredEntries}, declared.lane.Lane.{Lane}, declared.lane.RowFault.{RowFault}}
use Rattle.rio_entry.specs.RowFaults.{fault_held, no_entry_fault}
use Rattle.rio_fill.specs.Fill.{BranchFill, TreeFill, count_before, defs_of, entry_count}
use Rattle.rio_machine.specs.State.{Row}
use Rattle.rio_state.specs.{KeyedRecords.{KeyedRecord, keyed_records, record_at}, Trees.{RecordsAt, basket_bytes, bytes_as_said}}
use Rattle.rio_state.proofs.Members.{Found, In, contains_in, found}
use Rattle.rio_tree.specs.{Header.{has_offsets}, Index.{basket_number}, SavedEntries.{entries_at}, declared.basket_at.BasketAt.{BasketAt}}
use Rattle.rio_format.specs.declared.class.ClassDef.{ClassDef}
use Rattle.rio_session.specs.{HeldBaskets.{HoldEntry, HoldsEntry, IsHeld, IsReadAs}, Scans.{AllPairs, AreEntriesOf, AreRowsOf, entries_of_row, entry_held, entry_of_branch, entry_or, if_short, open_entry, row_held, stored_entry}}

-- ---- entries of lists

entry_left : (front back : List (List ℕ)) (e : ℕ) → e < length front → slice_get (front ++ back) e ≡ slice_get front e
entry_left [] back e lt = absurd (omega (arith, lt))
entry_left (x ∷ front) back zero lt = refl
entry_left (x ∷ front) back (suc e) lt = entry_left front back e (omega (arith, lt))

entry_right : (front back : List (List ℕ)) (e i : ℕ) → e ≡ length front + i → slice_get (front ++ back) e ≡ slice_get back i
entry_right [] back e i is = ap (slice_get back) (let same : e ≡ i = omega (arith, is) in same)
entry_right (x ∷ front) back zero i is = absurd (omega (arith, is))
entry_right (x ∷ front) back (suc e) i is = entry_right front back e i (omega (arith, is))

entry_some : (xs : List (List ℕ)) (e : ℕ) → e < length xs → slice_get xs e ≡ Some (unwrap_or (slice_get xs e) [])
entry_some [] e lt = absurd (omega (arith, lt))
entry_some (x ∷ xs) zero lt = refl
entry_some (x ∷ xs) (suc e) lt = entry_some xs e (omega (arith, lt))

-- ---- the basket of an entry

-- the basket of this number is one of these, and has the entry
record HasEntryAt (ats : List BasketAt) (baskets : List (List (List ℕ))) (first e n : ℕ) : Type 0 where
  pub at : BasketAt
  pub entries : List (List ℕ)
  pub at_is : slice_get ats n ≡ Some at
  pub entries_are : slice_get baskets n ≡ Some entries
  pub entry_is : slice_get entries (e - at.first) ≡ slice_get (all_entries baskets) (e - first)

abbrev InBasket : List BasketAt → List (List (List ℕ)) → ℕ → ℕ → Type 0
InBasket ats baskets first e = HasEntryAt ats baskets first e (basket_number e ats)

same_first : (first : ℕ) (at : BasketAt) (ats : List BasketAt) (b : List (List ℕ)) (bs : List (List (List ℕ))) → map (λ a. a.first) (at ∷ ats) ≡ firsts_from first (b ∷ bs)
    → (at.first ≡ first) × (map (λ a. a.first) ats ≡ firsts_from (first + length b) bs)
same_first first at ats b bs e = (cc, cc)

in_basket : (ats : List BasketAt) (baskets : List (List (List ℕ))) (first e : ℕ) → map (λ at. at.first) ats ≡ firsts_from first baskets → first ≤ e → e < first + length (all_entries baskets) → InBasket ats baskets first e
in_basket [] [] first e firsts low lt = absurd (omega (arith, low, lt))
in_basket [] (b ∷ bs) first e firsts low lt = absurd cc
in_basket (at ∷ ats) [] first e firsts low lt = absurd cc
in_basket (at ∷ []) (b ∷ []) first e firsts low lt =
    let is = (same_first first at [] b [] firsts).0 in
    record {
      at = at;
      entries = b;
      at_is = refl;
      entries_are = refl;
      entry_is = ap (λ (n : ℕ). slice_get b (e - n)) is ∙ ap (λ (l : List (List ℕ)). slice_get l (e - first)) (sym (append-nil b));
    }
in_basket (at ∷ []) (b ∷ c ∷ bs) first e firsts low lt = let rest = (same_first first at [] b (c ∷ bs) firsts).1 in absurd cc
in_basket (at ∷ next ∷ ats) (b ∷ []) first e firsts low lt = let rest = (same_first first at (next ∷ ats) b [] firsts).1 in absurd cc
in_basket (at ∷ next ∷ ats) (b ∷ c ∷ bs) first e firsts low lt =
    let parts = same_first first at (next ∷ ats) b (c ∷ bs) firsts in
    let later = same_first (first + length b) next ats c bs parts.1 in
    by parts.0 later.0 (leb next.first e) refl (λ le. in_basket (next ∷ ats) (c ∷ bs) (first + length b) e parts.1 (omega (arith, le, later.0)) (omega (arith, lt, length-append b (all_entries (c ∷ bs)))))
  where
    by : at.first ≡ first → next.first ≡ first + length b → (p : Bool) → leb next.first e ≡ p → (next.first ≤ e → InBasket (next ∷ ats) (c ∷ bs) (first + length b) e) → InBasket (at ∷ next ∷ ats) (b ∷ c ∷ bs) first e
    by own later false is rest =
        let before = leb-false _ _ is in
        let here : HasEntryAt (at ∷ next ∷ ats) (b ∷ c ∷ bs) first e 0 = record {
          at = at;
          entries = b;
          at_is = refl;
          entries_are = refl;
          entry_is = ap (λ (n : ℕ). slice_get b (e - n)) own ∙ sym (entry_left b (all_entries (c ∷ bs)) (e - first) (omega (arith, before, later, low)));
        } in
        subst (HasEntryAt (at ∷ next ∷ ats) (b ∷ c ∷ bs) first e) (ap (λ (p : Bool). cond p (1 + basket_number e (next ∷ ats)) 0) (sym is)) here
    by own later true is rest =
        let le = leb-true _ _ is in
        let r = rest le in
        let there : HasEntryAt (at ∷ next ∷ ats) (b ∷ c ∷ bs) first e (suc (basket_number e (next ∷ ats))) = record {
          at = r.at;
          entries = r.entries;
          at_is = r.at_is;
          entries_are = r.entries_are;
          entry_is = r.entry_is ∙ sym (entry_right b (all_entries (c ∷ bs)) (e - first) (e - (first + length b)) (omega (arith, le, later)));
        } in
        let one : suc (basket_number e (next ∷ ats)) ≡ 1 + basket_number e (next ∷ ats) = omega arith in
        subst (HasEntryAt (at ∷ next ∷ ats) (b ∷ c ∷ bs) first e) (one ∙ ap (λ (p : Bool). cond p (1 + basket_number e (next ∷ ats)) 0) (sym is)) there

-- ---- baskets by the records of a file

hold_at : (f : RecordsAt) (offsets : Bool) (ats : List BasketAt) (baskets : List (List (List ℕ))) → HoldAllEntries f offsets ats baskets → (j : ℕ) (at : BasketAt) (entries : List (List ℕ))
    → slice_get ats j ≡ Some at → slice_get baskets j ≡ Some entries → HoldsEntries f offsets at entries
hold_at f offsets [] [] hold j at entries is are = absurd cc
hold_at f offsets [] (b ∷ bs) hold j at entries is are = absurd hold
hold_at f offsets (a ∷ ats) [] hold j at entries is are = absurd hold
hold_at f offsets (a ∷ ats) (b ∷ bs) hold zero at entries is are =
    subst (λ (x : BasketAt). HoldsEntries f offsets x entries) (same_Some a at is) (subst (λ (x : List (List ℕ)). HoldsEntries f offsets a x) (same_Some b entries are) hold.0)
hold_at f offsets (a ∷ ats) (b ∷ bs) hold (suc j) at entries is are = hold_at f offsets ats bs hold.1 j at entries is are

-- the bytes of a basket are those of the record at its place
basket_record : (file : List ℕ) (links : List Link) (at : BasketAt) (bytes : List ℕ) → HoldsLinks file 100 links → basket_bytes (record_at (keyed_records links)) at ≡ Some bytes → Contains links (RecordAt at.seek bytes)
unfolding basket_bytes
basket_record file links at bytes holds is = by (record_at (keyed_records links) at.seek) refl is
  where
    from_record : (r : KeyedRecord) (ok : Bool) → record_at (keyed_records links) at.seek ≡ Some r → some_if ok r.bytes ≡ Some bytes → Contains links (RecordAt at.seek bytes)
    from_record r false there said = absurd cc
    from_record r true there said =
        let f = found (λ (k : KeyedRecord). k.head.seek == at.seek) r (keyed_records links) there in
        let p = placed file 100 links holds r f.among in
        let same : r.bytes ≡ bytes = same_Some r.bytes bytes said in
        let place : r.head.seek ≡ at.seek = eqb-true r.head.seek at.seek f.passes in
        subst (λ (k : ℕ). Contains links (RecordAt k bytes)) place (subst (λ (l : List ℕ). Contains links (RecordAt r.head.seek l)) same (contains_in (RecordAt r.head.seek r.bytes) links p.there))

    by : (o : Option KeyedRecord) → record_at (keyed_records links) at.seek ≡ o → option_and_then (bytes_as_said at) o ≡ Some bytes → Contains links (RecordAt at.seek bytes)
    by None there said = absurd cc
    by (Some r) there said = from_record r _ there said

-- ---- one entry

module _ (file : List ℕ) (links : List Link) (holds : HoldsLinks file 100 links) (count e : ℕ) (before : e < count) where
  module _ (b : BranchFill) (entries : List (List ℕ)) (are : AreEntriesOf links count b entries) where
    many : count ≡ length (all_entries are.baskets) + length b.entries
    many = sym are.many ∙ ap (λ (l : List (List ℕ)). length l) are.all ∙ length-append (all_entries are.baskets) b.entries

    some : slice_get entries e ≡ Some (unwrap_or (slice_get entries e) [])
    some = entry_some entries e (omega (arith, before, are.many))

    -- in the basket that is held
    held : (lane : Lane) → HoldsEntry links e b lane → e < length (all_entries are.baskets) → entry_held b.baskets lane e ≡ Ok (unwrap_or (slice_get entries e) [])
    held lane h lt =
        let p = in_basket b.baskets are.baskets 0 e are.firsts (omega arith) (omega (arith, lt)) in
        let own = hold_at (record_at (keyed_records links)) (has_offsets b.def.shape) b.baskets are.baskets are.hold (basket_number e b.baskets) p.at p.entries p.at_is p.entries_are in
        let at_is : slice_get b.baskets lane.number ≡ Some p.at = ap (slice_get b.baskets) h.number ∙ p.at_is in
        let record_there = basket_record file links p.at own.bytes holds own.there in
        let entry : slice_get p.entries (e - p.at.first) ≡ Some (unwrap_or (slice_get entries e) []) =
        p.entry_is ∙ ap (slice_get (all_entries are.baskets)) (let k : e - 0 ≡ e = omega arith in k) ∙ sym (entry_left (all_entries are.baskets) b.entries e lt) ∙ ap (λ (l : List (List ℕ)). slice_get l e) (sym are.all) ∙ some in
        by lane.basket h.some (λ found is. subst (λ (o : Option StoredEntries). IsHeld links (has_offsets b.def.shape) b.baskets lane.number o) is h.held p.at at_is own.bytes record_there ∙ own.read) at_is entry
      where
        by : {at : BasketAt} {es : List (List ℕ)} {w : List ℕ} (o : Option StoredEntries) → IsTrue (is_some o) → ((found : StoredEntries) → o ≡ Some found → found ≡ Ok es) → slice_get b.baskets lane.number ≡ Some at → slice_get es (e - at.first) ≡ Some w
            → entry_or (fault_held o) (stored_entry (slice_get b.baskets lane.number) o e) ≡ Ok w
        by None i read at_is entry = absurd cc
        by (Some stored) i read at_is entry = rw (at_is, read stored refl, entry) refl

    -- in the open one
    opened : length (all_entries are.baskets) ≤ e → open_entry b.entries (count_before count b) e ≡ Ok (unwrap_or (slice_get entries e) [])
    opened le =
        let w = unwrap_or (slice_get entries e) [] in
        let first : count_before count b ≡ length (all_entries are.baskets) = omega (arith, many) in
        let at : e ≡ length (all_entries are.baskets) + (e - length (all_entries are.baskets)) = omega (arith, le) in
        let entry : slice_get b.entries (e - length (all_entries are.baskets)) ≡ Some w =
        sym (entry_right (all_entries are.baskets) b.entries e (e - length (all_entries are.baskets)) at) ∙ ap (λ (l : List (List ℕ)). slice_get l e) (sym are.all) ∙ some in
        let short : ltb (length w) (2 ^ 32) ≡ true = lt-ltb _ _ (are.short (e - length (all_entries are.baskets)) w entry) in
        ap (λ (n : ℕ). open_entry b.entries n e) first ∙ ap (λ (o : Option (List ℕ)). entry_or no_entry_fault (option_and_then if_short o)) entry ∙ ap (λ (p : Bool). entry_or no_entry_fault (some_if p w)) short

    pub entry_is : (lane : Lane) → (e < count_before count b → HoldsEntry links e b lane) → entry_of_branch count b lane e ≡ Ok (unwrap_or (slice_get entries e) [])
    entry_is lane h =
        let first : count_before count b ≡ length (all_entries are.baskets) = omega (arith, many) in
        by first (ltb e (count_before count b)) refl
      where
        by : count_before count b ≡ length (all_entries are.baskets) → (p : Bool) → ltb e (count_before count b) ≡ p → cond p (entry_held b.baskets lane e) (open_entry b.entries (count_before count b) e) ≡ Ok (unwrap_or (slice_get entries e) [])
        by first true is = let lt = ltb-true _ _ is in held lane (h lt) (omega (arith, lt, first))
        by first false is = let le = ltb-false _ _ is in opened (omega (arith, le, first))

  -- ---- a row

  pub entries_are : (bs : List BranchFill) (lanes : List Lane) (entries : List (List (List ℕ))) → length lanes ≡ length bs → AllPairs (AreEntriesOf links count) bs entries
      → ((k : ℕ) (b : BranchFill) (lane : Lane) → slice_get bs k ≡ Some b → slice_get lanes k ≡ Some lane → e < count_before count b → HoldsEntry links e b lane)
      → entries_of_row count bs lanes e ≡ Ok (entries_at entries e)
  entries_are [] lanes [] long pairs hold = refl
  entries_are [] lanes (es ∷ entries) long pairs hold = absurd pairs
  entries_are (b ∷ bs) lanes [] long pairs hold = absurd pairs
  entries_are (b ∷ bs) [] (es ∷ entries) long pairs hold = absurd (omega (arith, long))
  entries_are (b ∷ bs) (lane ∷ lanes) (es ∷ entries) long pairs hold =
      let one = entry_is b es pairs.0 lane (hold 0 b lane refl refl) in
      let more = entries_are bs lanes entries (omega (arith, long)) pairs.1 (λ k. hold (suc k)) in
      rw (one, more) refl

-- the row that is read of what is held is the tree's
pub row_is_told : (file : List ℕ) (links : List Link) (holds : HoldsLinks file 100 links) (classes : List ClassDef) (t : TreeFill) (all : List Row) (lanes : List Lane) (e : ℕ) (row : Row) → AreRowsOf classes links t all → slice_get all e ≡ Some row → length lanes ≡ length t.branches
    → e < entry_count t → HoldEntry links (entry_count t) e (length t.branches) t.branches lanes → row_held classes t lanes e ≡ Ok row
row_is_told file links holds classes t all lanes e row are there long before hold =
    let entries = entries_are file links holds (entry_count t) e before t.branches lanes are.entries long are.each (λ k b lane is lies. hold k b lane (slice_get_within t.branches k b is) is lies) in
    rw (entries, are.read e row there) refl
