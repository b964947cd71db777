-- What a file keeps stays where a class list is released that counted before another record was put.
use Rattle.std.proofs.Common.{◌≡◌, ◌⊎◌, ◌≢◌, inl, inr, ℕ, ◌+◌, ◌-◌, List, [], ◌∷◌, length, Bool, true, false, cond, ◌||◌, ◌==◌, Option, refl, sym, ap, subst, ◌∙◌, arith}
use Rattle.std.proofs.lemmas.Bool.{eq-eqb, eqb-true, ne_eqb, or_parts}
use Rattle.std.specs.List.{cons_option}
use Rattle.rio_key.specs.declared.head.KeyHead.{KeyHead}
use Rattle.rio_chain.specs.{Changes.{with_gap, with_record, with_rest, without_record}, Segments.{GapAt, HoldsLinks, IsChain, Link, RecordAt}}
use Rattle.rio_chain.proofs.Words.{held_long}
use Rattle.rio_state.specs.{Closing.{item_heads, kept_of, kept_with, name_in}, KeyedRecords.{KeyedRecord, first_place, info_key, is_info_key, keyed_records, top_keys, tree_records}}
use Rattle.rio_state.specs.{OneMore.{HasOneMoreIn, KeyIsRead, keyed_bytes}, Reads.{info_place}, Referred.{is_item_record, is_named_basket, is_referred}, TreeLengths.{PendingRows}}
use Rattle.rio_state.proofs.{Insertion.{behind}, LessRecords.{OwnRecord, gap_records, own_record, record_late, records_less, with_own}, Members.{In}, MoreRecords.{keyed_link}}
use Rattle.rio_state.proofs.{Stays.{tops_same}, Unreferred.{info_kept}}
use Rattle.rio_effect.proofs.ClassEffect.{not_top}

module _ (file : List ℕ) (place : ℕ) (bytes : List ℕ) (head : KeyHead) (read : KeyIsRead place bytes head) (r : KeyedRecord) (apart : r.head.seek ≢ place) where
  -- the links without the record
  abbrev left : List Link → List Link
  left links = without_record r.head.seek links

  -- it is one less, and the rest of a gap is none
  less_rest : (p n k : ℕ) (links : List Link) → HoldsLinks file p links → In r (keyed_records links)
      → HasOneMoreIn (keyed_records (without_record r.head.seek (with_rest n k links))) (keyed_records (with_rest n k links)) r
  less_rest p n k links holds i = by (k == 0) (records_less file p links r holds i)
    where
      by : (b : Bool) → HasOneMoreIn (keyed_records (without_record r.head.seek links)) (keyed_records links) r
          → HasOneMoreIn (keyed_records (without_record r.head.seek (cond b links (GapAt n k ∷ links)))) (keyed_records (cond b links (GapAt n k ∷ links))) r
      by true less = less
      by false less = subst (λ (rs : List KeyedRecord). HasOneMoreIn rs (keyed_records links) r) (sym (gap_records n k (left links))) less

  -- behind the record that was put
  less_put : (links : List Link) → HasOneMoreIn (keyed_records (without_record r.head.seek links)) (keyed_records links) r
      → HasOneMoreIn (keyed_records (without_record r.head.seek (RecordAt place bytes ∷ links))) (keyed_records (RecordAt place bytes ∷ links)) r
  less_put links less =
      let other : (place == r.head.seek) ≡ false = ne_eqb place r.head.seek (λ same. apart (sym same)) in
      let own : (ls : List Link) → keyed_records (RecordAt place bytes ∷ ls) ≡ keyed_bytes head bytes ∷ keyed_records ls = λ ls. ap (λ (x : Option KeyedRecord). cons_option x (keyed_records ls)) (keyed_link place bytes head read) in
      let more = behind r (keyed_bytes head bytes) (keyed_records (left links)) (keyed_records links) less in
      let stays : left (RecordAt place bytes ∷ links) ≡ RecordAt place bytes ∷ left links = ap (λ (b : Bool). cond b (with_gap place (length bytes) links) (RecordAt place bytes ∷ left links)) other in
      subst (λ (x : List KeyedRecord × List KeyedRecord). HasOneMoreIn x.0 x.1 r) (λ i. (sym (ap keyed_records stays ∙ own (left links)) i, sym (own links) i)) more

  -- behind another one
  less_other : (p q : ℕ) (others : List ℕ) (links rest : List Link) → HoldsLinks file p (RecordAt q others ∷ links) → In r (keyed_records (RecordAt q others ∷ links))
      → (In r (keyed_records links) → HasOneMoreIn (keyed_records (without_record r.head.seek rest)) (keyed_records rest) r)
      → HasOneMoreIn (keyed_records (without_record r.head.seek (RecordAt q others ∷ rest))) (keyed_records (RecordAt q others ∷ rest)) r
  less_other p q others links rest holds i less =
      let o = own_record file p q others holds.0.0 holds.0.1 in
      by o (q == r.head.seek) refl (subst (λ (rs : List KeyedRecord). In r rs) (with_own q others o links) i)
    where
      by : (o : OwnRecord q others) (b : Bool) → (q == r.head.seek) ≡ b → (o.r ≡ r) ⊎ In r (keyed_records links)
          → HasOneMoreIn (keyed_records (cond b (with_gap q (length others) rest) (RecordAt q others ∷ left rest))) (keyed_records (RecordAt q others ∷ rest)) r
      by o true e (inl same) =
          record { front = []; back = keyed_records rest; before = gap_records q (length others) rest; after = with_own q others o rest ∙ ap (λ (k : KeyedRecord). k ∷ keyed_records rest) same }
      by o true e (inr j) =
          let late = record_late file (p + length others) links r holds.1 j in
          absurd (omega (arith, late, held_long file p others holds.0.1, eqb-true q r.head.seek e, holds.0.0))
      by o false e (inl same) = let f = sym (eq-eqb q r.head.seek (sym o.seek ∙ ap (λ (k : KeyedRecord). k.head.seek) same)) ∙ e in absurd cc
      by o false e (inr j) =
          let more = behind r o.r (keyed_records (left rest)) (keyed_records rest) (less j) in
          subst (λ (x : List KeyedRecord × List KeyedRecord). HasOneMoreIn x.0 x.1 r) (λ i. (sym (with_own q others o (left rest)) i, sym (with_own q others o rest) i)) more

  -- one of the records from before is one less among those with a record more
  less_with : (p : ℕ) (links : List Link) → HoldsLinks file p links → In r (keyed_records links)
      → HasOneMoreIn (keyed_records (without_record r.head.seek (with_record place bytes links))) (keyed_records (with_record place bytes links)) r
  less_with p [] holds i = absurd i
  less_with p (RecordAt q others ∷ links) holds i = less_other p q others links (with_record place bytes links) holds i (λ j. less_with (p + length others) links holds.1 j)
  less_with p (GapAt q n ∷ links) holds i = by (q == place) (less_with (p + n) links holds.1 i)
    where
      by : (b : Bool) → HasOneMoreIn (keyed_records (without_record r.head.seek (with_record place bytes links))) (keyed_records (with_record place bytes links)) r
          → HasOneMoreIn (keyed_records (without_record r.head.seek (cond b (RecordAt place bytes ∷ with_rest (place + length bytes) (n - length bytes) links) (GapAt q n ∷ with_record place bytes links))))
          (keyed_records (cond b (RecordAt place bytes ∷ with_rest (place + length bytes) (n - length bytes) links) (GapAt q n ∷ with_record place bytes links))) r
      by true less = less_put (with_rest (place + length bytes) (n - length bytes) links) (less_rest (p + n) (place + length bytes) (n - length bytes) links holds.1 i)
      by false less = subst (λ (rs : List KeyedRecord). HasOneMoreIn rs (keyed_records (with_record place bytes links)) r) (sym (gap_records q n (left (with_record place bytes links)))) less

  -- the first record stays the first
  first_with : (links : List Link) → IsChain links file → r.head.seek ≢ first_place → name_in (keyed_records (without_record r.head.seek (with_record place bytes links))) ≡ name_in (keyed_records (with_record place bytes links))
  first_with [] chain later = let late = chain.ends.later in absurd (omega (arith, late))
  first_with (GapAt p n ∷ links) chain later = let late = chain.links_are.0.1.later in absurd (omega (arith, late))
  first_with (RecordAt p others ∷ links) chain later =
      let rest = with_record place bytes links in
      let o = own_record file 100 p others chain.links_are.0.0 chain.links_are.0.1 in
      let other : (p == r.head.seek) ≡ false = ne_eqb p r.head.seek (λ same. later (sym same ∙ chain.links_are.0.0)) in
      let stays : left (RecordAt p others ∷ rest) ≡ RecordAt p others ∷ left rest = ap (λ (b : Bool). cond b (with_gap p (length others) rest) (RecordAt p others ∷ left rest)) other in
      ap (λ (ls : List Link). name_in (keyed_records ls)) stays
      ∙ ap name_in (with_own p others o (left rest)) ∙ ap name_in (sym (with_own p others o rest))

  -- where the list isn't referred to any more, the file keeps what it kept
  pub list_released : (links : List Link) → IsChain links file → In r (keyed_records links) → is_info_key r.head ≡ true → r.head.seek ≢ first_place
      → is_referred (keyed_records (with_record place bytes links)) r ≡ false → (pending : PendingRows)
      → kept_with pending (without_record r.head.seek (with_record place bytes links)) ≡ kept_with pending (with_record place bytes links)
  unfolding kept_with
  list_released links chain i list later none pending =
      let old = keyed_records (with_record place bytes links) in
      let new = keyed_records (left (with_record place bytes links)) in
      let less : HasOneMoreIn new old r = less_with 100 links chain.links_are i in
      let unnamed = or_parts ((r.head.seek == first_place) || (r.head.seek == info_place (info_key old)) || is_item_record (top_keys old) r) (is_named_basket old r) none in
      let parts = or_parts ((r.head.seek == first_place) || (r.head.seek == info_place (info_key old))) (is_item_record (top_keys old) r) unnamed.0 in
      let front = or_parts (r.head.seek == first_place) (r.head.seek == info_place (info_key old)) parts.0 in
      let info = info_kept old new r less front.1 in
      let tops : top_keys new ≡ top_keys old = sym (tops_same new old r less (not_top r.head list)) in
      let name = first_with links chain later in
      λ i. kept_of pending (name i) (info i) (item_heads (tops i)) (tree_records (tops i))
