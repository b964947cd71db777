-- Baskets among the keys of a file's records, and among the records themselves.
use Rattle.std.proofs.Common.{◌≡◌, ◌∙◌, ℕ, ◌+◌, ◌<◌, ◌≤◌, List, [], ◌∷◌, length, take, drop, map, Bool, true, false, cond, ◌&&◌, ◌==◌, Option, Some, None, refl, sym, ap, subst, arith}
use Rattle.std.proofs.lemmas.{Bool.{and_parts, eq-eqb, eqb-true}, List.{length-take, length-drop, Elements.{All-head, All-tail}}}
use Rattle.std.specs.{Prelude.{codes, is_some, option_and_then}, List.{All, find, list_all}, Option.{option_map_or}}
use Rattle.rio_num.specs.Reading.{some_if}
use Rattle.rio_key.specs.declared.head.KeyHead.{KeyHead}
use Rattle.rio_host.specs.Image.{Has}
use Rattle.rio_chain.proofs.Words.{has_own, has_same}
use Rattle.rio_format.specs.declared.class.ClassDef.{ClassDef}
use Rattle.rio_tree.specs.{declared.basket_at.BasketAt.{BasketAt}, declared.head.Branch.{Branch}, declared.head.TreeHead.{TreeHead}}
use Rattle.rio_state.specs.{KeyedRecords.{KeyedRecord, has_class, record_at}, Trees.{RecordsAt, basket_bytes, bytes_as_said, saved_rows}}
use Rattle.rio_state.proofs.{Members.{all_from}, SavedRows.{HasBasket, rows_there}}
use Rattle.rio_entry.specs.SavedRows.{has_basket, is_basket_key, keyed_baskets}
use Rattle.rio_recover.specs.{Baskets.{AreKeyedIn, has_baskets}, Keys.{StandsIn, record_heads}}
use Rattle.rio_recover.proofs.LinkRecords.{length_of_record}

-- ---- one record

module _ (file : List ℕ) (r : KeyedRecord) (at : BasketAt) (stands : StandsIn file r) (here : r.head.seek ≡ at.seek) where
  key_is : is_basket_key at r.head ≡ (has_class (codes "TBasket") r.head && (length r.bytes == at.bytes))
  key_is = λ i. eq-eqb r.head.seek at.seek here i && (has_class (codes "TBasket") r.head && (length_of_record file r stands i == at.bytes))

  own_bytes : length r.bytes ≡ at.bytes → r.bytes ≡ take at.bytes (drop at.seek file)
  own_bytes long =
      has_same file at.seek r.bytes (take at.bytes (drop at.seek file))
      (omega (arith, long, stands.within, here, length-take at.bytes (drop at.seek file), length-drop at.seek file))
      (subst (λ (p : ℕ). Has file p r.bytes) here stands.there) (has_own file at.seek at.bytes)

  pub said_bytes : bytes_as_said at r ≡ some_if (is_basket_key at r.head) (take at.bytes (drop at.seek file))
  said_bytes = by (has_class (codes "TBasket") r.head && (length r.bytes == at.bytes)) refl ∙ ap (λ (b : Bool). some_if b (take at.bytes (drop at.seek file))) (sym key_is)
    where
      by : (b : Bool) → (has_class (codes "TBasket") r.head && (length r.bytes == at.bytes)) ≡ b → some_if b r.bytes ≡ some_if b (take at.bytes (drop at.seek file))
      by true e = ap (λ (xs : List ℕ). some_if true xs) (own_bytes (eqb-true (length r.bytes) at.bytes (and_parts (has_class (codes "TBasket") r.head) (length r.bytes == at.bytes) e).1))
      by false e = refl

-- ---- all records

found_bytes : (file : List ℕ) (records : List KeyedRecord) (at : BasketAt) → All (StandsIn file) records → option_and_then (bytes_as_said at) (record_at records at.seek) ≡ keyed_baskets (record_heads records) file at
found_bytes file [] at all = refl
found_bytes file (r ∷ records) at all = by (r.head.seek == at.seek) refl (found_bytes file records at (All-tail (StandsIn file) r records all))
  where
    by : (b : Bool) → (r.head.seek == at.seek) ≡ b → option_and_then (bytes_as_said at) (record_at records at.seek) ≡ keyed_baskets (record_heads records) file at
        → option_and_then (bytes_as_said at) (cond b (Some r) (record_at records at.seek))
        ≡ some_if (option_map_or (is_basket_key at) (cond b (Some r.head) (find (λ h. h.seek == at.seek) (record_heads records))) false) (take at.bytes (drop at.seek file))
    by true e rest = said_bytes file r at (All-head (StandsIn file) r records all) (eqb-true r.head.seek at.seek e)
    by false e rest = rest

-- the baskets of the records are those of the file with their keys
pub records_keyed : (file : List ℕ) (heads : List KeyHead) (records : List KeyedRecord) → All (StandsIn file) records → heads ≡ record_heads records → AreKeyedIn heads file (record_at records)
unfolding basket_bytes
records_keyed file heads records all same at = found_bytes file records at all ∙ ap (λ (hs : List KeyHead). keyed_baskets hs file at) (sym same)

-- ---- baskets that aren't there

some_there : {A : Type 0} (b : Bool) (x : A) → is_some (some_if b x) ≡ b
some_there true x = refl
some_there false x = refl

module _ (file : List ℕ) (heads : List KeyHead) (at_place : RecordsAt) (keyed : AreKeyedIn heads file at_place) where
  -- where the rows are there, each basket is
  pub rows_have_baskets : (classes : List ClassDef) (head : TreeHead) → is_some (saved_rows classes at_place head) ≡ true → has_baskets heads head ≡ true
  rows_have_baskets classes head e =
      all_from (λ b. list_all (has_basket heads) b.baskets) head.branches
      (λ b i. all_from (has_basket heads) b.baskets
      (λ at j. sym (some_there (has_basket heads at) (take at.bytes (drop at.seek file))) ∙ ap is_some (sym (keyed at)) ∙ rows_there at_place classes head e at (b, i, j)))

  -- so without one of them there are none
  pub no_rows : (classes : List ClassDef) (head : TreeHead) → has_baskets heads head ≡ false → saved_rows classes at_place head ≡ None
  no_rows classes head lacks = by (saved_rows classes at_place head) refl
    where
      by : (o : Option _) → saved_rows classes at_place head ≡ o → o ≡ None
      by None e = refl
      by (Some rows) e = let there = rows_have_baskets classes head (ap is_some e) in absurd cc
