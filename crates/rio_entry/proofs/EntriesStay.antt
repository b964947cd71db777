-- What is read of an entry, if all of its values are, is read of it too where the same classes are picked.
use Rattle.std.proofs.Common.{◌≡◌, ℕ, List, [], ◌∷◌, drop, length, Bool, true, false, cond, ◌==◌, Result, Ok, Err, refl, ap, ◌∙◌}
use Rattle.std.proofs.lemmas.Bool.{and_parts}
use Rattle.std.specs.List.{list_all}
use Rattle.rio_leaf.specs.declared.branch.Shape.{Shape}
use Rattle.rio_num.specs.{Meanings.{Standing, read}}
use Rattle.rio_format.specs.{declared.class.ClassDef.{ClassDef}, declared.value.Value.{Value}, Frames.{Step}, ReaderState.{WordsMet, no_words, standing}, Bodies.{Counters}, Objects.{depth_limit, object_of}}
use Rattle.rio_format.proofs.{ValueCases.{Each}, AllRead.{AllRead}, ObjectStays.{kind_stays, object_stays}, Stays.{Stays, behind_gives, behind_stays, done_gives, made_stays, same_stays}}
use Rattle.rio_machine.specs.Rows.{Column, leaf_column, object_column, leaf_kind, leaf_numbers_behind, shape_columns}
use Rattle.rio_entry.specs.Reading.{SpellsEntry}
use Rattle.rio_machine.specs.Entries.{counters_for, given_count, column_value, columns_values, entry_in, entry_values, only_values}
use Rattle.rio_machine.specs.declared.entry_fault.EntryFault.{EntryFault, TheVariants.{BadEntry}}
use Rattle.rio_format.specs.Growth.{PicksStay, is_all_read}
use Rattle.rio_entry.specs.Growth.{EntryStays, SpelledEntryStays}

pub each_of : (row : List Value) → list_all is_all_read row ≡ true → Each AllRead row
each_of [] e = tt
each_of (v ∷ vs) e = let two = and_parts (is_all_read v) (list_all is_all_read vs) e in (two.0, each_of vs two.1)

module _ (old new : List ClassDef) (stay : PicksStay old new) where
  column_stays : (counters : Counters) (c : Column) → Stays AllRead (column_value old counters c) (column_value new counters c)
  column_stays counters (leaf_column leaf) = kind_stays (object_of depth_limit old) (object_of depth_limit new) (λ name. object_stays old new stay depth_limit name) [] (leaf_kind counters leaf)
  column_stays counters (object_column class) = object_stays old new stay depth_limit class

  columns_stay : (cs : List Column) (counts : List Value) (own : Counters) → Stays (Each AllRead) (columns_values old cs counts own) (columns_values new cs counts own)
  unfolding columns_values
  columns_stay [] counts own = same_stays (Each AllRead) _
  columns_stay (c ∷ cs) counts own =
      behind_stays AllRead (Each AllRead) _ _ _ _ (column_stays (counters_for c (given_count counts) own) c)
      (λ v. made_stays (Each AllRead) (Each AllRead) _ _ (λ vs. v ∷ vs) (columns_stay cs (drop 1 counts) (leaf_numbers_behind c v own)) (λ vs h. h.1))
      (λ v. behind_gives (λ vs. Each AllRead vs → AllRead v) _ _ (λ vs. done_gives (λ ws. Each AllRead ws → AllRead v) (v ∷ vs) (λ h. h.0)))

  -- what was read if nothing stands behind it
  entry_by : (x y : Step (List Value)) (row : List Value) → ((s : Standing WordsMet) → x ≡ Ok (row, s) → y ≡ Ok (row, s)) → only_values x ≡ Ok row → only_values y ≡ Ok row
  entry_by (Err fault) y row kept e = absurd cc
  entry_by (Ok (vs, s)) y row kept e = by (length s.at.rest == 0) refl e
    where
      by : (b : Bool) → (length s.at.rest == 0) ≡ b → (let r : Result (List Value) EntryFault = cond b (Ok vs) (Err (BadEntry s.at.place)) in r) ≡ Ok row → only_values y ≡ Ok row
      by false is h = absurd cc
      by true is h =
          let same : vs ≡ row = cc in
          ap only_values (kept s (ap (λ (ws : List Value). let r : Step (List Value) = Ok (ws, s) in r) same))
          ∙ ap (λ b. let r : Result (List Value) EntryFault = cond b (Ok row) (Err (BadEntry s.at.place)) in r) is

  pub entry_kept : (shape : Shape) (counts row : List Value) (bytes : List ℕ) → Each AllRead row → entry_in old shape counts bytes ≡ Ok row → entry_in new shape counts bytes ≡ Ok row
  entry_kept shape counts row bytes all e =
      entry_by (read (entry_values old shape counts) (standing 0 bytes no_words)) (read (entry_values new shape counts) (standing 0 bytes no_words)) row
      (λ s is. (columns_stay (shape_columns shape) counts []).read (standing 0 bytes no_words) row s all is) e

  pub entry_spelled : (shape : Shape) (counts row : List Value) (bytes : List ℕ) → Each AllRead row → SpellsEntry old shape counts row bytes → SpellsEntry new shape counts row bytes
  unfolding SpellsEntry
  entry_spelled shape counts row bytes all c = (c.0, (columns_stay (shape_columns shape) counts []).spelled (length bytes) 0 no_words row bytes c.0 all c.1)

pub entry_stays : EntryStays
entry_stays old new stay shape counts row bytes all e = entry_kept old new stay shape counts row bytes (each_of row all) e

pub spelled_entry_stays : SpelledEntryStays
spelled_entry_stays old new stay shape counts row bytes all c = entry_spelled old new stay shape counts row bytes (each_of row all) c
