-- The keys of items and of outdated headers that were checked, and one more of them.
use Rattle.std.proofs.Common.{◌≡◌, ◌∙◌, ℕ, List, [], ◌∷◌, ◌++◌, append-nil, Bool, true, false, cond, not, ◌&&◌, ◌||◌, Option, Some, None, refl, sym, ap, subst, slice_get}
use Rattle.std.proofs.lemmas.{List.{map-append, Elements.{filter-append}, Sorted.{IsPermutation-filter_both, list_any-IsPermutation}}}
use Rattle.std.specs.{List.{filter, find, list_any, Sorted.{IsPermutation}}, Option.{is_some}}
use Rattle.rio_key.specs.declared.head.KeyHead.{KeyHead}
use Rattle.rio_head.specs.declared.reason.Reason.TheVariants.{DoubleKey, MixedName}
use Rattle.rio_dir.specs.Table.{is_at_cycle, with_head}
use Rattle.rio_state.specs.KeyedRecords.{KeyedRecord, has_item, is_mixed_name, item_of_key}
use Rattle.rio_state.specs.Reasons.{Beside, ReasonAt, reason_at, reason_if}
use Rattle.rio_state.proofs.NoReason.{none_if}
use Rattle.rio_recover.specs.Checks.{HasKeys, has_passed, is_item_key, item_reasons, item_records, outdated_records, with_key}
use Rattle.rio_recover.specs.{Keys.{record_heads}, declared.judge.KeyCheck.{KeyCheck}}
use Rattle.rio_recover.proofs.{Checking.{any_heads, moved_with, only_reason, reason_first}, Tables.{any-append, some_found}}

-- ---- a name and cycle that was checked

-- what some records pass their items or the others do
either_kind : (tops : List KeyedRecord) (p : KeyedRecord → Bool) (rs : List KeyedRecord) → list_any p rs ≡ (list_any p (item_records tops rs) || list_any p (outdated_records tops rs))
either_kind tops p rs =
    list_any-IsPermutation p rs (item_records tops rs ++ outdated_records tops rs)
    (IsPermutation-filter_both (λ r. is_item_key tops r.head) (λ r. not (is_item_key tops r.head)) (λ r. refl) rs)
    ∙ any-append p (item_records tops rs) (outdated_records tops rs)

module _ (beside : Beside) (before : List KeyedRecord) (r : KeyedRecord) (head : KeyHead) (same : r.head ≡ head) where
  in_table : (rs : List KeyedRecord) (table : List KeyHead) → IsPermutation (record_heads rs) table → is_some (find (is_at_cycle head.name head.cycle) table) ≡ list_any (has_item (item_of_key r.head)) rs
  in_table rs table moved =
      some_found (is_at_cycle head.name head.cycle) table
      ∙ sym (list_any-IsPermutation (is_at_cycle head.name head.cycle) (record_heads rs) table moved)
      ∙ any_heads (is_at_cycle head.name head.cycle) rs
      ∙ ap (λ (h : KeyHead). list_any (has_item (item_of_key h)) rs) (sym same)

  pub passed_is : (check : KeyCheck) → HasKeys beside before check → has_passed check head ≡ list_any (has_item (item_of_key r.head)) before
  passed_is check so =
      (λ i. in_table (item_records beside.tops before) check.items.heads so.items i || in_table (outdated_records beside.tops before) check.outdated.heads so.outdated i)
      ∙ sym (either_kind beside.tops (has_item (item_of_key r.head)) before)

  -- ---- the reasons behind its value's

  abbrev some_of : ReasonAt → Option ReasonAt
  some_of x = Some x

  pub mixed_as : (name : List ℕ) (b : Bool) → name ≡ head.name → b ≡ is_mixed_name beside.tops name → is_mixed_name beside.tops r.head.name ≡ b
  mixed_as name b named told = ap (λ (h : KeyHead). is_mixed_name beside.tops h.name) same ∙ ap (is_mixed_name beside.tops) (sym named) ∙ sym told

  pub double_told : (check : KeyCheck) → HasKeys beside before check → has_passed check head ≡ true → slice_get (item_reasons beside before r) 0 ≡ Some (reason_at head.seek DoubleKey)
  double_told check so passed =
      reason_first (list_any (has_item (item_of_key r.head)) before) r.head.seek DoubleKey (reason_if (is_mixed_name beside.tops r.head.name) r.head.seek MixedName) (sym (passed_is check so) ∙ passed)
      ∙ ap (λ (h : KeyHead). some_of (reason_at h.seek DoubleKey)) same

  behind_double : list_any (has_item (item_of_key r.head)) before ≡ false → item_reasons beside before r ≡ reason_if (is_mixed_name beside.tops r.head.name) r.head.seek MixedName
  behind_double one =
      ap (λ (xs : List ReasonAt). xs ++ reason_if (is_mixed_name beside.tops r.head.name) r.head.seek MixedName)
      (none_if (list_any (has_item (item_of_key r.head)) before) r.head.seek DoubleKey one)

  pub mixed_told : (check : KeyCheck) → HasKeys beside before check → has_passed check head ≡ false → is_mixed_name beside.tops r.head.name ≡ true
      → slice_get (item_reasons beside before r) 0 ≡ Some (reason_at head.seek MixedName)
  mixed_told check so one is =
      ap (λ (xs : List ReasonAt). slice_get xs 0) (behind_double (sym (passed_is check so) ∙ one))
      ∙ only_reason (is_mixed_name beside.tops r.head.name) r.head.seek MixedName is
      ∙ ap (λ (h : KeyHead). some_of (reason_at h.seek MixedName)) same

  pub no_item_reason : (check : KeyCheck) → HasKeys beside before check → has_passed check head ≡ false → is_mixed_name beside.tops r.head.name ≡ false → item_reasons beside before r ≡ []
  no_item_reason check so one apart =
      behind_double (sym (passed_is check so) ∙ one) ∙ none_if (is_mixed_name beside.tops r.head.name) r.head.seek MixedName apart

  -- ---- one more

  keeps : (p : KeyHead → Bool) (b : Bool) → p head ≡ b → record_heads (filter (λ s. p s.head) (before ++ r ∷ [])) ≡ record_heads (filter (λ s. p s.head) before) ++ cond b (head ∷ []) []
  keeps p b e =
      ap record_heads (filter-append (λ s. p s.head) before (r ∷ []) ∙ ap (λ (c : Bool). filter (λ s. p s.head) before ++ cond c (r ∷ []) []) (ap p same ∙ e))
      ∙ map-append (λ s. s.head) (filter (λ s. p s.head) before) (cond b (r ∷ []) [])
      ∙ ap (λ (hs : List KeyHead). record_heads (filter (λ s. p s.head) before) ++ hs) (by b)
    where
      by : (c : Bool) → record_heads (cond c (r ∷ []) []) ≡ cond c (head ∷ []) []
      by true = ap (λ (h : KeyHead). h ∷ []) same
      by false = refl

  put_more : (p : KeyHead → Bool) (b : Bool) (old new : List KeyHead) → p head ≡ b → IsPermutation (record_heads (filter (λ s. p s.head) before)) old → new ≡ with_key b head old
      → IsPermutation (record_heads (filter (λ s. p s.head) (before ++ r ∷ []))) new
  put_more p b old new e moved is = subst (λ (hs : List KeyHead). IsPermutation hs new) (sym (keeps p b e)) (by b is)
    where
      by : (c : Bool) → new ≡ with_key c head old → IsPermutation (record_heads (filter (λ s. p s.head) before) ++ cond c (head ∷ []) []) new
      by true e = moved_with (record_heads (filter (λ s. p s.head) before)) old new head moved e
      by false e =
          subst (λ (hs : List KeyHead). IsPermutation hs new) (sym (append-nil (record_heads (filter (λ s. p s.head) before)))) (subst (IsPermutation (record_heads (filter (λ s. p s.head) before))) (sym e) moved)

  pub items_more : (b : Bool) (old new : List KeyHead) → is_item_key beside.tops head ≡ b → IsPermutation (record_heads (item_records beside.tops before)) old → new ≡ with_key b head old
      → IsPermutation (record_heads (item_records beside.tops (before ++ r ∷ []))) new
  items_more b old new e moved is = put_more (is_item_key beside.tops) b old new e moved is

  pub outdated_more : (b : Bool) (old new : List KeyHead) → not (is_item_key beside.tops head) ≡ b → IsPermutation (record_heads (outdated_records beside.tops before)) old → new ≡ with_key b head old
      → IsPermutation (record_heads (outdated_records beside.tops (before ++ r ∷ []))) new
  outdated_more b old new e moved is = put_more (λ h. not (is_item_key beside.tops h)) b old new e moved is
