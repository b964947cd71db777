-- Items are taken one by one of a list, from the first on, and put at the end of another.
use Rattle.std.proofs.Common.{◌≡◌, ◌<◌, ◌∷◌, ◌++◌, ◌∙◌, [], ℕ, List, Option, Some, None, length, sym, ap, arith, append_assoc, append-nil}
use Rattle.rio_csv.proofs.ValueLaws.{with_front}
use Rattle.rio_csv.specs.Unread.{TakesFirst}

-- how many items are left
abbrev pub left_count : {A : Type 0} → Option (List A) → ℕ
left_count None = 0
left_count (Some items) = length items

module _ {A : Type 0} (old new : Option (List A)) where
  pub one_taken : (front : List A) (item : A) (whole : List A) → TakesFirst old (Some item) new → with_front front old ≡ Some whole
      → with_front (front ++ item ∷ []) new ≡ Some whole
  one_taken front item whole t so_far =
      let was : with_front front (Some (item ∷ t.0)) ≡ Some whole = ap (with_front front) (sym t.1) ∙ so_far in
      ap (with_front (front ++ item ∷ [])) t.2
      ∙ ap (λ (xs : List A). let o : Option (List A) = Some xs in o) (append_assoc front (item ∷ []) t.0)
      ∙ was

  pub fewer_left : (item : A) → TakesFirst old (Some item) new → left_count new < left_count old
  fewer_left item t = rw (t.1, t.2) (omega arith)

  pub all_taken : (front whole : List A) → TakesFirst old None new → with_front front old ≡ Some whole → front ≡ whole
  all_taken front whole t so_far =
      let was : with_front front (Some []) ≡ Some whole = ap (with_front front) (sym t.0) ∙ so_far in
      let same : front ++ [] ≡ whole = cc in
      sym (append-nil front) ∙ same
