-- Lists with one element less somewhere.
use Rattle.std.proofs.Common.{◌≡◌, ◌∙◌, List, [], ◌∷◌, ◌++◌, Bool, true, false, not, ◌||◌, sym, ap, refl}
use Rattle.std.proofs.lemmas.Bool.{and_from, and_parts, not-true, or_parts}
use Rattle.std.specs.List.{list_all, list_any}
use Rattle.rio_state.specs.{KeyedRecords.{KeyedRecord, has_item, item_of_key}, Reads.{are_distinct}, OneMore.{HasOneMoreIn}}
use Rattle.rio_state.proofs.NoReason.{item_turned}

module _ {A : Type 0} where
  all_out : (p : A → Bool) (x : A) (front back : List A) → list_all p (front ++ x ∷ back) ≡ true → list_all p (front ++ back) ≡ true
  all_out p x [] back all = (and_parts (p x) (list_all p back) all).1
  all_out p x (y ∷ front) back all =
      let parts = and_parts (p y) (list_all p (front ++ x ∷ back)) all in
      and_from _ _ parts.0 (all_out p x front back parts.1)

  pub all_less : (p : A → Bool) (x : A) (old new : List A) → HasOneMoreIn new old x → list_all p old ≡ true → list_all p new ≡ true
  all_less p x old new h all = ap (list_all p) h.before ∙ all_out p x h.front h.back (ap (list_all p) (sym h.after) ∙ all)

  any_out : (p : A → Bool) (x : A) (front back : List A) → list_any p (front ++ x ∷ back) ≡ false → list_any p (front ++ back) ≡ false
  any_out p x [] back none = (or_parts (p x) (list_any p back) none).1
  any_out p x (y ∷ front) back none =
      let parts = or_parts (p y) (list_any p (front ++ x ∷ back)) none in
      ap (λ b. b || list_any p (front ++ back)) parts.0 ∙ any_out p x front back parts.1

  pub any_less : (p : A → Bool) (x : A) (old new : List A) → HasOneMoreIn new old x → list_any p old ≡ false → list_any p new ≡ false
  any_less p x old new h none = ap (list_any p) h.before ∙ any_out p x h.front h.back (ap (list_any p) (sym h.after) ∙ none)

  -- one that passes among fewer passes among all
  pub any_kept : (p : A → Bool) (x : A) (old new : List A) → HasOneMoreIn new old x → list_any p new ≡ true → list_any p old ≡ true
  any_kept p x old new h some = by (list_any p old) refl
    where
      by : (b : Bool) → list_any p old ≡ b → b ≡ true
      by true is = refl
      by false is = sym (any_less p x old new h is) ∙ some

  -- what passes a test passes a weaker one
  pub all_weaker : (p q : A → Bool) → ((y : A) → p y ≡ true → q y ≡ true) → (ys : List A) → list_all p ys ≡ true → list_all q ys ≡ true
  all_weaker p q weaker [] all = refl
  all_weaker p q weaker (y ∷ ys) all =
      let parts = and_parts (p y) (list_all p ys) all in
      and_from _ _ (weaker y parts.0) (all_weaker p q weaker ys parts.1)

  -- the element itself doesn't pass either
  any_there : (p : A → Bool) (x : A) (front back : List A) → list_any p (front ++ x ∷ back) ≡ false → p x ≡ false
  any_there p x [] back none = (or_parts (p x) (list_any p back) none).0
  any_there p x (y ∷ front) back none = any_there p x front back (or_parts (p y) (list_any p (front ++ x ∷ back)) none).1

-- ---- distinct keys

distinct_out : (r : KeyedRecord) (front back : List KeyedRecord) → are_distinct (front ++ r ∷ back) ≡ true
    → (are_distinct (front ++ back) ≡ true) × (list_any (has_item (item_of_key r.head)) (front ++ back) ≡ false)
distinct_out r [] back d =
    let parts = and_parts (not (list_any (has_item (item_of_key r.head)) back)) (are_distinct back) d in
    (parts.1, not-true _ parts.0)
distinct_out r (s ∷ front) back d =
    let parts = and_parts (not (list_any (has_item (item_of_key s.head)) (front ++ r ∷ back))) (are_distinct (front ++ r ∷ back)) d in
    let none : list_any (has_item (item_of_key s.head)) (front ++ r ∷ back) ≡ false = not-true _ parts.0 in
    let rest = distinct_out r front back parts.1 in
    let other : has_item (item_of_key r.head) s ≡ false = sym (item_turned s r) ∙ any_there (has_item (item_of_key s.head)) r front back none in (
      and_from _ _ (ap not (any_out (has_item (item_of_key s.head)) r front back none)) rest.0,
      ap (λ b. b || list_any (has_item (item_of_key r.head)) (front ++ back)) other ∙ rest.1,
    )

-- the others stay apart, and none has its name and cycle
pub distinct_less : (r : KeyedRecord) (old new : List KeyedRecord) → HasOneMoreIn new old r → are_distinct old ≡ true
    → (are_distinct new ≡ true) × (list_any (has_item (item_of_key r.head)) new ≡ false)
distinct_less r old new h d =
    let out = distinct_out r h.front h.back (ap are_distinct (sym h.after) ∙ d) in
    (ap are_distinct h.before ∙ out.0, ap (list_any (has_item (item_of_key r.head))) h.before ∙ out.1)
