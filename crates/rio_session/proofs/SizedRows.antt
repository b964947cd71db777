-- The entries of pending rows, branch by branch: none is too long, and those of a branch without offsets have one length.
use Rattle.std.proofs.Common.{◌≡◌, ◌==◌, ◌&&◌, ◌||◌, ℕ, ◌+◌, ◌<◌, ◌≤◌, List, [], ◌∷◌, ◌++◌, length, map, drop, Bool, true, false, cond, not, Ok, refl, sym, ap, subst, ◌∙◌, arith}
use Rattle.std.proofs.lemmas.Bool.{and_from, and_parts, eq-eqb, eqb-true, leb-true, ltb-false, le-leb, or_parts}
use Rattle.std.specs.{Prelude.{if◌then◌else◌, nat_le, nat_lt, slice_get, unwrap_or}, List.{list_all, list_any}}
use Rattle.rio_leaf.specs.declared.branch.BranchDef.{BranchDef}
use Rattle.rio_leaf.specs.declared.branch.Shape.{Shape}
use Rattle.rio_format.specs.declared.class.ClassDef.{ClassDef}
use Rattle.rio_key.specs.{Cut.{Cut, all_entries, cut_of}, OpenBasket.{have_one_length, takes_entry}}
use Rattle.rio_key.proofs.CutAll.{all_of_cut}
use Rattle.rio_tree.specs.Header.{has_offsets}
use Rattle.rio_machine.specs.{Limits.{has_long_entry, is_too_long}, Rows.{entries_of, row_fits}, State.{Row, Tree}}
use Rattle.rio_state.specs.TreeLengths.{cuts_of, entries_by_branch}
use Rattle.rio_step.specs.Storable.{IsFillableTree, is_stored_row}
use Rattle.rio_fill.specs.{Laws.{IsSmall}, Prepare.{are_sized, entry_size, is_sized, row_prepared}}
use Rattle.rio_fill.proofs.{SmallLaws.{open_stays_small}, Walked.{prepared_sized}}
use Rattle.rio_effect.specs.TreeChanges.{full_entries}
use Rattle.rio_session.proofs.CutFills.{rests}

-- ---- entries

abbrev pub is_short : List ℕ → Bool
is_short entry = nat_le (length entry) 16777216

abbrev pub is_fit_entry : BranchDef → List ℕ → Bool
is_fit_entry b entry = is_sized b.shape entry && is_short entry

-- one for each branch
abbrev pub is_fit_row : List BranchDef → List (List ℕ) → Bool
is_fit_row defs entries = are_sized defs entries && list_all is_short entries

none_too_long : (entries : List (List ℕ)) → list_any (λ entry. is_too_long (length entry)) entries ≡ false → list_all is_short entries ≡ true
none_too_long [] e = refl
none_too_long (x ∷ xs) e =
    let parts = or_parts (is_too_long (length x)) (list_any (λ entry. is_too_long (length entry)) xs) e in
    and_from (is_short x) (list_all is_short xs) (le-leb (length x) 16777216 (ltb-false 16777216 (length x) parts.0)) (none_too_long xs parts.1)

-- those of a row that a state can hold
pub stored_fit : (classes : List ClassDef) (defs : List BranchDef) (row : Row) → is_stored_row classes defs row ≡ true → is_fit_row defs (entries_of classes defs row) ≡ true
stored_fit classes defs row stored =
    let one = and_parts _ _ stored in
    let two = and_parts _ _ one.0 in
    let three = and_parts (row_fits classes defs row) (not (has_long_entry classes defs row)) two.0 in
    let short : has_long_entry classes defs row ≡ false = by (has_long_entry classes defs row) three.1 in
    let made : row_prepared classes defs row ≡ Ok (entries_of classes defs row) = rw (three.0, short) refl in
    and_from (are_sized defs (entries_of classes defs row)) (list_all is_short (entries_of classes defs row)) (prepared_sized classes defs row (entries_of classes defs row) made) (none_too_long (entries_of classes defs row) short)
  where
    by : (b : Bool) → not b ≡ true → b ≡ false
    by true e = absurd cc
    by false e = refl

pub all_fit : (classes : List ClassDef) (defs : List BranchDef) (rows : List Row) → list_all (is_stored_row classes defs) rows ≡ true → list_all (is_fit_row defs) (map (entries_of classes defs) rows) ≡ true
all_fit classes defs [] stored = refl
all_fit classes defs (row ∷ rows) stored =
    let parts = and_parts (is_stored_row classes defs row) (list_all (is_stored_row classes defs) rows) stored in
    and_from (is_fit_row defs (entries_of classes defs row)) (list_all (is_fit_row defs) (map (entries_of classes defs) rows)) (stored_fit classes defs row parts.0) (all_fit classes defs rows parts.1)

-- ---- branch by branch

abbrev firsts : List (List (List ℕ)) → List (List ℕ)
firsts rows = map (λ entries. unwrap_or (slice_get entries 0) []) rows

abbrev others : List (List (List ℕ)) → List (List (List ℕ))
others rows = map (λ entries. drop 1 entries) rows

-- the entry of the first branch, and those of the others
fit_parts : (b : BranchDef) (bs : List BranchDef) (row : List (List ℕ)) → is_fit_row (b ∷ bs) row ≡ true → (is_fit_entry b (unwrap_or (slice_get row 0) []) ≡ true) × (is_fit_row bs (drop 1 row) ≡ true)
fit_parts b bs [] fit = absurd cc
fit_parts b bs (e ∷ es) fit =
    let both = and_parts (are_sized (b ∷ bs) (e ∷ es)) (list_all is_short (e ∷ es)) fit in
    let sized = and_parts (is_sized b.shape e) (are_sized bs es) both.0 in
    let short = and_parts (is_short e) (list_all is_short es) both.1 in
    (and_from (is_sized b.shape e) (is_short e) sized.0 short.0, and_from (are_sized bs es) (list_all is_short es) sized.1 short.1)

firsts_fit : (b : BranchDef) (bs : List BranchDef) (rows : List (List (List ℕ))) → list_all (is_fit_row (b ∷ bs)) rows ≡ true → list_all (is_fit_entry b) (firsts rows) ≡ true
firsts_fit b bs [] fit = refl
firsts_fit b bs (row ∷ rows) fit =
    let parts = and_parts (is_fit_row (b ∷ bs) row) (list_all (is_fit_row (b ∷ bs)) rows) fit in
    and_from _ _ (fit_parts b bs row parts.0).0 (firsts_fit b bs rows parts.1)

others_fit : (b : BranchDef) (bs : List BranchDef) (rows : List (List (List ℕ))) → list_all (is_fit_row (b ∷ bs)) rows ≡ true → list_all (is_fit_row bs) (others rows) ≡ true
others_fit b bs [] fit = refl
others_fit b bs (row ∷ rows) fit =
    let parts = and_parts (is_fit_row (b ∷ bs) row) (list_all (is_fit_row (b ∷ bs)) rows) fit in
    and_from _ _ (fit_parts b bs row parts.0).1 (others_fit b bs rows parts.1)

-- ---- the entries of an open basket

-- They are few, they have few bytes, and without offsets they have one length.
pub record IsFitOpen (b : BranchDef) (entries : List (List ℕ)) : Type 0 where
  pub small : IsSmall entries
  pub even : has_offsets b.shape || have_one_length entries ≡ true

abbrev pub AreFitOpens : List BranchDef → List (List (List ℕ)) → Type 0
AreFitOpens [] entries = Unit {0}
AreFitOpens (b ∷ bs) [] = Unit {0}
AreFitOpens (b ∷ bs) (es ∷ entries) = IsFitOpen b es × AreFitOpens bs entries

all_behind : (p : List ℕ → Bool) (xs ys : List (List ℕ)) → list_all p (xs ++ ys) ≡ true → list_all p ys ≡ true
all_behind p [] ys e = e
all_behind p (x ∷ xs) ys e = all_behind p xs ys (and_parts (p x) (list_all p (xs ++ ys)) e).1

all_right : (p q : List ℕ → Bool) (xs : List (List ℕ)) → list_all (λ x. p x && q x) xs ≡ true → (list_all p xs ≡ true) × (list_all q xs ≡ true)
all_right p q [] e = (refl, refl)
all_right p q (x ∷ xs) e =
    let parts = and_parts (p x && q x) (list_all (λ y. p y && q y) xs) e in
    let own = and_parts (p x) (q x) parts.0 in
    let rest = all_right p q xs parts.1 in
    (and_from (p x) (list_all p xs) own.0 rest.0, and_from (q x) (list_all q xs) own.1 rest.1)

same_long : (shape : Shape) (n : ℕ) (entries : List (List ℕ)) → has_offsets shape ≡ false → n ≡ entry_size shape → list_all (is_sized shape) entries ≡ true → list_all (λ e. length e == n) entries ≡ true
same_long shape n [] none is sized = refl
same_long shape n (x ∷ xs) none is sized =
    let parts = and_parts (is_sized shape x) (list_all (is_sized shape) xs) sized in
    let long : (length x == entry_size shape) ≡ true = ap (λ (b : Bool). b || (length x == entry_size shape)) (sym none) ∙ parts.0 in
    and_from (length x == n) (list_all (λ e. length e == n) xs) (eq-eqb (length x) n (eqb-true (length x) (entry_size shape) long ∙ sym is)) (same_long shape n xs none is parts.1)

even_by : (shape : Shape) (entries : List (List ℕ)) (t : Bool) → has_offsets shape ≡ t → list_all (is_sized shape) entries ≡ true → has_offsets shape || have_one_length entries ≡ true
even_by shape entries true is sized = ap (λ (b : Bool). b || have_one_length entries) is
even_by shape [] false is sized = ap (λ (b : Bool). b || true) is
even_by shape (x ∷ xs) false is sized =
    let parts = and_parts (is_sized shape x) (list_all (is_sized shape) xs) sized in
    let long : (length x == entry_size shape) ≡ true = ap (λ (b : Bool). b || (length x == entry_size shape)) (sym is) ∙ parts.0 in
    ap (λ (b : Bool). b || have_one_length (x ∷ xs)) is ∙ same_long shape (length x) xs is (eqb-true (length x) (entry_size shape) long) parts.1

rest_fit : (b : BranchDef) (entries : List (List ℕ)) → list_all (is_fit_entry b) entries ≡ true → IsFitOpen b (cut_of entries).rest
rest_fit b entries fit =
    let cut = cut_of entries in
    let parts = all_right (is_sized b.shape) is_short entries fit in
    let sized = all_behind (is_sized b.shape) (all_entries cut.put) cut.rest (ap (list_all (is_sized b.shape)) (all_of_cut entries) ∙ parts.0) in
    record { small = open_stays_small entries parts.1; even = even_by b.shape cut.rest (has_offsets b.shape) refl sized }

pub rests_fit : (defs : List BranchDef) (rows : List (List (List ℕ))) → list_all (is_fit_row defs) rows ≡ true → AreFitOpens defs (rests (map cut_of (entries_by_branch defs rows)))
rests_fit [] rows fit = tt
rests_fit (b ∷ bs) rows fit = (rest_fit b (firsts rows) (firsts_fit b bs rows fit), rests_fit bs (others rows) (others_fit b bs rows fit))

-- the open baskets of a tree that a state can hold
pub opens_fit : (classes : List ClassDef) (t : Tree) → IsFillableTree classes t → AreFitOpens t.branches (rests (cuts_of classes t.branches t.pending))
opens_fit classes t stored = rests_fit t.branches (map (entries_of classes t.branches) t.pending) (all_fit classes t.branches t.pending stored.rows)

none_fit : (b : BranchDef) → IsFitOpen b []
none_fit b = record { small = record { count = omega arith; bytes = omega arith }; even = by (has_offsets b.shape) }
  where
    by : (t : Bool) → t || true ≡ true
    by true = refl
    by false = refl

-- and those of them that a row finds full
pub full_fit : (defs : List BranchDef) (cuts : List Cut) (row : List (List ℕ)) → AreFitOpens defs (rests cuts) → AreFitOpens defs (full_entries cuts row)
full_fit [] cuts row fit = tt
full_fit (b ∷ bs) [] row fit = tt
full_fit (b ∷ bs) (c ∷ cs) [] fit = (none_fit b, full_fit bs cs [] fit.1)
full_fit (b ∷ bs) (c ∷ cs) (x ∷ row) fit = (by (takes_entry c.rest (length x)), full_fit bs cs row fit.1)
  where
    by : (t : Bool) → IsFitOpen b (if t then [] else c.rest)
    by true = none_fit b
    by false = fit.0
