-- The loop that adds up what a save writes of the branches of a tree.
use Rattle.std.proofs.Common.{◌≡◌, ℕ, zero, suc, ◌+◌, ◌*◌, ◌-◌, ◌==◌, ◌≤◌, ◌<◌, ◌^◌, List, [], ◌∷◌, length, drop, get_or, slice_get, Bool, true, false, Option, Some, None, IfSome, unwrap_or, refl, sym, ap, subst, ◌∙◌, arith}
use Rattle.std.proofs.lemmas.{List.{drop_all, drop_more}, List.Elements.{All-get_or}, List.Sums.{sum_by-cons}, Option.{get_or_from_slice_get, slice_get_within}}
use Rattle.std.specs.List.{All}
use Rattle.rio_fill.specs.Fill.{BranchFill, has_flag}
use Rattle.rio_session.specs.{Due.{written_count}, declared.open_tree.Filled.{Filled}, declared.open_tree.SaveSums.{SaveSums}}
use Rattle.rio_session.specs.Measures.{IsBoundedBranch, IsSmallRow, entry_length, filled_by, filled_of, filled_with, no_sums, open_count, sums_from, with_branch}

-- ---- one of a list

pub found : {A : Type 0} (xs : List A) (k : ℕ) → k < length xs → (x : A) × (slice_get xs k ≡ Some x)
found [] k lt = absurd (omega (arith, lt))
found (x ∷ xs) zero lt = (x, refl)
found (x ∷ xs) (suc k) lt = found xs k (omega (arith, lt))

pub all_at : {A : Type 0} (P : A → Type 0) (xs : List A) → All P xs → (k : ℕ) (x : A) → slice_get xs k ≡ Some x → P x
all_at P xs all k x is = subst P (get_or_from_slice_get xs k x x is) (All-get_or P xs k x (slice_get_within xs k x is) all)

pub left_of : {A : Type 0} (xs : List A) (k : ℕ) (x : A) → slice_get xs k ≡ Some x → drop k xs ≡ x ∷ drop (k + 1) xs
left_of xs k x is = drop_more xs k x (slice_get_within xs k x is) ∙ ap (λ y. y ∷ drop (k + 1) xs) (get_or_from_slice_get xs k x x is)

-- ---- how large a branch can be

pub written_more : (b : BranchFill) (bs : List BranchFill) → written_count (b ∷ bs) ≡ length b.baskets + written_count bs
written_more b bs = sum_by-cons (λ (x : BranchFill). length x.baskets) b bs

-- one branch has no more baskets than all
pub one_written : (bs : List BranchFill) (k : ℕ) (b : BranchFill) → slice_get bs k ≡ Some b → length b.baskets ≤ written_count bs
one_written [] k b is = absurd cc
one_written (c ∷ bs) zero b is =
    let same : c ≡ b = ap (λ (o : Option BranchFill). unwrap_or o c) is in
    omega (arith, ap (λ (x : BranchFill). length x.baskets) same, written_more c bs)
one_written (c ∷ bs) (suc k) b is = omega (arith, one_written bs k b is, written_more c bs)

pub all_written_low : (bs : List BranchFill) → written_count bs < 2 ^ 32 → All (λ b. length b.baskets < 2 ^ 32) bs
all_written_low bs low k d lt =
    let f = found bs k lt in
    let one = one_written bs k f.0 f.1 in
    let at : get_or bs k d ≡ f.0 = get_or_from_slice_get bs k f.0 d f.1 in
    subst (λ (b : BranchFill). length b.baskets < 2 ^ 32) (sym at) (omega (arith, one, low))

pub entry_low : (row : List (List ℕ)) → IsSmallRow row → (k : ℕ) → entry_length row k ≤ 16777216
entry_low row small k = by (slice_get row k) refl
  where
    by : (o : Option (List ℕ)) → slice_get row k ≡ o → length (unwrap_or o []) ≤ 16777216
    by None is = omega arith
    by (Some entry) is = all_at (λ e. length e ≤ 16777216) row small k entry is

pub record IsFilledLow (written : ℕ) (f : Filled) : Type 0 where
  pub count : f.count ≤ 8193
  pub bytes : f.bytes ≤ 33554432
  pub written_low : f.written ≤ written + 1

pub filled_low : (row : Option (List (List ℕ))) (flags k : ℕ) (b : BranchFill) → IfSome row IsSmallRow → IsBoundedBranch b → IsFilledLow (length b.baskets) (filled_by row flags k b)
filled_low None flags k b small bounded = record { count = omega (arith, bounded.small.count); bytes = omega (arith, bounded.small.bytes); written_low = omega arith }
filled_low (Some row) flags k b small bounded = by (has_flag flags k)
  where
    by : (t : Bool) → IsFilledLow (length b.baskets) (filled_with (filled_of b) t (entry_length row k))
    by true = record { count = omega arith; bytes = omega (arith, entry_low row small k); written_low = omega arith }
    by false = record { count = omega (arith, bounded.small.count); bytes = omega (arith, bounded.small.bytes, entry_low row small k); written_low = omega arith }

-- a branch that is read
pub record IsReadLow (f : Filled) : Type 0 where
  pub written : f.written < 2 ^ 32
  pub count : f.count ≤ 8192
  pub bytes : f.bytes ≤ 16777216

pub read_low : (bs : List BranchFill) (k : ℕ) → k < length bs → All IsBoundedBranch bs → All (λ b. length b.baskets < 2 ^ 32) bs → (f : Filled) → ((b : BranchFill) → slice_get bs k ≡ Some b → f ≡ filled_of b) → IsReadLow f
read_low bs k lt bounded written f is =
    let b = found bs k lt in
    let same = is b.0 b.1 in
    let few : length b.0.baskets < 2 ^ 32 = all_at (λ (x : BranchFill). length x.baskets < 2 ^ 32) bs written k b.0 b.1 in
    let one = all_at IsBoundedBranch bs bounded k b.0 b.1 in
    record {
      written = omega (arith, ap (λ (x : Filled). x.written) same, few);
      count = omega (arith, ap (λ (x : Filled). x.count) same, one.small.count);
      bytes = omega (arith, ap (λ (x : Filled). x.bytes) same, one.small.bytes);
    }

-- a branch with its entry of a row where one is given
pub by_row_low : (bs : List BranchFill) (row : Option (List (List ℕ))) (flags k : ℕ) → k < length bs → All IsBoundedBranch bs → All (λ b. length b.baskets < 2 ^ 32) bs → IfSome row IsSmallRow
    → (f : Filled) → ((b : BranchFill) → slice_get bs k ≡ Some b → f ≡ filled_by row flags k b) → IsFilledLow (2 ^ 32 - 1) f
by_row_low bs row flags k lt bounded written small f is =
    let b = found bs k lt in
    let same = is b.0 b.1 in
    let few : length b.0.baskets < 2 ^ 32 = all_at (λ (x : BranchFill). length x.baskets < 2 ^ 32) bs written k b.0 b.1 in
    let low = filled_low row flags k b.0 small (all_at IsBoundedBranch bs bounded k b.0 b.1) in
    record {
      count = omega (arith, ap (λ (x : Filled). x.count) same, low.count);
      bytes = omega (arith, ap (λ (x : Filled). x.bytes) same, low.bytes);
      written_low = omega (arith, ap (λ (x : Filled). x.written) same, low.written_low, few);
    }

-- ---- the loop

pub record Summing (tree : List ℕ) (bs : List BranchFill) (row : Option (List (List ℕ))) (flags k : ℕ) (sums : SaveSums) : Type 0 where
  pub all : sums_from tree (filled_by row flags) k sums (drop k bs) ≡ sums_from tree (filled_by row flags) 0 no_sums bs
  pub bytes : sums.bytes ≤ k * 33590003
  pub baskets : sums.baskets ≤ k
  pub named : sums.named + written_count (drop k bs) ≤ written_count bs + 2 * k
  pub within : k ≤ length bs

pub summing_begins : (tree : List ℕ) (bs : List BranchFill) (row : Option (List (List ℕ))) (flags : ℕ) → Summing tree bs row flags 0 no_sums
summing_begins tree bs row flags = record { all = refl; bytes = omega arith; baskets = omega arith; named = omega arith; within = omega arith }

module _ (tree : List ℕ) (bs : List BranchFill) (row : Option (List (List ℕ))) (flags k : ℕ) (sums : SaveSums) (sofar : Summing tree bs row flags k sums) (b : BranchFill) (here : slice_get bs k ≡ Some b) where
  abbrev filled : Filled
  filled = filled_by row flags k b

  pub summing_goes_on : (new : SaveSums) → new ≡ with_branch sums tree b.def filled → new.bytes ≤ sums.bytes + 33590003 → IsFilledLow (length b.baskets) filled → Summing tree bs row flags (k + 1) new
  summing_goes_on new is more low =
      let left = left_of bs k b here in
      let counts : written_count (drop k bs) ≡ length b.baskets + written_count (drop (k + 1) bs) = ap written_count left ∙ written_more b (drop (k + 1) bs) in
      let one : open_count filled ≤ 1 = omega arith in
      let named_is : new.named ≡ sums.named + (filled.written + open_count filled) = ap (λ (s : SaveSums). s.named) is in
      let baskets_are : new.baskets ≡ sums.baskets + open_count filled = ap (λ (s : SaveSums). s.baskets) is in
      record {
        all = ap (λ (s : SaveSums). sums_from tree (filled_by row flags) (k + 1) s (drop (k + 1) bs)) is ∙ ap (sums_from tree (filled_by row flags) k sums) (sym left) ∙ sofar.all;
        bytes = omega (arith, more, sofar.bytes);
        baskets = omega (arith, baskets_are, one, sofar.baskets);
        named = omega (arith, named_is, one, counts, low.written_low, sofar.named);
        within = omega (arith, slice_get_within bs k b here);
      }

pub summing_ends : (tree : List ℕ) (bs : List BranchFill) (row : Option (List (List ℕ))) (flags k : ℕ) (sums : SaveSums) → Summing tree bs row flags k sums → length bs ≤ k
    → sums ≡ sums_from tree (filled_by row flags) 0 no_sums bs
summing_ends tree bs row flags k sums sofar end =
    sym (ap (sums_from tree (filled_by row flags) k sums) (drop_all k bs end)) ∙ sofar.all
