-- What a close needs, by lengths.
use Rattle.std.proofs.{Common.{◌≡◌, ℕ, ◌+◌, ◌*◌, codes, [], ◌∷◌, ap, arith}, lemmas.List.Sums.{sum_by-append, sum_by-cons}}
use Rattle.std.specs.List.{sum_by}
use Rattle.rio_dir.specs.Table.{heads_size}
use Rattle.rio_machine.specs.Limits.{head_length}
use Rattle.rio_state.specs.Closing.{KeptRecords, close_need, closing_lengths, free_length, list_length, open_count, padded_length, saved_lengths}
use Rattle.rio_state.specs.Sizes.{CloseSizeIsNeed, close_size, headless}

-- the saves that are due, the key list and the free record
pub closing_sum : (f : ℕ → ℕ) (kept : KeptRecords) → sum_by f (closing_lengths kept) ≡ sum_by f (saved_lengths kept) + (f (list_length kept) + f (free_length kept))
closing_sum f kept =
    omega (
      arith,
      sum_by-append f (saved_lengths kept) (list_length kept ∷ free_length kept ∷ []),
      sum_by-cons f (list_length kept) (free_length kept ∷ []),
      sum_by-cons f (free_length kept) [],
    )

pub close_size_is_need : CloseSizeIsNeed
unfolding close_need close_size
close_size_is_need kept =
    let all = headless kept.name (kept.count + open_count kept) in
    let list : list_length kept ≡ list_length all + heads_size kept.heads = omega arith in
    let free : free_length kept ≡ free_length all = ap (λ (n : ℕ). head_length (codes "TFile") kept.name + 10 * (n + 2)) (omega arith) in
    omega (arith, closing_sum padded_length kept, ap padded_length list, ap padded_length free)
