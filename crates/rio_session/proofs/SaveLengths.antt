-- How long the records of a save are, by what is kept alone.
use Rattle.std.proofs.Common.{◌≡◌, ◌∙◌, ℕ, ◌+◌, ◌-◌, ◌%◌, ◌^◌, ◌<◌, ◌≤◌, codes, List, [], ◌∷◌, ◌++◌, length, map, refl, ap, arith}
use Rattle.std.proofs.lemmas.List.{Elements.{recursion_from_All}, Sums.{sum_by-cons}}
use Rattle.std.specs.List.{All}
use Rattle.rio_key.specs.declared.head.KeyHead.{KeyHead}
use Rattle.rio_chain.specs.{Record.{key_size}, declared.segment.Segment.{Segment}}
use Rattle.rio_machine.specs.Limits.{head_length}
use Rattle.rio_tree.specs.{HeaderLength.{basket_count, header_length}, WrittenLaws.{stated_defs}, declared.head.Branch.{Branch}, declared.head.TreeHead.{TreeHead}}
use Rattle.rio_tree.proofs.HeaderLengths.{header_length_is_known}
use Rattle.rio_fill.specs.Fill.{BranchFill, defs_of, entry_count}
use Rattle.rio_state.specs.Closing.{padded_length}
use Rattle.rio_effect.specs.TreeRecords.{header_data, header_record, header_words}
use Rattle.rio_session.specs.{Due.{IsBranchSound, lengths_of_fill, open_lengths, written_count}, Fillings.{open_list, put_open}, Fills.{FilledTree, branch_in_header}}
use Rattle.rio_session.specs.{SavePlans.{head_now, put_now, saving_now}, SessionState.{SessionState}}
use Rattle.rio_session.proofs.{BasketsPlaced.{defs_put, puts_are}, CutLengths.{defs_said}, FillRoom.{many_lengths}, KeptRoom.{reckoned}, PutCounts.{written_put}, SaveHeads.{AreReady, AreSound, all_ready, early_all}, StoredRecords.{record_size}}

-- ---- a header's record

-- it is as long as the number of its baskets makes it
pub header_long : (place datime : ℕ) (name : List ℕ) (cycle : ℕ) (head : TreeHead)
    → length (header_record place datime name cycle head) ≡ padded_length (head_length (codes "TTree") name + header_length name (stated_defs head.branches) (basket_count head))
unfolding header_record
header_long place datime name cycle head =
    let words = header_words place datime name cycle in
    record_size words (header_data words name head) ∙ ap (λ (n : ℕ). padded_length (key_size words + n)) (header_length_is_known (key_size words) name head)

-- ---- the open baskets

-- one is put for each that has entries
pub opened_many : (datime : ℕ) (tree : List ℕ) (count : ℕ) (segments : List Segment) (bs : List BranchFill) → length (put_open datime tree count segments bs (open_list bs)).lengths ≡ length (open_lengths tree bs)
opened_many datime tree count segments bs = (reckoned datime tree count segments bs).many

-- ---- the header

said_many : (saved count : ℕ) (bs cs : List BranchFill) → AreReady saved count bs cs → basket_count (record { entries = count; branches = map (branch_in_header count) cs }) ≡ written_count cs
said_many saved count [] [] are = refl
said_many saved count [] (c ∷ cs) are = absurd are
said_many saved count (b ∷ bs) [] are = absurd are
said_many saved count (b ∷ bs) (c ∷ cs) are =
    let own = ap length (early_all count c.baskets are.0.early) in
    omega (
      arith,
      own,
      said_many saved count bs cs are.1,
      sum_by-cons (λ (d : Branch). length d.baskets) (branch_in_header count c) (map (branch_in_header count) cs),
      sum_by-cons (λ (d : BranchFill). length d.baskets) c cs,
    )

module _ (s : SessionState) (t : FilledTree) (sound : All (IsBranchSound t.fill.saved t.fill.pending) t.fill.branches) where
  abbrev bs : List BranchFill
  bs = t.fill.branches

  abbrev cs : List BranchFill
  cs = (put_now s t).branches

  pub sound_now : AreSound t.fill.saved t.fill.pending t.fill.branches
  sound_now = recursion_from_All (IsBranchSound t.fill.saved t.fill.pending) t.fill.branches sound

  pub ready_now : AreReady t.fill.saved (entry_count t.fill) t.fill.branches (put_now s t).branches
  ready_now = all_ready t.fill.saved t.fill.pending bs cs sound_now (puts_are s.datime t.name (entry_count t.fill) s.segments bs (open_list bs))

  defs_now : stated_defs (head_now s t).branches ≡ defs_of t.fill.branches
  defs_now = defs_said (entry_count t.fill) cs ∙ defs_put (entry_count t.fill) bs (open_list bs) cs (puts_are s.datime t.name (entry_count t.fill) s.segments bs (open_list bs))

  count_now : basket_count (head_now s t) ≡ written_count t.fill.branches + length (open_lengths t.name t.fill.branches)
  count_now =
      omega (
        arith,
        said_many t.fill.saved (entry_count t.fill) bs cs ready_now,
        written_put s.datime t.name (entry_count t.fill) s.segments bs (open_list bs),
        many_lengths s.datime t.name (entry_count t.fill) s.segments bs (open_list bs),
        opened_many s.datime t.name (entry_count t.fill) s.segments bs,
      )

  -- its value, and its record
  pub value_now : header_length t.name (stated_defs (head_now s t).branches) (basket_count (head_now s t))
      ≡ header_length t.name (defs_of t.fill.branches) (written_count t.fill.branches + length (open_lengths t.name t.fill.branches))
  value_now = let defs = defs_now in let count = count_now in λ i. header_length t.name (defs i) (count i)

  -- it is short where its record is
  pub value_low : (name : List ℕ) (said : TreeHead) (n : ℕ) → name ≡ t.name → said ≡ head_now s t → n ≡ padded_length (lengths_of_fill t.name t.fill).header → n < 1073741624
      → header_length name (stated_defs said.branches) (basket_count said) < 2 ^ 30 - 200
  value_low name said n name_is said_is n_is low =
      let same = (λ i. header_length (name_is i) (stated_defs (said_is i).branches) (basket_count (said_is i))) ∙ value_now in
      omega (arith, same, n_is, low)

  pub next_long : (h : KeyHead) → length (header_record 0 s.datime t.name (h.cycle + 1) (head_now s t)) ≡ padded_length (lengths_of_fill t.name t.fill).header
  next_long h = header_long 0 s.datime t.name (h.cycle + 1) (head_now s t) ∙ ap (λ (n : ℕ). padded_length (head_length (codes "TTree") t.name + n)) value_now

  pub next_some : (h : KeyHead) → 4 ≤ length (header_record 0 s.datime t.name (h.cycle + 1) (head_now s t))
  next_some h =
      let least : 26 ≤ head_length (codes "TTree") t.name = omega arith in
      omega (arith, least, next_long h)

  pub next_aligned : (h : KeyHead) → length (header_record 0 s.datime t.name (h.cycle + 1) (head_now s t)) % 4 ≡ 0
  next_aligned h =
      let n = (lengths_of_fill t.name t.fill).header in
      let whole : padded_length n % 4 ≡ 0 = omega arith in
      ap (λ (k : ℕ). k % 4) (next_long h) ∙ whole

  -- the lengths are those of the open baskets, and the header's
  pub lengths_now : (h : KeyHead) → (saving_now s t h).lengths ≡ (put_now s t).lengths ++ padded_length (lengths_of_fill t.name t.fill).header ∷ []
  lengths_now h = ap (λ (n : ℕ). (put_now s t).lengths ++ n ∷ []) (next_long h)
