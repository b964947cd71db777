-- A directory record is read from its first 60 bytes alone.
use Rattle.std.proofs.Common.{ℕ, ◌*◌, ◌-◌, ◌≤◌, refl, arith}
use Rattle.rio_num.proofs.{Cut.{TakesFew, few_bytes, few_done, few_number, value_cut}, Plain.{standing}}
use Rattle.rio_head.specs.{Form.{place_len, is_large_dir}, Dir.{dir_layout}, Laws.{DirInFront}, declared.dir.DirRecord.{DirRecord}}
use Rattle.rio_head.proofs.Lengths.{place_len-le}

-- how many of 60 bytes stand behind a directory record
abbrev left : DirRecord → ℕ
left d = 24 - 3 * place_len (is_large_dir d.version)

dir_few : TakesFew 60 left dir_layout
unfolding dir_layout
dir_few = few_number 58 refl (λ version.
    let n = place_len (is_large_dir version) in
    let le : n ≤ 8 = place_len-le (is_large_dir version) in
    few_number 54 refl (λ b. few_number 50 refl (λ c. few_number 46 refl (λ d. few_number 42 refl (λ e.
    few_number (42 - n) (omega (arith, le)) (λ f.
    few_number (42 - 2 * n) (omega (arith, le)) (λ g.
    few_number (42 - 3 * n) (omega (arith, le)) (λ h.
    few_bytes (24 - 3 * n) (omega (arith, le)) (λ i. few_done _ refl)))))))))

pub dir_in_front_lem : DirInFront
dir_in_front_lem place bytes = value_cut dir_layout 60 left dir_few (standing place bytes)
