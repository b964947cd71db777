-- A header is read from the first 100 bytes of a file alone.
use Rattle.std.proofs.Common.{ℕ, ◌*◌, ◌-◌, ◌≤◌, refl, arith}
use Rattle.rio_num.proofs.{Cut.{TakesFew, few_bytes, few_done, few_must, few_number, value_cut}, Plain.{standing}}
use Rattle.rio_head.specs.{Form.{place_len, is_large_head}, Head.{behind_layout, header_layout}, Laws.{HeadInFront}, declared.head.FileHead.{FileHead}}
use Rattle.rio_head.proofs.Lengths.{place_len-le}

-- how many of 100 bytes stand behind a header
abbrev left : FileHead → ℕ
left h = 49 - 3 * place_len (is_large_head h.version)

behind_few : (version : ℕ) → TakesFew 88 left (behind_layout version)
unfolding behind_layout
behind_few version =
    let n = place_len (is_large_head version) in
    let le : n ≤ 8 = place_len-le (is_large_head version) in
    few_number (88 - n) (omega (arith, le)) (λ a.
    few_number (88 - 2 * n) (omega (arith, le)) (λ b.
    few_number (84 - 2 * n) (omega (arith, le)) (λ c.
    few_number (80 - 2 * n) (omega (arith, le)) (λ d.
    few_number (76 - 2 * n) (omega (arith, le)) (λ e.
    few_number (75 - 2 * n) (omega (arith, le)) (λ f. few_must _ (
    few_number (71 - 2 * n) (omega (arith, le)) (λ g.
    few_number (71 - 3 * n) (omega (arith, le)) (λ h.
    few_number (67 - 3 * n) (omega (arith, le)) (λ i.
    few_bytes (49 - 3 * n) (omega (arith, le)) (λ j. few_done _ refl)))))))))))

header_few : TakesFew 100 left header_layout
unfolding header_layout
header_few = few_number 96 refl (λ root. few_must _ (few_number 92 refl (λ version. few_number 88 refl (λ begin. few_must _ (behind_few version)))))

pub head_in_front : HeadInFront
head_in_front bytes = value_cut header_layout 100 left header_few (standing 0 bytes)
