use Rattle.std.proofs.Common.{◌^◌, ◌<◌, ◌∙◌, ℕ, List, ap, sym, subst, arith}
use Rattle.rio_head.specs.Written.{FitsHead}
use Rattle.rio_create.specs.NewFile.{first_record, new_head}
use Rattle.rio_create.proofs.Drafts.{drafted, drafted_long, drafted_low, head_fits}
use Rattle.rio_create.proofs.draft.draft_of.Goals as goal

pub write_head-requires : goal.write_head-requires
write_head-requires c = subst FitsHead (sym c.head_of.ensures) (head_fits _ _)

pub returns-clause-bytes : goal.returns-clause-bytes
returns-clause-bytes c =
    let name = c.args.name.now in
    let uuid = c.file_uuid-uuid.ensures in
    let head = c.head_of.ensures ∙ ap (λ (u : List ℕ). new_head c.in_ok-first.first.nbytes_name u) uuid in
    let first = c.as_slice.ensures ∙ c.in_ok-first.ensures.bytes ∙ ap (λ (u : List ℕ). first_record c.args.name.now u c.args.datime) uuid in
    drafted name c.args.datime c.in_ok-first.first.nbytes_name c.head_of.result c.as_slice.result.now c.new-bytes.result c.write_head.new.into c.put.new.self c.put_u32.new.self
    c.in_ok-first.ensures.name head first c.new-bytes.ensures c.in_ok-write_head.ensures c.in_ok-put.ensures c.in_ok-put_u32.ensures

pub returns-clause-long : goal.returns-clause-long
returns-clause-long c =
    let name = c.args.name.now in
    let uuid = c.file_uuid-uuid.ensures in
    let low : c.args.datime < 2 ^ 32 = omega arith in
    let head = c.head_of.ensures ∙ ap (λ (u : List ℕ). new_head c.in_ok-first.first.nbytes_name u) uuid in
    let first = c.as_slice.ensures ∙ c.in_ok-first.ensures.bytes ∙ ap (λ (u : List ℕ). first_record c.args.name.now u c.args.datime) uuid in
    let long = drafted_long name c.args.datime c.in_ok-first.first.nbytes_name c.head_of.result c.as_slice.result.now c.new-bytes.result c.write_head.new.into c.put.new.self c.put_u32.new.self
    c.in_ok-first.ensures.name head first c.new-bytes.ensures c.in_ok-write_head.ensures c.in_ok-put.ensures c.in_ok-put_u32.ensures c.requires low in
    omega (arith, long)

pub returns-clause-low : goal.returns-clause-low
returns-clause-low c =
    let name = c.args.name.now in
    let uuid = c.file_uuid-uuid.ensures in
    let low : c.args.datime < 2 ^ 32 = omega arith in
    let head = c.head_of.ensures ∙ ap (λ (u : List ℕ). new_head c.in_ok-first.first.nbytes_name u) uuid in
    let first = c.as_slice.ensures ∙ c.in_ok-first.ensures.bytes ∙ ap (λ (u : List ℕ). first_record c.args.name.now u c.args.datime) uuid in
    drafted_low name c.args.datime c.in_ok-first.first.nbytes_name c.head_of.result c.as_slice.result.now c.new-bytes.result c.write_head.new.into c.put.new.self c.put_u32.new.self
    c.in_ok-first.ensures.name head first c.new-bytes.ensures c.in_ok-write_head.ensures c.in_ok-put.ensures c.in_ok-put_u32.ensures c.requires low
