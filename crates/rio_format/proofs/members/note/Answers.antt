use Rattle.std.proofs.Common.{◌≡◌, ℕ, List, Bool, true, ◌||◌, sym, ap, ◌∙◌, Bor}
use Rattle.std.specs.{List.{list_any}, Str.{bytes_eq}}
use Rattle.rio_format.specs.Members.{is_counter}
use Rattle.rio_format.proofs.NameLaws.{is_new_or}
use Rattle.rio_format.proofs.members.note.Goals as goal

pub returns-in_ok-insert : goal.returns-in_ok-insert
returns-in_ok-insert c = λ names holds name.
    let query : Bor (List ℕ) = record { ref_ptr = (0, 0); now = name } in
    let counts : is_counter c.args.member.now.kind ≡ true = sym c.is_counter.ensures ∙ c.if-is_counter.true in
    rw counts (c.in_ok-insert.ensures.updates.0 query
    ∙ is_new_or name c.as_slice.result.now _
    ∙ ap (λ (b : Bool). bytes_eq name c.as_slice.result.now || b) (holds name)
    ∙ ap (λ (new : List ℕ). bytes_eq name new || list_any (bytes_eq name) names) c.as_slice.ensures)
