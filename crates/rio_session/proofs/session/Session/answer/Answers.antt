use Rattle.std.proofs.{Common.{◌≡◌, ◌∙◌, ◌==◌, ℕ, List, length, true, false, sym, ap}, lemmas.{Bool.{eqb-true}, List.{nil_from_length}}}
use Rattle.rio_session.proofs.OnlyReplies.{empty_said}
use Rattle.rio_session.proofs.session.Session.answer.Goals as goal

pub returns-then-is_empty-clause-says : goal.returns-then-is_empty-clause-says
returns-then-is_empty-clause-says g c =
    let text = c.args.text.now in
    let empty = nil_from_length text (eqb-true (length text) 0 (sym c.is_empty.ensures ∙ c.if-is_empty.true)) in
    empty_said text c.args.cost (g.H.Host.view c.args.host.now) c.args.self.now c.count.new.self empty c.count.ensures

pub print_text-requires : goal.print_text-requires
print_text-requires g c = record {
  some = λ empty.
      let never : true ≡ false = sym (ap (λ (l : List ℕ). length l == 0) empty) ∙ sym c.is_empty.ensures ∙ c.if-is_empty.false in
      absurd cc;
}
