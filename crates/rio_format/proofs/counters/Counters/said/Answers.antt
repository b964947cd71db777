use Rattle.std.proofs.{Common.{rules, ◌≡◌, ℤ, Some, None, SFits, w32, to_z, of_z, sym, ap, ◌∙◌, take}, lemmas.Int.{to_z-of_z}, lemmas.List.{take_min}}
use Rattle.std.specs.{Map.{lookup}, Str.{bytes_eq}}
use Rattle.rio_format.specs.Counts.{last_first, number_by_name}
use Rattle.rio_format.proofs.CounterLaws.{said_behind, said_before}
use Rattle.rio_format.proofs.counters.Counters.said.Goals as goal

pub returns-in-Some : goal.returns-in-Some
returns-in-Some c =
    let met = c.self.inside.met.items in
    let behind : number_by_name c.self.inside.numbers c.args.name.now ≡ Some c.in-Some.said = search rules in
    let range : SFits w32 c.in-Some.said = search rules in
    let number : to_z w32 (of_z w32 c.in-Some.said) ≡ c.in-Some.said = simp to_z-of_z in
    ap (λ (n : ℤ). Some n) number
    ∙ sym (ap (lookup (bytes_eq c.args.name.now)) (sym c.self.view_is) ∙ said_behind met c.args.name.now c.in-Some.said (sym (c.self.invariant c.args.name.now) ∙ behind))

pub returns-in-None : goal.returns-in-None
returns-in-None c =
    let met = c.self.inside.met.items in
    let behind : number_by_name c.self.inside.numbers c.args.name.now ≡ None = search rules in
    let few : c.last_said.result ≡ lookup (bytes_eq c.args.name.now) (last_first (take 4 met)) = search (rules, take_min) in
    few ∙ sym (ap (lookup (bytes_eq c.args.name.now)) (sym c.self.view_is) ∙ said_before met c.args.name.now (sym (c.self.invariant c.args.name.now) ∙ behind))
