use Rattle.std.proofs.{Common.{ℕ, Option, sym, ap, ◌∙◌, rules}, lemmas.Int.{to_z-of_z}}
use Rattle.std.specs.{Int.{w128}, Prelude.{unwrap_or}, Option.{option_map}}
use Rattle.rio_entry.proofs.Counting.{counted_is, number_there}
use Rattle.rio_entry.proofs.leaf.said_count.Goals as goal

pub returns-in-Some : goal.returns-in-Some
returns-in-Some c = λ dim leaves len is.
    to_z-of_z w128 c.given_count.result (search rules)
    ∙ c.given_count.ensures
    ∙ ap (λ (o : Option ℕ). unwrap_or (option_map (number_there c.args.values.now) o) c.args.given) (sym c.in-Some.is ∙ is)
    ∙ counted_is c.args.values.now dim leaves c.args.given len

pub returns-in-None : goal.returns-in-None
returns-in-None c = λ dim leaves len is.
    to_z-of_z w128 c.args.given (search rules)
    ∙ ap (λ (o : Option ℕ). unwrap_or (option_map (number_there c.args.values.now) o) c.args.given) (sym c.in-None.is ∙ is)
    ∙ counted_is c.args.values.now dim leaves c.args.given len
