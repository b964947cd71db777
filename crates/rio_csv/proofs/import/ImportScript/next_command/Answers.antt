use Rattle.std.proofs.Common.{◌≡◌, ◌∙◌, Some, None, sym, ap}
use Rattle.rio_csv.proofs.ImportLaws.{fill_taken, none_taken}
use Rattle.rio_csv.specs.{Import.{commands_left}, Unread.{TakesFirst}}
use Rattle.rio_csv.specs.declared.import.NextCommand.{NextCommand, TheVariants.{Row as RowNext}}
use Rattle.rio_csv.proofs.import.ImportScript.next_command.Goals as goal

pub returns-in-None-clause-command : goal.returns-in-None-clause-command
returns-in-None-clause-command c =
    let i = c.self.inside in
    let took : TakesFirst i.rows None c.next_row.new.self = rw c.in-None.is at c.in_ok-next_row-in-Row.ensures.row in
    let t = none_taken i.name.now i.branches.now i.every i.since i.rows c.next_row.new.self took in
    let old : c.args.self.now ≡ commands_left RowNext i.name.now i.branches.now i.every i.since i.rows =
    sym c.self.view_is ∙ ap (λ (n : NextCommand). commands_left n i.name.now i.branches.now i.every i.since i.rows) c.in-Row.is in
    (old ∙ t.0, t.1)

pub returns-in_ok-command-in-Some-clause-command : goal.returns-in_ok-command-in-Some-clause-command
returns-in_ok-command-in-Some-clause-command c =
    let i = c.self.inside in
    let after = c.after_row-since in
    let took : TakesFirst i.rows (Some c.in-Some.row) c.next_row.new.self = rw c.in-Some.is at c.in_ok-next_row-in-Row.ensures.row in
    let t = fill_taken i.name.now i.branches.now i.every i.since i.rows c.next_row.new.self c.in-Some.row after.result.1 after.result.0 took after.ensures.next after.ensures.rows in
    let old : c.args.self.now ≡ commands_left RowNext i.name.now i.branches.now i.every i.since i.rows =
    sym c.self.view_is ∙ ap (λ (n : NextCommand). commands_left n i.name.now i.branches.now i.every i.since i.rows) c.in-Row.is in
    rw c.in_ok-command-in-Some.ensures (t.0, old ∙ t.1, t.2)
