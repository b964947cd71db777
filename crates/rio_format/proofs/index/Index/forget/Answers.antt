use Rattle.std.proofs.Common.{◌∙◌}
use Rattle.rio_format.specs.Index.{name_place, number_place, sum_of, version_of}
use Rattle.rio_format.proofs.{ForgetLaws.{names_back, numbers_back}, LeadLaws.{name_is_found}}
use Rattle.rio_format.proofs.index.Index.forget.Goals as goal

pub forget-requires-clause-first : goal.forget-requires-clause-first
forget-requires-clause-first c =
    let lead = names_back c.args.classes.now c.args.class.now (name_place c.args.self.now.names) c.requires.names_lead in
    rw (← c.as_slice.ensures) (c.first_at-first.ensures ∙ name_is_found c.args.classes.now (name_place c.args.self.now.names) c.as_slice.result.now lead)

pub forget_newest-requires-clause-first : goal.forget_newest-requires-clause-first
forget_newest-requires-clause-first c =
    let lead = names_back c.args.classes.now c.args.class.now (name_place c.args.self.now.names) c.requires.names_lead in
    rw (← c.as_slice.ensures) (c.first_at-first.ensures ∙ name_is_found c.args.classes.now (name_place c.args.self.now.names) c.as_slice.result.now lead)

pub returns : goal.returns
returns c = record {
  names_lead = names_back c.args.classes.now c.args.class.now (name_place c.args.self.now.names) c.requires.names_lead;
  versions_lead = numbers_back version_of c.args.classes.now c.args.class.now (number_place c.args.self.now.versions) c.requires.versions_lead;
  sums_lead = numbers_back sum_of c.args.classes.now c.args.class.now (number_place c.args.self.now.sums) c.requires.sums_lead;
  newest_lead = c.forget_newest.ensures.leads;
  one_each = c.forget_newest.ensures.shorter;
  chained = c.forget.ensures;
}
