use Rattle.std.proofs.{Common.{◌∙◌, map, refl, sym, ap, subst}, lemmas.Result.{err_from_is_err_and}}
use Rattle.rio_model.specs.StateClasses.{StateClasses}
use Rattle.rio_chain.specs.Chains.{ChainState}
use Rattle.rio_dir.specs.Table.{TableRoom, heads_size}
use Rattle.rio_tree_table.specs.Table as trees
use Rattle.rio_session.specs.{Due.{due_of}, Fills.{FilledRoom, bare_tree}, SessionState.{kept_tree_of}}
use Rattle.rio_session.proofs.OpenAnswers.{tells_why_new, unborn_sound}
use Rattle.rio_session.proofs.OpenMoments.{first_unclosed, made_unclosed, making_time, synced_unclosed, unborn_empty}
use Rattle.rio_session.proofs.OpenNew.{begins_new, chain_new, directory_within, kept_new, stands_new}
use Rattle.rio_session.proofs.new_file.open_new.Goals as goal

pub returns-in_err-chain-clause-any_moment : goal.returns-in_err-chain-clause-any_moment
returns-in_err-chain-clause-any_moment g c file text m quiet holds said reads =
    making_time file text m _ (g.met.H.Host.lawful c.args.host.now) quiet holds said reads _ _ (c.requires.unborn file holds)
    c.sync.ensures.disk (c.create.ensures.any_moment file (c.sync.ensures.holds ∙ holds))

pub invariant_of-result : goal.invariant_of-result
invariant_of-result g c = record {
  classes = subst StateClasses (sym c.new.ensures) tt;
  listed = tt;
  kept = λ fresh. kept_new c.in_ok-chain.field-0.chain.segments c.new-2.result.heads (map bare_tree c.new-4.result.trees) c.args.name.now c.in_ok-own.own c.requires.short
      (ap (λ (s : ChainState). s.segments) c.in_ok-chain.ensures.chain) c.in_ok-chain.ensures.low (ap (λ (t : TableRoom). t.heads) c.new-2.ensures) (ap (λ (t : FilledRoom). map bare_tree t.trees) c.new-4.ensures) c.in_ok-own.ensures;
  fresh = λ fresh. ap (λ (s : ChainState). s.spent) c.in_ok-chain.ensures.chain;
  trees = ap (λ (t : trees.TableRoom). t.trees) c.new-3.ensures ∙ ap (λ (t : FilledRoom). map kept_tree_of t.trees) (sym c.new-4.ensures);
  due = λ fresh. ap (λ (t : FilledRoom). due_of t.trees) (sym c.new-4.ensures);
  bytes = λ fresh. sym (ap (λ (t : TableRoom). heads_size t.heads) c.new-2.ensures);
  directory = λ fresh. directory_within c.in_ok-chain.field-0.chain.segments c.args.name.now c.in_ok-chain.field-0.nbytes_name
      (ap (λ (s : ChainState). s.segments) c.in_ok-chain.ensures.chain) c.in_ok-chain.ensures.name;
}

pub returns-clause-any_moment : goal.returns-clause-any_moment
returns-clause-any_moment g c file text m quiet holds said reads =
    making_time file text m _ (g.met.H.Host.lawful c.args.host.now) quiet holds said reads _ _ (c.requires.unborn file holds)
    c.sync.ensures.disk (c.create.ensures.any_moment file (c.sync.ensures.holds ∙ holds))

pub returns-clause-ready : goal.returns-clause-ready
returns-clause-ready g c = record {
  quiet = c.in_ok-chain.ensures.quiet;
  chain = chain_new (g.H.Host.view c.sync.new.self) (g.H.Host.view c.create.new.host) c.args.name.now c.args.datime c.in_ok-chain.field-0.chain.segments c.create.ensures.writes.told
      c.in_ok-chain.ensures.made (ap (λ (s : ChainState). s.segments) c.in_ok-chain.ensures.chain);
}

pub returns-clause-stands : goal.returns-clause-stands
returns-clause-stands g c file text m holds said reads =
    stands_new (g.H.Host.view c.create.new.host) _ c.args.name.now c.args.datime m text
    (unborn_empty file m (c.requires.unborn file holds) reads)
    (record {
      segments = ap (λ (s : ChainState). s.segments) c.in_ok-chain.ensures.chain;
      classes = c.new.ensures;
      heads = ap (λ (t : TableRoom). t.heads) c.new-2.ensures;
      trees = ap (λ (t : FilledRoom). map bare_tree t.trees) c.new-4.ensures;
      info = refl;
      name_is = c.in_ok-own.ensures;
      nbytes_name = c.in_ok-chain.ensures.name;
      opened = refl;
      costs = refl;
    })
    (c.create.ensures.writes.said ∙ c.sync.ensures.disk.said ∙ said)
    (c.in_ok-chain.ensures.made file (c.sync.ensures.holds ∙ holds))

pub returns-clause-begins : goal.returns-clause-begins
returns-clause-begins g c file holds =
    begins_new (g.H.Host.view c.create.new.host) _ c.args.name.now c.args.datime file (c.requires.unborn file holds)
    (record {
      segments = ap (λ (s : ChainState). s.segments) c.in_ok-chain.ensures.chain;
      classes = c.new.ensures;
      heads = ap (λ (t : TableRoom). t.heads) c.new-2.ensures;
      trees = ap (λ (t : FilledRoom). map bare_tree t.trees) c.new-4.ensures;
      info = refl;
      name_is = c.in_ok-own.ensures;
      nbytes_name = c.in_ok-chain.ensures.name;
      opened = refl;
      costs = refl;
    })
    (c.in_ok-chain.ensures.made file (c.sync.ensures.holds ∙ holds))

pub returns-in_err-own-clause-unclosed : goal.returns-in_err-own-clause-unclosed
returns-in_err-own-clause-unclosed g c file quiet holds =
    first_unclosed file (g.H.Host.view c.args.host.now) quiet holds (c.requires.unborn file holds)

pub returns-in_err-sync-clause-unclosed : goal.returns-in_err-sync-clause-unclosed
returns-in_err-sync-clause-unclosed g c file quiet holds =
    synced_unclosed file (g.H.Host.view c.args.host.now) quiet holds (c.requires.unborn file holds) (g.H.Host.view c.sync.new.self) (g.met.H.Host.lawful c.sync.new.self) c.sync.ensures.disk

pub returns-in_err-chain-clause-unclosed : goal.returns-in_err-chain-clause-unclosed
returns-in_err-chain-clause-unclosed g c file quiet holds =
    let law = g.met.H.Host.lawful in
    made_unclosed file (g.H.Host.view c.args.host.now) quiet holds (c.requires.unborn file holds) (g.H.Host.view c.sync.new.self) (g.H.Host.view c.create.new.host)
    (law c.sync.new.self) (law c.create.new.host) c.sync.ensures.disk (c.create.ensures.any_moment file (c.sync.ensures.holds ∙ holds))

pub returns-clause-unclosed : goal.returns-clause-unclosed
returns-clause-unclosed g c file quiet holds =
    let law = g.met.H.Host.lawful in
    made_unclosed file (g.H.Host.view c.args.host.now) quiet holds (c.requires.unborn file holds) (g.H.Host.view c.sync.new.self) (g.H.Host.view c.create.new.host)
    (law c.sync.new.self) (law c.create.new.host) c.sync.ensures.disk (c.create.ensures.any_moment file (c.sync.ensures.holds ∙ holds))

pub returns-clause-made : goal.returns-clause-made
returns-clause-made g c file holds = c.in_ok-chain.ensures.made file (c.sync.ensures.holds ∙ holds)

pub returns-in_err-chain-clause-why_not : goal.returns-in_err-chain-clause-why_not
returns-in_err-chain-clause-why_not g c file holds =
    let p = err_from_is_err_and c.from_residual-in_err-chain.result c.from_residual-in_err-chain.ensures.1 in
    tells_why_new file _ p.0 c.in_err-chain.field-0.0 p.1 p.2

pub returns-clause-why_not : goal.returns-clause-why_not
returns-clause-why_not g c file holds = unborn_sound file (c.requires.unborn file holds)
