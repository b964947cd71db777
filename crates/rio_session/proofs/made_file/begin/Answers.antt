use Rattle.std.proofs.Common.{◌∙◌, ℕ, List, map, Option, refl, sym, ap, subst}
use Rattle.rio_format.specs.declared.class.ClassDef.{ClassDef}
use Rattle.rio_key.specs.declared.head.KeyHead.{KeyHead}
use Rattle.rio_model.specs.StateClasses.{StateClasses}
use Rattle.rio_recover.specs.{Classes.{HasListCycle}, Closable.{IsClosable}, Trees.{places_of}, declared.trees.TreeAt.{TreeAt}}
use Rattle.rio_session.specs.{Due.{IsClosableWith, due_of}, Fills.{FilledTree, bare_tree, places_of_trees}}
use Rattle.rio_dir.specs.Table.{TableRoom}
use Rattle.rio_state.specs.KeyedRecords.{keyed_records}
use Rattle.rio_session.proofs.{FillableMade.{fillable_made}, FilledMade.{few_baskets}, HeadNumbers.{all_can, all_few}, HeadersRead.{open_heads}, HeaderOfFill.{bare_begun, none_due, places_begun}, OpenMade.{begins_made, holds_marked, marked_chain, records_of, size_low, stands_made, with_begun, within_header}}
use Rattle.rio_session.proofs.OpenMadeMoments.{cleaned_unclosed, cleaning_time, marked_unclosed, marking_time}
use Rattle.rio_session.proofs.made_file.begin.Goals as goal

pub mark_open-requires : goal.mark_open-requires
mark_open-requires g c = record { within = within_header (g.H.Host.view c.args.host.now) c.args.recovered c.requires.recovered }

pub returns-in_err-mark_open-clause-any_moment : goal.returns-in_err-mark_open-clause-any_moment
returns-in_err-mark_open-clause-any_moment g c file text m quiet holds told reads =
    marking_time file c.args.recovered (c.requires.made file holds) (c.requires.recovered file holds) _ quiet holds text m told reads _ (c.mark_open.ensures.any_moment file holds)

pub returns-in_err-mark_open-clause-unclosed : goal.returns-in_err-mark_open-clause-unclosed
returns-in_err-mark_open-clause-unclosed g c file quiet holds =
    marked_unclosed file c.args.recovered (c.requires.made file holds) (c.requires.recovered file holds) _ quiet holds (g.H.Host.view c.mark_open.new.host) (g.met.H.Host.lawful c.mark_open.new.host)
    (c.mark_open.ensures.any_moment file holds)

pub clean-requires-clause-holds : goal.clean-requires-clause-holds
clean-requires-clause-holds g c =
    holds_marked (g.H.Host.view c.args.host.now) (g.H.Host.view c.mark_open.new.host) c.args.recovered c.requires.made c.requires.recovered c.mark_open.ensures.writes.told c.in_ok-mark_open.ensures.marked

pub returns-in_err-clean-clause-any_moment : goal.returns-in_err-clean-clause-any_moment
returns-in_err-clean-clause-any_moment g c file text m quiet holds told reads =
    let made = c.requires.made file holds in
    let rec = c.requires.recovered file holds in
    let marked = c.in_ok-mark_open.ensures.marked file holds in
    cleaning_time file c.args.recovered made rec _ quiet holds marked.0 marked.2 text m told reads _ _ c.mark_open.ensures.writes.said (c.mark_open.ensures.any_moment file holds)
    (c.clean.ensures.any_moment marked.0 rec.links m marked.1 (marked_chain file c.args.recovered made rec marked.0 marked.2) rec.garbage (records_of file c.args.recovered made rec m reads))

pub returns-in_err-clean-clause-unclosed : goal.returns-in_err-clean-clause-unclosed
returns-in_err-clean-clause-unclosed g c file quiet holds =
    let made = c.requires.made file holds in
    let rec = c.requires.recovered file holds in
    let marked = c.in_ok-mark_open.ensures.marked file holds in
    cleaned_unclosed file c.args.recovered made rec (g.H.Host.view c.args.host.now) quiet holds marked.0 marked.2 (g.H.Host.view c.mark_open.new.host) (g.H.Host.view c.clean.new.host) (g.met.H.Host.lawful c.clean.new.host)
    c.in_ok-mark_open.ensures.quiet marked.1
    (c.clean.ensures.any_moment marked.0 rec.links rec.m marked.1 (marked_chain file c.args.recovered made rec marked.0 marked.2) rec.garbage (records_of file c.args.recovered made rec rec.m rec.reads))

pub returns-clause-any_moment : goal.returns-clause-any_moment
returns-clause-any_moment g c file text m quiet holds told reads =
    let made = c.requires.made file holds in
    let rec = c.requires.recovered file holds in
    let marked = c.in_ok-mark_open.ensures.marked file holds in
    cleaning_time file c.args.recovered made rec _ quiet holds marked.0 marked.2 text m told reads _ _ c.mark_open.ensures.writes.said (c.mark_open.ensures.any_moment file holds)
    (c.clean.ensures.any_moment marked.0 rec.links m marked.1 (marked_chain file c.args.recovered made rec marked.0 marked.2) rec.garbage (records_of file c.args.recovered made rec m reads))

pub returns-clause-unclosed : goal.returns-clause-unclosed
returns-clause-unclosed g c file quiet holds =
    let made = c.requires.made file holds in
    let rec = c.requires.recovered file holds in
    let marked = c.in_ok-mark_open.ensures.marked file holds in
    cleaned_unclosed file c.args.recovered made rec (g.H.Host.view c.args.host.now) quiet holds marked.0 marked.2 (g.H.Host.view c.mark_open.new.host) (g.H.Host.view c.clean.new.host) (g.met.H.Host.lawful c.clean.new.host)
    c.in_ok-mark_open.ensures.quiet marked.1
    (c.clean.ensures.any_moment marked.0 rec.links rec.m marked.1 (marked_chain file c.args.recovered made rec marked.0 marked.2) rec.garbage (records_of file c.args.recovered made rec rec.m rec.reads))

pub heads_length-heads_bytes-requires : goal.heads_length-heads_bytes-requires
heads_length-heads_bytes-requires g c =
    let after = c.clean.new.recovered in
    size_low after.chain.segments after.table.heads after.info (places_of after.trees) after.name c.in_ok-clean.ensures.kept.closable

pub returns-clause-stands : goal.returns-clause-stands
returns-clause-stands g c file text m holds told reads =
    let made = c.requires.made file holds in
    let rec = c.requires.recovered file holds in
    let marked = c.in_ok-mark_open.ensures.marked file holds in
    let clean = c.in_ok-clean.ensures.cleaned marked.0 rec.links marked.1 (marked_chain file c.args.recovered made rec marked.0 marked.2) rec.garbage in
    let kept = c.in_ok-clean.ensures.kept in
    stands_made file c.args.recovered made rec marked.0 marked.2 (g.H.Host.view c.clean.new.host) c.clean.new.recovered clean _
    (record {
      segments = refl;
      classes = kept.registry;
      heads = ap (λ (t : TableRoom). t.heads) kept.table;
      trees = ap (map bare_tree) c.requires.filled ∙ bare_begun c.args.recovered.trees;
      info = kept.info;
      name = kept.name;
      nbytes_name = kept.nbytes_name;
      opened = c.requires.opened file holds;
      costs = refl;
      closable = subst (λ (places : List ℕ). IsClosable c.clean.new.recovered.chain.segments c.clean.new.recovered.table.heads c.clean.new.recovered.info places c.clean.new.recovered.name)
          (ap places_of kept.trees ∙ sym (ap (λ (ts : List FilledTree). places_of_trees (map bare_tree ts)) c.requires.filled ∙ ap places_of_trees (bare_begun c.args.recovered.trees) ∙ places_begun c.args.recovered.trees)) kept.closable;
    })
    m reads (record { fillable = fillable_made file m reads; heads = open_heads c.written_tree_is_read.ensures (keyed_records rec.links) c.args.recovered.trees rec.trees c.requires.whole.heads_are (few_baskets c.args.recovered c.requires.room) }) text (c.clean.ensures.writes.said ∙ c.mark_open.ensures.writes.said ∙ told)

pub returns-clause-begins : goal.returns-clause-begins
returns-clause-begins g c name file holds =
    let made = c.requires.made file holds in
    let rec = c.requires.recovered file holds in
    let marked = c.in_ok-mark_open.ensures.marked file holds in
    let clean = c.in_ok-clean.ensures.cleaned marked.0 rec.links marked.1 (marked_chain file c.args.recovered made rec marked.0 marked.2) rec.garbage in
    let kept = c.in_ok-clean.ensures.kept in
    begins_made file c.args.recovered made rec marked.0 marked.2 (g.H.Host.view c.clean.new.host) c.clean.new.recovered clean _
    (record {
      segments = refl;
      classes = kept.registry;
      heads = ap (λ (t : TableRoom). t.heads) kept.table;
      trees = ap (map bare_tree) c.requires.filled ∙ bare_begun c.args.recovered.trees;
      info = kept.info;
      name = kept.name;
      nbytes_name = kept.nbytes_name;
      opened = c.requires.opened file holds;
      costs = refl;
      closable = subst (λ (places : List ℕ). IsClosable c.clean.new.recovered.chain.segments c.clean.new.recovered.table.heads c.clean.new.recovered.info places c.clean.new.recovered.name)
          (ap places_of kept.trees ∙ sym (ap (λ (ts : List FilledTree). places_of_trees (map bare_tree ts)) c.requires.filled ∙ ap places_of_trees (bare_begun c.args.recovered.trees) ∙ places_begun c.args.recovered.trees)) kept.closable;
    })
    name c.args.datime

pub invariant_of-result : goal.invariant_of-result
invariant_of-result g c =
    let kept = c.in_ok-clean.ensures.kept in
    let after = c.clean.new.recovered in
    let whole = c.requires.whole in
    record {
      classes = subst StateClasses (sym kept.registry) whole.classes;
      listed = subst (λ (x : Option KeyHead × List ClassDef). HasListCycle x.0 x.1) (λ i. (sym kept.info i, sym kept.registry i)) whole.listed;
      kept = λ fresh. subst (λ (ts : List FilledTree). IsClosableWith after.chain.segments after.table.heads ts after.info after.name) (sym (ap (map bare_tree) c.requires.filled ∙ bare_begun c.args.recovered.trees))
          (with_begun after.chain.segments after.table.heads c.args.recovered.trees after.info after.name c.end.ensures.shape
          (subst (λ (ts : List TreeAt). IsClosable after.chain.segments after.table.heads after.info (places_of ts) after.name) kept.trees kept.closable) (all_can c.args.recovered.trees whole.heads_are) (all_few c.args.recovered.trees whole.heads_are));
      fresh = λ fresh. kept.fresh;
      trees = c.requires.trees;
      due = λ fresh. sym (ap due_of c.requires.filled ∙ none_due c.args.recovered.trees);
      bytes = λ fresh. c.heads_length-heads_bytes.ensures;
      directory = λ fresh. kept.directory;
    }
