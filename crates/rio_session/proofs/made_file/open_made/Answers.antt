use Rattle.std.proofs.{Common.{map, refl, sym, ap, subst, ◌∙◌}, lemmas.{Result.{err_from_is_err_and}, Simd.{map-map}}}
use Rattle.rio_host.specs.Host.{Rose}
use Rattle.rio_host.proofs.ReadsLaws.{reads_join, reads_one}
use Rattle.std.specs.List.{All}
use Rattle.rio_fill.specs.Heads.{CanBeFilled}
use Rattle.rio_recover.specs.declared.trees.TreeAt.{TreeAt}
use Rattle.rio_session.proofs.{FilledMade.{HasFewBaskets, few_baskets}, HeadNumbers.{all_can}}
use Rattle.rio_session.proofs.OpenAnswers.{reads_quiet, reads_told, reads_unclosed, spares_none, tells_why}
use Rattle.rio_recover.specs.declared.fault.RecoverFault.TheVariants.{NoMemory as NoRoomToRead}
use Rattle.rio_session.proofs.OpenMoments.{reads_time, then_time}
use Rattle.rio_session.specs.SessionState.{filled_tree_of, kept_tree_of}
use Rattle.rio_session.proofs.made_file.open_made.Goals as goal

pub returns-in_err-opened-clause-unclosed : goal.returns-in_err-opened-clause-unclosed
returns-in_err-opened-clause-unclosed g c file quiet holds =
    reads_unclosed file (g.H.Host.view c.args.host.now) (g.H.Host.view c.length.new.self) (g.met.H.Host.lawful c.length.new.self) quiet holds
    (reads_one c.length.ensures.disk c.length.ensures.holds c.length.ensures.reads)

pub returns-in_err-recovered-clause-unclosed : goal.returns-in_err-recovered-clause-unclosed
returns-in_err-recovered-clause-unclosed g c file quiet holds =
    let law = g.met.H.Host.lawful in
    let calls = reads_join (law c.length.new.self) (reads_one c.length.ensures.disk c.length.ensures.holds c.length.ensures.reads) c.recover.ensures.calls in
    reads_unclosed file (g.H.Host.view c.args.host.now) (g.H.Host.view c.recover.new.host) (law c.recover.new.host) quiet holds calls

pub returns-in_err-recovered-clause-why_not : goal.returns-in_err-recovered-clause-why_not
returns-in_err-recovered-clause-why_not g c file holds =
    let p = err_from_is_err_and c.from_residual-in_err-recovered.result c.from_residual-in_err-recovered.ensures.1 in
    tells_why file _ p.0 c.in_err-recovered.field-0.0 p.1 p.2 (c.in_err-recovered.ensures.answer file (c.length.ensures.holds ∙ holds))

pub returns-in_err-trees-clause-any_moment : goal.returns-in_err-trees-clause-any_moment
returns-in_err-trees-clause-any_moment g c file text m quiet holds said reads =
    let law = g.met.H.Host.lawful in
    let calls = reads_join (law c.length.new.self) (reads_one c.length.ensures.disk c.length.ensures.holds c.length.ensures.reads) c.recover.ensures.calls in
    reads_time file text m (g.H.Host.view c.args.host.now) (law c.args.host.now) quiet holds said reads (g.H.Host.view c.recover.new.host) calls

pub returns-in_err-trees-clause-unclosed : goal.returns-in_err-trees-clause-unclosed
returns-in_err-trees-clause-unclosed g c file quiet holds =
    let law = g.met.H.Host.lawful in
    let calls = reads_join (law c.length.new.self) (reads_one c.length.ensures.disk c.length.ensures.holds c.length.ensures.reads) c.recover.ensures.calls in
    reads_unclosed file (g.H.Host.view c.args.host.now) (g.H.Host.view c.recover.new.host) (law c.recover.new.host) quiet holds calls

pub returns-in_err-trees-clause-why_not : goal.returns-in_err-trees-clause-why_not
returns-in_err-trees-clause-why_not g c file holds =
    let p = err_from_is_err_and c.from_residual-in_err-trees.result c.from_residual-in_err-trees.ensures.1 in
    tells_why file _ p.0 NoRoomToRead p.1 p.2 tt

pub returns-in_err-trees-clause-spared : goal.returns-in_err-trees-clause-spared
returns-in_err-trees-clause-spared g c file holds =
    let is = c.in_ok-recovered.ensures.answer file (c.length.ensures.holds ∙ holds) in
    spares_none file _ _ is.1 is.2

pub returns-in_err-trees-clause-untouched : goal.returns-in_err-trees-clause-untouched
returns-in_err-trees-clause-untouched g c e =
    reads_join (g.met.H.Host.lawful c.length.new.self) (reads_one c.length.ensures.disk c.length.ensures.holds c.length.ensures.reads) c.recover.ensures.calls

pub returns-in_err-filled-clause-any_moment : goal.returns-in_err-filled-clause-any_moment
returns-in_err-filled-clause-any_moment g c file text m quiet holds said reads =
    let law = g.met.H.Host.lawful in
    let calls = reads_join (law c.length.new.self) (reads_one c.length.ensures.disk c.length.ensures.holds c.length.ensures.reads) c.recover.ensures.calls in
    reads_time file text m (g.H.Host.view c.args.host.now) (law c.args.host.now) quiet holds said reads (g.H.Host.view c.recover.new.host) calls

pub returns-in_err-filled-clause-unclosed : goal.returns-in_err-filled-clause-unclosed
returns-in_err-filled-clause-unclosed g c file quiet holds =
    let law = g.met.H.Host.lawful in
    let calls = reads_join (law c.length.new.self) (reads_one c.length.ensures.disk c.length.ensures.holds c.length.ensures.reads) c.recover.ensures.calls in
    reads_unclosed file (g.H.Host.view c.args.host.now) (g.H.Host.view c.recover.new.host) (law c.recover.new.host) quiet holds calls

pub returns-in_err-filled-clause-told : goal.returns-in_err-filled-clause-told
returns-in_err-filled-clause-told g c =
    let calls = reads_join (g.met.H.Host.lawful c.length.new.self) (reads_one c.length.ensures.disk c.length.ensures.holds c.length.ensures.reads) c.recover.ensures.calls in
    reads_told (g.H.Host.view c.args.host.now) (g.H.Host.view c.recover.new.host) calls

pub returns-in_err-filled-clause-why_not : goal.returns-in_err-filled-clause-why_not
returns-in_err-filled-clause-why_not g c file holds =
    let p = err_from_is_err_and c.from_residual-in_err-filled.result c.from_residual-in_err-filled.ensures.1 in
    tells_why file _ p.0 NoRoomToRead p.1 p.2 tt

pub returns-in_err-filled-clause-spared : goal.returns-in_err-filled-clause-spared
returns-in_err-filled-clause-spared g c file holds =
    let is = c.in_ok-recovered.ensures.answer file (c.length.ensures.holds ∙ holds) in
    spares_none file _ _ is.1 is.2

pub returns-in_err-filled-clause-untouched : goal.returns-in_err-filled-clause-untouched
returns-in_err-filled-clause-untouched g c e =
    reads_join (g.met.H.Host.lawful c.length.new.self) (reads_one c.length.ensures.disk c.length.ensures.holds c.length.ensures.reads) c.recover.ensures.calls

pub begin-requires-clause-recovered : goal.begin-requires-clause-recovered
begin-requires-clause-recovered g c file holds = (c.in_ok-recovered.ensures.answer file (sym c.recover.ensures.calls.holds ∙ holds)).0

pub returns-in_err-begin-clause-any_moment : goal.returns-in_err-begin-clause-any_moment
returns-in_err-begin-clause-any_moment g c file text m quiet holds said reads =
    let law = g.met.H.Host.lawful in
    let calls = reads_join (law c.length.new.self) (reads_one c.length.ensures.disk c.length.ensures.holds c.length.ensures.reads) c.recover.ensures.calls in
    then_time file text m (g.H.Host.view c.args.host.now) (law c.args.host.now) quiet holds said reads _ _ calls
    (c.begin.ensures.any_moment file text m (reads_quiet (g.H.Host.view c.args.host.now) (g.H.Host.view c.recover.new.host) (law c.recover.new.host) quiet calls) (calls.holds ∙ holds) (calls.said ∙ said) reads)

pub returns-in_err-begin-clause-unclosed : goal.returns-in_err-begin-clause-unclosed
returns-in_err-begin-clause-unclosed g c file quiet holds =
    let law = g.met.H.Host.lawful in
    let calls = reads_join (law c.length.new.self) (reads_one c.length.ensures.disk c.length.ensures.holds c.length.ensures.reads) c.recover.ensures.calls in
    c.begin.ensures.unclosed file (reads_quiet (g.H.Host.view c.args.host.now) (g.H.Host.view c.recover.new.host) (law c.recover.new.host) quiet calls) (calls.holds ∙ holds)

pub returns-in_err-begin-clause-spared : goal.returns-in_err-begin-clause-spared
returns-in_err-begin-clause-spared g c file holds =
    let is = c.in_ok-recovered.ensures.answer file (c.length.ensures.holds ∙ holds) in
    spares_none file _ _ is.1 is.2

pub returns-clause-any_moment : goal.returns-clause-any_moment
returns-clause-any_moment g c file text m quiet holds said reads =
    let law = g.met.H.Host.lawful in
    let calls = reads_join (law c.length.new.self) (reads_one c.length.ensures.disk c.length.ensures.holds c.length.ensures.reads) c.recover.ensures.calls in
    then_time file text m (g.H.Host.view c.args.host.now) (law c.args.host.now) quiet holds said reads _ _ calls
    (c.begin.ensures.any_moment file text m (reads_quiet (g.H.Host.view c.args.host.now) (g.H.Host.view c.recover.new.host) (law c.recover.new.host) quiet calls) (calls.holds ∙ holds) (calls.said ∙ said) reads)

pub returns-clause-unclosed : goal.returns-clause-unclosed
returns-clause-unclosed g c file quiet holds =
    let law = g.met.H.Host.lawful in
    let calls = reads_join (law c.length.new.self) (reads_one c.length.ensures.disk c.length.ensures.holds c.length.ensures.reads) c.recover.ensures.calls in
    c.begin.ensures.unclosed file (reads_quiet (g.H.Host.view c.args.host.now) (g.H.Host.view c.recover.new.host) (law c.recover.new.host) quiet calls) (calls.holds ∙ holds)

pub returns-clause-spared : goal.returns-clause-spared
returns-clause-spared g c file holds =
    let is = c.in_ok-recovered.ensures.answer file (c.length.ensures.holds ∙ holds) in
    spares_none file _ _ is.1 is.2

pub returns-in_err-begin-clause-cause : goal.returns-in_err-begin-clause-cause
returns-in_err-begin-clause-cause g c =
    let p = err_from_is_err_and c.from_residual-in_err-begin.result c.from_residual-in_err-begin.ensures.1 in
    let calls = reads_join (g.met.H.Host.lawful c.length.new.self) (reads_one c.length.ensures.disk c.length.ensures.holds c.length.ensures.reads) c.recover.ensures.calls in
    let counted = c.in_ok-recovered.ensures.cause ∙ c.in_ok-opened.ensures.counted refl in
    rw (p.1, p.2) (subst (λ n. Rose n (g.H.Host.view c.begin.new.host).disk_faults) counted (c.in_err-begin.ensures.cause.rose refl), c.begin.ensures.writes.say_faults ∙ calls.say_faults)

pub filled_trees-requires-clause-fillable : goal.filled_trees-requires-clause-fillable
filled_trees-requires-clause-fillable g c =
    let recovered = c.in_ok-recovered.recovered in
    subst (All (λ t. CanBeFilled t.head)) (sym c.as_slice-2.ensures.all) (all_can recovered.trees c.in_ok-recovered.ensures.whole.heads_are)

pub filled_trees-requires-clause-few : goal.filled_trees-requires-clause-few
filled_trees-requires-clause-few g c =
    let recovered = c.in_ok-recovered.recovered in
    subst (All HasFewBaskets) (sym c.as_slice-2.ensures.all) (few_baskets recovered c.in_ok-recovered.ensures.room)

pub begin-requires-clause-trees : goal.begin-requires-clause-trees
begin-requires-clause-trees g c =
    let trees = c.in_ok-recovered.recovered.trees in
    c.in_ok-trees.ensures ∙ ap (map (λ (t : TreeAt). kept_tree_of (filled_tree_of t))) c.as_slice.ensures.all ∙ sym (map-map kept_tree_of filled_tree_of trees) ∙ ap (map kept_tree_of) (sym (c.in_ok-filled.ensures ∙ ap (map filled_tree_of) c.as_slice-2.ensures.all))
