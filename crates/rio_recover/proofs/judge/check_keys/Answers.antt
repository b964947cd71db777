use Rattle.std.proofs.{Common.{◌≡◌, ◌∙◌, ◌++◌, ◌∷◌, [], List, length, sym, ap, subst, arith}, lemmas.List.{length-map, take_all}, lemmas.Result.{err_from_is_err_and}}
use Rattle.std.specs.List.{filter}
use Rattle.rio_key.specs.declared.head.KeyHead.{KeyHead}
use Rattle.rio_state.specs.KeyedRecords.{is_top_key}
use Rattle.rio_host.proofs.ReadsLaws.{reads_join}
use Rattle.rio_recover.specs.Checks.{HasChecked, IsChecking, beside_of}
use Rattle.rio_recover.proofs.{Checking.{all_checked}, KeyLoop.{keys_begin, keys_moved, keys_pass, keys_refuse, keys_skip}}
use Rattle.rio_recover.proofs.judge.check_keys.Goals.{then-is_top_key+in_ok-check_key, else-is_top_key}
use Rattle.rio_recover.proofs.judge.check_keys.Goals as goal

pub loop-head-init : goal.loop-head-init
loop-head-init g c =
    keys_begin (g.H.Host.view c.args.host.now) c.args.keys.now.classes.now c.args.keys.now.heads.now c.in_ok-check.check (record {
      names = c.in_ok-check.ensures.names;
      items = c.in_ok-check.ensures.items;
      outdated = c.in_ok-check.ensures.outdated;
      trees = c.in_ok-check.ensures.trees;
      named = c.in_ok-check.ensures.named;
    })

pub returns-in_err-check_key-clause-told : goal.returns-in_err-check_key-clause-told
returns-in_err-check_key-clause-told g c file records told beside =
    let p = err_from_is_err_and c.from_residual-in_err-check_key.result c.from_residual-in_err-check_key.ensures.1 in
    rw (p.1, p.2)
    (keys_refuse (g.H.Host.view c.args.host.now) (g.H.Host.view c.loop-head.host) c.args.keys.now.classes.now c.args.keys.now.heads.now c.requires.rising c.loop-head.head-index c.loop-head.check c.loop-head.invariant c.head-item.result
    c.loop-head-test.true c.head-item.is c.in_err-check_key.field-0.0 _ (λ beside before r x. IsChecking beside (before ++ r ∷ []) c.check_key.new.check) (sym c.is_top_key.ensures ∙ c.if-is_top_key.true)
    (λ f b before r holds is next same checking. c.in_err-check_key.ensures.told f b before r holds is next same checking)
    file records told beside)

pub loop-head-preserved : goal.loop-head-preserved
loop-head-preserved g c =
    let start = g.H.Host.view c.args.host.now in
    let now = g.H.Host.view c.loop-head.host in
    let classes = c.args.keys.now.classes.now in
    let heads = c.args.keys.now.heads.now in
    let k = c.loop-head.head-index in
    let inv = c.loop-head.invariant in
    elim c.if-is_top_key.branch [
      | then-is_top_key+in_ok-check_key w ↦
          keys_moved start classes heads k (ap g.H.Host.view w.host-is) w.check-is
          (keys_pass start now classes heads c.requires.rising k c.loop-head.check inv c.head-item.result c.loop-head-test.true c.head-item.is (g.H.Host.view w.check_key.new.host) w.check_key.new.check
          (sym c.is_top_key.ensures ∙ w.if-is_top_key.true) (reads_join (g.met.H.Host.lawful c.loop-head.host) inv.calls w.check_key.ensures.calls) (w.in_ok-check_key.ensures.cause ∙ inv.calm)
          w.in_ok-check_key.ensures.checked
          (λ f b before r holds is next same checking. w.in_ok-check_key.ensures.told f b before r holds is next same checking))
      | else-is_top_key w ↦
          keys_moved start classes heads k (ap g.H.Host.view w.host-is) w.check-is
          (keys_skip start now classes heads c.requires.rising k c.loop-head.check inv c.head-item.result c.loop-head-test.true c.head-item.is (sym c.is_top_key.ensures ∙ w.if-is_top_key.false))
    ]

pub returns-clause-told : goal.returns-clause-told
returns-clause-told g c file records told beside =
    let long : length c.args.keys.now.heads.now ≡ length records = ap length beside.heads_are ∙ length-map records (λ r. r.head) in
    all_checked (beside_of c.args.keys.now.classes.now records) records c.loop-head.head-index c.loop-head.check (omega (arith, long, c.loop-head-test.false)) (c.loop-head.invariant.told file records told beside)

pub returns-clause-checked : goal.returns-clause-checked
returns-clause-checked g c =
    subst (λ (hs : List KeyHead). HasChecked c.args.keys.now.heads.now (filter is_top_key hs) c.loop-head.check) (take_all c.loop-head.head-index c.args.keys.now.heads.now c.loop-head-test.false) c.loop-head.invariant.checked
