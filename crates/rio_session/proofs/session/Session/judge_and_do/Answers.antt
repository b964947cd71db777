use Rattle.std.proofs.Common.{◌∙◌, ap, subst, sym}
use Rattle.rio_judge.specs.declared.work.JudgedWithTrees.TheVariants.{Refused}
use Rattle.rio_session.specs.{Sound.{IsSoundState}, Session.{SessionState}, SessionState.{kept_trees}}
use Rattle.rio_session.proofs.{Bare.{all_kept}, CommandDoes.{refused_does}, Judgements.{judged_now, to_do}, PutCalls.{can_do, reads_nothing}}
use Rattle.rio_session.proofs.session.Session.judge_and_do.Goals as goal

pub returns-in-Refused-clause-does : goal.returns-in-Refused-clause-does
returns-in-Refused-clause-does g c =
    let s = c.args.self.now in
    let classes = ap (λ (x : SessionState). x.classes) c.self.view_is in
    let heads = ap (λ (x : SessionState). x.heads) c.self.view_is in
    let trees = c.self.invariant.trees ∙ sym (all_kept c.self.inside.filled.trees) ∙ ap kept_trees c.self.view_is in
    let judged = judged_now s c.args.command.now c.self.inside.registry c.self.inside.table.heads c.self.inside.trees.trees classes heads trees c.in_ok-refusal.field-0 (Refused c.in-Refused.refusal) c.in-Refused.is c.in_ok-refusal.ensures.judged in
    refused_does c.args.replies (g.H.Host.view c.args.host.now) (g.H.Host.view c.refuse.new.host) s c.refuse.new.self (g.met.H.Host.lawful c.args.host.now) (g.met.H.Host.lawful c.refuse.new.host) c.requires.ready c.requires.fresh c.refuse.result
    c.args.command.now c.in-Refused.refusal judged c.refuse.ensures.says c.refuse.ensures.outcome

pub work-requires-clause-can : goal.work-requires-clause-can
work-requires-clause-can g c =
    let s = c.args.self.now in
    let classes = ap (λ (x : SessionState). x.classes) c.self.view_is in
    let heads = ap (λ (x : SessionState). x.heads) c.self.view_is in
    let trees = c.self.invariant.trees ∙ sym (all_kept c.self.inside.filled.trees) ∙ ap kept_trees c.self.view_is in
    let todo = to_do s c.args.command.now c.self.inside.registry c.self.inside.table.heads c.self.inside.trees.trees classes heads trees c.in_ok-refusal.field-0 c.in-Accepted.work c.in-Accepted.is c.requires.statable
    c.in_ok-refusal.ensures.judged c.in_ok-refusal.ensures.sound in
    let sound : IsSoundState c.args.self.now = subst IsSoundState c.self.view_is (record { classes = c.self.invariant.classes; kept = c.self.invariant.kept }) in
    can_do s c.args.command.now c.in-Accepted.work todo sound

pub returns-in-Accepted-clause-does : goal.returns-in-Accepted-clause-does
returns-in-Accepted-clause-does g c =
    let s = c.args.self.now in
    let classes = ap (λ (x : SessionState). x.classes) c.self.view_is in
    let heads = ap (λ (x : SessionState). x.heads) c.self.view_is in
    let trees = c.self.invariant.trees ∙ sym (all_kept c.self.inside.filled.trees) ∙ ap kept_trees c.self.view_is in
    let todo = to_do s c.args.command.now c.self.inside.registry c.self.inside.table.heads c.self.inside.trees.trees classes heads trees c.in_ok-refusal.field-0 c.in-Accepted.work c.in-Accepted.is c.requires.statable
    c.in_ok-refusal.ensures.judged c.in_ok-refusal.ensures.sound in
    c.work.ensures.does c.args.command.now todo

pub returns-in-Accepted-clause-reads : goal.returns-in-Accepted-clause-reads
returns-in-Accepted-clause-reads g c never =
    let s = c.args.self.now in
    let classes = ap (λ (x : SessionState). x.classes) c.self.view_is in
    let heads = ap (λ (x : SessionState). x.heads) c.self.view_is in
    let trees = c.self.invariant.trees ∙ sym (all_kept c.self.inside.filled.trees) ∙ ap kept_trees c.self.view_is in
    let todo = to_do s c.args.command.now c.self.inside.registry c.self.inside.table.heads c.self.inside.trees.trees classes heads trees c.in_ok-refusal.field-0 c.in-Accepted.work c.in-Accepted.is c.requires.statable
    c.in_ok-refusal.ensures.judged c.in_ok-refusal.ensures.sound in
    c.work.ensures.reads (reads_nothing s c.args.command.now c.in-Accepted.work todo never)

pub returns-in-Accepted-clause-sound : goal.returns-in-Accepted-clause-sound
returns-in-Accepted-clause-sound g c = subst IsSoundState c.self.view_is (record { classes = c.self.invariant.classes; kept = c.self.invariant.kept })
