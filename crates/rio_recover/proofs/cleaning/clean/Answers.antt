use Rattle.std.proofs.{Common.{◌∙◌, List, refl, sym, subst, ap, ℕ}, lemmas.Result.{on_ok_weaker}}
use Rattle.rio_chain.specs.Chains.{ChainState}
use Rattle.rio_recover.specs.Cleaning.{AreReleasable, without_segments}
use Rattle.rio_recover.proofs.CleanedFile.{is_cleaned, releasable}
use Rattle.rio_recover.proofs.cleaning.clean.Goals as goal

pub release_all-requires-clause-records : goal.release_all-requires-clause-records
release_all-requires-clause-records g c = subst (AreReleasable c.args.recovered.now.chain.segments) (sym c.as_slice.ensures) (releasable c.args.recovered.now c.requires.whole)

pub returns-clause-any_moment : goal.returns-clause-any_moment
returns-clause-any_moment g c file links m told chain garbage are = c.release_all.ensures.any_moment file links m told chain (c.as_slice.ensures ∙ garbage) are

pub returns-clause-kept : goal.returns-clause-kept
returns-clause-kept g c =
    on_ok_weaker c.release_all.result
    (λ is. is_cleaned c.args.recovered.now _ c.requires.whole c.requires.room
    (ap (λ (s : ChainState). s.segments) is ∙ ap (λ (ps : List ℕ). without_segments ps c.args.recovered.now.chain.segments) c.as_slice.ensures) (ap (λ (s : ChainState). s.spent) is ∙ c.requires.fresh) refl refl refl refl refl refl)
    c.release_all.ensures.chain
