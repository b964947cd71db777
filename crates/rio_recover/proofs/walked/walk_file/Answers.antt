use Rattle.std.proofs.{Common.{◌∙◌, ◌≤◌, length, refl, sym, subst}, lemmas.Result.{err_from_is_err_and}}
use Rattle.std.specs.List.{All}
use Rattle.rio_key.specs.declared.head.KeyHead.{KeyHead}
use Rattle.rio_chain.specs.{Chains.{HasChain}, Found.{IsShortKey}, Keyed.{IsRecordKey, IsWalkedKey}}
use Rattle.rio_state.specs.KeyedRecords.{keyed_records}
use Rattle.rio_recover.specs.{Keys.{record_end}, Whole.{HoldsDirectory}}
use Rattle.rio_recover.proofs.{FirstRecords.{directory_fits}, LinkRecords.{all_stand}, RecordKeys.{begins_with_file, keyed_all, keyed_weaker, walked_keys}}
use Rattle.rio_recover.proofs.Walking.{heads_within, not_so, walk_judged}
use Rattle.rio_recover.proofs.walked.walk_file.Goals as goal

pub returns-in_err-segments-clause-told : goal.returns-in_err-segments-clause-told
returns-in_err-segments-clause-told g c file told =
    let p = err_from_is_err_and c.from_residual-in_err-segments.result c.from_residual-in_err-segments.ensures.1 in
    rw (p.1, p.2)
    (walk_judged (g.H.Host.view c.small_head.new.host) c.in_err-segments.field-0.0 file c.in_ok-head.head (c.small_head.ensures.calls.holds ∙ told) (c.in_ok-head.ensures.told file told) c.in_err-segments.ensures.broken)

pub returns-clause-told : goal.returns-clause-told
returns-clause-told g c file told =
    let told1 = c.small_head.ensures.calls.holds ∙ told in
    let found = c.in_ok-segments.ensures.segments file told1 in
    record {
      head = c.in_ok-head.head;
      small = c.in_ok-head.ensures.told file told;
      nbytes_name = refl;
      links = found.0;
      chain = record { chain = found.1; same = found.2 };
      heads = walked_keys file found.0 c.in_ok-segments.field-0.segments c.in_ok-segments.field-0.heads found.1 found.2 (c.in_ok-segments.ensures.keys file told1);
    }

pub returns-clause-within : goal.returns-clause-within
returns-clause-within g c file told =
    let told1 = c.small_head.ensures.calls.holds ∙ told in
    let found = c.in_ok-segments.ensures.segments file told1 in
    let same = walked_keys file found.0 c.in_ok-segments.field-0.segments c.in_ok-segments.field-0.heads found.1 found.2 (c.in_ok-segments.ensures.keys file told1) in
    subst (All (λ (head : KeyHead). record_end head ≤ length file)) (sym same) (heads_within file (keyed_records found.0) (all_stand file 100 found.0 found.1.links_are))

pub returns-then-not-holds_directory-clause-told : goal.returns-then-not-holds_directory-clause-told
returns-then-not-holds_directory-clause-told g c file told =
    let found = c.in_ok-segments.ensures.segments file (c.small_head.ensures.calls.holds ∙ told) in
    let seen : HasChain found.0 c.as_slice.result.now file = record { chain = found.1; same = c.as_slice.ensures ∙ found.2 } in
    let fits = directory_fits c.as_slice.result.now found.0 file c.in_ok-head.head.nbytes_name seen (c.in_ok-head.ensures.name file told) in
    absurd (not_so c.holds_directory.result c.holds_directory.ensures c.if-not-holds_directory.true fits)

pub returns-clause-whole : goal.returns-clause-whole
returns-clause-whole g c =
    let segments = c.in_ok-segments.field-0.segments in
    let heads = c.in_ok-segments.field-0.heads in
    let shape = c.in_ok-segments.ensures.shape in
    record {
      shape = shape;
      keyed = keyed_weaker IsWalkedKey IsRecordKey (λ place n head k. k.0) segments heads c.in_ok-segments.ensures.walked;
      first = begins_with_file segments heads shape c.in_ok-segments.ensures.walked;
      directory = subst (HoldsDirectory c.in_ok-head.head.nbytes_name) c.as_slice.ensures (c.holds_directory.ensures.0 c.if-not-holds_directory.false);
    }

pub returns-clause-short : goal.returns-clause-short
returns-clause-short g c = keyed_all IsWalkedKey IsShortKey (λ place n head k. k.0.1) c.in_ok-segments.field-0.segments c.in_ok-segments.field-0.heads c.in_ok-segments.ensures.walked
