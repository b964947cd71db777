use Rattle.std.proofs.{Common.{◌≡◌, ◌∙◌, Err, [], refl, sym, ap, subst}, lemmas.Result.{err_from_is_err_and}}
use Rattle.rio_host.proofs.ReadsLaws.{reads_join}
use Rattle.rio_state.specs.{KeyedRecords.{info_key, top_keys}, Reasons.{directory_reasons}}
use Rattle.rio_recover.specs.{Checks.{IsChecking, beside_of}, Classes.{AreClassesOf}, Keys.{StandsIn, keyed_by}, Recovered.{place_in}, declared.judge.KeyCheck.{KeyCheck}}
use Rattle.rio_recover.proofs.{Gathering.{info_walked}, Judging.{cause_alone_on, judges_same}}
use Rattle.rio_recover.proofs.StateJudged.{directory_first, info_first, key_first, none_against, unread}
use Rattle.rio_recover.proofs.StateRead.{directory_same, info_stands, info_within, place_seen}
use Rattle.rio_recover.proofs.recovery.read_state.Goals as goal

pub read_classes-requires : goal.read_classes-requires
read_classes-requires g c = info_within (g.H.Host.view c.args.host.now) c.args.heads.now _ c.requires.info c.requires.within

pub returns-in_err-found-clause-told : goal.returns-in_err-found-clause-told
returns-in_err-found-clause-told g c file records told stand same =
    let heads = c.args.heads.now in
    let found = info_key records in
    let stands = info_stands (StandsIn file) records stand in
    let listed = sym (info_walked heads records same) ∙ sym c.requires.info in
    let p = err_from_is_err_and c.from_residual.result c.from_residual.ensures.1 in
    rw (p.1, p.2) (unread records c.in_err-found.field-0.0 (AreClassesOf found) (c.in_err-found.ensures.classes file found told stands listed))

pub returns-in_err-check_directory-clause-told : goal.returns-in_err-check_directory-clause-told
returns-in_err-check_directory-clause-told g c file records told stand same =
    let heads = c.args.heads.now in
    let found = info_key records in
    let stands = info_stands (StandsIn file) records stand in
    let listed = sym (info_walked heads records same) ∙ sym c.requires.info in
    let p = err_from_is_err_and c.from_residual-in_err-check_directory.result c.from_residual-in_err-check_directory.ensures.1 in
    let e = c.in_err-check_directory.field-0.0 in
    rw (p.1, p.2)
    (directory_first records {X = Unit {0}} c.in_ok-found.found e (λ x. Unit {0}) (c.in_ok-found.ensures.classes file found told stands listed)
    (judges_same {X = Unit {0}} (Err e) (directory_reasons (keyed_by heads)) (directory_reasons records) (λ x. Unit {0}) (directory_same heads records same) c.in_err-check_directory.ensures.told))

pub returns-in_err-check_directory-clause-cause : goal.returns-in_err-check_directory-clause-cause
returns-in_err-check_directory-clause-cause g c =
    let p = err_from_is_err_and c.from_residual-in_err-check_directory.result c.from_residual-in_err-check_directory.ensures.1 in
    rw (p.1, p.2)
    (cause_alone_on (Unit {0}) (Unit {0}) (g.H.Host.view c.args.host.now) (g.H.Host.view c.read_classes.new.host) c.in_err-check_directory.field-0.0 c.in_ok-found.ensures.cause c.in_err-check_directory.ensures.alone)

pub returns-in_err-check-in-Some-clause-told : goal.returns-in_err-check-in-Some-clause-told
returns-in_err-check-in-Some-clause-told g c file records told stand same =
    let heads = c.args.heads.now in
    let found = info_key records in
    let stands = info_stands (StandsIn file) records stand in
    let listed = sym (info_walked heads records same) ∙ sym c.requires.info in
    let p = err_from_is_err_and c.from_residual-in_err-check-in-Some.result c.from_residual-in_err-check-in-Some.ensures.1 in
    let classes = c.in-Some.classes in
    let are = subst (AreClassesOf found) c.in-Some.is (c.in_ok-found.ensures.classes file found told stands listed) in
    let none : directory_reasons records ≡ [] = sym (directory_same heads records same) ∙ c.in_ok-check_directory.ensures.told.0 in
    rw (p.1, p.2)
    (key_first records {X = KeyCheck} classes c.in_err-check-in-Some.field-0.0 (IsChecking (beside_of classes records) (top_keys records)) are none
    (c.in_err-check-in-Some.ensures.told file records (c.read_classes.ensures.calls.holds ∙ told) (record { classes_are = refl; tops_are = refl; stand = stand; heads_are = same })))

pub returns-in_ok-check-in-Some-clause-told : goal.returns-in_ok-check-in-Some-clause-told
returns-in_ok-check-in-Some-clause-told g c file records told stand same =
    let heads = c.args.heads.now in
    let found = info_key records in
    let stands = info_stands (StandsIn file) records stand in
    let listed = sym (info_walked heads records same) ∙ sym c.requires.info in
    let classes = c.in-Some.classes in
    let are = subst (AreClassesOf found) c.in-Some.is (c.in_ok-found.ensures.classes file found told stands listed) in
    let none : directory_reasons records ≡ [] = sym (directory_same heads records same) ∙ c.in_ok-check_directory.ensures.told.0 in
    let judged = c.in_ok-check-in-Some.ensures.told file records (c.read_classes.ensures.calls.holds ∙ told) (record { classes_are = refl; tops_are = refl; stand = stand; heads_are = same }) in
    none_against records classes c.in_ok-check-in-Some.check are none judged.0 judged.1

pub returns-in_ok-check-in-Some-clause-calls : goal.returns-in_ok-check-in-Some-clause-calls
returns-in_ok-check-in-Some-clause-calls g c = reads_join (g.met.H.Host.lawful c.read_classes.new.host) c.read_classes.ensures.calls c.check_keys.ensures.calls

pub returns-in-None-clause-told : goal.returns-in-None-clause-told
returns-in-None-clause-told g c file records told stand same =
    let heads = c.args.heads.now in
    let found = info_key records in
    let stands = info_stands (StandsIn file) records stand in
    let listed = sym (info_walked heads records same) ∙ sym c.requires.info in
    let classes = subst (AreClassesOf found) c.in-None.is (c.in_ok-found.ensures.classes file found told stands listed) in
    let none : directory_reasons records ≡ [] = sym (directory_same heads records same) ∙ c.in_ok-check_directory.ensures.told.0 in
    info_first records c.place_of.result (c.place_of.ensures ∙ ap place_in (sym listed) ∙ place_seen found) none classes
