use Rattle.std.proofs.{Common.{◌++◌, List, [], ℕ, refl, ap, ◌∙◌}, lemmas.Result.{err_from_is_err_and}, lemmas.List.{append-nil}}
use Rattle.std.specs.List.{flat_map}
use Rattle.rio_num.specs.Room.{Room}
use Rattle.rio_report.specs.Dump.{class_line, dump_lines, stored_line}
use Rattle.rio_report.specs.Gathered.{Gathered, ends_line}
use Rattle.rio_report.proofs.{Gather.{cut_first, cut_gathered, gathered_behind, says_as, says_held}, WholeLines.{class_ends, each_ends}}
use Rattle.rio_report.proofs.dump.say_all.Goals as goal

pub returns-in_err-gather_classes-clause-says : goal.returns-in_err-gather_classes-clause-says
unfolding dump_lines
returns-in_err-gather_classes-clause-says g c =
    let p = err_from_is_err_and c.from_residual.result c.from_residual.ensures.1 in
    let classes : List ℕ → List ℕ = λ file. flat_map class_line c.as_slice.result.now in
    let keys : List ℕ → List ℕ = λ file. flat_map (stored_line file c.args.classes.now) c.args.keys.now in
    rw p.1 (cut_first c.new-held.result.bytes classes keys (λ file. dump_lines file c.args.classes.now c.args.keys.now) (ap (λ (r : Room). ends_line r.bytes) c.new-held.ensures)
    (λ file told. rw (c.new-held.ensures, c.as_slice.ensures) refl) c.in_err-gather_classes.ensures.says)

pub returns-in_err-gather_keys-clause-says : goal.returns-in_err-gather_keys-clause-says
unfolding dump_lines
returns-in_err-gather_keys-clause-says g c =
    let p = err_from_is_err_and c.from_residual-in_err-gather_keys.result c.from_residual-in_err-gather_keys.ensures.1 in
    let a = g.H.Host.view c.args.host.now in
    let b = g.H.Host.view c.gather_classes.new.host in
    let d = g.H.Host.view c.gather_keys.new.host in
    let first = c.new-held.result.bytes in
    let classes : List ℕ → List ℕ = λ file. flat_map class_line c.as_slice.result.now in
    let keys : List ℕ → List ℕ = λ file. flat_map (stored_line file c.args.classes.now) c.args.keys.now in
    let cut = cut_gathered a b d (g.met.H.Host.lawful c.args.host.now) (g.met.H.Host.lawful c.gather_classes.new.host) first classes c.gather_classes.new.held.bytes c.in_ok-gather_classes.ensures.says keys
    (λ file. each_ends class_line class_ends c.as_slice.result.now) c.in_err-gather_keys.ensures.says in
    rw p.1 (cut_first first (λ file. classes file ++ keys file) (λ file. []) (λ file. dump_lines file c.args.classes.now c.args.keys.now) (ap (λ (r : Room). ends_line r.bytes) c.new-held.ensures)
    (λ file told. append-nil (first ++ (classes file ++ keys file)) ∙ rw (c.new-held.ensures, c.as_slice.ensures) refl) cut)

pub returns-clause-says : goal.returns-clause-says
unfolding dump_lines
returns-clause-says g c =
    let a = g.H.Host.view c.args.host.now in
    let b = g.H.Host.view c.gather_classes.new.host in
    let d = g.H.Host.view c.gather_keys.new.host in
    let e = g.H.Host.view c.say_held.new.host in
    let first = c.new-held.result.bytes in
    let classes : List ℕ → List ℕ = λ file. flat_map class_line c.as_slice.result.now in
    let keys : List ℕ → List ℕ = λ file. flat_map (stored_line file c.args.classes.now) c.args.keys.now in
    let all : List ℕ → List ℕ = λ file. first ++ (classes file ++ keys file) in
    let both : Gathered all c.gather_keys.new.held.bytes a d =
    gathered_behind a b d (g.met.H.Host.lawful c.args.host.now) (g.met.H.Host.lawful c.gather_classes.new.host) first classes c.gather_classes.new.held.bytes c.in_ok-gather_classes.ensures.says keys c.gather_keys.new.held.bytes c.in_ok-gather_keys.ensures.says in
    says_as a e all (λ file. dump_lines file c.args.classes.now c.args.keys.now) (λ file told. rw (c.new-held.ensures, c.as_slice.ensures) refl) c.say_held.result
    (says_held a d e (g.met.H.Host.lawful c.args.host.now) (g.met.H.Host.lawful c.gather_keys.new.host) all c.gather_keys.new.held.bytes both c.say_held.result c.say_held.ensures.says c.say_held.ensures.unsaid)
