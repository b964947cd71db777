use Rattle.std.proofs.{Common.{◌∙◌, List, ℕ}, lemmas.Result.{err_from_is_err_and}}
use Rattle.std.specs.Option.{option_copied}
use Rattle.rio_host.specs.OnlyReads.{OnlyReads}
use Rattle.rio_host.proofs.ReadsLaws.{reads_join, reads_one}
use Rattle.rio_report.specs.{declared.described.Described.{Described}, Described.{described_file}, Dump.{dump_text, dumped_file}}
use Rattle.rio_close.specs.Causes.{AnyKind}
use Rattle.rio_report.proofs.Gather.{nothing_said, reads_then_piece}
use Rattle.rio_report.proofs.Dumps.{dumped_bad, dumped_is, read_answers, read_refuses, told_calls, told_done, told_lines}
use Rattle.rio_report.proofs.dump.say_all_or_item.Goals as goal

pub returns-in_err-described-clause-refused : goal.returns-in_err-described-clause-refused
returns-in_err-described-clause-refused g c file told =
    let p = err_from_is_err_and c.from_residual-in_err-described.result c.from_residual-in_err-described.ensures.1 in
    rw (p.1, p.2) (read_refuses {X = Described} AnyKind (g.H.Host.view c.length.new.self) (g.H.Host.view c.open_described.new.host) (dumped_file (option_copied c.args.item) file) (described_file file)
    (dumped_bad (option_copied c.args.item) file) c.in_err-described.field-0.0 (c.in_err-described.ensures.exact file (c.length.ensures.holds ∙ told)) c.in_err-described.ensures.cause)

pub returns-clause-refused : goal.returns-clause-refused
returns-clause-refused g c file told =
    read_answers (g.H.Host.view c.open_described.new.host) (g.H.Host.view c.say_described.new.host) (dumped_file (option_copied c.args.item) file) _
    (dumped_is (option_copied c.args.item) file c.in_ok-described.described (c.in_ok-described.ensures.exact file (c.length.ensures.holds ∙ told))) c.say_described.result c.say_described.ensures.cause

pub returns-clause-done : goal.returns-clause-done
returns-clause-done g c =
    let a = g.H.Host.view c.args.host.now in
    let b = g.H.Host.view c.open_described.new.host in
    let d = g.H.Host.view c.say_described.new.host in
    let item = option_copied c.args.item in
    let text_of : List ℕ → List ℕ = λ file. dump_text file item c.in_ok-described.described in
    let reads : OnlyReads a b = reads_join (g.met.H.Host.lawful c.length.new.self) (reads_one c.length.ensures.disk c.length.ensures.holds c.length.ensures.reads) c.in_ok-described.ensures.calls in
    told_done (dumped_file item) text_of a d (λ file told. dumped_is item file c.in_ok-described.described (c.in_ok-described.ensures.exact file (c.length.ensures.holds ∙ told))) c.say_described.result
    (reads_then_piece a b d (g.met.H.Host.lawful c.args.host.now) (g.met.H.Host.lawful c.open_described.new.host) text_of reads c.say_described.result c.say_described.ensures.says)

pub returns-clause-calls : goal.returns-clause-calls
returns-clause-calls g c =
    let a = g.H.Host.view c.args.host.now in
    let b = g.H.Host.view c.open_described.new.host in
    let d = g.H.Host.view c.say_described.new.host in
    let item = option_copied c.args.item in
    let text_of : List ℕ → List ℕ = λ file. dump_text file item c.in_ok-described.described in
    let reads : OnlyReads a b = reads_join (g.met.H.Host.lawful c.length.new.self) (reads_one c.length.ensures.disk c.length.ensures.holds c.length.ensures.reads) c.in_ok-described.ensures.calls in
    told_calls (dumped_file item) text_of a d (λ file told. dumped_is item file c.in_ok-described.described (c.in_ok-described.ensures.exact file (c.length.ensures.holds ∙ told))) c.say_described.result
    (reads_then_piece a b d (g.met.H.Host.lawful c.args.host.now) (g.met.H.Host.lawful c.open_described.new.host) text_of reads c.say_described.result c.say_described.ensures.says)

pub returns-clause-lines : goal.returns-clause-lines
returns-clause-lines g c =
    let a = g.H.Host.view c.args.host.now in
    let b = g.H.Host.view c.open_described.new.host in
    let d = g.H.Host.view c.say_described.new.host in
    let item = option_copied c.args.item in
    let text_of : List ℕ → List ℕ = λ file. dump_text file item c.in_ok-described.described in
    let reads : OnlyReads a b = reads_join (g.met.H.Host.lawful c.length.new.self) (reads_one c.length.ensures.disk c.length.ensures.holds c.length.ensures.reads) c.in_ok-described.ensures.calls in
    told_lines (dumped_file item) text_of a d (λ file told. dumped_is item file c.in_ok-described.described (c.in_ok-described.ensures.exact file (c.length.ensures.holds ∙ told))) c.say_described.result
    (reads_then_piece a b d (g.met.H.Host.lawful c.args.host.now) (g.met.H.Host.lawful c.open_described.new.host) text_of reads c.say_described.result c.say_described.ensures.says)

pub returns-in_err-file_length-clause-lines : goal.returns-in_err-file_length-clause-lines
returns-in_err-file_length-clause-lines g c =
    let p = err_from_is_err_and c.from_residual.result c.from_residual.ensures.1 in
    rw p.1 (nothing_said (reads_one c.length.ensures.disk c.length.ensures.holds c.length.ensures.reads))

pub returns-in_err-described-clause-lines : goal.returns-in_err-described-clause-lines
returns-in_err-described-clause-lines g c =
    let p = err_from_is_err_and c.from_residual-in_err-described.result c.from_residual-in_err-described.ensures.1 in
    rw p.1 (nothing_said (reads_join (g.met.H.Host.lawful c.length.new.self) (reads_one c.length.ensures.disk c.length.ensures.holds c.length.ensures.reads) c.in_err-described.ensures.calls))
