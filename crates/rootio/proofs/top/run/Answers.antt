use Rattle.std.proofs.{Common.{◌≡◌, ◌∙◌, Option, Some, sym, ap, refl, subst}, lemmas.Option.{same_Some}}
use Rattle.rootio.specs.{declared.words.Form.{Form, TheVariants.{Reads, Writes}}, declared.words.Work.{Work}, InARow.{LeavesCalls}, Reading.{work_of_form}, Words.{form_of_words}}
use Rattle.rootio.specs.declared.status.Status.TheVariants.{NoMemory}
use Rattle.rootio.proofs.{CallRows.{leaves_calls}, Completes.{completes, formed}, Endings.{ends_complete, ends_refused, ends_tells}, Named.{writes_asked, writes_named}}
use Rattle.rootio.proofs.{WithoutMemory.{nothing_caused, nothing_listed}, Works.{no_memory}}
use Rattle.rootio.proofs.top.run.Goals as goal

abbrev some_form : Form → Option Form
some_form f = Some f

pub returns-in-Ok-Some-Reads-clause-bad_file : goal.returns-in-Ok-Some-Reads-clause-bad_file
returns-in-Ok-Some-Reads-clause-bad_file g c form is place kind e file here =
    let named : form_of_words c.args.words.now ≡ Some (Reads c.in-Ok-Some-Reads.list) =
    sym c.in-Ok-Some-Reads.ensures.form ∙ c.in-Ok-Some-Reads.field-0-is ∙ ap some_form c.in-Ok-Some-Reads.field-0-0-is in
    let same : form ≡ Reads c.in-Ok-Some-Reads.list = same_Some form (Reads c.in-Ok-Some-Reads.list) (sym is ∙ named) in
    rw same (ends_tells (g.H.Host.view c.args.host.now) (g.H.Host.view c.say_file.new.host) c.say_file.result c.in-Ok-Some-Reads.list c.say_file.ensures place kind e file here)

pub returns-in-Ok-Some-Reads-clause-refused : goal.returns-in-Ok-Some-Reads-clause-refused
returns-in-Ok-Some-Reads-clause-refused g c form is fault file here e =
    let named : form_of_words c.args.words.now ≡ Some (Reads c.in-Ok-Some-Reads.list) =
    sym c.in-Ok-Some-Reads.ensures.form ∙ c.in-Ok-Some-Reads.field-0-is ∙ ap some_form c.in-Ok-Some-Reads.field-0-0-is in
    let same : form ≡ Reads c.in-Ok-Some-Reads.list = same_Some form (Reads c.in-Ok-Some-Reads.list) (sym is ∙ named) in
    ends_refused (g.H.Host.view c.args.host.now) (g.H.Host.view c.say_file.new.host) c.say_file.result c.in-Ok-Some-Reads.list c.say_file.ensures fault file here (rw same at e)

pub returns-in-Ok-Some-Reads-clause-complete : goal.returns-in-Ok-Some-Reads-clause-complete
returns-in-Ok-Some-Reads-clause-complete g c form is =
    let named : form_of_words c.args.words.now ≡ Some (Reads c.in-Ok-Some-Reads.list) =
    sym c.in-Ok-Some-Reads.ensures.form ∙ c.in-Ok-Some-Reads.field-0-is ∙ ap some_form c.in-Ok-Some-Reads.field-0-0-is in
    let same : form ≡ Reads c.in-Ok-Some-Reads.list = same_Some form (Reads c.in-Ok-Some-Reads.list) (sym is ∙ named) in
    rw same (ends_complete (g.H.Host.view c.args.host.now) (g.H.Host.view c.say_file.new.host) c.say_file.result (g.S.Source.view c.args.input.now) c.in-Ok-Some-Reads.list c.say_file.ensures)

pub returns-in-Ok-Some-Writes-clause-usage : goal.returns-in-Ok-Some-Writes-clause-usage
returns-in-Ok-Some-Writes-clause-usage g c is =
    absurd (formed (Writes c.in-Ok-Some-Writes.work) (g.H.Host.view c.args.host.now) (g.H.Host.view c.write_file.new.host) (g.S.Source.view c.args.input.now) (g.S.Source.view c.write_file.new.input) c.write_file.result c.write_file.ensures.work.cause is)

pub returns-in-Ok-Some-Writes-clause-input : goal.returns-in-Ok-Some-Writes-clause-input
returns-in-Ok-Some-Writes-clause-input g c none =
    let named : form_of_words c.args.words.now ≡ Some (Writes c.in-Ok-Some-Writes.work) =
    sym c.in-Ok-Some-Writes.ensures.form ∙ c.in-Ok-Some-Writes.field-0-is ∙ ap some_form c.in-Ok-Some-Writes.field-0-0-is in
    c.write_file.ensures.input (rw named at none)

pub returns-in-Ok-Some-Writes-clause-bad_file : goal.returns-in-Ok-Some-Writes-clause-bad_file
returns-in-Ok-Some-Writes-clause-bad_file g c form is place kind e file here =
    let named : form_of_words c.args.words.now ≡ Some (Writes c.in-Ok-Some-Writes.work) =
    sym c.in-Ok-Some-Writes.ensures.form ∙ c.in-Ok-Some-Writes.field-0-is ∙ ap some_form c.in-Ok-Some-Writes.field-0-0-is in
    let same : form ≡ Writes c.in-Ok-Some-Writes.work = same_Some form (Writes c.in-Ok-Some-Writes.work) (sym is ∙ named) in
    rw same (c.write_file.ensures.work.faults place kind e file here)

pub returns-in-Ok-Some-Writes-clause-refused : goal.returns-in-Ok-Some-Writes-clause-refused
returns-in-Ok-Some-Writes-clause-refused g c form is fault file here e =
    let named : form_of_words c.args.words.now ≡ Some (Writes c.in-Ok-Some-Writes.work) =
    sym c.in-Ok-Some-Writes.ensures.form ∙ c.in-Ok-Some-Writes.field-0-is ∙ ap some_form c.in-Ok-Some-Writes.field-0-0-is in
    let same : form ≡ Writes c.in-Ok-Some-Writes.work = same_Some form (Writes c.in-Ok-Some-Writes.work) (sym is ∙ named) in
    c.write_file.ensures.work.broken fault file here (rw same at e)

pub returns-in-Ok-Some-Writes-clause-read_only : goal.returns-in-Ok-Some-Writes-clause-read_only
returns-in-Ok-Some-Writes-clause-read_only g c form is place reason e file here =
    let named : form_of_words c.args.words.now ≡ Some (Writes c.in-Ok-Some-Writes.work) =
    sym c.in-Ok-Some-Writes.ensures.form ∙ c.in-Ok-Some-Writes.field-0-is ∙ ap some_form c.in-Ok-Some-Writes.field-0-0-is in
    let same : form ≡ Writes c.in-Ok-Some-Writes.work = same_Some form (Writes c.in-Ok-Some-Writes.work) (sym is ∙ named) in
    rw same (c.write_file.ensures.work.reasons place reason e file here)

pub returns-in-Ok-Some-Writes-clause-kept : goal.returns-in-Ok-Some-Writes-clause-kept
returns-in-Ok-Some-Writes-clause-kept g c form is against file here e =
    let named : form_of_words c.args.words.now ≡ Some (Writes c.in-Ok-Some-Writes.work) =
    sym c.in-Ok-Some-Writes.ensures.form ∙ c.in-Ok-Some-Writes.field-0-is ∙ ap some_form c.in-Ok-Some-Writes.field-0-0-is in
    let same : form ≡ Writes c.in-Ok-Some-Writes.work = same_Some form (Writes c.in-Ok-Some-Writes.work) (sym is ∙ named) in
    c.write_file.ensures.work.read_only against file here (rw same at e)

pub returns-in-Ok-Some-Writes-clause-row : goal.returns-in-Ok-Some-Writes-clause-row
returns-in-Ok-Some-Writes-clause-row g c work is =
    let named : form_of_words c.args.words.now ≡ Some (Writes c.in-Ok-Some-Writes.work) =
    sym c.in-Ok-Some-Writes.ensures.form ∙ c.in-Ok-Some-Writes.field-0-is ∙ ap some_form c.in-Ok-Some-Writes.field-0-0-is in
    let same : c.in-Ok-Some-Writes.work ≡ work = same_Some c.in-Ok-Some-Writes.work work (sym (ap work_of_form named) ∙ is) in
    subst (λ (w : Work). LeavesCalls w (g.H.Host.view c.args.host.now) (g.H.Host.view c.write_file.new.host) (g.S.Source.view c.args.input.now)) same
    (leaves_calls c.in-Ok-Some-Writes.work (g.H.Host.view c.args.host.now) (g.H.Host.view c.write_file.new.host) (g.S.Source.view c.args.input.now) (g.S.Source.view c.write_file.new.input) c.write_file.result
    (g.met.H.Host.lawful c.args.host.now) c.write_file.ensures.work.writes.headline)

pub returns-in-Ok-Some-Writes-clause-complete : goal.returns-in-Ok-Some-Writes-clause-complete
returns-in-Ok-Some-Writes-clause-complete g c form is =
    let named : form_of_words c.args.words.now ≡ Some (Writes c.in-Ok-Some-Writes.work) =
    sym c.in-Ok-Some-Writes.ensures.form ∙ c.in-Ok-Some-Writes.field-0-is ∙ ap some_form c.in-Ok-Some-Writes.field-0-0-is in
    let same : form ≡ Writes c.in-Ok-Some-Writes.work = same_Some form (Writes c.in-Ok-Some-Writes.work) (sym is ∙ named) in
    let done = c.write_file.ensures.work in
    rw same
    (completes (g.H.Host.view c.args.host.now) (g.H.Host.view c.write_file.new.host) (g.S.Source.view c.args.input.now) (g.S.Source.view c.write_file.new.input)
    (Writes c.in-Ok-Some-Writes.work) c.write_file.result done.faults done.reasons done.too_long done.cause)

pub write_file-requires : goal.write_file-requires
write_file-requires g c =
    let named : form_of_words c.args.words.now ≡ Some (Writes c.in-Ok-Some-Writes.work) =
    sym c.in-Ok-Some-Writes.ensures.form ∙ c.in-Ok-Some-Writes.field-0-is ∙ ap some_form c.in-Ok-Some-Writes.field-0-0-is in
    record { name = writes_named c.args.words.now c.in-Ok-Some-Writes.work named; asked = writes_asked c.args.words.now c.in-Ok-Some-Writes.work named }

-- the words found no memory

pub returns-in-Err-clause-lists : goal.returns-in-Err-clause-lists
returns-in-Err-clause-lists g c list is = nothing_listed list (g.H.Host.view c.args.host.now)

pub returns-in-Err-clause-writes : goal.returns-in-Err-clause-writes
returns-in-Err-clause-writes g c work is = (no_memory work (g.H.Host.view c.args.host.now) (g.S.Source.view c.args.input.now) (g.S.Source.view c.args.input.now) refl).writes

pub returns-in-Err-clause-row : goal.returns-in-Err-clause-row
returns-in-Err-clause-row g c work is =
    let v = g.H.Host.view c.args.host.now in
    let input = g.S.Source.view c.args.input.now in
    leaves_calls work v v input input NoMemory (g.met.H.Host.lawful c.args.host.now) (no_memory work v input input refl).writes.headline

pub returns-in-Err-clause-cause : goal.returns-in-Err-clause-cause
returns-in-Err-clause-cause g c = nothing_caused (form_of_words c.args.words.now) (g.H.Host.view c.args.host.now) (g.S.Source.view c.args.input.now)
