use Rattle.std.proofs.Common.{rules, ◌≡◌, ◌<◌, ◌≤◌, ◌+◌, List, ℕ, length, drop, get_or, refl, sym, ap, subst, ◌∙◌, arith}
use Rattle.std.proofs.{lemmas.List.{append-nil, FromFn.{get_or-range_with_len, length-range_with_len}}, lemmas.Result.{err_from_is_err_and}}
use Rattle.std.specs.List.{range_with_len}
use Rattle.rio_host.proofs.ReadsLaws.{reads_none}
use Rattle.rio_report.specs.Scan.{row_line}
use Rattle.rio_entry.specs.{declared.lane.Lane.{Lane}, Lanes.{AreLanes}}
use Rattle.rio_entry.proofs.{Left.{only_new}, Walks.{lanes_later}}
use Rattle.rio_report.proofs.{Gather.{gathered_reads}, LineByLine.{all_gathered, first_lines, line_cut, line_gathered}, WholeLines.{row_ends}}
use Rattle.rio_report.proofs.scan_rows.gather_rows.Goals as goal

pub loop-entry-init : goal.loop-entry-init
loop-entry-init g c =
    let line : List ℕ → ℕ → List ℕ = λ file. row_line c.args.form.now file c.args.tree.now.classes.now c.args.tree.now.branches.now c.args.refusals.now in
    record {
      so_far = gathered_reads (first_lines line (range_with_len 0 c.args.entries) c.args.held.now.bytes 0) c.args.held.now.bytes (reads_none (g.H.Host.view c.args.host.now)) (λ file told. sym (append-nil c.args.held.now.bytes));
      holds = refl;
      calm = refl;
      heard = refl;
      lanes = λ file told. c.requires.empty file 0 c.args.tree.now.branches.now;
      width = c.requires.width;
    }

pub gather_row-requires-clause-held : goal.gather_row-requires-clause-held
gather_row-requires-clause-held g c file told =
    subst (λ (ls : List Lane). AreLanes file c.loop-entry.entry c.args.tree.now.branches.now ls) (sym c.deref_mut.ensures.value) (c.loop-entry.invariant.lanes file (sym c.loop-entry.invariant.holds ∙ told))

pub returns-in_err-gather_row-clause-says : goal.returns-in_err-gather_row-clause-says
returns-in_err-gather_row-clause-says g c =
    let line : List ℕ → ℕ → List ℕ = λ file. row_line c.args.form.now file c.args.tree.now.classes.now c.args.tree.now.branches.now c.args.refusals.now in
    let xs = range_with_len 0 c.args.entries in
    let e = c.loop-entry.entry in
    let lt : e < length xs = subst (λ (n : ℕ). e < n) (sym (length-range_with_len 0 c.args.entries)) (omega arith) in
    let is : e ≡ get_or xs e e = sym (get_or-range_with_len 0 c.args.entries e e (omega arith) ∙ omega arith) in
    let p = err_from_is_err_and c.from_residual.result c.from_residual.ensures.1 in
    rw p.1 (line_cut line xs c.args.held.now.bytes (g.H.Host.view c.args.host.now) (g.H.Host.view c.loop-entry.host) (g.H.Host.view c.gather_row.new.host)
    (g.met.H.Host.lawful c.args.host.now) (g.met.H.Host.lawful c.loop-entry.host) e e lt is c.loop-entry.held.bytes c.loop-entry.invariant.so_far (λ file y. row_ends c.args.form.now.csv y _) c.in_err-gather_row.ensures.says)

pub loop-entry-preserved : goal.loop-entry-preserved
loop-entry-preserved g c =
    let line : List ℕ → ℕ → List ℕ = λ file. row_line c.args.form.now file c.args.tree.now.classes.now c.args.tree.now.branches.now c.args.refusals.now in
    let xs = range_with_len 0 c.args.entries in
    let e = c.loop-entry.entry in
    let lt : e < length xs = subst (λ (n : ℕ). e < n) (sym (length-range_with_len 0 c.args.entries)) (omega arith) in
    let is : e ≡ get_or xs e e = sym (get_or-range_with_len 0 c.args.entries e e (omega arith) ∙ omega arith) in
    let size = sym c.deref_mut.ensures.len ∙ sym c.in_ok-gather_row.ensures.lanes in
    let same = only_new c.gather_row.new.lanes (drop (length c.gather_row.new.lanes) c.loop-entry.lanes.items) c.loop-entry.lanes.len size in
    let so_far = line_gathered line xs c.args.held.now.bytes (g.H.Host.view c.args.host.now) (g.H.Host.view c.loop-entry.host) (g.H.Host.view c.gather_row.new.host)
    (g.met.H.Host.lawful c.args.host.now) (g.met.H.Host.lawful c.loop-entry.host) e e lt is c.loop-entry.held.bytes c.loop-entry.invariant.so_far c.gather_row.new.held.bytes c.in_ok-gather_row.ensures.says in
    record {
      so_far = so_far;
      holds = so_far.said.holds;
      calm = search rules;
      heard = so_far.said.say_faults;
      lanes = λ file told.
          subst (λ (ls : List Lane). AreLanes file (e + 1) c.args.tree.now.branches.now ls) (sym same)
          (lanes_later file e c.args.tree.now.branches.now c.gather_row.new.lanes (c.in_ok-gather_row.ensures.kept file (c.loop-entry.invariant.holds ∙ told)));
      width = ap length same ∙ c.in_ok-gather_row.ensures.lanes ∙ ap length c.deref_mut.ensures.value ∙ c.loop-entry.invariant.width;
    }

pub returns-clause-says : goal.returns-clause-says
returns-clause-says g c =
    let line : List ℕ → ℕ → List ℕ = λ file. row_line c.args.form.now file c.args.tree.now.classes.now c.args.tree.now.branches.now c.args.refusals.now in
    let xs = range_with_len 0 c.args.entries in
    let le : length xs ≤ c.loop-entry.entry = subst (λ (n : ℕ). n ≤ c.loop-entry.entry) (sym (length-range_with_len 0 c.args.entries)) (omega arith) in
    all_gathered line xs c.args.held.now.bytes c.loop-entry.entry c.loop-entry.held.bytes le c.loop-entry.invariant.so_far
