use Rattle.std.proofs.{Common.{◌≡◌, ℕ, List, None, sym, subst}, lemmas.Result.{err_from_is_err_and}}
use Rattle.rio_step.specs.Refusing.{first_of}
use Rattle.rio_judge.specs.{Stops.{StopsAt}, Judging.{CanBePut}, declared.work.StoredObject.{StoredObject}}
use Rattle.rio_judge.proofs.PutTests.{own_length_tests, passes_all, stopped, stops_at_class, stops_at_counts, stops_at_cycle, stops_at_fit, stops_at_length, stops_at_name, stops_at_tree}
use Rattle.rio_judge.proofs.{PutLaws.{Passed, can_be_put}, put.stored_object.Goals.{In_ok-name}}
use Rattle.rio_judge.proofs.put.stored_object.Goals as goal

pub returns-in_err-check_name-clause-told : goal.returns-in_err-check_name-clause-told
returns-in_err-check_name-clause-told c =
    let p = err_from_is_err_and c.from_residual.result c.from_residual.ensures.1 in
    let stop = c.in_err-check_name.field-0.0 in
    stopped c.args.classes.now c.args.table.now.heads c.args.trees.now.trees c.args.name.now c.args.value.now c.args.before c.from_residual.result p.0 stop p.1 p.2
    (stops_at_name c.args.classes.now c.args.table.now.heads c.args.trees.now.trees c.args.name.now c.args.value.now c.args.before stop c.in_err-check_name.ensures)

pub returns-in_err-check_no_tree-clause-told : goal.returns-in_err-check_no_tree-clause-told
returns-in_err-check_no_tree-clause-told c =
    let p = err_from_is_err_and c.from_residual-in_err-check_no_tree.result c.from_residual-in_err-check_no_tree.ensures.1 in
    let stop = c.in_err-check_no_tree.field-0.0 in
    stopped c.args.classes.now c.args.table.now.heads c.args.trees.now.trees c.args.name.now c.args.value.now c.args.before c.from_residual-in_err-check_no_tree.result p.0 stop p.1 p.2
    (stops_at_tree c.args.classes.now c.args.table.now.heads c.args.trees.now.trees c.args.name.now c.args.value.now c.args.before stop c.in_ok-check_name.ensures c.in_err-check_no_tree.ensures)

pub returns-in_err-value-clause-told : goal.returns-in_err-value-clause-told
returns-in_err-value-clause-told c =
    let p = err_from_is_err_and c.from_residual-in_err-value.result c.from_residual-in_err-value.ensures.1 in
    let stop = c.in_err-value.field-0.0 in
    stopped c.args.classes.now c.args.table.now.heads c.args.trees.now.trees c.args.name.now c.args.value.now c.args.before c.from_residual-in_err-value.result p.0 stop p.1 p.2
    (stops_at_class c.args.classes.now c.args.table.now.heads c.args.trees.now.trees c.args.name.now c.args.value.now c.args.before stop c.in_ok-check_name.ensures c.in_ok-check_no_tree.ensures c.in_err-value.ensures.told)

pub returns-in_err-class-clause-told : goal.returns-in_err-class-clause-told
returns-in_err-class-clause-told c =
    let p = err_from_is_err_and c.from_residual-in_err-class.result c.from_residual-in_err-class.ensures.1 in
    let stop = c.in_err-class.field-0.0 in
    stopped c.args.classes.now c.args.table.now.heads c.args.trees.now.trees c.args.name.now c.args.value.now c.args.before c.from_residual-in_err-class.result p.0 stop p.1 p.2
    (stops_at_fit c.args.classes.now c.args.table.now.heads c.args.trees.now.trees c.args.name.now c.args.value.now c.args.before stop c.in_ok-check_name.ensures c.in_ok-check_no_tree.ensures c.in_ok-value.value c.in_ok-value.ensures.value c.in_err-class.ensures.told)

pub returns-in_err-cycle-clause-told : goal.returns-in_err-cycle-clause-told
returns-in_err-cycle-clause-told c =
    let p = err_from_is_err_and c.from_residual-in_err-cycle.result c.from_residual-in_err-cycle.ensures.1 in
    let stop = c.in_err-cycle.field-0.0 in
    stopped c.args.classes.now c.args.table.now.heads c.args.trees.now.trees c.args.name.now c.args.value.now c.args.before c.from_residual-in_err-cycle.result p.0 stop p.1 p.2
    (stops_at_cycle c.args.classes.now c.args.table.now.heads c.args.trees.now.trees c.args.name.now c.args.value.now c.args.before stop c.in_ok-check_name.ensures c.in_ok-check_no_tree.ensures c.in_ok-value.value c.in_ok-value.ensures.value c.in_ok-class.ensures.told c.in_err-cycle.ensures.told)

pub returns-in_err-length-clause-told : goal.returns-in_err-length-clause-told
returns-in_err-length-clause-told c =
    let p = err_from_is_err_and c.from_residual-in_err-length.result c.from_residual-in_err-length.ensures.1 in
    let stop = c.in_err-length.field-0.0 in
    let told : StopsAt (first_of (own_length_tests c.args.classes.now c.in_ok-class.class c.args.name.now c.in_ok-value.value)) stop =
    subst (λ (own : List ℕ). StopsAt (first_of (own_length_tests c.args.classes.now own c.args.name.now c.in_ok-value.value)) stop) c.as_slice.ensures c.in_err-length.ensures.told in
    stopped c.args.classes.now c.args.table.now.heads c.args.trees.now.trees c.args.name.now c.args.value.now c.args.before c.from_residual-in_err-length.result p.0 stop p.1 p.2
    (stops_at_length c.args.classes.now c.args.table.now.heads c.args.trees.now.trees c.args.name.now c.args.value.now c.args.before stop c.in_ok-check_name.ensures c.in_ok-check_no_tree.ensures c.in_ok-value.value c.in_ok-value.ensures.value c.in_ok-class.ensures.told c.in_ok-cycle.ensures.told c.in_ok-class.class c.in_ok-class.ensures.class told)

pub returns-in_err-check_counts-clause-told : goal.returns-in_err-check_counts-clause-told
returns-in_err-check_counts-clause-told c =
    let p = err_from_is_err_and c.from_residual-in_err-check_counts.result c.from_residual-in_err-check_counts.ensures.1 in
    let stop = c.in_err-check_counts.field-0.0 in
    let short : first_of (own_length_tests c.args.classes.now c.in_ok-class.class c.args.name.now c.in_ok-value.value) ≡ None =
    subst (λ (own : List ℕ). first_of (own_length_tests c.args.classes.now own c.args.name.now c.in_ok-value.value) ≡ None) c.as_slice.ensures c.in_ok-length.ensures.told in
    stopped c.args.classes.now c.args.table.now.heads c.args.trees.now.trees c.args.name.now c.args.value.now c.args.before c.from_residual-in_err-check_counts.result p.0 stop p.1 p.2
    (stops_at_counts c.args.classes.now c.args.table.now.heads c.args.trees.now.trees c.args.name.now c.args.value.now c.args.before stop c.in_ok-check_name.ensures c.in_ok-check_no_tree.ensures c.in_ok-value.value c.in_ok-value.ensures.value c.in_ok-class.ensures.told c.in_ok-cycle.ensures.told c.in_ok-class.class c.in_ok-class.ensures.class short c.in_err-check_counts.ensures)

-- the object that is to be stored
abbrev made : In_ok-name → StoredObject
made c = record { name = c.in_ok-name.name; class = c.in_ok-class.class; cycle = c.in_ok-cycle.cycle; length = c.in_ok-length.length; value = c.in_ok-value.value }

-- what is done can be done
done : (c : In_ok-name) → CanBePut c.args.classes.now c.args.table.now.heads c.args.before c.args.value.now (made c)
done c =
    let named = c.in_ok-name.ensures in
    let short : first_of (own_length_tests c.args.classes.now c.in_ok-class.class c.args.name.now c.in_ok-value.value) ≡ None =
    subst (λ (own : List ℕ). first_of (own_length_tests c.args.classes.now own c.args.name.now c.in_ok-value.value) ≡ None) c.as_slice.ensures c.in_ok-length.ensures.told in
    can_be_put c.args.classes.now c.args.table.now.heads c.args.before c.args.value.now (made c)
    (subst (λ (n : List ℕ). Passed c.args.classes.now c.args.table.now.heads c.args.before c.args.value.now (record (made c) { name = n })) (sym named) (record {
      value = c.in_ok-value.ensures.value;
      class = c.in_ok-class.ensures.class;
      cycle = c.in_ok-cycle.ensures.cycle;
      written = c.in_ok-length.ensures.length;
      by_name = c.in_ok-check_name.ensures;
      by_fit = c.in_ok-class.ensures.told;
      by_cycle = c.in_ok-cycle.ensures.told;
      by_length = short;
      by_counts = c.in_ok-check_counts.ensures;
    }))

pub returns-clause-told : goal.returns-clause-told
returns-clause-told c =
    let short : first_of (own_length_tests c.args.classes.now c.in_ok-class.class c.args.name.now c.in_ok-value.value) ≡ None =
    subst (λ (own : List ℕ). first_of (own_length_tests c.args.classes.now own c.args.name.now c.in_ok-value.value) ≡ None) c.as_slice.ensures c.in_ok-length.ensures.told in
    passes_all c.args.classes.now c.args.table.now.heads c.args.trees.now.trees c.args.name.now c.args.value.now c.args.before c.in_ok-value.value c.in_ok-class.class c.in_ok-value.ensures.value
    c.in_ok-class.ensures.class c.in_ok-check_name.ensures c.in_ok-check_no_tree.ensures c.in_ok-class.ensures.told c.in_ok-cycle.ensures.told short c.in_ok-check_counts.ensures

pub returns-clause-named : goal.returns-clause-named
returns-clause-named c = c.in_ok-name.ensures

pub returns-clause-can : goal.returns-clause-can
returns-clause-can c = done c
