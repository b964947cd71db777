use Rattle.std.proofs.{Common.{◌≡◌, ◌+◌, ◌++◌, ◌∷◌, [], drop, refl}, lemmas.List.{drop_all}}
use Rattle.std.specs.List.{flat_map}
use Rattle.rio_write.proofs.SinkLaws.{bytes_lead, bytes_lead_end, bytes_lead_on}
use Rattle.rio_entry.specs.Leaves.{single_bytes}
use Rattle.rio_entry.proofs.Counting.{left_begins}
use Rattle.rio_entry.proofs.put.put_list.Goals as goal

pub loop-value-init : goal.loop-value-init
loop-value-init g c = bytes_lead g.S.Sink.stands (flat_map (single_bytes c.args.of) c.args.values.now) c.args.sink.now

pub loop-value-preserved : goal.loop-value-preserved
loop-value-preserved g c =
    let vs = c.args.values.now in
    let k = c.loop-value.value-index in
    let v = c.value-item.result in
    let split : drop k vs ≡ v ∷ drop (k + 1) vs = left_begins vs k v c.loop-value-test.true c.value-item.is in
    let step : flat_map (single_bytes c.args.of) (drop k vs) ≡ single_bytes c.args.of v ++ flat_map (single_bytes c.args.of) (drop (k + 1) vs) = rw split refl in
    bytes_lead_on g.S.Sink.stands (flat_map (single_bytes c.args.of) vs) c.args.sink.now _ _ _ c.loop-value.sink c.put_single.new.sink step c.in_ok-put_single.ensures c.loop-value.invariant

pub returns : goal.returns
returns g c =
    let vs = c.args.values.now in
    let past : drop c.loop-value.value-index vs ≡ [] = drop_all c.loop-value.value-index vs c.loop-value-test.false in
    let none : flat_map (single_bytes c.args.of) (drop c.loop-value.value-index vs) ≡ [] = rw past refl in
    bytes_lead_end g.S.Sink.stands (flat_map (single_bytes c.args.of) vs) c.args.sink.now _ c.loop-value.sink none c.loop-value.invariant
