use Rattle.std.proofs.Common.{ℕ, ◌+◌, List, ◌++◌, ◌||◌, sym, ap, ◌∙◌, arith}
use Rattle.rio_key.specs.{BasketEntries.{entries_in}, OpenBasket.{OpenBasket, have_one_length}, BasketRecord.{basket_key, basket_key_length}}
use Rattle.rio_key.proofs.{HeldLaws.{data_same}, RecordMade.{four_spare, made_is}, WrittenBaskets.{is_basket_record}}
use Rattle.rio_key.proofs.basket.Basket.to_record.Goals as goal

pub data_length-requires : goal.data_length-requires
data_length-requires c =
    let k = basket_key_length c.args.tree.now c.args.branch.now in
    omega (arith, c.requires.record_fits, data_same 0 k c.args.self.now)

pub returns-clause-exact : goal.returns-clause-exact
returns-clause-exact c =
    let k = basket_key_length c.args.tree.now c.args.branch.now in
    let is = c.in_ok-key.ensures ∙ ap (basket_key c.args.place c.args.tree.now c.args.branch.now c.args.datime) (c.data_length.ensures k) in
    made_is c.args.place c.args.tree.now c.args.branch.now c.args.datime c.args.self.now c.in_ok-key.key is c.head.result c.head.ensures (c.from.result + c.from-2.result + 4) (omega arith) _ _ _ _ _ _
    c.new-record.ensures c.in_ok-reserve.ensures.ok c.in_ok-write_key.ensures c.in_ok-write_basket_head.ensures.ok c.in_ok-put_data.ensures c.in_ok-pad4.ensures

pub returns-clause-spare : goal.returns-clause-spare
returns-clause-spare c =
    let k = basket_key_length c.args.tree.now c.args.branch.now in
    let is = c.in_ok-key.ensures ∙ ap (basket_key c.args.place c.args.tree.now c.args.branch.now c.args.datime) (c.data_length.ensures k) in
    four_spare c.args.place c.args.tree.now c.args.branch.now c.args.datime c.args.self.now c.in_ok-key.key is c.head.result c.head.ensures (c.from.result + c.from-2.result + 4) (omega arith) _ _ _ _ _ _
    c.new-record.ensures c.in_ok-reserve.ensures.ok c.in_ok-write_key.ensures c.in_ok-write_basket_head.ensures.ok c.in_ok-put_data.ensures c.in_ok-pad4.ensures c.requires

pub returns-clause-read : goal.returns-clause-read
returns-clause-read c rest =
    let k = basket_key_length c.args.tree.now c.args.branch.now in
    let now = c.args.self.now in
    let is = c.in_ok-key.ensures ∙ ap (basket_key c.args.place c.args.tree.now c.args.branch.now c.args.datime) (c.data_length.ensures k) in
    let made =
    made_is c.args.place c.args.tree.now c.args.branch.now c.args.datime now c.in_ok-key.key is c.head.result c.head.ensures (c.from.result + c.from-2.result + 4) (omega arith) _ _ _ _ _ _
    c.new-record.ensures c.in_ok-reserve.ensures.ok c.in_ok-write_key.ensures c.in_ok-write_basket_head.ensures.ok c.in_ok-put_data.ensures c.in_ok-pad4.ensures in
    let even = ap (λ (o : OpenBasket). o.offsets || have_one_length o.entries) (sym c.self.view_is) ∙ c.self.invariant.2 in
    ap (λ (b : List ℕ). entries_in now.offsets (b ++ rest)) made ∙ (is_basket_record c.args.place c.args.tree.now c.args.branch.now c.args.datime now c.requires even).entries_are rest
