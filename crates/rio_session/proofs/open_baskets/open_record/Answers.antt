use Rattle.std.proofs.Common.{slice_get, sym, ap, ◌∙◌, arith}
use Rattle.std.specs.Option.{option_copied, option_map}
use Rattle.rio_fill.specs.Fill.{BranchFill, basket_of}
use Rattle.rio_session.specs.Fills.{FilledTree}
use Rattle.rio_session.proofs.PutOpen.{record_exact, record_fits, record_long, record_short}
use Rattle.rio_session.proofs.open_baskets.open_record.Goals as goal

pub to_record-requires : goal.to_record-requires
to_record-requires c =
    let t = c.args.tree.now in
    let bounded = c.stays_bounded.ensures in
    let def_is = sym (ap option_copied c.in-Some-Some.is-0) ∙ c.def.ensures ∙ ap (λ (x : FilledTree). option_map (λ (b : BranchFill). b.def) (slice_get x.fill.branches c.args.k)) c.tree.view_is in
    let basket_is = sym (ap option_copied c.in-Some-Some.is-1) ∙ c.basket.ensures ∙ ap (λ (x : FilledTree). option_map basket_of (slice_get x.fill.branches c.args.k)) c.tree.view_is in
    let named = c.as_slice.ensures ∙ ap (λ (x : FilledTree). x.name) c.tree.view_is in
    record_fits t.fill.branches c.args.k c.in-Some-Some.def.now def_is c.in-Some-Some.basket.now basket_is t.name c.args.datime c.args.place bounded.named (omega arith) c.requires.low bounded.each _ _ named c.as_slice-in-Some-Some.ensures

pub returns-in-Some-Some-clause-exact : goal.returns-in-Some-Some-clause-exact
returns-in-Some-Some-clause-exact c b here =
    let t = c.args.tree.now in
    let bounded = c.stays_bounded.ensures in
    let def_is = sym (ap option_copied c.in-Some-Some.is-0) ∙ c.def.ensures ∙ ap (λ (x : FilledTree). option_map (λ (b : BranchFill). b.def) (slice_get x.fill.branches c.args.k)) c.tree.view_is in
    let basket_is = sym (ap option_copied c.in-Some-Some.is-1) ∙ c.basket.ensures ∙ ap (λ (x : FilledTree). option_map basket_of (slice_get x.fill.branches c.args.k)) c.tree.view_is in
    let named = c.as_slice.ensures ∙ ap (λ (x : FilledTree). x.name) c.tree.view_is in
    record_exact t.fill.branches c.args.k c.in-Some-Some.def.now def_is c.in-Some-Some.basket.now basket_is t.name c.args.datime c.args.place bounded.named (omega arith) c.requires.low bounded.each _ _ named c.as_slice-in-Some-Some.ensures c.to_record.result c.to_record.ensures.exact b here

pub returns-in-Some-Some-clause-long : goal.returns-in-Some-Some-clause-long
returns-in-Some-Some-clause-long c b here =
    let t = c.args.tree.now in
    let bounded = c.stays_bounded.ensures in
    let def_is = sym (ap option_copied c.in-Some-Some.is-0) ∙ c.def.ensures ∙ ap (λ (x : FilledTree). option_map (λ (b : BranchFill). b.def) (slice_get x.fill.branches c.args.k)) c.tree.view_is in
    let basket_is = sym (ap option_copied c.in-Some-Some.is-1) ∙ c.basket.ensures ∙ ap (λ (x : FilledTree). option_map basket_of (slice_get x.fill.branches c.args.k)) c.tree.view_is in
    let named = c.as_slice.ensures ∙ ap (λ (x : FilledTree). x.name) c.tree.view_is in
    record_long t.fill.branches c.args.k c.in-Some-Some.def.now def_is c.in-Some-Some.basket.now basket_is t.name c.args.datime c.args.place bounded.named (omega arith) c.requires.low bounded.each _ _ named c.as_slice-in-Some-Some.ensures c.to_record.result c.to_record.ensures.exact b here

pub returns-in-Some-Some-clause-short : goal.returns-in-Some-Some-clause-short
returns-in-Some-Some-clause-short c =
    let t = c.args.tree.now in
    let bounded = c.stays_bounded.ensures in
    let def_is = sym (ap option_copied c.in-Some-Some.is-0) ∙ c.def.ensures ∙ ap (λ (x : FilledTree). option_map (λ (b : BranchFill). b.def) (slice_get x.fill.branches c.args.k)) c.tree.view_is in
    let basket_is = sym (ap option_copied c.in-Some-Some.is-1) ∙ c.basket.ensures ∙ ap (λ (x : FilledTree). option_map basket_of (slice_get x.fill.branches c.args.k)) c.tree.view_is in
    let named = c.as_slice.ensures ∙ ap (λ (x : FilledTree). x.name) c.tree.view_is in
    record_short t.fill.branches c.args.k c.in-Some-Some.def.now def_is c.in-Some-Some.basket.now basket_is t.name c.args.datime c.args.place bounded.named (omega arith) c.requires.low bounded.each _ _ named c.as_slice-in-Some-Some.ensures c.to_record.result c.to_record.ensures.exact
