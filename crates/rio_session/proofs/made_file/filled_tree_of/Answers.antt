use Rattle.std.proofs.Common.{◌≡◌, ◌∙◌, ap, sym}
use Rattle.rio_tree.specs.{HeaderLength.{bare_head}, WrittenLaws.{stated_defs}}
use Rattle.rio_session.proofs.FilledMade.{begun_bounded, begun_bytes, begun_low}
use Rattle.rio_session.proofs.made_file.filled_tree_of.Goals as goal

pub header_bytes-requires : goal.header_bytes-requires
header_bytes-requires c =
    let stated : c.in_ok-defs.defs ≡ stated_defs c.args.tree.now.head.branches = c.in_ok-defs.ensures ∙ ap stated_defs c.as_slice.ensures in
    begun_low c.args.tree.now c.requires.fillable c.requires.few c.as_slice-2.result.now c.as_slice-2.ensures c.as_slice-3.result.now (c.as_slice-3.ensures ∙ stated) c.is_long_tree.result c.is_long_tree.ensures c.if-is_long_tree.false
    c.as_slice-5.result.now c.in_ok-bare.bare c.as_slice-5.ensures (c.in_ok-bare.ensures ∙ ap bare_head (c.as_slice-4.ensures ∙ stated))

pub invariant_of-result : goal.invariant_of-result
invariant_of-result c =
    let tree = c.args.tree.now in
    let stated : c.in_ok-defs.defs ≡ stated_defs tree.head.branches = c.in_ok-defs.ensures ∙ ap stated_defs c.as_slice.ensures in
    record {
      header = begun_bytes tree c.requires.fillable c.requires.few c.as_slice-2.result.now c.as_slice-2.ensures c.as_slice-3.result.now (c.as_slice-3.ensures ∙ stated) c.is_long_tree.result c.is_long_tree.ensures c.if-is_long_tree.false
          c.as_slice-5.result.now c.in_ok-copy.field-0 c.in_ok-bare.bare c.in_ok-new.field-0 c.in_ok-header_bytes.header_bytes c.as_slice-5.ensures (c.in_ok-bare.ensures ∙ ap bare_head (c.as_slice-4.ensures ∙ stated)) c.in_ok-header_bytes.ensures
          c.in_ok-copy.ensures c.in_ok-new.ensures;
      bounded = begun_bounded tree c.requires.fillable c.requires.few c.as_slice-2.result.now c.as_slice-2.ensures c.as_slice-3.result.now (c.as_slice-3.ensures ∙ stated) c.is_long_tree.result c.is_long_tree.ensures c.if-is_long_tree.false
          c.in_ok-copy.field-0 c.in_ok-new.field-0 c.in_ok-copy.ensures c.in_ok-new.ensures;
    }
