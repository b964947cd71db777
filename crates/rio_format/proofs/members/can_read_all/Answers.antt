use Rattle.std.proofs.Common.{rules, ◌≡◌, ◌<◌, length, true}
use Rattle.rio_format.specs.Members.{can_read, names_with}
use Rattle.rio_format.proofs.ReadableMembers.{can_read_more}
use Rattle.rio_format.proofs.members.can_read_all.Goals as goal

pub loop-member-preserved : goal.loop-member-preserved
loop-member-preserved c =
    let met = c.loop-member.invariant in
    let here : c.loop-member.member-index < length c.args.members.now = search rules in
    let readable : can_read met.0 c.member-item.result.kind ≡ true = search (rules, c.can_read.ensures met.0 met.1) in (
      names_with c.member-item.result met.0,
      c.in_ok-note.ensures met.0 met.1,
      can_read_more c.args.members.now c.loop-member.member-index c.member-item.result met.0 here (c.member-item.is) readable met.2,
    )
