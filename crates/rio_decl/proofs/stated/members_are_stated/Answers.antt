use Rattle.std.proofs.Common.{rules, ◌≡◌, ◌+◌, ◌<◌, ◌++◌, ◌∷◌, [], true, false, length, drop, refl, sym, ap, ◌∙◌}
use Rattle.std.specs.{List.{list_any}, Str.{bytes_eq}}
use Rattle.rio_model.specs.Stated.{are_stated_members, is_stated_member}
use Rattle.rio_model.proofs.ReadClasses.{known_none}
use Rattle.rio_decl.proofs.KnownLaws.{known_stated, not_stated, parts_here, parts_more, same_member, stated_more}
use Rattle.rio_decl.proofs.stated.members_are_stated.Goals as goal

pub loop-member-init : goal.loop-member-init
loop-member-init c = (
  [],
  known_none,
  record { all = λ name. ap (list_any (bytes_eq name)) c.new-passed.ensures; count = λ name. ap (list_any (bytes_eq name)) c.new-counters.ensures },
  refl,
  refl,
)

pub returns-then-not-member_is_stated : goal.returns-then-not-member_is_stated
returns-then-not-member_is_stated c =
    let members = c.args.members.now in
    let k = c.loop-member.member-index in
    let m = c.member-item.result in
    let met = c.loop-member.invariant in
    let here : k < length members = search rules in
    let parts = parts_here members k m here c.member-item.is met.0 met.3 in
    let same = same_member met.0 m (drop (k + 1) members) members parts met.1 c.loop-member.passed c.loop-member.counters c.in_ok-counting.counting met.2 c.in_ok-counting.ensures in
    let refused : is_stated_member met.0 m (drop (k + 1) members) ≡ false = sym same ∙ sym c.member_is_stated.ensures ∙ c.if-not-member_is_stated.true in
    not_stated members k m here c.member-item.is met.0 (are_stated_members [] members) refused met.4

pub loop-member-preserved : goal.loop-member-preserved
loop-member-preserved c =
    let members = c.args.members.now in
    let k = c.loop-member.member-index in
    let m = c.member-item.result in
    let met = c.loop-member.invariant in
    let here : k < length members = search rules in
    let parts = parts_here members k m here c.member-item.is met.0 met.3 in
    let same = same_member met.0 m (drop (k + 1) members) members parts met.1 c.loop-member.passed c.loop-member.counters c.in_ok-counting.counting met.2 c.in_ok-counting.ensures in
    let stated : is_stated_member met.0 m (drop (k + 1) members) ≡ true = sym same ∙ sym c.member_is_stated.ensures ∙ c.if-not-member_is_stated.false in (
      met.0 ++ m ∷ [],
      known_stated met.0 m (drop (k + 1) members) met.1 stated,
      c.in_ok-pass_member.ensures met.0 met.2,
      parts_more members k m here c.member-item.is met.0 met.3,
      stated_more members k m here c.member-item.is met.0 (are_stated_members [] members) stated met.4,
    )
