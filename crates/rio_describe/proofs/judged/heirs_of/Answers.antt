use Rattle.std.proofs.Common.{◌≡◌, ◌+◌, ◌-◌, suc, length, arith}
use Rattle.rio_format.specs.Lists.{listed}
use Rattle.rio_describe.proofs.HeirLaws.{known_at, known_deeper, none_are_heirs, none_known, the_heirs, when_nothing_more}
use Rattle.rio_describe.proofs.judged.heirs_of.Goals as goal

pub loop-left-init : goal.loop-left-init
loop-left-init c =
    let classes = listed c.args.lists.now in
    record {
      small = omega (arith, c.len-left.ensures.value);
      sound = none_are_heirs classes c.new-heirs.result c.new-heirs.ensures;
      known = known_at classes c.new-heirs.result 0 (length classes + 1 - (c.len-left.result + 1)) (omega (arith, c.len-left.ensures.value)) (none_known classes c.new-heirs.result);
    }

pub returns-then-len-before : goal.returns-then-len-before
returns-then-len-before c =
    let classes = listed c.args.lists.now in
    let old = c.loop-left.heirs in
    let new = c.judge_each.new.heirs in
    let same : length new ≡ length old = omega (arith, c.len.ensures, c.len-before.ensures) in
    when_nothing_more classes old new c.in_ok-judge_each.ensures c.loop-left.invariant.sound same

pub loop-left-preserved : goal.loop-left-preserved
loop-left-preserved c =
    let classes = listed c.args.lists.now in
    let old = c.loop-left.heirs in
    let new = c.judge_each.new.heirs in
    let levels = length classes + 1 - c.loop-left.left in
    let small = c.loop-left.invariant.small in
    let deeper : suc levels ≡ length classes + 1 - (c.loop-left.left - 1) = omega arith in
    record {
      small = omega arith;
      sound = c.in_ok-judge_each.ensures.sound c.loop-left.invariant.sound;
      known = known_at classes new (suc levels) (length classes + 1 - (c.loop-left.left - 1)) deeper (known_deeper classes levels old new c.in_ok-judge_each.ensures c.loop-left.invariant.known);
    }

pub returns : goal.returns
returns c =
    let classes = listed c.args.lists.now in
    let all : length classes + 1 - c.loop-left.left ≡ length classes + 1 = omega arith in
    the_heirs classes c.loop-left.heirs c.loop-left.invariant.sound (known_at classes c.loop-left.heirs (length classes + 1 - c.loop-left.left) (length classes + 1) all c.loop-left.invariant.known)
