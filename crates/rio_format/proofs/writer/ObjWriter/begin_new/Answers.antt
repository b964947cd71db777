use Rattle.std.proofs.{Common.{rules, ◌≡◌, ℕ, ◌<◌, ◌≤◌, ◌^◌, ◌+◌, ◌-◌, length, nat_eq, arith}, lemmas.List.{length-append}}
use Rattle.indexmap.specs.{IndexMap.{insert_entry}, IndexSet.{insert_key}}
use Rattle.rio_format.specs.Writer.{spelled}
use Rattle.rio_format.proofs.Kept.{key_kept, entry_kept, opened_kept}
use Rattle.rio_format.proofs.writer.ObjWriter.begin_new.Goals as goal

pub invariant_of-self-2 : goal.invariant_of-self-2
invariant_of-self-2 c =
    let opens = c.in_ok-begun.ensures in
    let before = spelled c.self.inside.names in
    let next = c.place-place.result in
    let old_end = length c.self.inside.bytes.bytes in
    let new_end = length c.open_spelled.new.bytes.bytes in
    let labels : c.keep_label.new.labels.keys ≡ insert_key nat_eq c.self.inside.labels.keys next = search rules in
    let names : spelled c.keep_name.new.names ≡ insert_entry nat_eq before (next + 4) c.in_ok-name.name.items = search rules in
    let place : next < 2 ^ 30 - 2 = search rules in
    let is_next : next ≡ c.self.inside.start + old_end = search rules in
    let class_place : next + 4 < 2 ^ 30 + 2 = omega arith in
    let longer : old_end + 8 ≤ new_end = rw opens.1 (simp length-append (omega arith)) in
    let within : next + 4 < c.self.inside.start + new_end = omega (arith, is_next, longer) in
    let q = key_kept (λ (p : ℕ). p < 2 ^ 30 - 2) nat_eq c.self.inside.labels.keys next c.self.invariant.2 place in
    let r = entry_kept (λ (p : ℕ). p < 2 ^ 30 + 2) nat_eq before (next + 4) c.in_ok-name.name.items c.self.invariant.3 class_place in
    let t = entry_kept (λ (p : ℕ). p < c.self.inside.start + new_end) nat_eq before (next + 4) c.in_ok-name.name.items (λ k d lt. omega (arith, longer, c.self.invariant.4 k d lt)) within in
    let s = opened_kept c.self.inside.opened.items old_end old_end new_end c.self.invariant.1 (omega (arith, longer)) (omega (arith, longer)) in
    (opens.3 c.self.invariant.0, rw opens.2 s, rw labels q, rw names r, rw names t)
