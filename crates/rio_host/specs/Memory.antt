-- A host in memory as its callers see it, and that it is lawful.
use Rattle.std.specs.Prelude.{◌≡◌, ℕ, List, [], ◌++◌, length, take, Some, Option, None}
use Rattle.std.proofs.{Common.{refl, sym, ◌∙◌, ap, subst, arith}, lemmas.List.{take_all, append-nil}, lemmas.Option.{same_Some}}
use Rattle.rio_num.specs.Room.{Room}
use Rattle.rio_host.specs.{Host.{View, IsLawful}, Replay.{Flown, Memory, at_first, disk_of, LeftSince, IsStill}, ReplayLaws.{sound, left_now, now_left}}

abbrev pub mem_view : Memory → ℕ → ℕ → ℕ → View
mem_view m disk_faults say_faults reads = record {
  holds = Some (disk_of m).contents;
  said = Some (disk_of m).text;
  now = length m.calls;
  left_since = LeftSince m;
  disk_faults = disk_faults;
  say_faults = say_faults;
  reads = reads;
}

-- what reads give: the first image until a write is done
abbrev pub held_bytes : Room → Option (List ℕ) → List ℕ
held_bytes first None = first.bytes
held_bytes first (Some held) = held

-- the bytes and the text that are kept are those of the disk
pub record IsKept (m : Memory) (held text : List ℕ) : Type 0 where
  pub contents : held ≡ (disk_of m).contents
  pub said : text ≡ (disk_of m).text

-- where nothing is being said, a stop leaves the text that was said
pub text_now : (m : Memory) (image said : List ℕ) → IsStill m → LeftSince m (length m.calls) image said → said ≡ (disk_of m).text
text_now m image said still left =
    let now = left_now m image said left in
    let none : take now.1.0 (disk_of m).speaking ≡ [] = ap (λ (l : List ℕ). take now.1.0 l) still ∙ take_all now.1.0 [] (omega arith) in
    now.1.1 ∙ ap (λ (l : List ℕ). (disk_of m).text ++ l) none ∙ append-nil (disk_of m).text

pub mem_lawful : (m : Memory) (d s r : ℕ) → IsStill m → IsLawful (mem_view m d s r)
mem_lawful m d s r still = record {
  earlier = λ t u image said le left. (left.0, omega (arith, left.1, le), left.2, left.3);
  text = λ image said all left told. text_now m image said still left ∙ same_Some (disk_of m).text all told;
  as_read = λ image holds.
      let disk = disk_of m in
      let is : image ≡ disk.contents = sym (same_Some disk.contents image holds) in
      let flown = subst (λ (l : List ℕ). Flown disk.base disk.flight l) (sym is) (sound (at_first m.first) m.calls refl) in
      (disk.text, now_left m image disk.text (flown, (0, sym (append-nil disk.text))));
}
