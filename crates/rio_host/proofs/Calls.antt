-- What one call more makes of a host in memory.
use Rattle.std.proofs.Common.{◌≡◌, inl, inr, ℕ, ◌+◌, ◌≤◌, Option, Some, List, [], ◌∷◌, ◌++◌, length, length-append, length-take, take, min, subst, sym, refl, ap, ◌∙◌, arith}
use Rattle.std.proofs.{lemmas.Bool.{cases_lt}, lemmas.List.{take_all, take-append-le, take-take, append-nil, append_cancel_left}, lemmas.Option.{same_Some}}
use Rattle.rio_host.specs.{Image.{Same}, Host.{View, Elapses, After, OnDisk, Speaking, IsQuiet}, Flight.{Flies, SaysInParts}}
use Rattle.rio_host.specs.{declared.call.Call.{Call, TheVariants.{Sync, Saying, Said}}, declared.change.Change.{Change}, declared.disk.Disk.{Disk}}
use Rattle.rio_host.specs.Replay.{Makes, Flown, at_first, disk_behind, replay, MayLeave, Memory, and_then, disk_of, IsStill}
use Rattle.rio_host.specs.{ReplayLaws.{flown_push, makes_same, sound, left_now, now_left}, Memory.{mem_view, text_now}}
use Rattle.rio_host.proofs.{Kept.{disk_of-and_then}, Moments.{elapses_join}}

-- time goes on by one call
pub elapses_call : (m : Memory) (call : Call) (m' : Memory) (d s r d' s' r' : ℕ) (R : List ℕ → List ℕ → Type 0) → m' ≡ and_then m call → ((image said : List ℕ) → MayLeave (disk_behind (disk_of m) call) image said → R image said)
    → Elapses (mem_view m d s r) (mem_view m' d' s' r') R
elapses_call m call m' d s r d' s' r' R is has = subst (λ (x : Memory). Elapses (mem_view m d s r) (mem_view x d' s' r') R) (sym is) (record {
  later = omega (arith, long);
  nothing_else = λ t image said le left. elim (cases_lt (length m.calls) left.0) [
    | inl new ↦
        let all : take left.0 (m.calls ++ call ∷ []) ≡ m.calls ++ call ∷ [] = take_all left.0 (m.calls ++ call ∷ []) (omega (arith, long)) in
        inr (has image said (subst (λ (x : Disk). MayLeave x image said) (ap (λ (l : List Call). replay (at_first m.first) l) all ∙ disk_of-and_then m call) left.3))
    | inr old ↦ inl (left.0, left.1, old, subst (λ (l : List Call). MayLeave (replay (at_first m.first) l) image said) (take-append-le left.0 m.calls (call ∷ []) old) left.3)
  ];
  keeps = λ t image said le left. (left.0, left.1, omega (arith, long, left.2), subst (λ (l : List Call). MayLeave (replay (at_first m.first) l) image said) (sym (take-append-le left.0 m.calls (call ∷ []) left.2)) left.3);
})
  where
    long : length (m.calls ++ call ∷ []) ≡ length m.calls + 1
    long = length-append m.calls (call ∷ [])

-- ---- a call that sets a change in flight

flown_back : (base : List ℕ) (changes : List Change) (change : Change) (image : List ℕ) → Flown base (changes ++ change ∷ []) image → (next : List ℕ) × Flown base changes next × Makes change next image
flown_back base [] change image flown = (base, refl, subst (λ (l : List ℕ). Makes change base l) (sym flown.2) flown.1)
flown_back base (c ∷ changes) change image flown =
    let rest = flown_back flown.0 changes change image flown.2 in (rest.0, (flown.0, flown.1, rest.1), rest.2)

module _ (m : Memory) (call : Call) (change : Change) (contents : List ℕ)
    (adds : disk_behind (disk_of m) call ≡ record (disk_of m) { flight = (disk_of m).flight ++ change ∷ []; contents = contents })
    (m' : Memory) (is : m' ≡ and_then m call) where
  now : disk_of m' ≡ record (disk_of m) { flight = (disk_of m).flight ++ change ∷ []; contents = contents }
  now = ap (λ (x : Memory). disk_of x) is ∙ disk_of-and_then m call ∙ adds

  pub change_still : IsStill m → IsStill m'
  change_still still = ap (λ (d : Disk). d.speaking) now ∙ still

  pub change_holds : (disk_of m').contents ≡ contents
  change_holds = ap (λ (d : Disk). d.contents) now

  pub change_disk : (d s r d' : ℕ) → d ≤ d' → Makes change (disk_of m).contents contents → OnDisk (Makes change) (mem_view m d s r) (mem_view m' d' s r)
  change_disk d s r d' le makes = record {
    time = elapses_call m call m' d s r d' s r (After (Makes change) (mem_view m d s r)) is (λ image said left.
        let left' : MayLeave (record (disk_of m) { flight = (disk_of m).flight ++ change ∷ []; contents = contents }) image said = subst (λ (x : Disk). MayLeave x image said) adds left in
        let back = flown_back (disk_of m).base (disk_of m).flight change image left'.0 in
        (back.0, now_left m back.0 said (back.1, left'.1), back.2));
    told = ((disk_of m').contents, refl, subst (λ (l : List ℕ). Makes change (disk_of m).contents l) (sym change_holds) makes);
    said = ap (λ (d : Disk). some d.text) now;
    disk_faults = le;
    say_faults = refl;
  }
    where
      some : List ℕ → Option (List ℕ)
      some l = Some l

  pub change_flies : (d s r d' s' r' : ℕ) → Flies (Makes change) (mem_view m d s r) (mem_view m' d' s' r')
  change_flies d s r d' s' r' image said after =
      let old = left_now m after.0 said after.1 in
      now_left m' image said (subst (λ (x : Disk). MayLeave x image said) (sym now) (flown_push (disk_of m).base (disk_of m).flight change after.0 image old.0 after.2, old.1))

-- one that found no memory
pub change_none : (change : Change) (m m' : Memory) (d s r d' r' : ℕ) → m' ≡ m → d ≤ d' → OnDisk (Makes change) (mem_view m d s r) (mem_view m' d' s r')
change_none change m m' d s r d' r' is le = subst (λ (x : Memory). OnDisk (Makes change) (mem_view m d s r) (mem_view x d' s r')) (sym is) (record {
  time = record { later = omega arith; nothing_else = λ t i s le left. inl left; keeps = λ t i s le left. left };
  told = ((disk_of m).contents, refl, makes_same change (disk_of m).contents);
  said = refl;
  disk_faults = le;
  say_faults = refl;
})

-- ---- a sync that succeeded

module _ (m m' : Memory) (is : m' ≡ and_then m Sync) where
  synced : disk_of m' ≡ disk_behind (disk_of m) Sync
  synced = ap (λ (x : Memory). disk_of x) is ∙ disk_of-and_then m Sync

  pub sync_still : IsStill m → IsStill m'
  sync_still still = ap (λ (d : Disk). d.speaking) synced ∙ still

  pub sync_holds : (disk_of m').contents ≡ (disk_of m).contents
  sync_holds = ap (λ (d : Disk). d.contents) synced

  pub sync_disk : (d s r d' : ℕ) → d ≤ d' → OnDisk Same (mem_view m d s r) (mem_view m' d' s r)
  sync_disk d s r d' le = record {
    time = elapses_call m Sync m' d s r d' s r (After Same (mem_view m d s r)) is (λ image said left.
        (image, now_left m image said (subst (λ (l : List ℕ). Flown (disk_of m).base (disk_of m).flight l) (sym left.0) (sound (at_first m.first) m.calls refl), left.1), refl));
    told = ((disk_of m').contents, refl, sync_holds);
    said = ap (λ (d : Disk). some d.text) synced;
    disk_faults = le;
    say_faults = refl;
  }
    where
      some : List ℕ → Option (List ℕ)
      some l = Some l

  pub sync_quiet : (d s r : ℕ) → IsQuiet (mem_view m' d s r)
  sync_quiet d s r image said file left told =
      let now = left_now m' image said left in
      let flown : MayLeave (disk_behind (disk_of m) Sync) image said = subst (λ (x : Disk). MayLeave x image said) synced now in
      flown.0 ∙ sym sync_holds ∙ same_Some (disk_of m').contents file told

-- ---- a say

module _ (m m' : Memory) (bytes : List ℕ) (is : m' ≡ and_then (and_then m (Saying bytes)) Said) where
  abbrev saying : Memory
  saying = and_then m (Saying bytes)

  begun : disk_of saying ≡ disk_behind (disk_of m) (Saying bytes)
  begun = disk_of-and_then m (Saying bytes)

  ended : disk_of m' ≡ disk_behind (disk_behind (disk_of m) (Saying bytes)) Said
  ended = ap (λ (x : Memory). disk_of x) is ∙ disk_of-and_then saying Said ∙ ap (λ (d : Disk). disk_behind d Said) begun

  pub say_still : IsStill m'
  say_still = ap (λ (d : Disk). d.speaking) ended

  pub say_holds : (disk_of m').contents ≡ (disk_of m).contents
  say_holds = ap (λ (d : Disk). d.contents) ended

  pub say_text : (disk_of m').text ≡ (disk_of m).text ++ bytes
  say_text = ap (λ (d : Disk). d.text) ended

  pub say_time : (d s r d' s' r' : ℕ) → Elapses (mem_view m d s r) (mem_view m' d' s' r') (Speaking bytes (mem_view m d s r))
  say_time d s r d' s' r' = elapses_join (Speaking bytes (mem_view m d s r))
      (elapses_call m (Saying bytes) saying d s r d s r (Speaking bytes (mem_view m d s r)) refl (λ image said left.
      ((disk_of m).text, now_left m image (disk_of m).text (left.0, (0, sym (append-nil (disk_of m).text))), left.1)))
      (elapses_call saying Said m' d s r d' s' r' (Speaking bytes (mem_view m d s r)) is (λ image said left.
      let left' : MayLeave (disk_behind (disk_behind (disk_of m) (Saying bytes)) Said) image said = subst (λ (x : Disk). MayLeave (disk_behind x Said) image said) begun left in
      let none : take left'.1.0 [] ≡ [] = take_all left'.1.0 [] (omega arith) in (
        (disk_of m).text,
        now_left m image (disk_of m).text (left'.0, (0, sym (append-nil (disk_of m).text))),
        (
          length bytes,
          left'.1.1 ∙ ap (λ (l : List ℕ). ((disk_of m).text ++ bytes) ++ l) none ∙ append-nil ((disk_of m).text ++ bytes)
              ∙ ap (λ (l : List ℕ). (disk_of m).text ++ l) (sym (take_all (length bytes) bytes (omega arith))),
        ),
      )))
      (λ image said q. q)

  pub says_in_parts : IsStill m → (d s r d' s' r' : ℕ) → SaysInParts (mem_view m d s r) (mem_view m' d' s' r')
  says_in_parts still d s r d' s' r' image before more left told =
      let text : before ≡ (disk_of m).text = text_now m image before still left in
      let all : (disk_of m).text ++ bytes ≡ (disk_of m).text ++ more = sym say_text ∙ same_Some (disk_of m').text (before ++ more) told ∙ ap (λ (l : List ℕ). l ++ more) text in
      let same : bytes ≡ more = append_cancel_left (disk_of m).text bytes more all in
      let flown = (left_now m image before left).0 in (
        λ k.
            let parts : before ++ take k more ≡ (disk_of m).text ++ take k bytes = ap (λ (l : List ℕ). l ++ take k more) text ∙ ap (λ (l : List ℕ). (disk_of m).text ++ take k l) (sym same) in
            let here : MayLeave (disk_of saying) image (before ++ take k more) = subst (λ (x : Disk). MayLeave x image (before ++ take k more)) (sym begun) (flown, (k, parts)) in
            let on = elapses_call saying Said m' d s r d' s' r' (λ i t. Unit {0}) is (λ i t left. tt) in
            on.keeps (length m.calls) image (before ++ take k more) (omega (arith, length-append m.calls (Saying bytes ∷ [])))
            (let l = now_left saying image (before ++ take k more) here in (l.0, omega (arith, l.1, length-append m.calls (Saying bytes ∷ [])), l.2, l.3)),
        now_left m' image (before ++ more) (subst (λ (x : Disk). MayLeave x image (before ++ more)) (sym ended)
            (flown, (0, ap (λ (l : List ℕ). l ++ more) text ∙ ap (λ (l : List ℕ). (disk_of m).text ++ l) (sym same) ∙ sym (append-nil ((disk_of m).text ++ bytes))))),
      )

-- what is said of a front of some bytes is said of them
take-take_min : (k n : ℕ) (bytes : List ℕ) → take k (take n bytes) ≡ take (min k n) bytes
take-take_min k n bytes = elim (cases_lt n k) [
  | inl past ↦ take_all k (take n bytes) (omega (arith, length-take n bytes)) ∙ ap (λ (i : ℕ). take i bytes) (let e : n ≡ min k n = omega arith in e)
  | inr within ↦ take-take k n bytes within ∙ ap (λ (i : ℕ). take i bytes) (let e : k ≡ min k n = omega arith in e)
]

pub speaking_front : (n : ℕ) (bytes : List ℕ) (v : View) (image said : List ℕ) → Speaking (take n bytes) v image said → Speaking bytes v image said
speaking_front n bytes v image said speaks = (speaks.0, speaks.1, (min speaks.2.0 n, speaks.2.1 ∙ ap (λ (l : List ℕ). speaks.0 ++ l) (take-take_min speaks.2.0 n bytes)))
