-- What writing the list of all classes needs, and how it begins again from the classes before.
use Rattle.std.proofs.Common.{◌≡◌, ℕ, ◌+◌, ◌-◌, ◌<◌, ◌≤◌, List, [], ◌∷◌, ◌++◌, length, take, Bool, true, false, Option, Some, None, Result, Ok, Err, refl, sym, ap, subst, ◌∙◌, arith}
use Rattle.std.proofs.{Math.Seq.{take-append_seam}, lemmas.Bool.{leb-false}, lemmas.List.{length-append}}
use Rattle.std.specs.{Prelude.{if◌then◌else◌, nat_le}, Option.{option_or}}
use Rattle.rio_host.specs.Host.{View}
use Rattle.rio_format.specs.declared.class.ClassDef.{ClassDef}
use Rattle.rio_key.specs.declared.head.KeyHead.{KeyHead}
use Rattle.rio_model.specs.{Declaring.{class_limit, declared, rule_fault}, StateClasses.{AreAccepted, StateClasses}}
use Rattle.rio_model.specs.declared.declare.DeclareFault.{DeclareFault, TheVariants.{TooMany}}
use Rattle.rio_chain.specs.{Changes.{with_record}, Placing.{file_end, place_of, with_segment}, Segments.{IsRecord}, declared.record.NewRecord.{NewRecord}}
use Rattle.rio_judge.specs.declared.work.NewClass.{NewClass}
use Rattle.rio_state.specs.Closing.{end_limit}
use Rattle.rio_effect.specs.ClassRecord.{list_key, next_list_cycle}
use Rattle.rio_recover.specs.Classes.{HasListCycle}
use Rattle.rio_session.specs.{Changing.{Changing, ChangesFile}, Due.{need_with}, Kept.{released_link, released_segment}, Lists.{CanBeListedAt, CanReplace, IsDeclarable, IsListRecord, listing, listing_at, with_new}}
use Rattle.rio_session.specs.{Says.{NotDone}, SessionState.{SessionState}}
use Rattle.rio_session.specs.declared.fault.SessionFault.{SessionFault, TheVariants.{HostFault, SayFault, NoMemory}}
use Rattle.rio_session.specs.SessionState.{baskets_of}

-- ---- how many classes there are

within_limit : (rule : Option DeclareFault) (n : ℕ) → option_or rule (if nat_le class_limit n then Some TooMany else None) ≡ None → n < 4096
within_limit (Some fault) n e = absurd cc
within_limit None n e = by (nat_le class_limit n) refl e
  where
    by : (b : Bool) → nat_le class_limit n ≡ b → (if b then Some TooMany else None) ≡ None → n < 4096
    by true is e = absurd cc
    by false is e = leb-false 4096 n is

few_accepted : (before after : List ClassDef) → length before ≤ 4096 → AreAccepted before after → length before + length after ≤ 4096
few_accepted before [] few accepted = omega (arith, few)
few_accepted before (c ∷ after) few accepted =
    let here = within_limit (rule_fault before c) (length before) accepted.0.allowed in
    let longer = length-append before (c ∷ []) in
    omega (arith, longer, few_accepted (before ++ c ∷ []) after (omega (arith, longer, here)) accepted.2)

-- no more than can be declared
pub few_classes : (classes : List ClassDef) → StateClasses classes → length classes ≤ 4096
few_classes classes state = omega (arith, few_accepted [] classes (omega arith) state)

-- ---- the cycle of the next list

pub next_low : (info : Option KeyHead) (classes : List ClassDef) → HasListCycle info classes → next_list_cycle info ≤ length classes + 2
next_low None classes listed = omega arith
next_low (Some h) classes listed = omega (arith, listed)

-- a class that can be declared as it is stands last then
pub with_declared : (t s : SessionState) (d : NewClass) (registry : List ClassDef) → t ≡ s → IsDeclarable s.classes d → registry ≡ t.classes ++ declared t.classes d.class ∷ []
    → record t { classes = registry } ≡ with_new s d
with_declared t s d registry is can grown =
    let all : registry ≡ s.classes ++ d.class ∷ [] =
    grown ∙ ap (λ (cs : List ClassDef). cs ++ declared cs d.class ∷ []) (ap (λ (x : SessionState). x.classes) is) ∙ ap (λ (k : ClassDef). s.classes ++ k ∷ []) can.stays in
    λ i. record (is i) { classes = all i }

-- with one class more the cycle is low enough for one more list
pub still_listed : (info : Option KeyHead) (classes classes' : List ClassDef) (class : ClassDef) → classes' ≡ classes ++ class ∷ [] → HasListCycle info classes → HasListCycle info classes'
still_listed None classes classes' class is listed = tt
still_listed (Some h) classes classes' class is listed = omega (arith, listed, ap length is, length-append classes (class ∷ []))

-- ---- the record that is made for a place

key_seek : (place datime cycle : ℕ) (classes : List ClassDef) → (list_key place datime cycle classes).seek ≡ place
unfolding list_key
key_seek place datime cycle classes = refl

key_cycle : (place datime cycle : ℕ) (classes : List ClassDef) → (list_key place datime cycle classes).cycle ≡ cycle
unfolding list_key
key_cycle place datime cycle classes = refl

module _ (s : SessionState) (place : ℕ) (made : NewRecord) (r : IsListRecord s place made) where
  seek_is : made.head.seek ≡ place
  seek_is = ap (λ (h : KeyHead). h.seek) r.head ∙ key_seek place s.datime (next_list_cycle s.info) s.classes

  cycle_is : made.head.cycle ≡ next_list_cycle s.info
  cycle_is = ap (λ (h : KeyHead). h.cycle) r.head ∙ key_cycle place s.datime (next_list_cycle s.info) s.classes

  -- it can take the place of the record before
  pub can_replace : CanBeListedAt s place → CanReplace s made
  can_replace at = record {
    whole = subst (λ (p : ℕ). IsRecord p made.bytes.bytes) (sym seek_is) r.whole;
    place = seek_is ∙ at.place_is ∙ ap (place_of s.segments) (sym r.long);
    spare = r.spare;
    cycle = omega (arith, cycle_is, at.cycle);
    room = subst (λ (x : ℕ × ℕ). file_end (with_segment x.0 x.1 s.segments) + need_with s.name s.heads (2 + length s.heads + length (baskets_of s)) s.trees ≤ end_limit) (λ i. (sym seek_is i, sym r.long i)) at.room;
  }

  -- and with it the same is changed
  pub same_listing : (text : List ℕ) (cost : ℕ) → listing s made text cost ≡ listing_at s place text cost
  same_listing text cost = λ i. record {
    changes = with_record (seek_is i) (r.bytes i) ∷ released_link s.info;
    kept = record s {
      segments = released_segment s.info (with_segment (seek_is i) (length (r.bytes i)) s.segments);
      info = Some (r.head i);
    };
    text = text;
    cost = cost;
  }

-- ---- the class before

pub not_done : (X : Type 0) (p : Changing) (old new : View) (before after : SessionState) (fault : SessionFault) → fault ≡ NoMemory → ChangesFile {X = X} p old new before after (Err fault) → NotDone old new before after
not_done X p old new before after fault is h = subst (λ (f : SessionFault). ChangesFile {X = X} p old new before after (Err f)) is h

module _ (s : SessionState) (d : NewClass) where
  -- A change by the session with the class declared is one by the session as it was, where memory didn't run out.
  pub from_before : {X : Type 0} (p : Changing) (old new : View) (after : SessionState) (answer : Result X SessionFault) → (answer ≡ Err NoMemory → ⊥)
      → ChangesFile p old new (with_new s d) after answer → ChangesFile p old new s after answer
  from_before p old new after (Ok x) some h = record {
    time = h.time;
    reached = h.reached;
    holds = h.holds;
    says = h.says;
    quiet = h.quiet;
    told = h.told;
    faults = h.faults;
    kept = h.kept;
  }
  from_before p old new after (Err HostFault) some h = record { time = h.time; told = h.told; said = h.said; faults = h.faults; failed = h.failed }
  from_before p old new after (Err SayFault) some h = record {
    time = h.time;
    reached = h.reached;
    holds = h.holds;
    quiet = h.quiet;
    told = h.told;
    says = h.says;
    some = h.some;
    faults = h.faults;
    failed = h.failed;
  }
  from_before p old new after (Err NoMemory) some h = absurd (some refl)

  -- all classes but the last are those of before
  pub last_forgotten : (classes classes' : List ClassDef) → classes ≡ s.classes ++ d.class ∷ [] → classes' ≡ take (length classes - 1) classes → classes' ≡ s.classes
  last_forgotten classes classes' is taken =
      let short : length (s.classes ++ d.class ∷ []) - 1 ≡ length s.classes = omega (arith, length-append s.classes (d.class ∷ [])) in
      taken
      ∙ ap (λ (cs : List ClassDef). take (length cs - 1) cs) is
      ∙ ap (λ (n : ℕ). take n (s.classes ++ d.class ∷ [])) short
      ∙ take-append_seam s.classes (d.class ∷ [])

  -- without it the session is as it was
  same_without : (t : SessionState) (classes' : List ClassDef) → t ≡ with_new s d → classes' ≡ take (length t.classes - 1) t.classes → record t { classes = classes' } ≡ s
  same_without t classes' is taken =
      let same = last_forgotten t.classes classes' (ap (λ (x : SessionState). x.classes) is) taken in
      (λ i. record (is i) { classes = classes' }) ∙ (λ i. record s { classes = same i })

  -- between the session is as with the class declared
  module _ (between : SessionState) (is : between ≡ with_new s d) (old new : View) where
    pub changes_before : {X : Type 0} (place : ℕ) (text : List ℕ) (cost : ℕ) (after : SessionState) (answer : Result X SessionFault) → (answer ≡ Err NoMemory → ⊥)
        → ChangesFile (listing_at between place text cost) old new between after answer → ChangesFile (listing_at (with_new s d) place text cost) old new s after answer
    changes_before {X} place text cost after answer some h =
        from_before (listing_at (with_new s d) place text cost) old new after answer some
        (subst (λ (x : SessionState). ChangesFile {X = X} (listing_at x place text cost) old new x after answer) is h)

    -- t is what is kept then, before the class is forgotten
    pub not_begun : (after t : SessionState) → t ≡ after → (classes : List ClassDef) → NotDone old new between after → classes ≡ take (length t.classes - 1) t.classes
        → NotDone old new s (record t { classes = classes })
    not_begun after t same classes h taken = record { calls = h.calls; faults = h.faults; kept = same_without t classes (same ∙ h.kept ∙ is) taken }
