-- What holds of calls that are done again.
use Rattle.std.specs.Prelude.{◌≡◌, ℕ, ◌≤◌, ◌<◌, List, [], ◌∷◌, ◌++◌, length}
use Rattle.std.proofs.{Common.{inl, inr, refl, sym, subst, arith}, lemmas.List.{take_all}, lemmas.Bool.{cases_lt, Decides.{nat_tests}}}
use Rattle.byteorder.specs.Endian.{big_bytes}
use Rattle.rio_host.specs.{ImageLaws.{spliced_put}, Image.{Torn, Put, PutOrNot}}
use Rattle.rio_host.specs.declared.call.Call.{Call, TheVariants.{Write, FailedWrite, Sync, Saying, Said}}
use Rattle.rio_host.specs.{declared.change.Change.{Change, TheVariants.{Range, Whole}}, declared.disk.Disk.{Disk}}
use Rattle.rio_host.specs.Replay.{Makes, ChangeDone, change_start, Flown, put_at, put_by, spliced, at_first, disk_behind, replay, MayLeave, Memory, disk_of, LeftSince}

-- one change more
pub flown_push : (base : List ℕ) (changes : List Change) (change : Change) (next image : List ℕ) → Flown base changes next → Makes change next image → Flown base (changes ++ change ∷ []) image
flown_push base [] change next image flown makes = (image, subst (λ (l : List ℕ). Makes change l image) flown makes, refl)
flown_push base (c ∷ changes) change next image flown makes = (flown.0, flown.1, flown_push flown.0 changes change next image flown.2 makes)

put_at_is : (file : List ℕ) (place : ℕ) (bytes : List ℕ) → place ≤ length file → put_at file place bytes ≡ spliced file place bytes
put_at_is file place bytes le = grind (arith, nat_tests)

put_at_past : (file : List ℕ) (place : ℕ) (bytes : List ℕ) → length file < place → put_at file place bytes ≡ file
put_at_past file place bytes lt = grind (arith, nat_tests)

pub put_at_put : (file : List ℕ) (place : ℕ) (bytes : List ℕ) → place ≤ length file → Put place bytes file (put_at file place bytes)
put_at_put file place bytes le = subst (λ (l : List ℕ). Put place bytes file l) (sym (put_at_is file place bytes le)) (spliced_put file place bytes le)

-- each change may leave the file as it was
pub makes_same : (change : Change) (file : List ℕ) → Makes change file file
makes_same (Range place bytes) file = record { outside = λ i x out at. at; no_shorter = omega arith; no_longer = omega arith }
makes_same (Whole place word) file = inl refl

put_at_torn : (file : List ℕ) (place : ℕ) (bytes : List ℕ) → Torn place (length bytes) file (put_at file place bytes)
put_at_torn file place bytes = elim (cases_lt (length file) place) [
  | inl past ↦ subst (λ (l : List ℕ). Torn place (length bytes) file l) (sym (put_at_past file place bytes past)) (makes_same (Range place bytes) file)
  | inr within ↦
      let put = put_at_put file place bytes within in record { outside = put.outside; no_shorter = omega (arith, put.length_is); no_longer = omega (arith, put.length_is) }
]

put_at_whole : (file : List ℕ) (place : ℕ) (bytes : List ℕ) → PutOrNot place bytes file (put_at file place bytes)
put_at_whole file place bytes = elim (cases_lt (length file) place) [
  | inl past ↦ inl (put_at_past file place bytes past)
  | inr within ↦ inr (put_at_put file place bytes within)
]

-- a write that is done is one of what may be left of it
pub put_by_makes : (change : Change) (file : List ℕ) → Makes change file (put_by change file)
put_by_makes (Range place bytes) file = put_at_torn file place bytes
put_by_makes (Whole place word) file = put_at_whole file place (big_bytes 4 word)

pub put_by_puts : (change : Change) (file : List ℕ) → change_start change ≤ length file → ChangeDone change file (put_by change file)
put_by_puts (Range place bytes) file within = put_at_put file place bytes within
put_by_puts (Whole place word) file within = put_at_put file place (big_bytes 4 word) within

-- what reads give is one of the images
sound_step : (d : Disk) (call : Call) → Flown d.base d.flight d.contents → Flown (disk_behind d call).base (disk_behind d call).flight (disk_behind d call).contents
sound_step d (Write change) sound = flown_push d.base d.flight change d.contents (put_by change d.contents) sound (put_by_makes change d.contents)
sound_step d (FailedWrite change) sound = flown_push d.base d.flight change d.contents d.contents sound (makes_same change d.contents)
sound_step d Sync sound = refl
sound_step d (Saying bytes) sound = sound
sound_step d Said sound = sound

pub sound : (d : Disk) (calls : List Call) → Flown d.base d.flight d.contents → Flown (replay d calls).base (replay d calls).flight (replay d calls).contents
sound d [] is = is
sound d (call ∷ calls) is = sound (disk_behind d call) calls (sound_step d call is)

-- now, all calls are done
pub left_now : (m : Memory) (image said : List ℕ) → LeftSince m (length m.calls) image said → MayLeave (disk_of m) image said
left_now m image said left = subst (λ (l : List Call). MayLeave (replay (at_first m.first) l) image said) (take_all left.0 m.calls left.1) left.3

pub now_left : (m : Memory) (image said : List ℕ) → MayLeave (disk_of m) image said → LeftSince m (length m.calls) image said
now_left m image said left =
    (length m.calls, omega arith, omega arith, subst (λ (l : List Call). MayLeave (replay (at_first m.first) l) image said) (sym (take_all (length m.calls) m.calls (omega arith))) left)
