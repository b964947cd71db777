-- What a choice for each write in flight leaves is one of the images that a stop may leave.
use Rattle.std.specs.Prelude.{◌≡◌, ℕ, ◌+◌, ◌-◌, ◌≤◌, min, List, [], ◌∷◌, ◌++◌, length, take, replicate}
use Rattle.std.proofs.{Common.{⊎_elim, inl, inr, refl, sym, subst, arith, length-append, length-take}, lemmas.List.{length-replicate, take_min}}
use Rattle.byteorder.specs.Endian.{big_bytes}
use Rattle.rio_host.specs.declared.change.Change.{Change, TheVariants.{Range, Whole}}
use Rattle.rio_host.specs.{declared.change.Remains.{Remains, TheVariants.{Nothing, All, Front, Filled}}, Image.{Torn, Put}, ImageLaws.{slice_get-append_left}}
use Rattle.rio_host.specs.{declared.call.Call.{Call}, declared.disk.Disk.{Disk}}
use Rattle.rio_host.specs.{Replay.{Makes, Flown, at_first, replay, MayLeave, Memory, disk_after, LeftSince}, ReplayLaws.{makes_same, put_at_put}}
use Rattle.rio_host.specs.Stops.{patched, left_by, left_image, IsLeft}

pub patched_put : (file : List ℕ) (place : ℕ) (bytes : List ℕ) → Put place bytes file (patched file place bytes)
patched_put file place bytes = record {
  outside = λ i x out at. put.outside i x out (slice_get-append_left file hole i x at);
  written = put.written;
  length_is = omega (arith, put.length_is, long);
}
  where
    hole : List ℕ
    hole = replicate (place - length file) 0

    long : length (file ++ replicate (place - length file) 0) ≡ length file + (place - length file)
    long = omega (arith, length-append file hole, length-replicate {A = ℕ} (place - length file) 0)

    put : Put place bytes (file ++ replicate (place - length file) 0) (patched file place bytes)
    put = put_at_put (file ++ hole) place bytes (omega (arith, long))

-- no more than n bytes
patched_torn : (file : List ℕ) (place n : ℕ) (bytes : List ℕ) → length bytes ≤ n → Torn place n file (patched file place bytes)
patched_torn file place n bytes le =
    let put = patched_put file place bytes in
    record {
      outside = λ i x out at. put.outside i x (⊎_elim (λ low. inl low) (λ high. inr (omega (arith, high, le))) out) at;
      no_shorter = omega (arith, put.length_is);
      no_longer = omega (arith, put.length_is, le);
    }

left_by_makes : (remains : Remains) (change : Change) (file : List ℕ) → Makes change file (left_by remains change file)
left_by_makes Nothing change file = makes_same change file
left_by_makes All (Range place bytes) file = patched_torn file place (length bytes) bytes (omega arith)
left_by_makes All (Whole place word) file = inr (patched_put file place (big_bytes 4 word))
left_by_makes (Front n) (Range place bytes) file = patched_torn file place (length bytes) (take n bytes) (omega (arith, length-take n bytes))
left_by_makes (Front n) (Whole place word) file = inl refl
left_by_makes (Filled byte) (Range place bytes) file =
    patched_torn file place (length bytes) (replicate (length bytes) byte) (omega (arith, length-replicate {A = ℕ} (length bytes) byte))
left_by_makes (Filled byte) (Whole place word) file = inl refl

flown_same : (base : List ℕ) (changes : List Change) → Flown base changes base
flown_same base [] = refl
flown_same base (change ∷ changes) = (base, makes_same change base, flown_same base changes)

pub left_image_flown : (base : List ℕ) (changes : List Change) (remains : List Remains) → Flown base changes (left_image base changes remains)
left_image_flown base [] remains = refl
left_image_flown base (change ∷ changes) [] = flown_same base (change ∷ changes)
left_image_flown base (change ∷ changes) (r ∷ others) =
    (left_by r change base, left_by_makes r change base, left_image_flown (left_by r change base) changes others)

-- the model allows it at that moment, or now where that is still to come
pub left_allowed : (m : Memory) (moment : ℕ) (remains : List Remains) (front : ℕ) (image said : List ℕ) → IsLeft (disk_after moment m) remains front image said
    → LeftSince m (min moment (length m.calls)) image said
left_allowed m moment remains front image said left = (
  min moment (length m.calls),
  omega arith,
  omega arith,
  subst (λ (l : List Call). MayLeave (replay (at_first m.first) l) image said) (sym (take_min moment m.calls)) (
    subst (λ (l : List ℕ). Flown then.base then.flight l) (sym left.0) (left_image_flown then.base then.flight remains),
    (front, left.1),
  ),
)
  where
    then : Disk
    then = disk_after moment m
