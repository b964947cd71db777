-- What a host is to its callers, what a stop may leave of its disk, and what a call may do to both.
use Rattle.std.specs.Prelude.{◌≡◌, ◌⊎◌, ℕ, ◌<◌, ◌≤◌, List, ◌++◌, length, take, Option, Some, None, Result, IsOk, IsErr}

pub record View : Type 1 where
  -- the bytes that reads give, where told
  pub holds : Option (List ℕ)
  -- the bytes said, where told
  pub said : Option (List ℕ)
  -- the moment, a number that doesn't fall
  pub now : ℕ
  -- a stop at some moment since this one may leave this image together with this said text
  pub left_since : ℕ → List ℕ → List ℕ → Type 0
  -- how many calls on the file failed
  pub disk_faults : ℕ
  -- how many calls on the text failed
  pub say_faults : ℕ
  -- how many calls looked at the file
  pub reads : ℕ

-- ---- what a stop may leave

-- a stop at this moment may leave this image with this said text
abbrev pub Leaves : View → List ℕ → List ℕ → Type 0
Leaves v image said = v.left_since v.now image said

-- Time goes on: a stop since an earlier moment may leave what it might have left before, or what has P.
pub record Elapses (old new : View) (P : List ℕ → List ℕ → Type 0) : Type 0 where
  pub later : old.now ≤ new.now
  pub nothing_else : (t : ℕ) (image said : List ℕ) → t ≤ old.now → new.left_since t image said → old.left_since t image said ⊎ P image said
  pub keeps : (t : ℕ) (image said : List ℕ) → t ≤ old.now → old.left_since t image said → new.left_since t image said

-- an image that a stop might have left, after this change, with the text that it might have left beside it
abbrev pub After : (List ℕ → List ℕ → Type 0) → View → List ℕ → List ℕ → Type 0
After change v image said = (before : List ℕ) × Leaves v before said × change before image

-- what a stop may leave while these bytes are said: an image as before, with its text and a front of these bytes behind it
abbrev pub Speaking : List ℕ → View → List ℕ → List ℕ → Type 0
Speaking bytes v image said = (before : List ℕ) × Leaves v image before × ((k : ℕ) × (said ≡ before ++ take k bytes))

-- nothing was written: each image that a stop may leave since is one that a stop might have left before
abbrev pub Unwritten : View → View → Type 0
Unwritten old new = Elapses old new (λ image said. (before : List ℕ) × Leaves old image before)

-- a stop leaves only what the host holds
abbrev pub IsQuiet : View → Type 0
IsQuiet v = (image said bytes : List ℕ) → Leaves v image said → v.holds ≡ Some bytes → image ≡ bytes

-- What holds of each host.
pub record IsLawful (v : View) : Type 0 where
  -- what may be left since a moment may be left since each earlier one
  pub earlier : (t u : ℕ) (image said : List ℕ) → t ≤ u → v.left_since u image said → v.left_since t image said
  -- a stop leaves the text that was said
  pub text : (image said all : List ℕ) → Leaves v image said → v.said ≡ Some all → said ≡ all
  -- the disk as it reads is one of its images
  pub as_read : (image : List ℕ) → v.holds ≡ Some image → (said : List ℕ) × Leaves v image said

-- ---- what is told

-- where told before, told after, and changed so; where not told before, not told after
abbrev pub Becomes : (List ℕ → List ℕ → Type 0) → Option (List ℕ) → Option (List ℕ) → Type 0
Becomes change (Some old) after = (new : List ℕ) × (after ≡ Some new) × change old new
Becomes change None after = after ≡ None

abbrev pub Any : List ℕ → List ℕ → Type 0
Any old new = Unit {0}

-- where the bytes are told, the place is within them or at their end
abbrev pub IsWithin : View → ℕ → Type 0
IsWithin v place = (bytes : List ℕ) → v.holds ≡ Some bytes → place ≤ length bytes

-- where the bytes are told, this is how many they are
abbrev pub IsLength : View → ℕ → Type 0
IsLength v n = (bytes : List ℕ) → v.holds ≡ Some bytes → n ≡ length bytes

abbrev pub Longer : List ℕ → List ℕ → List ℕ → Type 0
Longer bytes old new = new ≡ old ++ bytes

abbrev pub LongerByPart : List ℕ → List ℕ → List ℕ → Type 0
LongerByPart bytes old new = (k : ℕ) × (new ≡ old ++ take k bytes)

-- ---- counts

-- the count rose; one that stands at the most that 64 bits hold may stay there
abbrev pub Rose : ℕ → ℕ → Type 0
Rose old new = (old ≤ new) × ((old < new) ⊎ (new ≡ 18446744073709551615))

-- A call on the file failed where this call fails, and only there.
pub record IsDiskCause {X E : Type 0} (old new : View) (result : Result X E) : Type 0 where
  pub counted : IsOk result → new.disk_faults ≡ old.disk_faults
  pub rose : IsErr result → Rose old.disk_faults new.disk_faults

-- ---- calls on the file

-- A call on the file that answered. It changes what reads give, and each image that a stop may leave, in no other way than this.
pub record OnDisk (change : List ℕ → List ℕ → Type 0) (old new : View) : Type 0 where
  pub time : Elapses old new (After change old)
  pub told : Becomes change old.holds new.holds
  pub said : new.said ≡ old.said
  pub disk_faults : old.disk_faults ≤ new.disk_faults
  pub say_faults : new.say_faults ≡ old.say_faults

-- Calls that write the file or bring it to the disk, neither look at it nor say a text.
pub record OnlyWrites (old new : View) : Type 0 where
  pub told : Becomes Any old.holds new.holds
  pub said : new.said ≡ old.said
  pub reads : new.reads ≡ old.reads
  pub say_faults : new.say_faults ≡ old.say_faults
