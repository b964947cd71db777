-- What a stop leaves while a file is made.
use Rattle.std.proofs.Common.{◌≡◌, inl, ⊎_elim, ℕ, List, Some, true, sym, ap, subst, ◌∙◌}
use Rattle.std.specs.Prelude.{MatchBool}
use Rattle.rio_host.specs.{Host.{After, Elapses, IsLawful, IsQuiet, Leaves, OnDisk, View}, Image.{Same}, OnlyReads.{OnlyReads}}
use Rattle.rio_host.proofs.Moments.{Outcomes, elapses_as, elapses_join, leaves_back}
use Rattle.rio_dir.specs.Unborn.{is_unborn}
use Rattle.rio_machine.specs.State.{State, empty_state}
use Rattle.rio_state.specs.{Left.{IsLeftAs, ReadsClosedUnlessOpen}, Reads.{ReadsAsMade, ReadsAsState}}
use Rattle.rio_create.specs.Creation.{IsLeftEmpty, LeavesUnclosed}

-- a file that isn't made yet stands for the empty state alone
pub unborn_empty : (file : List ℕ) (m : State) → is_unborn file ≡ true → ReadsAsState file m → m ≡ empty_state
unborn_empty file m unborn reads = subst (λ b. MatchBool b (m ≡ empty_state) (ReadsAsMade file m)) unborn reads

-- an image of a file that stands for a state, while it is opened
abbrev pub Stays : List ℕ → State → List ℕ → Outcomes
Stays file m text image said = ReadsAsState image m × (ReadsClosedUnlessOpen file m → ReadsClosedUnlessOpen image m) × (said ≡ text)

module _ (file text : List ℕ) (m : State) where
  -- the file itself
  pub own_stays : ReadsAsState file m → (image said : List ℕ) → image ≡ file → said ≡ text → Stays file m text image said
  own_stays reads image said same told = subst (λ (f : List ℕ). Stays file m text f said) (sym same) (reads, λ closed. closed, told)

  empty_stays : m ≡ empty_state → (image said : List ℕ) → IsLeftAs empty_state image → said ≡ text → Stays file m text image said
  empty_stays none image said left told =
      let same : IsLeftAs m image = subst (λ (n : State). IsLeftAs n image) (sym none) left in
      (same.reads, λ was. same.closed, told)

  module _ (a : View) (law : IsLawful a) (quiet : IsQuiet a) (holds : a.holds ≡ Some file) (said : a.said ≡ Some text) (reads : ReadsAsState file m) where
    -- a host that leaves the file alone
    pub here_stays : (image spoken : List ℕ) → Leaves a image spoken → Stays file m text image spoken
    here_stays image spoken left = own_stays reads image spoken (quiet image spoken file left holds) (law.text image spoken text left said)

    pub sync_time : (b : View) → OnDisk Same a b → Elapses a b (Stays file m text)
    sync_time b sync =
        elapses_as (Stays file m text) (After Same a) sync.time (λ image spoken after. subst (λ (f : List ℕ). Stays file m text f spoken) (sym after.2) (here_stays after.0 spoken after.1))

    pub reads_time : (b : View) → OnlyReads a b → Elapses a b (Stays file m text)
    reads_time b calls = elapses_as (Stays file m text) (Leaves a) calls.time here_stays

    -- and what comes after
    pub then_time : (b c : View) → OnlyReads a b → Elapses b c (Stays file m text) → Elapses a c (Stays file m text)
    then_time b c calls more = elapses_join (Stays file m text) (reads_time b calls) more (λ image spoken stays. stays)

    pub making_time : (b c : View) → is_unborn file ≡ true → OnDisk Same a b → Elapses b c (IsLeftEmpty b) → Elapses a c (Stays file m text)
    making_time b c unborn sync makes =
        let told : b.said ≡ Some text = sync.said ∙ said in
        elapses_join (IsLeftEmpty b) (sync_time b sync) makes (λ image spoken left. empty_stays (unborn_empty file m unborn reads) image spoken left.left (left.text text told))

-- ---- no close comes before the file is made

module _ (file : List ℕ) (a : View) (quiet : IsQuiet a) (holds : a.holds ≡ Some file) (unborn : is_unborn file ≡ true) where
  pub first_unclosed : LeavesUnclosed a
  first_unclosed image said left = inl (ap is_unborn (quiet image said file left holds) ∙ unborn)

  pub synced_unclosed : (b : View) → IsLawful b → OnDisk Same a b → LeavesUnclosed b
  synced_unclosed b law_b sync image said left =
      ⊎_elim (λ was. first_unclosed image said was) (λ after. inl (ap is_unborn after.2 ∙ ap is_unborn (quiet after.0 said file after.1 holds) ∙ unborn)) (leaves_back law_b sync.time image said left)

  pub made_unclosed : (b c : View) → IsLawful b → IsLawful c → OnDisk Same a b → Elapses b c (IsLeftEmpty b) → LeavesUnclosed c
  made_unclosed b c law_b law_c sync makes image said left =
      ⊎_elim (λ was. synced_unclosed b law_b sync image said was) (λ empty. empty.unclosed) (leaves_back law_c makes image said left)
