-- What becomes of one branch at an entry, by cases on what is known of it.
use Rattle.std.proofs.Common.{◌≡◌, true≢false, Bool, true, false, ◌&&◌, is_some, Option, Some, None, refl, sym, ap, ◌∙◌}
use Rattle.std.specs.Option.{option_or}
use Rattle.rio_tree.specs.declared.refusal.BranchRefusal.{BranchRefusal, TheVariants.{BranchClass, SubBranches, EmbeddedBasket, LeafClass, NoCounter, EntryCount, BadBasketList, Compressed, BadBasket, BadEntry}}
use Rattle.rio_entry.specs.Refusals.{refused_first, refused_unless}

abbrev pub Refusal : Type 0
Refusal = Option BranchRefusal

-- The first refusal of a branch, by what its header tells, whether its counters are read, what its baskets tell, and whether its
-- entries are read.
abbrev pub refused_by : Refusal → Bool → Refusal → Bool → Refusal
refused_by told counters baskets entries =
    option_or (refused_first told) (option_or (refused_unless counters NoCounter) (option_or told (option_or baskets (refused_unless entries BadEntry))))

-- with which refusal a branch goes on that comes with one
abbrev pub goes_on : Refusal → Bool → Bool → Refusal
goes_on r counters entry = option_or (option_or (refused_first r) (option_or (refused_unless counters NoCounter) r)) (refused_unless entry BadEntry)

wrong : {A : Type 0} {x : BranchRefusal} → Some x ≡ None → A
wrong {A} none = absurd (true≢false (ap is_some none))

-- ---- a branch of which the header tells nothing

none_stays : (was now : Bool) (baskets : Refusal) (entries entry : Bool) → refused_first baskets ≡ None → (now ≡ true → was ≡ true)
    → goes_on (refused_by None was baskets entries) now entry ≡ refused_by None now baskets (entries && entry)
none_stays false true baskets entries entry late keeps = absurd (true≢false (sym (keeps refl)))
none_stays false false baskets entries entry late keeps = refl
none_stays true false (Some x) entries entry late keeps = rw late refl
none_stays true false None true entry late keeps = refl
none_stays true false None false entry late keeps = refl
none_stays true true (Some x) entries entry late keeps = rw late refl
none_stays true true None false entry late keeps = refl
none_stays true true None true true late keeps = refl
none_stays true true None true false late keeps = refl

none_passes : (was now : Bool) (baskets : Refusal) (entries entry : Bool) → (now ≡ true → was ≡ true) → refused_by None now baskets (entries && entry) ≡ None
    → (now ≡ true) × (refused_by None was baskets entries ≡ None)
none_passes was false baskets entries entry keeps none = wrong none
none_passes was true (Some x) entries entry keeps none = wrong none
none_passes was true None false entry keeps none = wrong none
none_passes was true None true false keeps none = wrong none
none_passes false true None true true keeps none = absurd (true≢false (sym (keeps refl)))
none_passes true true None true true keeps none = (refl, refl)

-- ---- one of which it tells a refusal behind NoCounter

some_stays : (x : BranchRefusal) (was now : Bool) (baskets : Refusal) (entries entry : Bool) → refused_first (Some x) ≡ None → (now ≡ true → was ≡ true)
    → goes_on (refused_by (Some x) was baskets entries) now entry ≡ refused_by (Some x) now baskets (entries && entry)
some_stays x false true baskets entries entry late keeps = absurd (true≢false (sym (keeps refl)))
some_stays x false false baskets entries entry late keeps = rw late refl
some_stays x true false baskets entries entry late keeps = rw (late, late) refl
some_stays x true true baskets entries entry late keeps = rw (late, late) refl

some_told : (x : BranchRefusal) (now : Bool) (baskets : Refusal) (all : Bool) → refused_first (Some x) ≡ None → is_some (refused_by (Some x) now baskets all) ≡ true
some_told x true baskets all late = rw late refl
some_told x false baskets all late = rw late refl

-- ---- any

pub stays : (told : Refusal) (was now : Bool) (baskets : Refusal) (entries entry : Bool) → refused_first baskets ≡ None → (now ≡ true → was ≡ true)
    → goes_on (refused_by told was baskets entries) now entry ≡ refused_by told now baskets (entries && entry)
stays None was now baskets entries entry late keeps = none_stays was now baskets entries entry late keeps
stays (Some BranchClass) was now baskets entries entry late keeps = refl
stays (Some SubBranches) was now baskets entries entry late keeps = refl
stays (Some EmbeddedBasket) was now baskets entries entry late keeps = refl
stays (Some LeafClass) was now baskets entries entry late keeps = refl
stays (Some NoCounter) was now baskets entries entry late keeps = refl
stays (Some EntryCount) was now baskets entries entry late keeps = some_stays EntryCount was now baskets entries entry refl keeps
stays (Some BadBasketList) was now baskets entries entry late keeps = some_stays BadBasketList was now baskets entries entry refl keeps
stays (Some Compressed) was now baskets entries entry late keeps = some_stays Compressed was now baskets entries entry refl keeps
stays (Some BadBasket) was now baskets entries entry late keeps = some_stays BadBasket was now baskets entries entry refl keeps
stays (Some BadEntry) was now baskets entries entry late keeps = some_stays BadEntry was now baskets entries entry refl keeps

told_is_some : {A : Type 0} (o : Refusal) → is_some o ≡ true → o ≡ None → A
told_is_some {A} o some none = absurd (true≢false (sym some ∙ ap is_some none))

pub passes : (told : Refusal) (was now : Bool) (baskets : Refusal) (entries entry : Bool) → (now ≡ true → was ≡ true) → refused_by told now baskets (entries && entry) ≡ None
    → (now ≡ true) × (refused_by told was baskets entries ≡ None)
passes None was now baskets entries entry keeps none = none_passes was now baskets entries entry keeps none
passes (Some BranchClass) was now baskets entries entry keeps none = wrong none
passes (Some SubBranches) was now baskets entries entry keeps none = wrong none
passes (Some EmbeddedBasket) was now baskets entries entry keeps none = wrong none
passes (Some LeafClass) was now baskets entries entry keeps none = wrong none
passes (Some NoCounter) was now baskets entries entry keeps none = wrong none
passes (Some EntryCount) was now baskets entries entry keeps none = told_is_some _ (some_told EntryCount now baskets (entries && entry) refl) none
passes (Some BadBasketList) was now baskets entries entry keeps none = told_is_some _ (some_told BadBasketList now baskets (entries && entry) refl) none
passes (Some Compressed) was now baskets entries entry keeps none = told_is_some _ (some_told Compressed now baskets (entries && entry) refl) none
passes (Some BadBasket) was now baskets entries entry keeps none = told_is_some _ (some_told BadBasket now baskets (entries && entry) refl) none
passes (Some BadEntry) was now baskets entries entry keeps none = told_is_some _ (some_told BadEntry now baskets (entries && entry) refl) none
