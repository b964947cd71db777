-- What is kept of a tree once baskets are put: where they stand, in order of branches.
use Rattle.std.specs.Prelude.{◌≡◌, ◌<◌, ◌≤◌, ℕ, ◌-◌, ◌^◌, List, [], ◌∷◌, ◌++◌, length, Bool, true, false, ◌==◌, ◌&&◌, Option, Some, None, IsTrue, slice_get, if◌then◌else◌}
use Rattle.rio_chain.specs.{Adjoining.{AreSegments}, Placing.{end_after, places_of, space_of}, declared.segment.Segment.{Segment}}
use Rattle.rio_tree.specs.declared.basket_at.BasketAt.{BasketAt}
use Rattle.rio_fill.specs.{Fill.{BranchFill, TreeFill, all_saved, branch_put, count_before, entry_count, may_be_put, may_put, nothing_is_open, row_added}, Room.{may_add}}
use Rattle.rio_recover.specs.TreeTable.{is_name_before}
use Rattle.rio_effect.specs.TreeRecords.{basket_at, length_of_basket, record_of_basket}
use Rattle.rio_session.specs.{Due.{written_count}, Fillings.{BasketsPut, branches_become, put_open, words_of_open}, Fills.{FilledTree}, Measures.{IsSmallRow, flags_for}}
use Rattle.rio_session.specs.{Steps.{CanRun, all_stepped, changes_of}, declared.steps.Step.{Step, TheVariants.{Put, Release}}}

-- ---- the flagged branches

abbrev pub flagged : List BranchFill → List Bool → List BranchFill
flagged [] flags = []
flagged (b ∷ bs) [] = []
flagged (b ∷ bs) (true ∷ flags) = b ∷ flagged bs flags
flagged (b ∷ bs) (false ∷ flags) = flagged bs flags

-- their open baskets stand at these places from now on
abbrev pub branches_put : List BasketAt → List Bool → List BranchFill → List BranchFill
branches_put ats flags [] = []
branches_put ats [] (b ∷ bs) = b ∷ bs
branches_put ats (false ∷ flags) (b ∷ bs) = b ∷ branches_put ats flags bs
branches_put [] (true ∷ flags) (b ∷ bs) = b ∷ branches_put [] flags bs
branches_put (at ∷ ats) (true ∷ flags) (b ∷ bs) = branch_put at b ∷ branches_put ats flags bs

-- there is a place for each, of its first entry in a tree of so many, and room for it
abbrev pub can_be_noted : ℕ → List BasketAt → List BranchFill → Bool
can_be_noted count ats [] = length ats == 0
can_be_noted count [] (b ∷ bs) = false
can_be_noted count (at ∷ ats) (b ∷ bs) = may_be_put count at b && can_be_noted count ats bs

-- each place names the first entry of its basket, in a tree of so many
abbrev pub are_firsts : ℕ → List BasketAt → List BranchFill → Bool
are_firsts count ats [] = length ats == 0
are_firsts count [] (b ∷ bs) = false
are_firsts count (at ∷ ats) (b ∷ bs) = (at.first == count_before count b) && are_firsts count ats bs

-- the place that is next may be that of the branch at k
pub record IsPlaceNext (t : TreeFill) (k : ℕ) (ats : List BasketAt) (next : ℕ) : Type 0 where
  pub at : BasketAt
  pub there : slice_get ats next ≡ Some at
  pub may : IsTrue (may_put t k at)

-- ---- what is planned

-- the step puts the open basket of the branch at the place
abbrev pub IsBasketStep : ℕ → List ℕ → BranchFill → ℕ → Step → Type 0
IsBasketStep datime tree b place (Put at body) = (at ≡ place) × (body.bytes ≡ record_of_basket place (words_of_open tree datime b)) × (4 ≤ body.spare)
IsBasketStep datime tree b place (Release at) = ⊥

-- these steps put the open baskets of branches at these places, one each
abbrev pub AreBasketSteps : ℕ → List ℕ → List BranchFill → List ℕ → List Step → Type 0
AreBasketSteps datime tree [] places steps = steps ≡ []
AreBasketSteps datime tree (b ∷ bs) [] steps = ⊥
AreBasketSteps datime tree (b ∷ bs) (place ∷ places) [] = ⊥
AreBasketSteps datime tree (b ∷ bs) (place ∷ places) (step ∷ steps) = IsBasketStep datime tree b place step × AreBasketSteps datime tree bs places steps

-- and so a header names them then
abbrev pub ats_of : ℕ → List ℕ → ℕ → List ℕ → List BranchFill → List BasketAt
ats_of datime tree count places [] = []
ats_of datime tree count [] (b ∷ bs) = []
ats_of datime tree count (place ∷ places) (b ∷ bs) =
    basket_at place (count_before count b) (words_of_open tree datime b) ∷ ats_of datime tree count places bs

-- one basket more is planned
pub record IsPlannedMore (datime : ℕ) (tree : List ℕ) (count : ℕ) (b : BranchFill) (place : ℕ) (steps : List Step) (ats : List BasketAt) (steps' : List Step) (ats' : List BasketAt) : Type 0 where
  pub step : Step
  pub puts : IsBasketStep datime tree b place step
  pub steps_are : steps' ≡ steps ++ step ∷ []
  pub ats_are : ats' ≡ ats ++ basket_at place (count_before count b) (words_of_open tree datime b) ∷ []

abbrev pub open_length_of : List ℕ → BranchFill → ℕ
open_length_of tree b = length_of_basket (words_of_open tree 0 b)

abbrev pub lengths_of_flagged : List ℕ → List BranchFill → List ℕ
lengths_of_flagged tree [] = []
lengths_of_flagged tree (b ∷ bs) = open_length_of tree b ∷ lengths_of_flagged tree bs

-- Steps that put baskets at the places of the rule, and the places that a header names then.
pub record ArePlanned (count : ℕ) (put : BasketsPut) (segments : List Segment) (branches : List BranchFill) (flags : List Bool) (steps : List Step) (ats : List BasketAt) : Type 0 where
  pub run : CanRun steps segments
  pub changes : changes_of steps ≡ put.changes
  pub segments_are : all_stepped steps segments ≡ put.segments
  pub branches_are : branches_put ats flags branches ≡ put.branches
  pub long : length ats ≡ length put.lengths
  pub firsts : are_firsts count ats (flagged branches flags) ≡ true

-- of a tree, at the first of these places, which are those of the rule for some segments
abbrev pub PlansBaskets : ℕ → FilledTree → ℕ → List ℕ → List Step → List BasketAt → Type 0
PlansBaskets datime t flags places steps ats =
    (segments : List Segment) (more : List ℕ) → AreSegments segments
    → let put = put_open datime t.name (entry_count t.fill) segments t.fill.branches (flags_for t.fill.branches flags) in
    places ≡ places_of put.lengths (space_of segments) ++ more → end_after put.lengths (space_of segments) ≤ 1999999996
    → ArePlanned (entry_count t.fill) put segments t.fill.branches (flags_for t.fill.branches flags) steps ats

-- ---- what is kept then

-- the open baskets of the flagged branches stand at these places, and then the row is pending, or all rows are saved
abbrev pub noted : List BasketAt → ℕ → TreeFill → TreeFill
noted ats flags t = branches_become (branches_put ats (flags_for t.branches flags) t.branches) t

abbrev pub filled_then : List BasketAt → ℕ → List (List ℕ) → TreeFill → TreeFill
filled_then ats flags row t = row_added (noted ats flags t) row

abbrev pub saved_then : List BasketAt → ℕ → TreeFill → TreeFill
saved_then ats flags t = all_saved (noted ats flags t)

pub record CanBeNoted (ats : List BasketAt) (flags : ℕ) (t : TreeFill) : Type 0 where
  pub places : IsTrue (can_be_noted (entry_count t) ats (flagged t.branches (flags_for t.branches flags)))
  -- its written baskets can still be counted
  pub written : written_count (noted ats flags t).branches < 2 ^ 32

pub record CanBeFilledThen (ats : List BasketAt) (flags : ℕ) (row : List (List ℕ)) (t : TreeFill) : Type 0 where
  pub noted_first : CanBeNoted ats flags t
  pub few : entry_count t < 2 ^ 63 - 1
  pub small : IsSmallRow row
  pub room : IsTrue (may_add (noted ats flags t).branches row)

pub record CanBeSavedThen (ats : List BasketAt) (flags : ℕ) (t : TreeFill) : Type 0 where
  pub noted_first : CanBeNoted ats flags t
  pub closed : IsTrue (nothing_is_open (noted ats flags t))

-- ---- trees in order of names

-- the tree's name comes before this one
abbrev pub is_before_name : List ℕ → FilledTree → Bool
is_before_name name t = is_name_before t.name name

-- a tree that passes a test
abbrev pub if_matching : (FilledTree → Bool) → Option FilledTree → Option FilledTree
if_matching test None = None
if_matching test (Some t) = if test t then Some t else None

-- there is such a tree at the number
abbrev pub IsTreeAt : List FilledTree → ℕ → (TreeFill → Type 0) → Type 0
IsTreeAt trees at P = (t : FilledTree) × (slice_get trees at ≡ Some t) × P t.fill
