-- Which classes have which among their bases.
use Rattle.std.specs.{Prelude.{◌≡◌, ℕ, suc, List, ◌++◌, Bool, true, ◌||◌, ◌&&◌, not}, List.{All, AllWithin, Contains, list_all, list_any}, Str.{bytes_eq}}
use Rattle.rio_format.specs.{declared.class.Base.{Base}, declared.class.ClassDef.{ClassDef}, Slots.{body_bases, has_base, headed_body}, Visits.{is_visited}}

-- one of the bases is the target
abbrev pub are_targets : List ℕ → List Base → Bool
are_targets target bases = list_any (λ b. bytes_eq b.name target) bases

-- the target is among the bases or theirs, at most so many levels below
abbrev pub has_among : List ClassDef → List ℕ → ℕ → List Base → Bool
has_among classes target levels bases = list_any (λ b. bytes_eq b.name target || has_base levels classes target b.name b.version) bases

-- the bases of a class that is visited
abbrev pub visit_bases : List ClassDef → Base → List Base
visit_bases classes v = body_bases (headed_body classes v.name v.version)

-- the target is a base of one of the visits
abbrev pub any_direct : List ClassDef → List ℕ → List Base → Bool
any_direct classes target visits = list_any (λ v. are_targets target (visit_bases classes v)) visits

-- one of the visits has the target among its bases, at most so many levels deep
abbrev pub any_below : List ClassDef → List ℕ → ℕ → List Base → Bool
any_below classes target levels visits = list_any (λ v. has_base levels classes target v.name v.version) visits

-- none of the bases is the target, and each is visited
abbrev pub are_visited : List ℕ → List Base → List Base → Bool
are_visited target visits bases = list_all (λ b. not (bytes_eq b.name target) && is_visited visits b) bases

-- none of the visit's bases is the target, and each is visited too
abbrev pub HasVisitedBases : List ClassDef → List ℕ → List Base → Base → Type 0
HasVisitedBases classes target visits v = are_visited target visits (visit_bases classes v) ≡ true

-- so are the first visits
abbrev pub HaveVisitedBases : List ClassDef → List ℕ → List Base → ℕ → Type 0
HaveVisitedBases classes target visits n = AllWithin (HasVisitedBases classes target visits) visits 0 n

-- none of the bases is the target, and each is visited from then on
pub record Pushed (target : List ℕ) (bases old new : List Base) : Type 0 where
  pub more : List Base
  pub is : new ≡ old ++ more
  pub of_bases : All (Contains bases) more
  pub visited : are_visited target new bases ≡ true

-- the first n visits are closed, by further visits, below which there is nothing that isn't one level deeper below the others
pub record Expanded (classes : List ClassDef) (target : List ℕ) (old new : List Base) (n : ℕ) : Type 0 where
  pub more : List Base
  pub is : new ≡ old ++ more
  pub closed : HaveVisitedBases classes target new n
  pub below : (levels : ℕ) → any_below classes target levels more ≡ true → any_below classes target (suc levels) old ≡ true
