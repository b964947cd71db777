-- What a header picks of some classes it picks of more classes, and what stands behind the header is the same, or nothing was read.
use Rattle.std.proofs.Common.{◌≡◌, ◌⊎◌, inl, inr, ◌==◌, ℕ, ℤ, pos, List, [], ◌∷◌, ◌++◌, Bool, true, false, cond, ◌&&◌, find, Option, Some, None, refl, ap}
use Rattle.std.specs.{Prelude.{unwrap_or}, Option.{option_map_or}, Ordering.{int_eq}, Str.{bytes_eq}}
use Rattle.rio_format.specs.{Classes.{find_in, find_sum_in}, declared.class.ClassDef.{ClassDef}, Bodies.{Body, opaque, body_of, built_in, by_description, headed_classes}, Growth.{LaterLeavePicks, PicksStay}}
use Rattle.rio_format.proofs.BuiltInLaws.{of_body}

-- ---- classes behind others

found_before : (test : ClassDef → Bool) (classes more : List ClassDef) (c : ClassDef) → find test classes ≡ Some c → find test (classes ++ more) ≡ Some c
found_before test [] more c e = absurd cc
found_before test (d ∷ ds) more c e = by (test d) e (found_before test ds more c)
  where
    by : (b : Bool) → cond b (Some d) (find test ds) ≡ Some c → (find test ds ≡ Some c → find test (ds ++ more) ≡ Some c) → cond b (Some d) (find test (ds ++ more)) ≡ Some c
    by true f later = f
    by false f later = later f

pub later_leave_picks : LaterLeavePicks
later_leave_picks classes more = record {
  versions = λ name version c e. found_before (λ d. bytes_eq d.name name && int_eq d.version version) classes more c e;
  sums = λ name sum c e. found_before (λ d. bytes_eq d.name name && (d.sum == sum)) classes more c e;
}

-- ---- what stands behind a header

-- no built-in class has the version 0
never_built_in : (class : List ℕ) → built_in class (pos 0) ≡ None
never_built_in class = of_body (λ o. o ≡ None) headed_classes class (pos 0) ((λ named e. absurd cc), ((λ named e. absurd cc), ((λ named e. absurd cc), ((λ named e. absurd cc), tt)))) refl

module _ (old new : List ClassDef) (stay : PicksStay old new) (class : List ℕ) where
  -- a description that is found is the same, or there was none
  described_stays : (x y : Option ClassDef) → ((c : ClassDef) → x ≡ Some c → y ≡ Some c) → (by_description x ≡ opaque) ⊎ (y ≡ x)
  described_stays None y kept = inl refl
  described_stays (Some c) y kept = inr (kept c refl)

  by_version : (own : Option Body) (x y : Option ClassDef) → ((c : ClassDef) → x ≡ Some c → y ≡ Some c) → (unwrap_or own (by_description x) ≡ opaque) ⊎ (unwrap_or own (by_description y) ≡ unwrap_or own (by_description x))
  by_version (Some b) x y kept = inr refl
  by_version None None y kept = inl refl
  by_version None (Some c) y kept = inr (ap by_description (kept c refl))

  abbrev by_sum : Option ClassDef → Body
  by_sum found = unwrap_or (built_in class (option_map_or (λ c. c.version) found (pos 0))) (by_description found)

  by_sums : (x y : Option ClassDef) → ((c : ClassDef) → x ≡ Some c → y ≡ Some c) → (by_sum x ≡ opaque) ⊎ (by_sum y ≡ by_sum x)
  by_sums None y kept = inl (ap (λ (o : Option Body). unwrap_or o opaque) (never_built_in class))
  by_sums (Some c) y kept = inr (ap by_sum (kept c refl))

  -- what stands behind a header is the same, or it wasn't read
  pub body_stays : (version : ℤ) (sum : Option ℕ) → (body_of old class version sum ≡ opaque) ⊎ (body_of new class version sum ≡ body_of old class version sum)
  body_stays version None = by_version (built_in class version) (find_in old class version) (find_in new class version) (stay.versions class version)
  body_stays version (Some sum) = by_sums (find_sum_in old class sum) (find_sum_in new class sum) (stay.sums class sum)
