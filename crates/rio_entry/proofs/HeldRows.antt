-- The parts of a row, branch after branch, and the baskets that are held for it.
use Rattle.std.proofs.Common.{◌≡◌, ◌≢◌, ℕ, zero, suc, ◌+◌, ◌-◌, ◌<◌, ◌≤◌, Bool, true, false, ◌&&◌, List, [], ◌∷◌, ◌++◌, length, map, drop, get_or, slice_get, slice_set, Option, Some, None, unwrap_or, refl, sym, ap, subst, ◌∙◌, append_assoc, arith}
use Rattle.std.proofs.{lemmas.List.{append-nil, drop_all, map-append}, lemmas.Option.{slice_get_within}}
use Rattle.std.specs.{List.{list_all, range_with_len}, Option.{option_map}}
use Rattle.rio_leaf.specs.declared.branch.BranchDef.{BranchDef}
use Rattle.rio_tree.specs.{WrittenLaws.{stated_defs}, declared.head.Branch.{Branch}}
use Rattle.rio_entry.specs.{HeldLanes.{HoldEntry, HoldsEntry}, Lanes.{AreLanes}, declared.lane.Lane.{Lane}}
use Rattle.rio_tree.specs.SavedEntries.{all_there}
use Rattle.rio_entry.proofs.Counting.{left_begins}

-- ---- lanes

some_same : {X : Type 0} (x y : X) → Some x ≡ Some y → x ≡ y
some_same x y e = ap (λ (o : Option _). unwrap_or o x) e

-- a lane in a list in which one is another
lane_is : (lanes : List Lane) (k j : ℕ) (new lane : Lane) (P : Lane → Type 0) → slice_get (slice_set lanes k new) j ≡ Some lane → (j ≡ k → P new) → (j ≢ k → slice_get lanes j ≡ Some lane → P lane) → P lane
lane_is [] k zero new lane P is one others = absurd cc
lane_is [] k (suc j) new lane P is one others = absurd cc
lane_is (l ∷ ls) zero zero new lane P is one others = subst P (some_same new lane is) (one refl)
lane_is (l ∷ ls) zero (suc j) new lane P is one others = others (λ e. omega (arith, e)) is
lane_is (l ∷ ls) (suc k) zero new lane P is one others = others (λ e. omega (arith, e)) is
lane_is (l ∷ ls) (suc k) (suc j) new lane P is one others = lane_is ls k j new lane P is (λ e. one (ap suc e)) (λ ne. others (λ e. ne (omega (arith, e))))

pub holds_set : (file : List ℕ) (e : ℕ) (bs : List Branch) (lanes : List Lane) (k : ℕ) (b : Branch) (new : Lane) → HoldEntry file e k bs lanes → slice_get bs k ≡ Some b → HoldsEntry file e b new → HoldEntry file e (k + 1) bs (slice_set lanes k new)
holds_set file e bs lanes k b new so_far there one = λ j d lane lt is held.
    lane_is lanes k j new lane (HoldsEntry file e d) held
    (λ same. subst (λ (x : Branch). HoldsEntry file e x new) (some_same b d (sym there ∙ ap (slice_get bs) (sym same) ∙ is)) one)
    (λ other was. so_far j d lane (omega (arith, lt, other)) is was)

pub held_lanes : (file : List ℕ) (e : ℕ) (bs : List Branch) (lanes : List Lane) → HoldEntry file e (length bs) bs lanes → AreLanes file e bs lanes
held_lanes file e bs lanes all = λ k b lane is held.
    let one = all k b lane (slice_get_within bs k b is) is held in
    (omega (arith, one.number), one.held)

-- ---- the parts of a row

entries_front : (front : List (List ℕ)) (x : List ℕ) (o : Option (List (List ℕ))) → option_map (λ more. (front ++ x ∷ []) ++ more) o ≡ option_map (λ more. front ++ more) (option_map (λ xs. x ∷ xs) o)
entries_front front x None = refl
entries_front front x (Some more) = ap (λ (l : List (List ℕ)). let r : Option (List (List ℕ)) = Some l in r) (append_assoc front (x ∷ []) more)

module _ {P : Type 0} (bs : List Branch) (k : ℕ) (parts : List P) where
  module _ (b : Branch) (lt : k < length bs) (e : b ≡ get_or bs k b) where
    module _ (new : List P) (part : P) (is : new ≡ parts ++ part ∷ []) where
      pub defs_more : (def : P → BranchDef) (total : List BranchDef) → def part ≡ b.def → map def parts ++ stated_defs (drop k bs) ≡ total → map def new ++ stated_defs (drop (k + 1) bs) ≡ total
      defs_more def total own so_far =
          ap (λ (ps : List P). map def ps ++ stated_defs (drop (k + 1) bs)) is
          ∙ ap (λ (ds : List BranchDef). ds ++ stated_defs (drop (k + 1) bs)) (map-append def parts (part ∷ []))
          ∙ append_assoc (map def parts) (def part ∷ []) (stated_defs (drop (k + 1) bs))
          ∙ ap (λ (d : BranchDef). map def parts ++ (d ∷ stated_defs (drop (k + 1) bs))) own
          ∙ ap (λ (l : List Branch). map def parts ++ stated_defs l) (sym (left_begins bs k b lt e))
          ∙ so_far

      pub entries_more : (F : Branch → Option (List ℕ)) (entry : P → List ℕ) (total : Option (List (List ℕ))) → Some (entry part) ≡ F b
          → option_map (λ more. map entry parts ++ more) (all_there (map F (drop k bs))) ≡ total → option_map (λ more. map entry new ++ more) (all_there (map F (drop (k + 1) bs))) ≡ total
      entries_more F entry total own so_far =
          let rest = all_there (map F (drop (k + 1) bs)) in
          ap (λ (ps : List P). option_map (λ more. map entry ps ++ more) rest) is
          ∙ ap (λ (es : List (List ℕ)). option_map (λ more. es ++ more) rest) (map-append entry parts (part ∷ []))
          ∙ entries_front (map entry parts) (entry part) rest
          ∙ ap (λ (o : Option (List ℕ)). option_map (λ more. map entry parts ++ more) (all_there (o ∷ map F (drop (k + 1) bs)))) own
          ∙ ap (λ (l : List Branch). option_map (λ more. map entry parts ++ more) (all_there (map F l))) (sym (left_begins bs k b lt e))
          ∙ so_far

    pub entries_stop : (F : Branch → Option (List ℕ)) (entry : P → List ℕ) (total : Option (List (List ℕ))) → None ≡ F b → option_map (λ more. map entry parts ++ more) (all_there (map F (drop k bs))) ≡ total → None ≡ total
    entries_stop F entry total own so_far =
        ap (λ (o : Option (List ℕ)). option_map (λ more. map entry parts ++ more) (all_there (o ∷ map F (drop (k + 1) bs)))) own
        ∙ ap (λ (l : List Branch). option_map (λ more. map entry parts ++ more) (all_there (map F l))) (sym (left_begins bs k b lt e))
        ∙ so_far

  pub entries_all : (F : Branch → Option (List ℕ)) (entry : P → List ℕ) (total : Option (List (List ℕ))) → length bs ≤ k → option_map (λ more. map entry parts ++ more) (all_there (map F (drop k bs))) ≡ total → Some (map entry parts) ≡ total
  entries_all F entry total le so_far =
      ap (λ (l : List (List ℕ)). let r : Option (List (List ℕ)) = Some l in r) (sym (append-nil (map entry parts)))
      ∙ ap (λ (l : List Branch). option_map (λ more. map entry parts ++ more) (all_there (map F l))) (sym (drop_all k bs le))
      ∙ so_far

-- ---- rows, one after the other

module _ (p : ℕ → Bool) (n : ℕ) where
  row_on : (e : ℕ) → e < n → list_all p (range_with_len e (n - e)) ≡ (p e && list_all p (range_with_len (e + 1) (n - (e + 1))))
  row_on e lt =
      let one : n - e ≡ suc (n - (e + 1)) = omega (arith, lt) in
      ap (λ (m : ℕ). list_all p (range_with_len e m)) one

  pub rows_more : (e : ℕ) (total : Bool) → e < n → p e ≡ true → list_all p (range_with_len e (n - e)) ≡ total → list_all p (range_with_len (e + 1) (n - (e + 1))) ≡ total
  rows_more e total lt there so_far = ap (λ (b : Bool). b && list_all p (range_with_len (e + 1) (n - (e + 1)))) (sym there) ∙ sym (row_on e lt) ∙ so_far

  pub rows_fail : (e : ℕ) (total : Bool) → e < n → p e ≡ false → list_all p (range_with_len e (n - e)) ≡ total → false ≡ total
  rows_fail e total lt none so_far = ap (λ (b : Bool). b && list_all p (range_with_len (e + 1) (n - (e + 1)))) (sym none) ∙ sym (row_on e lt) ∙ so_far

  pub rows_end : (e : ℕ) (total : Bool) → n ≤ e → list_all p (range_with_len e (n - e)) ≡ total → true ≡ total
  rows_end e total le so_far =
      let none : n - e ≡ 0 = omega (arith, le) in
      ap (λ (m : ℕ). list_all p (range_with_len e m)) (sym none) ∙ so_far

  pub rows_begin : list_all p (range_with_len 0 (n - 0)) ≡ list_all p (range_with_len 0 n)
  rows_begin = let same : n - 0 ≡ n = omega arith in ap (λ (m : ℕ). list_all p (range_with_len 0 m)) same
