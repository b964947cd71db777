-- The header of a save: it names the baskets of the header before, those that were put since, and the open ones.
use Rattle.std.proofs.Math.Dec.{eqb-suc-zero}
use Rattle.std.proofs.Common.{◌≡◌, ℕ, ◌+◌, ◌-◌, ◌≤◌, ◌<◌, List, [], ◌∷◌, ◌++◌, length, map, Bool, true, false, cond, not, ◌==◌, nat_lt, ℤ, None, refl, sym, ap, subst, ◌∙◌, arith}
use Rattle.std.proofs.lemmas.{Bool.{and_from, and_parts, eqb-true, lt-ltb, ltb-false, ltb-true}, List.{append_assoc}}
use Rattle.std.specs.{Prelude.{if◌then◌else◌}, List.{AllByRecursion, filter, list_all}}
use Rattle.rio_leaf.specs.{Stated.{leaves_of}, declared.branch.BranchDef.{BranchDef}}
use Rattle.rio_tree.specs.{Header.{has_offsets}, Refusals.{are_in_order, rise_behind}, WrittenLaws.{AreReadableBranches, IsVersionFor, counting_branches}}
use Rattle.rio_tree.specs.declared.basket_at.BasketAt.{BasketAt}
use Rattle.rio_chain.specs.Segments.{Link, segment_of}
use Rattle.rio_fill.specs.Fill.{BranchFill, TreeFill, all_saved, count_before, defs_of, entry_count, has_no_entries}
use Rattle.rio_effect.specs.{Changes.{basket_added, basket_place, changed}, TreeChanges.{all_behind, baskets_placed}, TreeRecords.{basket_at, branch_with, branches_with, head_with, words_of_basket}}
use Rattle.rio_session.specs.{Due.{IsBranchSound, begins_before}, Fillings.{branches_become, open_list, put_open}, Fills.{branch_in_header, header_of, put_baskets, put_of, saved_baskets}}
use Rattle.rio_session.proofs.{BasketsPlaced.{ArePut, BeginLater, IsPutAt, baskets_behind, one_put, puts_are}, ChangesAlike.{flagged_entries}, CutFills.{open_have}}

-- ---- baskets that begin before the entries end

abbrev pub IsEarly : ℕ → BasketAt → Bool
IsEarly count at = nat_lt at.first count

abbrev pub are_early : ℕ → List BasketAt → Bool
are_early count ats = list_all (IsEarly count) ats

pub early_all : (count : ℕ) (ats : List BasketAt) → are_early count ats ≡ true → filter (λ at. nat_lt at.first count) ats ≡ ats
early_all count [] e = refl
early_all count (at ∷ ats) e =
    let parts = and_parts (nat_lt at.first count) (are_early count ats) e in
    ap (λ (b : Bool). cond b (at ∷ filter (λ a. nat_lt a.first count) ats) (filter (λ a. nat_lt a.first count) ats)) parts.0 ∙ ap (λ (l : List BasketAt). at ∷ l) (early_all count ats parts.1)

pub early_none : (count : ℕ) (ats : List BasketAt) → are_early count ats ≡ true → filter (λ at. not (nat_lt at.first count)) ats ≡ []
early_none count [] e = refl
early_none count (at ∷ ats) e =
    let parts = and_parts (nat_lt at.first count) (are_early count ats) e in
    ap (λ (b : Bool). cond (not b) (at ∷ filter (λ a. not (nat_lt a.first count)) ats) (filter (λ a. not (nat_lt a.first count)) ats)) parts.0 ∙ early_none count ats parts.1

pub early_append : (count : ℕ) (xs ys : List BasketAt) → are_early count xs ≡ true → are_early count ys ≡ true → are_early count (xs ++ ys) ≡ true
early_append count [] ys one two = two
early_append count (x ∷ xs) ys one two =
    let parts = and_parts (nat_lt x.first count) (are_early count xs) one in and_from (nat_lt x.first count) (are_early count (xs ++ ys)) parts.0 (early_append count xs ys parts.1 two)

pub early_before : (count : ℕ) (b : BranchFill) (ats : List BasketAt) → list_all (begins_before count b) ats ≡ true → are_early count ats ≡ true
early_before count b [] e = refl
early_before count b (at ∷ ats) e =
    let parts = and_parts (begins_before count b at) (list_all (begins_before count b) ats) e in
    let low : at.first < count - length b.entries = ltb-true at.first (count_before count b) parts.0 in
    and_from (nat_lt at.first count) (are_early count ats) (lt-ltb at.first count (omega (arith, low))) (early_before count b ats parts.1)

-- all begin before the open basket
pub early_at : (count : ℕ) (b : BranchFill) (ats : List BasketAt) → list_all (begins_before count b) ats ≡ true → are_early (count_before count b) ats ≡ true
early_at count b [] e = refl
early_at count b (at ∷ ats) e =
    let parts = and_parts (begins_before count b at) (list_all (begins_before count b) ats) e in
    and_from (nat_lt at.first (count_before count b)) (are_early (count_before count b) ats) parts.0 (early_at count b ats parts.1)

-- ---- baskets that begin in order

abbrev rises : List BasketAt → Bool
rises [] = true
rises (at ∷ ats) = rise_behind at.first ats

later_rises : (first : ℕ) (ats : List BasketAt) → rise_behind first ats ≡ true → rises ats ≡ true
later_rises first [] e = refl
later_rises first (at ∷ ats) e = (and_parts (nat_lt first at.first) (rise_behind at.first ats) e).1

order_rises : (count : ℕ) (ats : List BasketAt) → are_in_order count ats ≡ true → rises ats ≡ true
order_rises count [] e = refl
order_rises count (at ∷ ats) e = (and_parts (at.first == 0) (rise_behind at.first ats) e).1

-- behind one that isn't saved none is
record NoneSaved (saved : ℕ) (ats : List BasketAt) : Type 0 where
  none : filter (λ at. nat_lt at.first saved) ats ≡ []
  all : filter (λ at. not (nat_lt at.first saved)) ats ≡ ats

not_before : (saved n : ℕ) → saved ≤ n → nat_lt n saved ≡ false
not_before saved n late = by (nat_lt n saved) refl
  where
    by : (t : Bool) → nat_lt n saved ≡ t → t ≡ false
    by true e = let low = ltb-true n saved e in absurd (omega (arith, low, late))
    by false e = refl

none_saved : (saved first : ℕ) (ats : List BasketAt) → saved ≤ first → rise_behind first ats ≡ true → NoneSaved saved ats
none_saved saved first [] late e = record { none = refl; all = refl }
none_saved saved first (at ∷ ats) late e =
    let parts = and_parts (nat_lt first at.first) (rise_behind at.first ats) e in
    let next : first < at.first = ltb-true first at.first parts.0 in
    let rest = none_saved saved at.first ats (omega (arith, late, next)) parts.1 in
    let test = not_before saved at.first (omega (arith, late, next)) in
    record {
      none = ap (λ (b : Bool). cond b (at ∷ filter (λ a. nat_lt a.first saved) ats) (filter (λ a. nat_lt a.first saved) ats)) test ∙ rest.none;
      all = ap (λ (b : Bool). cond (not b) (at ∷ filter (λ a. not (nat_lt a.first saved)) ats) (filter (λ a. not (nat_lt a.first saved)) ats)) test ∙ ap (λ (l : List BasketAt). at ∷ l) rest.all;
    }

-- so the saved ones come first
parted_by : (saved : ℕ) (ats : List BasketAt) → rises ats ≡ true → filter (λ at. nat_lt at.first saved) ats ++ filter (λ at. not (nat_lt at.first saved)) ats ≡ ats
parted_by saved [] e = refl
parted_by saved (at ∷ ats) e = by (nat_lt at.first saved) refl (parted_by saved ats (later_rises at.first ats e))
  where
    by : (b : Bool) → nat_lt at.first saved ≡ b → filter (λ a. nat_lt a.first saved) ats ++ filter (λ a. not (nat_lt a.first saved)) ats ≡ ats
        → cond b (at ∷ filter (λ a. nat_lt a.first saved) ats) (filter (λ a. nat_lt a.first saved) ats) ++ cond (not b) (at ∷ filter (λ a. not (nat_lt a.first saved)) ats) (filter (λ a. not (nat_lt a.first saved)) ats) ≡ at ∷ ats
    by true is later = ap (λ (l : List BasketAt). at ∷ l) later
    by false is later =
        let late : saved ≤ at.first = ltb-false at.first saved is in
        let none = none_saved saved at.first ats late e in
        λ i. none.none i ++ at ∷ none.all i

-- with one more that begins behind all
rise_more : (first : ℕ) (ats : List BasketAt) (at : BasketAt) → first < at.first → are_early at.first ats ≡ true → rise_behind first ats ≡ true → rise_behind first (ats ++ at ∷ []) ≡ true
rise_more first [] at low early e = and_from (nat_lt first at.first) true (lt-ltb first at.first low) refl
rise_more first (b ∷ bs) at low early e =
    let parts = and_parts (nat_lt first b.first) (rise_behind b.first bs) e in
    let tests = and_parts (nat_lt b.first at.first) (are_early at.first bs) early in
    and_from (nat_lt first b.first) (rise_behind b.first (bs ++ at ∷ [])) parts.0 (rise_more b.first bs at (ltb-true b.first at.first tests.0) tests.1 parts.1)

pub order_more : (count : ℕ) (ats : List BasketAt) (at : BasketAt) → are_early at.first ats ≡ true → are_in_order at.first ats ≡ true → are_in_order count (ats ++ at ∷ []) ≡ true
order_more count [] at early e = and_from (at.first == 0) true e refl
order_more count (b ∷ bs) at early e =
    let parts = and_parts (b.first == 0) (rise_behind b.first bs) e in
    let tests = and_parts (nat_lt b.first at.first) (are_early at.first bs) early in
    and_from (b.first == 0) (rise_behind b.first (bs ++ at ∷ [])) parts.0 (rise_more b.first bs at (ltb-true b.first at.first tests.0) tests.1 parts.1)

-- without entries in the open basket
order_same : (count other : ℕ) (ats : List BasketAt) → other ≡ count → are_in_order other ats ≡ true → are_in_order count ats ≡ true
order_same count other ats same e = subst (λ (n : ℕ). are_in_order n ats ≡ true) same e

-- ---- a branch

-- The branch with its open basket put: all of its baskets begin before the entries end, and in order, those that were saved first.
pub record IsBranchReady (saved count : ℕ) (b c : BranchFill) : Type 0 where
  pub def : c.def ≡ b.def
  pub version : c.class_version ≡ b.class_version
  pub counted : c.counted_by ≡ b.counted_by
  pub early : are_early count c.baskets ≡ true
  pub order : are_in_order count c.baskets ≡ true
  pub parts : c.baskets ≡ saved_baskets saved b ++ put_baskets saved c
  pub none : c.entries ≡ []

no_entries : (b : BranchFill) → has_no_entries b ≡ true → b.entries ≡ []
no_entries b e = by b.entries e
  where
    by : (es : List (List ℕ)) → (length es == 0) ≡ true → es ≡ []
    by [] e = refl
    by (x ∷ es) e = let never = eqb-suc-zero (length es) in absurd cc

some_long : (b : BranchFill) → has_no_entries b ≡ false → 0 < length b.entries
some_long b e = by b.entries e
  where
    by : (es : List (List ℕ)) → (length es == 0) ≡ false → 0 < length es
    by [] e = absurd cc
    by (x ∷ es) e = omega arith

-- what the header says of it then
pub header_ready : (saved count : ℕ) (b c : BranchFill) → IsBranchReady saved count b c → branch_in_header count c ≡ branch_with count (branch_in_header saved b) (put_baskets saved c)
header_ready saved count b c ready =
    let all : saved_baskets count c ≡ saved_baskets saved b ++ put_baskets saved c = early_all count c.baskets ready.early ∙ ready.parts in
    let def = ready.def in
    let version = ready.version in
    let counted = ready.counted in
    λ i. record { def = def i; class_version = version i; entries = count; offsets = has_offsets (def i).shape; baskets = all i; counted_by = counted i; refused = None }

module _ (saved pending : ℕ) (b : BranchFill) (sound : IsBranchSound saved pending b) where
  early_now : are_early (saved + pending) b.baskets ≡ true
  early_now = early_before (saved + pending) b b.baskets sound.begins

  pub parted : saved_baskets saved b ++ put_baskets saved b ≡ b.baskets
  parted = parted_by saved b.baskets (order_rises (count_before (saved + pending) b) b.baskets sound.order)

  -- one whose open basket is empty stays
  pub idle_ready : (c : BranchFill) → c ≡ b → has_no_entries b ≡ true → IsBranchReady saved (saved + pending) b c
  idle_ready c same empty =
      let none = no_entries b empty in
      let long = ap length none in
      let all : count_before (saved + pending) b ≡ saved + pending = omega (arith, long) in
      subst (λ (d : BranchFill). IsBranchReady saved (saved + pending) b d) (sym same) (record {
        def = refl;
        version = refl;
        counted = refl;
        early = early_now;
        order = order_same (saved + pending) (count_before (saved + pending) b) b.baskets all sound.order;
        parts = sym parted;
        none = none;
      })

  pub put_ready : (c : BranchFill) → IsPutAt (saved + pending) b c → has_no_entries b ≡ false → IsBranchReady saved (saved + pending) b c
  put_ready c put some =
      let few = sound.few in
      let long = some_long b some in
      let first : put.at.first ≡ saved + pending - length b.entries = put.first in
      let own : are_early (saved + pending) (put.at ∷ []) ≡ true = and_from (nat_lt put.at.first (saved + pending)) true (lt-ltb put.at.first (saved + pending) (omega (arith, first, few, long))) refl in
      let later : saved ≤ put.at.first = omega (arith, first, few) in
      subst (λ (d : BranchFill). IsBranchReady saved (saved + pending) b d) (sym put.is) (record {
        def = refl;
        version = refl;
        counted = refl;
        early = early_append (saved + pending) b.baskets (put.at ∷ []) early_now own;
        order = order_more (saved + pending) b.baskets put.at (subst (λ (n : ℕ). are_early n b.baskets ≡ true) (sym put.first) (early_at (saved + pending) b b.baskets sound.begins)) (subst (λ (n : ℕ). are_in_order n b.baskets ≡ true) (sym put.first) sound.order);
        parts = ap (λ (l : List BasketAt). l ++ put.at ∷ []) (sym parted)
            ∙ append_assoc (saved_baskets saved b) (put_baskets saved b) (put.at ∷ [])
            ∙ ap (λ (l : List BasketAt). saved_baskets saved b ++ l) (sym (one_put saved put.at b later));
        none = refl;
      })

-- ---- all branches

-- so it is of each
abbrev pub AreReady : ℕ → ℕ → List BranchFill → List BranchFill → Type 0
AreReady saved count [] [] = Unit {0}
AreReady saved count [] (c ∷ cs) = ⊥
AreReady saved count (b ∷ bs) [] = ⊥
AreReady saved count (b ∷ bs) (c ∷ cs) = IsBranchReady saved count b c × AreReady saved count bs cs

abbrev pub AreSound : ℕ → ℕ → List BranchFill → Type 0
AreSound saved pending bs = AllByRecursion (IsBranchSound saved pending) bs

one_ready : (saved pending : ℕ) (b c : BranchFill) (bs cs : List BranchFill) (flags : List Bool) (t : Bool) → has_no_entries b ≡ t → IsBranchSound saved pending b
    → ArePut (saved + pending) (b ∷ bs) (not t ∷ flags) (c ∷ cs) → IsBranchReady saved (saved + pending) b c × ArePut (saved + pending) bs flags cs
one_ready saved pending b c bs cs flags true is sound are = (idle_ready saved pending b sound c are.0 is, are.1)
one_ready saved pending b c bs cs flags false is sound are = (put_ready saved pending b sound c are.0 is, are.1)

pub all_ready : (saved pending : ℕ) (bs cs : List BranchFill) → AreSound saved pending bs → ArePut (saved + pending) bs (open_list bs) cs → AreReady saved (saved + pending) bs cs
all_ready saved pending [] [] sound are = tt
all_ready saved pending [] (c ∷ cs) sound are = absurd are
all_ready saved pending (b ∷ bs) [] sound are = absurd (by (has_no_entries b) are)
  where
    by : (t : Bool) → ArePut (saved + pending) (b ∷ bs) (not t ∷ open_list bs) [] → ⊥
    by true f = f
    by false f = f
all_ready saved pending (b ∷ bs) (c ∷ cs) sound are =
    let one = one_ready saved pending b c bs cs (open_list bs) (has_no_entries b) refl sound.0 are in
    (one.0, all_ready saved pending bs cs sound.1 one.1)

heads_ready : (saved count : ℕ) (bs cs : List BranchFill) → AreReady saved count bs cs → map (branch_in_header count) cs ≡ branches_with count (map (branch_in_header saved) bs) (map (put_baskets saved) cs)
heads_ready saved count [] [] are = refl
heads_ready saved count [] (c ∷ cs) are = absurd are
heads_ready saved count (b ∷ bs) [] are = absurd are
heads_ready saved count (b ∷ bs) (c ∷ cs) are = let one = header_ready saved count b c are.0 in let rest = heads_ready saved count bs cs are.1 in λ i. one i ∷ rest i

-- nothing is put since
pub none_since : (saved count : ℕ) (bs cs : List BranchFill) → AreReady saved count bs cs → map (put_baskets count) cs ≡ map (λ c. []) cs
none_since saved count [] [] are = refl
none_since saved count [] (c ∷ cs) are = absurd are
none_since saved count (b ∷ bs) [] are = absurd are
none_since saved count (b ∷ bs) (c ∷ cs) are = let one = early_none count c.baskets are.0.early in let rest = none_since saved count bs cs are.1 in λ i. one i ∷ rest i

-- the branches are read in the next header
pub readable_then : (saved count : ℕ) (before : List BranchDef) (bs cs : List BranchFill) → AreReady saved count bs cs → AreReadableBranches saved before (map (branch_in_header saved) bs)
    → AreReadableBranches count before (map (branch_in_header count) cs)
readable_then saved count before [] [] are readable = tt
readable_then saved count before [] (c ∷ cs) are readable = absurd are
readable_then saved count before (b ∷ bs) [] are readable = absurd are
readable_then saved count before (b ∷ bs) (c ∷ cs) are readable =
    let ready = are.0 in
    let rest = readable_then saved count (before ++ b.def ∷ []) bs cs are.1 readable.1 in (
      record {
        refused = refl;
        entries_as_tree = refl;
        offsets_as_shape = refl;
        version_as_shape = let def = ready.def in let version = ready.version in subst (λ (p : BranchDef × ℤ). IsVersionFor p.0.shape p.1) (λ i. (sym def i, sym version i)) readable.0.version_as_shape;
        counted = let def = ready.def in ready.counted ∙ readable.0.counted ∙ (λ i. counting_branches before (leaves_of (sym def i).shape));
        in_order = subst (λ (ats : List BasketAt). are_in_order count ats ≡ true) (sym (early_all count c.baskets ready.early)) ready.order;
      },
      subst (λ (d : BranchDef). AreReadableBranches count (before ++ d ∷ []) (map (branch_in_header count) cs)) (sym ready.def) rest,
    )

pub begin_later : (saved pending : ℕ) (bs : List BranchFill) → AreSound saved pending bs → BeginLater saved (saved + pending) bs
begin_later saved pending [] sound = tt
begin_later saved pending (b ∷ bs) sound = let few = sound.0.few in (omega (arith, few), begin_later saved pending bs sound.1)

-- ---- without pending rows

-- no baskets were put since the last save
pub idle_put : (saved pending : ℕ) (bs : List BranchFill) → pending ≡ 0 → AreSound saved pending bs → AllByRecursion (λ b. put_baskets saved b ≡ []) bs
idle_put saved pending [] none sound = tt
idle_put saved pending (b ∷ bs) none sound =
    let early = early_before (saved + pending) b b.baskets sound.0.begins in
    let same : saved + pending ≡ saved = omega (arith, none) in
    (early_none saved b.baskets (subst (λ (n : ℕ). are_early n b.baskets ≡ true) same early), idle_put saved pending bs none sound.1)

-- behind none there are those that are placed
behind_idle : (datime : ℕ) (name : List ℕ) (saved count : ℕ) (links : List Link) (bs : List BranchFill) (entries : List (List (List ℕ))) → AllByRecursion (λ b. put_baskets saved b ≡ []) bs
    → all_behind (map (put_baskets saved) bs) (baskets_placed datime name count links (defs_of bs) entries) ≡ baskets_placed datime name count links (defs_of bs) entries
behind_idle datime name saved count links [] entries none = refl
behind_idle datime name saved count links (b ∷ bs) [] none =
    let one : put_baskets saved b ++ [] ≡ [] = ap (λ (l : List BasketAt). l ++ []) none.0 in
    let rest = behind_idle datime name saved count links bs [] none.1 in
    λ i. one i ∷ rest i
behind_idle datime name saved count links (b ∷ bs) ([] ∷ entries) none =
    let one : put_baskets saved b ++ [] ≡ [] = ap (λ (l : List BasketAt). l ++ []) none.0 in
    let rest = behind_idle datime name saved count links bs entries none.1 in
    λ i. one i ∷ rest i
behind_idle datime name saved count links (b ∷ bs) ((e ∷ es) ∷ entries) none =
    let words = words_of_basket name b.def datime (e ∷ es) in
    let at = basket_at (basket_place links words) (count - length (e ∷ es)) words in
    let one : put_baskets saved b ++ at ∷ [] ≡ at ∷ [] = ap (λ (l : List BasketAt). l ++ at ∷ []) none.0 in
    let rest = behind_idle datime name saved count (changed links (basket_added words)) bs entries none.1 in
    λ i. one i ∷ rest i

-- ---- the header

module _ (datime : ℕ) (name : List ℕ) (links : List Link) (t : TreeFill) (sound : AreSound t.saved t.pending t.branches) where
  -- the branches once the open baskets are put
  abbrev pub branches_then : List BranchFill
  branches_then = (put_open datime name (entry_count t) (map segment_of links) t.branches (open_list t.branches)).branches

  -- where the open baskets stand then
  abbrev pub placed_then : List (List BasketAt)
  placed_then = baskets_placed datime name (entry_count t) links (defs_of t.branches) (flagged_entries t.branches (open_list t.branches))

  pub are_ready : AreReady t.saved (entry_count t) t.branches (put_open datime name (entry_count t) (map segment_of links) t.branches (open_list t.branches)).branches
  are_ready = all_ready t.saved t.pending t.branches branches_then sound (puts_are datime name (entry_count t) (map segment_of links) t.branches (open_list t.branches))

  put_is : all_behind (map (put_baskets t.saved) t.branches) placed_then ≡ all_behind (put_of t) placed_then
  put_is = by (t.pending == 0) refl
    where
      by : (b : Bool) → (t.pending == 0) ≡ b → all_behind (map (put_baskets t.saved) t.branches) placed_then ≡ all_behind (if b then [] else map (put_baskets t.saved) t.branches) placed_then
      by true is = behind_idle datime name t.saved (entry_count t) links t.branches (flagged_entries t.branches (open_list t.branches)) (idle_put t.saved t.pending t.branches (eqb-true t.pending 0 is) sound)
      by false is = refl

  pub next_header : header_of (all_saved (branches_become (put_open datime name (entry_count t) (map segment_of links) t.branches (open_list t.branches)).branches t))
      ≡ head_with (entry_count t) (header_of t) (all_behind (put_of t) (baskets_placed datime name (entry_count t) links (defs_of t.branches) (flagged_entries t.branches (open_list t.branches))))
  next_header =
      let heads = heads_ready t.saved (entry_count t) t.branches branches_then are_ready in
      let behind = baskets_behind datime name t.saved (entry_count t) links t.branches (open_list t.branches) (open_have t.branches) (begin_later t.saved t.pending t.branches sound) in
      let all = heads ∙ ap (branches_with (entry_count t) (map (branch_in_header t.saved) t.branches)) (behind ∙ put_is) in
      λ i. record { entries = entry_count t; branches = all i }
