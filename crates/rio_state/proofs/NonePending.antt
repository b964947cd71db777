-- Of trees without pending rows nothing is open, and a close writes nothing.
use Rattle.std.proofs.Common.{◌≡◌, ◌∙◌, ℕ, ◌+◌, List, [], ◌∷◌, ◌++◌, length, map, min, codes, Option, Some, None, refl, ap, arith}
use Rattle.std.proofs.lemmas.List.Sums.{sum_by-cons}
use Rattle.std.specs.{List.{cons_option, flat_map, sum_by}, Option.{option_map, option_map_or}}
use Rattle.rio_leaf.specs.declared.branch.BranchDef.{BranchDef}
use Rattle.rio_format.specs.declared.class.ClassDef.{ClassDef}
use Rattle.rio_machine.specs.Limits.{head_length}
use Rattle.rio_key.specs.Cut.{Cut, baskets_of_cut, cut_of}
use Rattle.rio_tree.specs.{HeaderLength.{basket_count, header_length}, WrittenLaws.{stated_defs}, declared.head.TreeHead.{TreeHead}}
use Rattle.rio_state.specs.{Contents.{FileClasses}, KeyedRecords.{KeyedRecord}, Trees.{header_in}}
use Rattle.rio_state.specs.TreeLengths.{TreeLengths, cut_count, entries_by_branch, idle_length, none_pending, open_baskets, put_among, put_count, save_lengths, small_fillings, tree_lengths, trees_among}

-- ---- no rows

abbrev pub no_cuts : List BranchDef → List Cut
no_cuts bs = map cut_of (entries_by_branch bs [])

pub no_count : (bs : List BranchDef) → cut_count (no_cuts bs) ≡ 0
no_count [] = refl
no_count (b ∷ bs) = omega (arith, sum_by-cons (λ (cut : Cut). length (baskets_of_cut cut)) (cut_of []) (no_cuts bs), no_count bs)

pub no_put : (bs : List BranchDef) → put_count (no_cuts bs) ≡ 0
no_put [] = refl
no_put (b ∷ bs) = omega (arith, sum_by-cons (λ (cut : Cut). length cut.put) (cut_of []) (no_cuts bs), no_put bs)

none_open : (name : List ℕ) (bs : List BranchDef) → open_baskets name bs (no_cuts bs) ≡ []
none_open name [] = refl
none_open name (b ∷ bs) = none_open name bs

-- ---- trees

-- what is left of a tree: the header that a save would write next is as long as that of now
pub record IsIdle (name : List ℕ) (head : TreeHead) (t : TreeLengths) : Type 0 where
  pub saves : save_lengths t ≡ []
  pub idle : idle_length t ≡ head_length (codes "TTree") name + header_length name (stated_defs head.branches) (basket_count head) + 3
  pub opened : length t.baskets ≡ 0
  pub fillings : small_fillings t ≡ 0

pub idle_tree : (classes : List ClassDef) (name : List ℕ) (head : TreeHead) → IsIdle name head (tree_lengths classes name [] head)
unfolding tree_lengths
idle_tree classes name head =
    let none = none_open name (stated_defs head.branches) in
    record {
      saves = refl;
      idle = omega (arith, no_count (stated_defs head.branches));
      opened = ap length none;
      fillings = ap (sum_by (λ b. min 400 b.filling)) none;
    }

-- of a header that is read, if it is
abbrev tree_of_header : FileClasses → KeyedRecord → Option TreeHead → Option TreeLengths
tree_of_header classes r o = option_map (tree_lengths classes.declared r.head.name []) o

pub record AreIdle (classes : FileClasses) (hs : List KeyedRecord) : Type 0 where
  pub saves : flat_map save_lengths (trees_among classes none_pending hs) ≡ []
  pub opened : sum_by (λ t. length t.baskets) (trees_among classes none_pending hs) ≡ 0
  pub fillings : sum_by small_fillings (trees_among classes none_pending hs) ≡ 0
  pub put : put_among classes none_pending hs ≡ 0

abbrev put_of : FileClasses → KeyedRecord → Option TreeHead → ℕ
put_of classes r o = option_map_or (λ head. put_count (no_cuts (stated_defs head.branches))) o 0

pub all_idle : (classes : FileClasses) (hs : List KeyedRecord) → AreIdle classes hs
unfolding put_among
all_idle classes [] = record { saves = refl; opened = refl; fillings = refl; put = refl }
all_idle classes (r ∷ hs) = by (header_in classes r) refl (all_idle classes hs)
  where
    by : (o : Option TreeHead) → header_in classes r ≡ o → AreIdle classes hs → AreIdle classes (r ∷ hs)
    by None is idle =
        let rest = trees_among classes none_pending hs in
        let same : trees_among classes none_pending (r ∷ hs) ≡ rest = ap (λ (o : Option TreeHead). cons_option (tree_of_header classes r o) rest) is in
        record {
          saves = ap (flat_map save_lengths) same ∙ idle.saves;
          opened = ap (sum_by (λ t. length t.baskets)) same ∙ idle.opened;
          fillings = ap (sum_by small_fillings) same ∙ idle.fillings;
          put = omega (arith, idle.put, sum_by-cons (λ s. put_of classes s (header_in classes s)) r hs, ap (put_of classes r) is);
        }
    by (Some head) is idle =
        let rest = trees_among classes none_pending hs in
        let t = tree_lengths classes.declared r.head.name [] head in
        let own = idle_tree classes.declared r.head.name head in
        let same : trees_among classes none_pending (r ∷ hs) ≡ t ∷ rest = ap (λ (o : Option TreeHead). cons_option (tree_of_header classes r o) rest) is in
        record {
          saves = ap (flat_map save_lengths) same ∙ ap (λ (ns : List ℕ). ns ++ flat_map save_lengths rest) own.saves ∙ idle.saves;
          opened = ap (sum_by (λ t. length t.baskets)) same ∙ omega (arith, own.opened, idle.opened, sum_by-cons (λ (t : TreeLengths). length t.baskets) t rest);
          fillings = ap (sum_by small_fillings) same ∙ omega (arith, own.fillings, idle.fillings, sum_by-cons small_fillings t rest);
          put = omega (arith, idle.put, sum_by-cons (λ s. put_of classes s (header_in classes s)) r hs, ap (put_of classes r) is, no_put (stated_defs head.branches));
        }
