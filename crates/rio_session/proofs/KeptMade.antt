-- Trees that are kept one after the other, in order of their names.
use Rattle.std.proofs.Common.{◌≡◌, ℕ, zero, suc, ◌+◌, ◌<◌, List, [], ◌∷◌, ◌++◌, length, map, take, get_or, Bool, true, false, cond, Some, None, refl, sym, ap, ◌∙◌, arith}
use Rattle.std.proofs.{lemmas.List.{map_push}, Math.Seq.{take-suc}}
use Rattle.std.specs.{Ordering.{is_lt}}
use Rattle.std.specs.declared.cmp.Ordering.{Ordering, TheVariants.{Less, Equal, Greater}}
use Rattle.rio_num.specs.Word.{name_order}
use Rattle.rio_dir.specs.Table.{first_by}
use Rattle.rio_recover.specs.{TreeTable.{AreAfter, AreInOrder, is_name_before}, declared.trees.TreeAt.{TreeAt}}
use Rattle.rio_tree_table.specs.{Table.{is_before, tree_of, with_tree}, declared.table.KeptTree.{KeptTree}}
use Rattle.rio_tree_table.proofs.TableLaws.{before_not_of}
use Rattle.rio_session.proofs.FillLists.{opened_tree}

lower_name : (r : Ordering) → first_by r false ≡ true → is_lt r ≡ true
lower_name Less e = refl
lower_name Equal e = absurd cc
lower_name Greater e = absurd cc

pub after_at : (name : List ℕ) (ts : List TreeAt) → AreAfter name ts → (k : ℕ) (d : TreeAt) → k < length ts → is_name_before name (get_or ts k d).name ≡ true
after_at name [] are k d low = absurd (omega (arith, low))
after_at name (t ∷ ts) are zero d low = are.0
after_at name (t ∷ ts) are (suc k) d low = after_at name ts are.1 k d (omega (arith, low))

-- each tree comes behind those before it
behind_first : (t : TreeAt) (ts : List TreeAt) (k : ℕ) (d : TreeAt) → AreInOrder (t ∷ ts) → k < length ts → is_before (get_or ts k d).name (opened_tree t) ≡ true
behind_first t ts k d are low = lower_name (name_order t.name (get_or ts k d).name) (after_at t.name ts are.0 k d low)

-- so no tree of its name is kept yet
pub none_yet : (trees : List TreeAt) (k : ℕ) (d : TreeAt) → AreInOrder trees → k < length trees → tree_of (get_or trees k d).name (map opened_tree (take k trees)) ≡ None
none_yet [] k d are low = absurd (omega (arith, low))
none_yet (t ∷ ts) zero d are low = refl
none_yet (t ∷ ts) (suc k) d are low =
    let other = before_not_of (get_or ts k d).name (opened_tree t) (behind_first t ts k d are (omega (arith, low))) in
    ap (λ (b : Bool). cond b (Some (opened_tree t)) (tree_of (get_or ts k d).name (map opened_tree (take k ts)))) other ∙ none_yet ts k d are.1 (omega (arith, low))

-- and its place is the last
kept_last : (trees : List TreeAt) (k : ℕ) (d : TreeAt) → AreInOrder trees → k < length trees
    → with_tree (opened_tree (get_or trees k d)) (map opened_tree (take k trees)) ≡ map opened_tree (take k trees) ++ opened_tree (get_or trees k d) ∷ []
kept_last [] k d are low = absurd (omega (arith, low))
kept_last (t ∷ ts) zero d are low = refl
kept_last (t ∷ ts) (suc k) d are low =
    let kept = opened_tree (get_or ts k d) in
    let rest = map opened_tree (take k ts) in
    let behind : is_before kept.name (opened_tree t) ≡ true = behind_first t ts k d are (omega (arith, low)) in
    ap (λ (b : Bool). cond b (opened_tree t ∷ with_tree kept rest) (kept ∷ opened_tree t ∷ rest)) behind
    ∙ ap (λ (us : List KeptTree). opened_tree t ∷ us) (kept_last ts k d are.1 (omega (arith, low)))

-- so with one tree more those of one more header are kept
pub kept_more : (trees : List TreeAt) (k : ℕ) (d : TreeAt) → AreInOrder trees → k < length trees → with_tree (opened_tree (get_or trees k d)) (map opened_tree (take k trees)) ≡ map opened_tree (take (k + 1) trees)
kept_more trees k d are low =
    kept_last trees k d are low
    ∙ sym (map_push opened_tree (take k trees) (get_or trees k d))
    ∙ ap (map opened_tree) (sym (take-suc trees k d low))
    ∙ ap (λ (n : ℕ). map opened_tree (take n trees)) (let e : suc k ≡ k + 1 = omega arith in e)
