-- The orders of objects and of trees.
use Rattle.std.proofs.Common.{◌≡◌, ℕ, List, refl, sym}
use Rattle.std.specs.Cmp.{IsTotalOrder, then_total, on_total, back_total, nat_cmp_total, Lexicographic.{nat_list_cmp_total}}
use Rattle.std.specs.{FinMap.{IsAntisymmetric, nat_cmp-IsAntisymmetric, slice_cmp-IsAntisymmetric, get, same_map}, Ordering.{ordering_then}}
use Rattle.std.specs.declared.cmp.Ordering.{Ordering, TheVariants.{Less, Equal, Greater}}
use Rattle.rio_num.specs.Word.{name_order}
use Rattle.rio_machine.specs.State.{NameAndCycle, OrdersAreTotal, State, item_order}

pub names_total : IsTotalOrder name_order
names_total = nat_list_cmp_total

pub items_total : IsTotalOrder item_order
items_total = then_total (on_total (λ item. item.0) nat_list_cmp_total) (on_total (λ item. item.1) (back_total nat_cmp_total))

pub names_tie : IsAntisymmetric name_order
names_tie = slice_cmp-IsAntisymmetric nat_cmp-IsAntisymmetric

first_equal : (a b : Ordering) → ordering_then a b ≡ Equal → a ≡ Equal
first_equal Less b e = e
first_equal Equal b e = refl
first_equal Greater b e = e

second_equal : (a b : Ordering) → ordering_then a b ≡ Equal → b ≡ Equal
second_equal Less b e = cc
second_equal Equal b e = e
second_equal Greater b e = cc

pub items_tie : IsAntisymmetric item_order
items_tie x y e =
    let names = names_tie x.0 y.0 (first_equal _ _ e) in
    let cycles = nat_cmp-IsAntisymmetric y.1 x.1 (second_equal _ _ e) in
    λ i. (names i, sym cycles i)

pub same_state : (m n : State) → m.classes ≡ n.classes → ((item : NameAndCycle) → get m.objects item ≡ get n.objects item)
    → ((name : List ℕ) → get m.trees name ≡ get n.trees name) → m ≡ n
same_state m n classes objects trees =
    let o = same_map items_total items_tie m.objects n.objects objects in
    let t = same_map names_total names_tie m.trees n.trees trees in
    λ i. record { classes = classes i; objects = o i; trees = t i }

pub orders_are_total : OrdersAreTotal
orders_are_total = record { items = items_total; names = names_total; items_tie = items_tie; names_tie = names_tie; same_state = same_state }
