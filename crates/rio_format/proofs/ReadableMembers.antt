-- Going over the members of a class.
use Rattle.std.proofs.{Common.{◌≡◌, ℕ, ◌+◌, ◌<◌, List, [], ◌∷◌, length, get_or, drop, Bool, true, ◌&&◌, sym, ap, ◌∙◌}, lemmas.List.{drop_more}}
use Rattle.rio_format.specs.{declared.class.Member.{Member}, Members.{can_read, can_read_all, names_with}}

-- one more member
pub can_read_more : (members : List Member) (k : ℕ) (m : Member) (names : List (List ℕ)) → k < length members → m ≡ get_or members k m → can_read names m.kind ≡ true → can_read_all names (drop k members) ≡ can_read_all [] members → can_read_all (names_with m names) (drop (k + 1) members) ≡ can_read_all [] members
can_read_more members k m names lt e readable so_far =
    let split : drop k members ≡ m ∷ drop (k + 1) members = drop_more members k m lt ∙ ap (λ (x : Member). x ∷ drop (k + 1) members) (sym e) in
    ap (λ (b : Bool). b && can_read_all (names_with m names) (drop (k + 1) members)) (sym readable)
    ∙ ap (can_read_all names) (sym split)
    ∙ so_far
