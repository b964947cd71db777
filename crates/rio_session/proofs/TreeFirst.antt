-- A tree of the state has a key, which is found by its name.
use Rattle.std.proofs.Common.{◌≡◌, ◌∙◌, inl, inr, ℕ, List, [], ◌∷◌, ◌++◌, Bool, true, false, cond, Option, Some, None, refl, sym, ap}
use Rattle.std.proofs.lemmas.Slice.Eq.{bytes_eq-Decides}
use Rattle.std.specs.{FinMap.{get}, List.{find}}
use Rattle.rio_key.specs.declared.head.KeyHead.{KeyHead}
use Rattle.rio_dir.specs.Table.{head_of, is_of_name}
use Rattle.rio_machine.specs.State.{State, Tree}
use Rattle.rio_state.specs.KeyedRecords.{keyed_records, object_records, top_keys, tree_records}
use Rattle.rio_state.proofs.{KeysFollow.{items_in}, Members.{In, in_map, in_right}}
use Rattle.rio_effect.proofs.FillNeeds.{HeaderOfTree, header_of_tree}
use Rattle.rio_session.specs.SessionState.{SessionState}
use Rattle.rio_session.proofs.StandsOn.{StandsOn}

pub record HasFirst (name : List ℕ) (heads : List KeyHead) : Type 0 where
  pub k : KeyHead
  pub first : head_of name None heads ≡ Some k
  pub named : k.name ≡ name

first_from : (name : List ℕ) (heads : List KeyHead) (h : KeyHead) → In h heads → h.name ≡ name → HasFirst name heads
first_from name [] h i own = absurd i
first_from name (k ∷ ks) h i own = by (λ j. first_from name ks h j own) (is_of_name name k) refl i
  where
    by : (In h ks → HasFirst name ks) → (b : Bool) → is_of_name name k ≡ b → In h (k ∷ ks) → HasFirst name (k ∷ ks)
    by later true is j = record { k = k; first = ap (λ (b : Bool). let o : Option KeyHead = cond b (Some k) (find (is_of_name name) ks) in o) is; named = (bytes_eq-Decides k.name name).0 is }
    by later false is (inl same) =
        let never : true ≡ false = sym ((bytes_eq-Decides k.name name).1 (ap (λ (j : KeyHead). j.name) same ∙ own)) ∙ is in
        absurd cc
    by later false is (inr j) = let rest = later j in record { k = rest.k; first = ap (λ (b : Bool). let o : Option KeyHead = cond b (Some k) (find (is_of_name name) ks) in o) is ∙ rest.first; named = rest.named }

pub tree_first : (s : SessionState) (m : State) (file : List ℕ) (h : StandsOn s m file) (name : List ℕ) (y : Tree) → get m.trees name ≡ Some y → HasFirst name s.heads
tree_first s m file h name y is =
    let under : HeaderOfTree file h.links m name y = header_of_tree file h.links m name y h.chain.chain h.records h.items is in
    let tops = top_keys (keyed_records h.links) in
    let item = in_map (λ r. r.head) under.under.r (object_records tops ++ tree_records tops) (in_right under.under.r (object_records tops) (tree_records tops) under.under.among) in
    first_from name s.heads under.under.r.head (items_in (keyed_records h.links) s.heads h.keys under.under.r.head item) under.under.name_is
