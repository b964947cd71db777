-- A name that no item of a state has is new in the file.
use Rattle.std.proofs.Common.{◌≡◌, ◌∙◌, ℕ, List, Bool, true, false, not, refl, sym, ap}
use Rattle.std.proofs.lemmas.{Bool.{and_from, or_parts}, Slice.Eq.{bytes_eq-Decides}}
use Rattle.std.specs.{Prelude.{is_some}, List.{list_any}, Str.{bytes_eq}}
use Rattle.rio_step.proofs.ApartLaws.{cycle_object}
use Rattle.rio_machine.specs.State.{State, names_item, names_object, names_tree}
use Rattle.rio_state.specs.{KeyedRecords.{KeyedRecord, info_key, is_tree_key, top_keys}, Reads.{AreRecordsOf}}
use Rattle.rio_state.proofs.{KeyRecords.{object_of}, Members.{In, in_filter, none_at, none_from}}
use Rattle.rio_effect.proofs.FreeItems.{is_tree_named, no_tree_named}

pub no_key_named : (records : List KeyedRecord) (m : State) (name : List ℕ) → AreRecordsOf records m → names_item m name ≡ false → list_any (λ s. bytes_eq s.head.name name) (top_keys records) ≡ false
no_key_named records m name is none =
    let parts = or_parts (names_object m name) (names_tree m name) none in
    let no_tree = no_tree_named records (info_key records) (top_keys records) m is.stand name parts.1 in
    none_from (λ s. bytes_eq s.head.name name) (top_keys records) (λ s i e. by s i e parts.0 no_tree (is_tree_key s.head) refl)
  where
    by : (s : KeyedRecord) → In s (top_keys records) → bytes_eq s.head.name name ≡ true → names_object m name ≡ false → list_any (is_tree_named name) (top_keys records) ≡ false → (b : Bool) → is_tree_key s.head ≡ b → ⊥
    by s i e no_object no_tree true tree = none_at (is_tree_named name) s (top_keys records) no_tree i (and_from _ _ e tree)
    by s i e no_object no_tree false object =
        let o = object_of records m is s (in_filter (λ k. not (is_tree_key k.head)) s (top_keys records) i (ap not object)) in
        let there = cycle_object s.head.name m s.head.cycle (ap is_some o.object) in
        let same = (bytes_eq-Decides s.head.name name).0 e in
        let f : true ≡ false = sym there ∙ ap (names_object m) same ∙ no_object in absurd cc
