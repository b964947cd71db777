-- What is recovered, as the keys of the records tell it.
use Rattle.std.proofs.Common.{◌≡◌, ◌∙◌, ℕ, List, map, true, Bool, Option, sym, ap, subst}
use Rattle.std.proofs.lemmas.List.{Elements.{All-filter}, Sorted.{All-permutation}}
use Rattle.std.specs.List.{All, filter, list_all, Sorted.{IsPermutation}}
use Rattle.rio_format.specs.declared.class.ClassDef.{ClassDef}
use Rattle.rio_key.specs.declared.head.KeyHead.{KeyHead}
use Rattle.rio_chain.specs.{Adjoining.{AreSegments}, declared.segment.Segment.{Segment}}
use Rattle.rio_model.specs.StateClasses.{StateClasses}
use Rattle.rio_state.specs.{Closing.{name_in}, KeyedRecords.{info_key, is_top_key, top_keys}, Left.{info_head}}
use Rattle.rio_chain.specs.Keyed.{AreKeyed, IsRecordKey}
use Rattle.rio_recover.specs.{Baskets.{AreOnce, has_baskets}, Checks.{HasChecked, is_header_key, is_item_key, is_untitled}, Classes.{HasListCycle}, Keys.{keyed_by}, Recovered.{AreParts, place_in, places_left}, Trees.{AreWholeBranches, places_of}, Walked.{IsWholeWalk}}
use Rattle.rio_recover.specs.Whole.{HoldsDirectory, IsWhole}
use Rattle.rio_recover.specs.{declared.recovery.ReadState.{ReadState}, declared.recovery.Recovered.{Recovered}, declared.trees.TreeAt.{TreeAt}, declared.walked.Walked.{Walked}}

-- what holds of all keys holds of the items'
pub all_items : (P : KeyHead → Type 0) (test : KeyHead → Bool) (heads table : List KeyHead) → IsPermutation (filter test (filter is_top_key heads)) table → All P heads → All P table
all_items P test heads table moved all = All-permutation P (filter test (filter is_top_key heads)) table moved (All-filter test P (filter is_top_key heads) (All-filter is_top_key P heads all))

pub whole_file : (walked : Walked) (is : IsWholeWalk walked) (name : List ℕ) (info : Option KeyHead) (state : ReadState) (r : Recovered) → AreParts walked name info state r
    → HasChecked walked.heads (filter is_top_key walked.heads) state.check → StateClasses state.registry → HasListCycle info state.registry
    → info ≡ info_head (info_key (keyed_by walked.heads)) → name ≡ name_in (keyed_by walked.heads)
    → r.garbage ≡ places_left (top_keys (keyed_by walked.heads)) (place_in info) (places_of state.check.trees) walked.heads → IsWhole r
whole_file walked is name info state r parts checked classes listed counts named garbage =
    let segments = sym parts.kept.segments in
    let table : state.check.items.heads ≡ r.table.heads = λ i. (sym parts.table i).heads in
    let trees : state.check.trees ≡ r.trees = sym parts.trees in
    record {
      heads = walked.heads;
      shape = subst AreSegments segments is.shape;
      keyed = subst (λ (ss : List Segment). AreKeyed IsRecordKey ss walked.heads) segments is.keyed;
      first = is.first;
      items = subst (IsPermutation (filter (is_item_key (top_keys (keyed_by walked.heads))) (filter is_top_key walked.heads))) table checked.items;
      untitled = ap (list_all is_untitled) (sym table) ∙ checked.untitled;
      trees = subst (λ (ts : List TreeAt). IsPermutation (map (λ h. h.name) (filter (is_header_key (top_keys (keyed_by walked.heads))) (filter is_top_key walked.heads))) (map (λ t. t.name) ts)) trees checked.trees;
      heads_are = subst (All (λ t. AreWholeBranches t.head)) trees checked.heads_are;
      baskets = subst (All (λ t. has_baskets walked.heads t.head ≡ true)) trees checked.baskets;
      once = subst (λ (ts : List TreeAt). AreOnce (places_of ts)) trees checked.once;
      info = parts.info_is ∙ counts;
      garbage = garbage ∙ (λ i. places_left (top_keys (keyed_by walked.heads)) (place_in (sym parts.info_is i)) (places_of (trees i)) walked.heads);
      name = parts.name_is ∙ named;
      classes = subst StateClasses (sym parts.registry) classes;
      listed = subst (λ (x : Option KeyHead × List ClassDef). HasListCycle x.0 x.1) (λ i. (sym parts.info_is i, sym parts.registry i)) listed;
      directory = subst (HoldsDirectory r.nbytes_name) segments (subst (λ (n : ℕ). HoldsDirectory n walked.segments) (sym parts.kept.nbytes_name) is.directory);
    }
