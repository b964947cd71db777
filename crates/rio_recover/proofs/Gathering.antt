-- What is recovered is put together.
use Rattle.std.proofs.Common.{◌≡◌, ◌∙◌, ℕ, ◌+◌, List, [], ◌∷◌, length, Option, Some, None, Ok, refl, sym, ap, subst}
use Rattle.std.specs.{List.Sorted.{IsPermutation}, Option.{option_map_or}}
use Rattle.rio_key.specs.declared.head.KeyHead.{KeyHead}
use Rattle.rio_chain.specs.{Chains.{HasChain}, Placing.{file_end}, Segments.{Link}}
use Rattle.rio_state.specs.{Closing.{item_heads, name_in}, Contents.{file_classes}, KeyedRecords.{KeyedRecord, info_key, keyed_records, top_keys, tree_records}, Reads.{info_place}, Reasons.{room_reasons}, Left.{info_head}}
use Rattle.rio_recover.specs.{Keys.{keyed_by, record_heads}, Recovered.{AreItemsOf, AreParts, JudgesLinks, other_count, place_in, places_left}, Trees.{places_of, trees_at}}
use Rattle.rio_recover.specs.{declared.recovery.ReadState.{ReadState}, declared.recovery.Recovered.{Recovered}, declared.walked.Walked.{Walked}}
use Rattle.rio_recover.proofs.{Garbage.{garbage_is, info_place_is}, Keyed.{info_keyed, keyed_again}}
use Rattle.rio_recover.proofs.{RoomReasons.{kept_for, room_of}, Rooms.{room_same}}

-- the name is that of the first key
pub name_keyed : (rs : List KeyedRecord) → name_in (keyed_again rs) ≡ name_in rs
name_keyed [] = refl
name_keyed (r ∷ rs) = refl

-- by the keys that were walked
pub info_walked : (heads : List KeyHead) (rs : List KeyedRecord) → heads ≡ record_heads rs → info_head (info_key (keyed_by heads)) ≡ info_head (info_key rs)
info_walked heads rs same = ap (λ (hs : List KeyHead). info_head (info_key (keyed_by hs))) same ∙ info_keyed rs

pub name_walked : (heads : List KeyHead) (rs : List KeyedRecord) → heads ≡ record_heads rs → name_in (keyed_by heads) ≡ name_in rs
name_walked heads rs same = ap (λ (hs : List KeyHead). name_in (keyed_by hs)) same ∙ name_keyed rs

module _ (file : List ℕ) (links : List Link) (walked : Walked) (chain : HasChain links walked.segments file) (heads : walked.heads ≡ record_heads (keyed_records links)) where
  abbrev pub records : List KeyedRecord
  records = keyed_records links

  -- the reasons of room are those that the table, the trees, the name and the class list give
  pub room_walked : (state : ReadState) (name : List ℕ) (info : Option KeyHead) → AreItemsOf records state.registry state.check.items.heads state.check.trees → name ≡ name_in (keyed_by walked.heads)
      → info ≡ info_head (info_key (keyed_by walked.heads))
      → room_of (length state.check.items.heads) (file_end walked.segments) (kept_for name state.check.items.heads (other_count info state.check.trees)) ≡ room_reasons links
  room_walked state name info items named is =
      room_same links walked.segments state.registry state.check.items.heads state.check.trees name info chain.same items (named ∙ name_walked walked.heads records heads) (is ∙ info_walked walked.heads records heads)

  pub all_gathered : (state : ReadState) (name : List ℕ) (info : Option KeyHead) (r : Recovered) → AreItemsOf records state.registry state.check.items.heads state.check.trees → room_reasons links ≡ []
      → name ≡ name_in (keyed_by walked.heads) → info ≡ info_head (info_key (keyed_by walked.heads)) → AreParts walked name info state r
      → r.garbage ≡ places_left (top_keys (keyed_by walked.heads)) (place_in info) (places_of state.check.trees) walked.heads
      → JudgesLinks (Ok r) links
  all_gathered state name info r items room named is parts garbage =
      let same : info ≡ info_head (info_key records) = is ∙ info_walked walked.heads records heads in
      let place : place_in info ≡ info_place (info_key records) = ap place_in same ∙ info_place_is (info_key records) in (
        record {
          listed = items.listed;
          none = items.none;
          classes_are = parts.registry ∙ items.classes_are;
          heads_are = subst (λ (hs : List KeyHead). IsPermutation (item_heads (top_keys records)) hs) (λ i. (sym parts.table i).heads) items.heads_are;
          trees_are = subst (IsPermutation (trees_at (file_classes (info_key records)) (tree_records (top_keys records)))) (sym parts.trees) items.trees_are;
          headers = items.headers;
        },
        room,
        record {
          info = parts.info_is ∙ same;
          garbage = garbage ∙ (λ i. places_left (top_keys (keyed_by (heads i))) (place i) (places_of state.check.trees) (heads i)) ∙ garbage_is records state.check.trees items.trees_are;
          name = parts.name_is ∙ named ∙ name_walked walked.heads records heads;
        },
      )
