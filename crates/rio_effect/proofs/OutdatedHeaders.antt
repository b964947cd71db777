-- Nothing refers to the header of a tree that is outdated.
use Rattle.std.proofs.Common.{◌≡◌, false, not, ap}
use Rattle.std.proofs.lemmas.Bool.{and_right, ne_eqb, or_from}
use Rattle.rio_state.specs.KeyedRecords.{first_place, info_key, is_top_key, keyed_records, top_keys}
use Rattle.rio_state.specs.{Reads.{info_place}, Referred.{is_item_record}}
use Rattle.rio_state.proofs.{LessRecords.{top_is_later}, Members.{in_contained}}
use Rattle.rio_effect.proofs.{DeleteEffect.{no_basket}, DeleteNeeds.{not_its_list}, Needs.{not_info}, Unnamed.{none_names}}
use Rattle.rio_effect.specs.Headers.{OutdatedHeaderGoes}

pub outdated_header_goes : OutdatedHeaderGoes
outdated_header_goes file links m s chain is c top tree outdated =
    let i = in_contained s (keyed_records links) c in
    let first = ne_eqb s.head.seek first_place (top_is_later file links s (record { chain = chain; among = c }) top) in
    let list = ne_eqb s.head.seek (info_place (info_key (keyed_records links))) (not_its_list file links s chain i (not_info s.head top)) in
    let item : is_item_record (top_keys (keyed_records links)) s ≡ false = and_right (is_top_key s.head) _ (or_from _ _ (ap not tree) outdated) in
    or_from _ _ (or_from _ _ (or_from _ _ first list) item) (none_names file links m s chain is i (no_basket s.head top))
