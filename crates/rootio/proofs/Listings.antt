-- What is listed of a file that was closed.
use Rattle.std.proofs.Common.{◌≡◌, List, Result, Ok, sym, ap, ◌∙◌, ℕ}
use Rattle.rio_key.specs.declared.head.KeyHead.{KeyHead}
use Rattle.rio_dir.specs.Listing.{key_lines}
use Rattle.rio_head.specs.declared.fault.HeadFault.{HeadFault}
use Rattle.rio_state.specs.KeyedRecords.{keyed_records}
use Rattle.rootio.specs.Listings.{ClosedFilesList}
use Rattle.rootio.proofs.OrderedKeys.{keys_one}

pub closed_files_list : ClosedFilesList
closed_files_list name datime header links image listing closed lists =
    let heads = keys_one (keyed_records links) closed.kept.heads lists.0 closed.keys lists.1 in
    closed.written.lists
    ∙ ap (λ (hs : List KeyHead). let r : Result (List ℕ) HeadFault = Ok (key_lines hs) in r) heads
    ∙ ap (λ (text : List ℕ). let r : Result (List ℕ) HeadFault = Ok text in r) (sym lists.2)
