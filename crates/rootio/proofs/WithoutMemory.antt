-- A run whose words found no memory.
use Rattle.std.proofs.Common.{Option, Err, None, Some, true, false, refl}
use Rattle.rio_host.specs.{Host.{View}, Source.{Input}}
use Rattle.rio_host.proofs.{PiecesLaws.{reads_part}, ReadsLaws.{reads_none, reads_says}}
use Rattle.rio_close.specs.{Causes.{AnyKind}, declared.fault.ReportFault.TheVariants.{NoMemory as OutOfMemory}}
use Rattle.rio_dir.specs.Listing.{listed_file, said_listing}
use Rattle.rio_report.specs.{Dump.{dumped_file}, Lists.{InPieces, ListingOf, Lists}, RowForms.{row_form}, Scan.{scanned_file}}
use Rattle.rio_report.proofs.Gather.{nothing_said}
use Rattle.rootio.specs.{Causes.{IsCause}, Reading.{EndsListing}}
use Rattle.rootio.specs.declared.status.Status.{TheVariants.{NoMemory}}
use Rattle.rootio.specs.{declared.words.Form.{Form, TheVariants.{Reads, Writes}}, declared.words.Listing.{Listing, TheVariants.{Ls, Dump, Scan, Export}}}

nothing_in_pieces : (listing : ListingOf) (v : View) → Lists InPieces AnyKind listing v v (Err OutOfMemory)
nothing_in_pieces listing v = record {
  done = tt;
  refused = λ file told. tt;
  calls = reads_part (λ file. said_listing (listing file)) (reads_none v);
  silent = λ silent. absurd silent;
  lines = nothing_said (reads_none v);
  cause = refl;
}

pub nothing_listed : (list : Listing) (v : View) → EndsListing list v v NoMemory
nothing_listed Ls v = (
  Err OutOfMemory,
  refl,
  record {
    done = tt;
    refused = λ file told. tt;
    calls = reads_says (λ file. said_listing (listed_file file)) (reads_none v);
    silent = λ silent. refl;
    lines = tt;
    cause = (refl, refl);
  },
)
nothing_listed (Dump item) v = (Err OutOfMemory, refl, nothing_in_pieces (dumped_file item) v)
nothing_listed (Scan tree class) v = (Err OutOfMemory, refl, nothing_in_pieces (scanned_file (row_form class false) tree) v)
nothing_listed (Export tree) v = (Err OutOfMemory, refl, nothing_in_pieces (scanned_file (row_form None true) tree) v)

pub nothing_caused : (form : Option Form) (v : View) (input : Input) → IsCause form v v input input NoMemory
nothing_caused None v input = (refl, refl, refl)
nothing_caused (Some (Reads Ls)) v input = (refl, refl, refl)
nothing_caused (Some (Reads (Dump item))) v input = (refl, tt, refl)
nothing_caused (Some (Reads (Scan tree class))) v input = (refl, tt, refl)
nothing_caused (Some (Reads (Export tree))) v input = (refl, tt, refl)
nothing_caused (Some (Writes work)) v input = (refl, refl, refl)
