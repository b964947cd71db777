use Rattle.std.proofs.Common.{false, Err, Some, refl}
use Rattle.rio_host.proofs.{PiecesLaws.{reads_part}, ReadsLaws.{reads_none}}
use Rattle.rio_dir.specs.Listing.{said_listing}
use Rattle.rio_report.specs.{RowForms.{row_form}, Scan.{scanned_file}}
use Rattle.rio_report.proofs.Gather.{nothing_said}
use Rattle.rio_close.specs.declared.fault.ReportFault.TheVariants.{NoMemory}
use Rattle.rootio.proofs.top.scan_in_version.Goals as goal

-- nothing was done
pub returns-in-Err : goal.returns-in-Err
returns-in-Err g c = (
  Err NoMemory,
  refl,
  record {
    done = tt;
    refused = λ file told. tt;
    calls = reads_part (λ file. said_listing (scanned_file (row_form (Some c.args.class.now) false) c.args.tree.now file)) (reads_none (g.H.Host.view c.args.host.now));
    silent = λ silent. absurd silent;
    lines = nothing_said (reads_none (g.H.Host.view c.args.host.now));
    cause = refl;
  },
)
