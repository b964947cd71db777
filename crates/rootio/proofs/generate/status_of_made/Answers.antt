use Rattle.std.proofs.Common.{◌∙◌, refl}
use Rattle.rio_host.proofs.ReadsLaws.{reads_join, reads_one}
use Rattle.rootio.proofs.NewFiles.{head_read}
use Rattle.rootio.proofs.generate.status_of_made.Goals as goal

pub returns-in-Ok-clause-calls : goal.returns-in-Ok-clause-calls
returns-in-Ok-clause-calls g c =
    reads_join (g.met.H.Host.lawful c.length.new.self) (reads_one c.length.ensures.disk c.length.ensures.holds c.length.ensures.reads) c.in_ok-n.ensures.calls

pub returns-in-Ok-clause-refused : goal.returns-in-Ok-clause-refused
returns-in-Ok-clause-refused g c = (
  λ file told. (_, head_read file _ (c.in_ok-n.ensures.bytes file (c.length.ensures.holds ∙ told)) _ c.in-Ok.ensures.exact),
  refl,
  refl,
  c.in_ok-n.ensures.cause.counted refl ∙ c.in_ok-file_length.ensures.counted refl,
)

pub returns-in-Err-clause-refused : goal.returns-in-Err-clause-refused
returns-in-Err-clause-refused g c = (
  λ file told. head_read file _ (c.in_ok-n.ensures.bytes file (c.length.ensures.holds ∙ told)) _ c.in-Err.ensures.exact,
  c.in-Err.ensures.kinds,
  c.in_ok-n.ensures.cause.counted refl ∙ c.in_ok-file_length.ensures.counted refl,
)
