-- A fault of a function that calls no host is passed on.
use Rattle.std.proofs.Common.{Result, Ok, Err}
use Rattle.rio_head.specs.declared.fault.FileFault.{FileFault, TheVariants.{NotRoot, Short, BadBegin, BadUnits, NotClosed, BadDir, BadKeyList, Compressed, BadInfo}}
use Rattle.rio_head.specs.Head.{IsHeaderKind}
use Rattle.rio_host.specs.Host.{View}
use Rattle.rio_close.specs.Causes.{IsHostCause, IsOwnCause, IsTested, NoDiskFault}
use Rattle.rio_close.specs.declared.fault.ReportFault.{ReportFault, TheVariants.{BadFile, NoMemory, HostFault, SayFault}}

pub own_cause : {X : Type 0} (old new : View) (r : Result X ReportFault) → NoDiskFault old new → IsOwnCause r → IsHostCause old new r
own_cause old new (Ok x) calm cause = calm
own_cause old new (Err (BadFile place kind)) calm cause = (cause, calm)
own_cause old new (Err NoMemory) calm cause = calm
own_cause old new (Err HostFault) calm cause = absurd cause
own_cause old new (Err SayFault) calm cause = absurd cause

-- a fault of the header is tested for
pub header_tested : (kind : FileFault) → IsHeaderKind kind → IsTested kind
header_tested NotRoot is = tt
header_tested Short is = tt
header_tested BadBegin is = tt
header_tested BadUnits is = tt
header_tested NotClosed is = tt
header_tested BadDir is = tt
header_tested BadKeyList is = tt
header_tested Compressed is = absurd is
header_tested BadInfo is = absurd is
