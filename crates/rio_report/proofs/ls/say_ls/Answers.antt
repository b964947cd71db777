use Rattle.rio_host.specs.Host.{View}
use Rattle.std.proofs.Common.{Ok, Err}
use Rattle.rio_report.specs.Lists.{AtOnce, ListingAnswer, SaysWholeLines}
use Rattle.rio_report.proofs.ls.say_ls.Goals as goal

at_once : (a b : View) (r : ListingAnswer) → SaysWholeLines AtOnce a b r
at_once a b (Ok x) = tt
at_once a b (Err e) = tt

pub returns : goal.returns
returns g c = record {
  done = c.say_listing.ensures.done;
  refused = c.say_listing.ensures.refused;
  calls = c.say_listing.ensures.calls;
  silent = c.say_listing.ensures.silent;
  lines = at_once (g.H.Host.view c.args.host.now) (g.H.Host.view c.say_listing.new.host) c.say_listing.result;
  cause = c.say_listing.ensures.cause;
}
