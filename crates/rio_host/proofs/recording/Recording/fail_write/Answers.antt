use Rattle.std.proofs.Common.{rules}
use Rattle.rio_host.proofs.Kept.{kept_failed_write}
use Rattle.rio_host.proofs.recording.Recording.fail_write.Goals as goal

pub invariant_of-self-2 : goal.invariant_of-self-2
invariant_of-self-2 c = kept_failed_write c.self.inside.first.bytes c.self.inside.calls.items _ c.self.inside.text.bytes c.self.invariant c.push.new.self.items c.args.change (search rules)
