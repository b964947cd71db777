use Rattle.std.proofs.Common.{rules}
use Rattle.rio_host.proofs.Kept.{kept_sync}
use Rattle.rio_host.proofs.recording.Recording.sync.Goals as goal

pub invariant_of-self-2 : goal.invariant_of-self-2
invariant_of-self-2 c = kept_sync c.self.inside.first.bytes c.self.inside.calls.items _ c.self.inside.text.bytes c.self.invariant c.push.new.self.items (search rules)
