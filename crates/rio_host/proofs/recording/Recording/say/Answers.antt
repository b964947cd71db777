use Rattle.std.proofs.Common.{rules}
use Rattle.rio_host.proofs.Kept.{kept_say}
use Rattle.rio_host.proofs.recording.Recording.say.Goals as goal

pub invariant_of-self-2 : goal.invariant_of-self-2
invariant_of-self-2 c = kept_say c.self.inside.first.bytes c.self.inside.calls.items _ c.self.inside.text.bytes c.self.invariant c.push-2.new.self.items c.args.bytes.now _ (search rules) (search rules)
