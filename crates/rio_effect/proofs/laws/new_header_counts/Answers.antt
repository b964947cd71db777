use Rattle.rio_effect.proofs.NewHeaders.{new_header_held_grows, new_header_keeps_more, new_header_key_follows}
use Rattle.rio_effect.proofs.laws.new_header_counts.Goals as goal

pub returns-clause-keys : goal.returns-clause-keys
returns-clause-keys c = new_header_key_follows

pub returns-clause-kept : goal.returns-clause-kept
returns-clause-kept c = new_header_keeps_more

pub returns-clause-held : goal.returns-clause-held
returns-clause-held c = new_header_held_grows
