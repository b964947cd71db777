use Rattle.rio_state.proofs.{KeysFollow.{keys_follow}, MoreRecords.{count_grows, first_stays, record_more}, Places.{places_differ}, Stays.{info_stays}}
use Rattle.rio_state.proofs.laws.record_more.Goals as goal

pub returns-clause-more : goal.returns-clause-more
returns-clause-more c = record_more

pub returns-clause-first : goal.returns-clause-first
returns-clause-first c = first_stays

pub returns-clause-count : goal.returns-clause-count
returns-clause-count c = count_grows

pub returns-clause-info : goal.returns-clause-info
returns-clause-info c = info_stays

pub returns-clause-keys : goal.returns-clause-keys
returns-clause-keys c = keys_follow

pub returns-clause-places : goal.returns-clause-places
returns-clause-places c = places_differ
