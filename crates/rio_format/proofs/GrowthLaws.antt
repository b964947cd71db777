-- With one class more a value that fits its class is read as it was.
use Rattle.std.proofs.Common.{◌+◌, [], ◌∷◌, ◌++◌, length}
use Rattle.rio_format.specs.{ReaderState.{no_words, standing}, Objects.{SpellsObject, depth_limit}, Growth.{FittingReadStays, FittingSpelledStays, ReadStays, SpelledStays}}
use Rattle.rio_format.proofs.{FittingRead.{fitting_is_all_read}, ObjectStays.{object_stays}, Picks.{later_leave_picks}}

pub read_stays : ReadStays
read_stays old new stay own start bytes v s whole e = (object_stays old new stay depth_limit own).read (standing start bytes no_words) v s whole e

pub spelled_stays : SpelledStays
unfolding SpellsObject
spelled_stays old new stay own start v bytes whole c = (c.0, (object_stays old new stay depth_limit own).spelled (start + length bytes) start no_words v bytes c.0 whole c.1)

pub fitting_read_stays : FittingReadStays
fitting_read_stays classes class own start bytes v s fit e = read_stays classes (classes ++ class ∷ []) (later_leave_picks classes (class ∷ [])) own start bytes v s (fitting_is_all_read classes own v fit) e

pub fitting_spelled_stays : FittingSpelledStays
fitting_spelled_stays classes class own start v bytes fit c = spelled_stays classes (classes ++ class ∷ []) (later_leave_picks classes (class ∷ [])) own start v bytes (fitting_is_all_read classes own v fit) c
