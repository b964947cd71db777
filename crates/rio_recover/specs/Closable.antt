-- What holds of all that is kept beside an open file, whatever its host tells.
use Rattle.std.specs.{Prelude.{◌≡◌, ◌≤◌, ℕ, ◌+◌, ◌^◌, Bool, true, false, ◌==◌, ◌&&◌, ◌||◌, List, [], length, Option, Some, None, IfSome, nat_lt, nat_le}, List.{list_all, list_any}, Option.{option_map_or}}
use Rattle.rio_num.specs.At.{place_len_of}
use Rattle.rio_key.specs.{Written.{written_key}, declared.head.KeyHead.{KeyHead}}
use Rattle.rio_chain.specs.{Placing.{file_end, record_count}, declared.segment.Segment.{Segment, TheVariants.{Record, Gap}}}
use Rattle.rio_machine.specs.Limits.{head_length}
use Rattle.rio_state.specs.Closing.{KeptRecords, close_need, end_limit}

-- ---- keys

-- a key of the small form without a title: it is as long as class and name make it
abbrev pub is_sized : KeyHead → Bool
is_sized h = length (written_key h) == head_length h.class h.name

-- its numbers fit what is written of it
abbrev pub is_fit_key : KeyHead → Bool
is_fit_key h =
    nat_lt h.seek (256 ^ place_len_of h.version) && nat_lt h.pdir (256 ^ place_len_of h.version)
    && nat_le (length h.class) 65535 && nat_le (length h.name) 65535 && (length h.title == 0)

-- ---- records

-- a record begins at the place
abbrev pub begins_at : ℕ → Segment → Bool
begins_at place (Record p n) = p == place
begins_at place (Gap p n) = false

-- a record begins at the place that a key says
abbrev pub is_placed : List Segment → KeyHead → Bool
is_placed segments h = list_any (begins_at h.seek) segments

-- the class list that is kept stands at the place
abbrev pub is_list_at : ℕ → Option KeyHead → Bool
is_list_at place None = false
is_list_at place (Some h) = h.seek == place

-- the segment is a gap, the first record, the class list that is kept, or a record that begins where a key says or a basket stands
abbrev pub is_owned : Option KeyHead → List KeyHead → List ℕ → Segment → Bool
is_owned info heads baskets (Record p n) = (p == 100) || is_list_at p info || list_any (λ h. h.seek == p) heads || list_any (λ q. q == p) baskets
is_owned info heads baskets (Gap p n) = true

-- how many class lists are kept
abbrev pub list_count : Option KeyHead → ℕ
list_count info = option_map_or (λ h. 1) info 0

-- ---- the whole

-- a file of this name that keeps records with these keys, so many in all, with no rows pending
abbrev pub kept_with : List ℕ → List KeyHead → ℕ → KeptRecords
kept_with name heads count = record { name = name; heads = heads; count = count; trees = [] }

-- how long a file's name may be, with the key of its first record
abbrev pub name_limit : ℕ
name_limit = 65497

-- The keys can be written and are those of records of the chain, a record begins at each of the baskets' places, each record is the first,
-- that of the class list, one of a key, or a basket, and there is room for a close.
pub record IsClosable (segments : List Segment) (heads : List KeyHead) (info : Option KeyHead) (baskets : List ℕ) (name : List ℕ) : Type 0 where
  pub sized : list_all is_sized heads ≡ true
  pub fit : list_all is_fit_key heads ≡ true
  pub placed : list_all (is_placed segments) heads ≡ true
  pub listed : IfSome info (λ h. is_placed segments h ≡ true)
  pub stored : list_all (λ p. list_any (begins_at p) segments) baskets ≡ true
  pub owned : list_all (is_owned info heads baskets) segments ≡ true
  pub short : length name ≤ name_limit
  -- the first record, the class list, one for each key, and the baskets
  pub count : record_count segments ≡ 1 + list_count info + length heads + length baskets
  pub room : file_end segments + close_need (kept_with name heads (record_count segments)) ≤ end_limit
