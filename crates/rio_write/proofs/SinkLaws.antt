-- What a sink took, one thing behind the other.
use Rattle.std.proofs.Common.{◌≡◌, ◌<◌, ◌≤◌, ◌^◌, ℕ, ◌+◌, ◌-◌, ◌++◌, List, [], Bool, IsTrue, length, map, drop, slice_get, slice_index_or, None, Some, Option, Result, Ok, Err, refl, sym, ap, subst, ◌∙◌}
use Rattle.std.specs.{Prelude.{ℤ}, Int.{w16, cast_unsigned}}
use Rattle.byteorder.specs.Endian.{big_bytes}
use Rattle.rio_num.specs.{Text.{text_bytes}, declared.no_memory.NoMemory.{NoMemory}}
use Rattle.rio_format.specs.{ReaderState.{WordsMet, with_label}, Writer.{Writer, WriterState, begun, begun_pointer, class_bytes, next_place}}
use Rattle.rio_format.specs.{Slots.{Field, Slot}, Written.{Writing, all, both, fields_bytes, headed_bytes, just}}
use Rattle.rio_write.specs.{Sinks.{Accepted, Accepts, CanClose, CanPoint, Closes, Opened, RoomFor, StandsWithin}, Writing.{HasRoom, pointer_to, with_written}}
use Rattle.rio_write.proofs.WriteLaws.{both_after, closed_at, closed_is, count_room, count_stands, header_room, inside, inside_room, item_room, items_done, items_go_on, items_room, nothing, opened_at, part_room, parts_done, parts_go_on, parts_missing, parts_room, place_room, pointer_room, room_first, room_then, still_innermost, text_room}

module _ {X : Type 0} (stands : X → WriterState → Type 0) (x : X) where
  -- nothing is taken
  pub nothing_accepted : Accepted stands (just []) x x
  unfolding Accepted
  nothing_accepted = λ s here. subst (stands x) (nothing s) here

module _ {X : Type 0} (stands : X → WriterState → Type 0) (f g : Writer) (x y z : X) where
  pub both_accepted : Accepted stands f x y → Accepted stands g y z → Accepted stands (both f g) x z
  unfolding Accepted
  both_accepted one two = λ s here. subst (stands z) (sym (both_after f g s)) (two (with_written f s) (one s here))

  pub both_accept : (r : Result (Unit {0}) NoMemory) → Accepted stands f x y → Accepts stands g r y z → Accepts stands (both f g) r x z
  both_accept (Ok v) one two = both_accepted one two
  both_accept (Err e) one two = tt

-- ---- room

module _ {X : Type 0} (stands : X → WriterState → Type 0) (bounded : Bool) where
  -- what holds of a state holds of the one behind it
  pub holds_then : (f : Writer) (P Q : WriterState → Type 0) (x y : X) → ((s : WriterState) → P s → Q (with_written f s)) → Accepted stands f x y → StandsWithin stands bounded P x → StandsWithin stands bounded Q y
  unfolding Accepted StandsWithin
  holds_then f P Q x y so one room = λ b. let a = room b in (with_written f a.0, one a.0 a.1, so a.0 a.2)

  pub holds_so : (P Q : WriterState → Type 0) (x : X) → ((s : WriterState) → P s → Q s) → StandsWithin stands bounded P x → StandsWithin stands bounded Q x
  unfolding StandsWithin
  holds_so P Q x so room = λ b. let a = room b in (a.0, a.1, so a.0 a.2)

  module _ (f g : Writer) where
    pub front_room : (x : X) → RoomFor stands bounded (both f g) x → RoomFor stands bounded f x
    front_room x = holds_so (HasRoom (both f g)) (HasRoom f) x (room_first f g)

    pub behind_room : (x y : X) → Accepted stands f x y → RoomFor stands bounded (both f g) x → RoomFor stands bounded g y
    behind_room x y = holds_then f (HasRoom (both f g)) (HasRoom g) x y (λ s room. room_then f g s (with_written f s) refl room)

  pub text_is_short : (text : List ℕ) (x : X) → RoomFor stands bounded (just (text_bytes text)) x → IsTrue bounded → length text < 2 ^ 32
  unfolding StandsWithin
  text_is_short text x room b = let a = room b in text_room text a.0 a.2

-- ---- loops

-- behind each state that the first stood for, what is left gives the whole
unfoldable pub Leads : {X : Type 0} → (X → WriterState → Type 0) → Writer → Writer → X → X → Type 0
Leads stands whole rest first here = (s : WriterState) → stands first s → (t : WriterState) × stands here t × (with_written rest t ≡ with_written whole s)

module _ {X : Type 0} (stands : X → WriterState → Type 0) where
  pub leads_first : (whole : Writer) (x : X) → Leads stands whole whole x x
  unfolding Leads
  leads_first whole x = λ s here. (s, here, refl)

  pub leads_on : (whole rest f rest' : Writer) (first x y : X) → ((s total : WriterState) → with_written rest s ≡ total → with_written rest' (with_written f s) ≡ total) → Accepted stands f x y → Leads stands whole rest first x → Leads stands whole rest' first y
  unfolding Accepted Leads
  leads_on whole rest f rest' first x y on one so_far = λ s here. let a = so_far s here in (with_written f a.0, one a.0 a.1, on a.0 _ a.2)

  pub leads_end : (whole rest : Writer) (first x : X) → ((s total : WriterState) → with_written rest s ≡ total → s ≡ total) → Leads stands whole rest first x → Accepted stands whole first x
  unfolding Accepted Leads
  leads_end whole rest first x done so_far = λ s here. let a = so_far s here in subst (stands x) (done a.0 _ a.2) a.1

module _ {K X : Type 0} (stands : K → WriterState → Type 0) (bounded : Bool) (h : X → Writing) (slot : Slot) (xs : List X) (i : ℕ) where
  abbrev pub items_from : ℕ → Writer
  items_from i = all slot (map h (drop i xs))

  module _ (x : X) (lt : i < length xs) (e : x ≡ slice_index_or xs i x) (k : K) where
    abbrev item : Writer
    item = (h x).bytes slot

    pub item_fits : RoomFor stands bounded (items_from i) k → RoomFor stands bounded item k
    item_fits = holds_so stands bounded (HasRoom (items_from i)) (HasRoom item) k (λ s. item_room h slot xs i s x lt e)

    pub items_go : (whole : Writer) (first k1 : K) → Accepted stands item k k1 → Leads stands whole (items_from i) first k × RoomFor stands bounded (items_from i) k → Leads stands whole (items_from (i + 1)) first k1 × RoomFor stands bounded (items_from (i + 1)) k1
    items_go whole first k1 one so_far = (
      leads_on stands whole (items_from i) item (items_from (i + 1)) first k k1 (λ s total so. items_go_on h slot xs i s x (with_written item s) total lt e refl so) one so_far.0,
      holds_then stands bounded item (HasRoom (items_from i)) (HasRoom (items_from (i + 1))) k k1 (λ s room. items_room h slot xs i s x (with_written item s) lt e refl room) one so_far.1,
    )

  pub items_end : (whole : Writer) (first k : K) → length xs ≤ i → Leads stands whole (items_from i) first k → Accepted stands whole first k
  items_end whole first k le = leads_end stands whole (items_from i) first k (λ s total so. items_done h slot xs i s total le so)

module _ {K Y : Type 0} (stands : K → WriterState → Type 0) (bounded : Bool) (h : Y → Writing) (fields : List Field) (parts : List Y) (i : ℕ) where
  abbrev pub parts_from : ℕ → Writer
  parts_from i = fields_bytes (drop i fields) (map h (drop i parts))

  module _ (field : Field) (slot : Slot) (y : Y) (f : slice_get fields i ≡ Some field) (lp : i < length parts) (same : slot ≡ field.slot) (e : y ≡ slice_index_or parts i y) (k : K) where
    abbrev part : Writer
    part = (h y).bytes slot

    pub part_fits : RoomFor stands bounded (parts_from i) k → RoomFor stands bounded part k
    part_fits = holds_so stands bounded (HasRoom (parts_from i)) (HasRoom part) k (λ s. part_room h fields parts i s field slot y f lp same e)

    pub parts_go : (whole : Writer) (first k1 : K) → Accepted stands part k k1 → Leads stands whole (parts_from i) first k × RoomFor stands bounded (parts_from i) k → Leads stands whole (parts_from (i + 1)) first k1 × RoomFor stands bounded (parts_from (i + 1)) k1
    parts_go whole first k1 one so_far = (
      leads_on stands whole (parts_from i) part (parts_from (i + 1)) first k k1 (λ s total so. parts_go_on h fields parts i s field slot y f lp same e (with_written part s) total refl so) one so_far.0,
      holds_then stands bounded part (HasRoom (parts_from i)) (HasRoom (parts_from (i + 1))) k k1 (λ s room. parts_room h fields parts i s field slot y f lp same e (with_written part s) refl room) one so_far.1,
    )

  pub fields_end : (whole : Writer) (first k : K) → slice_get fields i ≡ None → Leads stands whole (parts_from i) first k → Accepted stands whole first k
  fields_end whole first k none = leads_end stands whole (parts_from i) first k (λ s total so. parts_done h fields parts i s total none so)

  pub parts_end : (whole : Writer) (first k : K) → length parts ≤ i → Leads stands whole (parts_from i) first k → Accepted stands whole first k
  parts_end whole first k le = leads_end stands whole (parts_from i) first k (λ s total so. parts_missing h fields parts i s total le so)

-- ---- count words

module _ {X : Type 0} (stands : X → WriterState → Type 0) (bounded : Bool) (head : WriterState → List ℕ × WordsMet) (body whole : Writer) (x x1 : X) (place : ℕ) where
  abbrev pub front : WriterState → WriterState
  front s = opened_at s (head s).0 (head s).1

  abbrev pub within : WriterState → List ℕ × WordsMet
  within s = inside s (head s).0 (head s).1 body

  module _ (low : (s : WriterState) → HasRoom whole s → next_place s + 4 + length (head s).0 + length (within s).0 < 2 ^ 30 - 2) (opens : Opened stands bounded front place x x1) where
    pub body_room : RoomFor stands bounded whole x → RoomFor stands bounded body x1
    unfolding Opened StandsWithin
    body_room room = λ b. let a = room b in (front a.0, (opens a.0 a.1).0, inside_room a.0 (head a.0).0 (head a.0).1 body (front a.0) refl (low a.0 a.2))

    module _ (x2 : X) (one : Accepted stands body x1 x2) where
      pub can_close : RoomFor stands bounded whole x → StandsWithin stands bounded (CanClose place) x2
      unfolding Accepted Opened StandsWithin
      can_close room = λ b.
          let a = room b in
          let opened = opens a.0 a.1 in
          let s1 = front a.0 in
          let s2 = with_written body s1 in
          let told : place ≡ length a.0.bytes = opened.1 b in (
            s2,
            one s1 opened.0,
            (
              still_innermost a.0 (head a.0).0 (head a.0).1 body s1 s2 refl refl ∙ ap (λ (n : ℕ). let o : Option ℕ = Some n in o) (sym told),
              rw told (count_room a.0 (head a.0).0 (head a.0).1 body s1 s2 refl refl (low a.0 a.2)),
            ),
          )

      pub enclosed : ((s : WriterState) → closed_at s (head s).0 (within s) ≡ with_written whole s) → (x3 : X) → Closes stands x2 x3 → Accepted stands whole x x3
      unfolding Accepted Closes Opened
      enclosed is x3 closes = λ s here.
          let opened = opens s here in
          let s1 = front s in
          let s2 = with_written body s1 in
          let closed = closes s2 (length s.bytes) (one s1 opened.0) (still_innermost s (head s).0 (head s).1 body s1 s2 refl refl) (count_stands s (head s).0 (head s).1 body s1 s2 refl refl) in
          subst (stands x3) (closed_is s (head s).0 (head s).1 body s1 s2 refl refl ∙ is s) closed

-- ---- a header

module _ {X : Type 0} (stands : X → WriterState → Type 0) (bounded : Bool) (version : ℤ) (body : Writer) (bits : List ℕ) (same : bits ≡ big_bytes 2 (cast_unsigned w16 version)) (x x1 : X) (place : ℕ) (opens : Opened stands bounded (begun bits) place x x1) where
  abbrev version_word : WriterState → List ℕ × WordsMet
  version_word s = (big_bytes 2 (cast_unsigned w16 version), s.words)

  header_opens : Opened stands bounded (front stands bounded version_word body (headed_bytes version body) x x1 place) place x x1
  header_opens = subst (λ (l : List ℕ). Opened stands bounded (begun l) place x x1) same opens

  pub header_body_room : RoomFor stands bounded (headed_bytes version body) x → RoomFor stands bounded body x1
  header_body_room = body_room stands bounded version_word body (headed_bytes version body) x x1 place (header_room version body) header_opens

  pub header_closes : (x2 : X) → Accepted stands body x1 x2 → RoomFor stands bounded (headed_bytes version body) x → StandsWithin stands bounded (CanClose place) x2
  header_closes x2 = can_close stands bounded version_word body (headed_bytes version body) x x1 place (header_room version body) header_opens x2

  pub headed_accepted : (x2 : X) → Accepted stands body x1 x2 → (x3 : X) → Closes stands x2 x3 → Accepted stands (headed_bytes version body) x x3
  unfolding with_written
  headed_accepted x2 one = enclosed stands bounded version_word body (headed_bytes version body) x x1 place (header_room version body) header_opens x2 one (λ s. refl)

-- ---- a pointer to a new object

module _ {X : Type 0} (stands : X → WriterState → Type 0) (bounded : Bool) (class own : List ℕ) (same : class ≡ own) (object : List ℕ → Writer) (x : X) where
  abbrev class_word : WriterState → List ℕ × WordsMet
  class_word s = let w = class_bytes class (next_place s + 4) s.words in (w.0, with_label w.1 (next_place s))

  abbrev pointing : List ℕ → Writer
  pointing k = pointer_to k (object k)

  same_room : RoomFor stands bounded (pointing own) x → RoomFor stands bounded (pointing class) x
  same_room room = subst (λ (k : List ℕ). RoomFor stands bounded (pointing k) x) (sym same) room

  pub can_point : RoomFor stands bounded (pointing own) x → StandsWithin stands bounded CanPoint x
  can_point = holds_so stands bounded (HasRoom (pointing own)) CanPoint x (place_room (pointing own))

  module _ (x1 : X) (place : ℕ) (opens : Opened stands bounded (begun_pointer class) place x x1) where
    pub object_room : RoomFor stands bounded (pointing own) x → RoomFor stands bounded (object class) x1
    object_room room = body_room stands bounded class_word (object class) (pointing class) x x1 place (pointer_room class (object class)) opens (same_room room)

    module _ (x2 : X) (one : Accepted stands (object class) x1 x2) where
      pub pointer_closes : RoomFor stands bounded (pointing own) x → StandsWithin stands bounded (CanClose place) x2
      pointer_closes room = can_close stands bounded class_word (object class) (pointing class) x x1 place (pointer_room class (object class)) opens x2 one (same_room room)

      pub pointer_accepted : (x3 : X) → Closes stands x2 x3 → Accepted stands (pointing own) x x3
      unfolding with_written
      pointer_accepted x3 closes =
          let taken = enclosed stands bounded class_word (object class) (pointing class) x x1 place (pointer_room class (object class)) opens x2 one (λ s. refl) x3 closes in
          subst (λ (k : List ℕ). Accepted stands (pointing k) x x3) same taken

-- ---- bytes, whatever names of classes are spelled out

-- these bytes were taken
abbrev pub Taken : {S : Type 0} → (S × List (List ℕ) → WriterState → Type 0) → List ℕ → S → S → Type 0
Taken stands bytes x y = (names : List (List ℕ)) → Accepted stands (just bytes) (x, names) (y, names)

-- behind each state that the first stood for, the bytes that are left give all of them
abbrev pub BytesLead : {S : Type 0} → (S × List (List ℕ) → WriterState → Type 0) → List ℕ → List ℕ → S → S → Type 0
BytesLead stands whole rest first here = (names : List (List ℕ)) → Leads stands (just whole) (just rest) (first, names) (here, names)

module _ {S : Type 0} (stands : S × List (List ℕ) → WriterState → Type 0) (whole : List ℕ) (first : S) where
  pub bytes_lead : BytesLead stands whole whole first first
  bytes_lead = λ names. leads_first stands (just whole) (first, names)

  pub bytes_lead_on : (rest a b : List ℕ) (x y : S) → rest ≡ a ++ b → Taken stands a x y → BytesLead stands whole rest first x → BytesLead stands whole b first y
  bytes_lead_on rest a b x y e one so_far = λ names.
      leads_on stands (just whole) (just rest) (just a) (just b) (first, names) (x, names) (y, names) (λ s total so. sym (both_after (just a) (just b) s) ∙ ap (λ (l : List ℕ). with_written (just l) s) (sym e) ∙ so) (one names) (so_far names)

  pub bytes_lead_end : (rest : List ℕ) (x : S) → rest ≡ [] → BytesLead stands whole rest first x → Taken stands whole first x
  bytes_lead_end rest x none so_far = λ names.
      leads_end stands (just whole) (just rest) (first, names) (x, names) (λ s total so. nothing s ∙ ap (λ (l : List ℕ). with_written (just l) s) (sym none) ∙ so) (so_far names)
