-- The class list that counts among keys and among records.
use Rattle.std.proofs.Common.{◌≡◌, ◌∙◌, List, [], ◌∷◌, Bool, true, false, cond, ltb, Option, Some, None, refl, sym, ap, subst}
use Rattle.std.proofs.lemmas.List.Elements.{All-head, All-tail}
use Rattle.std.specs.{List.{All}, Option.{IfSome, option_map_or}}
use Rattle.rio_host.specs.Host.{IsWithin, View}
use Rattle.rio_key.specs.declared.head.KeyHead.{KeyHead}
use Rattle.rio_state.specs.{KeyedRecords.{KeyedRecord, info_key, is_info_key, later_info}, Reasons.{directory_reasons}, Left.{info_head}}
use Rattle.rio_recover.specs.{Keys.{AreWithin, keyed_by, record_end, record_heads}, Recovered.{place_in}}
use Rattle.rio_recover.proofs.Keyed.{directory_keyed, info_head_keyed, info_head_of, later_head}

later_among : (P : KeyHead → Type 0) (h : KeyHead) (o : Option KeyHead) → P h → IfSome o P → IfSome (later_head h o) P
later_among P h None here rest = here
later_among P h (Some l) here rest = by (ltb l.cycle h.cycle)
  where
    by : (b : Bool) → IfSome (cond b (Some h) (Some l)) P
    by true = here
    by false = rest

info_among : (P : KeyHead → Type 0) (hs : List KeyHead) → All P hs → IfSome (info_head_of hs) P
info_among P [] all = tt
info_among P (h ∷ hs) all = by (is_info_key h) (All-head P h hs all) (info_among P hs (All-tail P h hs all))
  where
    by : (b : Bool) → P h → IfSome (info_head_of hs) P → IfSome (cond b (later_head h (info_head_of hs)) (info_head_of hs)) P
    by true here rest = later_among P h (info_head_of hs) here rest
    by false here rest = rest

-- its record is within the file
pub info_within : (v : View) (hs : List KeyHead) (o : Option KeyHead) → o ≡ info_head (info_key (keyed_by hs)) → AreWithin v hs → IfSome o (λ head. IsWithin v (record_end head))
info_within v hs o is within =
    subst (λ (x : Option KeyHead). IfSome x (λ head. IsWithin v (record_end head))) (sym (is ∙ info_head_keyed hs))
    (info_among (λ head. IsWithin v (record_end head)) hs (λ k d lt file told. within file told k d lt))

later_stands : (P : KeyedRecord → Type 0) (r : KeyedRecord) (o : Option KeyedRecord) → P r → IfSome o P → IfSome (later_info r o) P
later_stands P r None here rest = here
later_stands P r (Some l) here rest = by (ltb l.head.cycle r.head.cycle)
  where
    by : (b : Bool) → IfSome (cond b (Some r) (Some l)) P
    by true = here
    by false = rest

-- it is one of the records
pub info_stands : (P : KeyedRecord → Type 0) (rs : List KeyedRecord) → All P rs → IfSome (info_key rs) P
info_stands P [] all = tt
info_stands P (r ∷ rs) all = by (is_info_key r.head) (All-head P r rs all) (info_stands P rs (All-tail P r rs all))
  where
    by : (b : Bool) → P r → IfSome (info_key rs) P → IfSome (cond b (later_info r (info_key rs)) (info_key rs)) P
    by true here rest = later_stands P r (info_key rs) here rest
    by false here rest = rest

pub place_seen : (o : Option KeyedRecord) → place_in (info_head o) ≡ option_map_or (λ r. r.head.seek) o 0
place_seen None = refl
place_seen (Some r) = refl

pub directory_same : (hs : List KeyHead) (rs : List KeyedRecord) → hs ≡ record_heads rs → directory_reasons (keyed_by hs) ≡ directory_reasons rs
directory_same hs rs same = ap (λ (xs : List KeyHead). directory_reasons (keyed_by xs)) same ∙ directory_keyed rs
