-- Records of which the keys alone are known, beside the records themselves.
use Rattle.std.proofs.Common.{◌≡◌, ◌∙◌, List, [], ◌∷◌, ◌++◌, Bool, true, false, cond, ◌||◌, ltb, Option, Some, None, refl, sym, ap}
use Rattle.std.specs.List.{filter, list_any}
use Rattle.rio_key.specs.declared.head.KeyHead.{KeyHead}
use Rattle.rio_head.specs.declared.reason.Reason.TheVariants.{OtherDirectory}
use Rattle.rio_state.specs.{KeyedRecords.{KeyedRecord, info_key, is_elsewhere, is_info_key, is_top_key, later_info, top_keys}, Left.{info_head}}
use Rattle.rio_state.specs.Reasons.{ReasonAt, directory_reasons, reason_if}
use Rattle.rio_recover.specs.Keys.{keyed, keyed_by, record_heads}

-- what stands in a record of a key is known by the key
abbrev pub keyed_again : List KeyedRecord → List KeyedRecord
keyed_again records = keyed_by (record_heads records)

pub directory_keyed : (rs : List KeyedRecord) → directory_reasons (keyed_again rs) ≡ directory_reasons rs
directory_keyed [] = refl
directory_keyed (r ∷ rs) = ap (λ (xs : List ReasonAt). reason_if (is_elsewhere r.head) r.head.seek OtherDirectory ++ xs) (directory_keyed rs)

pub any_keyed : (p : KeyHead → Bool) (rs : List KeyedRecord) → list_any (λ r. p r.head) (keyed_again rs) ≡ list_any (λ r. p r.head) rs
any_keyed p [] = refl
any_keyed p (r ∷ rs) = ap (λ (b : Bool). p r.head || b) (any_keyed p rs)

filter_by : (p : KeyHead → Bool) (r : KeyedRecord) (rs more : List KeyedRecord) (b : Bool) → more ≡ keyed_again rs → cond b (keyed r.head ∷ more) more ≡ keyed_again (cond b (r ∷ rs) rs)
filter_by p r rs more true e = ap (λ (xs : List KeyedRecord). keyed r.head ∷ xs) e
filter_by p r rs more false e = e

pub filter_keyed : (p : KeyHead → Bool) (rs : List KeyedRecord) → filter (λ r. p r.head) (keyed_again rs) ≡ keyed_again (filter (λ r. p r.head) rs)
filter_keyed p [] = refl
filter_keyed p (r ∷ rs) = filter_by p r (filter (λ s. p s.head) rs) (filter (λ s. p s.head) (keyed_again rs)) (p r.head) (filter_keyed p rs)

pub top_keyed : (rs : List KeyedRecord) → top_keys (keyed_again rs) ≡ keyed_again (top_keys rs)
top_keyed rs = filter_keyed is_top_key rs

-- ---- the class list that counts

-- of two, by their keys
abbrev pub later_head : KeyHead → Option KeyHead → Option KeyHead
later_head h None = Some h
later_head h (Some later) = cond (ltb later.cycle h.cycle) (Some h) (Some later)

later_by : (r s : KeyedRecord) (b : Bool) → info_head (cond b (Some r) (Some s)) ≡ cond b (Some r.head) (Some s.head)
later_by r s true = refl
later_by r s false = refl

pub later_keyed : (r : KeyedRecord) (o : Option KeyedRecord) → info_head (later_info r o) ≡ later_head r.head (info_head o)
later_keyed r None = refl
later_keyed r (Some s) = later_by r s (ltb s.head.cycle r.head.cycle)

info_by : (r : KeyedRecord) (o : Option KeyedRecord) (b : Bool) → info_head (cond b (later_info r o) o) ≡ cond b (later_head r.head (info_head o)) (info_head o)
info_by r o true = later_keyed r o
info_by r o false = refl

-- the key of the class list that counts, by the keys of the records
abbrev pub info_head_of : List KeyHead → Option KeyHead
info_head_of [] = None
info_head_of (h ∷ hs) = cond (is_info_key h) (later_head h (info_head_of hs)) (info_head_of hs)

pub info_head_is : (rs : List KeyedRecord) → info_head (info_key rs) ≡ info_head_of (record_heads rs)
info_head_is [] = refl
info_head_is (r ∷ rs) = info_by r (info_key rs) (is_info_key r.head) ∙ ap (λ (o : Option KeyHead). cond (is_info_key r.head) (later_head r.head o) o) (info_head_is rs)

heads_again : (hs : List KeyHead) → record_heads (keyed_by hs) ≡ hs
heads_again [] = refl
heads_again (h ∷ hs) = ap (λ (xs : List KeyHead). h ∷ xs) (heads_again hs)

pub info_head_keyed : (hs : List KeyHead) → info_head (info_key (keyed_by hs)) ≡ info_head_of hs
info_head_keyed hs = info_head_is (keyed_by hs) ∙ ap info_head_of (heads_again hs)

pub info_keyed : (rs : List KeyedRecord) → info_head (info_key (keyed_again rs)) ≡ info_head (info_key rs)
info_keyed rs = info_head_keyed (record_heads rs) ∙ sym (info_head_is rs)

-- the class list that counts of an earlier one and those behind it
abbrev pub latest : Option KeyHead → Option KeyHead → Option KeyHead
latest None behind = behind
latest (Some h) behind = later_head h behind

pub latest_none : (o : Option KeyHead) → latest o None ≡ o
latest_none None = refl
latest_none (Some h) = refl
