-- A file has one first reason against writing, or none.
use Rattle.std.proofs.Common.{◌≡◌, inl, inr, ◌∙◌, ℕ, ◌++◌, List, Bool, true, false, MatchBool, Option, Some, None, refl, sym, ap, subst, slice_get}
use Rattle.rio_num.proofs.ReadLaws.{ok_is}
use Rattle.rio_head.specs.{Form.{is_large_head}, declared.fault.HeadFault.{HeadFault}, declared.head.FileHead.{FileHead}}
use Rattle.rio_head.specs.declared.reason.Reason.TheVariants.{LargeForm, NoChain}
use Rattle.rio_chain.proofs.OneChain.{break_one, chain_one, never_both}
use Rattle.rio_chain.specs.Segments.{Link}
use Rattle.rio_dir.specs.Unborn.{is_unborn}
use Rattle.rio_state.specs.{Contents.{HasStateClasses}, KeyedRecords.{info_key, keyed_records}, Laws.{HasOneReason}}
use Rattle.rio_state.specs.Reasons.{IsReasonOfChain, IsReasonOfMade, IsReasonOfSmall, ReasonAt, reason_at, room_reasons, state_reasons}

-- whether something holds is told in one way
told_one : (P : Type 0) (a b : Bool) → MatchBool a P (¬ P) → MatchBool b P (¬ P) → a ≡ b
told_one P true true x y = refl
told_one P true false x y = absurd (y x)
told_one P false true x y = absurd (x y)
told_one P false false x y = refl

abbrev IsListed : Bool → List Link → Type 0
IsListed listed links = MatchBool listed (HasStateClasses (info_key (keyed_records links))) (¬ HasStateClasses (info_key (keyed_records links)))

abbrev first_among : Bool → List Link → Option ReasonAt
first_among listed links = slice_get (state_reasons listed (keyed_records links) ++ room_reasons links) 0

chain_reason_one : (file : List ℕ) (a b : Option ReasonAt) → IsReasonOfChain file a → IsReasonOfChain file b → a ≡ b
chain_reason_one file a b x y =
    let same : y.links ≡ x.links = chain_one file y.links x.links y.chain x.chain in
    let moved : IsListed y.listed x.links = subst (IsListed y.listed) same y.listed_is in
    let told : y.listed ≡ x.listed = told_one (HasStateClasses (info_key (keyed_records x.links))) y.listed x.listed moved x.listed_is in
    let reasons : first_among y.listed y.links ≡ first_among x.listed x.links = λ i. first_among (told i) (same i) in
    x.first ∙ sym (y.first ∙ reasons)

small_reason_one : (file : List ℕ) (a b : Option ReasonAt) → IsReasonOfSmall file a → IsReasonOfSmall file b → a ≡ b
small_reason_one file a b (inl x) (inl y) =
    let same : x.0 ≡ y.0 = break_one file x.0 y.0 x.1 y.1 in
    x.2 ∙ ap (λ (place : ℕ). Some (reason_at place NoChain)) same ∙ sym y.2
small_reason_one file a b (inl x) (inr y) = absurd (never_both file y.links x.0 y.chain x.1)
small_reason_one file a b (inr x) (inl y) = absurd (never_both file x.links y.0 x.chain y.1)
small_reason_one file a b (inr x) (inr y) = chain_reason_one file a b x y

abbrev IsReasonOfForm : List ℕ → Option ReasonAt → Bool → Type 0
IsReasonOfForm file found large = MatchBool large (found ≡ Some (reason_at 4 LargeForm)) (IsReasonOfSmall file found)

form_reason_one : (large : Bool) (file : List ℕ) (a b : Option ReasonAt) → IsReasonOfForm file a large → IsReasonOfForm file b large → a ≡ b
form_reason_one true file a b x y = x ∙ sym y
form_reason_one false file a b x y = small_reason_one file a b x y

made_reason_one : (file : List ℕ) (a b : Option ReasonAt) → IsReasonOfMade file a → IsReasonOfMade file b → a ≡ b
made_reason_one file a b x y =
    let same : y.head ≡ x.head = ok_is {E = HeadFault} y.head x.head (sym y.head_is ∙ x.head_is) in
    let moved : IsReasonOfForm file b (is_large_head x.head.version) = subst (λ (h : FileHead). IsReasonOfForm file b (is_large_head h.version)) same y.reason in
    form_reason_one (is_large_head x.head.version) file a b x.reason moved

reason_by : (unborn : Bool) (file : List ℕ) (a b : Option ReasonAt) → MatchBool unborn (a ≡ None) (IsReasonOfMade file a)
    → MatchBool unborn (b ≡ None) (IsReasonOfMade file b) → a ≡ b
reason_by true file a b x y = x ∙ sym y
reason_by false file a b x y = made_reason_one file a b x y

pub reason_one : HasOneReason
reason_one file a b x y = reason_by (is_unborn file) file a b x y
