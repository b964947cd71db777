-- Values by cases: what a fold gives for each, and induction.
use Rattle.std.proofs.Common.{◌≡◌, ℕ, ℤ, Bool, List, [], ◌∷◌, map, sym, ap, subst, ◌∙◌}
use Rattle.rio_format.specs.declared.value.Value.{Value, Int, Bits32, Bits64, Bool as Truth, Text, List as Items, Object, Pointed, Null, Back, Opaque, out-Value, out-roll-Value, roll-Value, map-Value, TheOpen.{Value-F}, TheVariants.{rolls-Int, rolls-Bits32, rolls-Bits64, rolls-Bool, rolls-Text, rolls-List, rolls-Object, rolls-Pointed, rolls-Null, rolls-Back, rolls-Opaque}, TheFolds.{fold-Value, fold-roll-Value, fold-Part, ind-Value}}
use Rattle.rio_format.specs.declared.value.Part.{Part, Part-F}
use Rattle.rio_format.specs.declared.value.Value.TheOpen as layer

-- ---- folds

module _ {A A' : Type 0} (step : Value-F A A' → A) (step' : Part-F A A' → A') where
  abbrev folded : Value → A
  folded = fold-Value A A' step step'

  abbrev part_folded : Part → A'
  part_folded = fold-Part A A' step step'

  pub fold_Int : (z : ℤ) → folded (Int z) ≡ step (layer.Int z)
  fold_Int z = ap folded (sym (rolls-Int z)) ∙ fold-roll-Value A A' step step' (layer.Int z)

  pub fold_Bits32 : (n : ℕ) → folded (Bits32 n) ≡ step (layer.Bits32 n)
  fold_Bits32 n = ap folded (sym (rolls-Bits32 n)) ∙ fold-roll-Value A A' step step' (layer.Bits32 n)

  pub fold_Bits64 : (n : ℕ) → folded (Bits64 n) ≡ step (layer.Bits64 n)
  fold_Bits64 n = ap folded (sym (rolls-Bits64 n)) ∙ fold-roll-Value A A' step step' (layer.Bits64 n)

  pub fold_Bool : (b : Bool) → folded (Truth b) ≡ step (layer.Bool b)
  fold_Bool b = ap folded (sym (rolls-Bool b)) ∙ fold-roll-Value A A' step step' (layer.Bool b)

  pub fold_Text : (text : List ℕ) → folded (Text text) ≡ step (layer.Text text)
  fold_Text text = ap folded (sym (rolls-Text text)) ∙ fold-roll-Value A A' step step' (layer.Text text)

  pub fold_List : (vs : List Value) → folded (Items vs) ≡ step (layer.List (map folded vs))
  fold_List vs = ap folded (sym (rolls-List vs)) ∙ fold-roll-Value A A' step step' (layer.List vs)

  pub fold_Object : (class : List ℕ) (version : ℤ) (parts : List Part) → folded (Object class version parts) ≡ step (layer.Object class version (map part_folded parts))
  fold_Object class version parts = ap folded (sym (rolls-Object class version parts)) ∙ fold-roll-Value A A' step step' (layer.Object class version parts)

  pub fold_Pointed : (label : ℕ) (object : Value) → folded (Pointed label object) ≡ step (layer.Pointed label (folded object))
  fold_Pointed label object = ap folded (sym (rolls-Pointed label object)) ∙ fold-roll-Value A A' step step' (layer.Pointed label object)

  pub fold_Null : folded Null ≡ step layer.Null
  fold_Null = ap folded (sym rolls-Null) ∙ fold-roll-Value A A' step step' layer.Null

  pub fold_Back : (label : ℕ) → folded (Back label) ≡ step (layer.Back label)
  fold_Back label = ap folded (sym (rolls-Back label)) ∙ fold-roll-Value A A' step step' (layer.Back label)

  pub fold_Opaque : (class : List ℕ) (len : ℕ) → folded (Opaque class len) ≡ step (layer.Opaque class len)
  fold_Opaque class len = ap folded (sym (rolls-Opaque class len)) ∙ fold-roll-Value A A' step step' (layer.Opaque class len)

-- ---- induction

-- it holds of each
abbrev pub Each : {X : Type 0} → (X → Type 0) → List X → Type 0
Each P [] = Unit {0}
Each P (x ∷ xs) = P x × Each P xs

module _ (P : Value → Type 0) where
  abbrev Known : Type 0
  Known = (v : Value) × P v

  abbrev KnownPart : Type 0
  KnownPart = (p : Part) × P p.value

  each_known : (es : List Known) → Each P (map (λ e. e.0) es)
  each_known [] = tt
  each_known (e ∷ es) = (e.1, each_known es)

  each_part_known : (es : List KnownPart) → Each (λ p. P p.value) (map (λ e. e.0) es)
  each_part_known [] = tt
  each_part_known (e ∷ es) = (e.1, each_part_known es)

  -- what holds of values without others in them, and goes over from those in a value to the value
  pub record Steps : Type 0 where
    pub int : (z : ℤ) → P (Int z)
    pub bits32 : (n : ℕ) → P (Bits32 n)
    pub bits64 : (n : ℕ) → P (Bits64 n)
    pub truth : (b : Bool) → P (Truth b)
    pub text : (text : List ℕ) → P (Text text)
    pub list : (vs : List Value) → Each P vs → P (Items vs)
    pub object : (class : List ℕ) (version : ℤ) (parts : List Part) → Each (λ p. P p.value) parts → P (Object class version parts)
    pub pointed : (label : ℕ) (object : Value) → P object → P (Pointed label object)
    pub null : P Null
    pub back : (label : ℕ) → P (Back label)
    pub opaque : (class : List ℕ) (len : ℕ) → P (Opaque class len)

  layer_holds : Steps → (y : Value-F Known KnownPart) → P (roll-Value (map-Value Known KnownPart Value Part (λ e. e.0) (λ e. e.0) y))
  layer_holds s (layer.Int z) = subst P (sym (rolls-Int z)) (s.int z)
  layer_holds s (layer.Bits32 n) = subst P (sym (rolls-Bits32 n)) (s.bits32 n)
  layer_holds s (layer.Bits64 n) = subst P (sym (rolls-Bits64 n)) (s.bits64 n)
  layer_holds s (layer.Bool b) = subst P (sym (rolls-Bool b)) (s.truth b)
  layer_holds s (layer.Text t) = subst P (sym (rolls-Text t)) (s.text t)
  layer_holds s (layer.List es) = subst P (sym (rolls-List (map (λ e. e.0) es))) (s.list (map (λ e. e.0) es) (each_known es))
  layer_holds s (layer.Object class version es) = subst P (sym (rolls-Object class version (map (λ e. e.0) es))) (s.object class version (map (λ e. e.0) es) (each_part_known es))
  layer_holds s (layer.Pointed label e) = subst P (sym (rolls-Pointed label e.0)) (s.pointed label e.0 e.1)
  layer_holds s layer.Null = subst P (sym rolls-Null) s.null
  layer_holds s (layer.Back label) = subst P (sym (rolls-Back label)) (s.back label)
  layer_holds s (layer.Opaque class len) = subst P (sym (rolls-Opaque class len)) (s.opaque class len)

  pub by_cases : Steps → (v : Value) → P v
  by_cases s = ind-Value P (λ p. P p.value) (λ x y is. subst (λ (z : Value-F Value Part). P (roll-Value z)) is (layer_holds s y)) (λ x y is. subst (λ (z : Part-F Value Part). P z.value) is y.value.1)

pub out_int : (n : ℤ) → out-Value (Int n) ≡ layer.Int n
out_int n = ap out-Value (sym (rolls-Int n)) ∙ out-roll-Value (layer.Int n)
