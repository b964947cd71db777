-- The record of an object, of data that are equal.
use Rattle.std.proofs.Common.{◌≡◌, ℕ, ◌+◌, List, [], length, Result, IfOk, sym, subst, ap, ◌∙◌}
use Rattle.rio_num.specs.Text.{text_bytes}
use Rattle.rio_format.specs.{declared.class.ClassDef.{ClassDef}, declared.value.Value.{Value}, Written.{written_form}}
use Rattle.rio_machine.specs.Limits.{head_length}
use Rattle.rio_chain.specs.{Record.{key_size, new_key, record_bytes}, declared.record.NewRecord.{NewRecord}, declared.key_words.KeyWords.{KeyWords}}
use Rattle.rio_effect.specs.ObjectRecord.{object_data}

pub made_head : {E : Type 0} (r : Result NewRecord E) (words : KeyWords) (contents contents' : List ℕ) → contents ≡ contents'
    → IfOk r (λ made. made.head ≡ new_key words (length contents)) → IfOk r (λ made. made.head ≡ new_key words (length contents'))
made_head r words contents contents' same is = subst (λ (l : List ℕ). IfOk r (λ made. made.head ≡ new_key words (length l))) same is

pub made_bytes : {E : Type 0} (r : Result NewRecord E) (words : KeyWords) (contents contents' : List ℕ) → contents ≡ contents'
    → IfOk r (λ made. made.bytes.bytes ≡ record_bytes words contents) → IfOk r (λ made. made.bytes.bytes ≡ record_bytes words contents')
made_bytes r words contents contents' same is = subst (λ (l : List ℕ). IfOk r (λ made. made.bytes.bytes ≡ record_bytes words l)) same is

-- without a title
pub untitled_size : (words : KeyWords) (class name : List ℕ) (n : ℕ) → words.title ≡ [] → class ≡ words.class → name ≡ words.name → n ≡ head_length class name → n ≡ key_size words
untitled_size words class name n none a b is =
    is ∙ ap (λ (x : List ℕ × List ℕ). head_length x.0 x.1) (λ i. (a i, b i)) ∙ ap (λ (t : List ℕ). 26 + length (text_bytes words.class) + length (text_bytes words.name) + length (text_bytes t)) (sym none)

pub same_data : (classes : List ClassDef) (words : KeyWords) (v : Value) (start : ℕ) (contents : List ℕ) → start ≡ key_size words → contents ≡ written_form classes start v → contents ≡ object_data classes words v
same_data classes words v start contents at is = is ∙ ap (λ (n : ℕ). written_form classes n v) at
