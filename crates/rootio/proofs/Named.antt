-- A verb that writes has a file's name of at most 200 bytes, and what it is asked for can be done.
use Rattle.std.proofs.Common.{if◌then◌else◌, ◌≡◌, ◌⊎◌, inl, inr, ⊎_elim, ℕ, ◌≤◌, ◌&&◌, Bool, true, false, List, [], ◌∷◌, length, Option, Some, None, option_map, option_and_then, sym, refl, ap, ◌∙◌, subst, rules}
use Rattle.std.proofs.lemmas.{Bool.{and_parts}, Option.{same_Some}}
use Rattle.rio_report.specs.declared.item.Item.{Item}
use Rattle.rio_token.specs.Words.{num_of}
use Rattle.rio_format.specs.declared.class.Base.{Base}
use Rattle.std.specs.{Prelude.{codes, nat_le}, List.{list_all}, Str.{bytes_eq}}
use Rattle.rootio.specs.{declared.words.Form.{Form, TheVariants.{Reads, Writes}}, declared.words.Listing.TheVariants.{Dump, Scan, Export}}
use Rattle.rio_cmd.specs.{ImportWords.{gen_of, import_of}, declared.import_words.ImportWords.{ImportWords}}
use Rattle.rio_cmd.proofs.ImportWordLaws.{imports_are_stated}
use Rattle.rootio.specs.declared.words.Work.{Work, TheVariants.{Run, Recover, Import, Generate}}
use Rattle.rootio.specs.Words.{IsAsked, asked_by, class_of, dump_of, export_of, form_of_words, gen_of_words, import_of_words, is_file, is_no_flag, item_of, ls_of, recover_of, run_of, scan_of_words, target_at_1, target_by, tree_of}
use Rattle.rootio.specs.{Target.{TargetFile}, Writing.{target_of}}

-- ---- choices

chosen : (b : Bool) (x y : Option Form) (f : Form) → (if b then x else y) ≡ Some f → (x ≡ Some f) ⊎ (y ≡ Some f)
chosen true x y f e = inl e
chosen false x y f e = inr e

guarded : (b : Bool) (x : Option Form) (f : Form) → (if b then x else None) ≡ Some f → (b ≡ true) × (x ≡ Some f)
guarded true x f e = (refl, e)
guarded false x f e = absurd cc

-- ---- files that are written to

abbrev target_at : List ℕ → ℕ → TargetFile
target_at file n = record { name = file; datime = n }

number_named : (file : List ℕ) (o : Option ℕ) (target : TargetFile) → option_map (λ n. target_at file n) o ≡ Some target → target.name ≡ file
number_named file None target e = absurd cc
number_named file (Some n) target e = ap (λ (t : TargetFile). t.name) (sym (same_Some (target_at file n) target e))

target_named : (file : List ℕ) (args : List (List ℕ)) (target : TargetFile) → target_by file args ≡ Some target → target.name ≡ file
target_named file [] target e = ap (λ (t : TargetFile). t.name) (sym (same_Some (target_at file 1) target e))
target_named file (datime ∷ []) target e = number_named file (num_of datime) target e
target_named file (datime ∷ word ∷ words) target e = absurd cc

-- ---- numbers of entries

below : (a b : ℕ) → nat_le a b ≡ true → a ≤ b
below a b e = search rules

bounded : (low high : ℕ) (o : Option ℕ) (n : ℕ) → option_and_then (λ m. if nat_le low m && nat_le m high then Some m else None) o ≡ Some n → (low ≤ n) × (n ≤ high)
bounded low high None n e = absurd cc
bounded low high (Some m) n e = by (nat_le low m) (nat_le m high) refl refl e
  where
    by : (b c : Bool) → nat_le low m ≡ b → nat_le m high ≡ c → (if b && c then Some m else None) ≡ Some n → (low ≤ n) × (n ≤ high)
    by true true one two is =
        let same : m ≡ n = cc in
        (subst (λ (k : ℕ). low ≤ k) same (below low m one), subst (λ (k : ℕ). k ≤ high) same (below m high two))
    by true false one two is = absurd cc
    by false c one two is = absurd cc

gen_within : (args : List (List ℕ)) (n : ℕ) → gen_of args ≡ Some n → (1 ≤ n) × (n ≤ 1000000)
gen_within [] n e = absurd cc
gen_within (word ∷ []) n e = bounded 1 1000000 (num_of word) n e
gen_within (word ∷ other ∷ words) n e = absurd cc

-- ---- verbs that read

module _ (work : Work) where
  ls_reads : (args : List (List ℕ)) → ls_of args ≡ Some (Writes work) → ⊥
  ls_reads [] e = cc
  ls_reads (word ∷ words) e = cc

  item_reads : (o : Option Item) → option_map (λ i. Reads (Dump (Some i))) o ≡ Some (Writes work) → ⊥
  item_reads None e = cc
  item_reads (Some i) e = cc

  dump_reads : (args : List (List ℕ)) → dump_of args ≡ Some (Writes work) → ⊥
  dump_reads [] e = cc
  dump_reads (item ∷ []) e = item_reads (item_of item) e
  dump_reads (item ∷ word ∷ words) e = cc

  tree_reads : (o : Option (List ℕ)) → option_map (λ t. Reads (Scan t None)) o ≡ Some (Writes work) → ⊥
  tree_reads None e = cc
  tree_reads (Some t) e = cc

  version_reads : (o : Option (List ℕ)) (c : Option Base) → option_and_then (λ t. option_map (λ b. Reads (Scan t (Some b))) c) o ≡ Some (Writes work) → ⊥
  version_reads None c e = cc
  version_reads (Some t) None e = cc
  version_reads (Some t) (Some b) e = cc

  scan_reads : (args : List (List ℕ)) → scan_of_words args ≡ Some (Writes work) → ⊥
  scan_reads [] e = cc
  scan_reads (tree ∷ []) e = tree_reads (tree_of tree) e
  scan_reads (tree ∷ class ∷ []) e = version_reads (tree_of tree) (class_of class) e
  scan_reads (tree ∷ class ∷ word ∷ words) e = cc

  tree_exports : (o : Option (List ℕ)) → option_map (λ t. Reads (Export t)) o ≡ Some (Writes work) → ⊥
  tree_exports None e = cc
  tree_exports (Some t) e = cc

  export_reads : (args : List (List ℕ)) → export_of args ≡ Some (Writes work) → ⊥
  export_reads [] e = cc
  export_reads (tree ∷ []) e = tree_exports (tree_of tree) e
  export_reads (tree ∷ word ∷ words) e = cc

  -- ---- those that write

  run_named : (file : List ℕ) (o : Option TargetFile) → ((target : TargetFile) → o ≡ Some target → target.name ≡ file)
      → option_map (λ target. Writes (Run target)) o ≡ Some (Writes work) → (target_of work).name ≡ file
  run_named file None named e = absurd cc
  run_named file (Some target) named e =
      let same : work ≡ Run target = cc in
      ap (λ (w : Work). (target_of w).name) same ∙ named target refl

  recover_named : (file : List ℕ) (o : Option TargetFile) → ((target : TargetFile) → o ≡ Some target → target.name ≡ file)
      → option_map (λ target. Writes (Recover target)) o ≡ Some (Writes work) → (target_of work).name ≡ file
  recover_named file None named e = absurd cc
  recover_named file (Some target) named e =
      let same : work ≡ Recover target = cc in
      ap (λ (w : Work). (target_of w).name) same ∙ named target refl

  import_named : (file : List ℕ) (o : Option ImportWords) → option_map (λ words. Writes (Import (target_at_1 file) words)) o ≡ Some (Writes work)
      → (target_of work).name ≡ file
  import_named file None e = absurd cc
  import_named file (Some words) e =
      let same : work ≡ Import (target_at_1 file) words = cc in
      ap (λ (w : Work). (target_of w).name) same

  gen_named : (file : List ℕ) (o : Option ℕ) → option_map (λ entries. Writes (Generate (target_at_1 file) entries)) o ≡ Some (Writes work)
      → (target_of work).name ≡ file
  gen_named file None e = absurd cc
  gen_named file (Some entries) e =
      let same : work ≡ Generate (target_at_1 file) entries = cc in
      ap (λ (w : Work). (target_of w).name) same

  -- ---- what they are asked for

  run_asked : (o : Option TargetFile) → option_map (λ target. Writes (Run target)) o ≡ Some (Writes work) → IsAsked work
  run_asked None e = absurd cc
  run_asked (Some target) e = let same : work ≡ Run target = cc in rw same tt

  recover_asked : (o : Option TargetFile) → option_map (λ target. Writes (Recover target)) o ≡ Some (Writes work) → IsAsked work
  recover_asked None e = absurd cc
  recover_asked (Some target) e = let same : work ≡ Recover target = cc in rw same tt

  import_asked : (file : List ℕ) (args : List (List ℕ)) (o : Option ImportWords) → import_of args ≡ o
      → option_map (λ words. Writes (Import (target_at_1 file) words)) o ≡ Some (Writes work) → IsAsked work
  import_asked file args None is e = absurd cc
  import_asked file args (Some words) is e =
      let same : work ≡ Import (target_at_1 file) words = cc in
      rw same (imports_are_stated args words is)

  gen_asked : (file : List ℕ) (args : List (List ℕ)) (o : Option ℕ) → gen_of args ≡ o
      → option_map (λ entries. Writes (Generate (target_at_1 file) entries)) o ≡ Some (Writes work) → IsAsked work
  gen_asked file args None is e = absurd cc
  gen_asked file args (Some entries) is e =
      let same : work ≡ Generate (target_at_1 file) entries = cc in
      rw same (gen_within args entries is)

  -- the verb is one of these
  asked_either : (P : Type 0) (verb file : List ℕ) (args : List (List ℕ)) → asked_by verb file args ≡ Some (Writes work)
      → (run_of file args ≡ Some (Writes work) → P) → (recover_of file args ≡ Some (Writes work) → P)
      → (import_of_words file args ≡ Some (Writes work) → P) → (gen_of_words file args ≡ Some (Writes work) → P) → P
  asked_either P verb file args e runs recovers imports generates =
      ⊎_elim (λ is. absurd (ls_reads args is))
      (λ second. ⊎_elim (λ is. absurd (dump_reads args is))
      (λ third. ⊎_elim (λ is. absurd (scan_reads args is))
      (λ fourth. ⊎_elim (λ is. absurd (export_reads args is))
      (λ fifth. ⊎_elim runs
      (λ sixth. ⊎_elim recovers
      (λ seventh. ⊎_elim imports
      (λ last. generates (guarded (bytes_eq verb (codes "gen")) (gen_of_words file args) (Writes work) last).1)
      (chosen (bytes_eq verb (codes "import")) (import_of_words file args) _ (Writes work) seventh))
      (chosen (bytes_eq verb (codes "recover")) (recover_of file args) _ (Writes work) sixth))
      (chosen (bytes_eq verb (codes "run")) (run_of file args) _ (Writes work) fifth))
      (chosen (bytes_eq verb (codes "export")) (export_of args) _ (Writes work) fourth))
      (chosen (bytes_eq verb (codes "scan")) (scan_of_words args) _ (Writes work) third))
      (chosen (bytes_eq verb (codes "dump")) (dump_of args) _ (Writes work) second))
      (chosen (bytes_eq verb (codes "ls")) (ls_of args) _ (Writes work) e)

  asked_named : (verb file : List ℕ) (args : List (List ℕ)) → asked_by verb file args ≡ Some (Writes work) → (target_of work).name ≡ file
  asked_named verb file args e =
      asked_either ((target_of work).name ≡ file) verb file args e
      (λ is. run_named file (target_by file args) (target_named file args) is)
      (λ is. recover_named file (target_by file args) (target_named file args) is)
      (λ is. import_named file (import_of args) is)
      (λ is. gen_named file (gen_of args) is)

  asked_well : (verb file : List ℕ) (args : List (List ℕ)) → asked_by verb file args ≡ Some (Writes work) → IsAsked work
  asked_well verb file args e =
      asked_either (IsAsked work) verb file args e
      (λ is. run_asked (target_by file args) is)
      (λ is. recover_asked (target_by file args) is)
      (λ is. import_asked file args (import_of args) refl is)
      (λ is. gen_asked file args (gen_of args) refl is)

short_name : (word : List ℕ) → is_file word ≡ true → length word ≤ 200
short_name word e = search rules

pub writes_named : (words : List (List ℕ)) (work : Work) → form_of_words words ≡ Some (Writes work) → length (target_of work).name ≤ 200
writes_named [] work e = absurd cc
writes_named (verb ∷ []) work e = absurd cc
writes_named (verb ∷ file ∷ args) work e =
    let both = guarded (is_file file && list_all is_no_flag args) (asked_by verb file args) (Writes work) e in
    subst (λ (n : List ℕ). length n ≤ 200) (sym (asked_named work verb file args both.1)) (short_name file ((and_parts (is_file file) (list_all is_no_flag args) both.0).0))

pub writes_asked : (words : List (List ℕ)) (work : Work) → form_of_words words ≡ Some (Writes work) → IsAsked work
writes_asked [] work e = absurd cc
writes_asked (verb ∷ []) work e = absurd cc
writes_asked (verb ∷ file ∷ args) work e =
    let both = guarded (is_file file && list_all is_no_flag args) (asked_by verb file args) (Writes work) e in
    asked_well work verb file args both.1
