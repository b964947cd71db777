-- What the verb ls says of a file.
use Rattle.std.specs.{Prelude.{ℕ, ◌++◌, List, [], codes, Result, Ok, Err, if◌then◌else◌}, List.{flat_map}}
use Rattle.rio_num.specs.{Printed.{item_text, name_text}, Reading.{◌>>=◌}}
use Rattle.rio_key.specs.{declared.head.KeyHead.{KeyHead}, Key.{is_compressed}}
use Rattle.rio_head.specs.declared.fault.HeadFault.{HeadFault}
use Rattle.rio_dir.specs.Closed.{closed_file}

-- what stands behind a key that is compressed
abbrev pub mark_of : KeyHead → List ℕ
mark_of key = if is_compressed key then codes " compressed" else []

-- NAME;CYCLE CLASS, and compressed where that holds
abbrev pub key_line : KeyHead → List ℕ
key_line key = item_text key.name key.cycle ++ codes " " ++ name_text key.class ++ mark_of key ++ codes "\n"

-- a line for each key of the key list, in its order
unfoldable pub key_lines : List KeyHead → List ℕ
key_lines keys = flat_map key_line keys

-- what is said of a file, or the first rule that it breaks
unfoldable pub listed_file : List ℕ → Result (List ℕ) HeadFault
listed_file file = do
  closed ← closed_file file
  Ok (key_lines closed.keys)

-- what is said, and nothing of a file that breaks a rule
abbrev pub said_listing : Result (List ℕ) HeadFault → List ℕ
said_listing (Ok text) = text
said_listing (Err e) = []
