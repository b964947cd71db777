-- A host of a real file, as its callers see it.
use Rattle.std.specs.Prelude.{Bool}
use Rattle.rio_host.specs.{Host.{View}, Silent.{silent_view}, declared.file_host.FileHost.{FileHost}}

abbrev pub view_of : {R D : Type 0} → FileHost R D → View
view_of h = silent_view h.disk_faults h.say_faults h.reads

-- its last call on the file failed because another open of it has the lock
abbrev pub in_use_of : {R D : Type 0} → FileHost R D → Bool
in_use_of h = h.file.is_in_use
