use Rattle.std.proofs.Common.{◌++◌, replicate, if◌then◌else◌, append_assoc}
use Rattle.rio_head.specs.{Form.{is_large_dir}, Dir.{dir_bytes}, Written.{written_dir}}
use Rattle.rio_head.proofs.DirLaws.{dir_only}
use Rattle.rio_head.proofs.laws.written_dir_is_read.Goals as goal

pub returns : goal.returns
returns c d place rest is =
    let zeros = replicate (if is_large_dir d.version then 0 else 12) 0 in
    dir_only d place (written_dir d ++ rest) (record { is_dir = is; rest = zeros ++ rest; spelled = append_assoc (dir_bytes d) zeros rest })
