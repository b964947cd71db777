use Rattle.std.proofs.Common.{◌++◌, replicate, if◌then◌else◌, append_assoc}
use Rattle.rio_head.specs.{Form.{is_large_head}, Head.{head_bytes}, Written.{written_head}}
use Rattle.rio_head.proofs.HeadAgain.{head_only}
use Rattle.rio_head.proofs.laws.written_head_is_read.Goals as goal

pub returns : goal.returns
returns c h rest is =
    let zeros = replicate (if is_large_head h.version then 25 else 37) 0 in
    head_only h 0 (written_head h ++ rest) (record { is_head = is; rest = zeros ++ rest; spelled = append_assoc (head_bytes h) zeros rest })
