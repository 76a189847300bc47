use Rattle.std.proofs.Common.{arith}
use Rattle.script_ends.proofs.TakenBytes.{file_too_long, file_whole}
use Rattle.script_ends.proofs.reading.read_file.Goals as goal

pub returns-then-len-gt-FILE_LIMIT-clause-file : goal.returns-then-len-gt-FILE_LIMIT-clause-file
returns-then-len-gt-FILE_LIMIT-clause-file g c = file_too_long 2147483647 _ c.in_ok-bytes.bytes.items _ (omega arith) c.in_ok-bytes.ensures.text

pub returns-clause-file : goal.returns-clause-file
returns-clause-file g c = file_whole 2147483647 _ c.in_ok-bytes.bytes.items _ c.new.ensures (omega arith) c.in_ok-bytes.ensures.text
