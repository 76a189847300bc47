use Rattle.std.proofs.Common.{◌≡◌, drop, map, string_bytes}
use Rattle.job_words.specs.Jobs.{are_plain}
use Rattle.job_words.proofs.words.are_plain.Given as goal

abbrev pub invariant-loop-word : goal.invariant-loop-word
invariant-loop-word l = are_plain (map string_bytes (drop l.word-index l.words)) ≡ are_plain (map string_bytes l.words)
