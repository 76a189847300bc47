use Rattle.std.proofs.Common.{◌≡◌, take, map}
use Rattle.job_words.proofs.words.copy_words.Given as goal

abbrev pub invariant-loop-word : goal.invariant-loop-word
invariant-loop-word g l = l.copies.items ≡ map g.S.AsStr.text (take l.word-index l.words)
