use Rattle.std.proofs.Common.{◌≡◌, length}
use Rattle.action_script.specs.Words.JournalStarts.{without_blanks}
use Rattle.action_script.proofs.words.journal_start.without_blanks.Given as goal

abbrev pub invariant-loop-byte : goal.invariant-loop-byte
invariant-loop-byte l = without_blanks l.rest ≡ without_blanks l.line

abbrev pub decreases-loop-byte : goal.decreases-loop-byte
decreases-loop-byte l = length l.rest
