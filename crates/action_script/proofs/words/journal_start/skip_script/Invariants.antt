use Rattle.std.proofs.Common.{◌≡◌, ◌+◌, ◌≤◌, ℕ, length}
use Rattle.action_script.specs.Words.CutLines.{lines_of}
use Rattle.action_script.specs.Words.JournalStarts.{lines_before, after_lines, script_lines}
use Rattle.action_script.proofs.words.journal_start.skip_script.Given as goal

abbrev pub invariant-loop-line : goal.invariant-loop-line
invariant-loop-line l = record {
  counted : script_lines l.bytes ≡ l.lines + lines_before (lines_of l.rest);
  few : l.lines + length l.rest ≤ length l.bytes;
  after : (n : ℕ) → after_lines (l.lines + n) l.bytes ≡ after_lines n l.rest;
}

abbrev pub decreases-loop-line : goal.decreases-loop-line
decreases-loop-line l = length l.rest
