use Rattle.std.proofs.Common.{◌≡◌, ◌≤◌, ◌+◌, length, drop}
use Rattle.journal_text.specs.Texts.TextOfJournal.{lines_shared}
use Rattle.journal_text.proofs.texts.text_reader.lines_shared.Given as goal

abbrev pub invariant-loop-index : goal.invariant-loop-index
invariant-loop-index l = record {
  within : l.index ≤ length l.other;
  few : l.lines ≤ l.index;
  shared : l.lines + lines_shared (drop l.index l.text) (drop l.index l.other) ≡ lines_shared l.text l.other;
}
