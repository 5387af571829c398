use Rattle.std.proofs.Common.{◌≡◌, ◌≤◌, ◌*◌, take, length}
use Rattle.std.specs.List.{flat_map}
use Rattle.journal_text.specs.Texts.Room.{most_line}
use Rattle.journal_text.specs.Texts.Text.{entry_line}
use Rattle.journal_text.proofs.texts.text_blocks.put_entries.Given as goal

abbrev pub invariant-loop-entry : goal.invariant-loop-entry
invariant-loop-entry l = record {
  few : l.at ≤ most_line * l.entry-index;
  kept : length l.block ≡ length l.fn.block;
  lines : take l.at l.block ≡ flat_map (entry_line l.plan) (take l.entry-index l.entries);
}
