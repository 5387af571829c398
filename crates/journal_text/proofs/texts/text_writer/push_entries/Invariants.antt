use Rattle.std.proofs.Common.{◌≡◌, ◌≤◌, ◌++◌, take, length}
use Rattle.std.specs.List.{flat_map}
use Rattle.journal_text.specs.Texts.Text.{entry_line}
use Rattle.journal_text.proofs.texts.text_writer.push_entries.Given as goal

abbrev pub invariant-loop-entry : goal.invariant-loop-entry
invariant-loop-entry l = record {
  within : l.at ≤ length l.text.items;
  lines : take l.at l.text.items ≡ l.fn.text.items ++ flat_map (entry_line l.plan) (take l.entry-index l.entries);
}
