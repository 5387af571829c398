use Rattle.std.proofs.Common.{◌≡◌, ◌≤◌, ◌-◌, take, length}
use Rattle.std.specs.Io.KnownBytes.{append_known}
use Rattle.std.specs.List.{flat_map}
use Rattle.journal_text.specs.Texts.Text.{entry_line}
use Rattle.journal_text.proofs.texts.text_blocks.write_entries.Given as goal

abbrev pub invariant-loop-done : goal.invariant-loop-done
invariant-loop-done g l = record {
  within : l.done ≤ length l.entries;
  size : length l.block ≡ 65536;
  written : g.K.Sink.held l.sink ≡ append_known (g.K.Sink.held l.fn.sink) (flat_map (entry_line l.plan) (take l.done l.entries));
  room : g.K.Sink.room l.sink ≡ g.K.Sink.room l.fn.sink;
  count : g.K.Sink.faults l.sink ≡ g.K.Sink.faults l.fn.sink;
}

abbrev pub decreases-loop-done : goal.decreases-loop-done
decreases-loop-done g l = length l.entries - l.done
