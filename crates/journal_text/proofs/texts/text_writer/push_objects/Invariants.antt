use Rattle.std.proofs.Common.{◌≡◌, ◌++◌, reverse}
use Rattle.std.specs.List.{flat_map, range_with_len}
use Rattle.journal_text.specs.Texts.Text.{object_line}
use Rattle.journal_text.proofs.texts.text_writer.push_objects.Given as goal

abbrev pub invariant-loop-object : goal.invariant-loop-object
invariant-loop-object l =
    l.text.items ≡ l.fn.text.items ++ flat_map (object_line l.plan (reverse l.entries)) (range_with_len 0 l.object)
