use Rattle.std.proofs.Common.{◌≡◌, ◌++◌, reverse}
use Rattle.std.specs.List.{flat_map, range_with_len}
use Rattle.journal_text.specs.Texts.Text.{outcome_line}
use Rattle.journal_text.proofs.texts.text_writer.push_outcomes.Given as goal

abbrev pub invariant-loop-place : goal.invariant-loop-place
invariant-loop-place l =
    l.text.items ≡ l.fn.text.items ++ flat_map (outcome_line l.plan (reverse l.entries)) (range_with_len 0 l.place)
