use Rattle.std.proofs.Common.{◌≡◌, ◌++◌, take}
use Rattle.std.specs.List.{flat_map}
use Rattle.journal_text.specs.Texts.Text.{seen_line}
use Rattle.journal_text.proofs.texts.text_writer.push_seens.Given as goal

abbrev pub invariant-loop-seen : goal.invariant-loop-seen
invariant-loop-seen l = l.text.items ≡ l.fn.text.items ++ flat_map (seen_line l.plan) (take l.seen-index l.seens)
