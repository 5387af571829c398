use Rattle.std.proofs.Common.{◌≡◌, ◌++◌, take}
use Rattle.journal_page.specs.Pages.{lines_text}
use Rattle.journal_page.proofs.texts.push_lines.Given as goal

abbrev pub invariant-loop-entry : goal.invariant-loop-entry
invariant-loop-entry l = l.text.items ≡ l.fn.text.items ++ lines_text l.plan (take l.entry-index l.entries)
