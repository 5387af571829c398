use Rattle.std.proofs.Common.{◌≡◌, ◌++◌, take}
use Rattle.std.specs.List.{flat_map}
use Rattle.journal_page.specs.Pages.{turn_text}
use Rattle.journal_page.proofs.texts.push_turns.Given as goal

abbrev pub invariant-loop-turn : goal.invariant-loop-turn
invariant-loop-turn l = l.text.items ≡ l.fn.text.items ++ flat_map (turn_text l.plan) (take l.turn-index l.turns)
