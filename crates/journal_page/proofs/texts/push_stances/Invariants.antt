use Rattle.std.proofs.Common.{◌≡◌, ◌++◌, take}
use Rattle.std.specs.List.{flat_map}
use Rattle.journal_page.specs.Pages.{stance_text}
use Rattle.journal_page.proofs.texts.push_stances.Given as goal

abbrev pub invariant-loop-stance : goal.invariant-loop-stance
invariant-loop-stance l = l.text.items ≡ l.fn.text.items ++ flat_map (stance_text l.plan) (take l.stance-index l.stances)
