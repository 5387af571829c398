use Rattle.std.proofs.Common.{◌≡◌, None, not, find, option_copied, sym, ap, ◌∙◌}
use Rattle.action_script.specs.Lines.Spelling.{is_right}
use Rattle.action_script.proofs.OnForms.PrintedLines.{trial_of-right}
use Rattle.action_script.proofs.OnForms.WellRead.{right_all}
use Rattle.action_script.proofs.lines.asked.check_words.Goals as goal

pub returns-in_default : goal.returns-in_default
returns-in_default c =
    let none : find (λ a. not (is_right a)) c.args.asked.now ≡ None = sym c.first_wrong.ensures ∙ ap option_copied c.in_default.is in
    sym (trial_of-right c.args.asked.now (right_all c.args.asked.now none))
