use Rattle.std.proofs.Common.{◌≡◌, true, true≢false, Ok, subst, sym, ◌∙◌}
use Rattle.std.specs.List.{list_all}
use Rattle.action_script.specs.Lines.Spelling.{is_right, trial_of}
use Rattle.action_script.proofs.OnForms.WellRead.{right_checked}
use Rattle.action_script.proofs.lines.asked.fault_of_words.Goals as goal

pub unreachable-requires : goal.unreachable-requires
unreachable-requires c =
    let tried : trial_of c.deref.result.now ≡ Ok tt = sym c.check_words.ensures ∙ c.in-Ok.is in
    let right =
    subst (λ a. list_all is_right a ≡ true) (c.deref.ensures.value ∙ c.in_ok-fill_asked.ensures)
    (right_checked c.deref.result.now tried) in
    true≢false (sym right ∙ c.requires.wrong)
