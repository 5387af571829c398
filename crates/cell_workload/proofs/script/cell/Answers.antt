use Rattle.std.proofs.Common.{◌≡◌, ◌++◌, map, subst, sym, ap, ◌∙◌}
use Rattle.std.specs.List.{range_with_len}
use Rattle.action_script.specs.Forms.Printing.{numbered_from, AreScript}
use Rattle.action_script.specs.Forms.ScriptValue.{Script}
use Rattle.script_checker.specs.DeclaredSoFar.{nothing_yet}
use Rattle.script_checker.specs.Compiled.{AreAccepted}
use Rattle.cell_workload.specs.CellNames.{cell_names}
use Rattle.cell_workload.specs.CellScript.{cell_forms, cell_script, play_line}
use Rattle.cell_workload.proofs.Accepted.{accepts_cell}
use Rattle.cell_workload.proofs.Whole.{are_script}
use Rattle.cell_workload.proofs.script.cell.Goals as goal

pub of_forms-requires : goal.of_forms-requires
of_forms-requires c =
    let forms : c.push_plays.new.forms.items ≡ cell_forms c.args.cycles =
    c.in_ok-push_plays.ensures ∙ ap (λ l. l ++ map play_line (range_with_len 1 c.args.cycles)) c.in_ok-forms.ensures in
    subst (λ names. AreScript names c.push_plays.new.forms.items) (sym c.in_ok-names.ensures)
    (subst (AreScript cell_names) (sym forms) (are_script c.args.cycles c.requires.few))

pub returns-clause-accepted : goal.returns-clause-accepted
returns-clause-accepted c =
    let forms : c.push_plays.new.forms.items ≡ cell_forms c.args.cycles =
    c.in_ok-push_plays.ensures ∙ ap (λ l. l ++ map play_line (range_with_len 1 c.args.cycles)) c.in_ok-forms.ensures in
    let lines = c.in_ok-script.ensures.lines ∙ ap (numbered_from 1) forms in
    let names = c.in_ok-script.ensures.names ∙ c.in_ok-names.ensures in
    let same : cell_script c.args.cycles ≡ c.in_ok-script.script =
    (λ j. record { lines = sym lines j; names = sym names j }) in
    subst (λ (s : Script). AreAccepted s.names (nothing_yet s.names) s.lines) same (accepts_cell c.args.cycles c.requires.few)
