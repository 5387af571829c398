use Rattle.std.proofs.Common.{◌++◌, ◌∷◌, [], map, ap, sym, ◌∙◌, ◌-◌}
use Rattle.std.specs.List.{range_with_len}
use Rattle.std.proofs.lemmas.List.{append_assoc}
use Rattle.cell_workload.specs.CellScript.{play_line}
use Rattle.cell_workload.proofs.Whole.{plays_more}
use Rattle.cell_workload.proofs.script.push_plays.Goals as goal

pub loop-cycle-preserved : goal.loop-cycle-preserved
loop-cycle-preserved c =
    let cycle = c.loop-cycle.cycle in
    let old = c.args.forms.now.items in
    let before = map play_line (range_with_len 1 (cycle - 1)) in
    c.in_ok-push.ensures.items
    ∙ ap (λ f. c.loop-cycle.forms.items ++ f ∷ []) c.in_ok-play_line.ensures
    ∙ ap (λ l. l ++ play_line cycle ∷ []) c.loop-cycle.invariant
    ∙ append_assoc old before (play_line cycle ∷ [])
    ∙ ap (λ l. old ++ l) (sym (plays_more cycle c.loop-cycle.auto.cycle))
