use Rattle.std.proofs.Common.{◌≡◌, ◌+◌, ◌∷◌, List, drop, sym, subst, ap, ◌∙◌, arith}
use Rattle.std.proofs.lemmas.List.{drop_more}
use Rattle.action_script.specs.declared.forms.script.Line.{Line}
use Rattle.graph_maker.proofs.Staged.{Reads, read_more}
use Rattle.graph_maker.proofs.shape.bad_line.Goals as goal

pub loop-line-preserved : goal.loop-line-preserved
loop-line-preserved c =
    let all = c.lines-line-items.result.now in
    let i = c.loop-line.line-index in
    let line = c.line-item.result in
    let rest : drop i all ≡ line ∷ drop (i + 1) all =
    drop_more all i line (omega (arith, c.loop-line-test.true)) ∙ ap (λ (l : Line). l ∷ drop (i + 1) all) (sym c.line-item.is) in
    read_more c.loop-line.stage line (drop (i + 1) all) all c.in-Some.next
    (subst (λ (lines : List Line). Reads c.loop-line.stage lines all) rest c.loop-line.invariant)
    (sym c.next_stage.ensures ∙ c.in-Some.is)
