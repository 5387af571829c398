use Rattle.std.proofs.lemmas.List.Elements.{All-push}
use Rattle.journal_states.specs.Past.{plan_in, past_in}
use Rattle.journal_page.specs.Stances.{IsStance}
use Rattle.journal_page.proofs.turns.push_unless.Goals as goal

pub returns-in_ok-push-in-Some-clause-right : goal.returns-in_ok-push-in-Some-clause-right
returns-in_ok-push-in-Some-clause-right g c =
    let right = IsStance (g.L.Lines.line_at c.args.lines.now) (plan_in c.args.states.now) (past_in c.args.states.now) in
    rw c.in_ok-push-in-Some.ensures.items
    (All-push right c.args.stances.now.items c.in-Some.stance c.requires.right (rw c.in-Some.is at c.in_ok-stance.ensures.right))
