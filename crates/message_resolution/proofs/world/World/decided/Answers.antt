use Rattle.std.proofs.Common.{Option, ℕ, subst, sym}
use Rattle.std.specs.Prelude.{IfSome}
use Rattle.message_resolution.specs.Histories.Agreement.{IsAgreedForGood}
use Rattle.message_resolution.specs.Histories.Worlds.{WorldView}
use Rattle.message_resolution.specs.Histories.Courses.{course_of}
use Rattle.message_resolution.specs.Members.Answers.{decisions}
use Rattle.message_resolution.specs.Members.Nodes.{IsOneOf}
use Rattle.message_resolution.proofs.Running.Worlds.{node_decided, one_agreed}
use Rattle.message_resolution.proofs.world.World.decided.Goals as goal

pub returns-clause-agreed : goal.returns-clause-agreed
returns-clause-agreed c =
    let run = c.self.inside.run in
    let by : ℕ = c.args.by in
    let one : IsOneOf (decisions run.order run.count by ((course_of run.order run.count run.past).local by)) c.decided.result =
    subst (λ (o : Option ℕ). IsOneOf (decisions run.order run.count by ((course_of run.order run.count run.past).local by)) o)
    (sym c.decided.ensures) (node_decided run.order run.count run.past by c.node.result.now c.node.ensures) in
    subst (λ (v : WorldView). IfSome c.decided.result (IsAgreedForGood v.order v.count v.past)) c.self.view_is
    (one_agreed run.order run.count run.past by c.decided.result c.is_sound.ensures.sound one)
