use Rattle.std.proofs.Common.{◌≡◌, reverse, true, false, subst, sym, ◌∙◌}
use Rattle.std.proofs.lemmas.Bool.{not_from_true, not_from_false}
use Rattle.message_resolution.specs.declared.world.event.Event.{Event}
use Rattle.message_resolution.specs.declared.world.event.Event.TheVariants.{Raise}
use Rattle.message_resolution.specs.Histories.Courses.{course_of}
use Rattle.message_resolution.specs.Histories.Legal.{IsInRange, is_legal_event}
use Rattle.message_resolution.specs.inner.Runs.{RunView}
use Rattle.message_resolution.proofs.Running.NodesFollow.{node_at, normal_silent, other_spoken}
use Rattle.message_resolution.proofs.world.run.Run.is_legal.Goals as goal

pub returns-in-Normal : goal.returns-in-Normal
returns-in-Normal c =
    let run = c.self.inside in
    let by = c.in-Raise.by in
    let by_in =
    subst (λ (v : RunView). IsInRange v.order v.count (Raise by c.in-Raise.exception)) (sym c.self.view_is)
    (subst (λ (e : Event). IsInRange c.args.self.now.order c.args.self.now.count e) c.in-Raise.is c.requires.in_range) in
    let at =
    node_at run.graph run.count _ run.messages.items run.nodes.items _ c.self.invariant by c.index.result.now by_in.0 c.index.ensures in
    let silent = normal_silent run.graph run.count _ by c.index.result.now at (sym c.state.ensures ∙ c.in-Normal.is) in
    subst (λ (v : RunView). true ≡ is_legal_event (course_of v.order v.count v.past) c.args.event) c.self.view_is
    (subst (λ (e : Event). true ≡ is_legal_event (course_of run.graph run.count (reverse run.events.items)) e)
    (sym c.in-Raise.is) (sym (not_from_false _ silent)))

pub returns-in_default : goal.returns-in_default
returns-in_default c =
    let run = c.self.inside in
    let by = c.in-Raise.by in
    let by_in =
    subst (λ (v : RunView). IsInRange v.order v.count (Raise by c.in-Raise.exception)) (sym c.self.view_is)
    (subst (λ (e : Event). IsInRange c.args.self.now.order c.args.self.now.count e) c.in-Raise.is c.requires.in_range) in
    let at =
    node_at run.graph run.count _ run.messages.items run.nodes.items _ c.self.invariant by c.index.result.now by_in.0 c.index.ensures in
    let spoken = other_spoken run.graph run.count _ by c.index.result.now at (λ is. c.in_default.not-Normal (c.state.ensures ∙ is)) in
    subst (λ (v : RunView). false ≡ is_legal_event (course_of v.order v.count v.past) c.args.event) c.self.view_is
    (subst (λ (e : Event). false ≡ is_legal_event (course_of run.graph run.count (reverse run.events.items)) e)
    (sym c.in-Raise.is) (sym (not_from_true _ spoken)))
