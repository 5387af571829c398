use Rattle.std.proofs.Common.{◌≡◌, ℕ, List, vec_capacity, [], ◌∷◌, ◌++◌, reverse, subst, sym, ◌∙◌, ap, arith}
use Rattle.std.proofs.lemmas.List.{reverse-append}
use Rattle.message_resolution.specs.declared.node.message.Message.{Message}
use Rattle.message_resolution.specs.Members.Nodes.{Known, messages_of}
use Rattle.message_resolution.specs.Histories.Legal.{MayCome}
use Rattle.message_resolution.specs.inner.Runs.{RunView, HoldsRun}
use Rattle.message_resolution.proofs.Running.NodesFollow.{may_meet_at, next_room, next_holds}
use Rattle.message_resolution.proofs.world.run.Run.advance.Goals as goal

pub tell-sent-requires-clause-legal : goal.tell-sent-requires-clause-legal
tell-sent-requires-clause-legal c =
    let may = subst (λ (v : RunView). MayCome v.order v.count v.past c.args.event) (sym c.self.view_is) c.requires.legal in
    may_meet_at c.self.inside.graph c.is_sound.ensures.sound c.self.inside.count _ c.self.inside.messages.items
    c.self.inside.nodes.items _ c.self.invariant c.args.event may

pub append-requires : goal.append-requires
append-requires c =
    let may = subst (λ (v : RunView). MayCome v.order v.count v.past c.args.event) (sym c.self.view_is) c.requires.legal in
    let room =
    next_room c.self.inside.graph c.is_sound.ensures.sound c.self.inside.count _ c.self.inside.messages.items
    c.self.inside.nodes.items _ c.self.invariant c.args.event may c.tell-sent.new.nodes.items c.tell-sent.result
    c.tell-sent.ensures in
    omega arith

pub invariant_of-self : goal.invariant_of-self
invariant_of-self c =
    let run = c.self.inside in
    let may = subst (λ (v : RunView). MayCome v.order v.count v.past c.args.event) (sym c.self.view_is) c.requires.legal in
    let next =
    next_holds run.graph c.is_sound.ensures.sound run.count _ run.messages.items run.nodes.items _ c.self.invariant c.args.event may
    c.tell-sent.new.nodes.items c.tell-sent.result c.tell-sent.ensures in
    let past : reverse c.push_reserved.new.self.items ≡ c.args.event ∷ reverse run.events.items =
    ap reverse c.push_reserved.ensures.items ∙ reverse-append run.events.items (c.args.event ∷ []) in
    let new : List Known = c.tell-sent.new.nodes.items in
    let sent : List Message = run.messages.items ++ messages_of c.tell-sent.result in
    let room : ℕ = vec_capacity run.messages in
    let with_past : HoldsRun run.graph run.count (reverse c.push_reserved.new.self.items) sent new room =
    subst (λ es. HoldsRun run.graph run.count es sent new room) (sym past) next in
    let with_sent : HoldsRun run.graph run.count (reverse c.push_reserved.new.self.items) c.append.new.messages.items new room =
    subst (λ ms. HoldsRun run.graph run.count (reverse c.push_reserved.new.self.items) ms new room) (sym c.append.ensures.items)
    with_past in
    subst (λ (r : ℕ). HoldsRun run.graph run.count (reverse c.push_reserved.new.self.items) c.append.new.messages.items new r)
    (sym c.append.ensures.room) with_sent
