use Rattle.std.proofs.Common.{◌≡◌, ◌≢◌, List, [], subst, arith}
use Rattle.message_resolution.specs.declared.world.event.Event.{Event}
use Rattle.message_resolution.specs.Histories.Courses.{all_raised}
use Rattle.message_resolution.specs.Histories.Settling.{AllHaveDecided, IsSettled, Settles, settled}
use Rattle.message_resolution.specs.Histories.Worlds.{WorldView}
use Rattle.message_resolution.proofs.Coming.Settled.{settles_decide, settles_none}
use Rattle.message_resolution.proofs.Running.Worlds.{settled_world}
use Rattle.message_resolution.proofs.world.World.settle.Goals as goal

pub invariant_of-self : goal.invariant_of-self
invariant_of-self c =
    let within = c.if-len-self.true in
    let is = c.len.ensures in
    let done = c.settle.ensures in
    settled_world c.self.inside.run c.settle.new.self c.self.inside.room c.self.invariant (omega arith) done.order done.count done.room
    done.long done.settles

pub returns-then-len-self-clause-decided : goal.returns-then-len-self-clause-decided
returns-then-len-self-clause-decided c =
    let run = c.self.inside.run in
    let new : List Event = c.settle.new.self.past in
    subst (λ (v : WorldView). all_raised v.past ≢ [] → AllHaveDecided v.order v.count new) c.self.view_is
    (λ some. settles_decide run.order run.count c.is_sound.ensures.sound c.is_sound.ensures.legal c.settle.ensures.settles some)

pub returns-then-len-self-clause-unchanged : goal.returns-then-len-self-clause-unchanged
returns-then-len-self-clause-unchanged c =
    let run = c.self.inside.run in
    let new : List Event = c.settle.new.self.past in
    subst (λ (v : WorldView). all_raised v.past ≡ [] → new ≡ v.past) c.self.view_is
    (λ none. settles_none run.order run.count c.is_sound.ensures.sound c.is_sound.ensures.legal c.settle.ensures.settles none)

pub returns-else-len-self-clause-settles : goal.returns-else-len-self-clause-settles
returns-else-len-self-clause-settles c =
    let run = c.self.inside.run in
    let over = c.if-len-self.false in
    let is = c.len.ensures in
    let held = c.self.invariant in
    let calm : IsSettled run.order run.count run.past = held.beyond (omega arith) in
    subst (λ (v : WorldView). Settles v.order v.count v.past v.past) c.self.view_is (settled calm)

pub returns-else-len-self-clause-decided : goal.returns-else-len-self-clause-decided
returns-else-len-self-clause-decided c =
    let run = c.self.inside.run in
    let over = c.if-len-self.false in
    let is = c.len.ensures in
    let held = c.self.invariant in
    let calm : IsSettled run.order run.count run.past = held.beyond (omega arith) in
    subst (λ (v : WorldView). all_raised v.past ≢ [] → AllHaveDecided v.order v.count v.past) c.self.view_is
    (λ some. settles_decide run.order run.count c.is_sound.ensures.sound c.is_sound.ensures.legal (settled calm) some)
