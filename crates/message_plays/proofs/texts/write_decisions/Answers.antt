use Rattle.std.proofs.Common.{ℕ}
use Rattle.message_plays.proofs.Playing.Lines.{own_of_plan, agreed_of_plan, decisions_more}
use Rattle.message_plays.proofs.texts.write_decisions.Goals as goal

pub loop-member-preserved : goal.loop-member-preserved
loop-member-preserved c =
    let plan = c.args.plan.now in
    let world = c.args.world.now in
    let m : ℕ = c.loop-member.member in
    let found = c.decided.result in
    decisions_more plan world.past c.args.text.now.items c.loop-member.text.items c.write_decision.new.text.items m found
    c.loop-member.invariant (own_of_plan plan world c.requires m found c.decided.ensures.decided)
    (agreed_of_plan plan world c.requires found c.decided.ensures.agreed) c.in_ok-write_decision.ensures
