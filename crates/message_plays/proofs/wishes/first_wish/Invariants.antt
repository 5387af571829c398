use Rattle.std.proofs.Common.{◌≡◌, ◌-◌}
use Rattle.message_plays.specs.Turns.{members, first_wish}
use Rattle.message_plays.proofs.wishes.first_wish.Given as goal

abbrev pub invariant-loop-member : goal.invariant-loop-member
invariant-loop-member l = first_wish l.plan l.member (members l.plan - l.member) ≡ first_wish l.plan 0 (members l.plan)
