use Rattle.std.proofs.Common.{refl, inr}
use Rattle.action_manager.specs.Seats.{participant_of, seen_by}
use Rattle.role_driver.specs.Handling.{IsHandedOf}
use Rattle.role_driver.specs.Working.{IsToldOf}
use Rattle.role_driver.proofs.HandedBack.{driven_back}
use Rattle.role_driver.proofs.Told.{goes_nowhere}
use Rattle.role_driver.proofs.seat_crew.drive_unless.Goals as goal

pub returns-then-is_raised-clause-back : goal.returns-then-is_raised-clause-back
returns-then-is_raised-clause-back g c = inr (refl, c.is_raised.ensures c.if-is_raised.true)

pub returns-then-is_raised-clause-told : goal.returns-then-is_raised-clause-told
returns-then-is_raised-clause-told g c =
    let seen = seen_by c.args.seat in
    goes_nowhere (IsToldOf (g.G.ToldGate.was_told c.args.gate.now) (participant_of c.args.seat)) seen seen refl

pub returns-then-is_raised-clause-handed : goal.returns-then-is_raised-clause-handed
returns-then-is_raised-clause-handed g c =
    let seen = seen_by c.args.seat in
    goes_nowhere (IsHandedOf (g.G.ToldGate.was_handed c.args.gate.now) (participant_of c.args.seat)) seen seen refl

pub returns-else-is_raised-clause-back : goal.returns-else-is_raised-clause-back
returns-else-is_raised-clause-back g c =
    driven_back g.M.Machine.base_of c.args.manager.now c.args.seat c.drive.result (g.F.Flag.was_raised c.args.handed_back.now)
    c.requires.opened c.drive.ensures.over
