use Rattle.std.proofs.Common.{◌≡◌, arith, length, subst}
use Rattle.action_manager.specs.Managers.{plan_in}
use Rattle.action_manager.specs.Seats.{participant_of}
use Rattle.role_driver.proofs.Complete.{order_counts}
use Rattle.worker_pool.specs.inner.Rooms.{IsRoomForAny}
use Rattle.worker_pool.proofs.pool_playing.play_any.Goals as goal

pub play_seats-requires-clause-room : goal.play_seats-requires-clause-room
play_seats-requires-clause-room g c κs within =
    subst (IsRoomForAny (length (plan_in c.args.manager.now).participants)) c.in-Some.is c.requires.room

pub returns-in-None-clause-done : goal.returns-in-None-clause-done
returns-in-None-clause-done g c k d less =
    let n = length (plan_in c.args.manager.now).participants in
    let long = order_counts participant_of c.args.seats.items n c.requires.order in
    let none : n ≡ 0 = subst (IsRoomForAny n) c.in-None.is c.requires.room in
    absurd (omega (arith, less, long, none))

pub returns-in-None-clause-all : goal.returns-in-None-clause-all
returns-in-None-clause-all g c t low =
    let n = length (plan_in c.args.manager.now).participants in
    let none : n ≡ 0 = subst (IsRoomForAny n) c.in-None.is c.requires.room in
    absurd (omega (arith, low, none))
