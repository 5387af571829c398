use Rattle.std.proofs.Common.{◌<◌, sym, subst}
use Rattle.worker_pool.proofs.Keeping.{puts, short}
use Rattle.worker_pool.proofs.Parts.{some_part}
use Rattle.action_manager.specs.Seats.{participant_of}
use Rattle.worker_pool.specs.Relays.{IsOfTheirs}
use Rattle.worker_pool.proofs.hands.Relay.put.Goals as goal

pub push_as-requires-clause-rule : goal.push_as-requires-clause-rule
push_as-requires-clause-rule g c =
    let some = subst (λ n. 0 < n) (sym c.requires.hand.parts) (some_part _ _ c.args.self.now.few.1) in (
      puts _ _ _ _ some c.requires.holds (subst (λ o. IsOfTheirs o c.args.seat) (sym c.requires.hand.opened) c.requires.opened),
      short _ _ (participant_of c.args.seat) some c.requires.holds,
    )
