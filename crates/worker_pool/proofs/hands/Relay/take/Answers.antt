use Rattle.std.proofs.Common.{◌<◌, sym, subst}
use Rattle.worker_pool.proofs.Keeping.{takes, knows}
use Rattle.worker_pool.proofs.Parts.{some_part}
use Rattle.worker_pool.specs.Relays.{IsOfTheirs}
use Rattle.worker_pool.proofs.hands.Relay.take.Goals as goal

pub pop_as-requires-clause-rule : goal.pop_as-requires-clause-rule
pop_as-requires-clause-rule g c =
    (takes _ _ (subst (λ n. 0 < n) (sym c.requires.hand.parts) (some_part _ _ c.args.self.now.few.1)), knows _ _)

pub returns-in-Some-clause-theirs : goal.returns-in-Some-clause-theirs
returns-in-Some-clause-theirs g c = subst (λ o. IsOfTheirs o c.in-Some.seat) c.requires.hand.opened c.in-Some.ensures.rule.theirs
