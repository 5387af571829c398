use Rattle.std.proofs.Common.{◌≡◌, Some, sym, arith}
use Rattle.std.proofs.lemmas.Grind.{common_steps}
use Rattle.message_plays.specs.Turns.{wish}
use Rattle.message_plays.proofs.Playing.Wishes.{wish_in}
use Rattle.message_plays.proofs.wishes.wish.Goals as goal

pub returns-in-Some-Raise-clause-in_range : goal.returns-in-Some-Raise-clause-in_range
returns-in-Some-Raise-clause-in_range c =
    let e = c.in-Some-Raise.exception in
    let wished : Some e ≡ wish c.args.plan.now c.args.member = grind (arith, common_steps) in
    wish_in c.args.plan.now c.is_closed.ensures c.args.member e (sym wished)
