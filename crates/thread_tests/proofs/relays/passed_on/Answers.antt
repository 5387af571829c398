use Rattle.std.proofs.Common.{◌≡◌, [], ◌∷◌, All, IfOk, arith, sym, subst}
use Rattle.std.proofs.lemmas.List.Elements.{All-push}
use Rattle.worker_pool.specs.Relays.{IsOfTheirs}
use Rattle.thread_tests.proofs.relays.passed_on.Goals as goal

pub returns-clause-theirs : goal.returns-clause-theirs
returns-clause-theirs g c =
    let first = c.takes_and_puts-first.result.0 in
    let again = c.takes_and_puts-first.result.1 in
    let both = subst (λ o. IsOfTheirs o first × IsOfTheirs o again) c.relayed-relay.ensures.opened c.takes_and_puts-first.ensures.opened in
    let items = subst (λ r. IfOk r (λ v. v.items ≡ first ∷ again ∷ [])) c.expect.ensures c.vec-2.ensures.items in
    subst (All (λ s. IsOfTheirs c.args.seats.items s)) (sym items)
    (All-push (λ s. IsOfTheirs c.args.seats.items s) (first ∷ []) again
    (All-push (λ s. IsOfTheirs c.args.seats.items s) [] first (λ k d less. absurd (omega (arith, less))) both.0) both.1)
