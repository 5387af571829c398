use Rattle.std.proofs.Common.{rules, ◌≡◌, ◌∙◌, ◌+◌, ◌++◌, ◌∷◌, [], false, length, sym, ap, subst}
use Rattle.std.proofs.lemmas.List.{length-append}
use Rattle.action_core.specs.declared.person.Person.{Person}
use Rattle.action_core.specs.inner.KeptPeople.{at, IsPersonOf}
use Rattle.action_core.proofs.Turning.{person_opened, people_opened}
use Rattle.action_core.proofs.people.People.open.Goals as goal

pub loop-by-preserved : goal.loop-by-preserved
loop-by-preserved c =
    let plan = c.args.plan.now in
    let items = c.loop-by.people.items in
    let n = c.loop-by.by in
    let new : Person = record { turn = c.turn_from.result; refused = false } in
    let pushed : c.push.new.self.items ≡ items ++ new ∷ [] = search rules in
    record {
      long = ap length pushed ∙ (length-append items (new ∷ []) ∙ ap (λ k. k + 1) c.loop-by.invariant.long);
      each = λ t l.
          subst (λ xs. IsPersonOf plan [] t (at xs t)) (sym pushed)
          (people_opened plan items n new c.loop-by.invariant.long c.loop-by.invariant.each
          (person_opened plan n c.turn_from.result c.turn_from.ensures) t l);
    }
