use Rattle.std.proofs.Common.{rules, ◌≡◌, ◌∙◌, sym, Some, subst, IsSome}
use mathlib.Core.Option.{some-injective}
use mathlib.Core.List.{IsPrefix}
use Rattle.action_manager.proofs.LockSteps.{closes_empty}
use Rattle.action_manager.proofs.lock.Lock.close.Goals as goal

pub unwrap-requires : goal.unwrap-requires
unwrap-requires g c =
    let key = c.args.self.table.shared.key in let home = g.H.Home in
    let r =
    closes_empty (home.terms key.plan.value key.home.value)
    (home.journal key.home.value) home.right home.journal _ _ c.requires.none c.close-closed.ensures.values.2 in
    let is : Some r.machine ≡ c.take-back.result =
    some-injective (Some r.machine) c.take-back.result (sym r.lies ∙ c.take-back.ensures.value) in
    subst IsSome is (search rules)

pub returns : goal.returns
returns g c =
    let key = c.args.self.table.shared.key in let home = g.H.Home in
    let r =
    closes_empty (home.terms key.plan.value key.home.value)
    (home.journal key.home.value) home.right home.journal _ _ c.requires.none c.close-closed.ensures.values.2 in
    let is : Some r.machine ≡ c.take-back.result =
    some-injective (Some r.machine) c.take-back.result (sym r.lies ∙ c.take-back.ensures.value) in
    let same : r.machine ≡ c.unwrap.result = search rules in
    record {
      right = subst (λ x. home.right (home.terms key.plan.value key.home.value) x) same r.right;
      begins = subst (λ x. IsPrefix (home.journal key.home.value) (home.journal x)) same r.begins;
    }
