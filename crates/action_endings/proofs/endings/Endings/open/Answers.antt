use Rattle.std.proofs.Common.{rules, ◌≡◌, ◌∙◌, ℕ, List, ◌+◌, ◌++◌, ◌∷◌, [], ◌<◌, ◌≤◌, length, sym, ap, subst, arith}
use Rattle.std.proofs.lemmas.List.{length-append}
use Rattle.caa_base.specs.Written.Limits.{most_objects}
use Rattle.action_endings.specs.inner.KeptEndings.{at, unsaid}
use Rattle.action_endings.proofs.PlanNumbers.{objects_few}
use Rattle.action_endings.proofs.Opened.{opened, opened_more, all_opened}
use Rattle.action_endings.proofs.endings.Endings.open.Goals as goal

pub unsaid-requires : goal.unsaid-requires
unsaid-requires c =
    subst (λ (xs : List ℕ). length xs ≤ most_objects) (sym c.objects_of.ensures)
    (objects_few c.args.plan.now c.is_closed.ensures c.loop-place.place)

pub loop-place-preserved : goal.loop-place-preserved
loop-place-preserved c =
    let plan = c.args.plan.now in
    let items = c.loop-place.places.items in
    let n = c.loop-place.place in
    let new = c.unsaid.result in
    let pushed : c.push.new.self.items ≡ items ++ new ∷ [] = search rules in
    let is : new ≡ opened plan n = c.unsaid.ensures ∙ ap (λ (xs : List ℕ). unsaid (length xs)) c.objects_of.ensures in
    record {
      long = ap length pushed ∙ (length-append items (new ∷ []) ∙ ap (λ k. k + 1) c.loop-place.invariant.long);
      each = λ p l.
          subst (λ xs. at xs p ≡ opened plan p) (sym pushed)
          (opened_more plan items n new c.loop-place.invariant.long c.loop-place.invariant.each is p l);
    }

pub returns : goal.returns
returns c =
    let plan = c.args.plan.now in
    let all : c.loop-place.place ≡ length plan.places = omega arith in
    all_opened plan c.loop-place.places.items (c.loop-place.invariant.long ∙ all)
    (λ p l. c.loop-place.invariant.each p (subst (λ n. p < n) (sym all) l))
