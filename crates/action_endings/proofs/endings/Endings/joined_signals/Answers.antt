use Rattle.std.proofs.Common.{◌≡◌, ◌∙◌, ◌+◌, ◌-◌, ◌<◌, true, ◌∷◌, Some, length, drop, get_or, ap, sym, subst, arith}
use Rattle.std.specs.List.{All}
use Rattle.std.proofs.lemmas.List.{drop_all, drop_more}
use Rattle.cover_table.specs.Cover.{CoverOrder, IsLeastCover, IsSound}
use Rattle.core_words.specs.Joining.{as_list, IsCoverOf}
use Rattle.caa_base.specs.Written.Lists.{member}
use Rattle.place_plan.specs.Plans.Places.{roles_of, interface_of}
use Rattle.place_plan.proofs.OnPlans.Casts.{member_at}
use Rattle.action_endings.specs.inner.KeptEndings.{at}
use Rattle.action_endings.specs.inner.ChangedEndings.{signals_kept}
use Rattle.action_endings.proofs.Concluding.{signal_with, signal_without, signal_known, fit_after, cover_known}
use Rattle.action_endings.proofs.endings.Endings.joined_signals.Goals as goal

pub signalled_by-requires : goal.signalled_by-requires
signalled_by-requires c =
    let roles = c.roles_of-roles.result.now in
    let i = c.loop-index.index - 1 in
    subst (λ rs. member (get_or roles i 0) rs ≡ true) c.roles_of-roles.ensures (member_at roles i 0 (omega arith))

pub joined-requires-clause-known : goal.joined-requires-clause-known
joined-requires-clause-known c =
    let plan = c.args.plan.now in
    let p = c.args.place in
    let row = at c.args.self.now p in
    let order = interface_of plan p in
    let roles = c.roles_of-roles.result.now in
    let i = c.loop-index.index - 1 in
    let t = get_or roles i 0 in
    let next : i + 1 ≡ c.loop-index.index = omega arith in
    let front : drop i roles ≡ t ∷ drop c.loop-index.index roles = drop_more roles i 0 (omega arith) ∙ ap (λ j. t ∷ drop j roles) next in
    let all : All (λ x. x < order.count) (signals_kept plan p row roles) =
    subst (λ ts. All (λ x. x < order.count) (signals_kept plan p row ts)) (sym c.roles_of-roles.ensures) c.requires in
    let fit : All (λ x. x < order.count) (signals_kept plan p row (t ∷ drop c.loop-index.index roles)) =
    subst (λ ts. All (λ x. x < order.count) (signals_kept plan p row ts)) front
    (fit_after (λ x. x < order.count) plan p row i roles all) in
    subst (λ (o : CoverOrder). c.in-Some.exception < o.count) (sym c.interface-graph.ensures)
    (signal_known order plan p t c.in-Some.exception (drop c.loop-index.index roles) row c.in-Some.ensures fit)

pub joined-requires-clause-covered : goal.joined-requires-clause-covered
joined-requires-clause-covered c =
    let plan = c.args.plan.now in
    let p = c.args.place in
    let signalled = signals_kept plan p (at c.args.self.now p) (drop c.loop-index.index c.roles_of-roles.result.now) in
    cover_known c.interface-graph.result.now signalled c.loop-index.cover
    (subst (λ (o : CoverOrder). IsCoverOf o signalled c.loop-index.cover) (sym c.interface-graph.ensures) c.loop-index.invariant)

pub loop-index-preserved-in-Some : goal.loop-index-preserved-in-Some
loop-index-preserved-in-Some c =
    let plan = c.args.plan.now in
    let p = c.args.place in
    let row = at c.args.self.now p in
    let order = interface_of plan p in
    let roles = c.roles_of-roles.result.now in
    let i = c.loop-index.index - 1 in
    let t = get_or roles i 0 in
    let next : i + 1 ≡ c.loop-index.index = omega arith in
    let front : drop i roles ≡ t ∷ drop c.loop-index.index roles = drop_more roles i 0 (omega arith) ∙ ap (λ j. t ∷ drop j roles) next in
    let all : All (λ x. x < order.count) (signals_kept plan p row roles) =
    subst (λ ts. All (λ x. x < order.count) (signals_kept plan p row ts)) (sym c.roles_of-roles.ensures) c.requires in
    subst (λ ts. IsCoverOf order (signals_kept plan p row ts) (Some c.joined.result)) (sym front)
    (signal_with order (subst IsSound c.interface-graph.ensures c.is_sound.ensures.sound) plan p t c.in-Some.exception c.joined.result
    (drop c.loop-index.index roles) row c.loop-index.cover (sym c.in-Some.ensures)
    (fit_after (λ x. x < order.count) plan p row c.loop-index.index roles all) c.loop-index.invariant
    (subst (λ (o : CoverOrder). IsLeastCover o (c.in-Some.exception ∷ as_list c.loop-index.cover) c.joined.result)
    c.interface-graph.ensures c.joined.ensures))

pub loop-index-init : goal.loop-index-init
loop-index-init c =
    let row = at c.args.self.now c.args.place in
    let roles = c.roles_of-roles.result.now in
    ap (signals_kept c.args.plan.now c.args.place row) (drop_all (length roles) roles (omega arith))

pub loop-index-preserved : goal.loop-index-preserved
loop-index-preserved c =
    let plan = c.args.plan.now in
    let p = c.args.place in
    let row = at c.args.self.now p in
    let order = interface_of plan p in
    let roles = c.roles_of-roles.result.now in
    let i = c.loop-index.index - 1 in
    let t = get_or roles i 0 in
    let next : i + 1 ≡ c.loop-index.index = omega arith in
    let front : drop i roles ≡ t ∷ drop c.loop-index.index roles = drop_more roles i 0 (omega arith) ∙ ap (λ j. t ∷ drop j roles) next in
    subst (λ ts. IsCoverOf order (signals_kept plan p row ts) c.loop-index.cover) (sym front)
    (signal_without order plan p t (drop c.loop-index.index roles) row c.loop-index.cover c.in_default.ensures c.loop-index.invariant)

pub returns : goal.returns
returns c =
    let plan = c.args.plan.now in
    let p = c.args.place in
    let roles = c.roles_of-roles.result.now in
    let none : c.loop-index.index ≡ 0 = omega arith in
    let all : drop c.loop-index.index roles ≡ roles_of plan p = ap (λ j. drop j roles) none ∙ c.roles_of-roles.ensures in
    subst (λ ts. IsCoverOf (interface_of plan p) (signals_kept plan p (at c.args.self.now p) ts) c.loop-index.cover) all
    c.loop-index.invariant
