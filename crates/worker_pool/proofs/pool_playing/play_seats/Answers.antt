use Rattle.std.proofs.Common.{◌∙◌, ℕ, ap, arith, sym, subst, length, All, true≢false}
use Rattle.std.specs.List.{range_with_len, flat_map}
use Rattle.std.proofs.lemmas.List.{length-append}
use Rattle.std.proofs.lemmas.List.Elements.{All-append}
use Rattle.action_manager.specs.Managers.{IsSeatIn, plan_in, table_of, terms_in}
use Rattle.action_manager.specs.Seats.{participant_of, HaveAll}
use Rattle.role_driver.proofs.Complete.{order_counts, order_has_all}
use Rattle.worker_pool.specs.Hands.{number_of, opened_in, IsOpened}
use Rattle.worker_pool.specs.inner.Rooms.{IsRelayRoomFor}
use Rattle.worker_pool.proofs.AllThere.{all_there}
use Rattle.worker_pool.proofs.Pooled.{order_has_hands, long_flat, all_flat, beside_all, theirs_all, have_all_same, balance, counted}
use Rattle.worker_pool.proofs.pool_playing.play_seats.Goals as goal

pub open-relay-requires-clause-some : goal.open-relay-requires-clause-some
open-relay-requires-clause-some g c =
    let long = order_counts participant_of c.args.seats.items _ c.requires.order in
    omega (arith, long, c.requires.room.some)

pub open-relay-requires-clause-beside : goal.open-relay-requires-clause-beside
open-relay-requires-clause-beside g c =
    beside_all (table_of c.args.manager.now) (terms_in g.M.Machine.base_of c.args.manager.now) c.args.seats.items c.requires.seats

pub open-relay-requires-clause-room : goal.open-relay-requires-clause-room
open-relay-requires-clause-room g c =
    let long = order_counts participant_of c.args.seats.items _ c.requires.order in
    subst (λ n. IsRelayRoomFor n c.args.room.relay.count c.args.room.relay) (sym long) c.requires.room.relay

pub open-relay-requires-clause-few : goal.open-relay-requires-clause-few
open-relay-requires-clause-few g c = let few = c.requires.room.workers.1 in omega (arith, few)

pub work_in_threads-hands-requires-clause-relay : goal.work_in_threads-hands-requires-clause-relay
work_in_threads-hands-requires-clause-relay g c κs within =
    subst (All (λ s. IsSeatIn g.M.Machine.base_of c.args.manager.now s)) (sym c.open-relay.ensures.opened) c.requires.seats

pub work_in_threads-hands-requires-clause-workers : goal.work_in_threads-hands-requires-clause-workers
work_in_threads-hands-requires-clause-workers g c κs within =
    let long = order_counts participant_of c.args.seats.items _ c.requires.order in
    let opened = ap length c.open-relay.ensures.opened in
    let hands = order_counts number_of c.open-relay.result.hands.items _ c.open-relay.ensures.order in
    let room = c.requires.room in record {
      hands = c.open-relay.ensures.hands;
      kept = λ k d less. let one = room.kept k d less in (one.0, (let capacity = one.1 in omega (arith, capacity, opened, long)));
      many = room.many ∙ sym hands;
    }

pub work_in_threads-hands-requires-clause-members : goal.work_in_threads-hands-requires-clause-members
work_in_threads-hands-requires-clause-members g c κs within =
    let hands = order_counts number_of c.open-relay.result.hands.items _ c.open-relay.ensures.order in
    let room = c.requires.room.members in (room.0, room.1 ∙ sym hands)

pub work_in_threads-hands-requires-clause-flags : goal.work_in_threads-hands-requires-clause-flags
work_in_threads-hands-requires-clause-flags g c κs within =
    let hands = order_counts number_of c.open-relay.result.hands.items _ c.open-relay.ensures.order in
    ap length c.as_slice.ensures.value ∙ (c.requires.room.flags ∙ sym hands)

pub work_in_threads-hands-requires-clause-hands : goal.work_in_threads-hands-requires-clause-hands
work_in_threads-hands-requires-clause-hands g c κs within =
    let hands = order_counts number_of c.open-relay.result.hands.items _ c.open-relay.ensures.order in
    let room = c.requires.room.back_hands in (room.0, room.1 ∙ sym hands)

pub work_in_threads-hands-requires-clause-kept : goal.work_in_threads-hands-requires-clause-kept
work_in_threads-hands-requires-clause-kept g c κs within =
    let hands = order_counts number_of c.open-relay.result.hands.items _ c.open-relay.ensures.order in
    let room = c.requires.room.back_kept in (room.0, room.1 ∙ sym hands)

pub close-requires : goal.close-requires
close-requires g c = record { hands = c.work_in_threads-hands.ensures.back.hands }

pub unreachable-requires : goal.unreachable-requires
unreachable-requires g c =
    let missing = c.in-Err.ensures.missing in
    let order = c.work_in_threads-hands.ensures.order
    ∙ (c.open-relay.ensures.order ∙ ap (range_with_len 0) (sym c.open-relay.ensures.count)) in
    true≢false (sym (order_has_hands _ _ order _ missing.known) ∙ missing.out)

pub gather-seats-requires : goal.gather-seats-requires
gather-seats-requires g c =
    let back = c.work_in_threads-hands.ensures.back in
    let kept = c.work_in_threads-hands.result.kept.items in
    let once = λ (h : ℕ → ℕ). balance h c.open-relay.result.relay c.in-Ok.left.items c.work_in_threads-hands.result.hands.items
    kept (λ v. v.items) c.in-Ok.ensures.once back.held in
    let long = counted (opened_in c.open-relay.result.relay) c.in-Ok.left.items (flat_map (λ v. v.items) kept) once in
    let room = c.in-Ok.ensures.room in
    omega (arith, long, room, long_flat (λ v. v.items) kept)

pub drive_each-requires-clause-room : goal.drive_each-requires-clause-room
drive_each-requires-clause-room g c =
    let back = c.work_in_threads-hands.ensures.back in
    let kept = c.work_in_threads-hands.result.kept.items in
    let once = λ (h : ℕ → ℕ). balance h c.open-relay.result.relay c.in-Ok.left.items c.work_in_threads-hands.result.hands.items
    kept (λ v. v.items) c.in-Ok.ensures.once back.held in
    let many = counted (opened_in c.open-relay.result.relay) c.in-Ok.left.items (flat_map (λ v. v.items) kept) once in
    let long = order_counts participant_of c.args.seats.items _ c.requires.order in
    let opened = ap length c.open-relay.ensures.opened in
    let all = ap length c.gather-seats.ensures ∙ length-append c.in-Ok.left.items (flat_map (λ v. v.items) kept) in
    let room = c.requires.room.driven in
    (room.0, (let capacity = room.1 in omega (arith, capacity, all, many, opened, long)))

pub drive_each-requires-clause-opened : goal.drive_each-requires-clause-opened
drive_each-requires-clause-opened g c =
    let relay = c.open-relay.result.relay in
    let kept = c.work_in_threads-hands.result.kept.items in
    let all = All-append (λ s. IsOpened relay s) c.in-Ok.left.items (flat_map (λ v. v.items) kept) c.in-Ok.ensures.theirs
    (all_flat (λ v. v.items) (λ s. IsOpened relay s) kept c.work_in_threads-hands.ensures.back.kept) in
    let mine = subst (All (λ s. IsSeatIn g.M.Machine.base_of c.args.manager.now s)) (sym c.open-relay.ensures.opened) c.requires.seats in
    theirs_all (table_of c.args.manager.now) (terms_in g.M.Machine.base_of c.args.manager.now) (opened_in relay)
    c.gather-seats.result.items relay.some mine
    (subst (All (λ s. IsOpened relay s)) (sym c.gather-seats.ensures) all)

pub returns-clause-all : goal.returns-clause-all
returns-clause-all g c =
    let back = c.work_in_threads-hands.ensures.back in
    let kept = c.work_in_threads-hands.result.kept.items in
    let once = λ (h : ℕ → ℕ). balance h c.open-relay.result.relay c.in-Ok.left.items c.work_in_threads-hands.result.hands.items
    kept (λ v. v.items) c.in-Ok.ensures.once back.held in
    let n = length (plan_in c.args.manager.now).participants in
    let opened = subst (HaveAll n) (sym c.open-relay.ensures.opened) (order_has_all n c.args.seats.items c.requires.order) in
    let all = all_there n (opened_in c.open-relay.result.relay) c.in-Ok.left.items (flat_map (λ v. v.items) kept) opened once in
    have_all_same n c.gather-seats.result.items c.drive_each.result.items c.drive_each.ensures.same
    (subst (HaveAll n) (sym c.gather-seats.ensures) all)
