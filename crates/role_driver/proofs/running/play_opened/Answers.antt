use Rattle.std.proofs.Common.{rules, ◌∙◌, length, sym, ap, subst}
use Rattle.std.proofs.lemmas.List.{length-map}
use Rattle.place_plan.specs.Plans.PlanValue.{Plan}
use Rattle.place_plan.specs.RulesOfJournals.WellFormed.{AllWellFormed}
use Rattle.journal_laws.specs.Laws.{Holds}
use Rattle.action_manager.specs.Managers.{handed_in, plan_in}
use Rattle.action_manager.specs.Seats.{participant_of}
use Rattle.role_driver.proofs.Complete.{order_counts, order_has_all}
use Rattle.role_driver.proofs.Served.{all_known}
use Rattle.role_driver.proofs.WatchTasks.{blanks_known, same_length, tasks_are}
use Rattle.role_driver.specs.Handling.{IsHanded}
use Rattle.role_driver.specs.Working.{IsTold}
use Rattle.role_driver.specs.declared.watch_room.Blank.{Blank}
use Rattle.role_driver.specs.inner.Watchers.{task_of}
use Rattle.role_driver.specs.inner.WatchRooms.{task_with, observer_of}
use Rattle.role_driver.proofs.running.play_opened.Goals as goal

pub watchers_for-requires-clause-objects : goal.watchers_for-requires-clause-objects
watchers_for-requires-clause-objects g c =
    let plan = plan_in c.args.opened.manager in
    let objects = length-map plan.objects (λ o. o.initial) in
    blanks_known plan c.requires.closed _ objects c.args.watch_room.blanks.items c.requires.watch_room.blanks

pub drive_in_threads-seats-requires-clause-room : goal.drive_in_threads-seats-requires-clause-room
drive_in_threads-seats-requires-clause-room g c =
    let long = order_counts participant_of c.args.opened.seats.items _ c.requires.order in
    search rules

pub drive_in_threads-seats-requires-clause-flags : goal.drive_in_threads-seats-requires-clause-flags
drive_in_threads-seats-requires-clause-flags g c =
    let long = order_counts participant_of c.args.opened.seats.items _ c.requires.order in
    search rules

pub drive_in_threads-seats-requires-clause-watch : goal.drive_in_threads-seats-requires-clause-watch
drive_in_threads-seats-requires-clause-watch g c κs within =
    let room = c.requires.watch_room in
    let blanks = c.args.watch_room.blanks.items in
    let many = same_length task_of (λ (b : Blank). task_with (observer_of c.args.opened.manager) b.object)
    c.watchers_for.result.items blanks c.watchers_for.ensures ∙ (sym (length-map blanks (λ b. b.object)) ∙ ap length room.blanks) in
    ((room.posts.0, room.posts.1 ∙ sym many), (room.back.0, room.back.1 ∙ sym many))

pub drive_in_threads-seats-requires-clause-over : goal.drive_in_threads-seats-requires-clause-over
drive_in_threads-seats-requires-clause-over g c κs within =
    let room = c.requires.watch_room in
    let blanks = c.args.watch_room.blanks.items in
    let many = same_length task_of (λ (b : Blank). task_with (observer_of c.args.opened.manager) b.object)
    c.watchers_for.result.items blanks c.watchers_for.ensures ∙ (sym (length-map blanks (λ b. b.object)) ∙ ap length room.blanks) in
    ap length c.as_slice-2.ensures.value ∙ room.over ∙ sym many

pub seens_of-seens-requires-clause-tasks : goal.seens_of-seens-requires-clause-tasks
seens_of-seens-requires-clause-tasks g c =
    let closed = c.close_done-machine.ensures in let writer = c.close_done-machine.result.writer in
    let watches = c.requires.watch_room.blanks ∙ ap (λ (p : Plan). p.watches) (sym closed.plan) in
    c.drive_in_threads-seats.ensures.tasks ∙ c.watchers_for.ensures
    ∙ tasks_are writer (observer_of c.args.opened.manager) closed.published.initials closed.book c.args.watch_room.blanks.items
    (g.M.Machine.plan_of c.close_done-machine.result.machine).watches watches

pub close_done-machine-requires-clause-all : goal.close_done-machine-requires-clause-all
close_done-machine-requires-clause-all g c =
    order_has_all (length (plan_in c.args.opened.manager).participants) c.drive_in_threads-seats.result.0.items
    (c.drive_in_threads-seats.ensures.order ∙ c.requires.order)

pub returns-clause-told : goal.returns-clause-told
returns-clause-told g c =
    let manager = c.args.opened.manager in
    let driven = c.drive_in_threads-seats.ensures in
    let closed = c.close_done-machine.ensures in
    let begun = g.M.Machine.journal_of (handed_in manager) in
    let new = g.M.Machine.journal_of c.close_done-machine.result.machine in
    let was_told = g.G.ToldGate.was_told c.args.gate.now in
    record {
      more = closed.begins.0;
      goes_on = closed.begins.1;
      each =
          all_known (IsTold was_told) begun new closed.begins.0 closed.begins.1 (plan_in manager)
          (subst (Holds AllWellFormed) (c.plan.ensures ∙ closed.plan) c.is_well_formed.ensures)
          c.drive_in_threads-seats.result.0.items closed.legal
          (λ k d low. (driven.served k d low).told) closed.accounts
          (order_has_all (length (plan_in manager).participants) c.drive_in_threads-seats.result.0.items
          (driven.order ∙ c.requires.order));
    }

pub returns-clause-handed : goal.returns-clause-handed
returns-clause-handed g c =
    let manager = c.args.opened.manager in
    let driven = c.drive_in_threads-seats.ensures in
    let closed = c.close_done-machine.ensures in
    let begun = g.M.Machine.journal_of (handed_in manager) in
    let new = g.M.Machine.journal_of c.close_done-machine.result.machine in
    let was_handed = g.G.ToldGate.was_handed c.args.gate.now in
    record {
      more = closed.begins.0;
      goes_on = closed.begins.1;
      each =
          all_known (λ before e. IsHanded was_handed e) begun new closed.begins.0 closed.begins.1 (plan_in manager)
          (subst (Holds AllWellFormed) (c.plan.ensures ∙ closed.plan) c.is_well_formed.ensures)
          c.drive_in_threads-seats.result.0.items closed.legal
          (λ k d low. (driven.served k d low).handed) closed.accounts
          (order_has_all (length (plan_in manager).participants) c.drive_in_threads-seats.result.0.items
          (driven.order ∙ c.requires.order));
    }
