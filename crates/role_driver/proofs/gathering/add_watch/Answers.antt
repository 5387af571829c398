use Rattle.std.proofs.Common.{◌≡◌, ◌∙◌, length, reverse, suc, ap, subst, sym, arith, filter, nat_lt}
use Rattle.std.proofs.lemmas.List.Elements.{All-weaker}
use Rattle.caa_base.specs.Written.Limits.{IsValue}
use Rattle.place_plan.specs.Plans.Closed.{IsClosed}
use Rattle.place_plan.specs.RulesOfJournals.Journals.{committed_value}
use Rattle.place_plan.specs.RulesOfJournals.WellFormed.{AllWellFormed}
use Rattle.journal_laws.specs.Laws.{Holds, CommitLaw}
use Rattle.journal_text.specs.Texts.Text.{watched_object}
use Rattle.journal_text.proofs.OnLooks.CommittedFits.{committed_fits}
use Rattle.shared_views.specs.declared.observed.Reading.{Reading}
use Rattle.action_manager.specs.PublishingLaw.{PublishingLaw}
use Rattle.role_driver.specs.inner.Watchers.{Task}
use Rattle.role_driver.specs.inner.Gathering.{with_last, AreRightSoFar}
use Rattle.role_driver.proofs.ReadingsKept.{are_good, row_fits}
use Rattle.role_driver.proofs.RightSoFar.{next_watch}
use Rattle.role_driver.proofs.gathering.add_watch.Goals as goal

pub add_looks-requires-clause-room : goal.add_looks-requires-clause-room
add_looks-requires-clause-room g c =
    let plan = g.M.Machine.plan_of c.args.machine.now in let past = reverse (g.M.Machine.journal_of c.args.machine.now) in
    let done = c.requires.published in let looked = c.last_look-last.ensures in
    let law = subst (Holds PublishingLaw) c.plan-3.ensures c.publishes_committed.ensures past done.legal in
    let commit = subst (Holds CommitLaw) c.plan-2.ensures c.ends_commit.ensures past done.legal in
    let task = looked.task ∙ c.requires.task in
    let good = are_good plan past c.args.writer.now done law commit c.last_look-last.new.self.observer
    (watched_object plan c.args.watch) c.args.watcher.now.object c.last_look-last.new.self.object c.seen.result.now
    c.last_look-last.result
    (ap (λ (t : Task). t.initials) task) (ap (λ (t : Task). t.object) c.requires.task) (ap (λ (t : Task). t.object) task)
    looked.known c.seen.ensures.right looked.last in
    omega (
      arith,
      good.few,
      c.requires.right.few,
      c.requires.room,
      row_fits c.args.watch (length plan.watches) (suc (length plan.plays)) c.requires.watch,
    )

pub add_looks-requires-clause-values : goal.add_looks-requires-clause-values
add_looks-requires-clause-values g c =
    let plan = g.M.Machine.plan_of c.args.machine.now in let past = reverse (g.M.Machine.journal_of c.args.machine.now) in
    let done = c.requires.published in let looked = c.last_look-last.ensures in
    let law = subst (Holds PublishingLaw) c.plan-3.ensures c.publishes_committed.ensures past done.legal in
    let commit = subst (Holds CommitLaw) c.plan-2.ensures c.ends_commit.ensures past done.legal in
    let task = looked.task ∙ c.requires.task in
    let o = watched_object plan c.args.watch in
    let good = are_good plan past c.args.writer.now done law commit c.last_look-last.new.self.observer o
    c.args.watcher.now.object c.last_look-last.new.self.object c.seen.result.now c.last_look-last.result
    (ap (λ (t : Task). t.initials) task) (ap (λ (t : Task). t.object) c.requires.task) (ap (λ (t : Task). t.object) task)
    looked.known c.seen.ensures.right looked.last in
    let formed = subst (Holds AllWellFormed) c.plan.ensures c.is_well_formed.ensures past done.legal in
    let fits = committed_fits plan (subst IsClosed c.plan-4.ensures c.is_closed.ensures) past formed in
    All-weaker (λ r. r.value ≡ committed_value plan past r.ends o) (λ r. IsValue r.value)
    (λ (r : Reading) e. subst IsValue (sym e) (fits r.ends o)) (with_last c.seen.result.now c.last_look-last.result) good.committed

pub returns-clause-right : goal.returns-clause-right
returns-clause-right g c =
    let plan = g.M.Machine.plan_of c.args.machine.now in let past = reverse (g.M.Machine.journal_of c.args.machine.now) in
    let done = c.requires.published in let looked = c.last_look-last.ensures in
    let law = subst (Holds PublishingLaw) c.plan-3.ensures c.publishes_committed.ensures past done.legal in
    let commit = subst (Holds CommitLaw) c.plan-2.ensures c.ends_commit.ensures past done.legal in
    let task = looked.task ∙ c.requires.task in
    let seen = c.seen.result.now in let last = c.last_look-last.result in
    let good = are_good plan past c.args.writer.now done law commit c.last_look-last.new.self.observer
    (watched_object plan c.args.watch) c.args.watcher.now.object c.last_look-last.new.self.object seen last
    (ap (λ (t : Task). t.initials) task) (ap (λ (t : Task). t.object) c.requires.task) (ap (λ (t : Task). t.object) task)
    looked.known c.seen.ensures.right looked.last in
    subst (AreRightSoFar plan past (suc c.args.watch)) (sym c.add_looks.ensures.looks)
    (next_watch plan past c.args.watch c.args.seens.now.seens (filter (λ r. nat_lt r.ends last.ends) seen) last c.requires.right
    good.committed good.rise good.end good.few)
