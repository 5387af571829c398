use Rattle.std.proofs.Common.{◌≡◌, ◌∙◌, length, reverse, ap, subst, sym, arith}
use Rattle.std.proofs.Math.Seq.{map-set_same}
use Rattle.place_plan.specs.Plans.PlanValue.{Plan}
use Rattle.journal_text.specs.Texts.Text.{watched_object}
use Rattle.role_driver.specs.inner.Watchers.{task_of}
use Rattle.role_driver.specs.inner.Gathering.{task_by, AreRightSoFar}
use Rattle.role_driver.proofs.ReadingsKept.{task_among}
use Rattle.role_driver.proofs.RightSoFar.{all_right}
use Rattle.role_driver.proofs.gathering.gather.Goals as goal

pub add_watch-requires-clause-task : goal.add_watch-requires-clause-task
add_watch-requires-clause-task g c =
    let plan = g.M.Machine.plan_of c.args.machine.now in let inv = c.loop-watch.invariant in
    let count = c.watches-watch-end.ensures ∙ ap (λ (p : Plan). length p.watches) c.plan.ensures in
    task_among c.loop-watch.watchers.items (task_by c.args.writer.now) plan.watches c.loop-watch.watch c.index_mut.result.now
    inv.tasks (omega (arith, c.loop-watch-test.true, count)) c.index_mut.ensures.value
    ∙ ap (λ w. task_by w (watched_object plan c.loop-watch.watch)) (sym inv.writer)

pub loop-watch-preserved : goal.loop-watch-preserved
loop-watch-preserved g c =
    let plan = g.M.Machine.plan_of c.args.machine.now in let past = reverse (g.M.Machine.journal_of c.args.machine.now) in
    let inv = c.loop-watch.invariant in let added = c.add_watch.ensures in
    record {
      writer = added.writer ∙ inv.writer;
      tasks = map-set_same task_of c.loop-watch.watchers.items c.loop-watch.watch c.add_watch.new.watcher c.index_mut.result.now
          (added.task ∙ ap task_of c.index_mut.ensures.value) ∙ inv.tasks;
      right = subst (λ n. AreRightSoFar plan past n c.add_watch.new.seens.seens) (omega arith) added.right;
      room = added.room ∙ inv.room;
    }

pub returns-clause-right : goal.returns-clause-right
returns-clause-right g c =
    let plan = g.M.Machine.plan_of c.args.machine.now in let past = reverse (g.M.Machine.journal_of c.args.machine.now) in
    let count = c.watches-watch-end.ensures ∙ ap (λ (p : Plan). length p.watches) c.plan.ensures in
    let all : c.loop-watch.watch ≡ length plan.watches = omega (arith, c.loop-watch.auto.watch-end, c.loop-watch-test.false, count) in
    all_right plan past c.loop-watch.seens.seens
    (subst (λ n. AreRightSoFar plan past n c.loop-watch.seens.seens) all c.loop-watch.invariant.right)
