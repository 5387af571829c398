use Rattle.std.proofs.Common.{◌∙◌, ap}
use Rattle.std.proofs.Math.Seq.{map-set_same}
use Rattle.std.proofs.lemmas.List.Elements.{All-set}
use Rattle.worker_pool.specs.inner.Workers.{IsMember, number_by}
use Rattle.worker_pool.proofs.worker_crew.work_handed_back.Goals as goal

pub loop-index-preserved : goal.loop-index-preserved
loop-index-preserved g c =
    let inv = c.loop-index.invariant in
    let relay = c.args.relay.now in
    let now = c.work_here.new.member in let was = c.index_mut.result.now in
    record {
      long = inv.long;
      members = All-set (λ r. IsMember relay (λ h. h.promise.relay.value) r) c.loop-index.members.items c.loop-index.index
          now c.work_here.ensures.member inv.members;
      order = map-set_same (λ r. number_by (λ h. h.promise.number) r) c.loop-index.members.items c.loop-index.index now
          was (c.work_here.ensures.same ∙ ap (number_by (λ h. h.promise.number)) c.index_mut.ensures.value) ∙ inv.order;
    }
