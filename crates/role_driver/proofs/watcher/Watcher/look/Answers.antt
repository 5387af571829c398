use Rattle.std.proofs.Common.{◌≡◌, true, [], ◌∷◌, ◌++◌, ◌∙◌, sym, subst}
use Rattle.shared_views.specs.Committing.{IsReading}
use Rattle.role_driver.specs.inner.Records.{is_record, is_news}
use Rattle.role_driver.proofs.ReadingsKept.{record_stays, record_more}
use Rattle.role_driver.proofs.watcher.Watcher.look.Goals as goal

pub invariant_of-self-clause-right : goal.invariant_of-self-clause-right
invariant_of-self-clause-right c =
    let old = c.args.self.now in let new = c.read.new.self in
    let read = subst (λ i. IsReading i new.known old.object c.in-Ok.reading) c.read.ensures.initials c.in-Ok.ensures.read in
    let news = subst (λ rs. is_news rs c.in-Ok.reading ≡ true) c.as_slice.ensures.value (sym c.is_news.ensures ∙ c.if-is_news.true) in
    let more = record_more old.observer.initials old.observer.known new.known old.object old.seen.items c.in-Ok.reading
    c.read.ensures.known old.right read news in
    subst (λ rs. is_record new.initials new.known old.object rs ≡ true) (sym c.push_reserved.ensures.items)
    (subst (λ i. is_record i new.known old.object (old.seen.items ++ c.in-Ok.reading ∷ []) ≡ true) (sym c.read.ensures.initials) more)

pub invariant_of-self-else-len-capacity-clause-right : goal.invariant_of-self-else-len-capacity-clause-right
invariant_of-self-else-len-capacity-clause-right c =
    let old = c.args.self.now in let new = c.read.new.self in
    subst (λ i. is_record i new.known old.object old.seen.items ≡ true) (sym c.read.ensures.initials)
    (record_stays old.observer.initials old.observer.known new.known old.object old.seen.items c.read.ensures.known old.right)
