use Rattle.std.proofs.Common.{◌≡◌, true, ◌∙◌, sym, subst}
use Rattle.role_driver.specs.inner.Records.{is_record}
use Rattle.role_driver.proofs.ReadingsKept.{record_stays}
use Rattle.role_driver.proofs.watcher.Watcher.last_look.Goals as goal

pub invariant_of-self-clause-right : goal.invariant_of-self-clause-right
invariant_of-self-clause-right c =
    let old = c.args.self.now in let new = c.read.new.self in
    let told = record_stays old.observer.initials old.observer.known c.learn.new.self.known old.object old.seen.items
    c.learn.ensures.known old.right in
    let read = record_stays old.observer.initials c.learn.new.self.known new.known old.object old.seen.items c.read.ensures.known told in
    subst (λ i. is_record i new.known old.object old.seen.items ≡ true) (sym (c.read.ensures.initials ∙ c.learn.ensures.initials)) read
