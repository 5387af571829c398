use Rattle.std.proofs.Common.{◌∙◌, ap}
use Rattle.shared_views.specs.Committing.{Watching, placeless, watching}
use Rattle.shared_views.proofs.AllAlike.{last_alike}
use Rattle.thread_tests.proofs.views.opened.Goals as goal

pub returns-clause-writer : goal.returns-clause-writer
returns-clause-writer g c = c.in_ok-writer.ensures.initials

pub returns-clause-observer : goal.returns-clause-observer
returns-clause-observer g c =
    let alike = last_alike placeless 0 (watching c.in_ok-writer.writer) c.in_ok-writer.observers.items c.pop.new.self.items
    c.in-Some.observer c.pop.result c.in_ok-writer.ensures.observers c.pop.ensures.items c.in-Some.is in
    ap (λ (w : Watching). w.initials) alike.1 ∙ c.in_ok-writer.ensures.initials

pub returns-clause-ours : goal.returns-clause-ours
returns-clause-ours g c =
    let alike = last_alike placeless 0 (watching c.in_ok-writer.writer) c.in_ok-writer.observers.items c.pop.new.self.items
    c.in-Some.observer c.pop.result c.in_ok-writer.ensures.observers c.pop.ensures.items c.in-Some.is in
    ap (λ (w : Watching). w.known.book) alike.1
