use Rattle.std.proofs.Common.{◌≤◌, ap, sym, subst, arith, length, List}
use mathlib.Core.List.{IsPrefix}
use Rattle.shared_views.specs.Publications.{Begins}
use Rattle.shared_views.specs.declared.publications.Entered.{Entered}
use Rattle.shared_views.proofs.Beginnings.{shorter_begins}
use Rattle.shared_views.proofs.Chronicled.{listed_begins}
use Rattle.shared_views.proofs.publications.Publications.longer.Goals as goal

pub returns-then-self-other-clause-this : goal.returns-then-self-other-clause-this
returns-then-self-other-clause-this c =
    let mine = c.self.inside.reached.log in let its = c.other.inside.reached.log in let both = c.learn.new.self.log in
    let this : IsPrefix mine both =
    subst (λ (l : List Entered). IsPrefix l both) (ap (λ s. s.log) c.again-both.ensures) c.learn.ensures.2 in
    let less : length mine ≤ length its = omega (arith, c.self.invariant, c.other.invariant) in
    let prefix = listed_begins mine its (shorter_begins mine its both this c.learn.ensures.3 less) in
    let begins : Begins c.args.self.now c.args.other.now = record {
      book = c.requires.book;
      list = rw (← ap (λ k. k.list) c.self.view_is, ← ap (λ k. k.list) c.other.view_is) prefix;
    } in
    subst (Begins c.args.self.now) (sym c.again.ensures) begins

pub returns-clause-that : goal.returns-clause-that
returns-clause-that c =
    let mine = c.self.inside.reached.log in let its = c.other.inside.reached.log in let both = c.learn.new.self.log in
    let this : IsPrefix mine both =
    subst (λ (l : List Entered). IsPrefix l both) (ap (λ s. s.log) c.again-both.ensures) c.learn.ensures.2 in
    let less : length its ≤ length mine = omega (arith, c.self.invariant, c.other.invariant, c.if-self-other.false) in
    let prefix = listed_begins its mine (shorter_begins its mine both c.learn.ensures.3 this less) in
    let begins : Begins c.args.other.now c.args.self.now = record {
      book = sym c.requires.book;
      list = rw (← ap (λ k. k.list) c.self.view_is, ← ap (λ k. k.list) c.other.view_is) prefix;
    } in
    subst (Begins c.args.other.now) (sym c.again-else-self-other.ensures) begins
