use Rattle.std.proofs.Common.{sym, ◌∙◌, ap, subst, List}
use mathlib.Core.List.{IsPrefix}
use Rattle.shared_views.specs.declared.publications.Entered.{Entered}
use Rattle.shared_views.proofs.Chronicled.{counts, whole_list, listed_begins}
use Rattle.shared_views.proofs.publications.Head.knows_no_more.Goals as goal

pub compare_exchange-requires : goal.compare_exchange-requires
compare_exchange-requires c =
    let kept = c.self.invariant in let asked = c.plain-asked.ensures in
    let all = c.self.inside.reached.log in let both = c.learn.new.self.log in
    let book = sym (ap (λ w. w.book) kept.word) in
    let mine : IsPrefix all both =
    subst (λ (l : List Entered). IsPrefix l both) (ap (λ s. s.log) c.again-both.ensures) c.learn.ensures.2 in (
      ap (λ w. w.tracked) kept.word,
      c.learn.ensures.0 ∙ (ap (λ s. s.book) c.again-both.ensures ∙ book),
      kept.book ∙ book,
      asked.0,
      rw (ap (λ w. w.key) kept.word, asked.3)
          (counts all both _ c.self.inside.ends c.plain-asked.result.ask kept.right kept.last mine kept.counted),
    )

pub returns-clause-begins : goal.returns-clause-begins
returns-clause-begins c =
    let kept = c.self.invariant in let made = c.compare_exchange.ensures in
    let all = c.self.inside.reached.log in let known = c.known.inside.reached.log in
    let both = c.learn.new.self.log in let log = c.compare_exchange.new.seen.log in
    let mine : IsPrefix all both =
    subst (λ (l : List Entered). IsPrefix l both) (ap (λ s. s.log) c.again-both.ensures) c.learn.ensures.2 in
    let begins = listed_begins known all (whole_list known all both log c.learn.ensures.3 mine made.6 (made.7.0 ∙ sym kept.counted)) in
    record {
      book = sym c.requires.book;
      list = rw (← ap (λ k. k.list) c.self.view_is, ← ap (λ k. k.list) c.known.view_is) begins;
    }
