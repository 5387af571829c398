use Rattle.std.proofs.Common.{sym, ◌∙◌, ap, length, length-append, ◌+◌, ◌∷◌, [], None, Some}
use Rattle.shared_views.specs.declared.publications.Entered.{Entered}
use Rattle.shared_views.specs.inner.Chronicles.{head_of, heir}
use Rattle.shared_views.proofs.Chronicled.{enters, heir_further}
use Rattle.shared_views.proofs.publications.Head.enter.Goals as goal

pub compare_exchange-requires : goal.compare_exchange-requires
compare_exchange-requires c =
    let kept = c.self.invariant in let asked = c.plain-asked.ensures in
    let book = sym (ap (λ w. w.book) kept.word) in (
      ap (λ w. w.tracked) kept.word,
      book,
      kept.book ∙ book,
      asked.0,
      rw (ap (λ w. w.key) kept.word, asked.3) (enters _ _ _ kept.right kept.last),
    )

pub invariant_of-self : goal.invariant_of-self
invariant_of-self c =
    let kept = c.self.invariant in let made = c.compare_exchange.ensures in let pen = c.another_pen.ensures in
    let asked = c.plain-asked.ensures in let log = c.self.inside.reached.log in let ask = c.plain-asked.result.ask in
    record {
      counted = ap length made.7 ∙ (length-append log (ask ∷ []) ∙ ap (λ n. n + 1) kept.counted);
      word = kept.word ∙ ap head_of (sym made.0);
      book = pen.0 ∙ (sym (ap (λ k. k.book) c.self.view_is) ∙ sym made.0);
      right = pen.1;
      last = ap heir made.7 ∙ (heir_further None log ask ∙ ap (λ (e : Entered). Some e.next) asked.1);
    }
