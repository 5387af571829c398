use Rattle.std.proofs.Common.{sym, ◌∙◌, ap}
use Rattle.shared_views.proofs.Chronicled.{readies}
use Rattle.shared_views.proofs.publications.Head.another_pen.Goals as goal

pub compare_exchange-requires : goal.compare_exchange-requires
compare_exchange-requires c =
    let word = c.self.invariant.word in let asked = c.plain-asked.ensures in let pen = c.no_pen-pen.ensures in
    let book = ap (λ s. s.book) c.again-seen.ensures ∙ sym (ap (λ w. w.book) word) in (
      ap (λ w. w.tracked) word,
      book,
      pen.0 ∙ book,
      asked.0,
      rw (ap (λ w. w.key) word, pen.1, asked.3) (readies _ c.plain-asked.result.ask),
    )
