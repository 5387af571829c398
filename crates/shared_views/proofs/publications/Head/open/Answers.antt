use Rattle.std.proofs.Common.{sym, ◌∙◌, ap}
use Rattle.shared_views.proofs.Chronicled.{opens}
use Rattle.shared_views.proofs.publications.Head.open.Goals as goal

pub compare_exchange-found-requires : goal.compare_exchange-found-requires
compare_exchange-found-requires c =
    let word = c.tracked-word.ensures.0 in let first = c.open-reached.ensures in
    let asked = c.plain-asked.ensures in let pen = c.no_pen-pen.ensures in
    let book = sym (ap (λ w. w.book) word ∙ first.2) in (
      ap (λ w. w.tracked) word,
      book,
      pen.0 ∙ book,
      asked.0,
      rw (ap (λ w. w.key) word ∙ ap (λ n. n.key) first.4, pen.1, asked.3) (opens _ c.plain-asked.result.ask),
    )
