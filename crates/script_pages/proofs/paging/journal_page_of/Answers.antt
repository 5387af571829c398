use Rattle.std.proofs.lemmas.Result.{IfOk-weaker}
use Rattle.journal_page.specs.Pages.{IsPage}
use Rattle.script_pages.specs.PagesOfScripts.{IsJournalPage}
use Rattle.script_pages.proofs.paging.journal_page_of.Goals as goal

pub returns : goal.returns
returns g c =
    let lines = g.L.Lines.line_at c.args.lines.now in
    let plan = c.args.plan.now in
    let entries = c.args.entries.now in
    let head = c.deref-2.result.now in
    let tail = c.deref-3.result.now in
    IfOk-weaker c.page.result (λ text. IsPage lines plan head tail entries text.items)
    (λ text. IsJournalPage lines plan entries text.items)
    (λ text is. (head, tail, is)) c.page.ensures
