use Rattle.std.proofs.Common.{◌≡◌}
use Rattle.std.proofs.lemmas.Result.{IfOk-weaker}
use Rattle.page_text.specs.Parts.{parts_text, page_text}
use Rattle.script_pages.specs.PagesOfScripts.{IsBarePage}
use Rattle.script_pages.proofs.paging.refused_page.Goals as goal

pub returns : goal.returns
returns c =
    let parts = c.deref.result.now in
    IfOk-weaker c.bare_page.result (λ text. text.items ≡ page_text (parts_text parts)) (λ text. IsBarePage text.items)
    (λ text is. (parts, is)) c.bare_page.ensures
