use Rattle.std.proofs.Common.{ℕ, List, Bor}
use Rattle.journal_text.proofs.OnTexts.DigitLemmas.{value-kept}
use Rattle.journal_text.proofs.OnTexts.SeenTokens.{front-lacks, watch-lacks, ends-lacks, value-lacks, end-lacks, early-lacks, seen-read}
use Rattle.journal_text.proofs.looks.seen_line.seen_at.Goals as goal

abbrev now : Bor (List ℕ) → List ℕ
now r = r.now

pub returns-in_err-fields : goal.returns-in_err-fields
returns-in_err-fields c =
    rw c.from_residual.ensures
    (front-lacks now c.args.plan.now c.requires c.args.least c.args.text.now c.in_err-fields.ensures)

pub returns-in_err-watch : goal.returns-in_err-watch
returns-in_err-watch c =
    rw c.from_residual-in_err-watch.ensures
    (watch-lacks now c.args.plan.now c.requires c.args.least c.args.text.now c.in_ok-fields.fields.now c.in_ok-fields.ensures
    c.in_err-watch.ensures)

pub returns-in_err-ends : goal.returns-in_err-ends
returns-in_err-ends c =
    rw c.from_residual-in_err-ends.ensures
    (ends-lacks now c.args.plan.now c.requires c.args.least c.args.text.now c.in_ok-fields.fields.now c.in_ok-fields.ensures
    c.in_ok-watch.watch c.in_ok-watch.text c.in_ok-watch.ensures c.in_err-ends.ensures)

pub returns-in_err-value : goal.returns-in_err-value
returns-in_err-value c =
    rw c.from_residual-in_err-value.ensures
    (value-lacks now c.args.plan.now c.requires c.args.least c.args.text.now c.in_ok-fields.fields.now c.in_ok-fields.ensures
    c.in_ok-watch.watch c.in_ok-watch.text c.in_ok-watch.ensures c.in_ok-ends.ends c.in_ok-ends.text c.in_ok-ends.ensures
    c.in_err-value.ensures)

pub returns-in_err-rest : goal.returns-in_err-rest
returns-in_err-rest c =
    rw c.from_residual-in_err-rest.ensures
    (end-lacks now c.args.plan.now c.requires c.args.least c.args.text.now c.in_ok-fields.fields.now c.in_ok-fields.ensures
    c.in_ok-watch.watch c.in_ok-watch.text c.in_ok-watch.ensures c.in_ok-ends.ends c.in_ok-ends.text c.in_ok-ends.ensures
    c.in_ok-value.value c.in_ok-value.text c.in_ok-value.ensures c.in_err-rest.ensures)

pub returns-then-watch-least : goal.returns-then-watch-least
returns-then-watch-least c =
    early-lacks now c.args.plan.now c.requires c.args.least c.args.text.now c.in_ok-fields.fields.now c.in_ok-fields.ensures
    c.in_ok-watch.watch c.in_ok-watch.text c.in_ok-watch.ensures c.in_ok-ends.ends c.in_ok-ends.text c.in_ok-ends.ensures
    c.in_ok-value.value c.in_ok-value.text c.in_ok-value.ensures c.if-watch-least.true

pub returns : goal.returns
returns c =
    rw (value-kept c.in_ok-value.value c.in_ok-value.ensures.0)
    (seen-read now c.args.plan.now c.requires c.args.least c.args.text.now c.in_ok-fields.fields.now c.in_ok-fields.ensures
    c.in_ok-watch.watch c.in_ok-watch.text c.in_ok-watch.ensures c.in_ok-ends.ends c.in_ok-ends.text c.in_ok-ends.ensures
    c.in_ok-value.value c.in_ok-value.text c.in_ok-value.ensures c.in_ok-rest.rest.now c.if-watch-least.false c.in_ok-rest.ensures)
