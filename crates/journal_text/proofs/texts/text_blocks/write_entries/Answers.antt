use Rattle.std.proofs.Common.{◌+◌, ◌-◌, ◌∙◌, arith}
use Rattle.journal_text.specs.Texts.Text.{entry_line}
use Rattle.journal_text.proofs.OnTexts.BlockLemmas.{on_err, lines_on, lines_cut}
use Rattle.journal_text.proofs.texts.text_blocks.write_entries.Goals as goal

pub returns-in_err-write_at_once-clause-part : goal.returns-in_err-write_at_once-clause-part
returns-in_err-write_at_once-clause-part g c =
    on_err c.from_residual.result
    (lines_cut (entry_line c.args.plan.now) c.args.entries.now _ _ _ c.loop-done.done _ c.loop-done.invariant.written
    c.in_err-write_at_once.ensures.part)

pub loop-done-preserved : goal.loop-done-preserved
loop-done-preserved g c =
    let wrote = c.in_ok-write_at_once.ensures in
    let done = c.loop-done.done in
    record {
      within = omega (arith, c.min.ensures, c.loop-done.invariant.within);
      size = c.write_at_once.ensures.kept ∙ c.loop-done.invariant.size;
      written =
          lines_on (entry_line c.args.plan.now) c.args.entries.now _ _ _ done (done + c.min.result - done) (done + c.min.result) (omega arith)
          c.loop-done.invariant.written wrote.done;
      room = wrote.room ∙ c.loop-done.invariant.room;
      count = wrote.count ∙ c.loop-done.invariant.count;
    }
