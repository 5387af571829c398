use Rattle.std.proofs.Common.{◌≡◌, ◌+◌, ◌-◌, ℕ, List, length, sym, ap, ◌∙◌, arith}
use Rattle.action_script.specs.Words.JournalStarts.{after_lines, script_lines, journal_part}
use Rattle.action_script.proofs.OnWords.LineStarts.{after_dropped}
use Rattle.action_script.proofs.words.journal_start.find_journal.Goals as goal

-- what is left after the lines of the script is the text of the journal
left_after : (bytes rest : List ℕ) (lines : ℕ) → lines ≡ script_lines bytes
    → ((n : ℕ) → after_lines (lines + n) bytes ≡ after_lines n rest) → journal_part bytes ≡ rest
left_after bytes rest lines same after = let all : script_lines bytes ≡ lines + 0 =
    omega (arith, same) in ap (λ k. after_lines k bytes) all ∙ after 0

pub returns-clause-before : goal.returns-clause-before
returns-clause-before c =
    let skipped = c.skip_script-lines in
    let part = left_after c.args.bytes.now skipped.result.0.now skipped.result.1 skipped.ensures.lines skipped.ensures.after in
    ap (λ rest. length c.args.bytes.now - length rest) (sym part)

pub returns-clause-journal : goal.returns-clause-journal
returns-clause-journal c =
    let skipped = c.skip_script-lines in
    let part = left_after c.args.bytes.now skipped.result.0.now skipped.result.1 skipped.ensures.lines skipped.ensures.after in
    after_dropped (script_lines c.args.bytes.now) c.args.bytes.now skipped.result.0.now part ∙ sym part
