use Rattle.std.proofs.Common.{◌≡◌, ◌≤◌, List, ℕ, Ok, length, sym, subst, rules}
use Rattle.caa_base.specs.Written.Limits.{most_script_bytes}
use Rattle.action_script.specs.Lines.Spelling.{reading_of, LinesSpell}
use Rattle.action_script.specs.Forms.Printing.{text_of, reread_of}
use Rattle.action_script.proofs.OnForms.ReadsBack.{lines_spell, reads_back}
use Rattle.action_script.proofs.forms.printer.print.Goals as goal

pub returns-clause-reads_back : goal.returns-clause-reads_back
returns-clause-reads_back c =
    let P : List ℕ → Type 0 = λ text. length text ≤ most_script_bytes → reading_of text ≡ Ok (reread_of c.args.script.now) in
    let printed : c.push_lines.new.text.items ≡ text_of c.args.script.now = search rules in
    subst P (sym printed) (reads_back c.args.script.now c.are_script.ensures)

pub returns-clause-spells : goal.returns-clause-spells
returns-clause-spells c =
    let printed : c.push_lines.new.text.items ≡ text_of c.args.script.now = search rules in
    subst (λ (text : List ℕ). LinesSpell text (reread_of c.args.script.now)) (sym printed)
    (lines_spell c.args.script.now c.are_script.ensures)
