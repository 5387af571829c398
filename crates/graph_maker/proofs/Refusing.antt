-- A script is looked through for a line that has a cause.
use Rattle.std.proofs.Common.{◌≡◌, ℕ, ◌+◌, ◌<◌, List, ◌∷◌, length, drop, get_or, None, sym, ap, ◌∙◌}
use Rattle.std.proofs.lemmas.List.{at_drop_more}
use Rattle.action_script.specs.declared.forms.script.Line.{Line}
use Rattle.action_script.specs.Forms.ScriptValue.{Script}
use Rattle.graph_maker.specs.Refusals.{cause_of, exception_in, refused_from, refused_if}

-- a line without a cause is passed
pub line_passed : (script : Script) (most passed i : ℕ) (all : List Line) (line : Line) → i < length all → line ≡ get_or all i line
    → cause_of script most passed line.form ≡ None
    → refused_from script most (passed + length (exception_in line.form)) (drop (i + 1) all) ≡ refused_from script most passed (drop i all)
line_passed script most passed i all line within is none =
    sym (at_drop_more (refused_from script most passed) all i line within
    ∙ ap (λ (l : Line). refused_from script most passed (l ∷ drop (i + 1) all)) (sym is)
    ∙ ap (refused_if line.number (refused_from script most (passed + length (exception_in line.form)) (drop (i + 1) all))) none)
