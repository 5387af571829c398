-- A script is read line by line against the shape of a script of primitives.
use Rattle.std.proofs.Common.{◌≡◌, ℕ, ◌+◌, true, List, ◌∷◌, Some, refl, sym, ap, ◌∙◌, subst}
use Rattle.std.proofs.lemmas.Bool.{and_parts}
use Rattle.action_script.specs.declared.forms.form.Form.{Form}
use Rattle.action_script.specs.declared.forms.form.Form.TheVariants as form
use Rattle.action_script.specs.declared.forms.script.Line.{Line}
use Rattle.action_script.specs.declared.lines.kind.Section.{Section}
use Rattle.action_script.specs.declared.lines.kind.Section.TheVariants as section
use Rattle.action_script.specs.Lines.Kinds.{goes_to, stands_in}
use Rattle.action_script.specs.Forms.LineForms.{kind_of}
use Rattle.action_script.specs.Forms.Printing.{forms_of, lead_to_top}
use Rattle.graph_maker.specs.declared.shape.Stage.{Stage}
use Rattle.graph_maker.specs.declared.shape.Stage.TheVariants as stage
use Rattle.graph_maker.specs.Refusals.{bad_from, bad_if, next_stage}

-- where the reader of a script is at a stage
abbrev pub section_of : Stage → Section
section_of stage.Graph = section.Top
section_of stage.First = section.Graph
section_of stage.More = section.Graph
section_of stage.Over = section.Top

-- before the first line, one that is lacking has number 1
abbrev pub number_for : Stage → ℕ → ℕ
number_for stage.Graph number = 1
number_for _ number = number

-- these lines are left, and what is bad is found among them
pub record Reads (s : Stage) (rest all : List Line) : Type 0 where
  pub number : ℕ
  pub same : bad_from stage.Graph 1 all ≡ bad_from s (number_for s number) rest
  pub leads : lead_to_top (section_of s) (forms_of rest) ≡ true

-- a line that may stand there
record IsStep (s : Stage) (f : Form) (next : Stage) : Type 0 where
  numbered : (number : ℕ) → number_for next number ≡ number
  goes : goes_to (kind_of f) (section_of s) ≡ section_of next

a_step : (s : Stage) (f : Form) (next : Stage) → next_stage s f ≡ Some next → IsStep s f next
a_step stage.Graph (form.Graph name) next h =
    let same : stage.First ≡ next = cc in
    subst (IsStep stage.Graph (form.Graph name)) same (record { numbered = λ number. refl; goes = refl })
a_step stage.First (form.Exception name) next h =
    let same : stage.More ≡ next = cc in
    subst (IsStep stage.First (form.Exception name)) same (record { numbered = λ number. refl; goes = refl })
a_step stage.More (form.Exception name) next h =
    let same : stage.More ≡ next = cc in
    subst (IsStep stage.More (form.Exception name)) same (record { numbered = λ number. refl; goes = refl })
a_step stage.More form.End next h =
    let same : stage.Over ≡ next = cc in
    subst (IsStep stage.More form.End) same (record { numbered = λ number. refl; goes = refl })
a_step _ _ next h = cc

pub read_more : (s : Stage) (line : Line) (rest all : List Line) (next : Stage) → Reads s (line ∷ rest) all
    → next_stage s line.form ≡ Some next → Reads next rest all
read_more s line rest all next reads h =
    let step = a_step s line.form next h in
    let parts = and_parts (stands_in (kind_of line.form) (section_of s)) _ reads.leads in
    record {
      number = line.number + 1;
      same =
          reads.same
          ∙ ap (bad_if line.number (λ t. bad_from t (line.number + 1) rest)) h
          ∙ ap (λ k. bad_from next k rest) (sym (step.numbered (line.number + 1)));
      leads = ap (λ t. lead_to_top t (forms_of rest)) (sym step.goes) ∙ parts.1;
    }
