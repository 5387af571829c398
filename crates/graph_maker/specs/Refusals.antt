-- Why no graph of sets is made of a script: its first line that is refused.
use Rattle.std.specs.Prelude.{ℕ, ◌+◌, ◌==◌, nat_lt, nat_le, if◌then◌else◌, Bool, ◌||◌, List, [], ◌∷◌, length, take, Option, Some, None, codes}
use Rattle.std.specs.List.{flat_map, list_any}
use Rattle.caa_base.specs.Written.Names.{name_at}
use Rattle.cover_table.specs.Cover.{most_exceptions}
use Rattle.action_script.specs.declared.forms.form.Form.{Form}
use Rattle.action_script.specs.declared.forms.form.Form.TheVariants as form
use Rattle.action_script.specs.declared.forms.script.Line.{Line}
use Rattle.action_script.specs.Forms.ScriptValue.{Script}
use Rattle.action_script.specs.Words.NumberedNames.{number_in}
use Rattle.set_graphs.specs.Sets.{exception_count}
use Rattle.graph_maker.specs.declared.shape.Stage.{Stage}
use Rattle.graph_maker.specs.declared.shape.Stage.TheVariants as stage
use Rattle.graph_maker.specs.declared.made_error.MadeCause.{MadeCause}
use Rattle.graph_maker.specs.declared.made_error.MadeCause.TheVariants as cause
use Rattle.graph_maker.specs.declared.made_error.MadeError.{MadeError}
use Rattle.graph_maker.specs.SetNames.{is_made_name}

-- ---- the shape of a script of primitives

-- one graph begins, exceptions follow, one at least, it ends, and nothing more is said
abbrev pub next_stage : Stage → Form → Option Stage
next_stage stage.Graph (form.Graph name) = Some stage.First
next_stage stage.First (form.Exception name) = Some stage.More
next_stage stage.More (form.Exception name) = Some stage.More
next_stage stage.More form.End = Some stage.Over
next_stage _ _ = None

-- a line that may not stand there is bad; after one that may, others follow
abbrev pub bad_if : ℕ → (Stage → Option ℕ) → Option Stage → Option ℕ
bad_if number more None = Some number
bad_if number more (Some next) = more next

-- where no line follows and one is lacking, it would have this number
abbrev pub lacking_at : Stage → ℕ → Option ℕ
lacking_at stage.Over number = None
lacking_at _ number = Some number

-- the first bad line of these, or the one that is lacking behind them; the line before them has the number before this
abbrev pub bad_from : Stage → ℕ → List Line → Option ℕ
bad_from s number [] = lacking_at s number
bad_from s number (line ∷ lines) = bad_if line.number (λ next. bad_from next (line.number + 1) lines) (next_stage s line.form)

-- the line at which the script isn't of the shape
abbrev pub bad_line : Script → Option ℕ
bad_line script = bad_from stage.Graph 1 script.lines

-- ---- what such a script declares, by the numbers of names

-- the exception that a line declares, if it does
abbrev pub exception_in : Form → List ℕ
exception_in (form.Exception name) = name ∷ []
exception_in _ = []

-- the exceptions that lines declare: the primitives
abbrev pub exceptions_in : List Line → List ℕ
exceptions_in lines = flat_map (λ line. exception_in line.form) lines

-- the graph that a line begins
abbrev pub graph_in : Form → ℕ
graph_in (form.Graph name) = name
graph_in _ = 0

-- the graph that the first line begins
abbrev pub graph_of : List Line → ℕ
graph_of [] = 0
graph_of (line ∷ lines) = graph_in line.form

-- how many primitives a script has
abbrev pub primitive_count : Script → ℕ
primitive_count script = length (exceptions_in script.lines)

-- ---- the causes of a line

-- primitives of a graph: universal is one of its exceptions
abbrev pub most_primitives : ℕ
most_primitives = 127

-- the sets of at most so many of n primitives aren't too many for a graph
abbrev pub has_room : ℕ → ℕ → Bool
has_room n most = nat_le (exception_count n most) most_exceptions

-- the name is that of one of the first exceptions, so many of them, or `universal`, or made for a larger set
abbrev pub is_taken : Script → ℕ → ℕ → ℕ → Bool
is_taken script most passed name =
    list_any (λ exception. exception == name) (take passed (exceptions_in script.lines))
    || ((name == number_in script.names (codes "universal"))
    || is_made_name (primitive_count script) most (name_at script.names name))

-- one cause, where the first test is met, else another, where the second isn't
abbrev pub cause_if : Bool → Bool → Option MadeCause
cause_if taken room = if taken then Some cause.Twice else (if room then None else Some cause.Limit)

-- the cause of a line after so many exceptions
abbrev pub cause_of : Script → ℕ → ℕ → Form → Option MadeCause
cause_of script most passed (form.Exception name) = cause_if (is_taken script most passed name) (nat_lt passed most_primitives)
cause_of script most passed form.End = if has_room (primitive_count script) most then None else Some cause.Limit
cause_of script most passed _ = None

-- a line with a cause is refused, else a later one may be
abbrev pub refused_if : ℕ → Option MadeError → Option MadeCause → Option MadeError
refused_if number later None = later
refused_if number later (Some c) = Some (record { line = number; cause = c })

-- the first of these lines that has a cause, where so many exceptions are declared before them
abbrev pub refused_from : Script → ℕ → ℕ → List Line → Option MadeError
refused_from script most passed [] = None
refused_from script most passed (line ∷ lines) =
    refused_if line.number (refused_from script most (passed + length (exception_in line.form)) lines)
    (cause_of script most passed line.form)

-- ---- the refusal

-- a script that isn't of the shape is refused there, else where a line has a cause
abbrev pub refusal_by : Option MadeError → Option ℕ → Option MadeError
refusal_by later None = later
refusal_by later (Some number) = Some (record { line = number; cause = cause.BadLine })

-- why no graph of sets of at most so many members is made of the script; nothing where one is made
abbrev pub refusal_of : Script → ℕ → Option MadeError
refusal_of script most = refusal_by (refused_from script most 0 script.lines) (bad_line script)
