-- What a line in a graph is refused for, and what it adds to the graph.
use Rattle.std.specs.Prelude.{nat_le, Bool, false, [], ◌∷◌, ◌++◌, length}
use Rattle.cover_table.specs.Cover.{most_exceptions}
use Rattle.caa_base.specs.Written.Lists.{index_of}
use Rattle.action_script.specs.declared.forms.form.Form.{Form}
use Rattle.action_script.specs.declared.forms.form.Form.TheVariants as form
use Rattle.script_checker.specs.declared.open_graph.DeclaredGraph.{DeclaredGraph}
use Rattle.script_checker.specs.Numbers.{is_among}

-- the graph has the exception already
abbrev pub twice_in_graph : DeclaredGraph → Form → Bool
twice_in_graph g (form.Exception name) = is_among g.exceptions name
twice_in_graph g _ = false

-- the graph would have too many
abbrev pub past_limit_in_graph : DeclaredGraph → Form → Bool
past_limit_in_graph g (form.Exception name) = nat_le most_exceptions (length g.exceptions)
past_limit_in_graph g _ = false

-- the graph with what the line says
abbrev pub graph_with : DeclaredGraph → Form → DeclaredGraph
graph_with g (form.Exception name) = record g { exceptions = g.exceptions ++ name ∷ [] }
graph_with g (form.Cover upper lower) =
    record g { pairs = g.pairs ++ (index_of upper g.exceptions, index_of lower g.exceptions) ∷ [] }
graph_with g _ = g
