-- The script of the production cell, part by part.
use Rattle.std.specs.Prelude.{pos, List, [], ◌∷◌, ◌++◌}
use Rattle.action_script.specs.declared.forms.form.Form.{Form}
use Rattle.action_script.specs.declared.forms.form.Form.TheVariants as form
use Rattle.cell_workload.specs.CellNames.{feeder, robot, press, table, arm, plate, out, scrap, jams, jam, arm_jam, press_jam, faces, lost_piece, cellgraph, piece_lost, load, give, take, forge, hold, stamp, forge_jam, plain, feed, carry, to_load, to_forge, jammed, lost}

-- three machines, and what they move: pieces that came out, and those that were thrown away, are counted
abbrev pub outside_lines : List Form
outside_lines =
    form.Participant feeder
    ∷ form.Participant robot
    ∷ form.Participant press
    ∷ form.Object table (pos 0)
    ∷ form.Object arm (pos 0)
    ∷ form.Object plate (pos 0)
    ∷ form.Object out (pos 0)
    ∷ form.Object scrap (pos 0)
    ∷ []

-- a jam covers those of the arm and of the press
abbrev pub jams_lines : List Form
jams_lines =
    form.Graph jams
    ∷ form.Exception jam
    ∷ form.Exception arm_jam
    ∷ form.Exception press_jam
    ∷ form.Cover jam arm_jam
    ∷ form.Cover jam press_jam
    ∷ form.End
    ∷ []

-- what a jammed forging signals
abbrev pub faces_lines : List Form
faces_lines =
    form.Graph faces
    ∷ form.Exception lost_piece
    ∷ form.End
    ∷ []

-- what a cycle knows of that
abbrev pub cellgraph_lines : List Form
cellgraph_lines =
    form.Graph cellgraph
    ∷ form.Exception piece_lost
    ∷ form.End
    ∷ []

-- a piece comes from the table onto the arm
abbrev pub load_lines : List Form
load_lines =
    form.Action load
    ∷ form.Uses (table ∷ arm ∷ [])
    ∷ form.Roles (give ∷ take ∷ [])
    ∷ form.Body give
    ∷ form.PutStep table (pos 1)
    ∷ form.Body take
    ∷ form.PutStep arm (pos 1)
    ∷ form.End
    ∷ []

-- the piece is formed
abbrev pub forge_lines : List Form
forge_lines =
    form.Action forge
    ∷ form.Uses (arm ∷ plate ∷ out ∷ [])
    ∷ form.Roles (hold ∷ stamp ∷ [])
    ∷ form.Body hold
    ∷ form.PutStep arm (pos 0)
    ∷ form.Body stamp
    ∷ form.PutStep plate (pos 1)
    ∷ form.ReadStep out
    ∷ form.AddStep out (pos 1)
    ∷ form.WorkStep 10
    ∷ form.End
    ∷ []

-- the piece isn't formed, since both jam at once; it is counted as scrap, and its loss is signalled
abbrev pub forge_jam_lines : List Form
forge_jam_lines =
    form.Action forge_jam
    ∷ form.Internal jams
    ∷ form.Interface faces
    ∷ form.Uses (arm ∷ plate ∷ scrap ∷ [])
    ∷ form.Roles (hold ∷ stamp ∷ [])
    ∷ form.Body hold
    ∷ form.RaiseStep arm_jam
    ∷ form.Body stamp
    ∷ form.RaiseStep press_jam
    ∷ form.Handler hold jam
    ∷ form.PutStep arm (pos 0)
    ∷ form.Handler stamp jam
    ∷ form.ReadStep scrap
    ∷ form.AddStep scrap (pos 1)
    ∷ form.SignalLine lost_piece
    ∷ form.End
    ∷ []

-- a cycle in which all goes well
abbrev pub plain_lines : List Form
plain_lines =
    form.Action plain
    ∷ form.Uses (table ∷ arm ∷ plate ∷ out ∷ scrap ∷ [])
    ∷ form.Roles (feed ∷ carry ∷ press ∷ [])
    ∷ form.Nest to_load load (feed ∷ carry ∷ [])
    ∷ form.Nest to_forge forge (carry ∷ press ∷ [])
    ∷ form.Body feed
    ∷ form.EnterStep to_load
    ∷ form.PutStep table (pos 0)
    ∷ form.Body carry
    ∷ form.EnterStep to_load
    ∷ form.EnterStep to_forge
    ∷ form.Body press
    ∷ form.EnterStep to_forge
    ∷ form.PutStep plate (pos 0)
    ∷ form.End
    ∷ []

-- a cycle whose piece is lost
abbrev pub jammed_lines : List Form
jammed_lines =
    form.Action jammed
    ∷ form.Internal cellgraph
    ∷ form.Uses (table ∷ arm ∷ plate ∷ out ∷ scrap ∷ [])
    ∷ form.Roles (feed ∷ carry ∷ press ∷ [])
    ∷ form.Nest to_load load (feed ∷ carry ∷ [])
    ∷ form.Nest to_forge forge_jam (carry ∷ press ∷ [])
    ∷ form.Map to_forge lost_piece piece_lost
    ∷ form.Body feed
    ∷ form.EnterStep to_load
    ∷ form.Body carry
    ∷ form.EnterStep to_load
    ∷ form.EnterStep to_forge
    ∷ form.Body press
    ∷ form.EnterStep to_forge
    ∷ form.Handler feed piece_lost
    ∷ form.PutStep table (pos 0)
    ∷ form.Handler carry piece_lost
    ∷ form.Handler press piece_lost
    ∷ form.PutStep plate (pos 0)
    ∷ form.End
    ∷ []

-- a cycle that is undone
abbrev pub lost_lines : List Form
lost_lines =
    form.Action lost
    ∷ form.Uses (table ∷ arm ∷ plate ∷ out ∷ scrap ∷ [])
    ∷ form.Roles (feed ∷ carry ∷ press ∷ [])
    ∷ form.Nest to_load load (feed ∷ carry ∷ [])
    ∷ form.Body feed
    ∷ form.EnterStep to_load
    ∷ form.Body carry
    ∷ form.EnterStep to_load
    ∷ form.Body press
    ∷ form.PutStep plate (pos 9)
    ∷ form.UndoLine
    ∷ form.End
    ∷ []

-- all that stands before the plays
abbrev pub cell_lines : List Form
cell_lines =
    outside_lines
    ++ (jams_lines
    ++ (faces_lines
    ++ (cellgraph_lines ++ (load_lines ++ (forge_lines ++ (forge_jam_lines ++ (plain_lines ++ (jammed_lines ++ lost_lines))))))))
