-- The names of the production cell's script.
use Rattle.std.specs.Prelude.{ℕ, List, [], ◌∷◌, codes}

-- the name of each number, in the order in which the lines first have them
abbrev pub cell_names : List (List ℕ)
cell_names =
    codes "feeder"
    ∷ codes "robot"
    ∷ codes "press"
    ∷ codes "table"
    ∷ codes "arm"
    ∷ codes "plate"
    ∷ codes "out"
    ∷ codes "scrap"
    ∷ codes "jams"
    ∷ codes "jam"
    ∷ codes "arm_jam"
    ∷ codes "press_jam"
    ∷ codes "faces"
    ∷ codes "lost_piece"
    ∷ codes "cellgraph"
    ∷ codes "piece_lost"
    ∷ codes "load"
    ∷ codes "give"
    ∷ codes "take"
    ∷ codes "forge"
    ∷ codes "hold"
    ∷ codes "stamp"
    ∷ codes "forge_jam"
    ∷ codes "plain"
    ∷ codes "feed"
    ∷ codes "carry"
    ∷ codes "l"
    ∷ codes "f"
    ∷ codes "jammed"
    ∷ codes "lost"
    ∷ []

-- ---- the participants, which play the roles of each cycle

abbrev pub feeder : ℕ
feeder = 0

abbrev pub robot : ℕ
robot = 1

abbrev pub press : ℕ
press = 2

-- ---- the objects

abbrev pub table : ℕ
table = 3

abbrev pub arm : ℕ
arm = 4

abbrev pub plate : ℕ
plate = 5

abbrev pub out : ℕ
out = 6

abbrev pub scrap : ℕ
scrap = 7

-- ---- the graphs and their exceptions

abbrev pub jams : ℕ
jams = 8

abbrev pub jam : ℕ
jam = 9

abbrev pub arm_jam : ℕ
arm_jam = 10

abbrev pub press_jam : ℕ
press_jam = 11

abbrev pub faces : ℕ
faces = 12

abbrev pub lost_piece : ℕ
lost_piece = 13

abbrev pub cellgraph : ℕ
cellgraph = 14

abbrev pub piece_lost : ℕ
piece_lost = 15

-- ---- the actions, their roles and nested uses

abbrev pub load : ℕ
load = 16

abbrev pub give : ℕ
give = 17

abbrev pub take : ℕ
take = 18

abbrev pub forge : ℕ
forge = 19

abbrev pub hold : ℕ
hold = 20

abbrev pub stamp : ℕ
stamp = 21

abbrev pub forge_jam : ℕ
forge_jam = 22

abbrev pub plain : ℕ
plain = 23

abbrev pub feed : ℕ
feed = 24

abbrev pub carry : ℕ
carry = 25

abbrev pub to_load : ℕ
to_load = 26

abbrev pub to_forge : ℕ
to_forge = 27

abbrev pub jammed : ℕ
jammed = 28

abbrev pub lost : ℕ
lost = 29
