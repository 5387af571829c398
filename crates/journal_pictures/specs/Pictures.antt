-- The text of a picture: a head, parts that are no marks, the stretches, and the marks.
use Rattle.std.specs.Prelude.{◌≡◌, ℕ, ◌<◌, ◌≤◌, ◌+◌, ◌-◌, ◌*◌, ◌/◌, ◌==◌, nat_le, min, if◌then◌else◌, List, [], ◌∷◌, ◌++◌, codes, decimal, length, map, slice_index_or}
use Rattle.std.specs.List.{All, flat_map}
use Rattle.caa_base.specs.declared.written.entry.Entry.{Entry}
use Rattle.place_plan.specs.Plans.PlanValue.{Plan}
use Rattle.journal_text.specs.Texts.Text.{kind_word, entry_line}
use Rattle.journal_pictures.specs.declared.marks.Mark.{Mark}
use Rattle.journal_pictures.specs.declared.signs.TheConstants.{OPENING, SIGNS}
use Rattle.journal_pictures.specs.declared.shapes.Shape.{Shape}
use Rattle.journal_pictures.specs.declared.shapes.Shape.TheVariants as shape
use Rattle.journal_pictures.specs.declared.shapes.LineLook.{LineLook}
use Rattle.journal_pictures.specs.declared.shapes.LineLook.TheVariants as line
use Rattle.journal_pictures.specs.declared.shapes.WordsLook.{WordsLook}
use Rattle.journal_pictures.specs.declared.shapes.WordsLook.TheVariants as word
use Rattle.journal_pictures.specs.declared.shapes.Bar.{Bar}
use Rattle.journal_pictures.specs.Marks.{marks_from}
use Rattle.journal_pictures.specs.declared.stretches.Stretch.{Stretch}
use Rattle.journal_pictures.specs.Stretches.{IsRight, CoverAll, class_of, half_width}

-- how far from the left the marks of a lane stand
abbrev pub axis : List ℕ → ℕ → ℕ
axis axes lane = slice_index_or axes lane 0

-- so many lanes stand in a picture of this width in order: each at least 120 to the right of those before it, and with room on both sides
pub record AreApart (lanes width : ℕ) (axes : List ℕ) : Type 0 where
  pub number : length axes ≡ lanes
  pub left : (t : ℕ) → t < lanes → 82 ≤ axis axes t
  pub apart : (t u : ℕ) → t < u → u < lanes → axis axes t + 120 ≤ axis axes u
  pub right : (t : ℕ) → t < lanes → axis axes t + 96 ≤ width

-- how far from the top the marks of a row stand: above each fortieth row there is room for the names of the lanes
abbrev pub middle : ℕ → ℕ
middle row = 148 + row * 20 + row / 40 * 24

-- how far from the top a moment is, where the part that is drawn has so many entries from number `first` on: where the last entry before
-- it stands; above the first row where none of the part comes before it, and below the last row where the part ends before
abbrev pub level : ℕ → ℕ → ℕ → ℕ
level first rows k = if nat_le k first then 138 else middle (min (k - 1 - first) rows)

-- the rectangle of a stretch stands in the middle of its participant's lane, and reaches from its first moment to the first one after it
pub record IsBar (axes : List ℕ) (first rows : ℕ) (b : Bar) : Type 0 where
  pub left : b.left ≡ axis axes b.stretch.lane - half_width b.stretch.doing
  pub width : b.width ≡ half_width b.stretch.doing + half_width b.stretch.doing
  pub top : b.top ≡ level first rows b.stretch.from
  pub height : b.height ≡ level first rows b.stretch.to - level first rows b.stretch.from

-- the stretches that these rectangles show
abbrev pub stretches_shown : List Bar → List Stretch
stretches_shown bars = map (λ b. b.stretch) bars

-- a byte, written otherwise where it means something in a picture's text
abbrev pub escaped_byte : ℕ → List ℕ
escaped_byte b =
    if b == 38 then codes "&amp;"
    else (if b == 60 then codes "&lt;"
    else (if b == 62 then codes "&gt;" else b ∷ []))

-- each byte so
abbrev pub escaped : List ℕ → List ℕ
escaped bytes = flat_map escaped_byte bytes

-- an attribute that is a length
abbrev pub length_text : List ℕ → ℕ → List ℕ
length_text name n = 32 ∷ name ++ codes "=\"" ++ decimal n ++ 34 ∷ []

-- how an element begins, with its class
abbrev pub element_text : List ℕ → List ℕ → List ℕ
element_text element class = 60 ∷ element ++ codes " class=\"" ++ class ++ 34 ∷ []

-- what is told of a part of the picture
abbrev pub told_text : List ℕ → List ℕ
told_text words = codes "<title>" ++ escaped words ++ codes "</title>"

-- a rectangle, and what is told of it
abbrev pub area_text : List ℕ → ℕ → ℕ → ℕ → ℕ → List ℕ → List ℕ
area_text class left top width height title =
    element_text (codes "rect") class ++ length_text (codes "x") left ++ length_text (codes "y") top
    ++ length_text (codes "width") width ++ length_text (codes "height") height ++ 62 ∷ told_text title ++ codes "</rect>\n"

-- a line
abbrev pub line_text : List ℕ → ℕ → ℕ → ℕ → ℕ → List ℕ
line_text class left top right bottom =
    element_text (codes "line") class ++ length_text (codes "x1") left ++ length_text (codes "y1") top
    ++ length_text (codes "x2") right ++ length_text (codes "y2") bottom ++ codes "/>\n"

-- words, which can be selected
abbrev pub words_text : List ℕ → ℕ → ℕ → List ℕ → List ℕ
words_text class left base words =
    element_text (codes "text") class ++ length_text (codes "x") left ++ length_text (codes "y") base
    ++ 62 ∷ escaped words ++ codes "</text>\n"

-- the class of a line
abbrev pub line_class : LineLook → List ℕ
line_class line.Lane = codes "lane"
line_class line.Edge = codes "edge"
line_class line.Joint = codes "joint"
line_class line.Joined = codes "joined"
line_class line.Break = codes "break"

-- the class of words
abbrev pub words_class : WordsLook → List ℕ
words_class word.Name = codes "name"
words_class word.Number = codes "number"
words_class word.Says = codes "says"
words_class word.Action = codes "action"
words_class word.Awaits = codes "awaits"
words_class word.Broken = codes "broken"

-- a part of the picture that is neither a stretch nor a mark: a piece of a place's box, a line, or words. None looks as a stretch
abbrev pub shape_text : Shape → List ℕ
shape_text (shape.Piece left top width height title) = area_text (codes "place") left top width height title.items
shape_text (shape.Line look left top right bottom) = line_text (line_class look) left top right bottom
shape_text (shape.Words look left base words) = words_text (words_class look) left base words.items

-- the rectangle of a stretch: it looks as what its participant does
abbrev pub bar_text : Bar → List ℕ
bar_text b = area_text (class_of b.stretch.doing) b.left b.top b.width b.height b.title.items

-- the name of the sign of an entry: that of its kind, and where its mark isn't 0 that too. So each outcome and each verdict has a sign of
-- its own, and a restore that the device refused has another one than a restore that it took
abbrev pub sign_name : Entry → List ℕ
sign_name e = kind_word e.kind ++ (if e.mark == 0 then [] else 45 ∷ decimal e.mark)

-- the sign of a mark, where its lane and its row cross
abbrev pub sign_text : List ℕ → Mark → List ℕ
sign_text axes m =
    codes "<use href=\"#" ++ sign_name m.entry ++ 34 ∷ length_text (codes "x") (axis axes m.lane)
    ++ length_text (codes "y") (middle m.row) ++ 62 ∷ []

-- what stands under a sign
abbrev pub title_text : List ℕ → List ℕ
title_text line = told_text line ++ codes "</use>\n"

-- a mark: its sign, and under it the line that its entry has in the text of the journal
unfoldable pub mark_text : Plan → List ℕ → Mark → List ℕ
mark_text plan axes m = sign_text axes m ++ title_text (entry_line plan m.entry)

-- how a picture ends
abbrev pub end_text : List ℕ
end_text = codes "</svg>\n"

-- parts that are neither, then these stretches, then these marks, and the end
abbrev pub body_text : Plan → List ℕ → List Shape → List Bar → List Mark → List ℕ
body_text plan axes shapes bars marks =
    flat_map shape_text shapes ++ flat_map bar_text bars ++ flat_map (mark_text plan axes) marks ++ end_text

-- the box that a picture of this size shows
abbrev pub box_text : ℕ → ℕ → List ℕ
box_text width height = codes " viewBox=\"0 0 " ++ decimal width ++ 32 ∷ decimal height ++ codes "\">\n"

-- how a picture of this size begins: with its size, and with how the signs look and what they mean, which is always the same
abbrev pub front_text : ℕ → ℕ → List ℕ
front_text width height =
    OPENING.now ++ length_text (codes "width") width ++ length_text (codes "height") height ++ box_text width height ++ SIGNS.now

-- a text is a picture of these entries of a journal, from number `first` on: a front, parts that are neither stretches nor marks, the
-- stretches, each where it belongs, and the marks of the entries, each once. At each moment that the part shows, as far as the rules let
-- the entries come, just those who are in a place have a stretch, and it says by the rules whether its participant waits
pub record IsPicture (plan : Plan) (journal : List Entry) (first : ℕ) (entries : List Entry) (text : List ℕ) : Type 0 where
  pub width : ℕ
  pub height : ℕ
  pub axes : List ℕ
  pub tall : height ≡ middle (length entries) + 10
  pub lanes : AreApart (length plan.participants) width axes
  pub shapes : List Shape
  pub bars : List Bar
  pub right : All (λ b. IsRight plan journal first (length entries) b.stretch) bars
  pub placed : All (IsBar axes first (length entries)) bars
  pub cover : CoverAll plan journal first (length entries) (stretches_shown bars)
  pub same : text ≡ front_text width height ++ body_text plan axes shapes bars (marks_from 0 entries)
