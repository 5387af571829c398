-- What an edit makes of a text.
use Rattle.std.specs.Prelude.{ℕ, max, List, ◌++◌, take, drop}
use Rattle.script_documents.specs.declared.positions.Range.{Range}
use Rattle.script_documents.specs.Positions.{offset_of}

-- how many bytes the text of a document has at most
abbrev pub most_document_bytes : ℕ
most_document_bytes = 4194304

-- the text with this between two of its places, in place of what stood there
abbrev pub spliced : List ℕ → ℕ → ℕ → List ℕ → List ℕ
spliced text start end new = take start text ++ new ++ drop end text

-- the text with this in a range of it, in place of what stood there; a range that ends before it begins has nothing in it
abbrev pub edited : List ℕ → Range → List ℕ → List ℕ
edited text range new = spliced text (offset_of text range.start) (max (offset_of text range.start) (offset_of text range.end)) new
