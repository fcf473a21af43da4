-- What import takes, and where it refuses with 64 (Req 13). Assumes nothing.
use Rattle.std.specs.Prelude.{◌≡◌, refl, List, [], ◌∷◌, ◌++◌, ◌↔◌, ℕ}
use Rattle.layout.specs.Text.{ascii}
use Rattle.xml_layout.specs.First.{FirstWrong}
use Rattle.xml_layout.specs.Xml.{Exports, document_start, item_start, item_end, document_end}
use Rattle.xml_reading.specs.Match.{Document, other, document}
use Rattle.xml_reading.specs.Ranges.{one_more, ranges, any_of}
use Rattle.xml_reading.specs.Text.{entity, character, text, joined}
use Rattle.xml_reading.specs.Plain.{plain_character, plain-matches}
use Rattle.xml_reading.specs.Document as D
use Rattle.xml_reading.specs.Document.{item, texts}

-- the texts of a document, or the place of 64
abbrev pub texts_of : List ℕ → Document (List (List ℕ))
texts_of xml = D.document_of plain-matches xml

-- Req 13: "Import takes exactly what the export can write"
pub takes_exactly : (xml : List ℕ) (ts : List (List ℕ)) → (texts_of xml ≡ document ts) ↔ Exports ts xml
takes_exactly xml ts = D.takes_exactly plain-matches xml ts

-- Req 13: "64 for XML not of this form, at the first byte where no export agrees, or its end if it stops short, size apart"
pub first_wrong : (xml : List ℕ) (place : ℕ) → texts_of xml ≡ other place → FirstWrong Exports xml place
first_wrong xml place e = D.first_wrong plain-matches xml place e
