-- What is put into the output, and when. Assumes nothing.
use Rattle.std.specs.Prelude.{◌≡◌, Result, Ok, Err, Bool, true, List, [], ◌∷◌, ◌++◌, ℕ, ◌+◌, ◌^◌, ◌≤◌, ◌<◌, length, take, drop}
use Rattle.layout.specs.Number.{little}
use Rattle.layout.specs.Text.{ascii}
use Rattle.layout.specs.Shortest.{shortest, short, short_lists, short_file}
use Rattle.fill.specs.Fill.{copied}
use Rattle.reading.specs.Output.{Rewritten, refusal, written}
use Rattle.xml_layout.specs.Xml.{item_end, document_end}
use Rattle.xml_layout.specs.Tree.{array_name, string_name, text_trees, tree_of}
use Rattle.xml_reading.specs.Match.{Match, fails, takes, document, until}
use Rattle.xml_reading.specs.Text.{joined}
use Rattle.xml_reading.specs.Import.{texts_of}
use Rattle.xml_escape.specs.Wrote.{Wrote}
use Rattle.xml_import.specs.Places.{character, text}
use Rattle.answers.specs.declared.Refusal.{Refusal}
use Rattle.answers.specs.Refusals.{refusal as refused}

-- the header without its length, and the lists with the Array's type id
unfoldable pub header_bytes : List ℕ
header_bytes = ascii "XNB" ++ (0x77 ∷ 5 ∷ 0 ∷ [])

unfoldable pub lists_bytes : List ℕ
lists_bytes = short_lists (array_name ∷ string_name ∷ []) 0 ++ shortest 1

-- what stands before the texts
unfoldable pub front_put : (size count : ℕ) → List ℕ → List ℕ
front_put size count out = copied (copied (copied (copied out 0 header_bytes 0 6) 6 (little 4 size) 0 4) 10 lists_bytes 0 119) 129 (little 4 count) 0 4

-- what a matcher takes
unfoldable pub taken : Match (List ℕ) → List ℕ
taken (fails n) = []
taken (takes t rest) = t

-- the text of an item from a place on
abbrev pub text_in : (xml : List ℕ) (at : ℕ) → List ℕ
text_in xml at = taken (text (drop at xml))

-- so many bytes has a text whose length and bytes are n together
unfoldable pub TextOf : (n r : ℕ) → Type 0
TextOf n r = (size : ℕ) → size < 2 ^ 28 → n ≡ length (shortest size) + size → r ≡ size

-- the text of the last item stands from a place on, and has so many bytes as a String
pub record Last (xml : List ℕ) (at bytes : ℕ) : Type 0 where
  pub t : List ℕ
  pub takes_it : text (drop at xml) ≡ takes t document_end
  pub long : bytes ≡ 1 + length (shortest (length t)) + length t
  pub small : length t < 2 ^ 28

abbrev pub LastIf : (xml : List ℕ) (at items bytes : ℕ) → Type 0
LastIf xml at items bytes = items ≡ 1 → Last xml at bytes

-- an item's text stands from a place on, and has so many bytes
pub record Ready (xml : List ℕ) (at size : ℕ) : Type 0 where
  pub inside : at ≤ length xml
  pub us : List (List ℕ)
  pub rest : List ℕ
  pub takes_them : until character item_end (drop at xml) ≡ takes us rest
  pub sized : size ≡ length (joined us)

-- the text stands in the XML as it is
abbrev pub Verbatim : (xml : List ℕ) (at size : ℕ) → Type 0
Verbatim xml at size = (at + size ≤ length xml) × (take size (drop at xml) ≡ text_in xml at)

abbrev pub VerbatimIf : Bool → (xml : List ℕ) (at size : ℕ) → Type 0
VerbatimIf plain xml at size = plain ≡ true → Verbatim xml at size

unfoldable pub TextPut : (xml : List ℕ) (at to size : ℕ) → (entry exit : List ℕ) → Type 0
TextPut xml at to size entry exit = (base done : List ℕ) → Wrote base done entry to → to + size ≤ length base → Wrote base (done ++ text_in xml at) exit (to + size)

-- a String: its type id, its length and its text
abbrev pub string_bytes : List ℕ → List ℕ
string_bytes t = (2 ∷ []) ++ (shortest (length t) ++ t)

unfoldable pub StringPut : (xml : List ℕ) (at to size : ℕ) → (entry exit : List ℕ) → ℕ → Type 0
StringPut xml at to size entry exit r =
    (r ≡ to + length (string_bytes (text_in xml at)))
    × ((base done : List ℕ) → Wrote base done entry to → to + 1 + length (shortest size) + size ≤ length base → Wrote base (done ++ string_bytes (text_in xml at)) exit r)

-- the XML has so many texts, their file has so many bytes, and the output has room for it
pub record Fits (xml : List ℕ) (count size out : ℕ) : Type 0 where
  pub ts : List (List ℕ)
  pub is : texts_of xml ≡ document ts
  pub many : count ≡ length ts
  pub sized : size ≡ length (short_file (tree_of ts))
  pub short_file_lem : length (short_file (tree_of ts)) ≤ 16777216
  pub room : length (short_file (tree_of ts)) ≤ out

unfoldable pub StringsPut : (xml entry exit : List ℕ) → Type 0
StringsPut xml entry exit =
    (ts : List (List ℕ)) → texts_of xml ≡ document ts → (base done : List ℕ) → Wrote base done entry 133 → 133 + length (short (text_trees ts)) ≤ length base
    → Wrote base (done ++ short (text_trees ts)) exit (133 + length (short (text_trees ts)))

-- a refusal, or the length of the file
abbrev pub answer_of : Rewritten → Result ℕ Refusal
answer_of (refusal number place) = Err (refused number place)
answer_of (written bytes) = Ok (length bytes)
