-- What is said of parts of a text: their size in the XML, and their bytes in an output (Req 13). Assumes nothing.
use Rattle.std.specs.Prelude.{◌≡◌, Option, Some, None, cond, not, ◌&&◌, List, [], ◌∷◌, ℕ, ◌+◌, ◌*◌, ◌-◌, ◌≤◌, leb, length, take, drop}
use Rattle.xml_layout.specs.Xml.{escaped, escape}
use Rattle.xml_reading.specs.Written.{noncharacter, writable}
use Rattle.xml_escape.specs.Runs.{Passed}
use Rattle.xml_escape.specs.Wrote.{Put}

-- a byte that is written as it is
abbrev pub Alone : ℕ → Type 0
Alone b = escaped b ≡ b ∷ []

-- the size of the byte that stands first, as it is written; none where it starts a character that is not
unfoldable pub byte_size : List ℕ → Option ℕ
byte_size [] = None
byte_size (b ∷ l) = cond (leb 0x20 b && not (noncharacter (b ∷ l))) (Some (length (escaped b))) None

-- n bytes of a text from a place on are of written characters, and have so many bytes in the XML
pub record Grows (s : List ℕ) (i n size : ℕ) : Type 0 where
  pub inside : i + n ≤ length s
  pub same : writable (drop i s) ≡ writable (drop (i + n) s)
  pub sum : size + length (escape (drop (i + n) s)) ≡ length (escape (drop i s))
  pub bound : size ≤ 6 * n

-- bytes from one place to another are written as they are
abbrev pub Runs : (s : List ℕ) (from i : ℕ) → Type 0
Runs = Passed Alone

pub record RunPut (s : List ℕ) (from to : ℕ) (entry exit : List ℕ) (r : ℕ) : Type 0 where
  pub runs : Runs s from r
  pub put : Put (take (r - from) (drop from s)) to entry exit

-- the entity of a byte is put, of so many bytes; or the byte has none, and nothing is put
abbrev pub EntityPut : (b to : ℕ) (entry exit : List ℕ) → Option ℕ → Type 0
EntityPut b to entry exit None = Alone b × (exit ≡ entry)
EntityPut b to entry exit (Some n) = (n ≡ length (escaped b)) × Put (escaped b) to entry exit
