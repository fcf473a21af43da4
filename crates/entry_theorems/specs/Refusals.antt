-- The number that an entry answers for a refusal of the code that it calls, under a lawful list of enum types (01, "Looking up": "refusal (or 0) times 2 to the 32, plus place"), exactly. Assumes nothing.
use Rattle.std.specs.Prelude.{◌≡◌, List, ℕ, ◌+◌, ◌*◌}
use Rattle.layout.specs.EnumList.{EnumEntry, write_enums, Enums}
use Rattle.reading.specs.File.{refusal}
use Rattle.reading.specs.Output as output
use Rattle.load.specs.Under.{load_under}
use Rattle.rewrite.specs.Whole.{rewrite_under}

-- For the lent list of enum types, a file, the number of words that its room is of, and the number that a load answers: that of load's refusal.
abbrev pub TellsRefusal : (enums file : List ℕ) (words r : ℕ) → Type 0
TellsRefusal enums file words r =
    (es : List EnumEntry) → Enums es → enums ≡ write_enums es → (number place : ℕ) → load_under enums file words ≡ refusal number place → r ≡ number * 4294967296 + place

-- For the number of bytes lent for the output besides, and the number that a rewrite answers: that of rewrite's refusal.
abbrev pub TellsRewriteRefusal : (enums file : List ℕ) (words out r : ℕ) → Type 0
TellsRewriteRefusal enums file words out r =
    (es : List EnumEntry) → Enums es → enums ≡ write_enums es → (number place : ℕ) → rewrite_under enums file words out ≡ output.refusal number place → r ≡ number * 4294967296 + place
