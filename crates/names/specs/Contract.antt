-- What the parser answers and which codes it leaves. Assumes nothing.
use Rattle.std.specs.Prelude.{◌≡◌, Bool, true, false, ◌&&◌, cond, List, [], ◌∷◌, ℕ, ◌+◌, ◌≤◌, leb, eqb, length, drop, Result, Ok, Err}
use Rattle.std.proofs.lemmas.List.Edits.{sets}
use Prim.Native.Char.{code}
use Rattle.layout.specs.Text.{ascii}
use Rattle.layout.specs.Name.{head_byte, tail_byte, Tail as Name-tail, none, some, Name, simple, one, two}
use Rattle.layout.specs.EnumList.{EnumEntry}
use Rattle.answers.specs.declared.Refusal.{Refusal}
use Rattle.answers.specs.declared.Rule.{Rule}
use Rattle.answers.specs.declared.Rule.TheVariants.{HeadByte, ArgumentBrackets, TailByte}
use Rattle.answers.specs.Refusals.{refusal, number_of}
use Rattle.names.specs.declared.bytes.Class.{Class}
use Rattle.names.specs.declared.bytes.Class.TheVariants.{Head, Tail}
use Rattle.names.specs.declared.parse.Parsed.{Parsed}
use Rattle.names.specs.declared.parse.Unnamed.{Unnamed}
use Rattle.names.specs.declared.parse.Unnamed.TheVariants.{Broken, NoRoom}
use Rattle.names.specs.Parse.{Read, broken, name, starts, common, tail_size, tail_of, opening, unopened_number, unopened_at, name_in, name_of}
use Rattle.names.specs.Heading.{Heading, headings}
use Rattle.names.specs.Kind.{codes}

-- the classes of bytes: those of a head, or those of a tail
abbrev pub class : Class → ℕ → Bool
class Head b = head_byte b
class Tail b = tail_byte b

-- the rule that a byte that cannot follow a name breaks: its number is `wrong_by`, and `wrong`
unfoldable pub rule_by : (bare : Rule) → Name-tail → Rule
rule_by bare none = bare
rule_by bare (some t) = TailByte

unfoldable pub rule_of : Name → Rule
rule_of (simple h t) = rule_by HeadByte t
rule_of (one h a t) = rule_by ArgumentBrackets t
rule_of (two h a b t) = rule_by ArgumentBrackets t

-- and the one broken behind an argument, where brackets are due: its number is `behind`
unfoldable pub rule_behind : (other : Rule) → List ℕ → Rule
rule_behind other [] = ArgumentBrackets
rule_behind other (b ∷ s) = cond (eqb b (code "]")) ArgumentBrackets other

abbrev pub parsed : Rule → (end used : ℕ) → Parsed
parsed r e u = record { wrong = r; end = e; used = u }

-- where a name that starts at a place ends, what a byte that cannot follow it is, and how many codes are used then; or the fault
abbrev pub answer : (at used : ℕ) → Read → Result Parsed Refusal
answer at used (broken m p hs) = Err (refusal m p)
answer at used (name n k) = Ok (parsed (rule_of n) k (used + length (headings at n)))

-- the heads that were met, in order
abbrev pub met : (at : ℕ) → Read → List Heading
met at (broken m p hs) = hs
met at (name n k) = headings at n

-- a part that starts with a name: its end, and the heads' codes from `used` on, as far as there is room for them
pub record Parses (es : List EnumEntry) (own : Bool) (levels at : ℕ) (s c c' : List ℕ) (used : ℕ) (r : Result Parsed Refusal) : Type 0 where
  pub answers : r ≡ answer at used (name_in levels at s)
  pub writes : c' ≡ sets c used (codes es own (met at (name_in levels at s)))

-- how many arguments a head of h bytes has, or the fault of a backquote that opens none
abbrev pub arguments : (at h : ℕ) → List ℕ → Result ℕ Refusal
arguments at h s = cond (eqb (opening (drop h s)) 3) (Err (refusal (unopened_number (drop h s)) (at + (h + unopened_at (drop h s))))) (Ok (opening (drop h s)))

-- an argument that was read from `a` on ends within so many bytes
abbrev pub Inside : (size a : ℕ) → Parsed → Type 0
Inside l a n = a + n.end ≤ l

-- perhaps a tail at e, behind a head or brackets
abbrev pub tailed : List ℕ → (e used : ℕ) → (bare : Rule) → Parsed
tailed s e used bare = parsed (rule_by bare (tail_of (drop e s))) (e + tail_size (drop e s)) used

-- after an argument that was read from `a` on: the text w stands there, and this is where it ends
abbrev pub passed : (w : List ℕ) (at : ℕ) (s : List ℕ) (a : ℕ) → Parsed → Result ℕ Refusal
passed w at s a n =
    cond (starts w (drop (a + n.end) s)) (Ok (a + n.end + length w)) (Err (refusal (number_of (rule_behind n.wrong (drop (a + n.end) s))) (at + (a + n.end + common w (drop (a + n.end) s)))))

abbrev pub tailed_after : List ℕ → (used : ℕ) → Result ℕ Refusal → Result Parsed Refusal
tailed_after s used (Err e) = Err e
tailed_after s used (Ok e) = Ok (tailed s e used ArgumentBrackets)

-- after the last argument, which was read from `a` on: two brackets, and perhaps a tail
abbrev pub closing : (at : ℕ) → List ℕ → (a : ℕ) → Parsed → Result Parsed Refusal
closing at s a argument = tailed_after s argument.used (passed (ascii "]]") at s a argument)

-- what a reader's name comes to: how many codes are used, a refusal of 01 or 02 and its place, or no room for the codes
pub data Answer : Type 0 where
  coded : (used : ℕ) → Answer
  refused : (number place : ℕ) → Answer
  no_room : Answer

-- 02: "10 becomes 33 to 38"
abbrev pub told : Result ℕ Unnamed → Answer
told (Ok used) = coded used
told (Err (Broken r)) = refused r.number r.place
told (Err NoRoom) = no_room

-- the codes' own places start where 32 bits can count them, and a word has room for the name's places in the file, which are below 2 to the 24
unfoldable pub placed : (s : List ℕ) (at used : ℕ) → Bool
placed s at used = leb used 16777216 && leb (at + length s) 16777216

-- codes that end within the room
unfoldable pub ending : (room end : ℕ) → Answer → Answer
ending room end x = cond (leb end room) x no_room

unfoldable pub answer_of : (placed : Bool) (room at used : ℕ) → Read → Answer
answer_of false room at used r = no_room
answer_of true room at used (broken m p hs) = refused m p
answer_of true room at used (name n k) = ending room (used + length (headings at n)) (coded (used + length (headings at n)))

-- the codes of all heads, or of those before the fault, as far as there is room for them
unfoldable pub content_of : (placed : Bool) → List EnumEntry → List ℕ → (at used : ℕ) → Read → List ℕ
content_of false es c at used r = c
content_of true es c at used r = sets c used (codes es true (met at r))

-- a whole reader name s whose first byte is at a place, under a list of enum types, and the codes before and after
pub record ReadsName (es : List EnumEntry) (s : List ℕ) (at : ℕ) (c c' : List ℕ) (used : ℕ) (r : Result ℕ Unnamed) : Type 0 where
  pub answers : told r ≡ answer_of (placed s at used) (length c) at used (name_of at s)
  pub writes : c' ≡ content_of (placed s at used) es c at used (name_of at s)
