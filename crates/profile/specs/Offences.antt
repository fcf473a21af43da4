-- Where a file that the plain loader accepts breaks the driver's profile (02, Req 07: "41 to 47 in the order named, each at the first offence in file order: the byte, number, reader name (the later of two), later key, object or reference"). Assumes nothing.
use Rattle.std.specs.Prelude.{Bool, false, not, ◌&&◌, ◌||◌, cond, List, [], ◌∷◌, ◌++◌, ℕ, zero, suc, ◌+◌, ◌/◌, min, eqb, length, drop, get_or}
use Rattle.layout.specs.Target.{Target}
use Rattle.layout.specs.Rows.{Row}
use Rattle.reading.specs.Answer.{Answer, refused, read}
use Rattle.reading.specs.Seven.{seven_at}
use Rattle.reading.specs.Rules as targets
use Rattle.reading.specs.Same.{same}
use Rattle.reading.specs.File.{Named, lists_at, Load, refusal, accepted, load_of}
use Rattle.numbers.specs.Padded.{past, pad_of}
use Rattle.places.specs.Places.{entries_end, file_places}
use Rattle.profile.specs.Stand.{text_of}
use Rattle.profile.specs.Profile.{first_of}

-- the place of something that a test finds wrong
unfoldable pub wrong_at : Bool → (place : ℕ) → List ℕ
wrong_at wrong place = cond wrong (place ∷ []) []

-- ---- Rows that begin with a value's: the rows behind it and all below it, the rows from the j-th value on, and words of the first

unfoldable pub next : List Row → List Row
next [] = []
next (r ∷ rows) = drop r.branch (r ∷ rows)

unfoldable pub skip : ℕ → List Row → List Row
skip zero rows = rows
skip (suc j) rows = skip j (next rows)

unfoldable pub kind_of : List Row → ℕ
kind_of [] = 0
kind_of (r ∷ rows) = r.kind

unfoldable pub detail_of : List Row → ℕ
detail_of [] = 0
detail_of (r ∷ rows) = r.detail

-- ---- The places of what is wrong, in file order

-- where the name of reader i starts: behind its length, which stands where i readers end
unfoldable pub name_start : (file : List ℕ) (i : ℕ) → ℕ
name_start file i = let at = entries_end file i (past (seven_at file 10) 10) in past (seven_at file at) at

-- 41: "platform `w`"; "the byte"
unfoldable pub other_platform : (file : List ℕ) → List ℕ
other_platform file = wrong_at (not (eqb (get_or file 3 0) 0x77)) 3

-- 42: "every 7-bit number shortest"; "number": of the numbers at some places, those that have padding
unfoldable pub padded : (file : List ℕ) → List ℕ → List ℕ
padded file [] = []
padded file (at ∷ places) = wrong_at (not (eqb (pad_of (seven_at file at) at) 0)) at ++ padded file places

-- 43: "every listed reader used by some type id": a row that is no shared reference names the reader
unfoldable pub uses : (id : ℕ) → List Row → Bool
uses id [] = false
uses id (r ∷ rows) = (eqb r.detail id && not (eqb r.kind 36)) || uses id rows

-- "reader name": of n readers from reader i on
unfoldable pub unused : (file : List ℕ) → List Row → (n i : ℕ) → List ℕ
unused file rows zero i = []
unused file rows (suc n) i = wrong_at (not (uses (suc i) rows)) (name_start file i) ++ unused file rows n (suc i)

-- 44: "no two readers with equal targets"; "reader name (the later of two)": of the readers behind those seen, the first of which is reader i
unfoldable pub among : Target → List Target → Bool
among t [] = false
among t (u ∷ seen) = targets.same u t || among t seen

unfoldable pub doubled : (file : List ℕ) → (seen readers : List Target) (i : ℕ) → List ℕ
doubled file seen [] i = []
doubled file seen (t ∷ readers) i = wrong_at (among t seen) (name_start file i) ++ doubled file (t ∷ seen) readers (suc i)

-- 45: "no two String keys of equal bytes in one dictionary". The rows of n keys, where these rows begin with the first key's: key and value in turn.
unfoldable pub key_rows : (n : ℕ) → List Row → List Row
key_rows zero rows = []
key_rows (suc n) [] = []
key_rows (suc n) (r ∷ rows) = r ∷ key_rows n (skip 2 (r ∷ rows))

-- a String with the bytes of one of those seen
unfoldable pub twin : (file : List ℕ) → (q r : Row) → Bool
twin file q r = eqb q.kind 13 && (eqb r.kind 13 && same (text_of file q) (text_of file r))

unfoldable pub repeats : (file : List ℕ) → (seen : List Row) → Row → Bool
repeats file [] r = false
repeats file (q ∷ seen) r = twin file q r || repeats file seen r

-- "later key": of one dictionary's keys behind those seen
unfoldable pub twins : (file : List ℕ) → (seen keys : List Row) → List ℕ
twins file seen [] = []
twins file seen (r ∷ keys) = wrong_at (repeats file seen r) r.first ++ twins file (r ∷ seen) keys

-- of all dictionaries, one after the other; a dictionary may stand in another one's value, so these are not in file order
unfoldable pub repeated : (file : List ℕ) → List Row → List ℕ
repeated file [] = []
repeated file (r ∷ rows) = cond (eqb r.kind 19) (twins file [] (key_rows ((r.children + 1) / 2) rows)) [] ++ repeated file rows

-- 46: "a first object that is a Page"; "object"
unfoldable pub no_page : List Row → List ℕ
no_page rows = wrong_at (not (eqb (kind_of rows) 34)) (first_of rows)

-- 47: "no page whose next has resource id 0"; "reference": the fourth child of a page
unfoldable pub nextless : List Row → List ℕ
nextless [] = []
nextless (r ∷ rows) = wrong_at (eqb r.kind 34 && eqb (detail_of (skip 3 rows)) 0) (first_of (skip 3 rows)) ++ nextless rows

-- ---- The first of them, by number and then by place

pub data Offence : Type 0 where
  fine : Offence
  fault : (number place : ℕ) → Offence

-- the first of places in file order, or what comes after
unfoldable pub first : (number : ℕ) → List ℕ → Offence → Offence
first number [] x = x
first number (p ∷ places) x = fault number p

-- the lowest of places
unfoldable pub lowest : ℕ → List ℕ → ℕ
lowest p [] = p
lowest p (q ∷ places) = lowest (min p q) places

unfoldable pub first_lowest : (number : ℕ) → List ℕ → Offence → Offence
first_lowest number [] x = x
first_lowest number (p ∷ places) x = fault number (lowest p places)

-- of a file with readers of these targets and these rows: by the rules from one on, and by all
unfoldable pub from47 : List Row → Offence
from47 rows = first 47 (nextless rows) fine

unfoldable pub from46 : List Row → Offence
from46 rows = first 46 (no_page rows) (from47 rows)

unfoldable pub from45 : (file : List ℕ) → List Row → Offence
from45 file rows = first_lowest 45 (repeated file rows) (from46 rows)

unfoldable pub from44 : (file : List ℕ) → List Target → List Row → Offence
from44 file readers rows = first 44 (doubled file [] readers 0) (from45 file rows)

unfoldable pub from43 : (file : List ℕ) → List Target → List Row → Offence
from43 file readers rows = first 43 (unused file rows (length readers) 0) (from44 file readers rows)

unfoldable pub from42 : (file : List ℕ) → List Target → List Row → Offence
from42 file readers rows = first 42 (padded file (file_places file (length readers) rows)) (from43 file readers rows)

unfoldable pub fault_of : (file : List ℕ) (readers : List Target) (rows : List Row) → Offence
fault_of file readers rows = first 41 (other_platform file) (from42 file readers rows)

-- ---- What the driver's loader answers

-- "all of 01's first, then 41 to 47"; "Its rows are then the plain loader's"
unfoldable pub by_fault : Offence → Load → Load
by_fault fine x = x
by_fault (fault number place) x = refusal number place

-- the targets of the readers of a file that the plain loader accepts
unfoldable pub targets_of : Answer (List (List ℕ) × List Target × ℕ) → List Target
targets_of (refused number place) = []
targets_of (read l e) = l.1

unfoldable pub profiled : (file : List ℕ) (readers : List Target) → Load → Load
profiled file readers (refusal number place) = refusal number place
profiled file readers (accepted rows count shared) = by_fault (fault_of file readers rows) (accepted rows count shared)

unfoldable pub driver_of : (ℕ → List ℕ → Named) → (file : List ℕ) (words : ℕ) → Load
driver_of name_of file words = profiled file (targets_of (lists_at name_of file 10)) (load_of name_of file words)
