-- The five steps of reading a seven-bit number (000, "7BitEncodedInt", and 01's rule of five bytes); 02, Req 03: each says "exactly when it ends the number, hands on or refuses with 1 or 8, and with which value"; Req 06: "how many bytes were more than the shortest form has". Assumes nothing.
use Rattle.std.specs.Prelude.{Result, Ok, Err, cond, List, ℕ, ◌+◌, ◌*◌, ◌-◌, ◌%◌, ◌^◌, eqb, ltb, leb, length, get_or}
use Rattle.std.specs.Int.Bits.{bit_or}
use Rattle.reading.specs.Answer.{Answer, read, refused}
use Rattle.answers.specs.declared.Refusal.{Refusal}
use Rattle.answers.specs.Refusals.{refusal}
use Rattle.numbers.specs.declared.seven.Step.{Step}
use Rattle.numbers.specs.declared.seven.Step.TheVariants.{Ends, HandsOn}

-- what a step answers: the number ends, or the value so far is handed on, or a refusal
abbrev pub Stepped : Type 0
Stepped = Result Step Refusal

abbrev pub ends : (value next padding : ℕ) → Stepped
ends value next padding = Ok (Ends (record { value = value; next = next; padding = padding }))

abbrev pub hands_on : (low needed : ℕ) → Stepped
hands_on low needed = Ok (HandsOn low needed)

-- 000: "result |= (value & 0x7f) << bitsRead"
unfoldable pub joined : (low bits_read byte : ℕ) → ℕ
joined low bits_read byte = bit_or low (byte % 128 * 2 ^ bits_read)

-- how many bytes the shortest form of the value so far has, behind the byte with index k: it ends with the last byte whose low seven bits are not all 0
unfoldable pub needed_by : (k needed byte : ℕ) → ℕ
needed_by k needed byte = cond (eqb (byte % 128) 0) needed (k + 1)

-- the byte with index k of the number at `start`, after bytes of the value `low`, whose shortest form has `needed` bytes: missing it refuses with 1; below 80 hex it ends the number, and those of its k + 1 bytes that are not needed are its padding; else the value so far is handed on
unfoldable pub group : (k : ℕ) → List ℕ → (start low needed : ℕ) → Stepped
group k s start low needed =
    cond (leb (length s) (start + k)) (Err (refusal 1 start))
    (cond (ltb (get_or s (start + k) 0) 0x80)
    (ends (joined low (7 * k) (get_or s (start + k) 0)) (start + k + 1) (k + 1 - needed_by k needed (get_or s (start + k) 0)))
    (hands_on (joined low (7 * k) (get_or s (start + k) 0)) (needed_by k needed (get_or s (start + k) 0))))

-- steps 1 to 4, with index 0 to 3: what was handed on goes on with the step's byte, and what has ended or was refused stays
abbrev pub step : (k : ℕ) → List ℕ → (start : ℕ) → Stepped → Stepped
step k s start (Ok (HandsOn low needed)) = group k s start low needed
step k s start (Ok (Ends number)) = Ok (Ends number)
step k s start (Err e) = Err e

-- the fifth byte (01: "At most five bytes, the fifth at most 0F hex"): missing it refuses with 1; up to 0F hex it ends the number; else it refuses with 8
unfoldable pub last_group : List ℕ → (start low needed : ℕ) → Answer (ℕ × ℕ)
last_group s start low needed =
    cond (leb (length s) (start + 4)) (refused 1 start)
    (cond (leb (get_or s (start + 4) 0) 0x0F)
    (read (joined low 28 (get_or s (start + 4) 0), 5 - needed_by 4 needed (get_or s (start + 4) 0)) (start + 5))
    (refused 8 start))

-- step 5 (02: "the fifth hands nothing on"): the same with the fifth byte, and its answer, the value and the padding, has no case for handing on
abbrev pub last_step : List ℕ → (start : ℕ) → Stepped → Answer (ℕ × ℕ)
last_step s start (Ok (HandsOn low needed)) = last_group s start low needed
last_step s start (Ok (Ends number)) = read (number.value, number.padding) number.next
last_step s start (Err e) = refused e.number e.place
