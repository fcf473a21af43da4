-- Text (01: "UTF-8 by RFC 3629"), and quoted text in specifications. Assumes nothing.
use Rattle.std.specs.Prelude.{List, [], ◌∷◌, ◌++◌, ◌⊎◌, ℕ, ◌+◌, ◌/◌, ◌%◌, ◌<◌, ◌≤◌}
use Prim.Native.Char.{code}
use Prim.Native.String as S
use Prim.Native.String.{String}

-- the codes of an ASCII text's characters
unfoldable pub ascii : String → List ℕ
ascii S.[] = []
ascii (S.◌∷◌ c s) = code c ∷ ascii s

-- RFC 3629, section 3: the character number c and its bytes. D800 to DFFF hex are surrogates and no characters, and 10FFFF hex is the last.
pub data Utf8 : ℕ → List ℕ → Type 0 where
  one : {c : ℕ} → c < 0x80 → Utf8 c (c ∷ [])
  two : {c : ℕ} → 0x80 ≤ c → c < 0x800 → Utf8 c ((0xC0 + c / 64) ∷ (0x80 + c % 64) ∷ [])
  three : {c : ℕ} → 0x800 ≤ c → c < 0x10000 → (c < 0xD800) ⊎ (0xE000 ≤ c)
      → Utf8 c ((0xE0 + c / 4096) ∷ (0x80 + c / 64 % 64) ∷ (0x80 + c % 64) ∷ [])
  four : {c : ℕ} → 0x10000 ≤ c → c < 0x110000
      → Utf8 c ((0xF0 + c / 262144) ∷ (0x80 + c / 4096 % 64) ∷ (0x80 + c / 64 % 64) ∷ (0x80 + c % 64) ∷ [])

-- 01: "Char: one such character of 1 to 3 bytes"
abbrev pub Character : ℕ → List ℕ → Type 0
Character c bs = (c < 0x10000) × Utf8 c bs

-- a text: characters one after the other
pub data Utf8s : List ℕ → Type 0 where
  end : Utf8s []
  then : {c : ℕ} {bs rest : List ℕ} → Utf8 c bs → Utf8s rest → Utf8s (bs ++ rest)
