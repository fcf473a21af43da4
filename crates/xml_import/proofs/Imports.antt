-- What importing answers, and the whole file in the output. Assumes nothing.
use mathlib.Core.Path.{◌≡◌, refl, sym, ap, ◌∙◌}
use mathlib.Core.List.{List, [], ◌∷◌, ◌++◌, append_assoc}
use Prim.Native.Nat.{ℕ, ◌+◌, ◌≤◌, ◌<◌}
use native.Mathlib.Omega.{arith}
use lib.ListN.{length, take, drop}
use borrow.Author.Tests.{le-leb, lt-leb}
use Rattle.layout.specs.Number.{little}
use Rattle.layout.specs.Text.{ascii}
use Rattle.layout.specs.Tree.{count}
use Rattle.layout.specs.File.{shared_of, header}
use Rattle.layout.specs.Shortest.{shortest, fewest, short, short_entry, short_entries, short_lists, short_body, short_file}
use Rattle.fill.specs.Fill.{copied}
use Rattle.reading.specs.Output.{Rewritten, refusal, written, fitted, output_of}
use Rattle.shortest.specs.File.{length_file}
use Rattle.xml_layout.specs.Tree.{array_name, string_name, text_trees, tree_of}
use Rattle.xml_reading.specs.Match.{document}
use Rattle.xml_reading.specs.Import.{texts_of}
use Rattle.xml_reading.specs.Laid.{short-array}
use Rattle.xml_reading.specs.Strings.{built_length}
use Rattle.xml_reading.specs.Answers.{imported, import_of}
use Rattle.xml_escape.specs.Wrote.{Wrote, wrote-copy}
use Rattle.std.specs.Prelude.{Ok, Err}
use Rattle.answers.specs.Refusals.{refusal as refused}
use Rattle.xml_import.specs.declared.Measured.{Measured}
use Rattle.xml_import.specs.Places.{Measures}
use Rattle.xml_import.specs.Puts.{header_bytes, lists_bytes, front_put, Fits, StringsPut, answer_of}

-- ---- What stands before the texts

abbrev front : (size many : ℕ) → List ℕ
front size many = ((header_bytes ++ little 4 size) ++ lists_bytes) ++ little 4 many

header-whole : (take 6 (drop 0 header_bytes) ≡ header_bytes) × (length header_bytes ≡ 6)
unfolding header_bytes ascii
header-whole = (refl, refl)

lists_whole : (take 119 (drop 0 lists_bytes) ≡ lists_bytes) × (length lists_bytes ≡ 119)
unfolding lists_bytes short_lists short_entries short_entry array_name string_name shortest fewest little ascii
lists_whole = (refl, refl)

four-whole : (n : ℕ) → (take 4 (drop 0 (little 4 n)) ≡ little 4 n) × (length (little 4 n) ≡ 4)
unfolding little
four-whole n = (refl, refl)

pub front_put_lem : (base : List ℕ) (size many : ℕ) {exit : List ℕ} → 133 ≤ length base → exit ≡ front_put size many base → Wrote base (front size many) exit 133
unfolding front_put
front_put_lem base size many {exit} h e =
    let w₀ : Wrote base [] base 0 = record { long = refl; stands = refl } in
    let w₁ : Wrote base header_bytes (copied base 0 header_bytes 0 6) 6
    = rw header-whole.0 at (wrote-copy w₀ header_bytes 0 6 (omega arith) (omega (arith, header-whole.1)) refl) in
    let w₂ = rw (four-whole size).0 at (wrote-copy w₁ (little 4 size) 0 4 (omega arith) (omega (arith, (four-whole size).1)) refl) in
    let w₃ = rw lists_whole.0 at (wrote-copy w₂ lists_bytes 0 119 (omega arith) (omega (arith, lists_whole.1)) refl) in
    rw (four-whole many).0 at (wrote-copy w₃ (little 4 many) 0 4 (omega arith) (omega (arith, (four-whole many).1)) e)

-- with the texts it is the shortest file
pub whole_file : (ts : List (List ℕ)) (size many : ℕ) → size ≡ length (short_file (tree_of ts)) → many ≡ length ts → front size many ++ short (text_trees ts) ≡ short_file (tree_of ts)
unfolding short_file short_body tree_of header header_bytes lists_bytes ascii shared_of count
whole_file ts size many es em =
    let l : size ≡ 10 + length (short_body (tree_of ts)) = es ∙ length_file (tree_of ts) in
    let h = header_bytes ++ little 4 size in
    let L = short_lists (array_name ∷ string_name ∷ []) 0 in
    let x = short (text_trees ts) in
    let c = little 4 many in
    let a : ((h ++ (L ++ shortest 1)) ++ c) ++ x ≡ h ++ (L ++ (shortest 1 ++ (c ++ x)))
    = append_assoc (h ++ (L ++ shortest 1)) c x ∙ append_assoc h (L ++ shortest 1) (c ++ x) ∙ ap (λ (q : List ℕ). h ++ q) (append_assoc L (shortest 1) (c ++ x)) in
    a ∙ rw (em, ← short-array ts, l)

-- ---- The answers

pub refused-answer : {x : Rewritten} {number place : ℕ} (out : List ℕ) → x ≡ refusal number place → (Err (refused number place) ≡ answer_of x) × (out ≡ output_of x out)
unfolding output_of
refused-answer out e = rw e (refl, refl)

pub other_form : (xml : List ℕ) (out place : ℕ) → Measures xml (Err place) → import_of xml out ≡ refusal 64 place
unfolding Measures import_of imported
other_form xml out place e = rw e

-- the texts that were measured
pub record Found (xml : List ℕ) (many size : ℕ) : Type 0 where
  pub ts : List (List ℕ)
  pub is : texts_of xml ≡ document ts
  pub counted : many ≡ length ts
  pub sized : size ≡ length (short_file (tree_of ts))

pub found : (xml : List ℕ) (m : Measured) → Measures xml (Ok m) → Found xml m.count m.size
unfolding Measures
found xml m v =
    record { ts = v.0; is = v.1; counted = v.2; sized = v.3 }

module _ {xml : List ℕ} {many size : ℕ} (f : Found xml many size) (out : ℕ) where
  pub too_many : 65535 < many → import_of xml out ≡ refusal 9 0
  unfolding import_of imported
  too_many h = rw (f.is, lt-leb (length f.ts) 65535 (omega (arith, f.counted)))

  module _ (few : many ≤ 65535) where
    pub too_long : 16777216 < size → import_of xml out ≡ refusal 9 0
    unfolding import_of imported
    too_long h = rw (f.is, le-leb (length f.ts) 65535 (omega (arith, f.counted)), lt-leb (length (short_file (tree_of f.ts))) 16777216 (omega (arith, f.sized)))

    module _ (small : size ≤ 16777216) where
      within_limits : import_of xml out ≡ fitted (short_file (tree_of f.ts)) out
      unfolding import_of imported
      within_limits = rw (f.is, le-leb (length f.ts) 65535 (omega (arith, f.counted)), le-leb (length (short_file (tree_of f.ts))) 16777216 (omega (arith, f.sized)))

      pub too_small : out < size → import_of xml out ≡ refusal 21 size
      unfolding fitted
      too_small h = within_limits ∙ rw (← f.sized, lt-leb size out h)

      pub enough : size ≤ out → import_of xml out ≡ written (short_file (tree_of f.ts))
      unfolding fitted
      enough h = within_limits ∙ rw (le-leb (length (short_file (tree_of f.ts))) out (omega (arith, f.sized)))

      pub fits : {n : ℕ} → n ≡ out → size ≤ out → Fits xml many size n
      fits e h = record { ts = f.ts; is = f.is; many = f.counted; sized = f.sized; short_file_lem = omega (arith, f.sized); room = omega (arith, f.sized) }

-- the file is written
pub written-answer : {xml : List ℕ} {many size : ℕ} (f : Found xml many size) (out mid end : List ℕ) → many ≤ 65535 → size ≤ 16777216 → size ≤ length out
    → mid ≡ front_put size many out → StringsPut xml mid end
    → (Ok size ≡ answer_of (import_of xml (length out))) × (end ≡ output_of (import_of xml (length out)) out)
unfolding output_of StringsPut
written-answer {xml} {many} {size} f out mid end few small h e p =
    let b = built_length f.ts in
    let w = front_put_lem out size many (omega (arith, f.sized)) e in
    let v = p f.ts f.is out (front size many) w (omega (arith, f.sized)) in
    let a = whole_file f.ts size many f.sized f.counted in
    let n : 133 + length (short (text_trees f.ts)) ≡ length (short_file (tree_of f.ts)) = sym b in
    rw (enough f (length out) few small h) (ap Ok f.sized, v.stands ∙ ap (λ (l : List ℕ). l ++ drop (133 + length (short (text_trees f.ts))) out) a ∙ ap (λ (k : ℕ). short_file (tree_of f.ts) ++ drop k out) n)
