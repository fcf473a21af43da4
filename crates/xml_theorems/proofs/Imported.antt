-- From the contract of `import` to what is demanded of it. Assumes nothing.
use mathlib.Core.Path.{◌≡◌, refl, sym, ap, subst, ◌∙◌}
use mathlib.Core.Bool.{Bool, true, false, ◌&&◌, cond}
use mathlib.Core.List.{List, [], ◌++◌}
use Prim.Native.Nat.{ℕ, ◌≤◌, ◌<◌}
use native.Mathlib.Omega.{arith}
use lib.Dec.{leb}
use lib.ListN.{length, take, drop, length-append}
use lib.Seq.{take-append_seam}
use borrow.Author.Tests.{le-leb, lt-leb, leb-true}
use Rattle.laws.specs.Small.{differ}
use Rattle.reading.specs.Output.{Rewritten, refusal, written, fitted, output_of}
use Rattle.readers.specs.Judged.{judged_name, judges}
use Rattle.shortest.specs.File.{file_short}
use Rattle.xml_layout.specs.First.{FirstWrong}
use Rattle.xml_layout.specs.Xml.{Exports}
use Rattle.xml_layout.specs.Tree.{tree_of}
use Rattle.xml_reading.specs.Match.{Document, other, document}
use Rattle.xml_reading.specs.Import.{texts_of, takes_exactly, first_wrong}
use Rattle.xml_reading.specs.Answers.{imported, import_of}
use Rattle.xml_reading.specs.Theorems.{all_utf8, built_holds, imported_is}
use Rattle.std.specs.Prelude.{Result, Ok, Err}
use Rattle.answers.specs.declared.Refusal.{Refusal}
use Rattle.answers.specs.Refusals.{refusal as refused}
use Rattle.xml_import.specs.Puts.{answer_of}
use Rattle.xml_theorems.specs.Import.{file_of, Within, Built, Imports}

-- the file of texts whose XML an export can write
pub builds : (ts : List (List ℕ)) (xml : List ℕ) → Exports ts xml → Within ts → Built ts (file_of ts)
builds ts xml x w = record {
  holds = λ es. built_holds es (judged_name es) (judges es) ts (all_utf8 ts x.writable) w.few w.short;
  shortest = λ es bs l. file_short es (tree_of ts) bs l;
}

pub fits_in : (bytes : List ℕ) (n : ℕ) → length bytes ≤ n → fitted bytes n ≡ written bytes
unfolding fitted
fits_in bytes n h = rw (le-leb (length bytes) n h)

pub fits_not : (bytes : List ℕ) (n : ℕ) → n < length bytes → fitted bytes n ≡ refusal 21 (length bytes)
unfolding fitted
fits_not bytes n h = rw (lt-leb (length bytes) n h)

pub left_of : (x : Rewritten) (bytes out : List ℕ) → x ≡ written bytes → output_of x out ≡ bytes ++ drop (length bytes) out
unfolding output_of
left_of x bytes out e = rw e

pub left_as_it_was : (x : Rewritten) (number place : ℕ) (out : List ℕ) → x ≡ refusal number place → output_of x out ≡ out
unfolding output_of
left_as_it_was x number place out e = rw e

-- an output that begins with some bytes
pub begins_with : {n : ℕ} {end : List ℕ} (bytes rest : List ℕ) → n ≡ length bytes → end ≡ bytes ++ rest → (n ≤ length end) × (take n end ≡ bytes)
begins_with {n} {end} bytes rest e l = rw (e, l) (omega (arith, length-append bytes rest), take-append_seam bytes rest)

module _ (xml : List ℕ) (n : ℕ) where
  import_is : (ts : List (List ℕ)) → Exports ts xml → Within ts → import_of xml n ≡ fitted (file_of ts) n
  unfolding import_of imported
  import_is ts x w = rw ((takes_exactly xml ts).1 x, le-leb (length ts) 65535 w.few, le-leb (length (file_of ts)) 16777216 w.short)

  import_9 : (ts : List (List ℕ)) → Exports ts xml → (Within ts → ⊥) → import_of xml n ≡ refusal 9 0
  unfolding import_of imported
  import_9 ts x none_such = rw ((takes_exactly xml ts).1 x) (go (leb (length ts) 65535) (leb (length (file_of ts)) 16777216) refl refl) where
    go : (p q : Bool) → leb (length ts) 65535 ≡ p → leb (length (file_of ts)) 16777216 ≡ q → cond (p && q) (fitted (file_of ts) n) (refusal 9 0) ≡ refusal 9 0
    go true true ep eq = absurd (none_such (record { few = leb-true (length ts) 65535 ep; short = leb-true (length (file_of ts)) 16777216 eq }))
    go true false ep eq = refl
    go false q ep eq = refl

  import_64 : ((ts : List (List ℕ)) → Exports ts xml → ⊥) → (place : ℕ) × (import_of xml n ≡ refusal 64 place) × FirstWrong Exports xml place
  unfolding import_of imported
  import_64 none = go (texts_of xml) refl where
    go : (d : Document (List (List ℕ))) → texts_of xml ≡ d → (place : ℕ) × (imported d n ≡ refusal 64 place) × FirstWrong Exports xml place
    go (other place) e = (place, refl, first_wrong xml place e)
    go (document ts) e = absurd (none ts ((takes_exactly xml ts).0 e))

module _ (xml out : List ℕ) {end : List ℕ} {r : Result ℕ Refusal} (answers : r ≡ answer_of (import_of xml (length out))) (writes : end ≡ output_of (import_of xml (length out)) out) where
  told_only : (n : ℕ) → r ≡ Ok n → (x : Rewritten) → import_of xml (length out) ≡ x
      → (ts : List (List ℕ)) × Exports ts xml × Within ts × (n ≤ length end) × Built ts (take n end)
  told_only n e (refusal number place) q = let z : r ≡ Err (refused number place) = answers ∙ ap answer_of q in differ cc
  told_only n e (written bytes) q =
      let v = imported_is [] (judged_name []) (judges []) xml (length out) bytes q in
      let ts = v.texts_of_lem in
      let w : Within ts = record { few = v.few; short = omega (arith, ap length v.built, v.holds.lays.short) } in
      let z : r ≡ Ok (length bytes) = answers ∙ ap answer_of q in
      let k : n ≡ length bytes = cc in
      let l : end ≡ bytes ++ drop (length bytes) out = writes ∙ left_of (import_of xml (length out)) bytes out q in
      let b = begins_with bytes (drop (length bytes) out) k l in
      (ts, v.is, w, b.0, subst (Built ts) (sym (b.1 ∙ v.built)) (builds ts xml v.is w))

  told-refused : (number place : ℕ) → r ≡ Err (refused number place) → (x : Rewritten) → import_of xml (length out) ≡ x → end ≡ out
  told-refused number place e (refusal m p) q = writes ∙ left_as_it_was (import_of xml (length out)) m p out q
  told-refused number place e (written bytes) q = let z : r ≡ Ok (length bytes) = answers ∙ ap answer_of q in differ cc

  pub import_exact : Imports xml out end r
  import_exact = record {
    takes = λ ts x w h.
        let q = import_is xml (length out) ts x w ∙ fits_in (file_of ts) (length out) h in
        (answers ∙ ap answer_of q, writes ∙ left_of (import_of xml (length out)) (file_of ts) out q);
    only = λ n e. told_only n e (import_of xml (length out)) refl;
    other = λ none. let v = import_64 xml (length out) none in (v.0, answers ∙ ap answer_of v.1, v.2);
    too_much = λ ts x none_such. answers ∙ ap answer_of (import_9 xml (length out) ts x none_such);
    too_small = λ ts x w h. answers ∙ ap answer_of (import_is xml (length out) ts x w ∙ fits_not (file_of ts) (length out) h);
    unchanged = λ number place e. told-refused number place e (import_of xml (length out)) refl;
  }
