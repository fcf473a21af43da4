-- An export that is imported, and an import that is exported. Assumes nothing.
use mathlib.Core.Path.{◌≡◌, refl, ap}
use mathlib.Core.List.{List}
use Prim.Native.Nat.{ℕ, suc, ◌≤◌}
use native.Mathlib.Omega.{arith}
use lib.ListN.{length, take, drop}
use Rattle.laws.specs.Small.{differ}
use Rattle.layout.specs.Tree.{size}
use Rattle.layout.specs.Table.{room_of}
use Rattle.layout.specs.Fits.{Fitting}
use Rattle.xml_layout.specs.Xml.{exported, Exports}
use Rattle.xml_layout.specs.Tree.{TextFile}
use Rattle.xml_reading.specs.Strings.{texts-rows, built_short}
use Rattle.std.specs.Prelude.{Result, Ok, Err}
use Rattle.answers.specs.declared.Refusal.{Refusal}
use Rattle.xml_theorems.specs.Import.{file_of, Within, Imports}
use Rattle.xml_theorems.specs.Export.{TextsIn, Holds, ExportsFile}
use Rattle.xml_theorems.specs.Trips.{KeepsTexts, ExportsSame}
use Rattle.xml_theorems.proofs.Imported.{builds, begins_with}

-- the texts of a file keep import's limits
module _ {enums file : List ℕ} {words : ℕ} (f : Fitting enums file words) (a : TextsIn f) (ts : List (List ℕ)) (h : Holds f a ts) where
  abbrev text_file : TextFile f.es ts file
  text_file = record { tree_of_lem = f.fits.tree; lays = f.fits.lays; id = a.id; own = a.own; children = a.children; objects = a.objects; reader = a.reader; strings = h.0 }

  pub within : Within ts
  unfolding room_of
  within =
      let rows : size f.fits.tree.objects ≡ suc (length ts) = texts-rows f.es text_file in
      record { few = omega (arith, f.fits.room); short = built_short f.es text_file }

  pub exports_it : Exports ts (exported ts)
  exports_it = record { writable = h.1; parts = refl }

module _ {enums file : List ℕ} {words : ℕ} {left out end : List ℕ} {r : Result ℕ Refusal} (x : ExportsFile enums file words left out end r) where
  -- an export that is refused is none of texts for which there is room
  not_refused : {e : Refusal} → r ≡ Err e → (f : Fitting enums file words) (a : TextsIn f) (ts : List (List ℕ)) → Holds f a ts → length (exported ts) ≤ length out → ⊥
  not_refused e f a ts h k =
      let l = (x.exports f a ts h k).0 in
      differ cc

  -- what was written
  xml_is : {n : ℕ} → r ≡ Ok n → (f : Fitting enums file words) (a : TextsIn f) (ts : List (List ℕ)) → Holds f a ts → length (exported ts) ≤ length out → take n end ≡ exported ts
  xml_is {n} e f a ts h k =
      let l = x.exports f a ts h k in
      let m : n ≡ length (exported ts) = cc in
      (begins_with (exported ts) (drop (length (exported ts)) out) m l.1).1

  pub not_imported : {e : Refusal} {second end₂ : List ℕ} {r₂ : Result ℕ Refusal} → r ≡ Err e → KeepsTexts enums file words (length out) second end₂ r₂
  not_imported e = record { keeps = λ f a ts h k l. absurd (not_refused e f a ts h k); too_small = λ f a ts h k l. absurd (not_refused e f a ts h k) }

  pub kept : {n : ℕ} {second end₂ : List ℕ} {r₂ : Result ℕ Refusal} → r ≡ Ok n → Imports (take n end) second end₂ r₂ → KeepsTexts enums file words (length out) second end₂ r₂
  kept {n} {second} {end₂} {r₂} e y =
      let z : (f : Fitting enums file words) (a : TextsIn f) (ts : List (List ℕ)) → Holds f a ts → length (exported ts) ≤ length out → Imports (exported ts) second end₂ r₂
      = λ f a ts h k. let p = xml_is e f a ts h k in rw p at y in
      record {
        keeps = λ f a ts h k l.
            let i = (z f a ts h k).takes ts (exports_it f a ts h) (within f a ts h) l in
            (i.0, i.1, builds ts (exported ts) (exports_it f a ts h) (within f a ts h));
        too_small = λ f a ts h k l. (z f a ts h k).too_small ts (exports_it f a ts h) (within f a ts h) l;
      }

module _ {xml out end : List ℕ} {r : Result ℕ Refusal} (x : Imports xml out end r) where
  pub not_exported : {enums : List ℕ} {words : ℕ} {e : Refusal} {second end₂ : List ℕ} {r₂ : Result ℕ Refusal} → r ≡ Err e → ExportsSame enums xml words (length out) second end₂ r₂
  not_exported e = record {
    same = λ ts t w l es lawful listed room fit.
        let i = (x.takes ts t w l).0 in
        differ cc;
  }

  pub same : {n : ℕ} {enums : List ℕ} {words : ℕ} {left second end₂ : List ℕ} {r₂ : Result ℕ Refusal} → r ≡ Ok n → ExportsFile enums (take n end) words left second end₂ r₂
      → ExportsSame enums xml words (length out) second end₂ r₂
  same {n} {enums} {words} {left} {second} {end₂} {r₂} e y = record {
    same = λ ts t w l es lawful listed room fit.
        let i = x.takes ts t w l in
        let m : n ≡ length (file_of ts) = cc in
        let p : take n end ≡ file_of ts = (begins_with (file_of ts) (drop (length (file_of ts)) out) m i.1).1 in
        let z : ExportsFile enums (file_of ts) words left second end₂ r₂ = rw p at y in
        let b = (builds ts xml t w).holds es in
        let f : Fitting enums (file_of ts) words = record { es = es; lawful = lawful; listed = listed; fits = record { tree = b.tree_of_lem; lays = b.lays; room = omega (arith, room, texts-rows es b) } } in
        let a : TextsIn f = record { id = b.id; own = b.own; children = b.children; objects = b.objects; reader = b.reader } in
        let o = z.exports f a ts (b.strings, t.writable) (omega (arith, ap length t.parts)) in
        rw t.parts (o.0, o.1);
  }
