-- What is promised of reading packs, over the layout alone, for every mark and so for both forms. The requests are quoted. Assumes nothing.
use Rattle.std.specs.Prelude.{◌≡◌, ◌↔◌, eqb}
use Rattle.std.proofs.Math.Path.{refl, ap}
use Rattle.std.proofs.Common.{sym, ◌∙◌}
use mathlib.Core.List.{List, [], ◌∷◌, ◌++◌, append-nil}
use Prim.Native.Nat.{ℕ, suc, ◌+◌, ◌*◌, ◌-◌, ◌≤◌}
use native.Mathlib.Omega.{arith}
use Rattle.std.proofs.Math.ListN.{length, drop, replicate}
use Rattle.std.proofs.Math.Seq.{drop-length}
use borrow.Author.Tests.{eqb-true, eq-eqb}
use Rattle.reading.specs.Answer.{Answer, refused, read, bind, check, Ok, is_read, ok_bind, ok_check}
use Rattle.reading.specs.Reads.{Small, reads_unique}
use Rattle.pack_layout.specs.Pack.{Stored, record_bytes, PackLays}
use Rattle.pack_layout.specs.Table.{Entry, flat, entries, Fitting, files_room}
use Rattle.pack_reading.specs.Pack.{files_at, pack_at, Pack, refusal, accepted, to_pack, pack_of, table_of}
use Rattle.pack_reading.proofs.Laws.{files_reads}
use Rattle.pack_reading.specs.Theorems.{Accepts}

module _ (mark : List ℕ) where
  -- ---- Unique reading

  -- Of any two packs of one form: where bytes of the one equal or begin bytes of the other, the packs are the same, down to the bytes of each path's length, and so are the bytes.
  pub unique_pack : (fs gs : List Stored) (bs cs rest : List ℕ) → PackLays mark fs bs → PackLays mark gs cs → bs ++ rest ≡ cs → (fs ≡ gs) × (bs ≡ cs)
  unique_pack fs gs bs cs rest v w e =
      reads_unique (λ file. files_at mark file 4096) (λ file. files_reads mark file 4096) rest [] (v.not_many, v) (w.not_many, w) (e ∙ sym (append-nil cs))

  -- ---- Acceptance: for every file and every room

  pub pack_complete : (file : List ℕ) (room : ℕ) (fs : List Stored) → PackLays mark fs file → length fs ≤ room → pack_at mark file room ≡ read fs (length file)
  unfolding pack_at bind check
  pack_complete file room fs w fit =
      let z : 0 + length file ≡ length file = omega arith in
      let r : files_at mark file room 0 ≡ read fs (length file) = rw z at ((files_reads mark file room).complete fs file [] 0 (fit, w) (sym (append-nil file))) in
      rw (r, eq-eqb (length file) (length file) refl)

  pub pack_sound : (file : List ℕ) (room : ℕ) → Small file → Ok (λ fs e. PackLays mark fs file × (length fs ≤ room)) (pack_at mark file room)
  unfolding pack_at
  pack_sound file room small =
      ok_bind ((files_reads mark file room).sound small 0) (λ fs e v. ok_check (eqb e (length file)) 20 e _ (λ t.
      let end : drop e file ≡ [] = ap (λ (n : ℕ). drop n file) (eqb-true e (length file) t) ∙ drop-length file in
      let all : file ≡ v.0 = v.2 ∙ ap (λ (l : List ℕ). v.0 ++ l) end ∙ append-nil v.0 in
      is_read (rw all v.1.1, v.1.0)))

  module _ (file : List ℕ) (words : ℕ) where
    pub files_are : (f : Fitting mark file words) → pack_of mark file words ≡ accepted f.files
    unfolding pack_of to_pack
    files_are f = rw (pack_complete file (files_room words) f.files f.lays f.room)

    fitting : (x : Answer (List Stored)) → Ok (λ fs e. PackLays mark fs file × (length fs ≤ files_room words)) x → Accepts (to_pack x) → Fitting mark file words
    unfolding Accepts to_pack
    fitting (refused number place) o a = absurd a
    fitting (read fs e) o a = let v = o.got refl in record { files = fs; lays = v.0; room = v.1 }

    -- a pack is accepted exactly when some files may have these bytes and the table has room for them
    pub accepts : Small file → Accepts (pack_of mark file words) ↔ Fitting mark file words
    unfolding pack_of Accepts
    accepts small = (λ a. fitting (pack_at mark file (files_room words)) (pack_sound file (files_room words) small) a, λ f. rw (files_are f) tt)

  module _ (file : List ℕ) (words : ℕ) where
    -- four words for each file, and zeros behind them
    pub table_is : (f : Fitting mark file words)
        → table_of mark (pack_of mark file words) words ≡ flat (entries mark 4 f.files) ++ replicate (words - 4 * length f.files) 0
    unfolding table_of
    table_is f = rw (files_are file words f)

    -- where no pack fits, the answer is one refusal's number and place, and the table is all zero
    pub refuses : Small file → (Fitting mark file words → ⊥)
        → (number : ℕ) × (place : ℕ) × (pack_of mark file words ≡ refusal number place) × (table_of mark (pack_of mark file words) words ≡ replicate words 0)
    unfolding Accepts table_of
    refuses small none = go (pack_of mark file words) refl where
      go : (x : Pack) → pack_of mark file words ≡ x
          → (number : ℕ) × (place : ℕ) × (pack_of mark file words ≡ refusal number place) × (table_of mark (pack_of mark file words) words ≡ replicate words 0)
      go (refusal number place) e = (number, place, e, rw e)
      go (accepted fs) e = absurd (none ((accepts file words small).0 (rw e tt)))
