-- A head looked up in a list of entries. Assumes nothing.
use mathlib.Core.Path.{◌≡◌, refl, sym, ap, ◌∙◌}
use mathlib.Core.Bool.{Bool, true, false, ◌&&◌, cond, true≢false}
use mathlib.Core.List.{List, [], ◌∷◌}
use Prim.Native.Nat.{ℕ, zero, suc, ◌+◌, ◌-◌, ◌≤◌, ◌<◌}
use native.Mathlib.Omega.{arith}
use lib.Dec.{eqb, ltb}
use lib.ListN.{length, take, drop, get_or, length-drop}
use borrow.Author.Tests.{lt-ltb, le-ltb, le-leb}
use Rattle.layout.specs.Number.{between}
use Rattle.layout.specs.Kind.{KindEntry, kind_entry, alike, lookup}
use Rattle.layout.specs.EnumList.{EnumEntry, entry, write_enums, size_in}
use Rattle.names.specs.Codes.{alike_then}
use Rattle.names.specs.Entries.{entries_in, entries_of, listing}
use Rattle.names.specs.EntryLaws.{entries-written, listing_is}
use Rattle.std.specs.Cmp.Lexicographic.{pointwise}

pub alike-length : (h n : List ℕ) → (length h ≡ length n → ⊥) → false ≡ alike h n
unfolding alike
alike-length [] [] e = absurd (e refl)
alike-length [] (b ∷ h) e = refl
alike-length (a ∷ n) [] e = refl
alike-length (a ∷ n) (b ∷ h) e =
    elim (eqb a b) as (λ x. false ≡ (x && alike n h)) [ true ↦ alike-length n h (λ q. e (ap suc q)) | false ↦ refl ]

-- the library's test of two texts
pub alike_is : (a b : List ℕ) → pointwise eqb a b ≡ alike a b
unfolding alike
alike_is [] [] = refl
alike_is [] (y ∷ b) = refl
alike_is (x ∷ a) [] = refl
alike_is (x ∷ a) (y ∷ b) = rw (alike_is a b)

-- texts that are not the same are not alike
pub alike_apart : (a b : List ℕ) → (b ≡ a → ⊥) → alike a b ≡ false
alike_apart a b n =
    elim (alike a b) as (λ r. alike a b ≡ r → r ≡ false) [ true ↦ (λ e. absurd (n (sym (alike_then a b e)))) | false ↦ (λ e. refl) ] refl

pub no_bytes : (s : List ℕ) → length s ≡ 0 → s ≡ []
no_bytes [] e = refl
no_bytes (b ∷ s) e = absurd (omega arith)

-- no bytes hold no entry
no_entries : (most : ℕ) → entries_in most [] ≡ []
unfolding entries_in
no_entries zero = refl
no_entries (suc m) = refl

-- the entries that are left are as good as all
pub record Left (table head rest : List ℕ) : Type 0 where
  pub most : ℕ
  pub enough : length rest ≤ most
  pub same : size_in (entries_in most rest) head ≡ size_in (entries_of table) head

pub left_start : (table head : List ℕ) → Left table head table
unfolding entries_of
left_start table head = record { most = length table; enough = omega arith; same = refl }

pub find_none : {table head : List ℕ} → Left table head [] → 0 ≡ size_in (entries_of table) head
unfolding size_in
find_none {table} {head} l = sym (ap (λ (es : List EnumEntry). size_in es head) (no_entries l.most)) ∙ l.same

-- the entry that stands first: the length of its name, the name and the byte behind it
module _ {table head : List ℕ} {size : ℕ} {s : List ℕ} (left : Left table head (size ∷ s)) where
  opened : entries_in left.most (size ∷ s) ≡ cond (ltb size (length s)) (entry (take size s) (get_or s size 0) ∷ entries_in (left.most - 1) (drop (suc size) s)) []
  unfolding entries_in
  opened =
      let z : left.most ≡ suc (left.most - 1) = omega (arith, left.enough) in
      ap (λ (m : ℕ). entries_in m (size ∷ s)) z

  pub find_cut : length s ≤ size → 0 ≡ size_in (entries_of table) head
  unfolding size_in
  find_cut c =
      let e : entries_in left.most (size ∷ s) ≡ [] = opened ∙ rw (le-ltb size (length s) c) in
      sym (ap (λ (es : List EnumEntry). size_in es head) e) ∙ left.same

  module _ (c : size < length s) where
    whole : size_in (entries_in left.most (size ∷ s)) head ≡ cond (alike head (take size s)) (get_or s size 0) (size_in (entries_in (left.most - 1) (drop (suc size) s)) head)
    unfolding size_in
    whole =
        let e : entries_in left.most (size ∷ s) ≡ entry (take size s) (get_or s size 0) ∷ entries_in (left.most - 1) (drop (suc size) s) = opened ∙ rw (lt-ltb size (length s) c) in
        ap (λ (es : List EnumEntry). size_in es head) e

    pub find_this : alike head (take size s) ≡ true → get_or s size 0 ≡ size_in (entries_of table) head
    find_this b = sym (whole ∙ rw b) ∙ left.same

    pub find_next : alike head (take size s) ≡ false → Left table head (drop (size + 1) s)
    find_next b =
        let z : suc size ≡ size + 1 = omega arith in
        record {
          most = left.most - 1;
          enough = omega (arith, left.enough, length-drop (size + 1) s);
          same = ap (λ (k : ℕ). size_in (entries_in (left.most - 1) (drop k s)) head) (sym z) ∙ sym (whole ∙ rw b) ∙ left.same;
        }

-- an entry, or none
abbrev keep : Bool → KindEntry → List KindEntry → List KindEntry
keep true e es = e ∷ es
keep false e es = es

-- those entries whose head's length is of a class
unfoldable pub part : (ℕ → Bool) → List KindEntry → List KindEntry
part p [] = []
part p (kind_entry n k ∷ es) = keep (p (length n)) (kind_entry n k) (part p es)

kept_found : (p : ℕ → Bool) (h n : List ℕ) (k : ℕ) (s t : List KindEntry) (b : Bool) → p (length h) ≡ true → p (length n) ≡ b →
    lookup h s ≡ lookup h t → lookup h (keep b (kind_entry n k) s) ≡ lookup h (kind_entry n k ∷ t)
unfolding lookup
kept_found p h n k s t true w q e = rw e
kept_found p h n k s t false w q e = rw (sym (alike-length h n (λ z. true≢false (sym w ∙ ap p z ∙ q))), e)

-- a head whose length is of the class is found in the part, if it is in the whole
part_found : (p : ℕ → Bool) (h : List ℕ) (es : List KindEntry) → p (length h) ≡ true → lookup h (part p es) ≡ lookup h es
unfolding part
part_found p h [] w = refl
part_found p h (kind_entry n k ∷ es) w = kept_found p h n k (part p es) es (p (length n)) w refl (part_found p h es w)

-- a table of heads and kinds that has such a part
pub table_found : (p : ℕ → Bool) (es : List KindEntry) (table h : List ℕ) → table ≡ write_enums (listing (part p es)) → p (length h) ≡ true →
    size_in (entries_of table) h ≡ lookup h es
table_found p es table h e w =
    let is : entries_of table ≡ listing (part p es) = ap entries_of e ∙ entries-written (listing (part p es)) in
    ap (λ (l : List EnumEntry). size_in l h) is ∙ listing_is (part p es) h ∙ part_found p h es w

pub between_is : (low high n : ℕ) → low ≤ n → n ≤ high → between low high n ≡ true
between_is low high n l h = rw (le-leb low n l, le-leb n high h)
