-- What the bytes of a file that holds an Array of String say of its texts (Req 13). Assumes nothing.
use Rattle.std.specs.Prelude.{◌≡◌, Bool, true, false, cond, ◌&&◌, ◌||◌, ◌⊎◌, get_or, replicate}
use Rattle.std.proofs.Math.Path.{refl, ap}
use Rattle.std.proofs.Common.{sym, subst, ◌∙◌, inl, inr}
use mathlib.Core.List.{List, [], ◌∷◌, ◌++◌}
use Prim.Native.Nat.{ℕ, zero, suc, ◌+◌, ◌≤◌, ◌<◌}
use native.Mathlib.Omega.{arith}
use Rattle.std.proofs.Math.ListN.{length, length-append}
use Rattle.laws.specs.Small.{differ, either}
use Rattle.layout.specs.Number.{Seven, little}
use Rattle.layout.specs.Text.{ascii, Utf8s}
use Rattle.layout.specs.Target.{Target, string, object as anything, texture, texture_2d, array, kind_of, is_value, Serves}
use Rattle.layout.specs.Tree.{Trees, none, tree, count, size}
use Rattle.layout.specs.Slot.{object, raw_or_object, slot_of, Plan, stop, each}
use Rattle.layout.specs.Head.{Textual, Counted, Head}
use Rattle.layout.specs.Layout.{Reader, Raw, Null, Object, Value, Lays}
use Rattle.layout.specs.Resource.{Resource}
use Rattle.layout.specs.EnumList.{EnumEntry}
use Rattle.layout.specs.Named.{named}
use Rattle.layout.specs.File.{FileTree, shared_of, header, objects_plan, Entry, Entries, Lists, FileLays}
use Rattle.layout.specs.Shortest.{fewest, shortest, numbered, id_bytes, body, short, short_entry, short_entries, short_lists, short_body, short_file}
use Rattle.reading.specs.Rules.{decided, same, same_true, same_refl, serves, serves-complete}
use Rattle.reading.specs.Seven.{some_bytes}
use Rattle.reading.specs.Little.{length-little}
use Rattle.numbers.specs.Shortest.{shortest_is}
use Rattle.shortest.specs.File.{length_file, length-header}
use Rattle.xml_layout.specs.Xml.{Each}
use Rattle.xml_layout.specs.Tree.{array_name, string_name, text_trees, tree_of, Strings, TextFile, TextArray}
use Rattle.xml_reading.specs.Names.{array_long, string-long}
use Rattle.xml_reading.specs.Laid.{short-array}

-- ---- Strings one after the other

string_not_object : same string anything ≡ false
unfolding same decided
string_not_object = refl

string_not_texture : same string texture ≡ false
unfolding same decided
string_not_texture = refl

-- a String is declared: only a reader of String serves
pub serves-string : (t : Target) → Serves string t → t ≡ string
unfolding serves
serves-string t w =
    either (same string t) (same string anything || (same string texture && same t texture_2d)) (serves-complete w)
    (λ q. sym (same_true string t q)) (λ q. let z : false ≡ true = rw (string_not_object, string_not_texture) at q in differ cc)

pub short-more : (t : List ℕ) (ts : List (List ℕ)) → length (short (text_trees (t ∷ ts))) ≡ 1 + length (shortest (length t)) + length t + length (short (text_trees ts))
unfolding short text_trees id_bytes numbered body shortest fewest
short-more t ts =
    omega (
      arith,
      length-append (id_bytes 13 2 ++ (body 13 t 0 ++ short none)) (short (text_trees ts)),
      length-append (shortest (length t) ++ t) [],
      length-append (shortest (length t)) t,
    )

-- what stands in the place of a text: a String, which is UTF-8, or a null
pub data TextOrNull (kind : ℕ) (own : List ℕ) : Type 0 where
  a_text : kind ≡ 13 → Utf8s own → TextOrNull kind own
  a_null : kind ≡ 0 → TextOrNull kind own

unfoldable pub TextsOrNulls : Trees → Type 0
TextsOrNulls none = Unit {0}
TextsOrNulls (tree k i own cs rest) = TextOrNull k own × TextsOrNulls rest

module _ (readers : List Target) (refers : ℕ → ℕ → Type 0) where
  no_children : (cs : Trees) (bs : List ℕ) → Lays readers refers stop cs bs → cs ≡ none
  unfolding Lays
  no_children none bs w = refl
  no_children (tree k i own cs rest) bs w = absurd w

  -- one String: it is UTF-8, has nothing below it, and as many bytes as its shortest form has or more
  record One (id : ℕ) (own : List ℕ) (cs : Trees) (bs : List ℕ) : Type 0 where
    utf8 : Utf8s own
    childless : cs ≡ none
    long : 1 + length (shortest (length own)) + length own ≤ length bs
    reader : Reader readers id string

  raw_one : (id : ℕ) (own : List ℕ) (cs : Trees) (number bs : List ℕ) → 1 ≤ length number → Reader readers id string
      → Raw (λ plan b. Lays readers refers plan cs b) string 13 own cs bs → One id own cs (number ++ bs)
  unfolding Head Textual
  raw_one id own cs number bs h r w =
      let t = w.headed.0 in
      let s = shortest_is (length own) t.0 t.1 in
      record {
        utf8 = t.3;
        childless = no_children cs w.children (rw w.headed.1 at w.laid);
        long =
            omega (
              arith,
              length-append number bs,
              ap length w.parts,
              length-append w.head w.children,
              ap length t.2,
              length-append t.0 own,
              s.no_longer,
            );
        reader = r;
      }

  one_string : (kind id : ℕ) (own : List ℕ) (cs : Trees) (bs : List ℕ) → kind ≡ 13 → Value readers refers (λ plan b. Lays readers refers plan cs b) (object string) kind id own cs bs → One id own cs bs
  unfolding Value
  one_string kind id own cs bs k (inl w) = absurd (omega (arith, w.kind_of_lem))
  one_string kind id own cs bs k (inr w) =
      let t : w.target ≡ string = serves-string w.target w.serves in
      let laid = rw (k, t) at w.laid in
      let reader : Reader readers id string = rw t at w.reader in
      rw w.parts (raw_one id own cs w.number w.value (some_bytes w.numbered.1) reader laid)

  -- a String, which is UTF-8, or a null
  text_or_null : (kind id : ℕ) (own : List ℕ) (cs : Trees) (bs : List ℕ) → Value readers refers (λ plan b. Lays readers refers plan cs b) (object string) kind id own cs bs → TextOrNull kind own
  unfolding Value kind_of
  text_or_null kind id own cs bs (inl w) = a_null w.kind_of_lem
  text_or_null kind id own cs bs (inr w) =
      let t : w.target ≡ string = serves-string w.target w.serves in
      let k : kind ≡ 13 = w.laid.kind_of_lem ∙ ap kind_of t in
      a_text k (one_string kind id own cs bs k (inr w)).utf8

  texts_or_nulls : (n : ℕ) (cs : Trees) (bs : List ℕ) → Lays readers refers (each (replicate n (slot_of string))) cs bs → TextsOrNulls cs
  unfolding Lays each slot_of raw_or_object is_value TextsOrNulls
  texts_or_nulls zero none bs w = tt
  texts_or_nulls zero (tree k i own cs rest) bs w = absurd w
  texts_or_nulls (suc n) none bs w = absurd w
  texts_or_nulls (suc n) (tree k i own cs rest) bs w = (text_or_null k i own cs w.0 w.3, texts_or_nulls n rest w.1 w.4)

  -- Strings one after the other
  pub record Laid (n : ℕ) (ts : List (List ℕ)) (cs : Trees) (bs : List ℕ) : Type 0 where
    pub utf8 : Each Utf8s ts
    pub many : length ts ≡ n
    pub rows : size cs ≡ length ts
    pub long : length (short (text_trees ts)) ≤ length bs
    pub listed : 1 ≤ length ts → (id : ℕ) × Reader readers id string

  pub strings_laid : (n : ℕ) (ts : List (List ℕ)) (cs : Trees) (bs : List ℕ) → Lays readers refers (each (replicate n (slot_of string))) cs bs → Strings ts cs → Laid n ts cs bs
  unfolding Lays each slot_of raw_or_object is_value Strings Each size short text_trees
  strings_laid zero [] none bs w s = record { utf8 = tt; many = refl; rows = refl; long = omega arith; listed = λ h. absurd (omega arith) }
  strings_laid zero (t ∷ ts) none bs w s = absurd s
  strings_laid zero ts (tree k i own cs rest) bs w s = absurd w
  strings_laid (suc n) ts none bs w s = absurd w
  strings_laid (suc n) [] (tree k i own cs rest) bs w s = absurd s
  strings_laid (suc n) (t ∷ ts) (tree k i own cs rest) bs w s =
      let o = one_string k i own cs w.0 s.0 w.3 in
      let r = strings_laid n ts rest w.1 w.4 s.2 in
      let u : Utf8s t = rw s.1 at o.utf8 in
      let l : length own ≡ length t = ap length s.1 in
      let m : 1 + length (shortest (length t)) + length t ≤ length w.0 = rw l at o.long in
      record {
        utf8 = (u, r.utf8);
        many = ap suc r.many;
        rows = omega (arith, r.rows, ap size o.childless);
        long = omega (arith, short-more t ts, ap length w.2, length-append w.0 w.1, r.long);
        listed = λ h. (i, o.reader);
      }

-- ---- The Array

-- a type id names one target
pub one_reader : (readers : List Target) (id : ℕ) (t u : Target) → Reader readers id t → Reader readers id u → t ≡ u
unfolding Reader
one_reader readers id t u v w =
    let e : v.0 ≡ w.0 = omega (arith, v.1, w.1) in
    sym v.3 ∙ ap (λ (i : ℕ). get_or readers i anything) e ∙ w.3

module _ (readers : List Target) (refers : ℕ → ℕ → Type 0) where
  -- the primary's children, and how many bytes stand before them
  record Primary (cs : Trees) (bs : List ℕ) : Type 0 where
    number : ℕ
    children : List ℕ
    laid : Lays readers refers (each (replicate number (slot_of string))) cs children
    long : 5 + length children ≤ length bs

  raw_primary : (own : List ℕ) (cs : Trees) (number bs : List ℕ) → 1 ≤ length number → Raw (λ plan b. Lays readers refers plan cs b) (array string) 17 own cs bs → Primary cs (number ++ bs)
  unfolding Head Counted
  raw_primary own cs number bs h w =
      let c = w.headed in
      record {
        number = c.0;
        children = w.children;
        laid = rw c.4 at w.laid;
        long = omega (arith, length-append number bs, ap length w.parts, length-append w.head w.children, ap length c.3, length-little 4 c.0);
      }

  primary : (k id : ℕ) (own : List ℕ) (cs : Trees) (bs : List ℕ) → Reader readers id (array string) → Lays readers refers (objects_plan k) (tree 17 id own cs none) bs → Primary cs bs
  unfolding Lays objects_plan each Value
  primary k id own cs bs r w = go w.3 where
    more : (b : List ℕ) → Primary cs b → b ≡ w.0 → Primary cs bs
    more b p e = record { number = p.number; children = p.children; laid = p.laid; long = omega (arith, p.long, ap length e, ap length w.2, length-append w.0 w.1) }

    go : Value readers refers (λ plan b. Lays readers refers plan cs b) (object anything) 17 id own cs w.0 → Primary cs bs
    go (inl v) = absurd (omega (arith, v.kind_of_lem))
    go (inr v) =
        let t : v.target ≡ array string = one_reader readers id v.target (array string) v.reader r in
        more (v.number ++ v.value) (raw_primary own cs v.number v.value (some_bytes v.numbered.1) (rw t at v.laid)) (sym v.parts)

-- what stands in an Array of String
pub array_holds : (es : List EnumEntry) (ft : FileTree) (file : List ℕ) (w : FileLays es ft file) (a : TextArray es ft w) → TextsOrNulls a.children
array_holds es ft file w a =
    let refers = Resource (shared_of ft.objects) in
    let k = count (shared_of ft.objects) in
    let p = primary w.readers refers k a.id a.own a.children w.values a.reader
    (subst (λ (ts : Trees). Lays w.readers refers (objects_plan k) ts w.values) a.objects w.laid) in
    texts_or_nulls w.readers refers p.number a.children p.children p.laid

-- ---- The readers

-- how many bytes a reader of a target has at least, of the two that matter
unfoldable weight : Target → ℕ
weight t = cond (same t (array string)) 67 (cond (same t string) 49 0)

unfoldable total : List Target → ℕ
total [] = 0
total (t ∷ readers) = weight t + total readers

one_weight : (readers : List Target) (i : ℕ) (t : Target) → i < length readers → get_or readers i anything ≡ t → weight t ≤ total readers
unfolding total
one_weight [] i t h e = absurd (omega arith)
one_weight (u ∷ readers) zero t h e = omega (arith, ap weight e)
one_weight (u ∷ readers) (suc i) t h e = omega (arith, one_weight readers i t (omega arith) e)

two_weights : (readers : List Target) (i j : ℕ) (t u : Target) → i < length readers → j < length readers → get_or readers i anything ≡ t → get_or readers j anything ≡ u → (t ≡ u → ⊥) → weight t + weight u ≤ total readers
unfolding total
two_weights [] i j t u h k e f d = absurd (omega arith)
two_weights (x ∷ readers) zero zero t u h k e f d = absurd (d (sym e ∙ f))
two_weights (x ∷ readers) zero (suc j) t u h k e f d = omega (arith, ap weight e, one_weight readers j u (omega arith) f)
two_weights (x ∷ readers) (suc i) zero t u h k e f d = omega (arith, ap weight f, one_weight readers i t (omega arith) e)
two_weights (x ∷ readers) (suc i) (suc j) t u h k e f d = omega (arith, two_weights readers i j t u (omega arith) (omega arith) e f d)

module _ (es : List EnumEntry) where
  entry_weight : (name : List ℕ) (t : Target) (bs : List ℕ) → Entry es name t bs → weight t ≤ length bs
  unfolding weight
  entry_weight name t bs w = go (same t (array string)) (same t string) refl refl where
    long : 5 + length name ≤ length bs
    long = omega (arith, ap length w.parts, length-append w.number (name ++ little 4 0), length-append name (little 4 0), length-little 4 0, some_bytes w.numbered.1)

    go : (p q : Bool) → same t (array string) ≡ p → same t string ≡ q → cond p 67 (cond q 49 0) ≤ length bs
    go true q e f = let l : named es name (array string) = rw (same_true t (array string) e) at w.lawful in omega (arith, long, array_long es name l)
    go false true e f = let l : named es name string = rw (same_true t string f) at w.lawful in omega (arith, long, string-long es name l)
    go false false e f = omega arith

  entries_weight : (names : List (List ℕ)) (readers : List Target) (bs : List ℕ) → Entries es names readers bs → total readers ≤ length bs
  unfolding Entries total
  entries_weight [] [] bs w = omega arith
  entries_weight [] (t ∷ readers) bs w = absurd w
  entries_weight (name ∷ names) [] bs w = absurd w
  entries_weight (name ∷ names) (t ∷ readers) bs w =
      omega (arith, ap length w.2, length-append w.0 w.1, entry_weight name t w.0 w.3, entries_weight names readers w.1 w.4)

weight-array : weight (array string) ≡ 67
unfolding weight same decided
weight-array = refl

weight-string : weight string ≡ 49
unfolding weight same decided
weight-string = refl

both-readers : (readers : List Target) (i j : ℕ) → Reader readers i (array string) → Reader readers j string → 116 ≤ total readers
unfolding Reader
both-readers readers i j r s =
    omega (arith, weight-array, weight-string, two_weights readers r.0 s.0 (array string) string r.2 s.2 r.3 s.3 (λ e. differ cc))

-- ---- The file that is built

pub lists_length : length (short_lists (array_name ∷ string_name ∷ []) 0) ≡ 118
unfolding short_lists short_entries short_entry array_name string_name ascii shortest fewest little
lists_length = refl

one_byte : length (shortest 1) ≡ 1
unfolding shortest fewest
one_byte = refl

-- the header and the readers are 128 bytes, and the Array's type id and count five
pub built_length : (ts : List (List ℕ)) → length (short_file (tree_of ts)) ≡ 133 + length (short (text_trees ts))
unfolding short_body tree_of shared_of count
built_length ts =
    let objects = short (tree 17 1 [] (text_trees ts) none) in
    let rest = little 4 (length ts) ++ short (text_trees ts) in
    omega (
      arith,
      length_file (tree_of ts),
      length-append (short_lists (array_name ∷ string_name ∷ []) 0) objects,
      lists_length,
      ap length (short-array ts),
      length-append (shortest 1) rest,
      one_byte,
      length-append (little 4 (length ts)) (short (text_trees ts)),
      length-little 4 (length ts),
    )

module _ (es : List EnumEntry) {ts : List (List ℕ)} {file : List ℕ} (f : TextFile es ts file) where
  abbrev w : FileLays es f.tree_of_lem file
  w = f.lays

  children_laid : Primary w.readers (Resource (shared_of f.tree_of_lem.objects)) f.children w.values
  children_laid =
      primary w.readers (Resource (shared_of f.tree_of_lem.objects)) (count (shared_of f.tree_of_lem.objects)) f.id f.own f.children w.values f.reader
      (subst (λ (ts : Trees). Lays w.readers (Resource (shared_of f.tree_of_lem.objects)) (objects_plan (count (shared_of f.tree_of_lem.objects))) ts w.values) f.objects w.laid)

  texts_laid : Laid w.readers (Resource (shared_of f.tree_of_lem.objects)) children_laid.number ts f.children children_laid.children
  texts_laid = strings_laid w.readers (Resource (shared_of f.tree_of_lem.objects)) children_laid.number ts f.children children_laid.children children_laid.laid f.strings

  -- its texts are UTF-8
  pub texts_utf8 : Each Utf8s ts
  texts_utf8 = texts_laid.utf8

  -- a row for the Array, and one for each text
  pub texts-rows : size f.tree_of_lem.objects ≡ suc (length ts)
  unfolding size
  texts-rows = ap size f.objects ∙ omega (arith, texts_laid.rows)

  -- the file built from its texts is no longer than the file, or has no text
  pub built_short : length (short_file (tree_of ts)) ≤ 16777216
  unfolding short text_trees
  built_short = go ts refl where
    behind : length file ≡ 10 + length w.before + length w.values
    behind =
        ap length w.parts ∙ omega (arith, length-append (header f.tree_of_lem.platform f.tree_of_lem.flags (length file)) (w.before ++ w.values), length-header f.tree_of_lem.platform f.tree_of_lem.flags (length file), length-append w.before w.values)

    front : 2 + length w.lists.entries ≤ length w.before
    front =
        omega (
          arith,
          ap length w.lists.parts,
          length-append w.lists.number (w.lists.entries ++ w.lists.shared_number),
          length-append w.lists.entries w.lists.shared_number,
          some_bytes w.lists.numbered.1,
          some_bytes w.lists.shared_numbered.1,
        )

    go : (us : List (List ℕ)) → ts ≡ us → length (short_file (tree_of ts)) ≤ 16777216
    go [] e = omega (arith, built_length ts, ap (λ (us : List (List ℕ)). length (short (text_trees us))) e)
    go (u ∷ us) e =
        let l = texts_laid.listed (omega (arith, ap length e)) in
        omega (
          arith,
          built_length ts,
          texts_laid.long,
          children_laid.long,
          behind,
          front,
          entries_weight es f.tree_of_lem.names w.readers w.lists.entries w.lists.listed,
          both-readers w.readers f.id l.0 f.reader l.1,
          w.short,
        )
