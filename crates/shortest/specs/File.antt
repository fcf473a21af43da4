-- The shortest bytes of a file tree (01, "Seven-bit numbers": "The rewriter changes only these numbers, each to its shortest form, and the header's length"). Assumes nothing.
use Rattle.std.specs.Prelude.{◌≡◌, ℕ, ◌+◌, ◌≤◌, take}
use Rattle.std.proofs.Math.Path.{refl, ap}
use Rattle.std.proofs.Common.{sym, ◌∙◌}
use mathlib.Core.List.{List, [], ◌∷◌, ◌++◌}
use native.Mathlib.Omega.{arith}
use Rattle.std.proofs.Math.ListN.{length, length-append}
use Rattle.layout.specs.EnumList.{EnumEntry}
use Rattle.layout.specs.Number.{little}
use Rattle.layout.specs.Text.{ascii}
use Rattle.layout.specs.Target.{Target}
use Rattle.layout.specs.Tree.{count}
use Rattle.layout.specs.Resource.{Resource}
use Rattle.layout.specs.File.{FileTree, shared_of, header, objects_plan, Entry, Entries, Lists, FileLays}
use Rattle.layout.specs.Shortest.{shortest, Shortens, short, short_entry, short_entries, short_lists, short_body, short_file}
use Rattle.numbers.specs.Shortest.{shortest_is}
use Rattle.shortest.specs.Short.{same_shortens, shortens_append, lays_short}

pub length-header : (platform flags n : ℕ) → length (header platform flags n) ≡ 10
unfolding header ascii little
length-header platform flags n = refl

pub length_file : (ft : FileTree) → length (short_file ft) ≡ 10 + length (short_body ft)
unfolding short_file
length_file ft =
    let n = 10 + length (short_body ft) in
    omega (arith, length-append (header ft.platform ft.flags n) (short_body ft), length-header ft.platform ft.flags n)

module _ (es : List EnumEntry) where
  -- the first ten bytes of a file tree's bytes
  pub header_is : (ft : FileTree) (bs : List ℕ) → FileLays es ft bs → take 10 bs ≡ header ft.platform ft.flags (length bs)
  unfolding header ascii little
  header_is ft bs w = ap (take 10) w.parts

  entry_short : (name : List ℕ) (t : Target) (bs : List ℕ) → Entry es name t bs → Shortens (Entry es name t) (short_entry name) bs
  unfolding short_entry
  entry_short name t bs w =
      let g = shortest_is (length name) w.number w.numbered in
      let rest = name ++ little 4 0 in
      rw w.parts (shortens_append
      (record { number = shortest (length name); parts = refl; numbered = g.form; not_empty = w.not_empty; not_long = w.not_long; lawful = w.lawful })
      g (same_shortens (λ b. b ≡ rest) rest rest refl refl))

  entries_short : (names : List (List ℕ)) (readers : List Target) (bs : List ℕ) → Entries es names readers bs → Shortens (Entries es names readers) (short_entries names) bs
  unfolding Entries short_entries
  entries_short [] [] bs w = rw w (record { form = refl; no_longer = omega arith; same = λ e. refl })
  entries_short [] (t ∷ readers) bs w = absurd w
  entries_short (name ∷ names) [] bs w = absurd w
  entries_short (name ∷ names) (t ∷ readers) bs w =
      let n = entry_short name t w.0 w.3 in
      let r = entries_short names readers w.1 w.4 in
      rw w.2 (shortens_append (short_entry name, short_entries names, refl, n.form, r.form) n r)

  lists_short : (names : List (List ℕ)) (readers : List Target) (shared : ℕ) (bs : List ℕ) → Lists es names readers shared bs
      → Shortens (Lists es names readers shared) (short_lists names shared) bs
  unfolding short_lists
  lists_short names readers shared bs w =
      let c = shortest_is (length names) w.number w.numbered in
      let n = entries_short names readers w.entries w.listed in
      let z = shortest_is shared w.shared_number w.shared_numbered in
      let rest = short_entries names ++ shortest shared in
      let a : Shortens (λ b. b ≡ rest) rest (w.entries ++ w.shared_number) = shortens_append refl n z in
      rw w.parts (shortens_append
      (record {
        number = shortest (length names);
        entries = short_entries names;
        shared_number = shortest shared;
        parts = refl;
        numbered = c.form;
        not_many = w.not_many;
        listed = n.form;
        shared_numbered = z.form;
        shared_not_many = w.shared_not_many;
      }) c a)

  -- the shortest bytes of a file tree are bytes of it, none are shorter, and none other are as short
  pub file_short : (ft : FileTree) (bs : List ℕ) → FileLays es ft bs → Shortens (FileLays es ft) (short_file ft) bs
  unfolding short_file short_body
  file_short ft bs w =
      let shared = count (shared_of ft.objects) in
      let p = lists_short ft.names w.readers shared w.before w.lists in
      let v = lays_short w.readers (Resource (shared_of ft.objects)) (objects_plan shared) ft.objects w.values w.laid in
      let sp = short_lists ft.names shared in
      let sv = short ft.objects in
      let a : Shortens (λ b. b ≡ sp ++ sv) (sp ++ sv) (w.before ++ w.values) = shortens_append refl p v in
      let n = 10 + length (sp ++ sv) in
      let hd = header ft.platform ft.flags n in
      let full : length (hd ++ (sp ++ sv)) ≡ n = length_file ft in
      let long : length bs ≡ 10 + length (w.before ++ w.values)
      = ap length w.parts ∙ omega (arith, length-append (header ft.platform ft.flags (length bs)) (w.before ++ w.values), length-header ft.platform ft.flags (length bs)) in
      let less : length (hd ++ (sp ++ sv)) ≤ length bs = omega (arith, a.no_longer) in
      record {
        form = record {
          platform = w.platform;
          flags = w.flags;
          short = omega (arith, w.short);
          readers = w.readers;
          before = sp;
          values = sv;
          parts = rw full;
          lists = p.form;
          laid = v.form;
          deep = w.deep;
        };
        no_longer = less;
        same = λ e. let m : length (sp ++ sv) ≡ length (w.before ++ w.values) = omega arith in
            let k : n ≡ length bs = omega arith in
            rw (k, a.same m) (sym w.parts);
      }
