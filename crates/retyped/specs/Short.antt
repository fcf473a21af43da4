-- Two files that differ in typed text alone are rewritten alike: the same refusal, or as many bytes; and they have the same padding (02, Req 12). Assumes
-- nothing.
use Rattle.std.specs.Prelude.{◌≡◌, refl, Bool, true, false, cond, ◌||◌, List, ◌++◌, ℕ, ◌+◌, ◌/◌, eqb, leb, length}
use Rattle.std.proofs.Common.{sym, ap, ◌∙◌, arith, length-append}
use Rattle.layout.specs.EnumList.{EnumEntry}
use Rattle.layout.specs.Number.{little}
use Rattle.layout.specs.Tree.{Trees, none, tree, count}
use Rattle.layout.specs.File.{shared_of}
use Rattle.layout.specs.Rows.{Row}
use Rattle.layout.specs.Table.{room_of}
use Rattle.layout.specs.Shortest.{shortest, id_bytes, body, short, short_lists, short_body, short_file}
use Rattle.reading.specs.Answer.{Answer, read}
use Rattle.reading.specs.Reads.{Small}
use Rattle.reading.specs.File.{Named, Judges, Loaded, file_at, accepted, load_of}
use Rattle.reading.specs.Accepts.{loaded_of}
use Rattle.reading.proofs.Accepts.{file_complete}
use Rattle.layout.specs.Fits.{FittingTree, rows_in}
use Rattle.reading.proofs.Theorems.{accepted_is}
use Rattle.reading.specs.Output.{Rewritten, refusal, written, fitted}
use Rattle.places.specs.Padding.{file_padding}
use Rattle.shortest.specs.File.{length_file}
use Rattle.shortest.specs.Rewrite.{by_load, rewrite_of}
use Rattle.shortest.specs.Theorems.{padding_is}
use Rattle.retyped.specs.Texts.{FileText, Retyped}
use Rattle.retyped.specs.Twin.{SameBy, both_refused, both_read}
use Rattle.retyped.specs.Alike.{Alike, count-alike}
use Rattle.retyped.specs.Files.{LoadedAlike}

-- the same refusal, or as many bytes
pub data AsLong : Rewritten → Rewritten → Type 0 where
  both_refuse : {n p : ℕ} → AsLong (refusal n p) (refusal n p)
  both_write : {a b : List ℕ} → length a ≡ length b → AsLong (written a) (written b)

-- a value's bytes are as many whatever its text is
body-long : (kind : ℕ) (own own' : List ℕ) (n : ℕ) → length own ≡ length own' → length (body kind own n) ≡ length (body kind own' n)
unfolding body
body-long kind own own' n l = go (eqb kind 13) (eqb kind 35) (eqb kind 17 || eqb kind 18) (eqb kind 19) (eqb kind 32) where
  go : (a b c d e : Bool)
      → length (cond a (shortest (length own) ++ own) (cond b (little 4 (length own) ++ own) (cond c (little 4 n) (cond d (little 4 (n / 2)) (cond e (own ++ little 4 n) own)))))
      ≡ length (cond a (shortest (length own') ++ own') (cond b (little 4 (length own') ++ own') (cond c (little 4 n) (cond d (little 4 (n / 2)) (cond e (own' ++ little 4 n) own')))))
  go true b c d e = rw (length-append (shortest (length own)) own, length-append (shortest (length own')) own', l)
  go false true c d e = rw (length-append (little 4 (length own)) own, length-append (little 4 (length own')) own', l)
  go false false true d e = refl
  go false false false true e = refl
  go false false false false true = rw (length-append own (little 4 n), length-append own' (little 4 n), l)
  go false false false false false = l

short-long : (ts us : Trees) → Alike ts us → length (short ts) ≡ length (short us)
unfolding Alike short
short-long none none w = refl
short-long none (tree k i own cs rest) w = absurd w
short-long (tree k i own cs rest) none w = absurd w
short-long (tree k i own cs rest) (tree k' i' own' cs' rest') w =
    let n = count cs in
    let b : length (body k own n) ≡ length (body k own' n) = body-long k own own' n w.2 in
    let c = short-long cs cs' w.4 in
    let r = short-long rest rest' w.5 in
    rw (← w.0, ← w.1, ← count-alike cs cs' w.4) (
    length-append (id_bytes k i ++ (body k own n ++ short cs)) (short rest)
    ∙ ap (λ (m : ℕ). m + length (short rest)) (length-append (id_bytes k i) (body k own n ++ short cs) ∙ ap (λ (m : ℕ). length (id_bytes k i) + m) (length-append (body k own n) (short cs)))
    ∙ sumsame (length (id_bytes k i)) (length (body k own n)) (length (short cs)) (length (short rest)) (length (body k own' n)) (length (short cs')) (length (short rest')) b c r
    ∙ sym (length-append (id_bytes k i ++ (body k own' n ++ short cs')) (short rest')
    ∙ ap (λ (m : ℕ). m + length (short rest')) (length-append (id_bytes k i) (body k own' n ++ short cs') ∙ ap (λ (m : ℕ). length (id_bytes k i) + m) (length-append (body k own' n) (short cs')))))
  where
    sumsame : (i b c r b' c' r' : ℕ) → b ≡ b' → c ≡ c' → r ≡ r' → (i + (b + c)) + r ≡ (i + (b' + c')) + r'
    sumsame i b c r b' c' r' x y z = omega arith

shared_alike : (ts us : Trees) → Alike ts us → count (shared_of ts) ≡ count (shared_of us)
unfolding Alike shared_of
shared_alike none none w = refl
shared_alike none (tree k i own cs rest) w = absurd w
shared_alike (tree k i own cs rest) none w = absurd w
shared_alike (tree k i own cs rest) (tree k' i' own' cs' rest') w = count-alike rest rest' w.5

-- the shortest bytes of file trees that are alike are as many
pub file_long : (a b : Loaded) → LoadedAlike a b → length (short_file a.tree) ≡ length (short_file b.tree)
unfolding short_body
file_long a b w =
    let ls : short_lists a.tree.names (count (shared_of a.tree.objects)) ≡ short_lists b.tree.names (count (shared_of b.tree.objects))
    = rw (w.names, shared_alike a.tree.objects b.tree.objects w.objects) in
    omega (
      arith,
      length_file a.tree,
      length_file b.tree,
      length-append (short_lists a.tree.names (count (shared_of a.tree.objects))) (short a.tree.objects),
      length-append (short_lists b.tree.names (count (shared_of b.tree.objects))) (short b.tree.objects),
      ap length ls,
      short-long a.tree.objects b.tree.objects w.objects,
    )
