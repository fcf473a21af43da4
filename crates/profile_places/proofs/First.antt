-- What the driver's loader refuses with, and where, is the first rule that is broken, at its first place. Assumes nothing.
use Rattle.std.specs.Prelude.{◌≡◌, Bool, not, ◌⊎◌, ℕ, suc, ◌-◌, ◌<◌, ◌≤◌, length, get_or, Option, None, Some}
use Rattle.std.proofs.Math.Path.{refl}
use Rattle.std.proofs.Common.{sym, ap, ◌∙◌, inl, inr, arith, eqb-true}
use Rattle.std.proofs.Math.Bool.{true, false}
use mathlib.Core.List.{List, [], ◌∷◌}
use Prim.Native.Char.{code}
use Rattle.std.proofs.Math.Dec.{eqb}
use Rattle.std.proofs.lemmas.Bool.{eqb-false}
use Rattle.laws.specs.Small.{differ}
use Rattle.layout.specs.EnumList.{EnumEntry}
use Rattle.layout.specs.Target.{Target}
use Rattle.layout.specs.Rows.{Row}
use Rattle.layout.specs.File.{FileTree, FileLays, file_rows}
use Rattle.reading.specs.Reads.{Small}
use Rattle.reading.specs.Accepts.{entries-length}
use Rattle.places.specs.Places.{file_places}
use Rattle.profile.specs.Stand.{Stand, file_stand}
use Rattle.profile.specs.Offences.{wrong_at, other_platform, padded, unused, doubled, repeated, no_page, nextless, fine, fault, first, first_lowest, from47, from46, from45, from44, from43, from42, fault_of, Offence}
use Rattle.profile.specs.Rules.{platform-none, none-platform}
use Rattle.fault_places.specs.Places.{first_place, lowest_place, Lowest}
use Rattle.profile_places.specs.Broken.{Rule, platform, numbers, used, distinct, keys, page, nexts, refusal_of, PlatformAt, BrokenAt, FirstBroken}
use Rattle.profile_places.specs.Numbers.{numbers-lowest}
use Rattle.profile_places.specs.Names.{unused-lowest, doubled-lowest}
use Rattle.profile_places.specs.Pages.{file_flat, file_rise}
use Rattle.profile_places.specs.Values.{page-lowest, nexts-lowest}
use Rattle.profile_places.proofs.Values.{keys-lowest}

-- ---- Faults by number, then by place

first_is : (k : ℕ) (l : List ℕ) (x : Offence) {n p : ℕ} → first k l x ≡ fault n p → ((n ≡ k) × (first_place l ≡ Some p)) ⊎ ((first_place l ≡ None) × (x ≡ fault n p))
unfolding first
first_is k [] x e = inr (refl, e)
first_is k (q ∷ l) x {n} {p} e = let a : k ≡ n = cc in let b : q ≡ p = cc in inl (sym a, ap Some b)

lowest_is : (k : ℕ) (l : List ℕ) (x : Offence) {n p : ℕ} → first_lowest k l x ≡ fault n p → ((n ≡ k) × (lowest_place l ≡ Some p)) ⊎ ((lowest_place l ≡ None) × (x ≡ fault n p))
unfolding first_lowest
lowest_is k [] x e = inr (refl, e)
lowest_is k (q ∷ l) x {n} {p} e = inl ((let a : k ≡ n = cc in sym a), ap Some cc)

rule_of : ℕ → Rule
rule_of n = get_or (platform ∷ numbers ∷ used ∷ distinct ∷ keys ∷ page ∷ nexts ∷ []) (n - 41) nexts

rule_is : (r : Rule) → (rule_of (refusal_of r) ≡ r) × (41 ≤ refusal_of r)
unfolding refusal_of rule_of
rule_is platform = (refl, omega arith)
rule_is numbers = (refl, omega arith)
rule_is used = (refl, omega arith)
rule_is distinct = (refl, omega arith)
rule_is keys = (refl, omega arith)
rule_is page = (refl, omega arith)
rule_is nexts = (refl, omega arith)

module _ (file : List ℕ) (readers : List Target) (rows : List Row) where
  -- where the loader finds that a rule is broken
  place_of : Rule → Option ℕ
  place_of platform = first_place (other_platform file)
  place_of numbers = first_place (padded file (file_places file (length readers) rows))
  place_of used = first_place (unused file rows (length readers) 0)
  place_of distinct = first_place (doubled file [] readers 0)
  place_of keys = lowest_place (repeated file rows)
  place_of page = first_place (no_page rows)
  place_of nexts = first_place (nextless rows)

  abbrev Kept : (below : ℕ) → Type 0
  Kept below = (r : Rule) → refusal_of r < below → place_of r ≡ None

  kept_none : Kept 41
  kept_none r h = let l = (rule_is r).1 in absurd (omega arith)

  kept_more : (r : Rule) → Kept (refusal_of r) → place_of r ≡ None → Kept (suc (refusal_of r))
  kept_more r k e s h = go (eqb (refusal_of s) (refusal_of r)) refl where
    go : (b : Bool) → eqb (refusal_of s) (refusal_of r) ≡ b → place_of s ≡ None
    go true q =
        let z : s ≡ r = sym (rule_is s).0 ∙ ap rule_of (eqb-true (refusal_of s) (refusal_of r) q) ∙ (rule_is r).0 in
        ap place_of z ∙ e
    go false q = k s (omega (arith, eqb-false (refusal_of s) (refusal_of r) q))

  abbrev Found : (n p : ℕ) → Type 0
  Found n p = (r : Rule) × (n ≡ refusal_of r) × (place_of r ≡ Some p) × Kept (refusal_of r)

  found : (n p : ℕ) → fault_of file readers rows ≡ fault n p → Found n p
  unfolding fault_of from42 from43 from44 from45 from46 from47 place_of refusal_of
  found n p e = at_41 (first_is 41 (other_platform file) (from42 file readers rows) e) where
    end : {A : Type 0} → fine ≡ fault n p → A
    end e = differ cc

    Or : (k : ℕ) → Option ℕ → Offence → Type 0
    Or k r x = ((n ≡ k) × (r ≡ Some p)) ⊎ ((r ≡ None) × (x ≡ fault n p))

    at_47 : Kept 47 → Or 47 (place_of nexts) fine → Found n p
    at_47 k (inl x) = (nexts, x.0, x.1, k)
    at_47 k (inr x) = end x.1

    at_46 : Kept 46 → Or 46 (place_of page) (from47 rows) → Found n p
    at_46 k (inl x) = (page, x.0, x.1, k)
    at_46 k (inr x) = at_47 (kept_more page k x.0) (first_is 47 (nextless rows) fine x.1)

    at_45 : Kept 45 → Or 45 (place_of keys) (from46 rows) → Found n p
    at_45 k (inl x) = (keys, x.0, x.1, k)
    at_45 k (inr x) = at_46 (kept_more keys k x.0) (first_is 46 (no_page rows) (from47 rows) x.1)

    at_44 : Kept 44 → Or 44 (place_of distinct) (from45 file rows) → Found n p
    at_44 k (inl x) = (distinct, x.0, x.1, k)
    at_44 k (inr x) = at_45 (kept_more distinct k x.0) (lowest_is 45 (repeated file rows) (from46 rows) x.1)

    at_43 : Kept 43 → Or 43 (place_of used) (from44 file readers rows) → Found n p
    at_43 k (inl x) = (used, x.0, x.1, k)
    at_43 k (inr x) = at_44 (kept_more used k x.0) (first_is 44 (doubled file [] readers 0) (from45 file rows) x.1)

    at_42 : Kept 42 → Or 42 (place_of numbers) (from43 file readers rows) → Found n p
    at_42 k (inl x) = (numbers, x.0, x.1, k)
    at_42 k (inr x) = at_43 (kept_more numbers k x.0) (first_is 43 (unused file rows (length readers) 0) (from44 file readers rows) x.1)

    at_41 : Or 41 (place_of platform) (from42 file readers rows) → Found n p
    at_41 (inl x) = (platform, x.0, x.1, kept_none)
    at_41 (inr x) = at_42 (kept_more platform kept_none x.0) (first_is 42 (padded file (file_places file (length readers) rows)) (from43 file readers rows) x.1)

-- ---- Of a file tree

module _ (es : List EnumEntry) (ft : FileTree) (file : List ℕ) (small : Small file) (w : FileLays es ft file) where
  abbrev rows : List Row
  rows = file_rows es ft file w

  stands : Stand file ft.objects (file_rows es ft file w)
  stands = file_stand file es ft w

  -- 41
  platform_lowest : Lowest (PlatformAt ft w.readers file (file_rows es ft file w)) (first_place (other_platform file))
  unfolding other_platform wrong_at Lowest
  platform_lowest = go (eqb (get_or file 3 0) 0x77) refl (platform-none es ft file w) (none-platform es ft file w) where
    go : (b : Bool) → eqb (get_or file 3 0) 0x77 ≡ b → (wrong_at (not b) 3 ≡ [] → ft.platform ≡ code "w") → (ft.platform ≡ code "w" → wrong_at (not b) 3 ≡ [])
        → Lowest (PlatformAt ft w.readers file (file_rows es ft file w)) (first_place (wrong_at (not b) 3))
    go true e f g = λ p x. x.1 (f refl)
    go false e f g = ((refl, λ x. let z = g x in differ cc), λ q x. let y = x.0 in omega arith)

  numbers_there : Lowest (BrokenAt ft w.readers file (file_rows es ft file w) numbers) (place_of file w.readers (file_rows es ft file w) numbers)
  unfolding place_of BrokenAt
  numbers_there = rw (entries-length es ft.names w.readers w.lists.entries w.lists.listed) (numbers-lowest es ft w.readers file (file_rows es ft file w) w)

  -- the loader finds each rule broken where it first is
  there : (r : Rule) → Lowest (BrokenAt ft w.readers file (file_rows es ft file w) r) (place_of file w.readers (file_rows es ft file w) r)
  unfolding place_of BrokenAt
  there platform = platform_lowest
  there numbers = numbers_there
  there used = unused-lowest es ft file small (file_rows es ft file w) w stands
  there distinct = doubled-lowest es ft file small (file_rows es ft file w) w
  there keys = keys-lowest file ft.objects (file_rows es ft file w) stands
  there page = page-lowest file ft.objects (file_rows es ft file w) stands
  there nexts = nexts-lowest file ft.objects (file_rows es ft file w) _ _ stands (file_flat es ft file w) (file_rise es ft file w)

  pub first_broken : (n p : ℕ) → fault_of file w.readers (file_rows es ft file w) ≡ fault n p → FirstBroken ft w.readers file (file_rows es ft file w) n p
  unfolding Lowest
  first_broken n p e =
      let x = found file w.readers (file_rows es ft file w) n p e in
      let l = rw x.2 at (there x.0) in
      record {
        rule = x.0;
        refusal_is = x.1;
        kept = λ r h q b. let k = x.1 in rw (x.3 r (omega arith)) at (there r) q b;
        broken = l.0;
        first = l.1;
      }
