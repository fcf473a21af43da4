-- From the contracts of reading a pack and of finding a file to what is demanded of them. Assumes nothing.
use Rattle.std.specs.Prelude.{◌≡◌, refl, Bool, true, false, List, ℕ, ◌≤◌, length, Err, None, Some, Result, Option}
use Rattle.std.proofs.Common.{sym, ap, subst, ◌∙◌}
use Rattle.laws.specs.Small.{differ}
use Rattle.reading.specs.Answer.{Answer, refused, read}
use Rattle.reading.specs.Reads.{Small}
use Rattle.pack_layout.specs.Pack.{Stored, mark_of}
use Rattle.pack_layout.specs.Numbers.{PackNumber}
use Rattle.pack_layout.specs.Table.{wholes, files_room}
use Rattle.pack_reading.specs.Pack.{pack_at, Pack, refusal, accepted, to_pack, pack_of, table_for}
use Rattle.pack_reading.specs.Faults.{Keeps}
use Rattle.pack_reading.proofs.Faults.{plain-refusals, marked-refusals}
use Rattle.pack_reading.proofs.Theorems as T
use Rattle.pack_reading.specs.Theorems.{Accepts}
use Rattle.pack_reading.specs.Parts.{names}
use Rattle.pack_reading.specs.Lookup.{Found, absent, found, find_in, find_of, Says, find_says}
use Rattle.pack_reading.proofs.Lookup.{absent_exactly}
use Rattle.packs.specs.Files.{answer_of}
use Rattle.pack_lookup.specs.declared.Part.{Part}
use Rattle.pack_lookup.specs.Lookup.{found_as}
use Rattle.theorems.specs.Packs.{IsRead, Reads, Finds}
use Rattle.answers.specs.Refusals.{refusal as refusal_at}
use Rattle.answers.specs.declared.Refusal.{Refusal}
use Rattle.pack_lookup.specs.Lookup.{part}

-- ---- Reading a pack

told : (x : Pack) → Accepts x → IsRead (answer_of x)
unfolding Accepts
told (refusal number place) a = a
told (accepted fs) a = tt

untold : (x : Pack) → IsRead (answer_of x) → Accepts x
unfolding Accepts
untold (refusal number place) a = a
untold (accepted fs) a = tt

-- a refusal's number and place, in either form
pub pack_refusals : (marked : Bool) (pack : List ℕ) (room : ℕ) → Keeps (PackNumber marked) (length pack) (pack_at (mark_of marked) pack room)
pack_refusals true pack room = marked-refusals pack room
pack_refusals false pack room = plain-refusals pack room

refused-inside : (marked : Bool) (pack : List ℕ) (words : ℕ) {number place : ℕ} → answer_of (pack_of (mark_of marked) pack words) ≡ Err (refusal_at number place)
    → PackNumber marked number × (place ≤ length pack)
unfolding pack_of to_pack Keeps
refused-inside marked pack words {number} {place} q = go (pack_at (mark_of marked) pack (files_room words)) (pack_refusals marked pack (files_room words)) q where
  go : (x : Answer (List Stored)) → Keeps (PackNumber marked) (length pack) x → answer_of (to_pack x) ≡ Err (refusal_at number place) → PackNumber marked number × (place ≤ length pack)
  go (refused n p) k e =
      let z : refusal_at n p ≡ refusal_at number place = cc in
      let a : n ≡ number = ap (λ (r : Refusal). r.number) z in
      let b : p ≡ place = ap (λ (r : Refusal). r.place) z in
      rw (← a, ← b) k
  go (read fs e) k r = differ cc

pub read-exact : (marked : Bool) (pack : List ℕ) (words : ℕ) {left : List ℕ} {r : Result ℕ Refusal} → Small pack
    → r ≡ answer_of (pack_of (mark_of marked) pack words) → left ≡ table_for (mark_of marked) pack words → Reads marked pack words left r
read-exact marked pack words {left} {r} small answers leaves =
    let mark = mark_of marked in
    let x = pack_of mark pack words in
    let both = T.accepts mark pack words small in
    record {
      accepts = (λ a. both.0 (untold x (subst IsRead answers a)), λ f. subst IsRead (sym answers) (told x (both.1 f)));
      files = λ f. (answers ∙ ap answer_of (T.files_are mark pack words f), leaves ∙ T.table_is mark pack words f, names mark pack f.files f.lays);
      refuses = λ none. let w = T.refuses mark pack words small none in (w.0, w.1, answers ∙ ap answer_of w.2, leaves ∙ w.3);
      inside = λ number place q. refused-inside marked pack words (sym answers ∙ q);
    }

-- ---- Finding a file

pub as_absent : (x : Found) → found_as x ≡ None → x ≡ absent
as_absent absent q = refl
as_absent (found a n) q = differ cc

pub as_found : (x : Found) (a n : ℕ) → found_as x ≡ Some (part a n) → x ≡ found a n
as_found absent a n q = differ cc
as_found (found b m) a n q =
    let z : part b m ≡ part a n = cc in
    let e₁ : b ≡ a = ap (λ (p : Part). p.first) z in
    let e₂ : m ≡ n = ap (λ (p : Part). p.count) z in
    rw (e₁, e₂)

pub find_exact : (pack table path : List ℕ) {r : Option Part} → r ≡ found_as (find_of pack table path) → Finds pack table path r
unfolding find_of Says
find_exact pack table path answers =
    let x = find_in pack path (wholes table) in
    let both = absent_exactly pack path (wholes table) in
    record {
      absent = (λ q. both.0 (as_absent x (sym answers ∙ q)), λ none. answers ∙ ap found_as (both.1 none));
      first = λ a n q. subst (Says pack path (wholes table)) (as_found x a n (sym answers ∙ q)) (find_says pack path (wholes table));
    }
