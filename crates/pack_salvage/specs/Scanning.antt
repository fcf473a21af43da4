-- The scan of Req 11 as a function: it gives what the request says, and nothing else does. Assumes nothing.
use Rattle.std.specs.Prelude.{◌≡◌, refl, List, [], ◌∷◌, ◌++◌, ℕ, zero, suc, pred, ◌+◌, ◌≤◌, length, drop}
use Rattle.std.proofs.Common.{sym, ap, subst, ◌∙◌, arith, length-append}
use Rattle.std.proofs.Math.Seq.{drop-append_seam, drop-nil}
use Rattle.reading.specs.Answer.{Answer, refused, read, Ok}
use Rattle.reading.specs.Reads.{Small, small-drop, Spans}
use Rattle.pack_layout.specs.Pack.{Stored, Lawful, marked, record_bytes}
use Rattle.pack_reading.specs.Pack.{record_at}
use Rattle.pack_reading.specs.Laws.{record_reads}
use Rattle.pack_salvage.specs.Scan.{Piece, kept, skipped, all_skipped, RecordStands, NoRecordStands, Scanned, at_end, no_more, keeps, goes_on}

-- what follows where a record was read or not
unfoldable pub tried : Answer Stored → (b : ℕ) → (onward : ℕ → List Piece) → (further : Unit {0} → List Piece) → List Piece
tried (refused number place) b onward further = skipped b ∷ further tt
tried (read f e) b onward further = kept f ∷ onward (pred e)

-- past the first so many bytes, which are a record's
unfoldable pub scan : (left past : ℕ) → List ℕ → List Piece
scan left past [] = []
scan left (suc n) (b ∷ bs) = scan left n bs
scan zero zero (b ∷ bs) = skipped b ∷ scan zero zero bs
scan (suc left) zero (b ∷ bs) = tried (record_at marked (b ∷ bs) 0) b (λ n. scan left n bs) (λ _. scan (suc left) zero bs)

scan-past : (left n : ℕ) (bs : List ℕ) → scan left n bs ≡ scan left zero (drop n bs)
unfolding scan
scan-past left n [] = rw drop-nil
scan-past left zero (b ∷ bs) = refl
scan-past left (suc n) (b ∷ bs) = scan-past left n bs

pub scan-none : (bs : List ℕ) → scan zero zero bs ≡ all_skipped bs
unfolding scan all_skipped
scan-none [] = refl
scan-none (b ∷ bs) = ap (λ (ps : List Piece). skipped b ∷ ps) (scan-none bs)

-- a record has at least its mark
pub record_length : (f : Stored) → 2 ≤ length (record_bytes marked f)
unfolding record_bytes
record_length f = omega arith

-- ---- The function gives what the request says

abbrev Whole : List ℕ → Stored → ℕ → Type 0
Whole bs = Spans bs (λ f l. Lawful f × (l ≡ record_bytes marked f)) 0

stands : (bs : List ℕ) (f : Stored) (e : ℕ) → Whole bs f e → RecordStands f (drop e bs) bs × (e ≡ length (record_bytes marked f))
stands bs f e w =
    let l : e ≡ length (record_bytes marked f) = omega (arith, w.3, ap length w.1.1) in
    (record { lawful = w.1.0; parts = w.2 ∙ ap (λ (x : List ℕ). x ++ drop e bs) w.1.1 }, l)

-- where a record stands it is read
reads_it : (f : Stored) (rest bs : List ℕ) → RecordStands f rest bs → record_at marked bs 0 ≡ read f (length (record_bytes marked f))
reads_it f rest bs w =
    let z : 0 + length (record_bytes marked f) ≡ length (record_bytes marked f) = omega arith in
    rw z at ((record_reads marked bs).complete f (record_bytes marked f) rest 0 (w.lawful, refl) w.parts)

tried_scanned : (left b : ℕ) (bs : List ℕ) (x : Answer Stored) → record_at marked (b ∷ bs) 0 ≡ x → Ok (Whole (b ∷ bs)) x
    → ((n : ℕ) → Scanned left (drop n bs) (scan left n bs)) → Scanned (suc left) bs (scan (suc left) zero bs)
    → Scanned (suc left) (b ∷ bs) (tried x b (λ n. scan left n bs) (λ _. scan (suc left) zero bs))
unfolding tried
tried_scanned left b bs (refused number place) q o onward further =
    goes_on (λ f rest w. let z : refused number place ≡ read f (length (record_bytes marked f)) = sym q ∙ reads_it f rest (b ∷ bs) w in
    let y : ◌≡◌ {A = ℕ} 0 1 = cc in absurd (omega arith)) further
tried_scanned left b bs (read f zero) q o onward further =
    absurd (let s = stands (b ∷ bs) f zero (o.got refl) in omega (arith, s.1, record_length f))
tried_scanned left b bs (read f (suc e)) q o onward further = keeps (stands (b ∷ bs) f (suc e) (o.got refl)).0 (onward e)

scanned_from : (bs : List ℕ) (left n : ℕ) → Small bs → Scanned left (drop n bs) (scan left n bs)
unfolding scan Small
scanned_from [] left n h = rw drop-nil at_end
scanned_from (b ∷ bs) left (suc n) h = scanned_from bs left n h.1
scanned_from (b ∷ bs) zero zero h = subst (Scanned zero (b ∷ bs)) (sym (scan-none (b ∷ bs))) no_more
scanned_from (b ∷ bs) (suc left) zero h =
    tried_scanned left b bs (record_at marked (b ∷ bs) 0) refl ((record_reads marked (b ∷ bs)).sound h 0) (λ n. scanned_from bs left n h.1) (scanned_from bs (suc left) zero h.1)

pub is_scanned : (left : ℕ) (bs : List ℕ) → Small bs → Scanned left bs (scan left zero bs)
is_scanned left bs h = scanned_from bs left zero h

-- ---- and nothing else: there is one way to scan

behind : {f : Stored} {rest bs : List ℕ} → RecordStands f rest bs → drop (length (record_bytes marked f)) bs ≡ rest
behind {f} {rest} w = ap (drop (length (record_bytes marked f))) w.parts ∙ drop-append_seam (record_bytes marked f) rest

pub scan-keeps : (left : ℕ) (f : Stored) (rest bs : List ℕ) → RecordStands f rest bs → scan (suc left) zero bs ≡ kept f ∷ scan left zero rest
unfolding scan tried
scan-keeps left f rest [] w = absurd (omega (arith, record_length f, ap length w.parts, length-append (record_bytes marked f) rest))
scan-keeps left f rest (b ∷ bs) w =
    let n = length (record_bytes marked f) in
    let z : n ≡ suc (pred n) = omega (arith, record_length f) in
    let r : drop (pred n) bs ≡ rest = ap (λ (k : ℕ). drop k (b ∷ bs)) (sym z) ∙ behind w in
    rw (reads_it f rest (b ∷ bs) w, scan-past left (pred n) bs, r)

pub scan-goes_on : (left b : ℕ) (bs : List ℕ) → Small (b ∷ bs) → NoRecordStands (b ∷ bs)
    → scan (suc left) zero (b ∷ bs) ≡ skipped b ∷ scan (suc left) zero bs
unfolding scan tried
scan-goes_on left b bs h none = go (record_at marked (b ∷ bs) 0) ((record_reads marked (b ∷ bs)).sound h 0) where
  go : (x : Answer Stored) → Ok (Whole (b ∷ bs)) x → tried x b (λ n. scan left n bs) (λ _. scan (suc left) zero bs) ≡ skipped b ∷ scan (suc left) zero bs
  go (refused number place) o = refl
  go (read f e) o = absurd (none f (drop e (b ∷ bs)) (stands (b ∷ bs) f e (o.got refl)).0)

pub scan_is : {left : ℕ} {bs : List ℕ} {ps : List Piece} → Small bs → Scanned left bs ps → scan left zero bs ≡ ps
unfolding scan Small
scan_is h at_end = refl
scan_is {bs = bs} h no_more = scan-none bs
scan_is {bs = bs} h (keeps {k = k} {f = f} {rest = rest} w s) =
    let r : Small rest = subst Small (behind w) (small-drop (length (record_bytes marked f)) bs h) in
    scan-keeps k f rest bs w ∙ ap (λ (ps : List Piece). kept f ∷ ps) (scan_is r s)
scan_is h (goes_on {k = k} {b = b} {bs = bs} none s) =
    scan-goes_on k b bs h none ∙ ap (λ (ps : List Piece). skipped b ∷ ps) (scan_is h.1 s)

pub one_scan : {left : ℕ} {bs : List ℕ} {ps qs : List Piece} → Small bs → Scanned left bs ps → Scanned left bs qs → ps ≡ qs
one_scan h s t = sym (scan_is h s) ∙ scan_is h t
