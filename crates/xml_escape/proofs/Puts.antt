-- Bytes put into a part of an output, told of the whole output. Assumes nothing.
use Rattle.std.specs.Prelude.{◌≡◌, List, ◌++◌, ℕ, ◌+◌, ◌-◌, ◌≤◌, min, length, take, drop}
use Rattle.std.proofs.Common.{sym, ap, subst, ◌∙◌, append_assoc, arith, length-append, length-drop, drop-drop, length-take-le}
use Rattle.std.proofs.lemmas.List.{drop-take, take-take, take-append-drop}
use Rattle.std.proofs.Math.Seq.{take-append_seam, drop-append_seam}
use borrow.Rule.Slice.PartMut.{put_mid}
use Rattle.xml_escape.specs.Runs.{First}
use Rattle.xml_escape.specs.Wrote.{Put, put_whole}
use Rattle.xml_escape.proofs.Cuts.{first_of}

rest_of : (l : List ℕ) (m j : ℕ) → drop m (take (m + j) l) ++ drop (m + j) l ≡ drop m l
rest_of l m j = rw (drop-take m j l) (ap (λ (k : List ℕ). take j (drop m l) ++ k) (sym (drop-drop j m l)) ∙ take-append-drop j (drop m l))

put_cut : (out : List ℕ) (to n : ℕ) → to + n ≤ length out → {bytes part : List ℕ} → Put bytes 0 (take n (drop to out)) part → length bytes ≤ n → Put bytes to out (put_mid to n out part)
put_cut out to n h {bytes} {part} p g = record {
  puts = λ base done w k.
      let l = drop to out in
      let m = length bytes in
      let e : part ≡ bytes ++ drop m (take n l) = put_whole p (omega (arith, length-take-le n l (omega (arith, length-drop to out)))) in
      let y : m + (n - m) ≡ n = omega arith in
      let d : drop m (take n l) ++ drop n l ≡ drop m l = subst (λ (j : ℕ). drop m (take j l) ++ drop j l ≡ drop m l) y (rest_of l m (n - m)) in
      let a : take to out ≡ done = ap (take to) w.stands ∙ rw (← w.long) (take-append_seam done (drop (length done) base)) in
      let b : l ≡ drop to base = ap (drop to) w.stands ∙ rw (← w.long) (drop-append_seam done (drop (length done) base)) in
      record {
        long = length-append done bytes ∙ omega (arith, w.long);
        stands =
            ap (λ (x : List ℕ). take to out ++ (x ++ drop n l)) e ∙ ap (λ (x : List ℕ). take to out ++ x) (append_assoc bytes (drop m (take n l)) (drop n l) ∙ ap (λ (x : List ℕ). bytes ++ x) d)
            ∙ ap (λ (x : List ℕ). x ++ (bytes ++ drop m l)) a ∙ ap (λ (x : List ℕ). done ++ (bytes ++ x)) (ap (drop m) b ∙ drop-drop m to base) ∙ sym (append_assoc done bytes (drop (to + m) base));
      };
}

-- bytes of one list put into another up to the first that is of a kind
pub put_start : {P Q : ℕ → Type 0} (s : List ℕ) (at n : ℕ) → at + n ≤ length s → {block : List ℕ} → block ≡ take n (drop at s) → (out : List ℕ) (to k : ℕ) → k ≡ n → to + n ≤ length out
    → {part : List ℕ} {r : ℕ} → First P Q block 0 (min (length block) (length (take k (drop to out)))) r → Put (take r block) 0 (take k (drop to out)) part
    → First P Q s at n r × Put (take r (drop at s)) to out (put_mid to k out part)
put_start {P} {Q} s at n h {block} e out to k f g {part} {r} b p =
    let lb : length block ≡ n = ap length e ∙ length-take-le n (drop at s) (omega (arith, length-drop at s)) in
    let lk : length (take k (drop to out)) ≡ k = length-take-le k (drop to out) (omega (arith, length-drop to out)) in
    let m : min (length block) (length (take k (drop to out))) ≡ n = omega arith in
    let d : First P Q (take n (drop at s)) 0 n r = rw (← e, ← m) b in
    let q = first_of s at n (omega arith) d in
    let lr : length (take r block) ≡ r = length-take-le r block (omega (arith, q.within)) in
    let z : take r block ≡ take r (drop at s) = ap (take r) e ∙ take-take r n (drop at s) q.within in
    (q, subst (λ (x : List ℕ). Put x to out (put_mid to k out part)) z (put_cut out to k (omega arith) p (omega (arith, q.within))))
