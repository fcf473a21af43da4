-- Reading the head of a raw value of each type, and a leaf, with their two laws. Assumes nothing.
use Rattle.std.specs.Prelude.{◌≡◌, Bool, true, ltb, leb, eqb, drop, get_or}
use Rattle.std.proofs.Math.Path.{refl, ap}
use Rattle.std.proofs.Common.{sym, ◌∙◌, inl, inr, div-add-mod'}
use mathlib.Core.List.{List, [], ◌∷◌, ◌++◌, append_assoc, append-nil}
use Prim.Native.Nat.{ℕ, zero, suc, ◌+◌, ◌-◌, ◌/◌, ◌%◌, ◌<◌, ◌≤◌, ◌^◌, max}
use native.Mathlib.Omega.{arith}
use Rattle.std.proofs.Math.Nat.{mul-mod_right}
use Rattle.std.proofs.Math.ListN.{length, take, replicate}
use Rattle.std.proofs.Math.Seq.{take-append_seam}
use borrow.Author.Tests.{leb-true, le-leb, ltb-true, lt-ltb, eqb-true, eq-eqb}
use Rattle.laws.specs.Ok.{ok_weaken}
use Rattle.layout.specs.Number.{little, value_of}
use Rattle.layout.specs.Text.{Character}
use Rattle.layout.specs.Target.{Target, fixed, char, string, object, texture, texture_2d, sprite_font, page, mesh, enum, nullable, array, list, dictionary}
use Rattle.layout.specs.Fixed.{sizes, Boolean, Fixed}
use Rattle.layout.specs.Image.{levels, digits}
use Rattle.layout.specs.Slot.{Rule, at_most, multiple_of, Keeps, Leaf, level, blob, numeric, leaf_kind, Slot, raw, slot_of, Plan, stop, each, pairs, leaves, font_slots, page_slots}
use Rattle.layout.specs.Mesh.{plan_of}
use Rattle.layout.specs.Head.{Textual, Flagged, Counted, Pictured, Head}
use Rattle.layout.specs.Layout.{Leafed}
use Rattle.reading.specs.Answer.{Answer, refused, read, bind, check, not_read, is_read, ok_bind, ok_check, within, within-true, true-within}
use Rattle.reading.specs.Reads.{Reads, pure_reads, bind_reads, check_reads, here_reads, convert, some, some_reads, field, field_reads}
use Rattle.reading.specs.Seven.{seven_at, seven_reads}
use Rattle.reading.specs.Little.{little_at, little_reads}
use Rattle.reading.specs.Utf8.{char_at, char_reads, utf8s, utf8s-sound, utf8s-complete}
use Rattle.reading.specs.Fixed.{is_boolean, boolean-sound, boolean-complete, fixed_at, fixed_reads}
use Rattle.reading.specs.Heads.{Opening, always, count_at, fixed_head_at, flag_at, flag_plan, head_at, image_at, own_at, text_at, whole}

opening : (h : Opening) (a : List ℕ) (b : Plan) → h.0 ≡ a → h.1 ≡ b → h ≡ (a, b)
opening h a b p q = λ i. (p i, q i)

module _ (file : List ℕ) where
  own_reads : {F : ℕ → List ℕ → Type 0} {r : ℕ → Answer ℕ} → Reads file F r → Reads file (λ own bs. (bs ≡ own) × ((c : ℕ) × F c own)) (own_at file r)
  unfolding own_at bind
  own_reads x = record {
    complete = λ own bs rest at w q.
        let e : at + length bs - at ≡ length bs = omega arith in
        rw (x.complete w.1.0 bs rest at (rw w.0 w.1.1) q, e, q, take-append_seam, w.0);
    sound = λ h at. ok_bind (x.sound h at) (λ c e v.
        let l : e - at ≡ length v.0 = omega arith in
        let own : take (e - at) (drop at file) ≡ v.0 = rw (l, v.2, take-append_seam) in
        is_read (v.0, (sym own, (c, rw own v.1)), v.2, v.3));
  }

  whole_reads : {F : List ℕ → List ℕ → Type 0} {r : ℕ → Answer (List ℕ)} → Reads file F r → Reads file (λ o bs. F o.0 bs × (o.1 ≡ stop)) (λ at. whole file (r at))
  unfolding whole bind
  whole_reads x = record {
    complete = λ o bs rest at w q. rw (x.complete o.0 bs rest at w.0 q) (ap (λ (p : Opening). read p (at + length bs)) (sym (opening o o.0 stop refl w.1)));
    sound = λ h at. ok_bind (x.sound h at) (λ own e v. is_read {a = (own, stop)} (v.0, (v.1, refl), v.2, v.3));
  }

  fixed_head_reads : (k : ℕ) → Reads file (λ o bs. (bs ≡ o.0) × Fixed k o.0 × (o.1 ≡ stop)) (fixed_head_at file k)
  unfolding fixed_head_at check
  fixed_head_reads k = record {
    complete = λ o bs rest at w q.
        let s = w.1.sized in
        rw (lt-ltb 0 (get_or sizes k 0) s) ((whole_reads (fixed_reads file k s)).complete o bs rest at ((w.0, w.1), w.2) q);
    sound = λ h at. ok_check (ltb 0 (get_or sizes k 0)) 15 at _ (λ t.
        ok_weaken ((whole_reads (fixed_reads file k (ltb-true 0 (get_or sizes k 0) t))).sound h at) (λ o e v. (v.0, (v.1.0.0, v.1.0.1, v.1.1), v.2, v.3)));
  }

  char_head_reads : Reads file (λ o bs. (bs ≡ o.0) × ((c : ℕ) × Character c o.0) × (o.1 ≡ stop)) (λ at. whole file (own_at file (char_at file) at))
  char_head_reads =
      convert file (whole_reads (own_reads (char_reads file)))
      (λ o bs s w. (w.0.0, w.0.1, w.1))
      (λ o bs w. ((w.0, w.1), w.2))

  text_reads : Reads file (λ o bs. Textual o.0 bs × (o.1 ≡ stop)) (text_at file)
  unfolding text_at Textual
  text_reads =
      convert file (bind_reads file (seven_reads file) (λ n at. field_reads file utf8s (λ own. (own, stop)) at (some_reads file n at)))
      (λ o bs s w. let v = w.5 in rw v.3 ((w.1, rw v.1.1 w.4, rw (← v.1.0) w.3, utf8s-sound v.0 v.2), refl))
      (λ o bs w. let t = w.0 in (length o.0, t.0, o.0, t.2, t.1, (o.0, (refl, refl), utf8s-complete o.0 t.3, opening o o.0 stop refl w.1)))

  flag_plan_lem : (t : Target) (own : List ℕ) → Boolean own → Flagged t own (flag_plan t own)
  unfolding Boolean Flagged flag_plan
  flag_plan_lem t own (inl e) = rw e (inl (refl, refl))
  flag_plan_lem t own (inr e) = rw e (inr (refl, refl))

  flagged_boolean : (t : Target) (own : List ℕ) (plan : Plan) → Flagged t own plan → Boolean own × (length own ≡ 1) × (plan ≡ flag_plan t own)
  unfolding Boolean Flagged flag_plan
  flagged_boolean t own plan (inl w) = rw w.0 (inl refl, refl, w.1)
  flagged_boolean t own plan (inr w) = rw w.0 (inr refl, refl, w.1)

  flag_reads : (t : Target) → Reads file (λ o bs. (bs ≡ o.0) × Flagged t o.0 o.1) (flag_at file t)
  unfolding flag_at
  flag_reads t =
      convert file (here_reads file (λ p. field_reads file is_boolean (λ own. (own, flag_plan t own)) p (some_reads file 1 p)))
      (λ o bs s w. rw w.3 (w.1.0, flag_plan_lem t w.0 (boolean-sound w.0 w.2)))
      (λ o bs w. let f = flagged_boolean t o.0 o.1 w.1 in
      (o.0, (w.0, f.1), boolean-complete o.0 f.0, opening o o.0 (flag_plan t o.0) refl f.2))

  count_reads : (slots : ℕ → List Slot) → Reads file (λ o bs. Counted slots o.0 o.1 bs) (count_at file slots)
  unfolding count_at always Counted
  count_reads slots =
      convert file (here_reads file (λ p. field_reads file always (λ n. ([], each (slots n))) p (little_reads file 4 p)))
      (λ o bs s w. (w.0, w.1.0, ap (λ (x : Opening). x.0) w.3, w.1.1, ap (λ (x : Opening). x.1) w.3))
      (λ o bs w. (w.0, (w.1, w.3), refl, opening o [] (each (slots w.0)) w.2 w.4))

  digits_bound : (k x : ℕ) → digits k x ≤ k
  unfolding digits
  digits_bound zero x = omega arith
  digits_bound (suc k) zero = omega arith
  digits_bound (suc k) (suc x) = omega (arith, digits_bound k (suc x / 2))

  image_reads : Reads file (λ o bs. Pictured o.0 o.1 bs) (image_at file)
  unfolding image_at Pictured
  image_reads =
      convert file
      (bind_reads file (here_reads file (λ p. little_reads file 4 p)) (λ f at. check_reads file (leb f 18) 15 at
      (bind_reads file (here_reads file (λ p. little_reads file 4 p)) (λ w e. check_reads file (within 4096 w) 15 e
      (bind_reads file (here_reads file (λ p. little_reads file 4 p)) (λ h e₂. check_reads file (within 4096 h) 15 e₂
      (bind_reads file (here_reads file (λ p. little_reads file 4 p)) (λ n e₃. check_reads file (within (digits 32 (max w h)) n) 15 e₃
      (pure_reads file (little 4 f ++ little 4 w ++ little 4 h, each (leaves (levels f w h n))))))))))))
      (λ o bs s w.
      let f = w.0 in
      let v = w.5.1 in
      let u = v.5.1 in
      let t = u.5.1 in
      let p = within-true 4096 v.0 v.5.0 in
      let q = within-true 4096 u.0 u.5.0 in
      let r = within-true (digits 32 (max v.0 u.0)) t.0 t.5.0 in
      let own = little 4 f ++ little 4 v.0 ++ little 4 u.0 in
      let z : t.1 ++ t.2 ≡ little 4 t.0 = rw (t.5.1.1, t.4.1) (append-nil (little 4 t.0)) in
      let b : bs ≡ own ++ little 4 t.0 = rw (w.3, w.4.1, v.3, v.4.1, u.3, u.4.1, t.3, z) (simp append_assoc) in
      rw t.5.1.0 (f, v.0, u.0, t.0, leb-true f 18 w.5.0, p.0, p.1, q.0, q.1, r.0, r.1, refl, b, refl))
      (λ o bs w.
      let f = w.0 in
      let x = w.1 in
      let y = w.2 in
      let n = w.3 in
      let fb : f < 256 ^ 4 = omega arith in
      let xb : x < 256 ^ 4 = omega arith in
      let yb : y < 256 ^ 4 = omega arith in
      let nb : n < 256 ^ 4 = omega (arith, digits_bound 32 (max x y)) in
      let b : bs ≡ little 4 f ++ (little 4 x ++ (little 4 y ++ (little 4 n ++ []))) = w.12 ∙ rw w.11 (simp (append_assoc, append-nil)) in (
        f,
        little 4 f,
        little 4 x ++ (little 4 y ++ (little 4 n ++ [])),
        b,
        (fb, refl),
        (
          le-leb f 18 w.4,
          (
            x,
            little 4 x,
            little 4 y ++ (little 4 n ++ []),
            refl,
            (xb, refl),
            (
              true-within 4096 x w.5 w.6,
              (
                y,
                little 4 y,
                little 4 n ++ [],
                refl,
                (yb, refl),
                (
                  true-within 4096 y w.7 w.8,
                  (
                    n,
                    little 4 n,
                    [],
                    refl,
                    (nb, refl),
                    (
                      true-within (digits 32 (max x y)) n w.9 w.10,
                      (opening o (little 4 f ++ little 4 x ++ little 4 y) (each (leaves (levels f x y n))) w.11 w.13, refl),
                    ),
                  ),
                ),
              ),
            ),
          ),
        ),
      ))

  -- a type that is its children alone
  bare_reads : (plan : Plan) → Reads file (λ (o : Opening) bs. (bs ≡ []) × (o.0 ≡ []) × (o.1 ≡ plan)) (λ at. read ([], plan) at)
  bare_reads plan =
      convert file (pure_reads file ([], plan))
      (λ o bs s w. rw w.0 (w.1, refl, refl))
      (λ o bs w. (opening o [] plan w.1 w.2, w.0))

  never_reads : Reads file (λ (o : Opening) bs. ⊥) (λ at. refused 13 at)
  never_reads = record { complete = λ o bs rest at w q. absurd w; sound = λ h at. not_read }

  pub head_reads : (t : Target) → Reads file (λ o bs. Head t o.0 o.1 bs) (head_at file t)
  unfolding Head head_at
  head_reads (fixed k) = fixed_head_reads k
  head_reads char = char_head_reads
  head_reads string = text_reads
  head_reads object = never_reads
  head_reads (enum name z) =
      convert file (whole_reads (here_reads file (λ p. some_reads file z p)))
      (λ o bs s w. (w.0.0, w.0.1, w.1))
      (λ o bs w. ((w.0, w.1), w.2))
  head_reads (nullable t) = flag_reads t
  head_reads (array t) = count_reads (λ n. replicate n (slot_of t))
  head_reads (list t) = count_reads (λ n. replicate n (slot_of t))
  head_reads (dictionary k v) = count_reads (λ n. pairs n (slot_of k) (slot_of v))
  head_reads texture = never_reads
  head_reads texture_2d = image_reads
  head_reads sprite_font = bare_reads (each font_slots)
  head_reads page = bare_reads (each page_slots)
  head_reads (mesh m) = bare_reads (plan_of m)
