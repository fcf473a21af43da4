-- Trees with the seven-bit number at each place of their rows in its shortest form have their shortest bytes. Assumes nothing.
use Rattle.std.specs.Prelude.{◌≡◌, true, false, ◌⊎◌, eqb, drop}
use Rattle.std.proofs.Math.Path.{refl}
use Rattle.std.proofs.Common.{ap, ◌∙◌, inl, inr, arith, length-append}
use mathlib.Core.List.{List, [], ◌∷◌, ◌++◌, append_assoc, append-nil}
use Prim.Native.Nat.{ℕ, zero, suc, ◌+◌}
use Rattle.std.proofs.Math.ListN.{length}
use Rattle.layout.specs.Number.{Seven}
use Rattle.layout.specs.Target.{Target}
use Rattle.layout.specs.Tree.{Trees, none, tree, count, size, told}
use Rattle.layout.specs.Slot.{Slot, raw, object, reference, leaf, Plan, stop, put}
use Rattle.layout.specs.Layout.{Raw, Value, Lays}
use Rattle.layout.specs.Rows.{Row, raw_rows, value_rows, noted_rows, rows_of}
use Rattle.layout.specs.Shortest.{shortest, numbered, id_bytes, body, short}
use Rattle.reading.specs.Answer.{read}
use Rattle.reading.specs.Reads.{seam}
use Rattle.reading.specs.Seven.{seven_at, seven_reads}
use Rattle.reading.specs.Rules.{null_id}
use Rattle.numbers.specs.Padded.{past}
use Rattle.places.specs.Places.{id_places, raw_place, count_places, rows_places}
use Rattle.places.specs.Padding.{places_append, reference-numbered}
use Rattle.shortest.specs.Short.{Form, plain, text, raw_form, form_numbered, leaf-body}

module _ (file : List ℕ) where
  -- the file's bytes from `at` to `end` have numbers at these places, and with each in its shortest form they are `bs`
  pub data Shortened : (at end : ℕ) (places bs : List ℕ) → Type 0 where
    copied : {at end : ℕ} {bs : List ℕ} (rest : List ℕ) → drop at file ≡ bs ++ rest → end ≡ at + length bs → Shortened at end [] bs
    number : {at end n : ℕ} (bs rest : List ℕ) → drop at file ≡ bs ++ rest → end ≡ at + length bs → Seven n bs → Shortened at end (at ∷ []) (shortest n)
    joined : {at mid end : ℕ} {p q s t : List ℕ} → Shortened at mid p s → Shortened mid end q t → Shortened at end (p ++ q) (s ++ t)

  none_places : rows_places file [] ≡ []
  unfolding rows_places
  none_places = refl

  pub number_is : (n at : ℕ) (bs rest : List ℕ) → Seven n bs → drop at file ≡ bs ++ rest → seven_at file at ≡ read n (at + length bs)
  number_is n at bs rest w d = (seven_reads file).complete n bs rest at w d

  pub split : (at : ℕ) (bs a b rest : List ℕ) → bs ≡ a ++ b → drop at file ≡ bs ++ rest
      → (drop at file ≡ a ++ (b ++ rest)) × (drop (at + length a) file ≡ b ++ rest) × (at + length bs ≡ at + length a + length b)
  split at bs a b rest q d =
      let e : drop at file ≡ (a ++ b) ++ rest = rw q at d in
      (e ∙ append_assoc a b rest, seam file at a b rest e, omega (arith, ap length q, length-append a b))

  -- a value without an id, and one with an id
  without_id : (kind at id : ℕ) → numbered kind id ≡ false → (id_places file kind at id ≡ []) × (raw_place file kind at id ≡ at) × (id_bytes kind id ≡ [])
  unfolding id_places raw_place id_bytes
  without_id kind at id e = rw e (refl, refl, refl)

  with_id : (kind at id : ℕ) {n end : ℕ} → numbered kind id ≡ true → seven_at file at ≡ read n end → (id_places file kind at id ≡ at ∷ []) × (raw_place file kind at id ≡ end) × (id_bytes kind id ≡ shortest id)
  unfolding id_places raw_place id_bytes past
  with_id kind at id e s = rw (e, s) (refl, refl, refl)

  no_count : (kind at : ℕ) → eqb kind 13 ≡ false → count_places file kind at ≡ []
  unfolding count_places
  no_count kind at e = rw e

  text_places : (at : ℕ) → count_places file 13 at ≡ (at ∷ []) ++ []
  unfolding count_places
  text_places at = refl

  text_body : (own : List ℕ) (n : ℕ) → body 13 own n ≡ shortest (length own) ++ own
  unfolding body
  text_body own n = refl

  form_shortened : {P : List ℕ → Type 0} {kind n : ℕ} {own head : List ℕ} (rest : List ℕ) → Form P kind own n head → (at : ℕ) → drop at file ≡ head ++ rest
      → Shortened at (at + length head) (count_places file kind at) (body kind own n)
  form_shortened {kind = kind} {n = n} {own = own} {head = head} rest (plain m q e w) at d =
      let z : Shortened at (at + length head) [] head = copied rest d refl in
      rw (no_count kind at q, ← e) z
  form_shortened {n = n} {own = own} {head = head} rest (text q nb s e f) at d =
      let c = split at head nb own rest e d in
      rw (q, text_places at, text_body own n) (joined (number nb (own ++ rest) c.0 refl s) (copied rest c.1 c.2))

  bare_body : (kind : ℕ) → (kind ≡ 0) ⊎ (kind ≡ 36) → (eqb kind 13 ≡ false) × (body kind [] 0 ≡ [])
  unfolding body
  bare_body kind (inl e) = rw e (refl, refl)
  bare_body kind (inr e) = rw e (refl, refl)

  -- a value that is an id and nothing more: null, or a shared reference
  bare_shortened : (kind id : ℕ) (bs rest : List ℕ) {at : ℕ} → numbered kind id ≡ true → (kind ≡ 0) ⊎ (kind ≡ 36) → Seven id bs → drop at file ≡ bs ++ rest
      → Shortened at (at + length bs) (id_places file kind at id ++ (count_places file kind (raw_place file kind at id) ++ [])) (id_bytes kind id ++ (body kind [] 0 ++ []))
  bare_shortened kind id bs rest {at} m k w d =
      let b = bare_body kind k in
      let i = with_id kind at id m (number_is id at bs rest w d) in
      let z : Shortened at (at + length bs) (at ∷ []) (shortest id) = number bs rest d refl w in
      rw (i.0, i.1, i.2, no_count kind (at + length bs) b.0, b.1, append-nil (shortest id)) z

  -- the children cs, by the rows of their trees
  module _ (readers : List Target) (refers : ℕ → ℕ → Type 0) (cs : Trees)
      (h : (plan : Plan) (b : List ℕ) (v : Lays readers refers plan cs b) (at n q : ℕ) (rest : List ℕ) → drop at file ≡ b ++ rest
      → Shortened at (at + length b) (rows_places file (rows_of readers refers plan cs b v at n q)) (short cs)) where
    abbrev Under : Plan → List ℕ → Type 0
    Under plan b = Lays readers refers plan cs b

    abbrev below : (plan : Plan) (b : List ℕ) → Under plan b → (at n q : ℕ) → List Row
    below plan b v at n q = rows_of readers refers plan cs b v at n q

    raw_shortened : (t : Target) (kind : ℕ) (own bs : List ℕ) (w : Raw Under t kind own cs bs) (at n : ℕ) (rest : List ℕ) → drop at file ≡ bs ++ rest
        → Shortened at (at + length bs) (count_places file kind at ++ rows_places file (below w.plan w.children w.laid (at + length w.head) (suc n) (suc n))) (body kind own (count cs) ++ short cs)
    raw_shortened t kind own bs w at n rest d =
        let c = split at bs w.head w.children rest w.parts d in
        let f = form_shortened (w.children ++ rest) (raw_form readers refers cs t kind own bs w) at c.0 in
        let g = h w.plan w.children w.laid (at + length w.head) (suc n) (suc n) rest c.1 in
        rw c.2 (joined f g)

    -- a value with an id, by what stands behind the id
    id_shortened : (kind id : ℕ) (own nb rest places : List ℕ) {at end : ℕ} → numbered kind id ≡ true → Seven id nb → drop at file ≡ nb ++ rest
        → ((mid : ℕ) → mid ≡ at + length nb → Shortened mid end (count_places file kind mid ++ places) (body kind own (count cs) ++ short cs))
        → Shortened at end (id_places file kind at id ++ (count_places file kind (raw_place file kind at id) ++ places)) (id_bytes kind id ++ (body kind own (count cs) ++ short cs))
    id_shortened kind id own nb rest places {at} {end} m w d f =
        let i = with_id kind at id m (number_is id at nb rest w d) in
        rw (i.0, i.1, i.2) (joined (number nb rest d refl w) (f (at + length nb) refl))

    value_shortened : (x : Slot) (kind id : ℕ) (own bs : List ℕ) (w : Value readers refers Under x kind id own cs bs) (at n q : ℕ) (rest : List ℕ) → drop at file ≡ bs ++ rest
        → Shortened at (at + length bs) (rows_places file (value_rows (λ r. r) (λ t r. r) readers refers Under below x kind id own cs bs w at n q)) (id_bytes kind id ++ (body kind own (count cs) ++ short cs))
    unfolding Value value_rows raw_rows rows_places numbered short count
    value_shortened (raw t) kind id own bs w at n q rest d =
        let i = without_id kind at 0 (form_numbered (raw_form readers refers cs t kind own bs w.1)) in
        rw (w.0, i.0, i.1, i.2) (raw_shortened t kind own bs w.1 at n rest d)
    value_shortened (object t) kind id own bs (inl w) at n q rest d =
        rw (w.kind_of_lem, w.id_of, w.empty, w.childless) (bare_shortened 0 0 bs rest refl (inl refl) w.number d)
    value_shortened (object t) kind zero own bs (inr w) at n q rest d = absurd (null_id readers w.target w.reader)
    value_shortened (object t) kind (suc i) own bs (inr w) at n q rest d =
        let c = split at bs w.number w.value rest w.parts d in
        let r = raw_shortened w.target kind own w.value w.laid (at + length w.number) n rest c.1 in
        rw c.2 (id_shortened kind (suc i) own w.number (w.value ++ rest) (rows_places file (below w.laid.plan w.laid.children w.laid.laid (at + length w.number + length w.laid.head) (suc n) (suc n))) refl w.numbered c.0 (λ mid e. rw e r))
    value_shortened (reference t) kind id own bs w at n q rest d =
        rw (w.kind_of_lem, w.empty, w.childless) (bare_shortened 36 id bs rest (reference-numbered id) (inr refl) w.number d)
    value_shortened (leaf x) kind id own bs w at n q rest d =
        let e = leaf-body x kind own bs w.2 in
        let i = without_id kind at 0 e.1 in
        let z : Shortened at (at + length bs) [] bs = copied rest d refl in
        rw (w.0, w.1, i.0, i.1, i.2, no_count kind at e.2, e.0, append-nil bs) z

  -- trees that stand in the file, with the numbers of their rows in their shortest forms, are their shortest bytes
  pub lays_shortened : (readers : List Target) (refers : ℕ → ℕ → Type 0) (plan : Plan) (ts : Trees) (bs : List ℕ) (w : Lays readers refers plan ts bs) (at n q : ℕ) (rest : List ℕ)
      → drop at file ≡ bs ++ rest → Shortened at (at + length bs) (rows_places file (rows_of readers refers plan ts bs w at n q)) (short ts)
  unfolding Lays noted_rows short
  lays_shortened readers refers stop none bs w at n q rest d = rw none_places (copied rest (rw w at d) (ap (λ (b : List ℕ). at + length b) w))
  lays_shortened readers refers (put x go) none bs w at n q rest d = absurd w
  lays_shortened readers refers stop (tree k i own cs others) bs w at n q rest d = absurd w
  lays_shortened readers refers (put x go) (tree k i own cs others) bs w at n q rest d =
      let c = split at bs w.0 w.1 rest w.2 d in
      let v = value_shortened readers refers cs (λ plan b v at n q rest d. lays_shortened readers refers plan cs b v at n q rest d) x k i own w.0 w.3 at n q (w.1 ++ rest) c.0 in
      let r = lays_shortened readers refers (go (told k own cs)) others w.1 w.4 (at + length w.0) (n + suc (size cs)) q rest c.1 in
      rw (places_append, c.2) (joined v r)
