-- The shortest bytes of trees (01, "Seven-bit numbers": the rewriter changes "these numbers, each to its shortest form"). Assumes nothing.
use Rattle.std.specs.Prelude.{◌≡◌, List, [], ◌∷◌, ◌++◌, eqb, length, replicate}
use Rattle.std.proofs.Math.Path.{refl}
use Rattle.std.proofs.Common.{sym, ap, ◌∙◌, append-nil, inr, arith, length-append}
use Rattle.std.proofs.Math.Bool.{false}
use Rattle.std.proofs.Math.Logic.{inl}
use Prim.Native.Nat.{ℕ, zero, suc, ◌+◌, ◌*◌, ◌/◌, ◌≤◌, max}
use Rattle.std.proofs.lemmas.List.{length-replicate}
use Rattle.layout.specs.Number.{Seven, little}
use Rattle.layout.specs.Target.{Target, fixed, char, string, object as anything, texture, texture_2d, sprite_font, page, index_buffer, vertex_declaration, vertex_buffer, model, mesh, enum, nullable, array, list, dictionary, kind_of, mesh_kind}
use Rattle.layout.specs.Tree.{Trees, none, tree, count, told}
use Rattle.layout.specs.Slot.{bone_field, code_field, uint_field, field_kind, Leaf, level, blob, numeric, Slot, raw, object, reference, leaf, slot_of, Plan, stop, put, each, pairs, leaves}
use Rattle.layout.specs.Fixed.{sizes}
use Rattle.layout.specs.Image.{levels}
use Rattle.layout.specs.Head.{Head, Textual, Counted, Pictured}
use Rattle.layout.specs.Layout.{Leafed, Raw, Value, Lays}
use Rattle.layout.specs.Shortest.{shortest, Shortens, numbered, id_bytes, body, short}
use Rattle.reading.specs.Rules.{null_id}
use Rattle.reading.specs.References.{slots-count}
use Rattle.numbers.specs.Shortest.{shortest_is}
use Rattle.places.specs.Padding.{reference-numbered, sized_not, sized-plain}

pub same_shortens : (P : List ℕ → Type 0) (s b : List ℕ) → s ≡ b → P b → Shortens P s b
same_shortens P s b e w = rw e (record { form = w; no_longer = omega arith; same = λ l. refl })

-- parts that are shortest make a whole that is
pub shortens_append : {P Q R : List ℕ → Type 0} {s₁ b₁ s₂ b₂ : List ℕ} → R (s₁ ++ s₂) → Shortens P s₁ b₁ → Shortens Q s₂ b₂ → Shortens R (s₁ ++ s₂) (b₁ ++ b₂)
shortens_append {s₁ = s₁} {b₁ = b₁} {s₂ = s₂} {b₂ = b₂} w x y =
    let l : length s₁ ≤ length b₁ = x.no_longer in
    let m : length s₂ ≤ length b₂ = y.no_longer in
    record {
      form = w;
      no_longer = rw (length-append s₁ s₂, length-append b₁ b₂) (omega arith);
      same = λ e. let q : length s₁ + length s₂ ≡ length b₁ + length b₂ = rw (length-append s₁ s₂, length-append b₁ b₂) at e in
          let a : s₁ ≡ b₁ = x.same (omega arith) in
          let b : s₂ ≡ b₂ = y.same (omega arith) in
          rw (a, b);
    }

-- A raw value is neither null nor a reference. Its head is one string of bytes, or it is a text, whose count may be written in other ways.
pub data Form (P : List ℕ → Type 0) (kind : ℕ) (own : List ℕ) (n : ℕ) (head : List ℕ) : Type 0 where
  plain : numbered kind 0 ≡ false → eqb kind 13 ≡ false → head ≡ body kind own n → P head → Form P kind own n head
  text : kind ≡ 13 → (number : List ℕ) → Seven (length own) number → head ≡ number ++ own → ((b : List ℕ) → Seven (length own) b → P (b ++ own)) → Form P kind own n head

length_pairs : (n : ℕ) (x y : Slot) → length (pairs n x y) ≡ 2 * n
unfolding pairs
length_pairs zero x y = refl
length_pairs (suc n) x y = omega (arith, length_pairs n x y)

length-leaves : (zs : List ℕ) → length (leaves zs) ≡ length zs
unfolding leaves
length-leaves [] = refl
length-leaves (z ∷ zs) = ap suc (length-leaves zs)

length-levels : (f w h n : ℕ) → length (levels f w h n) ≡ n
unfolding levels
length-levels f w h zero = refl
length-levels f w h (suc n) = ap suc (length-levels f (max 1 (w / 2)) (max 1 (h / 2)) n)

-- the number of children by the plan, where the plan's slots are so many
abbrev Counts : Plan → ℕ → Type 0
Counts plan n = (slots : List Slot) → plan ≡ each slots → n ≡ length slots

pub head_form : (t : Target) (own : List ℕ) (plan : Plan) (bs : List ℕ) → Head t own plan bs → (n : ℕ) → Counts plan n → Form (Head t own plan) (kind_of t) own n bs
unfolding Head Textual Counted Pictured kind_of mesh_kind body numbered sizes
head_form (fixed k) own plan bs w n c =
    let z = w.1.sized in
    plain (sized-plain k z).0 (sized-plain k z).1
    (w.0 ∙ rw (sized_not k 13 z refl, sized_not k 35 z refl, sized_not k 17 z refl, sized_not k 18 z refl, sized_not k 19 z refl, sized_not k 32 z refl)) w
head_form char own plan bs w n c = plain refl refl w.0 w
head_form string own plan bs w n c = text refl w.0.0 w.0.1 w.0.2 (λ b s. ((b, s, refl, w.0.3), w.1))
head_form anything own plan bs w n c = absurd w
head_form (enum name z) own plan bs w n c = plain refl refl w.0 w
head_form (nullable t) own plan bs w n c = plain refl refl w.0 w
head_form (array t) own plan bs w n c =
    let l : n ≡ w.0 = c (replicate w.0 (slot_of t)) w.4 ∙ length-replicate w.0 (slot_of t) in
    plain refl refl (w.3 ∙ ap (little 4) (sym l)) w
head_form (list t) own plan bs w n c =
    let l : n ≡ w.0 = c (replicate w.0 (slot_of t)) w.4 ∙ length-replicate w.0 (slot_of t) in
    plain refl refl (w.3 ∙ ap (little 4) (sym l)) w
head_form (dictionary k v) own plan bs w n c =
    let l : n ≡ 2 * w.0 = c (pairs w.0 (slot_of k) (slot_of v)) w.4 ∙ length_pairs w.0 (slot_of k) (slot_of v) in
    let h : n / 2 ≡ w.0 = omega arith in
    plain refl refl (w.3 ∙ ap (little 4) (sym h)) w
head_form texture own plan bs w n c = absurd w
head_form texture_2d own plan bs w n c =
    let zs = levels w.0 w.1 w.2 w.3 in
    let l : n ≡ w.3 = c (leaves zs) w.13 ∙ length-leaves zs ∙ length-levels w.0 w.1 w.2 w.3 in
    plain refl refl (w.12 ∙ ap (λ (k : ℕ). own ++ little 4 k) (sym l)) w
head_form sprite_font own plan bs w n c = plain refl refl (w.0 ∙ sym w.1) w
head_form page own plan bs w n c = plain refl refl (w.0 ∙ sym w.1) w
head_form (mesh index_buffer) own plan bs w n c = plain refl refl (w.0 ∙ sym w.1) w
head_form (mesh vertex_declaration) own plan bs w n c = plain refl refl (w.0 ∙ sym w.1) w
head_form (mesh vertex_buffer) own plan bs w n c = plain refl refl (w.0 ∙ sym w.1) w
head_form (mesh model) own plan bs w n c = plain refl refl (w.0 ∙ sym w.1) w

form_short : {P : List ℕ → Type 0} {kind : ℕ} {own : List ℕ} {n : ℕ} {head : List ℕ} → Form P kind own n head → Shortens P (body kind own n) head
unfolding body
form_short {P} {kind} {own} {n} {head} (plain m q e w) = same_shortens P (body kind own n) head (sym e) w
form_short {P} {kind} {own} {n} {head} (text q number s e f) =
    let g = shortest_is (length own) number s in
    rw (q, e) (shortens_append {Q = λ b. b ≡ own} (f (shortest (length own)) g.form) g (same_shortens (λ b. b ≡ own) own own refl refl))

pub form_numbered : {P : List ℕ → Type 0} {kind : ℕ} {own : List ℕ} {n : ℕ} {head : List ℕ} → Form P kind own n head → numbered kind 0 ≡ false
unfolding numbered
form_numbered (plain m q e w) = m
form_numbered (text q number s e f) = rw q

pub leaf-body : (x : Leaf) (kind : ℕ) (own bs : List ℕ) → Leafed x kind own bs → (body kind own 0 ≡ bs) × (numbered kind 0 ≡ false) × (eqb kind 13 ≡ false)
unfolding Leafed field_kind body numbered
leaf-body (level z) kind own bs w = rw w.0 (ap (λ (k : ℕ). little 4 k ++ own) w.2 ∙ sym w.3, refl, refl)
leaf-body (blob z) kind own bs w = rw w.0 (sym w.2, refl, refl)
leaf-body (numeric bone_field z rule) kind own bs w = rw w.0 (sym w.3, refl, refl)
leaf-body (numeric code_field z rule) kind own bs w = rw w.0 (sym w.3, refl, refl)
leaf-body (numeric uint_field z rule) kind own bs w = rw w.0 (sym w.3, refl, refl)

module _ (readers : List Target) (refers : ℕ → ℕ → Type 0) (cs : Trees) where
  -- what a value's children stand in
  abbrev Under : Plan → List ℕ → Type 0
  Under plan b = Lays readers refers plan cs b

  -- the plan says how many children there are
  children_count : (plan : Plan) (b : List ℕ) → Under plan b → Counts plan (count cs)
  children_count plan b w slots e = slots-count readers refers slots cs b (rw e at w)

  pub raw_form : (t : Target) (kind : ℕ) (own bs : List ℕ) (w : Raw Under t kind own cs bs) → Form (Head t own w.plan) kind own (count cs) w.head
  raw_form t kind own bs w =
      rw w.kind_of_lem (head_form t own w.plan w.head w.headed (count cs) (children_count w.plan w.children w.laid))

  module _ (h : (plan : Plan) (b : List ℕ) → Under plan b → Shortens (Under plan) (short cs) b) where
    raw_short : (t : Target) (kind : ℕ) (own bs : List ℕ) → Raw Under t kind own cs bs → Shortens (Raw Under t kind own cs) (body kind own (count cs) ++ short cs) bs
    raw_short t kind own bs w =
        let f = form_short (raw_form t kind own bs w) in
        let g = h w.plan w.children w.laid in
        let v : Raw Under t kind own cs (body kind own (count cs) ++ short cs)
        = record { kind_of_lem = w.kind_of_lem; font = w.font; plan = w.plan; head = body kind own (count cs); children = short cs; parts = refl; headed = f.form; laid = g.form } in
        rw w.parts (shortens_append v f g)

    value_short : (x : Slot) (kind id : ℕ) (own bs : List ℕ) → Value readers refers Under x kind id own cs bs
        → Shortens (Value readers refers Under x kind id own cs) (id_bytes kind id ++ (body kind own (count cs) ++ short cs)) bs
    unfolding Value id_bytes numbered short count body
    value_short (raw t) kind id own bs w =
        let g = raw_short t kind own bs w.1 in
        let n : numbered kind id ≡ false = rw w.0 (form_numbered (raw_form t kind own bs w.1)) in
        rw n (record { form = (w.0, g.form); no_longer = g.no_longer; same = g.same })
    value_short (object t) kind id own bs (inl w) =
        let g = shortest_is 0 bs w.number in
        rw (w.kind_of_lem, w.id_of, w.empty, w.childless, append-nil)
        (record { form = inl (record { kind_of_lem = refl; id_of = refl; empty = refl; childless = refl; number = g.form }); no_longer = g.no_longer; same = g.same })
    value_short (object t) kind zero own bs (inr w) = absurd (null_id readers w.target w.reader)
    value_short (object t) kind (suc i) own bs (inr w) =
        let g = raw_short w.target kind own w.value w.laid in
        let s = shortest_is (suc i) w.number w.numbered in
        let rest = body kind own (count cs) ++ short cs in
        rw w.parts (shortens_append
        (inr (record { target = w.target; reader = w.reader; serves = w.serves; number = shortest (suc i); value = rest; parts = refl; numbered = s.form; laid = g.form })) s g)
    value_short (reference t) kind id own bs w =
        let g = shortest_is id bs w.number in
        rw (w.kind_of_lem, w.empty, w.childless, reference-numbered id, append-nil)
        (record { form = record { kind_of_lem = refl; empty = refl; childless = refl; named = w.named; number = g.form }; no_longer = g.no_longer; same = g.same })
    value_short (leaf x) kind id own bs w =
        let e = leaf-body x kind own bs w.2 in
        rw (w.0, w.1, e.1, append-nil) (same_shortens (λ b. (◌≡◌ {A = ℕ} 0 0) × (◌≡◌ {A = Trees} none none) × Leafed x kind own b) (body kind own 0) bs e.0 (refl, refl, w.2))

-- the shortest bytes of trees are bytes of the trees, none are shorter, and none other are as short
pub lays_short : (readers : List Target) (refers : ℕ → ℕ → Type 0) (plan : Plan) (ts : Trees) (bs : List ℕ) → Lays readers refers plan ts bs → Shortens (Lays readers refers plan ts) (short ts) bs
unfolding Lays short
lays_short readers refers stop none bs w = rw w (record { form = refl; no_longer = omega arith; same = λ e. refl })
lays_short readers refers (put x go) none bs w = absurd w
lays_short readers refers stop (tree k i own cs rest) bs w = absurd w
lays_short readers refers (put x go) (tree k i own cs rest) bs w =
    let v = value_short readers refers cs (λ plan b y. lays_short readers refers plan cs b y) x k i own w.0 w.3 in
    let r = lays_short readers refers (go (told k own cs)) rest w.1 w.4 in
    let s = id_bytes k i ++ (body k own (count cs) ++ short cs) in
    rw w.2 (shortens_append (s, short rest, refl, v.form, r.form) v r)
