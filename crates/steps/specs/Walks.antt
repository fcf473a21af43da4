-- Laws of the walk: what its functions know of each other's answers. Assumes nothing.
use Rattle.std.specs.Prelude.{◌≡◌, refl, List, ℕ, ◌+◌, ◌≤◌, ◌<◌, length, Result, Ok, Err}
use Rattle.std.proofs.Common.{sym, ap, subst, ◌∙◌, arith}
use Rattle.answers.specs.Refusals.{refusal}
use Rattle.answers.specs.declared.Refusal.{Refusal}
use Rattle.laws.specs.Small.{differ}
use Rattle.layout.specs.Target.{Target, kind_of}
use Rattle.layout.specs.Slot as L
use Rattle.reading.specs.Answer.{Answer, refused, read}
use Rattle.reading.specs.Reads.{Small, reads_bounds}
use Rattle.reading.specs.Heads.{Opening, head_at}
use Rattle.reading.proofs.Heads.{head_reads}
use Rattle.reading.specs.Walk.{Taken, sequence, walk}
use Rattle.reading.proofs.Sound.{walk-sound}
use Rattle.reading.proofs.Bounds.{sequence_bounds}
use Rattle.table.specs.declared.Grid.{Grid}
use Rattle.walked.specs.declared.Head.{Head}
use Rattle.walked.specs.Contract.{Walk, seen, Walked}
use Rattle.walked.specs.Loop.{got}
use Rattle.leaves.specs.Plain.{Begin}
use Rattle.heads.specs.declared.nest.Below.{Below}
use Rattle.heads.specs.declared.open.Opened.{Opened}
use Rattle.heads.specs.Opens.{Opens}
use Rattle.heads.specs.Plans.{BelowPlan}
use Rattle.heads.specs.Pads.{below_pad}
use Rattle.places.specs.Places.{count_places}
use Rattle.places.specs.Padding.{padding}
use Rattle.objects.specs.Endings.{Closable}
use Rattle.steps.specs.Known.{Ready}

-- where a head ends, and what stands below
abbrev pub opened : (next : ℕ) → Below → Opened
opened next below = record { next = next; below = below }

-- a head that was read, with the padding of its count
pub record OpenedAs (file codes : List ℕ) (t : Target) (at next : ℕ) (below : Below) : Type 0 where
  pub o : Opening
  pub is : head_at file t at ≡ read o next
  pub goes : BelowPlan file codes below o.1
  pub pads : below_pad below ≡ padding file (count_places file (kind_of t) at)

pub opened_as : (file codes : List ℕ) (t : Target) (at : ℕ) {next : ℕ} {below : Below} {r : Result Opened Refusal} → Opens file codes (head_at file t at) r → r ≡ Ok (opened next below)
    → below_pad below ≡ padding file (count_places file (kind_of t) at) → OpenedAs file codes t at next below
opened_as file codes t at {next} {below} {r} w e p = go (head_at file t at) refl w where
  go : (x : Answer Opening) → head_at file t at ≡ x → Opens file codes x r → OpenedAs file codes t at next below
  go (refused n q) h w = differ cc
  go (read o f) h w =
      let q : ◌≡◌ {A = Result Opened Refusal} (Ok (opened f w.below)) (Ok (opened next below)) = sym w.is ∙ e in
      let e₀ : opened f w.below ≡ opened next below = cc in
      let e₁ : f ≡ next = ap (λ (o : Opened). o.next) e₀ in
      let e₂ : w.below ≡ below = ap (λ (o : Opened). o.below) e₀ in
      record { o = o; is = h ∙ ap (read o) e₁; goes = subst (λ b. BelowPlan file codes b o.1) e₂ w.goes; pads = p }

pub refused_as : (file codes : List ℕ) {n p : ℕ} {r : Result Opened Refusal} (x : Answer Opening) → Opens file codes x r → r ≡ Err (refusal n p) → x ≡ refused n p
refused_as file codes {n} {p} (refused m q) w e =
    let z : ◌≡◌ {A = Result Opened Refusal} (Err (refusal m q)) (Err (refusal n p)) = sym w ∙ e in
    let e₀ : refusal m q ≡ refusal n p = cc in
    let e₁ : m ≡ n = ap (λ (y : Refusal). y.number) e₀ in
    let e₂ : q ≡ p = ap (λ (y : Refusal). y.place) e₀ in
    rw (e₁, e₂)
refused_as file codes {n} {p} (read o f) w e =
    let q : ◌≡◌ {A = Result Opened Refusal} (Ok (opened f w.below)) (Err (refusal n p)) = sym w.is ∙ e in
    differ cc

-- the children begin inside the file and have rows left
pub begin_below : {file words : List ℕ} {g : Grid} {h : Head} {at next : ℕ} (t : Target) {o : Opening} → Small file → Ready file words g h at → head_at file t at ≡ read o next → Begin file words g next (h.row.0 + 1)
begin_below {file} {words} {g} {h} {at} {next} t s r e =
    let b = reads_bounds (head_reads file t) s at r.place e in
    record { long = r.long; few = r.few; rows = omega (arith, r.free); place = b.1; short = r.short }

-- the value that ends has a length that fits
pub close_ready : {file words w₁ : List ℕ} {g : Grid} {h : Head} {at next : ℕ} (t : Target) {o : Opening} (readers : List Target) (shared depth : ℕ) (plan : L.Plan) (walked : Walk)
    → Small file → Ready file words g h at → head_at file t at ≡ read o next
    → Walked g file words w₁ (h.row.0 + 1) (seen (sequence (λ y b v. walk file readers shared g.room depth y b v (h.row.0 + 1)) plan next (h.row.0 + 1))) walked
    → Closable h walked
close_ready t readers shared depth plan (Err y) s r e c = tt
close_ready {file} {words} {w₁} {g} {h} {at} {next} t readers shared depth plan (Ok f) s r e c =
    let y = got c refl in
    let b = reads_bounds (head_reads file t) s at r.place e in
    let k = sequence_bounds file readers shared g.room s depth plan next (h.row.0 + 1) (h.row.0 + 1) y.taken f.next y.is in
    let i : f.next ≤ length file = k.inside b.1 in
    (omega (arith, r.begun, b.0, k.ahead), omega (arith, r.short))

-- a value takes a row
pub walk-takes : (file : List ℕ) (readers : List Target) (shared room : ℕ) → Small file → (d : ℕ) (x : L.Slot) (at used parent : ℕ) (a : Taken) (e : ℕ) → walk file readers shared room d x at used parent ≡ read a e → used < a.0
walk-takes file readers shared room small d x at used parent a e q = omega (arith, ((walk-sound file readers shared room small d x at used parent).got q).used_is)
