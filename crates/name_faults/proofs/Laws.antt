-- From the contract of `load` to what is demanded of 11 and 33 to 38. Assumes nothing.
use mathlib.Core.Path.{◌≡◌, refl, sym, ap, ◌∙◌}
use mathlib.Core.Bool.{true}
use mathlib.Core.List.{List}
use mathlib.Core.Logic.{◌⊎◌, inl, inr}
use Prim.Native.Nat.{ℕ, ◌+◌, ◌≤◌}
use native.Mathlib.Omega.{arith}
use borrow.Author.Tests.{le-leb, ne_eqb}
use Rattle.laws.specs.Small.{differ}
use Rattle.layout.specs.EnumList.{EnumEntry}
use Rattle.layout.specs.Fault.{Fault}
use Rattle.layout.specs.Table.{room_of}
use Rattle.names.specs.Faults.{fault_number_lem}
use Rattle.reading.specs.Answer.{Answer, refused, read}
use Rattle.reading.specs.Reads.{Small}
use Rattle.reading.specs.File.{Loaded, Load, refusal, accepted, to_load, load_of, file_at}
use Rattle.enums.specs.Judge.{Judgement, enums_at}
use Rattle.enums.specs.Judge.{refused as list-refused, lawful as List-Lawful}
use Rattle.enums.specs.Lists.{Bytes, Says, enums-sound}
use Rattle.readers.specs.Judged.{judged_name}
use Rattle.load.specs.Under.{load_under, load_lawful, load_refused-list}
use Rattle.std.specs.Prelude.{Err}
use Rattle.answers.specs.declared.Refusal.{Refusal}
use Rattle.answers.specs.Refusals.{refusal as code_refusal}
use Rattle.load.specs.Loads.{Loading, answer_of}
use Rattle.name_faults.specs.Names.{FirstName, Complained, Under, Names}
use Rattle.name_faults.proofs.Others.{is_name}
use Rattle.name_faults.proofs.First.{Wrong, file_wrong}

is_name_lem : (number : ℕ) → 33 ≤ number → number ≤ 38 → is_name number ≡ true
is_name_lem number a b = rw (ne_eqb number 11 (λ e. omega arith), le-leb number 38 b, le-leb 33 number a)

refused_as : (x : Answer Loaded) {n p : ℕ} → to_load x ≡ refusal n p → x ≡ refused n p
unfolding to_load
refused_as (refused m q) {n} {p} e =
    let z : m ≡ n = cc in
    let y : q ≡ p = cc in
    rw (z, y)
refused_as (read a f) e = differ cc

answered_as : (file : List ℕ) (x : Load) {n p : ℕ} → answer_of file x ≡ Err (code_refusal n p) → x ≡ refusal n p
answered_as file (refusal m q) {n} {p} e =
    let w : code_refusal m q ≡ code_refusal n p = cc in
    let z : m ≡ n = ap (λ (r : Refusal). r.number) w in
    let y : q ≡ p = ap (λ (r : Refusal). r.place) w in
    rw (z, y)
answered_as file (accepted rows readers shared) e = differ cc

-- of the same name something else holds
other_holds : {es : List EnumEntry} {file : List ℕ} {P Q : (name : List ℕ) (first : ℕ) → Type 0} → FirstName es file P → ((name : List ℕ) (first : ℕ) → P name first → Q name first) → FirstName es file Q
other_holds w f = record {
  count = w.count;
  before = w.before;
  number = w.number;
  name = w.name;
  rest = w.rest;
  parts = w.parts;
  readers = w.readers;
  counted = w.counted;
  not_many = w.not_many;
  names = w.names;
  targets = w.targets;
  listed = w.listed;
  fewer = w.fewer;
  numbered = w.numbered;
  not_empty = w.not_empty;
  not_long = w.not_long;
  holds = f _ _ w.holds;
}

module _ (enums file : List ℕ) (words : ℕ) (bytes : Bytes enums) (small : Small file) where
  wrong_under : (number place : ℕ) → is_name number ≡ true → load_under enums file words ≡ refusal number place → Under enums (λ es. FirstName es file (Wrong es number place))
  unfolding load_of
  wrong_under number place i e = go (enums_at enums) refl (enums-sound enums bytes) where
    go : (j : Judgement) → enums_at enums ≡ j → Says enums j → Under enums (λ es. FirstName es file (Wrong es number place))
    go (list-refused n k) q w =
        let z : ◌≡◌ {A = Load} (refusal n k) (refusal number place) = sym (load_refused-list enums file words q) ∙ e in
        let y : number ≡ n = cc in
        let x : is_name 32 ≡ true = rw (y ∙ w.0) at i in
        differ cc
    go (List-Lawful es) q w =
        (es, w.0, w.1, file_wrong es file small number place i (room_of words) (refused_as (file_at (judged_name es) file (room_of words)) (sym (load_lawful enums file words es q) ∙ e)))

  fault_of : {es : List EnumEntry} {number place : ℕ} → 33 ≤ number → (name : List ℕ) (first : ℕ) → Wrong es number place name first → (i : ℕ) × (place ≡ first + i) × Fault name number i
  fault_of h name first (inl w) = w
  fault_of h name first (inr w) = absurd (omega (arith, w.0))

  head_of : {es : List EnumEntry} {place : ℕ} (name : List ℕ) (first : ℕ) → Wrong es 11 place name first → Complained es name first place
  head_of name first (inl w) = absurd (omega (arith, (fault_number_lem w.2).0))
  head_of name first (inr w) = w.1

  pub names : {r : Loading} → r ≡ answer_of file (load_under enums file words) → Names enums file r
  names answers = record {
    broken = λ number place e a b.
        let w = wrong_under number place (is_name_lem number a b) (answered_as file (load_under enums file words) (sym answers ∙ e)) in
        (w.0, w.1, w.2, other_holds w.3 (fault_of a));
    unlisted = λ place e.
        let w = wrong_under 11 place refl (answered_as file (load_under enums file words) (sym answers ∙ e)) in
        (w.0, w.1, w.2, other_holds w.3 head_of);
  }
