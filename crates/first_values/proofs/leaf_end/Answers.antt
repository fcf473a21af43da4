use Rattle.std.proofs.Common.{Option, None, Some, ℕ, sym, ap, ◌∙◌, ◌<◌, ◌≡◌, List, length}
use Rattle.heads.specs.Placed.{bytes_of}
use Rattle.targets.specs.Place.{kind_at}
use Rattle.first_values.specs.Looks.{TextEnds, Ends, fixed-opens, text-opens}
use Rattle.first_values.proofs.leaf_end.Goals as goal

-- a text that was seen opens as a value without children
text : (file codes : List ℕ) (place at : ℕ) → place < length codes → kind_at codes place ≡ 13 → (end : Option ℕ) → TextEnds file at end → Ends file codes place at end
text file codes place at i k None t = tt
text file codes place at i k (Some end) t = text-opens file codes place at t.0 end i k t.1

pub returns-then-kind-eq-STRING : goal.returns-then-kind-eq-STRING
returns-then-kind-eq-STRING c =
    let a = c.args in
    text a.file.now a.codes.now a.place a.at c.if-codes-place.false (sym c.kind_at-kind.ensures ∙ c.if-kind-eq-STRING.true) _ c.text_end.ensures

pub returns : goal.returns
returns c =
    let a = c.args in
    let e = rw (c.size_of-size.ensures, c.kind_at-kind.ensures) at (sym c.in-Ok.ensures) in
    fixed-opens a.file.now a.codes.now a.place a.at _ _ c.if-codes-place.false (λ z. c.if-size-eq0.false (c.size_of-size.ensures ∙ ap bytes_of c.kind_at-kind.ensures ∙ z)) e
