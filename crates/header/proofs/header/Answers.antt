-- `header::header` meets its contract. Assumes nothing.
use mathlib.Core.Path.{sym, ◌∙◌}
use mathlib.Core.List.{◌∷◌, []}
use lib.ListN.{drop}
use Rattle.laws.specs.Small.{differ}
use Rattle.std.proofs.lemmas.Slice.Eq.{starts_is}
use Rattle.std.proofs.lemmas.Bool.Decides.{Decides-eqb}
use borrow.Author.Tests.{le-leb, lt-ltb, eq-eqb}
use Rattle.header.proofs.Laws.{Sized, Lettered, Placed, Versioned, Flagged, long, short, not_spelled, is_spelled, platform, version, packed, flagged, other_length, whole}
use Rattle.header.proofs.header.Goals.{Else-file-gt1, Else-file-lt10, Else-file-ne5, Else-not-starts_with, Else-not-is_platform}
use Rattle.header.proofs.header.Goals as goal

-- what those tests said
is-sized : (c : Else-file-lt10) → Sized c.args.file.now
is-sized c = (le-leb _ _ c.if-file-gt16777216.false, le-leb _ _ c.if-file-lt10.false)

is-lettered : (c : Else-not-starts_with) → Lettered c.args.file.now
is-lettered c =
    let s = starts_is Decides-eqb c.args.file.now (0x58 ∷ 0x4E ∷ 0x42 ∷ []) c.starts_with.result c.starts_with.ensures.value in
    is_spelled _ (le-leb _ _ c.if-file-gt16777216.false, le-leb _ _ c.if-file-lt10.false) (s.0 c.if-not-starts_with.false)

is-placed : (c : Else-not-is_platform) → Placed c.args.file.now
is-placed c =
    let s = starts_is Decides-eqb c.args.file.now (0x58 ∷ 0x4E ∷ 0x42 ∷ []) c.starts_with.result c.starts_with.ensures.value in
    let l = is_spelled _ (le-leb _ _ c.if-file-gt16777216.false, le-leb _ _ c.if-file-lt10.false) (s.0 c.if-not-starts_with.false) in
    (l, sym c.is_platform.ensures ∙ c.if-not-is_platform.false)

is-versioned : (c : Else-file-ne5) → Versioned c.args.file.now
is-versioned c =
    let s = starts_is Decides-eqb c.args.file.now (0x58 ∷ 0x4E ∷ 0x42 ∷ []) c.starts_with.result c.starts_with.ensures.value in
    let l = is_spelled _ (le-leb _ _ c.if-file-gt16777216.false, le-leb _ _ c.if-file-lt10.false) (s.0 c.if-not-starts_with.false) in
    let p : Placed c.args.file.now = (l, sym c.is_platform.ensures ∙ c.if-not-is_platform.false) in
    (p, eq-eqb _ _ c.if-file-ne5.false)

is-flagged : (c : Else-file-gt1) → Flagged c.args.file.now
is-flagged c =
    let s = starts_is Decides-eqb c.args.file.now (0x58 ∷ 0x4E ∷ 0x42 ∷ []) c.starts_with.result c.starts_with.ensures.value in
    let l = is_spelled _ (le-leb _ _ c.if-file-gt16777216.false, le-leb _ _ c.if-file-lt10.false) (s.0 c.if-not-starts_with.false) in
    let p : Placed c.args.file.now = (l, sym c.is_platform.ensures ∙ c.if-not-is_platform.false) in
    let v : Versioned c.args.file.now = (p, eq-eqb _ _ c.if-file-ne5.false) in
    (v, lt-ltb _ _ c.if-file-ge128.false, le-leb _ _ c.if-file-gt1.false)

pub returns-then-file-gt16777216 : goal.returns-then-file-gt16777216
returns-then-file-gt16777216 c = rw c.at.ensures (long _ c.if-file-gt16777216.true)

pub returns-then-file-lt10 : goal.returns-then-file-lt10
returns-then-file-lt10 c = rw c.at-then-file-lt10.ensures (short _ c.if-file-gt16777216.false c.if-file-lt10.true)

pub returns-then-not-starts_with : goal.returns-then-not-starts_with
returns-then-not-starts_with c =
    let s = starts_is Decides-eqb c.args.file.now (0x58 ∷ 0x4E ∷ 0x42 ∷ []) c.starts_with.result c.starts_with.ensures.value in
    rw c.at-then-not-starts_with.ensures (not_spelled _ (is-sized (goal.at.returns-then-not-starts_with c).Else-file-lt10) (λ e. differ (cc (s.1 (drop 3 c.args.file.now) (sym e), c.if-not-starts_with.true))))

pub returns-then-not-is_platform : goal.returns-then-not-is_platform
returns-then-not-is_platform c = rw c.at-then-not-is_platform.ensures (platform _ (is-lettered (goal.at.returns-then-not-is_platform c).Else-not-starts_with) (sym c.is_platform.ensures ∙ c.if-not-is_platform.true))

pub returns-then-file-ne5 : goal.returns-then-file-ne5
returns-then-file-ne5 c = rw c.at-then-file-ne5.ensures (version _ (is-placed (goal.at.returns-then-file-ne5 c).Else-not-is_platform) c.if-file-ne5.true)

pub returns-then-file-ge128 : goal.returns-then-file-ge128
returns-then-file-ge128 c = rw c.at-then-file-ge128.ensures (packed _ (is-versioned (goal.at.returns-then-file-ge128 c).Else-file-ne5) c.if-file-ge128.true)

pub returns-then-file-gt1 : goal.returns-then-file-gt1
returns-then-file-gt1 c = rw c.at-then-file-gt1.ensures (flagged _ (is-versioned (goal.at.returns-then-file-gt1 c).Else-file-ne5) c.if-file-ge128.false c.if-file-gt1.true)

pub returns-then-said_length-file : goal.returns-then-said_length-file
returns-then-said_length-file c = rw c.at-then-said_length-file.ensures (other_length _ (is-flagged (goal.at.returns-then-said_length-file c).Else-file-gt1) (λ q. c.if-said_length-file.true (c.said_length.ensures ∙ q)))

pub returns : goal.returns
returns c = whole _ (is-flagged (goal.at.returns c).Else-file-gt1) (sym c.said_length.ensures ∙ c.if-said_length-file.false)
